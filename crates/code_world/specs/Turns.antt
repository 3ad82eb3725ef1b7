-- Where a revision of a table is, and a leg of it.
--   IsStage      how far it is
--   born         the births with a child of this revision
--   IsGood       the table stands for a world that a legal schedule reaches, of verified code
--   StandsOn     a revision stands at its join of another
--   Settles      and that has ended
--   ends_with    how a leg comes out that ends so
--   behind       how one comes out that joined this revision
use Rattle.std.specs.Prelude.{ℕ, ◌≡◌, ◌+◌, List, [], ◌∷◌, ◌++◌, Option, Some, None}
use Rattle.version_map.specs.declared.end.EndValue.{EndValue}
use Rattle.version_map.specs.declared.end.Finish.{Finish}
use Rattle.version_map.specs.declared.end.Finish.TheVariants as finish
use Rattle.revision_machine.specs.Numbered.{Entries, Listing, at_number, put_number}
use Rattle.code_machine.specs.Local.{CodeRun, IsVerified, Local}
use Rattle.code_machine_laws.specs.Reached.{IsReached}
use Rattle.code_world.specs.declared.answer.LegAnswer.{LegAnswer}
use Rattle.code_world.specs.declared.answer.LegAnswer.TheVariants as answer
use Rattle.code_world.specs.declared.slot.WorldSlot.{WorldSlot}
use Rattle.code_world.specs.declared.slot.WorldSlot.TheVariants as slot
use Rattle.code_world.specs.declared.table.Birth.{Birth}
use Rattle.code_world.specs.declared.table.Stage.{Stage}
use Rattle.code_world.specs.declared.table.Stage.TheVariants as stage
use Rattle.code_world.specs.declared.table.Table.{Table}
use Rattle.code_world.specs.Slots.{WholeJoin}
use Rattle.code_world.specs.Tables.{IsTable}

abbrev pub IsStage : Option WorldSlot → Stage → Type 0
IsStage None s = s ≡ stage.NoSuch
IsStage (Some slot.Taken) s = s ≡ stage.NoSuch
IsStage (Some (slot.Running r)) s = s ≡ stage.Running
IsStage (Some (slot.Standing a)) s = s ≡ stage.Standing a.on
IsStage (Some (slot.Ended v)) s = s ≡ stage.Ended
IsStage (Some (slot.Joined v)) s = s ≡ stage.Joined

-- the birth of a revision that has forked once more
abbrev pub forked_once : Birth → Birth
forked_once b = record b { forks = b.forks + 1 }

abbrev pub born : List Birth → ℕ → Birth → List Birth
born bs n b =
    put_number bs n (forked_once b) ++ record { forker = n; place = b.forks; forks = 0 } ∷ []

pub record IsGood (g : CodeRun) (t : Table) (w : Entries (Local ℕ)) : Type 0 where
  pub verified : IsVerified g
  pub reached : IsReached g (Listing w)
  pub table : IsTable g t w

abbrev pub StandsOn : Table → ℕ → ℕ → Type 0
StandsOn t n on =
    (a : WholeJoin) × (at_number t.slots.items n ≡ Some (slot.Standing a)) × (a.on ≡ on)

abbrev pub Settles : Table → ℕ → ℕ → Type 0
Settles t n on = StandsOn t n on × (v : EndValue) × (at_number t.slots.items on ≡ Some (slot.Ended v))

abbrev pub ends_with : Finish → LegAnswer
ends_with finish.Done = answer.Ended
ends_with (finish.Trapped t) = answer.Trapped

abbrev pub behind : WorldSlot → ℕ → LegAnswer
behind (slot.Running r) on = answer.Joined on
behind (slot.Standing a) on = answer.Trapped
behind (slot.Ended v) on = answer.Trapped
behind (slot.Joined v) on = answer.Trapped
behind slot.Taken on = answer.Trapped
