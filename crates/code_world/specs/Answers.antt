-- How a leg of a reached world comes out, and the world that it leaves.
--   Leaves        the revision has a leg, and the table stands for the world after it
--   IsInPhase     a revision that is not marked, in this phase
--   HasStopped    a revision has ended, with or without the mark
--   Answers       the answer, where the world is no Twice: what each says of the leg
--   world_after   the world then
--   LegAnswers    the answer in every world
use Rattle.std.specs.Prelude.{ℕ, suc, ◌≡◌, length, Some, None}
use Rattle.rev_num.specs.Path.{Path}
use Rattle.revision_machine.specs.Machine.{Entry, Plain}
use Rattle.revision_machine.specs.Laws.{local_of}
use Rattle.revision_machine.specs.Numbered as numbers
use Rattle.revision_machine.specs.Numbered.{Bears, Stops, Entries, World, Both, Listing, at_number}
use Rattle.code_machine.specs.Local.{CodeRun, Local, Phase, running, done, trapped, Trap}
use Rattle.code_machine.specs.Machines.{numbered}
use Rattle.code_machine.specs.Worlds.{Joins, WaitsOn}
use Rattle.code_world.specs.declared.answer.LegAnswer.{LegAnswer}
use Rattle.code_world.specs.declared.answer.LegAnswer.TheVariants as answer
use Rattle.code_world.specs.declared.table.Table.{Table}
use Rattle.code_world.specs.declared.world.World as rust
use Rattle.code_world.specs.declared.world.World.TheVariants as world
use Rattle.code_world.specs.Tables.{IsTable}
use Rattle.code_world.specs.Turns.{StandsOn}

pub record Leaves (g : CodeRun) (w : Entries (Local ℕ)) (n : ℕ) (t : Table) (u : Entries (Local ℕ)) : Type 0 where
  pub leg : numbers.leg (numbered g) (Listing w) n ≡ Some (Listing u)
  pub table : IsTable g t u

abbrev pub IsInPhase : Entries (Local ℕ) → ℕ → Phase ℕ → Type 0
IsInPhase w n p = (r : Path) × (l : Local ℕ) × (at_number w n ≡ Some (r, Plain l)) × (l.phase ≡ p)

-- the revision's next event is a fork
abbrev pub Forks : CodeRun → Entries (Local ℕ) → ℕ → Type 0
Forks g w n =
    (r : Path) × (l : Local ℕ) × (f : ℕ → Local ℕ) × (k : Local ℕ)
    × (at_number w n ≡ Some (r, Plain l)) × ((numbered g).next l ≡ Bears f k)

abbrev pub HasStopped : CodeRun → Entries (Local ℕ) → ℕ → Type 0
HasStopped g w n =
    (r : Path) × (e : Entry (Local ℕ)) × (at_number w n ≡ Some (r, e))
    × ((numbered g).next (local_of e) ≡ Stops)

abbrev pub Answers : CodeRun → Entries (Local ℕ) → ℕ → LegAnswer → Table → Type 0
Answers g w n (answer.Forked child) t =
    (u : Entries (Local ℕ)) × Leaves g w n t u × Forks g w n × (child ≡ length w)
    × IsInPhase u n running × (length u ≡ suc (length w))
Answers g w n (answer.Joined on) t =
    (u : Entries (Local ℕ)) × Leaves g w n t u × Joins (numbered g) w n on × IsInPhase u n running
    × (length u ≡ length w)
Answers g w n answer.Ended t =
    (u : Entries (Local ℕ)) × Leaves g w n t u × IsInPhase u n done × (length u ≡ length w)
Answers g w n answer.Trapped t =
    (u : Entries (Local ℕ)) × Leaves g w n t u × (e : Trap ℕ) × IsInPhase u n (trapped e)
    × (length u ≡ length w)
Answers g w n (answer.Waits on) t = WaitsOn g w n on × IsTable g t w × StandsOn t n on
Answers g w n answer.Twice t = numbers.leg (numbered g) (Listing w) n ≡ Some Both
Answers g w n answer.NoSuch t = (at_number w n ≡ None) × IsTable g t w
Answers g w n answer.Over t = HasStopped g w n × IsTable g t w

-- the world of a table after a leg that came out so
abbrev pub world_after : Table → LegAnswer → rust.World
world_after t answer.Twice = world.Twice
world_after t _ = world.Live t

-- the answer is Twice exactly where the world after it is
abbrev pub LegAnswers : CodeRun → World (Local ℕ) → ℕ → LegAnswer → rust.World → Type 0
LegAnswers g Both n a v = (a ≡ answer.Twice) × (v ≡ world.Twice)
LegAnswers g (Listing w) n answer.Twice v =
    (numbers.leg (numbered g) (Listing w) n ≡ Some Both) × (v ≡ world.Twice)
LegAnswers g (Listing w) n a v = (t : Table) × (v ≡ world.Live t) × Answers g w n a t
