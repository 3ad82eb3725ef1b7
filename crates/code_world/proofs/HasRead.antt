-- What is noted of a leg of a revision of a table.
use Rattle.std.proofs.Common.{◌≡◌, ◌≢◌, ℕ, Option, Some, None, refl, sym, ap, subst}
use Rattle.rev_num.specs.Path.{Path}
use Rattle.rev_code.specs.State.{State}
use Rattle.revision_machine.specs.Machine.{Plain}
use Rattle.revision_machine.specs.Numbered.{Entries, World, Both, Listing, at_number}
use Rattle.code_machine.specs.Local.{CodeRun, IsVerified, Local, at_work}
use Rattle.code_machine_laws.specs.LegReads.{leg_reads}
use Rattle.code_machine_laws.specs.Reached.{IsReached}
use Rattle.block_run.specs.declared.notes.ReadMarks.{ReadMarks}
use Rattle.leg_run.specs.Marks.{marks_of, HasMarked}
use Rattle.code_world.specs.declared.slot.WorldSlot.{WorldSlot}
use Rattle.code_world.specs.declared.slot.WorldSlot.TheVariants as slot
use Rattle.code_world.specs.declared.table.Stage.{Stage}
use Rattle.code_world.specs.declared.table.Stage.TheVariants as stage
use Rattle.code_world.specs.declared.table.Table.{Table}
use Rattle.code_world.specs.declared.world.World as rust
use Rattle.code_world.specs.declared.world.World.TheVariants as world
use Rattle.code_world.specs.Between.{HasRead, HasReadOf, HasReadIn}
use Rattle.code_world.specs.Slots.{WholeRunner}
use Rattle.code_world.specs.Tables.{IsWorld}
use Rattle.code_world.specs.Turns.{IsGood, IsStage}
use Rattle.code_world.proofs.Ended.{plain_same}
use Rattle.code_world.proofs.Worlds.{world_live}

pub read_there : (g : CodeRun) (w : Entries (Local ℕ)) (n : ℕ) (p : Path) (c : State ℕ)
    → at_number w n ≡ Some (p, Plain (at_work c)) → (old new : ReadMarks) → HasMarked old new (marks_of (leg_reads g c))
    → HasRead g w n old new
read_there g w n p c there old new h q d also =
    let same = plain_same (at_number w n) p q (at_work c) (at_work d) there also in
    subst (λ e. HasMarked old new (marks_of (leg_reads g e))) (sym (ap (λ (l : Local ℕ). l.state) same)) h

pub read_running : (g : CodeRun) (w : Entries (Local ℕ)) (n : ℕ) (o : Option WorldSlot) (r : WholeRunner)
    → o ≡ Some (slot.Running r) → (old new : ReadMarks) → HasRead g w n old new → HasReadOf g o w n old new
read_running g w n o r is old new h = subst (λ z. HasReadOf g z w n old new) (sym is) h

-- of one that does not run nothing is noted
pub not_read : (g : CodeRun) (w : Entries (Local ℕ)) (n : ℕ) (o : Option WorldSlot) (st : Stage) → IsStage o st
    → st ≢ stage.Running → (x : ReadMarks) → HasReadOf g o w n x x
not_read g w n None st h other x = refl
not_read g w n (Some (slot.Running r)) st h other x = absurd (other h)
not_read g w n (Some (slot.Standing a)) st h other x = refl
not_read g w n (Some (slot.Ended v)) st h other x = refl
not_read g w n (Some (slot.Joined v)) st h other x = refl
not_read g w n (Some slot.Taken) st h other x = refl

-- of a world
pub read_in : (g : CodeRun) (v : rust.World) (w : World (Local ℕ)) (t : Table) → v ≡ world.Live t → IsReached g w
    → IsWorld g v w → IsVerified g → (n : ℕ) (old new : ReadMarks)
    → ((x : Entries (Local ℕ)) → IsGood g t x → HasReadOf g (at_number t.slots.items n) x n old new)
    → HasReadIn g v w n old new
read_in g v w t e reached is ok n old new all =
    let k = world_live g v w t e is in
    subst (λ z. HasReadIn g z w n old new) (sym e)
    (subst (λ z. HasReadIn g (world.Live t) z n old new) (sym k.1)
    (all k.0 (record { verified = ok; reached = subst (IsReached g) k.1 reached; table = k.2 })))

pub read_twice : (g : CodeRun) (v : rust.World) (w : World (Local ℕ)) → v ≡ world.Twice → (n : ℕ) (x : ReadMarks)
    → HasReadIn g v w n x x
read_twice g v w e n x = subst (λ z. HasReadIn g z w n x x) (sym e) (by w)
  where
    by : (w : World (Local ℕ)) → HasReadIn g world.Twice w n x x
    by Both = refl
    by (Listing y) = refl
