-- A revision whose leg is known to end it.
use Rattle.std.proofs.Common.{◌≡◌, ◌∙◌, ℕ, List, Option, Some, None, refl, sym, ap, subst}
use Rattle.rev_num.specs.Path.{Path}
use Rattle.rev_num.proofs.Options.{none_some, some_eq}
use Rattle.rev_code.specs.State.{State}
use Rattle.revision_machine.specs.Machine.{Entry, Plain, Joined}
use Rattle.revision_machine.specs.Numbered.{Goes, Wants, Entries, Listing, at_number, put_number}
use Rattle.version_map.specs.declared.end.EndValue.{EndValue}
use Rattle.code_machine.specs.Local.{CodeRun, Local, at_work}
use Rattle.code_machine.specs.Machines.{numbered}
use Rattle.code_world.specs.declared.answer.LegAnswer.{LegAnswer}
use Rattle.code_world.specs.declared.slot.WorldSlot.{WorldSlot}
use Rattle.code_world.specs.declared.slot.WorldSlot.TheVariants as slot
use Rattle.code_world.specs.declared.table.Table.{Table}
use Rattle.code_world.specs.declared.world.World as rust
use Rattle.code_world.specs.Adopted.{EndsSo}
use Rattle.code_world.specs.Answers.{Answers, LegAnswers, world_after}
use Rattle.code_world.specs.LegOutcomes.{HasEnded}
use Rattle.code_world.specs.Slots.{WholeRunner, IsSlot, IsEntry}
use Rattle.code_world.specs.Tables.{AreSlots, IsTable}
use Rattle.code_world.specs.Turns.{IsGood, ends_with}
use Rattle.code_world.proofs.Ended.{plain_same}
use Rattle.code_world.proofs.Finding.{stands_wants}
use Rattle.code_world.proofs.Rows.{slot_at, slot_none}
use Rattle.code_world.proofs.Turning.{runner, ends_so}
use Rattle.code_world.proofs.Worlds.{in_world}

-- what a table has of an unmarked revision of its world
pub record SlotOf (g : CodeRun) (ss : List WorldSlot) (n : ℕ) (l : Local ℕ) : Type 0 where
  pub slot : WorldSlot
  pub there : at_number ss n ≡ Some slot
  pub is : IsSlot g slot l

pub slot_of : (g : CodeRun) (ss : List WorldSlot) (w : Entries (Local ℕ)) → AreSlots g ss w
    → (n : ℕ) (r : Path) (l : Local ℕ) → at_number w n ≡ Some (r, Plain l) → SlotOf g ss n l
slot_of g ss w h n r l there = by (at_number ss n) refl
  where
    same : (q : Path) (e : Entry (Local ℕ)) (s : WorldSlot) → at_number w n ≡ Some (q, e) → IsEntry g s e → IsSlot g s l
    same q (Plain k) s at is = subst (IsSlot g s) (plain_same (at_number w n) r q l k there at) is
    same q (Joined k) s at is =
        absurd (let z : Some (q, Joined k) ≡ Some (r, Plain l) = sym at ∙ there in
        let y : ◌≡◌ {A = Path × Entry (Local ℕ)} (q, Joined k) (r, Plain l) = some_eq z in
        let x : Joined k ≡ Plain l = ap (λ (p : Path × Entry (Local ℕ)). p.1) y in
        cc)

    by : (o : Option WorldSlot) → at_number ss n ≡ o → SlotOf g ss n l
    by None e = none_some (sym (slot_none g ss w h n e) ∙ there)
    by (Some s) e = let x = slot_at g ss w h n s e in record { slot = s; there = e; is = same x.0 x.1 s x.2 x.3 }

-- the revision is a running one
pub ends_running : (g : CodeRun) (t : Table) (w : Entries (Local ℕ)) (n : ℕ) (v : EndValue) → IsTable g t w
    → EndsSo g w n v → (r : WholeRunner) × (at_number t.slots.items n ≡ Some (slot.Running r))
ends_running g t w n v is e =
    let x = slot_of g t.slots.items w is.slots n e.path (at_work e.state) e.there in by x.slot x.there x.is
  where
    by : (s : WorldSlot) → at_number t.slots.items n ≡ Some s → IsSlot g s (at_work e.state)
        → (r : WholeRunner) × (at_number t.slots.items n ≡ Some (slot.Running r))
    by (slot.Running r) there k = (r, there)
    by (slot.Standing a) there (c, same, c', comes, stands) =
        absurd (let z : Wants a.on ≡ Goes e.ends.after =
        sym (ap (numbered g).next same ∙ stands_wants g c c' a.is_try a.on comes) ∙ e.ends.goes in
        cc)
    by (slot.Ended u) there k = absurd k.phase
    by (slot.Joined u) there k = absurd k
    by slot.Taken there k = absurd k

-- one revision ends in one way
ends_there : (g : CodeRun) (w : Entries (Local ℕ)) (n : ℕ) (v : EndValue) (e : EndsSo g w n v) (p : Path) (c : State ℕ)
    → at_number w n ≡ Some (p, Plain (at_work c)) → HasEnded g c v
ends_there g w n v e p c there =
    let same : at_work c ≡ at_work e.state =
    plain_same (at_number w n) e.path p (at_work e.state) (at_work c) e.there there in
    subst (λ d. HasEnded g d v) (sym (ap (λ (l : Local ℕ). l.state) same)) e.ends

pub adopted : (g : CodeRun) (t : Table) (w : Entries (Local ℕ)) (h : IsGood g t w) (n : ℕ) (v : EndValue)
    → EndsSo g w n v → (r : WholeRunner) → at_number t.slots.items n ≡ Some (slot.Running r)
    → (t' : Table) → t'.slots.items ≡ put_number (put_number t.slots.items n slot.Taken) n (slot.Ended v)
    → t'.births ≡ t.births → Answers g w n (ends_with v.finish) t'
adopted g t w h n v e r at t' slots births =
    let k = runner g t w h n r at in
    ends_so g t w h n r at v (ends_there g w n v e k.path k.state k.there) t' slots births

pub live_answers : (g : CodeRun) (w : Entries (Local ℕ)) (n : ℕ) (a : LegAnswer) (t : Table) → Answers g w n a t
    → (v : rust.World) → v ≡ world_after t a → LegAnswers g (Listing w) n a v
live_answers g w n a t h v is = subst (LegAnswers g (Listing w) n a) (sym is) (in_world g w n a t h)
