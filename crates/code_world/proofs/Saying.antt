-- What a world has of the text of `main`.
use Rattle.std.proofs.Common.{◌≡◌, ◌∙◌, ◌<◌, ℕ, length, get_or, List, [], Some, sym, ap}
use Rattle.rev_code.specs.State.{State}
use Rattle.revision_machine.specs.Numbered.{Entries, World, at_number}
use Rattle.revision_machine.proofs.Lists.{at_there}
use Rattle.code_machine.specs.Local.{CodeRun, Local}
use Rattle.rev_vm.specs.Values.{runner_text}
use Rattle.rev_vm.proofs.Born.{runner_text_is}
use Rattle.code_world.specs.declared.slot.WorldSlot.{WorldSlot}
use Rattle.code_world.specs.declared.slot.WorldSlot.TheVariants as slot
use Rattle.code_world.specs.declared.table.Table.{Table}
use Rattle.code_world.specs.declared.world.World as rust
use Rattle.code_world.specs.declared.world.World.TheVariants as world
use Rattle.code_world.specs.Said.{main_text, slot_text}
use Rattle.code_world.specs.Slots.{WholeRunner, WholeJoin, Runs, StandsAtJoin}
use Rattle.code_world.specs.Starts.{IsAlone, IsFirst}
use Rattle.code_world.specs.Tables.{AreSlots, IsWorld}
use Rattle.code_world.proofs.Finding.{running_at, standing_at}
use Rattle.code_world.proofs.Worlds.{world_live}

pub runs_text : (g : CodeRun) (r : WholeRunner) (c : State ℕ) → Runs g r c → c.text ≡ runner_text r
runs_text g r c runs = runner_text_is g r c runs

pub stands_text : (g : CodeRun) (a : WholeJoin) (c : State ℕ) → StandsAtJoin g a c
    → c.text ≡ a.revision.value.run.text.items
stands_text g a c at = at.stands.stands.text

pub first_slot : (xs ys : List WorldSlot) (f s : WorldSlot) → ys ≡ xs → 0 < length ys → f ≡ get_or ys 0 f → f ≡ s
    → at_number xs 0 ≡ Some s
first_slot xs ys f s e less get is =
    ap (λ (z : List WorldSlot). at_number z 0) (sym e) ∙ at_there ys 0 f less
    ∙ ap (λ (z : WorldSlot). Some z) (sym get ∙ is)

module _ (g : CodeRun) (ss : List WorldSlot) (w : Entries (Local ℕ)) (h : AreSlots g ss w) (text : List ℕ) where
  pub running_said : (r : WholeRunner) → at_number ss 0 ≡ Some (slot.Running r)
      → ((x : CodeRun) (c : State ℕ) → Runs x r c → text ≡ c.text) → text ≡ slot_text (at_number ss 0)
  running_said r e says =
      let k = running_at g ss w h 0 r e in
      says g k.state k.runs ∙ runs_text g r k.state k.runs ∙ ap slot_text (sym e)

  pub standing_said : (a : WholeJoin) → at_number ss 0 ≡ Some (slot.Standing a)
      → ((x : CodeRun) (c : State ℕ) → StandsAtJoin x a c → text ≡ c.text) → text ≡ slot_text (at_number ss 0)
  standing_said a e says =
      let k = standing_at g ss w h 0 a e in
      says g k.at k.stands ∙ stands_text g a k.at k.stands ∙ ap slot_text (sym e)

module _ (g : CodeRun) (v : rust.World) (w : World (Local ℕ)) (is : IsWorld g v w) (text : List ℕ) where
  pub live_said : (t : Table) → v ≡ world.Live t
      → ((x : CodeRun) (u : Entries (Local ℕ)) → AreSlots x t.slots.items u
      → text ≡ slot_text (at_number t.slots.items 0))
      → text ≡ main_text v
  live_said t e says = let x = world_live g v w t e is in says g x.0 x.2.slots ∙ ap main_text (sym e)

-- at the start
pub first_silent : (g : CodeRun) (fuel : ℕ) (r : WholeRunner) → IsFirst g fuel r → (t : Table) → IsAlone r t
    → main_text (world.Live t) ≡ []
first_silent g fuel r f t a =
    ap (λ (ss : List WorldSlot). slot_text (at_number ss 0)) a.slots ∙ sym (runs_text g r _ f.runs)
