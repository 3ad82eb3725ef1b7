-- What stands in a value stays right while others make rounds.
use Rattle.std.proofs.Common.{◌≡◌, ℕ, Bool, true, false, List, [], ◌∷◌, length, refl, sym, ◌∙◌, subst, arith}
use Rattle.hub_core.specs.declared.status.Status.{Status}
use Rattle.hub_core.specs.declared.desk.Desk.{Desk}
use Rattle.hub_core.specs.HubMachine.{HubMachine}
use Rattle.hub_core.specs.Tally.{records_of, queue_of, Moves, Shadows, IsQueued, AreTracked}
use Rattle.hub_core.proofs.Moves.{shadows_moves, queued_moves, tracked_moves}

none_in : {A : Type 0} → (xs : List A) → length xs ≡ 0 → xs ≡ []
none_in [] e = refl
none_in (x ∷ xs) e = absurd (omega arith)

module _ {L R A E : Type 0} (d : HubMachine L R A E) where
  abbrev Slots : Type 0
  Slots = List (Status R A E)

  -- where a joiner waits for what has no record, no child is kept, and nothing has changed
  pub carried : (desk : Desk R A E) (s0 : Slots) (l0 : List ℕ) (s1 : Slots) (l1 : List ℕ)
      → Shadows (records_of desk) s0 l0 → IsQueued d (records_of desk) s0 (queue_of desk)
      → (desk.strays ≡ false → AreTracked d (records_of desk) s0) → (desk.strays ≡ true → desk.lent ≡ 0)
      → desk.lent ≡ length l0 → Moves s0 l0 s1 l1 → (l0 ≡ [] → s1 ≡ s0)
      → Shadows (records_of desk) s1 l1 × IsQueued d (records_of desk) s1 (queue_of desk)
      × (desk.strays ≡ false → AreTracked d (records_of desk) s1)
  carried desk s0 l0 s1 l1 shadows queued tracked strayed lent moves still = (
    shadows_moves (records_of desk) s0 l0 s1 l1 shadows moves,
    by desk.strays refl,
    λ z. tracked_moves d (records_of desk) s0 l0 s1 l1 moves (tracked z),
  )
    where
      by : (b : Bool) → desk.strays ≡ b → IsQueued d (records_of desk) s1 (queue_of desk)
      by false e = queued_moves d (records_of desk) s0 l0 s1 l1 (queue_of desk) shadows (tracked e) moves queued
      by true e =
          subst (λ s. IsQueued d (records_of desk) s (queue_of desk))
          (sym (still (none_in l0 (sym lent ∙ strayed e)))) queued
