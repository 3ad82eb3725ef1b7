-- Lists of seats of one hub.
use Rattle.std.proofs.Common.{◌≡◌, ◌<◌, ℕ, Bool, cond, List, [], ◌∷◌, ◌++◌, take, length, All, Option, sym, ap, ◌∙◌, arith, eq-eqb}
use Rattle.std.specs.List.{AllByRecursion}
use Rattle.std.proofs.Math.Seq.{take-append_seam}
use Rattle.std.proofs.lemmas.List.Elements.{All-from_recursion, All-head, All-tail}
use Rattle.turn_hub.specs.declared.hub.TurnHub.{TurnHub}
use Rattle.hub_core.specs.declared.revision.Revision.{Ghosts}
use Rattle.turn_hub.specs.declared.seat.HubSeat.{HubSeat}
use Rattle.turn_hub.specs.Closing.{saw_of}
use Rattle.turn_hub.specs.Names.{IsSeatOf, AreSeatsOf, view_of, began, places}
use Rattle.turn_hub.specs.Seats.{AreNew}
use Rattle.hub_workers.specs.Running.{IsSeatFor}

module _ {M S R A E C P : Type 0} {g : Ghosts M S R A E C P} where
  -- it knows that all is over
  abbrev pub Saw : TurnHub M S R A E C P → HubSeat M S R A E C P g → Type 0
  Saw hub s = IsSeatOf hub s × ((view_of s).saw ≡ 1)

  pub seats_are :
      (hub : TurnHub M S R A E C P) (xs : List (HubSeat M S R A E C P g)) → All (Saw hub) xs
      → AreSeatsOf hub xs
  seats_are hub [] all = tt
  seats_are hub (x ∷ xs) all =
      ((All-head (Saw hub) x xs all).0, seats_are hub xs (All-tail (Saw hub) x xs all))

  pub one_saw :
      (hub : TurnHub M S R A E C P) (xs : List (HubSeat M S R A E C P g)) → All (Saw hub) xs
      → 0 < length xs → saw_of (places xs) ≡ 1
  one_saw hub [] all some = absurd (omega arith)
  one_saw hub (x ∷ xs) all some =
      ap (λ (c : Bool). cond c 1 (saw_of (places xs)))
      (eq-eqb (view_of x).saw 1 (All-head (Saw hub) x xs all).1)

  new_ones :
      (hub : TurnHub M S R A E C P) (start : Option S) (group : List ℕ)
      (xs : List (HubSeat M S R A E C P g)) → (began hub).start ≡ start
      → (began hub).group ≡ group → AreSeatsOf hub xs → AreNew start group (places xs)
      → AllByRecursion (IsSeatFor hub) xs
  new_ones hub start group [] s g own new = tt
  new_ones hub start group (x ∷ xs) s g own new =
      ((own.0, new.0 ∙ sym s, new.1 ∙ sym g), new_ones hub start group xs s g own.1 new.5)

  pub all_new :
      (hub : TurnHub M S R A E C P) (start : Option S) (group : List ℕ)
      (xs : List (HubSeat M S R A E C P g)) → (began hub).start ≡ start
      → (began hub).group ≡ group → AreSeatsOf hub xs → AreNew start group (places xs)
      → All (IsSeatFor hub) xs
  all_new hub start group xs s g own new =
      All-from_recursion (IsSeatFor hub) xs (new_ones hub start group xs s g own new)

pub written_whole :
    {X : Type 0} → (n : ℕ) (xs ys : List X) → n ≡ length xs → take n (xs ++ ys) ≡ xs
written_whole n xs ys e = ap (λ m. take m (xs ++ ys)) e ∙ take-append_seam xs ys
