-- The box that lies in the one slot of a seat with the turn.
use Rattle.std.proofs.Common.{◌≡◌, ℕ, List, [], ◌∷◌, sym, ap, ◌∙◌}
use Rattle.std.specs.Global.{Box}
use Rattle.hub_core.specs.declared.desk.Desk.{Desk}
use Rattle.hub_core.specs.declared.desk.DeskSlot.{DeskSlot}
use Rattle.hub_core.specs.declared.desk.DeskSlot.TheVariants.{Home, Away, Told}

module _ {R A E : Type 0} where
  abbrev home_or : Box (Desk R A E) → DeskSlot R A E → Box (Desk R A E)
  home_or d (Home box) = box
  home_or d Away = d
  home_or d (Told i k) = d

  pub home_is : (a b : Box (Desk R A E)) → Home a ≡ Home b → a ≡ b
  home_is a b e = ap (home_or a) e

  abbrev held_or : Box (Desk R A E) → List (ℕ × DeskSlot R A E) → Box (Desk R A E)
  held_or d [] = d
  held_or d (x ∷ xs) = home_or d x.1

  pub same_box : (l : List (ℕ × DeskSlot R A E)) (a b : Box (Desk R A E)) → l ≡ (0, Home a) ∷ [] → l ≡ (0, Home b) ∷ []
      → a ≡ b
  same_box l a b e f = ap (held_or a) (sym e ∙ f)
