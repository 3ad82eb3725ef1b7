-- What a list of statuses leaves: the runners and joiners that no seat has.
use Rattle.std.specs.Prelude.{List, [], ◌∷◌, Option, Some, None}
use Rattle.hub_core.specs.declared.status.Status.{Status}
use Rattle.hub_core.specs.declared.status.Status.TheVariants.{Ready, Out, Waiting, Over, Gone}
use Rattle.hub_core.specs.declared.kept.Kept.{Kept}
use Rattle.hub_core.specs.declared.kept.Kept.TheVariants as left

module _ {R A E : Type 0} where
  abbrev pub self_kept : Status R A E → Option (Kept R A)
  self_kept (Ready r) = Some (left.Run r)
  self_kept Out = None
  self_kept (Waiting a) = Some (left.Join a)
  self_kept (Over e) = None
  self_kept Gone = None

  abbrev pub kept_of : List (Status R A E) → List (Kept R A)
  kept_of [] = []
  kept_of (Ready r ∷ slots) = left.Run r ∷ kept_of slots
  kept_of (Out ∷ slots) = kept_of slots
  kept_of (Waiting a ∷ slots) = left.Join a ∷ kept_of slots
  kept_of (Over e ∷ slots) = kept_of slots
  kept_of (Gone ∷ slots) = kept_of slots
