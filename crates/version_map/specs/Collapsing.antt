-- What a snapshot tells of its collapses.
--   HasCollapsed   its last call other than `read` was a collapse that answered Kept or Base
use Rattle.std.specs.Prelude.{◌≢◌}
use Rattle.version_map.specs.declared.snapshot.Collapsed.{Collapsed}
use Rattle.version_map.specs.declared.snapshot.Collapsed.TheVariants as collapsed

abbrev pub HasCollapsed : {S : Type 0} → (answered : S → Collapsed → Type 0) → S → Type 0
HasCollapsed answered s = (c : Collapsed) × (c ≢ collapsed.Took) × answered s c
