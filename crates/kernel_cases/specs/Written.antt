-- Written locations that are numbered from 0 on.
use Rattle.std.specs.Prelude.{◌≡◌, ℕ, List, Some, slice_get}
use Rattle.version_map.specs.declared.end.Written.{Written}

abbrev pub AreNumbered : List Written → Type 0
AreNumbered ws = (i : ℕ) (w : Written) → slice_get ws i ≡ Some w → w.location ≡ i
