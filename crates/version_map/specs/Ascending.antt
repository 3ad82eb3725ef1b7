-- The order in which written locations stand.
--   IsAscending   in ascending order of location, so each location once
use Rattle.std.specs.Prelude.{◌≡◌, ◌<◌, ℕ, List, Some, slice_get}
use Rattle.version_map.specs.declared.end.Written.{Written}

abbrev pub IsAscending : List Written → Type 0
IsAscending ws = (i j : ℕ) (v w : Written)
    → i < j → slice_get ws i ≡ Some v → slice_get ws j ≡ Some w → v.location < w.location
