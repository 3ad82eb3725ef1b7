-- Kernels in a list, each as the expression of its definition.
--   IsFirst     the least place of this definition
--   IsNowhere   no kernel has this definition
use Rattle.std.specs.Prelude.{◌≡◌, ◌≢◌, ◌<◌, ℕ, List, Some, slice_get}
use Rattle.rev_syntax.specs.Trees.{Expression}

abbrev pub IsFirst : List Expression → Expression → ℕ → Type 0
IsFirst kernels e n =
    (slice_get kernels n ≡ Some e) × ((i : ℕ) → i < n → slice_get kernels i ≢ Some e)

abbrev pub IsNowhere : List Expression → Expression → Type 0
IsNowhere kernels e = (i : ℕ) → slice_get kernels i ≢ Some e
