-- A hold with words of its own.
use Rattle.std.specs.Prelude.{◌≡◌, ℕ, ◌+◌, ◌<◌, List, slice_index, vec_len, Option, None, Some}
use Rattle.std.specs.Prelude.{IfSome, IfNone}
use Rattle.std.specs.declared.vec.Vec.{Vec}
use Rattle.std.specs.declared.alloc.Global.{Global}
use Rattle.version_map.specs.declared.delta.Delta.{Delta}
use Rattle.version_map.specs.Deltas.{at}
use Rattle.version_map.specs.Overlay.{word_or}

-- the words below the chain
abbrev pub root_in : Vec ℕ Global → Option (Vec ℕ Global) → List ℕ
root_in initial None = initial.items
root_in initial (Some ws) = ws.items

-- one word for each location, and no chain
abbrev pub IsOwn : ℕ → ℕ → ℕ → Option (Vec ℕ Global) → Type 0
IsOwn stride masks first own = (ws : Vec ℕ Global) → own ≡ Some ws
    → (2 + masks + vec_len ws ≡ stride) × (first ≡ 0)

-- with words of its own: the delta has a value for each location, that of the words where it had
-- none; without them it is as before
abbrev pub IsComplete : Option (Vec ℕ Global) → Delta → Delta → Type 0
IsComplete own old new = IfNone own (new ≡ old)
    × IfSome own (λ ws. (l : ℕ) → l < vec_len ws
    → at new l ≡ Some (word_or (slice_index ws.items l) (at old l)))
