-- What a revision printed, in pieces.
use Rattle.std.specs.Prelude.{ℕ, List}
use Rattle.std.specs.List.{flat_map}

-- the bytes of these pieces, one piece after another
abbrev pub all_bytes : List (List ℕ) → List ℕ
all_bytes pieces = flat_map (λ p. p) pieces
