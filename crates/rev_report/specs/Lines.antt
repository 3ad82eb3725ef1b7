-- Lines of what is written.
use Rattle.std.specs.Prelude.{ℕ, List, [], ◌∷◌, ◌++◌}

abbrev pub space : ℕ
space = 32

abbrev pub line_feed : ℕ
line_feed = 10

-- a line of these bytes
abbrev pub with_line_feed : List ℕ → List ℕ
with_line_feed bytes = bytes ++ line_feed ∷ []
