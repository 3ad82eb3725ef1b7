-- Lines and columns. Only a line feed ends a line, and columns count bytes.
use Rattle.std.specs.Prelude.{ℕ, ◌+◌, ◌==◌, List, take}
use Rattle.std.specs.List.{count_by, suffix_len}
use Rattle.rev_syntax.specs.Bytes.{is_no_line_feed}

-- one more than the line feeds before the offset
abbrev pub line_of : List ℕ → ℕ → ℕ
line_of s at = 1 + count_by (λ b. b == 10) (take at s)

-- one more than the bytes between the offset and the last line feed before it, or the start
abbrev pub column_of : List ℕ → ℕ → ℕ
column_of s at = 1 + suffix_len is_no_line_feed (take at s)
