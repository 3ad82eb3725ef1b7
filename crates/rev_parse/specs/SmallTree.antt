-- When a tree that is parsed is small.
use Rattle.std.specs.Prelude.{ℕ, ◌≤◌, List, length}
use Rattle.rev_syntax.specs.Trees.{ProgramTree}
use Rattle.rev_syntax.specs.declared.token.Token.{Token}
use Rattle.rev_syntax.specs.Tokens.{IsTokens}
use Rattle.rev_syntax.specs.Small.{IsSmall}

-- how many bytes a text may have
abbrev pub most_bytes : ℕ
most_bytes = 1048576

-- The tree is small, where these are the tokens of the whole text and it has no more bytes than a text may have.
abbrev pub IsSmallTree : List ℕ → List Token → ProgramTree → Type 0
IsSmallTree bytes ts p = IsTokens bytes ts → length bytes ≤ most_bytes → IsSmall p
