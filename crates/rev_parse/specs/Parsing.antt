-- What the parser answers of a text's tokens.
use Rattle.std.specs.Prelude.{ℕ, List, Result, Ok, Err, ⊤}
use Rattle.rev_syntax.specs.View.{program as view}
use Rattle.rev_syntax.specs.declared.tree.Program.{Program}
use Rattle.rev_syntax.specs.declared.token.Token.{Token}
use Rattle.rev_parse.specs.SmallTree.{IsSmallTree}
use Rattle.rev_parse.specs.Verdicts.{tree, unexpected, too_deep, IsVerdict}
use Rattle.rev_parse.specs.declared.whole.SyntaxFault.{SyntaxFault}
use Rattle.rev_parse.specs.declared.whole.SyntaxFault.TheVariants as f

-- the answer is the verdict, and the tree of a text that is not too long is small
abbrev pub Parses : List ℕ → List Token → Result Program SyntaxFault → Type 0
Parses bytes ts (Ok p) = IsVerdict bytes ts (tree (view p)) × IsSmallTree bytes ts (view p)
Parses bytes ts (Err (f.Unexpected at)) = IsVerdict bytes ts (unexpected at)
Parses bytes ts (Err (f.TooDeep at)) = IsVerdict bytes ts (too_deep at)
Parses bytes ts (Err f.OutOfMemory) = ⊤
