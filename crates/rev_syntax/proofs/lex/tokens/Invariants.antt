-- Loops of tokens: the text up to this place is cut into the tokens so far.
use Rattle.std.proofs.Common.{length, ◌-◌, drop}
use Rattle.rev_syntax.specs.Tokens.{CutTo}
use Rattle.rev_syntax.proofs.lex.tokens.Given as goal

abbrev pub invariant-loop-at : goal.invariant-loop-at
invariant-loop-at l = CutTo l.bytes l.at (drop l.at l.bytes) l.tokens.items

abbrev pub decreases-loop-at : goal.decreases-loop-at
decreases-loop-at l = length l.bytes - l.at
