-- Answers of emit_let: the code of a binding does not hang on its name, so it is that under the placed name too.
use Rattle.std.proofs.Common.{rules}
use Rattle.rev_syntax.specs.View.{placed_name}
use Rattle.emit_code.proofs.blocks.emit_let.Goals as goal

-- its name may be any, so also this one
pub returns-clause-code : goal.returns-clause-code
returns-clause-code c = let h = c.in_ok-emit_bind.ensures (placed_name c.args.name.now) in search (rules, h)
