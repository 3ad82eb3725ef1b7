-- Answers of otherwise: the jump over the last part and the patched test make the code of a pick so far.
use Rattle.std.proofs.Common.{◌∙◌}
use Rattle.rev_syntax.specs.View.{expression}
use Rattle.emit_code.specs.Naming.{numbers_of}
use Rattle.emit_code.proofs.Forms.{otherwise_written}
use Rattle.emit_code.proofs.turns.otherwise.Goals as goal

pub returns-clause-meaning : goal.returns-clause-meaning
returns-clause-meaning c =
    let n = numbers_of c.args.known.now.numbers.now in let s = c.args.known.now.scope.now in
    otherwise_written n s c.args.test (expression c.args.no.now) c.args.code.now.items c.put.new.code.items
    c.patch.new.code.items c.len-end.result c.here-to.result
    (c.len-end.ensures ∙ c.args.code.now.ok.0) c.in_ok-put.ensures c.here-to.ensures c.patch.ensures
