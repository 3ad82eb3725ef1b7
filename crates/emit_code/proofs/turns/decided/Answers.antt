-- Answers of decided: the jump, the constant and the patched test make the code of a right operand left out.
use Rattle.std.proofs.Common.{ap}
use Rattle.rev_syntax.specs.View.{links}
use Rattle.emit_code.specs.Naming.{numbers_of}
use Rattle.emit_code.specs.Work.{linked}
use Rattle.emit_code.proofs.Forms.{decided_written}
use Rattle.emit_code.proofs.turns.decided.Goals as goal

pub returns-clause-meaning : goal.returns-clause-meaning
returns-clause-meaning c =
    let n = numbers_of c.args.known.now.numbers.now in let s = c.args.known.now.scope.now in
    ap (λ l. linked n s (links c.args.rest.now) l)
    (decided_written n s c.args.test c.args.by c.args.code.now.items c.put.new.code.items c.put-2.new.code.items
    c.patch.new.code.items c.here-end.result c.here-to.result c.decides.result
    c.here-end.ensures c.in_ok-put.ensures c.here-to.ensures c.in_ok-put-2.ensures c.decides.ensures c.patch.ensures)
