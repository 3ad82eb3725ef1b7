-- Answers of emit_expression: what the task of a whole expression comes to is its code behind what was written.
use Rattle.std.proofs.Common.{◌∙◌, ap, arith, length}
use Rattle.rev_syntax.specs.View.{expression}
use Rattle.emit_code.specs.Naming.{numbers_of}
use Rattle.emit_code.proofs.Forms.{whole-code, whole-length}
use Rattle.emit_code.proofs.emit.emit_expression.Goals as goal

pub work-requires : goal.work-requires
work-requires c =
    let n = numbers_of c.args.known.now.numbers.now in let s = c.args.known.now.scope.now in
    let l = whole-length n s (expression c.args.e.now) c.args.code.now.items in
    let r = c.requires in
    omega (arith, l, r)

pub returns-clause-code : goal.returns-clause-code
returns-clause-code c =
    let n = numbers_of c.args.known.now.numbers.now in let s = c.args.known.now.scope.now in
    c.in_ok-work.ensures ∙ whole-code n s (expression c.args.e.now) c.args.code.now.items

pub returns-clause-long : goal.returns-clause-long
returns-clause-long c =
    let n = numbers_of c.args.known.now.numbers.now in let s = c.args.known.now.scope.now in
    ap length c.in_ok-work.ensures ∙ whole-length n s (expression c.args.e.now) c.args.code.now.items
