-- Answers of emit_arguments: what the task of arguments comes to is their code behind what was written, of its size.
use Rattle.std.proofs.Common.{◌∙◌, ap, arith, length}
use Rattle.rev_syntax.specs.View.{expressions}
use Rattle.emit_code.specs.Naming.{numbers_of}
use Rattle.emit_code.proofs.Forms.{arguments-code, arguments-length}
use Rattle.emit_code.proofs.emit.emit_arguments.Goals as goal

pub work-requires : goal.work-requires
work-requires c =
    let n = numbers_of c.args.known.now.numbers.now in let s = c.args.known.now.scope.now in
    let l = arguments-length n s (expressions c.args.args.now) c.args.code.now.items in
    let r = c.requires in
    omega (arith, l, r)

pub returns-clause-code : goal.returns-clause-code
returns-clause-code c =
    let n = numbers_of c.args.known.now.numbers.now in let s = c.args.known.now.scope.now in
    c.in_ok-work.ensures ∙ arguments-code n s (expressions c.args.args.now) c.args.code.now.items

pub returns-clause-long : goal.returns-clause-long
returns-clause-long c =
    let n = numbers_of c.args.known.now.numbers.now in let s = c.args.known.now.scope.now in
    ap length c.in_ok-work.ensures ∙ arguments-length n s (expressions c.args.args.now) c.args.code.now.items
