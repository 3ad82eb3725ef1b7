-- Answers of turn: what the task comes to is short enough, so there is room for the instructions of its turn.
use Rattle.std.proofs.Common.{◌∙◌, ap, sym, arith, length}
use Rattle.rev_syntax.specs.View.{expression, expressions, links}
use Rattle.emit_code.specs.Naming.{numbers_of}
use Rattle.emit_code.specs.Work.{done}
use Rattle.emit_code.proofs.Forms.{whole-code, arguments-code}
use Rattle.emit_code.proofs.Tasks.{otherwise-length, decided_then}
use Rattle.emit_code.proofs.turns.turn.Goals as goal

pub otherwise-requires : goal.otherwise-requires
otherwise-requires c =
    let n = numbers_of c.args.known.now.numbers.now in let s = c.args.known.now.scope.now in
    let h = ap (λ k. length (done n s k c.args.code.now.items)) c.in-Otherwise.is in
    let l = otherwise-length n s c.in-Otherwise.test (expression c.in-Otherwise.no.now) c.args.code.now.items in
    let r = c.requires in
    omega (arith, h, l, r)

pub decided-requires : goal.decided-requires
decided-requires c =
    let n = numbers_of c.args.known.now.numbers.now in let s = c.args.known.now.scope.now in
    let h = ap (λ k. length (done n s k c.args.code.now.items)) c.in-Decided.is in
    let l = decided_then n s c.in-Decided.test c.in-Decided.by (links c.in-Decided.rest.now) c.args.code.now.items in
    let r = c.requires in
    omega (arith, h, l, r)

pub returns-in-Whole-clause-meaning : goal.returns-in-Whole-clause-meaning
returns-in-Whole-clause-meaning c =
    let n = numbers_of c.args.known.now.numbers.now in let s = c.args.known.now.scope.now in
    c.begin.ensures.meaning c.args.code.now.items
    ∙ sym (whole-code n s (expression c.in-Whole.e.now) c.args.code.now.items)
    ∙ ap (λ k. done n s k c.args.code.now.items) (sym c.in-Whole.is)

pub returns-in-Arguments-clause-meaning : goal.returns-in-Arguments-clause-meaning
returns-in-Arguments-clause-meaning c =
    let n = numbers_of c.args.known.now.numbers.now in let s = c.args.known.now.scope.now in
    c.begin_arguments.ensures.meaning c.args.code.now.items
    ∙ sym (arguments-code n s (expressions c.in-Arguments.args.now) c.args.code.now.items)
    ∙ ap (λ k. done n s k c.args.code.now.items) (sym c.in-Arguments.is)
