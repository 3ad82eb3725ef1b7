-- Answers of begin: the one or two tasks of each form come to the code that the definition gives the form.
use Rattle.std.proofs.Common.{◌∙◌, ◌++◌, ◌∷◌, [], ap, sym}
use Rattle.rev_syntax.specs.Trees as t
use Rattle.rev_syntax.specs.View.{placed_name, expression, expressions, links, expression_form}
use Rattle.typed_programs.proofs.Shapes.{expression_form-Cell, expression_form-Input, expression_form-Unary, expression_form-Apply, expression_form-Pick, expression_form-Chain}
use Rattle.rev_code.specs.declared.code.Instr.TheVariants as i
use Rattle.emit_code.specs.Naming.{numbers_of}
use Rattle.emit_code.specs.Work.{whole, arguments}
use Rattle.emit_code.proofs.Forms.{whole_then, arguments_then, pick_whole, chain_whole}
use Rattle.emit_code.proofs.Trees.{formed}
use Rattle.emit_code.proofs.turns.begin.Goals as goal

pub returns-in-Cell-clause-meaning : goal.returns-in-Cell-clause-meaning
returns-in-Cell-clause-meaning c code =
    let n = numbers_of c.args.known.now.numbers.now in let s = c.args.known.now.scope.now in
    ap (λ k. whole n s (expression c.deref.result.now) code ++ i.LoadCell k ∷ []) c.var.ensures
    ∙ whole_then n s (expression c.deref.result.now) (i.LoadCell (n.var c.in-Cell.name.text.items)) code
    ∙ formed n s c.args.e.now _ code
    (ap expression_form c.in-Cell.is ∙ expression_form-Cell c.in-Cell.name c.in-Cell.index
    ∙ ap (λ e. t.cell (placed_name c.in-Cell.name) (expression e)) (sym c.deref.ensures))

pub returns-in-Input-clause-meaning : goal.returns-in-Input-clause-meaning
returns-in-Input-clause-meaning c code =
    let n = numbers_of c.args.known.now.numbers.now in let s = c.args.known.now.scope.now in
    whole_then n s (expression c.deref-in-Input.result.now) i.LoadInput code
    ∙ formed n s c.args.e.now _ code
    (ap expression_form c.in-Input.is ∙ expression_form-Input c.in-Input.word_at c.in-Input.index
    ∙ ap (λ e. t.input c.in-Input.word_at (expression e)) (sym c.deref-in-Input.ensures))

pub returns-in-Unary-clause-meaning : goal.returns-in-Unary-clause-meaning
returns-in-Unary-clause-meaning c code =
    let n = numbers_of c.args.known.now.numbers.now in let s = c.args.known.now.scope.now in
    ap (λ x. whole n s (expression c.deref-in-Unary.result.now) code ++ x ∷ []) c.unary.ensures
    ∙ whole_then n s (expression c.deref-in-Unary.result.now) _ code
    ∙ formed n s c.args.e.now _ code
    (ap expression_form c.in-Unary.is ∙ expression_form-Unary c.in-Unary.op c.in-Unary.part
    ∙ ap (λ e. t.unary c.in-Unary.op (expression e)) (sym c.deref-in-Unary.ensures))

pub returns-in-Apply-clause-meaning : goal.returns-in-Apply-clause-meaning
returns-in-Apply-clause-meaning c code =
    let n = numbers_of c.args.known.now.numbers.now in let s = c.args.known.now.scope.now in
    ap (λ k. arguments n s (expressions c.deref-in-Apply.result.now) code ++ i.Apply k ∷ []) c.fun.ensures
    ∙ arguments_then n s (expressions c.deref-in-Apply.result.now) (i.Apply (n.fun c.in-Apply.name.text.items)) code
    ∙ formed n s c.args.e.now _ code
    (ap expression_form c.in-Apply.is ∙ expression_form-Apply c.in-Apply.name c.in-Apply.args
    ∙ ap (λ xs. t.apply (placed_name c.in-Apply.name) (expressions xs)) (sym c.deref-in-Apply.ensures.value))

pub returns-in-Pick-clause-meaning : goal.returns-in-Pick-clause-meaning
returns-in-Pick-clause-meaning c code =
    let n = numbers_of c.args.known.now.numbers.now in let s = c.args.known.now.scope.now in
    pick_whole n s (expression c.deref-in-Pick.result.now) (expression c.deref-in-Pick-2.result.now)
    (expression c.deref-in-Pick-3.result.now) code
    ∙ formed n s c.args.e.now _ code
    (ap expression_form c.in-Pick.is ∙ expression_form-Pick c.in-Pick.test c.in-Pick.yes c.in-Pick.no
    ∙ (λ j. t.pick (expression (sym c.deref-in-Pick.ensures j)) (expression (sym c.deref-in-Pick-2.ensures j))
    (expression (sym c.deref-in-Pick-3.ensures j))))

pub returns-in-Chain-clause-meaning : goal.returns-in-Chain-clause-meaning
returns-in-Chain-clause-meaning c code =
    let n = numbers_of c.args.known.now.numbers.now in let s = c.args.known.now.scope.now in
    chain_whole n s (expression c.deref-in-Chain.result.now) (links c.deref-in-Chain-2.result.now) code
    ∙ formed n s c.args.e.now _ code
    (ap expression_form c.in-Chain.is ∙ expression_form-Chain c.in-Chain.first c.in-Chain.rest
    ∙ (λ j. t.chain (expression (sym c.deref-in-Chain.ensures j)) (links (sym c.deref-in-Chain-2.ensures.value j))))
