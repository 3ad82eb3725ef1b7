-- Answers of begin: each form of expression begins with the part that its value takes first, or is a value.
use Rattle.std.proofs.Common.{◌∙◌, None, Ok, ap, sym, refl, arith, rules}
use Rattle.rev_syntax.specs.Trees as t
use Rattle.rev_syntax.specs.View.{links, expression_form, expression, expressions, placed_name}
use Rattle.rev_evaluator.specs.Environment.{reads}
use Rattle.typed_programs.specs.Evaluation.{expression_form_within}
use Rattle.rev_num.specs.declared.value.Value.TheVariants as v
use Rattle.rev_evaluator.specs.Work.{ended, part_cost, part_turn, turn_size, turn_weight, value_turn}
use Rattle.rev_evaluator.specs.declared.seen.Seen.TheVariants as f
use Rattle.rev_evaluator.specs.declared.work.Pending.TheVariants as wait
use Rattle.rev_evaluator.proofs.Evaluations.{at_int, at_bool, at_no_rev, at_var, at_inputs}
use Rattle.typed_programs.proofs.Shapes.{expression_form-Chain, expression_form-Pick, expression_form-Apply, expression_form-Unary, expression_form-Cell, expression_form-Input, expression_form-Int, expression_form-Bool, expression_form-NoRev, expression_form-Var, expression_form-Inputs}
use Rattle.rev_evaluator.proofs.Works.{at-value, awaited, by_turn, count_of, of_form, weight_of_node, wait-cell, wait-input, wait-left, wait-pick, wait-unary}
use Rattle.rev_evaluator.proofs.work.begin.Goals as goal

pub returns-in-Int-clause-meaning : goal.returns-in-Int-clause-meaning
returns-in-Int-clause-meaning g c es n ps vs =
    let k = at-value es n (reads g.E.Environment.env c.args.reads.now) ps vs (f.Int c.in-Int.n) _
    (of_form es n (reads g.E.Environment.env c.args.reads.now) c.args.e.now _
    (at_int es n (reads g.E.Environment.env c.args.reads.now) _ c.in-Int.n
    (ap expression_form c.in-Int.is ∙ expression_form-Int c.in-Int.n))) in
    by_turn es n (reads g.E.Environment.env c.args.reads.now) ps vs _ _ _ c.value.ensures (search (rules, k))

pub returns-in-Int-clause-smaller : goal.returns-in-Int-clause-smaller
returns-in-Int-clause-smaller g c =
    let k = count_of c.args.e.now _ (ap expression_form c.in-Int.is ∙ expression_form-Int c.in-Int.n) in
    let e = ap turn_size c.value.ensures in
    omega arith

pub returns-in-Bool-clause-meaning : goal.returns-in-Bool-clause-meaning
returns-in-Bool-clause-meaning g c es n ps vs =
    by_turn es n (reads g.E.Environment.env c.args.reads.now) ps vs _ (value_turn (f.Bool c.in-Bool.b)) _
    c.value-in-Bool.ensures
    (at-value es n (reads g.E.Environment.env c.args.reads.now) ps vs (f.Bool c.in-Bool.b) _
    (of_form es n (reads g.E.Environment.env c.args.reads.now) c.args.e.now _
    (at_bool es n (reads g.E.Environment.env c.args.reads.now) _ c.in-Bool.b _
    (ap expression_form c.in-Bool.is ∙ expression_form-Bool c.in-Bool.b) refl)))

pub returns-in-Bool-clause-smaller : goal.returns-in-Bool-clause-smaller
returns-in-Bool-clause-smaller g c =
    let k = count_of c.args.e.now _ (ap expression_form c.in-Bool.is ∙ expression_form-Bool c.in-Bool.b) in
    let e = ap turn_size c.value-in-Bool.ensures in
    omega arith

pub returns-in-NoRev-clause-meaning : goal.returns-in-NoRev-clause-meaning
returns-in-NoRev-clause-meaning g c es n ps vs =
    by_turn es n (reads g.E.Environment.env c.args.reads.now) ps vs _ (value_turn (f.Rev None)) _
    c.value-in-NoRev.ensures
    (at-value es n (reads g.E.Environment.env c.args.reads.now) ps vs (f.Rev None) _
    (of_form es n (reads g.E.Environment.env c.args.reads.now) c.args.e.now _
    (at_no_rev es n (reads g.E.Environment.env c.args.reads.now) _
    (ap expression_form c.in-NoRev.is ∙ expression_form-NoRev))))

pub returns-in-NoRev-clause-smaller : goal.returns-in-NoRev-clause-smaller
returns-in-NoRev-clause-smaller g c =
    let k = count_of c.args.e.now _ (ap expression_form c.in-NoRev.is ∙ expression_form-NoRev) in
    let e = ap turn_size c.value-in-NoRev.ensures in
    omega arith

pub returns-in-Var-clause-meaning : goal.returns-in-Var-clause-meaning
returns-in-Var-clause-meaning g c es n ps vs =
    let l = reads g.E.Environment.env c.args.reads.now in
    by_turn es n l ps vs _ (value_turn c.variable.result) _ c.value-in-Var.ensures
    (at-value es n l ps vs c.variable.result _
    (of_form es n l c.args.e.now _
    (at_var es n l _ (placed_name c.in-Var.name) _ (ap expression_form c.in-Var.is ∙ expression_form-Var c.in-Var.name)
    c.variable.ensures)))

pub returns-in-Var-clause-smaller : goal.returns-in-Var-clause-smaller
returns-in-Var-clause-smaller g c =
    let k = count_of c.args.e.now _ (ap expression_form c.in-Var.is ∙ expression_form-Var c.in-Var.name) in
    let e = ap turn_size c.value-in-Var.ensures in
    omega arith

pub returns-in-Inputs-clause-meaning : goal.returns-in-Inputs-clause-meaning
returns-in-Inputs-clause-meaning g c es n ps vs =
    let l = reads g.E.Environment.env c.args.reads.now in
    let k = at-value es n l ps vs (f.Int c.inputs.result) _
    (of_form es n l c.args.e.now _
    (at_inputs es n l _ c.in-Inputs.word_at _
    (ap expression_form c.in-Inputs.is ∙ expression_form-Inputs c.in-Inputs.word_at)
    (ap (λ z. Ok (v.Int z)) c.inputs.ensures))) in
    by_turn es n l ps vs _ _ _ c.value-in-Inputs.ensures (search (rules, k))

pub returns-in-Inputs-clause-smaller : goal.returns-in-Inputs-clause-smaller
returns-in-Inputs-clause-smaller g c =
    let k = count_of c.args.e.now _ (ap expression_form c.in-Inputs.is ∙ expression_form-Inputs c.in-Inputs.word_at) in
    let e = ap turn_size c.value-in-Inputs.ensures in
    omega arith

pub returns-in-Cell-clause-meaning : goal.returns-in-Cell-clause-meaning
returns-in-Cell-clause-meaning g c es n ps vs =
    let l = (reads g.E.Environment.env c.args.reads.now) in
    by_turn es n l ps vs _ (part_turn (wait.Cell _) c.deref.result) _ c.part.ensures
    (awaited es n l ps (wait.Cell _) c.deref.result vs _
    (of_form es n l c.args.e.now _
    (wait-cell es n l _ _ c.deref.result vs
    (ap expression_form c.in-Cell.is ∙ expression_form-Cell c.in-Cell.name c.in-Cell.index
    ∙ ap (λ e. t.cell (placed_name c.in-Cell.name) (expression e)) (sym c.deref.ensures)))))

pub returns-in-Cell-clause-smaller : goal.returns-in-Cell-clause-smaller
returns-in-Cell-clause-smaller g c =
    let k = count_of c.args.e.now _
    (ap expression_form c.in-Cell.is ∙ expression_form-Cell c.in-Cell.name c.in-Cell.index
    ∙ ap (λ e. t.cell (placed_name c.in-Cell.name) (expression e)) (sym c.deref.ensures)) in
    let e = ap turn_size c.part.ensures in
    omega arith

pub returns-in-Input-clause-meaning : goal.returns-in-Input-clause-meaning
returns-in-Input-clause-meaning g c es n ps vs =
    let l = (reads g.E.Environment.env c.args.reads.now) in
    by_turn es n l ps vs _ (part_turn wait.Input c.deref-in-Input.result) _ c.part-in-Input.ensures
    (awaited es n l ps wait.Input c.deref-in-Input.result vs _
    (of_form es n l c.args.e.now _
    (wait-input es n l _ c.in-Input.word_at c.deref-in-Input.result vs
    (ap expression_form c.in-Input.is ∙ expression_form-Input c.in-Input.word_at c.in-Input.index
    ∙ ap (λ e. t.input c.in-Input.word_at (expression e)) (sym c.deref-in-Input.ensures)))))

pub returns-in-Input-clause-smaller : goal.returns-in-Input-clause-smaller
returns-in-Input-clause-smaller g c =
    let k = count_of c.args.e.now _
    (ap expression_form c.in-Input.is ∙ expression_form-Input c.in-Input.word_at c.in-Input.index
    ∙ ap (λ e. t.input c.in-Input.word_at (expression e)) (sym c.deref-in-Input.ensures)) in
    let e = ap turn_size c.part-in-Input.ensures in
    omega arith

pub returns-in-Unary-clause-meaning : goal.returns-in-Unary-clause-meaning
returns-in-Unary-clause-meaning g c es n ps vs =
    let l = (reads g.E.Environment.env c.args.reads.now) in
    by_turn es n l ps vs _ (part_turn (wait.Unary c.in-Unary.op) c.deref-in-Unary.result) _ c.part-in-Unary.ensures
    (awaited es n l ps (wait.Unary c.in-Unary.op) c.deref-in-Unary.result vs _
    (of_form es n l c.args.e.now _
    (wait-unary es n l _ c.in-Unary.op c.deref-in-Unary.result vs
    (ap expression_form c.in-Unary.is ∙ expression_form-Unary c.in-Unary.op c.in-Unary.part
    ∙ ap (λ e. t.unary c.in-Unary.op (expression e)) (sym c.deref-in-Unary.ensures)))))

pub returns-in-Unary-clause-smaller : goal.returns-in-Unary-clause-smaller
returns-in-Unary-clause-smaller g c =
    let k = count_of c.args.e.now _
    (ap expression_form c.in-Unary.is ∙ expression_form-Unary c.in-Unary.op c.in-Unary.part
    ∙ ap (λ e. t.unary c.in-Unary.op (expression e)) (sym c.deref-in-Unary.ensures)) in
    let e = ap turn_size c.part-in-Unary.ensures in
    omega arith

pub returns-in-Pick-clause-meaning : goal.returns-in-Pick-clause-meaning
returns-in-Pick-clause-meaning g c es n ps vs =
    let l = (reads g.E.Environment.env c.args.reads.now) in
    by_turn es n l ps vs _
    (part_turn (wait.Pick c.deref-in-Pick.result c.deref-in-Pick-2.result) c.deref-in-Pick-3.result) _
    c.part-in-Pick.ensures
    (awaited es n l ps (wait.Pick c.deref-in-Pick.result c.deref-in-Pick-2.result) c.deref-in-Pick-3.result vs _
    (of_form es n l c.args.e.now _
    (wait-pick es n l _ c.deref-in-Pick-3.result c.deref-in-Pick.result c.deref-in-Pick-2.result vs
    (ap expression_form c.in-Pick.is ∙ expression_form-Pick c.in-Pick.test c.in-Pick.yes c.in-Pick.no
    ∙ (λ i. t.pick (expression (sym c.deref-in-Pick-3.ensures i)) (expression (sym c.deref-in-Pick.ensures i))
    (expression (sym c.deref-in-Pick-2.ensures i)))))))

pub returns-in-Pick-clause-smaller : goal.returns-in-Pick-clause-smaller
returns-in-Pick-clause-smaller g c =
    let k = count_of c.args.e.now _
    (ap expression_form c.in-Pick.is ∙ expression_form-Pick c.in-Pick.test c.in-Pick.yes c.in-Pick.no
    ∙ (λ i. t.pick (expression (sym c.deref-in-Pick-3.ensures i)) (expression (sym c.deref-in-Pick.ensures i))
    (expression (sym c.deref-in-Pick-2.ensures i)))) in
    let e = ap turn_size c.part-in-Pick.ensures in
    omega arith

pub returns-in-Chain-clause-meaning : goal.returns-in-Chain-clause-meaning
returns-in-Chain-clause-meaning g c es n ps vs =
    let l = (reads g.E.Environment.env c.args.reads.now) in
    by_turn es n l ps vs _ (part_turn (wait.Left c.deref-in-Chain.result) c.deref-in-Chain-2.result) _
    c.part-in-Chain.ensures
    (awaited es n l ps (wait.Left c.deref-in-Chain.result) c.deref-in-Chain-2.result vs _
    (of_form es n l c.args.e.now _
    (wait-left es n l _ c.deref-in-Chain-2.result c.deref-in-Chain.result vs
    (ap expression_form c.in-Chain.is ∙ expression_form-Chain c.in-Chain.first c.in-Chain.rest
    ∙ (λ i. t.chain (expression (sym c.deref-in-Chain-2.ensures i)) (links (sym c.deref-in-Chain.ensures.value i)))))))

pub returns-in-Chain-clause-smaller : goal.returns-in-Chain-clause-smaller
returns-in-Chain-clause-smaller g c =
    let k = count_of c.args.e.now _
    (ap expression_form c.in-Chain.is ∙ expression_form-Chain c.in-Chain.first c.in-Chain.rest
    ∙ (λ i. t.chain (expression (sym c.deref-in-Chain-2.ensures i)) (links (sym c.deref-in-Chain.ensures.value i)))) in
    let e = ap turn_size c.part-in-Chain.ensures in
    omega arith

pub returns-in-Apply-clause-meaning : goal.returns-in-Apply-clause-meaning
returns-in-Apply-clause-meaning g c es n ps vs =
    let l = (reads g.E.Environment.env c.args.reads.now) in
    c.begin_application.ensures.meaning es n l ps vs
    ∙ ap (ended es n l ps vs)
    (of_form es n l c.args.e.now _
    (ap (expression_form_within es n l)
    (sym (ap expression_form c.in-Apply.is ∙ expression_form-Apply c.in-Apply.name c.in-Apply.args
    ∙ ap (λ xs. t.apply (placed_name c.in-Apply.name) (expressions xs)) (sym c.deref-in-Apply.ensures.value)))))

pub returns-in-Apply-clause-smaller : goal.returns-in-Apply-clause-smaller
returns-in-Apply-clause-smaller g c =
    let k = count_of c.args.e.now _
    (ap expression_form c.in-Apply.is ∙ expression_form-Apply c.in-Apply.name c.in-Apply.args
    ∙ ap (λ xs. t.apply (placed_name c.in-Apply.name) (expressions xs)) (sym c.deref-in-Apply.ensures.value)) in
    let e = c.begin_application.ensures.smaller in
    omega arith

pub returns-in-Int-clause-lighter : goal.returns-in-Int-clause-lighter
returns-in-Int-clause-lighter g c ws =
    let h = ap expression_form c.in-Int.is ∙ expression_form-Int c.in-Int.n in
    let k = weight_of_node ws c.args.e.now _ h in
    let p = ap part_cost h in
    let e = ap (turn_weight ws) c.value.ensures in
    omega arith

pub returns-in-Bool-clause-lighter : goal.returns-in-Bool-clause-lighter
returns-in-Bool-clause-lighter g c ws =
    let h = ap expression_form c.in-Bool.is ∙ expression_form-Bool c.in-Bool.b in
    let k = weight_of_node ws c.args.e.now _ h in
    let p = ap part_cost h in
    let e = ap (turn_weight ws) c.value-in-Bool.ensures in
    omega arith

pub returns-in-NoRev-clause-lighter : goal.returns-in-NoRev-clause-lighter
returns-in-NoRev-clause-lighter g c ws =
    let h = ap expression_form c.in-NoRev.is ∙ expression_form-NoRev in
    let k = weight_of_node ws c.args.e.now _ h in
    let p = ap part_cost h in
    let e = ap (turn_weight ws) c.value-in-NoRev.ensures in
    omega arith

pub returns-in-Var-clause-lighter : goal.returns-in-Var-clause-lighter
returns-in-Var-clause-lighter g c ws =
    let h = ap expression_form c.in-Var.is ∙ expression_form-Var c.in-Var.name in
    let k = weight_of_node ws c.args.e.now _ h in
    let p = ap part_cost h in
    let e = ap (turn_weight ws) c.value-in-Var.ensures in
    omega arith

pub returns-in-Inputs-clause-lighter : goal.returns-in-Inputs-clause-lighter
returns-in-Inputs-clause-lighter g c ws =
    let h = ap expression_form c.in-Inputs.is ∙ expression_form-Inputs c.in-Inputs.word_at in
    let k = weight_of_node ws c.args.e.now _ h in
    let p = ap part_cost h in
    let e = ap (turn_weight ws) c.value-in-Inputs.ensures in
    omega arith

pub returns-in-Cell-clause-lighter : goal.returns-in-Cell-clause-lighter
returns-in-Cell-clause-lighter g c ws =
    let h = ap expression_form c.in-Cell.is ∙ expression_form-Cell c.in-Cell.name c.in-Cell.index
    ∙ ap (λ e. t.cell (placed_name c.in-Cell.name) (expression e)) (sym c.deref.ensures) in
    let k = weight_of_node ws c.args.e.now _ h in
    let p = ap part_cost h in
    let e = ap (turn_weight ws) c.part.ensures in
    omega arith

pub returns-in-Input-clause-lighter : goal.returns-in-Input-clause-lighter
returns-in-Input-clause-lighter g c ws =
    let h = ap expression_form c.in-Input.is ∙ expression_form-Input c.in-Input.word_at c.in-Input.index
    ∙ ap (λ e. t.input c.in-Input.word_at (expression e)) (sym c.deref-in-Input.ensures) in
    let k = weight_of_node ws c.args.e.now _ h in
    let p = ap part_cost h in
    let e = ap (turn_weight ws) c.part-in-Input.ensures in
    omega arith

pub returns-in-Unary-clause-lighter : goal.returns-in-Unary-clause-lighter
returns-in-Unary-clause-lighter g c ws =
    let h = ap expression_form c.in-Unary.is ∙ expression_form-Unary c.in-Unary.op c.in-Unary.part
    ∙ ap (λ e. t.unary c.in-Unary.op (expression e)) (sym c.deref-in-Unary.ensures) in
    let k = weight_of_node ws c.args.e.now _ h in
    let p = ap part_cost h in
    let e = ap (turn_weight ws) c.part-in-Unary.ensures in
    omega arith

pub returns-in-Pick-clause-lighter : goal.returns-in-Pick-clause-lighter
returns-in-Pick-clause-lighter g c ws =
    let h = ap expression_form c.in-Pick.is ∙ expression_form-Pick c.in-Pick.test c.in-Pick.yes c.in-Pick.no
    ∙ (λ i. t.pick (expression (sym c.deref-in-Pick-3.ensures i)) (expression (sym c.deref-in-Pick.ensures i))
    (expression (sym c.deref-in-Pick-2.ensures i))) in
    let k = weight_of_node ws c.args.e.now _ h in
    let p = ap part_cost h in
    let e = ap (turn_weight ws) c.part-in-Pick.ensures in
    omega arith

pub returns-in-Chain-clause-lighter : goal.returns-in-Chain-clause-lighter
returns-in-Chain-clause-lighter g c ws =
    let h = ap expression_form c.in-Chain.is ∙ expression_form-Chain c.in-Chain.first c.in-Chain.rest
    ∙ (λ i. t.chain (expression (sym c.deref-in-Chain-2.ensures i)) (links (sym c.deref-in-Chain.ensures.value i))) in
    let k = weight_of_node ws c.args.e.now _ h in
    let p = ap part_cost h in
    let e = ap (turn_weight ws) c.part-in-Chain.ensures in
    omega arith

pub returns-in-Apply-clause-lighter : goal.returns-in-Apply-clause-lighter
returns-in-Apply-clause-lighter g c ws =
    let h = ap expression_form c.in-Apply.is ∙ expression_form-Apply c.in-Apply.name c.in-Apply.args
    ∙ ap (λ xs. t.apply (placed_name c.in-Apply.name) (expressions xs)) (sym c.deref-in-Apply.ensures.value) in
    let k = weight_of_node ws c.args.e.now _ h in
    let p = ap part_cost h in
    let e = c.begin_application.ensures.lighter ws in
    omega arith
