-- Answers of give: each form of what waits goes on with the value, or faults with it, as its meaning does.
use Rattle.std.proofs.Common.{◌∙◌, ap, w64, SFits, rules}
use Rattle.std.proofs.lemmas.Int.{to_z-of_z}
use Rattle.typed_programs.specs.Value.{read_cell, read_input}
use Rattle.rev_evaluator.specs.Environment.{reads}
use Rattle.rev_evaluator.specs.Seen.{seen}
use Rattle.rev_evaluator.proofs.Works.{by_form, by_turn, fault_out, give-cell, give-cell-fault, give-input, give-input-fault, give-unary, give-unary-fault, give-behind, give-right, give-right-fault, give-argument}
use Rattle.rev_evaluator.proofs.work.give.Goals as goal

pub returns-in_err-reversed-in-Unary-clause-meaning : goal.returns-in_err-reversed-in-Unary-clause-meaning
returns-in_err-reversed-in-Unary-clause-meaning g c es n ps vs =
    let l = reads g.E.Environment.env c.args.reads.now in
    fault_out es n l ps vs _ _ _ c.from_residual-in_err-reversed-in-Unary.ensures.1
    (by_form es n l ps vs _ _ (seen c.args.x) _ c.in-Unary.is
    (give-unary-fault es n l ps vs c.in-Unary.op (seen c.args.x) _ c.in_err-reversed-in-Unary.ensures))

pub returns-in_err-operated-in-Right-clause-meaning : goal.returns-in_err-operated-in-Right-clause-meaning
returns-in_err-operated-in-Right-clause-meaning g c es n ps vs =
    let l = reads g.E.Environment.env c.args.reads.now in
    fault_out es n l ps vs _ _ _ c.from_residual-in_err-operated-in-Right.ensures.1
    (by_form es n l ps vs _ _ (seen c.args.x) _ c.in-Right.is
    (give-right-fault es n l ps vs c.in-Right.op c.in-Right.left c.in-Right.rest (seen c.args.x) _
    c.in_err-operated-in-Right.ensures))

pub returns-in_err-cell-in-Cell-clause-meaning : goal.returns-in_err-cell-in-Cell-clause-meaning
returns-in_err-cell-in-Cell-clause-meaning g c es n ps vs =
    let l = reads g.E.Environment.env c.args.reads.now in
    let fits : SFits w64 c.number.result = search rules in
    fault_out es n l ps vs _ _ _ c.from_residual.ensures.1 (by_form es n l ps vs _ _ (seen c.args.x) _ c.in-Cell.is
    (give-cell-fault es n l ps vs c.in-Cell.name (seen c.args.x) _
    (c.in_err-cell-in-Cell.ensures ∙ ap (read_cell _) (to_z-of_z w64 c.number.result fits ∙ c.number.ensures))))

pub returns-in_ok-cell-in-Cell-clause-meaning : goal.returns-in_ok-cell-in-Cell-clause-meaning
returns-in_ok-cell-in-Cell-clause-meaning g c es n ps vs =
    let l = reads g.E.Environment.env c.args.reads.now in
    let fits : SFits w64 c.number.result = search rules in
    by_form es n l ps vs _ _ (seen c.args.x) _ c.in-Cell.is
    (by_turn es n l ps vs _ _ _ c.value.ensures
    (give-cell es n l ps vs c.in-Cell.name _ (seen c.args.x)
    (c.in_ok-cell-in-Cell.ensures ∙ ap (read_cell _) (to_z-of_z w64 c.number.result fits ∙ c.number.ensures))))

pub returns-in_err-input-in-Input-clause-meaning : goal.returns-in_err-input-in-Input-clause-meaning
returns-in_err-input-in-Input-clause-meaning g c es n ps vs =
    let l = reads g.E.Environment.env c.args.reads.now in
    let fits : SFits w64 c.number-in-Input.result = search rules in
    fault_out es n l ps vs _ _ _ c.from_residual-in_err-input-in-Input.ensures.1
    (by_form es n l ps vs _ _ (seen c.args.x) _ c.in-Input.is
    (give-input-fault es n l ps vs (seen c.args.x) _
    (c.in_err-input-in-Input.ensures
    ∙ ap (read_input _) (to_z-of_z w64 c.number-in-Input.result fits ∙ c.number-in-Input.ensures))))

pub returns-in_ok-input-in-Input-clause-meaning : goal.returns-in_ok-input-in-Input-clause-meaning
returns-in_ok-input-in-Input-clause-meaning g c es n ps vs =
    let l = reads g.E.Environment.env c.args.reads.now in
    let fits : SFits w64 c.number-in-Input.result = search rules in
    by_form es n l ps vs _ _ (seen c.args.x) _ c.in-Input.is
    (by_turn es n l ps vs _ _ _ c.value-in-Input.ensures
    (give-input es n l ps vs _ (seen c.args.x)
    (c.in_ok-input-in-Input.ensures
    ∙ ap (read_input _) (to_z-of_z w64 c.number-in-Input.result fits ∙ c.number-in-Input.ensures))))

pub returns-in_ok-reversed-in-Unary-clause-meaning : goal.returns-in_ok-reversed-in-Unary-clause-meaning
returns-in_ok-reversed-in-Unary-clause-meaning g c es n ps vs =
    let l = reads g.E.Environment.env c.args.reads.now in
    by_form es n l ps vs _ _ (seen c.args.x) _ c.in-Unary.is
    (by_turn es n l ps vs _ _ _ c.value-in-Unary.ensures
    (give-unary es n l ps vs c.in-Unary.op _ (seen c.args.x) c.in_ok-reversed-in-Unary.ensures))

pub returns-in-Left-clause-meaning : goal.returns-in-Left-clause-meaning
returns-in-Left-clause-meaning g c es n ps vs =
    let l = reads g.E.Environment.env c.args.reads.now in
    by_form es n l ps vs _ _ (seen c.args.x) _ c.in-Left.is
    (give-behind es n l ps vs c.in-Left.rest (seen c.args.x) _ (c.give_left.ensures.meaning es n l ps vs))

pub returns-in_ok-operated-in-Right-clause-meaning : goal.returns-in_ok-operated-in-Right-clause-meaning
returns-in_ok-operated-in-Right-clause-meaning g c es n ps vs =
    let l = reads g.E.Environment.env c.args.reads.now in
    by_form es n l ps vs _ _ (seen c.args.x) _ c.in-Right.is
    (give-right es n l ps vs c.in-Right.op c.in-Right.left _ c.in-Right.rest (seen c.args.x)
    c.in_ok-operated-in-Right.ensures)

pub returns-in-Argument-clause-meaning : goal.returns-in-Argument-clause-meaning
returns-in-Argument-clause-meaning g c es n ps vs =
    let l = reads g.E.Environment.env c.args.reads.now in
    by_form es n l ps vs _ _ (seen c.args.x) _ c.in-Argument.is
    (give-argument es n l ps vs c.in-Argument.name c.in-Argument.before c.in-Argument.rest (seen c.args.x) _
    (c.give_argument.ensures.meaning es n l ps vs))
