-- Answers of begin_application: the first argument comes first, and a fun without arguments is called at once.
use Rattle.std.proofs.Common.{◌∙◌, None, ap, sym, arith}
use Rattle.rev_syntax.specs.Trees as t
use Rattle.rev_syntax.specs.View.{expressions, placed_name}
use Rattle.rev_syntax.specs.Small.{expressions_count}
use Rattle.typed_programs.specs.Weights.{expressions_weight}
use Rattle.typed_programs.specs.Evaluation.{expression_form_within}
use Rattle.rev_evaluator.specs.Work.{call_turn, ended, part_turn, turn_size, turn_weight}
use Rattle.rev_evaluator.specs.declared.work.Pending.TheVariants as wait
use Rattle.rev_evaluator.proofs.Works.{apply-begun, apply-none, awaited, by_turn, without-none}
use Rattle.rev_evaluator.proofs.work.begin_application.Goals as goal

pub returns-in-Some-clause-meaning : goal.returns-in-Some-clause-meaning
returns-in-Some-clause-meaning c es n l ps vs =
    let p = wait.Argument c.args.name 0 c.in-Some.rest in
    by_turn es n l ps vs _ (part_turn p c.in-Some.arg) _ c.part.ensures
    (awaited es n l ps p c.in-Some.arg vs _ (apply-begun es n l c.args.name c.in-Some.arg c.in-Some.rest vs)
    ∙ (λ i. ended es n l ps (without-none vs i)
    (expression_form_within es n l
    (t.apply (placed_name c.args.name.now) (expressions (sym c.in-Some.ensures.cases.0 i))))))

pub returns-in-Some-clause-smaller : goal.returns-in-Some-clause-smaller
returns-in-Some-clause-smaller c =
    let e = ap turn_size c.part.ensures in
    let k = ap (λ xs. expressions_count (expressions xs)) c.in-Some.ensures.cases.0 in
    omega arith

pub returns-in-None-clause-meaning : goal.returns-in-None-clause-meaning
returns-in-None-clause-meaning c es n l ps vs =
    by_turn es n l ps vs _ (call_turn (record { name = c.args.name; before = 0; value = None; rest = c.args.args })) _
    c.call.ensures
    (apply-none es n l ps vs c.args.name c.args.args)

pub returns-in-None-clause-smaller : goal.returns-in-None-clause-smaller
returns-in-None-clause-smaller c =
    let e = ap turn_size c.call.ensures in
    omega arith

pub returns-in-Some-clause-lighter : goal.returns-in-Some-clause-lighter
returns-in-Some-clause-lighter c ws =
    let e = ap (turn_weight ws) c.part.ensures in
    let k = ap (λ xs. expressions_weight ws (expressions xs)) c.in-Some.ensures.cases.0 in
    omega arith

pub returns-in-None-clause-lighter : goal.returns-in-None-clause-lighter
returns-in-None-clause-lighter c ws = let e = ap (turn_weight ws) c.call.ensures in omega arith
