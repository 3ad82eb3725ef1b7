-- Answers of give_left: no link leaves the operand, one that decides skips the next, any other awaits it.
use Rattle.std.proofs.Common.{◌∙◌, ap, sym, refl, arith}
use Rattle.rev_syntax.specs.View.{links, expression}
use Rattle.rev_syntax.specs.Small.{links_count}
use Rattle.typed_programs.specs.Weights.{links_weight}
use Rattle.typed_programs.specs.Evaluation.{chained_within}
use Rattle.rev_evaluator.specs.Seen.{seen}
use Rattle.rev_evaluator.specs.Work.{ended, link_cost, turn_size, turn_weight}
use Rattle.rev_evaluator.specs.declared.work.Pending.TheVariants as wait
use Rattle.typed_programs.proofs.Declared.{no_elements}
use Rattle.typed_programs.proofs.Shapes.{links-first}
use Rattle.rev_evaluator.proofs.Works.{awaited, by_turn, given, left-alone, left-decided, left-wanted}
use Rattle.rev_evaluator.proofs.work.give_left.Goals as goal

pub returns-in_default-clause-meaning : goal.returns-in_default-clause-meaning
returns-in_default-clause-meaning c es n l ps vs =
    by_turn es n l ps vs _ _ _ c.value.ensures (left-alone es n l ps vs c.args.left)
    ∙ ap (λ ls. ended es n l ps vs (chained_within es n l (seen c.args.left) (links ls)))
    (sym (no_elements c.args.behind.now c.in_default.ensures.cases))

pub returns-in_default-clause-smaller : goal.returns-in_default-clause-smaller
returns-in_default-clause-smaller c = let e = ap turn_size c.value.ensures in omega arith

pub returns-in-Some-short-clause-meaning : goal.returns-in-Some-short-clause-meaning
returns-in-Some-short-clause-meaning c es n l ps vs =
    given es n l ps (wait.Left c.in-Some.rest) (seen c.in-Some-short.decided) c.in-Some-short.decided vs refl
    ∙ ap (ended es n l ps vs)
    (left-decided es n l c.in-Some.link.now.op (expression c.in-Some.link.now.part) (seen c.args.left)
    (seen c.in-Some-short.decided) vs c.in-Some.rest c.in-Some-short.ensures)
    ∙ ap (λ ls. ended es n l ps vs (chained_within es n l (seen c.args.left) ls))
    (sym (ap links c.in-Some.ensures.cases.0 ∙ links-first c.in-Some.link.now c.in-Some.rest.now))

pub returns-in-Some-short-clause-smaller : goal.returns-in-Some-short-clause-smaller
returns-in-Some-short-clause-smaller c =
    let k = ap links_count (ap links c.in-Some.ensures.cases.0 ∙ links-first c.in-Some.link.now c.in-Some.rest.now) in
    omega arith

pub returns-in-None-clause-meaning : goal.returns-in-None-clause-meaning
returns-in-None-clause-meaning c es n l ps vs =
    let lk = c.in-Some.link.now in
    by_turn es n l ps vs _ _ _ c.part.ensures
    (awaited es n l ps (wait.Right lk.op c.args.left c.in-Some.rest) _ vs _
    (left-wanted es n l lk.op (expression lk.part) c.args.left vs c.in-Some.rest c.in-None.ensures))
    ∙ ap (λ ls. ended es n l ps vs (chained_within es n l (seen c.args.left) ls))
    (sym (ap links c.in-Some.ensures.cases.0 ∙ links-first lk c.in-Some.rest.now))

pub returns-in-None-clause-smaller : goal.returns-in-None-clause-smaller
returns-in-None-clause-smaller c =
    let e = ap turn_size c.part.ensures in
    let k = ap links_count (ap links c.in-Some.ensures.cases.0 ∙ links-first c.in-Some.link.now c.in-Some.rest.now) in
    omega arith

pub returns-in_default-clause-lighter : goal.returns-in_default-clause-lighter
returns-in_default-clause-lighter c ws =
    let e = ap (turn_weight ws) c.value.ensures in
    let n = ap (λ ls. link_cost (links ls)) (no_elements c.args.behind.now c.in_default.ensures.cases) in
    omega arith

pub returns-in-Some-short-clause-lighter : goal.returns-in-Some-short-clause-lighter
returns-in-Some-short-clause-lighter c ws =
    let is = ap links c.in-Some.ensures.cases.0 ∙ links-first c.in-Some.link.now c.in-Some.rest.now in
    let k = ap (links_weight ws) is in
    let n = ap link_cost is in
    omega arith

pub returns-in-None-clause-lighter : goal.returns-in-None-clause-lighter
returns-in-None-clause-lighter c ws =
    let is = ap links c.in-Some.ensures.cases.0 ∙ links-first c.in-Some.link.now c.in-Some.rest.now in
    let e = ap (turn_weight ws) c.part.ensures in
    let k = ap (links_weight ws) is in
    let n = ap link_cost is in
    omega arith
