-- Answers of give_argument: while there is room the value is kept and an argument comes, and else the fun is called.
use Rattle.std.proofs.Common.{◌∙◌, Some, ◌++◌, ◌∷◌, [], suc, ap, sym, arith, add-one}
use Rattle.rev_syntax.specs.View.{expressions}
use Rattle.rev_syntax.specs.Small.{expressions_count}
use Rattle.typed_programs.specs.Weights.{expressions_weight}
use Rattle.rev_evaluator.specs.Seen.{seen}
use Rattle.rev_evaluator.specs.Work.{application, call_turn, comes_to, ended, lasts, turn_size, turn_weight}
use Rattle.rev_evaluator.specs.declared.work.Pending.TheVariants as wait
use Rattle.rev_evaluator.specs.declared.work.Next.TheVariants as next
use Rattle.rev_evaluator.proofs.Works.{argument-kept, argument-next, awaited, by_turn, without-push}
use Rattle.rev_evaluator.proofs.work.give_argument.Goals as goal

pub returns-in-Some-clause-meaning : goal.returns-in-Some-clause-meaning
returns-in-Some-clause-meaning c es n l ps vs =
    let x = seen c.args.x in
    let k = c.args.before in
    ap (λ m. comes_to es n l (wait.Argument c.args.name m c.in-Some.rest ∷ ps) (vs ++ x ∷ []) (next.Part c.in-Some.arg))
    (add-one k)
    ∙ awaited es n l ps (wait.Argument c.args.name (suc k) c.in-Some.rest) c.in-Some.arg (vs ++ x ∷ []) _
    (argument-next es n l c.args.name k x c.in-Some.arg c.in-Some.rest vs)
    ∙ (λ i. ended es n l ps (without-push k vs x i)
    (application es n l c.args.name.now.text.items (lasts k vs ++ x ∷ [])
    (expressions (sym c.in-Some.ensures.cases.0 i))))

pub returns-in-Some-clause-smaller : goal.returns-in-Some-clause-smaller
returns-in-Some-clause-smaller c =
    let k = ap (λ xs. expressions_count (expressions xs)) c.in-Some.ensures.cases.0 in
    omega arith

pub returns-in_default-clause-meaning : goal.returns-in_default-clause-meaning
returns-in_default-clause-meaning c es n l ps vs =
    by_turn es n l ps vs _
    (call_turn (record { name = c.args.name; before = c.args.before; value = Some c.args.x; rest = c.args.args })) _
    c.call.ensures
    (argument-kept es n l ps vs c.args.name c.args.before c.args.x c.args.args)

pub returns-in_default-clause-smaller : goal.returns-in_default-clause-smaller
returns-in_default-clause-smaller c = let e = ap turn_size c.call.ensures in omega arith

pub returns-in-Some-clause-lighter : goal.returns-in-Some-clause-lighter
returns-in-Some-clause-lighter c ws =
    let k = ap (λ xs. expressions_weight ws (expressions xs)) c.in-Some.ensures.cases.0 in
    omega arith

pub returns-in_default-clause-lighter : goal.returns-in_default-clause-lighter
returns-in_default-clause-lighter c ws = let e = ap (turn_weight ws) c.call.ensures in omega arith
