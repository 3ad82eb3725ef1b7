-- Answers of chosen: the truth of the test decides on the expression that comes next, in the code and by definition.
use Rattle.std.proofs.Common.{◌∙◌, true, false, ap, sym, arith}
use Rattle.rev_syntax.specs.Small.{expression_count}
use Rattle.rev_syntax.specs.View.{expression}
use Rattle.typed_programs.specs.Weights.{expression_weight}
use Rattle.rev_evaluator.specs.Seen.{seen}
use Rattle.rev_evaluator.proofs.Works.{give-pick}
use Rattle.rev_evaluator.proofs.work.chosen.Goals.{then-truth, else-truth}
use Rattle.rev_evaluator.proofs.work.chosen.Goals as goal

pub returns-clause-meaning : goal.returns-clause-meaning
returns-clause-meaning c es n l ps vs =
    elim c.if-truth.branch [
      | then-truth b ↦
          give-pick es n l ps vs c.args.yes c.args.no c.if-truth.result (seen c.args.test) true
          (sym c.truth.ensures ∙ b.if-truth.true) b.result-is
      | else-truth b ↦
          give-pick es n l ps vs c.args.yes c.args.no c.if-truth.result (seen c.args.test) false
          (sym c.truth.ensures ∙ b.if-truth.false) b.result-is
    ]

pub returns-clause-smaller : goal.returns-clause-smaller
returns-clause-smaller c =
    elim c.if-truth.branch [
      | then-truth b ↦ (let h = ap (λ x. expression_count (expression x.now)) b.result-is in omega arith)
      | else-truth b ↦ (let h = ap (λ x. expression_count (expression x.now)) b.result-is in omega arith)
    ]

pub returns-clause-lighter : goal.returns-clause-lighter
returns-clause-lighter c ws =
    elim c.if-truth.branch [
      | then-truth b ↦ (let h = ap (λ x. expression_weight ws (expression x.now)) b.result-is in omega arith)
      | else-truth b ↦ (let h = ap (λ x. expression_weight ws (expression x.now)) b.result-is in omega arith)
    ]
