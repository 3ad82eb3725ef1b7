-- Answers of fun_laws: typed states of a value block step to typed states, a fault or the result, within their costs.
use Rattle.code_soundness.proofs.Evaluating.{fun_value, merge_kind, merge_value, values_by_blocks, fun_starts, fun_step}
use Rattle.code_soundness.proofs.Using.{uses_by_blocks, funs_keep, funs_limited}
use Rattle.code_soundness.proofs.soundness.fun_laws.Goals as goal

pub returns-clause-funs : goal.returns-clause-funs
returns-clause-funs g c = λ code notes ok n b is value args e. fun_value code notes ok n b is value args e

pub returns-clause-merges : goal.returns-clause-merges
returns-clause-merges g c =
    λ code notes ok n v is e. (merge_kind code notes ok n v is e, merge_value code notes ok n v is e _)

pub returns-clause-blocks : goal.returns-clause-blocks
returns-clause-blocks g c = values_by_blocks

pub returns-clause-starts : goal.returns-clause-starts
returns-clause-starts g c = fun_starts

pub returns-clause-steps : goal.returns-clause-steps
returns-clause-steps g c = fun_step

pub returns-clause-uses : goal.returns-clause-uses
returns-clause-uses g c = uses_by_blocks

pub returns-clause-costs : goal.returns-clause-costs
returns-clause-costs g c = funs_keep _

pub returns-clause-limits : goal.returns-clause-limits
returns-clause-limits g c = funs_limited _
