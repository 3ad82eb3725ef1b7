-- Answers of soundness_laws: first states are typed, a typed state has a step, and each step leads to typed states.
use Rattle.code_soundness.proofs.Reaching.{main_starts, procedures_start, has_step, is_safe, never_fails}
use Rattle.code_soundness.proofs.soundness.soundness_laws.Goals as goal

pub returns-clause-main : goal.returns-clause-main
returns-clause-main g c = main_starts _

pub returns-clause-procedures : goal.returns-clause-procedures
returns-clause-procedures g c = procedures_start _

pub returns-clause-progress : goal.returns-clause-progress
returns-clause-progress g c = has_step _

pub returns-clause-preserved : goal.returns-clause-preserved
returns-clause-preserved g c = is_safe _

pub returns-clause-reached : goal.returns-clause-reached
returns-clause-reached g c = never_fails _
