-- Answers of TurnHub::take_or_wait: the number of the joinee is that of what comes first.
use Rattle.std.proofs.Common.{refl}
use Rattle.turn_hub.proofs.hub.TurnHub.take_or_wait.Goals as goal

pub returns-then-comes_next-clause-answer : goal.returns-then-comes_next-clause-answer
returns-then-comes_next-clause-answer g c =
    λ v0 h. (refl, c.take_joinee-runner.ensures.answer v0 c.args.at h c.on-on.ensures)
