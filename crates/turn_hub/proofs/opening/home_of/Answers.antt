-- Answers of home_of: the list of homes has the box with the value and nothing else.
use Rattle.std.proofs.Common.{rules}
use Rattle.turn_hub.proofs.opening.home_of.Goals as goal

pub returns-in-Ok-push-clause-ok : goal.returns-in-Ok-push-clause-ok
returns-in-Ok-push-clause-ok g c = (c.in-Ok.boxed, search rules, search rules)
