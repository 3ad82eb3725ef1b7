-- Answers of Delta::is_empty: it is empty exactly where there is no first location with a value.
use Rattle.std.proofs.Common.{arith}
use Rattle.version_map.proofs.delta.Delta.is_empty.Goals as goal

pub returns-in-Some : goal.returns-in-Some
returns-in-Some c = λ empty. c.in-Some.ensures.2 (empty _ c.in-Some.ensures.1)

pub returns-in-None : goal.returns-in-None
returns-in-None c = λ l lt. c.in-None.ensures l (omega arith) lt
