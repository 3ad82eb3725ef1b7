-- Answers of some_reading: its one clause, that a text has tokens or a first fault, is a lemma.
use Rattle.rev_syntax.proofs.Unique.{some-reading}
use Rattle.rev_syntax.proofs.laws.some_reading.Goals as goal

pub returns : goal.returns
returns c = some-reading
