-- Answers of some_verdict: its one clause, that all tokens have a verdict, is a lemma.
use Rattle.rev_parse.proofs.SomeVerdict.{some_verdict}
use Rattle.rev_parse.proofs.laws.some_verdict.Goals as goal

pub returns : goal.returns
returns c = some_verdict
