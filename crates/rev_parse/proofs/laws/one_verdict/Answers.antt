-- Answers of one_verdict: its one clause, that no tokens have two verdicts, is a lemma.
use Rattle.rev_parse.proofs.OneVerdict.{one_verdict}
use Rattle.rev_parse.proofs.laws.one_verdict.Goals as goal

pub returns : goal.returns
returns c = one_verdict
