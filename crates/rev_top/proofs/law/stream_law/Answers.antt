-- Answers of stream_law: its one clause, that what is streamed is a first part of what main prints, is a lemma.
use Rattle.rev_top.proofs.StreamLaws.{prints_first_parts}
use Rattle.rev_top.proofs.law.stream_law.Goals as goal

pub returns : goal.returns
returns c = prints_first_parts
