-- Answers of load_law: one lemma says that what load makes is a program for each seed and each size in range.
use Rattle.program_texts.proofs.LoadPrograms.{load_programs}
use Rattle.program_texts.proofs.load_law.Goals as goal

pub returns : goal.returns
returns c = load_programs
