-- Answers of written_law: its clause, on the programs of texts, is a lemma.
use Rattle.program_texts.proofs.Programs.{texts_written}
use Rattle.program_texts.proofs.forms.written_law.Goals as goal

pub returns : goal.returns
returns c = texts_written
