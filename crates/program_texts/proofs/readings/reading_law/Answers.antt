-- Answers of reading_law: its one clause, that bytes are a trace text or have a first fault, is a lemma.
use Rattle.program_texts.proofs.Texts.{each_is_read_or_fails}
use Rattle.program_texts.proofs.readings.reading_law.Goals as goal

pub returns : goal.returns
returns c = each_is_read_or_fails
