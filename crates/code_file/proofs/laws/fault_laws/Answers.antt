-- Answers of fault_laws: each law on the first fault follows from this: the file of code is read back as that code.
use Rattle.code_file.proofs.ReadBack.{code_read}
use Rattle.code_file.proofs.Firsts.{bad_field_is_first, cut_is_truncated, more_is_trailing}
use Rattle.code_file.proofs.laws.fault_laws.Goals as goal

pub returns-clause-cut : goal.returns-clause-cut
returns-clause-cut c = cut_is_truncated (code_read c.word_laws.ensures)

pub returns-clause-behind : goal.returns-clause-behind
returns-clause-behind c = more_is_trailing (code_read c.word_laws.ensures)

pub returns-clause-bad : goal.returns-clause-bad
returns-clause-bad c = bad_field_is_first (code_read c.word_laws.ensures)
