-- Answers of file_laws: that a file is read back as its code rests on the laws of words, and the others rest on that.
use Rattle.code_file.proofs.ReadBack.{code_read}
use Rattle.code_file.proofs.FileRead.{file_read}
use Rattle.code_file.proofs.OneFile.{one_code, no_code}
use Rattle.code_file.proofs.EachRead.{each_read}
use Rattle.code_file.proofs.laws.file_laws.Goals as goal

pub returns-clause-back : goal.returns-clause-back
returns-clause-back c = code_read c.word_laws.ensures

pub returns-clause-one : goal.returns-clause-one
returns-clause-one c = one_code (code_read c.word_laws.ensures)

pub returns-clause-exact : goal.returns-clause-exact
returns-clause-exact c = file_read c.word_laws.ensures

pub returns-clause-none : goal.returns-clause-none
returns-clause-none c = no_code (code_read c.word_laws.ensures)

pub returns-clause-each : goal.returns-clause-each
returns-clause-each c = each_read
