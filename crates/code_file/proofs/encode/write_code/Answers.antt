-- Answers of write_code: code with no fault and counts that fit has a file, and that file is read back as the code.
use Rattle.std.proofs.Common.{◌∙◌, ap}
use Rattle.code_file.specs.Reads.{reading}
use Rattle.code_file.proofs.HasFiles.{has_file}
use Rattle.code_file.proofs.ReadBack.{code_read}
use Rattle.code_file.proofs.encode.write_code.Goals as goal

pub returns-clause-has : goal.returns-clause-has
returns-clause-has c = λ none. record {
  has = has_file c.args.code.now none c.requires c.note_widths.ensures;
  spelled = c.in_ok-bytes.ensures;
}

pub returns-clause-back : goal.returns-clause-back
returns-clause-back c = λ none.
    ap reading c.in_ok-bytes.ensures
    ∙ code_read c.word_laws.ensures c.args.code.now (has_file c.args.code.now none c.requires c.note_widths.ensures)
