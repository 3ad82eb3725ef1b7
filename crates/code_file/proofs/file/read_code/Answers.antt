-- Answers of read_code: the reading from a new cursor is that of all bytes, so its code or fault is that of the file.
use Rattle.code_file.proofs.FileRead.{file_or_fault}
use Rattle.code_file.proofs.OneFile.{that_code, no_fault_but_memory}
use Rattle.code_file.proofs.ReadBack.{code_read}
use Rattle.code_file.proofs.file.read_code.Goals as goal

pub returns-clause-code : goal.returns-clause-code
returns-clause-code c =
    file_or_fault c.word_laws.ensures c.args.bytes.now c.file.result c.new-cursor.result.whole
    c.new-cursor.result.rest.now c.file.new.cursor.rest.now
    (λ i. (c.type_inv.bytes i).fits) c.new-cursor.ensures.whole c.new-cursor.ensures.rest c.file.ensures.reads
    c.file.ensures.end

pub returns-clause-back : goal.returns-clause-back
returns-clause-back c =
    that_code (code_read c.word_laws.ensures) c.args.bytes.now c.file.result
    (file_or_fault c.word_laws.ensures c.args.bytes.now c.file.result c.new-cursor.result.whole
    c.new-cursor.result.rest.now c.file.new.cursor.rest.now
    (λ i. (c.type_inv.bytes i).fits) c.new-cursor.ensures.whole c.new-cursor.ensures.rest c.file.ensures.reads
    c.file.ensures.end)

pub returns-clause-memory : goal.returns-clause-memory
returns-clause-memory c =
    no_fault_but_memory (code_read c.word_laws.ensures) c.args.bytes.now c.file.result c.new-cursor.result.whole
    c.new-cursor.result.rest.now c.file.new.cursor.rest.now
    c.new-cursor.ensures.whole c.new-cursor.ensures.rest c.file.ensures.reads
