-- Answers of read_file: by the laws on files the code read is the file's, and a fault means that it is none.
use Rattle.rev_code.specs.declared.code.Code.{Code}
use Rattle.mode_reports.proofs.Codes.{is_read, no_file}
use Rattle.mode_reports.proofs.code.read_file.Goals as goal

pub returns-in-Ok : goal.returns-in-Ok
returns-in-Ok c = is_read c.file_laws.ensures.back c.args.bytes.now c.in-Ok.code c.in-Ok.ensures.code

pub returns-in-Err : goal.returns-in-Err
returns-in-Err c =
    no_file (λ (x : Code). x) c.args.bytes.now c.in-Err.fault c.of_file.result c.of_file.ensures c.in-Err.ensures.fault
