-- What a call writes, and the status with which it ends.
use Rattle.std.specs.Prelude.{ℕ, List, []}
use Rattle.rev_report.specs.Lines.{with_line_feed}
use Rattle.rev_report.specs.Status.{done_status}
use Rattle.rev_report.specs.declared.report.Report.{Report}

pub record Output : Type 0 where
  pub out : List ℕ
  pub err : List ℕ
  pub status : ℕ

abbrev pub output : Report → Output
output r = record { out = r.out.items; err = r.err.items; status = r.status }

-- of a call that is done and wrote these bytes
abbrev pub done : List ℕ → Output
done out = record { out = out; err = []; status = done_status }

-- of a call that writes this message alone and ends with this status
abbrev pub failed : ℕ → List ℕ → Output
failed status message = record { out = []; err = with_line_feed message; status = status }
