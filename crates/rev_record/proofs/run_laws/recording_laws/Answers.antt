-- Answers of recording_laws: four lemmas, on the start, on legs without and with one entry more, and on the end.
use Rattle.rev_record.proofs.Keeping.{recorded_at_start, recorded_without, recorded_with, recorded_at_end}
use Rattle.rev_record.proofs.run_laws.recording_laws.Goals as goal

pub returns : goal.returns
returns c = record {
  start = recorded_at_start;
  without = recorded_without;
  with_one = recorded_with;
  end = recorded_at_end;
}
