-- Answers of counting_laws: four lemmas, on the start, on legs without and with one valid entry more, and on the end.
use Rattle.rev_record.proofs.Keeping.{counted_at_start, counted_without, counted_with, counted_at_end}
use Rattle.rev_record.proofs.run_laws.counting_laws.Goals as goal

pub returns : goal.returns
returns c = record {
  start = counted_at_start;
  without = counted_without;
  with_one = counted_with;
  end = counted_at_end;
}
