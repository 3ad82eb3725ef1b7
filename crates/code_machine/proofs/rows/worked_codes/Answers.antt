-- Answers of worked_codes: each schedule of a worked code computes to the outcome in its row.
use Rattle.std.proofs.Common.{refl}
use Rattle.std.specs.Fmt.{digits}
use Rattle.code_machine.proofs.rows.worked_codes.Goals as goal

pub returns : goal.returns
unfolding digits
returns c = record {
  prints = (refl, refl);
  no_more = (refl, refl);
  tries_none = (refl, refl);
  try_drops = (refl, refl);
  passes_on = (refl, refl);
  fuel = (refl, refl, refl, refl);
  joined_twice = (refl, refl, refl);
  paths_stay = (refl, refl, refl);
  waits = refl;
  merges = (refl, refl);
  faults = (refl, refl);
}
