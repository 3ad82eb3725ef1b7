-- Answers of worked_code: the code of each worked program computes to the code that stands in the rows.
use Rattle.std.proofs.Common.{refl}
use Rattle.code_generation.proofs.worked_code.Goals as goal

pub returns : goal.returns
returns c = record {
  prints_seven = refl;
  has_an_array = refl;
  all_forms = refl;
}
