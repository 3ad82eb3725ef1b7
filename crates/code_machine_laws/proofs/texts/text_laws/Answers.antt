-- Answers of text_laws: four lemmas, on legs, on first parts, on a world that is over, and on when Twice is told.
use Rattle.code_machine_laws.proofs.Growing.{legs_say}
use Rattle.code_machine_laws.proofs.Ending.{first_parts, over_is_all, twice_is_told}
use Rattle.code_machine_laws.proofs.texts.text_laws.Goals as goal

pub returns : goal.returns
returns c = record {
  legs = legs_say;
  parts = first_parts;
  all = over_is_all;
  twice = twice_is_told;
}
