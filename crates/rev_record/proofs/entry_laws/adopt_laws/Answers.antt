-- Answers of adopt_laws: its two clauses, on ends that are adopted, are lemmas.
use Rattle.rev_record.proofs.Adopting.{adopts_so, known_fits}
use Rattle.rev_record.proofs.entry_laws.adopt_laws.Goals as goal

pub returns : goal.returns
returns c = record { fits = known_fits; ends = adopts_so }
