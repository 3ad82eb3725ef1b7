-- Answers of valid_law: its one clause, that marks tell where snapshots and inputs have the same reads, is a lemma.
use Rattle.leg_run.proofs.Marks.{agrees_by_marks}
use Rattle.leg_run.proofs.valid_law.Goals as goal

pub returns : goal.returns
returns g c = λ xs ys inputs other rs h. agrees_by_marks xs ys inputs other rs h
