-- Answers of typing_laws: three lemmas, that the rules are sound and complete, and that a kind is the only one.
use Rattle.typed_programs.proofs.Typings.{sound, complete, only}
use Rattle.rev_kinds.proofs.laws.typing_laws.Goals as goal

pub returns : goal.returns
returns c = record { sound = sound; complete = complete; only = only }
