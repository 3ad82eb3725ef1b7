-- Answers of end_law: composing and absorbing look at the joined one's locations, text, fuel and phase alone.
use Rattle.determinacy.proofs.Joining.{join_same}
use Rattle.determinacy.proofs.ends.end_law.Goals as goal

pub returns : goal.returns
returns c = join_same
