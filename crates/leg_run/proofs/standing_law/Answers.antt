-- Answers of standing_law: by the kinds of block and notes words and registers decode in one way, to one state.
use Rattle.leg_run.proofs.Decoding.{its_state}
use Rattle.leg_run.proofs.standing_law.Goals as goal

pub returns : goal.returns
returns c = its_state
