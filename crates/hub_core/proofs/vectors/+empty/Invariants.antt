-- Loops of empty: nothing is counted, since the value is none and so no call of itself is ever reached.
use Rattle.hub_core.proofs.vectors.+empty.Given as goal

abbrev pub decreases-empty : goal.decreases-empty
decreases-empty g l = 0
