-- Answers of piece_laws: three lemmas, on a part of a part, on a part behind a whole, and on a count that rises.
use Rattle.world_streams.proofs.Putting.{rose_behind, some_behind, some_longer}
use Rattle.world_streams.proofs.pieces.piece_laws.Goals as goal

pub returns : goal.returns
returns c = record {
  longer = some_longer;
  behind = some_behind;
  rises = rose_behind;
}
