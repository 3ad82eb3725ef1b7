-- Loops of share_pieces: the pieces are those at first with the others so far.
use Rattle.std.proofs.Common.{◌≡◌, ◌++◌, take}
use Rattle.revision_data.proofs.text.share_pieces.Given as goal

abbrev pub invariant-loop-piece : goal.invariant-loop-piece
invariant-loop-piece l = l.pieces.items ≡ l.initial.pieces.items ++ take l.piece-index l.others
