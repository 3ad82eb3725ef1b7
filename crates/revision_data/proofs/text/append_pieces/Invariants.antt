-- Loops of append_pieces: the bytes are those at first with those of the pieces so far.
use Rattle.std.proofs.Common.{◌≡◌, ◌++◌, take}
use Rattle.revision_data.specs.Pieces.{all_bytes}
use Rattle.revision_data.proofs.text.append_pieces.Given as goal

abbrev pub invariant-loop-piece : goal.invariant-loop-piece
invariant-loop-piece l = l.bytes.items ≡ l.initial.bytes.items ++ all_bytes (take l.piece-index l.pieces)
