-- Answers of next_piece: what the scan finds is exactly the longest piece that the text begins with.
use Rattle.rev_syntax.proofs.Exact.{exact-scan}
use Rattle.rev_syntax.proofs.scan.next_piece.Goals as goal

pub returns : goal.returns
returns c = rw c.scan.ensures (exact-scan c.args.at c.args.text.now c.requires.some)
