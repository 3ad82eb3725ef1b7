-- Answers of read_text: where memory for the piece is wanting, what was read is still within the limit and one.
use Rattle.std.proofs.Common.{arith, ◌≤◌, ◌+◌, length, ◌++◌, take}
use Rattle.std.proofs.lemmas.Grind.{common_steps}
use Rattle.rev_io.proofs.Streams.{gave_more}
use Rattle.rev_io.proofs.transfer.read_text.Goals as goal

pub returns-then-is_err : goal.returns-then-is_err
returns-then-is_err g c =
    let read = c.in-Ok.ensures in
    let most : length (c.loop-piece.text.items ++ take c.in-Ok.count c.read.new.buf) ≤ c.args.limit + 1 =
    grind (arith, common_steps) in
    let gave = gave_more c.loop-piece.invariant.gave read.1 in
    (gave.calm, (c.loop-piece.text.items ++ take c.in-Ok.count c.read.new.buf, most, gave.told))
