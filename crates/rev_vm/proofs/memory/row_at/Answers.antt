-- Answers of row_at: in ascending order, 64 places whose last location is the first and 63 more are a row.
use Rattle.std.proofs.Common.{arith, ◌/◌}
use Rattle.version_map.proofs.Following.{location_at}
use Rattle.rev_vm.proofs.Rows.{row_between}
use Rattle.rev_vm.proofs.memory.row_at.Goals as goal

pub returns-clause-row : goal.returns-clause-row
returns-clause-row c =
    let ws = c.args.written.now in
    let i = c.args.place in
    let first = location_at ws i in
    let here = c.requires.here in
    let whole = c.if-first-ne0.false in
    let room = c.if-written-place-lt64.false in
    let last = c.if-written-place.false in
    row_between ws i (first / 64) c.requires.ascending (omega (arith, room, here)) (omega (arith, whole))
    (omega (arith, whole, last))
