-- Answers of most_applied: the greatest room of the instructions left is that of the first or of those behind it.
use Rattle.std.proofs.Common.{◌+◌, ap, arith}
use Rattle.std.specs.Prelude.{drop}
use Rattle.fun_run.specs.Rooms.{greatest_room}
use Rattle.fun_run.proofs.Slices.{drop_at}
use Rattle.fun_run.proofs.rooms.most_applied.Goals as goal

pub loop-n-preserved : goal.loop-n-preserved
loop-n-preserved c =
    let rest = greatest_room c.args.rooms.now (drop (c.loop-n.n + 1) c.args.instrs.now) in
    let d = ap (greatest_room c.args.rooms.now)
    (drop_at c.args.instrs.now c.loop-n.n c.instr_in.result c.instr_in.ensures) in
    let m = c.max-most.ensures in
    let a = c.applied_in.ensures in
    let inv = c.loop-n.invariant.most in
    record { most = omega (arith, d, m, a, inv) }
