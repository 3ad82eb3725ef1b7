-- `has_args`: as many kinds as arguments, at least.
use Rattle.std.proofs.Common.{ap, arith, length}
use Rattle.rev_record.proofs.Words.{args_room}
use Rattle.rev_record.proofs.valid.has_args.Goals as goal

pub args_values-requires-clause-many : goal.args_values-requires-clause-many
args_values-requires-clause-many c =
    let r = c.requires.begins in
    let h = args_room c.args.setting.now.code r.0 r.1 c.args.start.now r.2 c.block.result.now c.block.ensures in
    let p = ap length c.as_slice.ensures.value in
    let q = ap length c.as_slice-kinds.ensures in
    omega (arith, h, p, q)
