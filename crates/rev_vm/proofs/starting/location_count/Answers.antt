-- Answers of location_count: accepted code has few locations, so no sum overflows, and the whole sum is their count.
use Rattle.std.proofs.Common.{ap, arith}
use Rattle.std.proofs.Math.ListN.{drop_of_length-le}
use Rattle.block_run.specs.Area.{count}
use Rattle.block_run.proofs.Tables.{few_locations, count_drop}
use Rattle.rev_vm.proofs.starting.location_count.Goals as goal

pub overflow_add-total : goal.overflow_add-total
overflow_add-total c =
    let few = few_locations c.args.code.now c.requires in
    let e = c.loop-at.invariant.total in
    let v = ap count c.loop-at.invariant.vars in
    let d = count_drop c.as_slice-vars.result.now c.loop-at.at c.index-vars-at.result c.loop-at-test.true in
    omega (arith, few, e, v, d)

pub returns : goal.returns
returns c =
    let e = c.loop-at.invariant.total in
    let v = ap count c.loop-at.invariant.vars in
    let none = ap count (drop_of_length-le c.as_slice-vars.result.now c.loop-at-test.false) in
    omega (arith, e, v, none)
