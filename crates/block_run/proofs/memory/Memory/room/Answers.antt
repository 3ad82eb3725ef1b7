-- Answers of Memory::room: of rows of 0 nothing was written, and of another one no more than it has bits.
use Rattle.std.proofs.Common.{arith}
use Rattle.std.proofs.lemmas.Nat.{ones-le}
use Rattle.block_run.proofs.Rooms.{count_more, count_all}
use Rattle.block_run.proofs.memory.Memory.room.Goals as goal

pub loop-row-smaller : goal.loop-row-smaller
loop-row-smaller g c =
    let low = c.in-Some.ensures.0 in
    let within = c.in-Some.ensures.1 in omega (arith, low, within)

pub overflow_add-room : goal.overflow_add-room
overflow_add-room g c =
    let inv = c.loop-row.invariant in
    let few = inv.few in let many = inv.within in let size = c.args.self.now.first.roots.sized.1 in
    let ones = ones-le 64 c.mask_row.result c.mask_row.type_inv in omega (arith, few, many, size, ones)

pub overflow_add-from : goal.overflow_add-from
overflow_add-from g c =
    let within = c.in-Some.ensures.1 in
    let size = c.args.self.now.first.roots.sized.1 in omega (arith, within, size)

pub loop-row-preserved : goal.loop-row-preserved
loop-row-preserved g c =
    let inv = c.loop-row.invariant in
    let next = c.in-Some.ensures in
    let low = next.0 in let within = next.1 in let few = inv.few in
    let ones = ones-le 64 c.mask_row.result c.mask_row.type_inv in
    record {
      few = omega (arith, few, low, ones);
      within = omega (arith, within);
      room = count_more c.args.self.now.first.roots c.loop-row.from c.in-Some.row c.mask_row.result c.loop-row.room low
          next.3 c.mask_row.ensures inv.room;
    }

pub returns : goal.returns
returns g c =
    count_all c.args.self.now.first.roots c.loop-row.from _ c.loop-row.room c.args.self.now.roots c.in_default.ensures
    c.loop-row.invariant.room
