-- Answers of write_all: what the sink takes of the bytes left stands behind what it took before.
use Rattle.std.proofs.Common.{arith, length-drop}
use Rattle.rev_io.proofs.Streams.{taken, took_more}
use Rattle.rev_io.proofs.transfer.write_all.Goals as goal

pub loop-done-preserved : goal.loop-done-preserved
loop-done-preserved g c =
    let wrote = c.in_ok-done.ensures in
    record {
      within = omega (arith, length-drop c.loop-done.done c.args.bytes.now, wrote.0);
      took = took_more c.loop-done.invariant.took wrote.2
          (taken c.loop-done.done c.in_ok-done.field-0 c.args.bytes.now);
    }
