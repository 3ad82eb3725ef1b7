-- Loops of write_all: the sink took the bytes up to this place and no others.
use Rattle.std.proofs.Common.{length, ◌-◌, ◌≤◌, take}
use Rattle.rev_io.specs.Stream.{Took}
use Rattle.rev_io.proofs.transfer.write_all.Given as goal

-- the bytes up to `done` were taken
abbrev pub invariant-loop-done : goal.invariant-loop-done
invariant-loop-done g l = record {
  within : l.done ≤ length l.bytes;
  took : Took (g.K.Sink.stream l.fn.sink) (take l.done l.bytes) (g.K.Sink.stream l.sink);
}

abbrev pub decreases-loop-done : goal.decreases-loop-done
decreases-loop-done g l = length l.bytes - l.done
