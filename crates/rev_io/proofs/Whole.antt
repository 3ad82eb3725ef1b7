-- What follows from the answers of reading and writing all.
use Rattle.std.proofs.Common.{List, ℕ, length}
use Rattle.std.proofs.Math.Seq.{take-length}
use Rattle.std.specs.Prelude.{Result, Ok, Err, ⊤}
use Rattle.rev_io.specs.Stream.{Stream, Took, TookSome, WritesAll}
use Rattle.rev_io.specs.declared.SinkFault.{SinkFault}
use Rattle.rev_io.specs.declared.SinkFault.TheVariants as sink

-- a write that took all took a first part
pub all_taken : (old new : Stream) (bytes : List ℕ) → Took old bytes new → TookSome old bytes new
all_taken old new bytes took held is = (length bytes, rw take-length (took.told held is))

pub some_taken : (old new : Stream) (bytes : List ℕ) (r : Result ⊤ SinkFault) → WritesAll old new bytes r
    → TookSome old bytes new
some_taken old new bytes (Ok u) h = all_taken old new bytes h
some_taken old new bytes (Err sink.Failed) h = h.1
some_taken old new bytes (Err sink.OutOfMemory) h = h.1
