-- Runs to the outcome whose text goes to a sink.
--   PutsPart   a sink took a first part of the text of the outcome
--   Streamed   what a sink took of a run to its outcome, or why it took no more
use Rattle.std.specs.Prelude.{ℕ, ◌≡◌, Result, Ok, Err}
use Rattle.rev_io.specs.Stream.{Stream, Rose, Took, TookSome}
use Rattle.rev_num.specs.declared.outcome.Outcome.{Outcome}
use Rattle.code_machine.specs.Local.{CodeRun}
use Rattle.code_machine_laws.specs.Outcomes.{HasOutcome}
use Rattle.code_machine_laws.specs.Texts.{said}
use Rattle.world_streams.specs.declared.fault.StreamFault.{StreamFault}
use Rattle.world_streams.specs.declared.fault.StreamFault.TheVariants as fault

abbrev pub PutsPart : CodeRun → (fuel : ℕ) → Stream → Stream → Type 0
PutsPart g fuel old new = (end : Outcome) → HasOutcome g fuel end → TookSome old (said end) new

-- at the end all of the text of the outcome; else a first part, and a fault of the sink exactly where
-- its count rose
abbrev pub Streamed : CodeRun → (fuel : ℕ) → Stream → Stream → Result Outcome StreamFault → Type 0
Streamed g fuel old new (Ok end) = HasOutcome g fuel end × Took old (said end) new
Streamed g fuel old new (Err fault.Sink) = Rose old new × PutsPart g fuel old new
Streamed g fuel old new (Err fault.OutOfMemory) = (new.faults ≡ old.faults) × PutsPart g fuel old new
