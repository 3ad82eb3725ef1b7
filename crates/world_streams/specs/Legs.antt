-- Legs whose text goes to a sink.
--   NeverTwiceBy    the leg of this revision does not lead to Twice, nor is the world Twice
--   Gains           a leg comes out so, and `main` has more text then
--   PutsSome        a sink took a first part of what a leg gains; or nothing
--   StreamsLeg      what a sink took of a leg that comes out so, or why it took no more
use Rattle.std.specs.Prelude.{ℕ, ◌≡◌, ◌≢◌, ◌⊎◌, ◌++◌, List, Some, Result, Ok, Err}
use Rattle.rev_io.specs.Stream.{Stream, Rose, Took, TookSome}
use Rattle.revision_machine.specs.Numbered as numbers
use Rattle.revision_machine.specs.Numbered.{World, Both}
use Rattle.code_machine.specs.Local.{CodeRun, Local}
use Rattle.code_machine.specs.Machines.{numbered}
use Rattle.code_world.specs.Answers.{LegAnswers}
use Rattle.code_world.specs.Said.{main_text}
use Rattle.code_world.specs.declared.answer.LegAnswer.{LegAnswer}
use Rattle.code_world.specs.declared.world.World as rust
use Rattle.world_streams.specs.declared.fault.StreamFault.{StreamFault}
use Rattle.world_streams.specs.declared.fault.StreamFault.TheVariants as fault

pub record NeverTwiceBy (g : CodeRun) (w : World (Local ℕ)) (n : ℕ) : Type 0 where
  pub now : w ≢ Both
  pub after : numbers.leg (numbered g) w n ≢ Some Both

-- what `main` has more in the second world
abbrev pub Gains : rust.World → List ℕ → rust.World → Type 0
Gains v gain v' = main_text v' ≡ main_text v ++ gain

pub record PutsSome (g : CodeRun) (w : World (Local ℕ)) (n : ℕ) (v : rust.World) (old new : Stream) : Type 0 where
  pub answer : LegAnswer
  pub after : rust.World
  pub answers : LegAnswers g w n answer after
  pub gain : List ℕ
  pub gains : Gains v gain after
  pub part : TookSome old gain new

abbrev pub StreamsLeg : CodeRun → World (Local ℕ) → ℕ → rust.World → Stream → Stream
    → Result (rust.World × LegAnswer) StreamFault → Type 0
StreamsLeg g w n v old new (Ok r) = (gain : List ℕ) × Gains v gain r.0 × Took old gain new
StreamsLeg g w n v old new (Err fault.Sink) = Rose old new × PutsSome g w n v old new
StreamsLeg g w n v old new (Err fault.OutOfMemory) =
    (new.faults ≡ old.faults) × (PutsSome g w n v old new ⊎ (new ≡ old))
