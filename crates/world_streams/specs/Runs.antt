-- Runs whose text goes to a sink, leg by leg.
--   NeverTwiceFrom   no schedule leads from this world to Twice
--   PutsOn           a sink took a first part of what `main` gains on the way to some world
--   PutsAll          it took all of that
--   StreamsTo        what a sink took on the way to this world, or why it took no more
--   Begun            how a run began
--   PutsSince        what its sink took since, up to this world
--   StopsSince       what its sink took since, where it came to no end
use Rattle.std.specs.Prelude.{ℕ, ◌≡◌, ◌≢◌, List, Result, Ok, Err}
use Rattle.std.specs.Borrow.{MutBor}
use Rattle.rev_io.specs.Stream.{Stream, Rose, Took, TookSome}
use Rattle.revision_machine.specs.Numbered.{World, Both, Replays}
use Rattle.code_machine.specs.Local.{CodeRun, Local}
use Rattle.code_machine.specs.Machines.{numbered}
use Rattle.code_world.specs.Tables.{IsWorld}
use Rattle.code_world.specs.declared.world.World as rust
use Rattle.world_streams.specs.Legs.{Gains}
use Rattle.world_streams.specs.declared.fault.StreamFault.{StreamFault}
use Rattle.world_streams.specs.declared.fault.StreamFault.TheVariants as fault

abbrev pub NeverTwiceFrom : CodeRun → World (Local ℕ) → Type 0
NeverTwiceFrom g w = (ns : List ℕ) (u : World (Local ℕ)) → Replays (numbered g) w ns u → u ≢ Both

pub record PutsOn (g : CodeRun) (w : World (Local ℕ)) (v : rust.World) (old new : Stream) : Type 0 where
  pub schedule : List ℕ
  pub end : World (Local ℕ)
  pub replays : Replays (numbered g) w schedule end
  pub after : rust.World
  pub stands : IsWorld g after end
  pub gain : List ℕ
  pub gains : Gains v gain after
  pub part : TookSome old gain new

-- it took all that `main` gains
pub record PutsAll (v v' : rust.World) (old new : Stream) : Type 0 where
  pub gain : List ℕ
  pub gains : Gains v gain v'
  pub took : Took old gain new

abbrev pub StreamsTo : CodeRun → World (Local ℕ) → rust.World → Stream → Stream → Result rust.World StreamFault → Type 0
StreamsTo g w v old new (Ok v') = PutsAll v v' old new
StreamsTo g w v old new (Err fault.Sink) = Rose old new × PutsOn g w v old new
StreamsTo g w v old new (Err fault.OutOfMemory) = (new.faults ≡ old.faults) × PutsOn g w v old new

-- from this world, which stood so, with the sink behind this reference
pub record Begun (O : Type 0) : Type 0 where
  pub first : World (Local ℕ)
  pub stood : rust.World
  pub out : MutBor O

-- all that `main` gained on the way to this world was put
pub record PutsSince {O : Type 0} (stream : O → Stream) (b : Begun O) (g : CodeRun) (w : World (Local ℕ))
    (v : rust.World) (out : MutBor O) : Type 0 where
  pub same : out.ghost_name ≡ b.out.ghost_name
  pub never : NeverTwiceFrom g w
  pub schedule : List ℕ
  pub way : Replays (numbered g) b.first schedule w
  pub puts : PutsAll b.stood v (stream b.out.now) (stream out.now)

pub record StopsSince {O : Type 0} (stream : O → Stream) (b : Begun O) (g : CodeRun) (out : MutBor O) (f : StreamFault)
    : Type 0 where
  pub same : out.ghost_name ≡ b.out.ghost_name
  pub put : StreamsTo g b.first b.stood (stream b.out.now) (stream out.now) (Err f)
