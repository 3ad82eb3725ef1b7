-- Legs, with notes of what they read where notes are on.
--   HasNotedLeg   the notes have what the leg from this state reads more, and nothing else
--   RoundTo       a block and the instruction that leaves it, with notes of what they read
use Rattle.std.specs.Prelude.{ℕ, ◌≡◌, ℤ, Bool, List, ◌++◌, Option}
use Rattle.rev_code.specs.declared.code.Code.{Code}
use Rattle.rev_code.specs.State.{State}
use Rattle.rev_code.specs.Step.{goes, step, Steps}
use Rattle.rev_code.specs.Funs.{setting}
use Rattle.leg_run.specs.Runs.{step_reads, reads_of}
use Rattle.leg_run.specs.ByMarks.{leg_reads}
pub use Rattle.block_run.specs.declared.notes.ReadMarks.{ReadMarks}
pub use Rattle.block_run.specs.declared.notes.Notes.{Notes}
pub use Rattle.leg_run.specs.Marks.{marks_of, HasMarked}
pub use Rattle.block_run.specs.WhereOn.{HasMarkedIfOn, HasNoted, HasPlaces, HasPlacesIfOn}
use Rattle.leg_run.specs.declared.revision.Run.{Run}
use Rattle.leg_run.specs.declared.turn.BlockExit.{BlockExit}
use Rattle.leg_run.specs.declared.turn.BlockExit.TheVariants as turn
use Rattle.leg_run.specs.Ends.{EventAt, StandsAt}
use Rattle.leg_run.specs.Standing.{Stands}

abbrev pub HasNotedLeg : (noting : Bool) → Code → List ℤ → (share : ℕ) → State ℕ → (old new : Notes) → Type 0
HasNotedLeg noting code inputs share c old new =
    HasNoted noting old new (marks_of (leg_reads (record { code = code; inputs = inputs; share = share }) c))

-- the notes have what these steps read, and the instruction behind them
abbrev pub HasNotedTo : (noting : Bool) (code : Code) (inputs : List ℤ) (share : ℕ) (c last : State ℕ)
    → Steps (setting code inputs share) c last → (old new : Notes) → Type 0
HasNotedTo noting code inputs share c last steps old new =
    HasNoted noting old new (marks_of (reads_of steps ++ step_reads (setting code inputs share) last))

abbrev pub RoundTo : (noting : Bool) → Code → List ℤ → (share : ℕ) → State ℕ → BlockExit → Run → (seen : ℕ → ℕ)
    → (root : ℕ → Option ℕ) → (old new : Notes) → Type 0
RoundTo noting code inputs share c turn.Goes run seen root old new =
    (last : State ℕ) × (next : State ℕ) × (steps : Steps (setting code inputs share) c last)
    × (step (setting code inputs share) last ≡ goes next) × Stands code inputs share run seen root next
    × HasNotedTo noting code inputs share c last steps old new
RoundTo noting code inputs share c (turn.Ends e) run seen root old new =
    (last : State ℕ) × (c' : State ℕ) × (steps : Steps (setting code inputs share) c last)
    × EventAt (setting code inputs share) last e c' × StandsAt code inputs share c' e run seen root
    × HasNotedTo noting code inputs share c last steps old new
