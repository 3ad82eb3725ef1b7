-- Runs of instructions of a block, with notes of what they read where notes are on.
--   AheadNoting   some steps on, and the notes there
--   EndsNoting    why a run ends, and the notes then: an instruction that traps has read too
use Rattle.std.specs.Prelude.{ℕ, ℤ, Bool, List, ◌++◌, Option}
use Rattle.rev_code.specs.declared.code.Code.{Code}
use Rattle.rev_code.specs.declared.code.CodeBlock.{CodeBlock}
use Rattle.rev_code.specs.State.{State}
pub use Rattle.code_machine_laws.specs.Reads.{reads_of, step_reads}
use Rattle.block_run.specs.declared.registers.Registers.{Registers}
use Rattle.block_run.specs.declared.registers.Stop.{Stop}
use Rattle.block_run.specs.declared.registers.Stop.TheVariants as stop
use Rattle.block_run.specs.Standing.{Mode, setting_in, Ahead, IsTrapped, IsLeaving}
use Rattle.block_run.specs.declared.notes.Notes.{Notes}
use Rattle.leg_run.specs.Marks.{marks_of}
use Rattle.block_run.specs.WhereOn.{HasNoted}

pub record AheadNoting (noting : Bool) (code : Code) (inputs : List ℤ) (m : Mode) (b : CodeBlock) (c : State ℕ)
    (ws : List ℕ) (r : Registers) (seen : ℕ → ℕ) (root : ℕ → Option ℕ) (old new : Notes) : Type 0 where
  pub ahead : Ahead code inputs m b c ws r seen root
  pub noted : HasNoted noting old new (marks_of (reads_of ahead.steps))

abbrev pub EndsNoting : (noting : Bool) (code : Code) (inputs : List ℤ) (m : Mode) (b : CodeBlock) (c : State ℕ)
    → Stop → List ℕ → Registers → (ℕ → ℕ) → (ℕ → Option ℕ) → (old new : Notes) → Type 0
EndsNoting noting code inputs m b c stop.Goes ws r seen root old new = ⊥
EndsNoting noting code inputs m b c (stop.Traps e) ws r seen root old new =
    (t : IsTrapped code inputs m b c e ws r seen root)
    × HasNoted noting old new (marks_of (reads_of t.steps ++ step_reads (setting_in code inputs m) t.before))
EndsNoting noting code inputs m b c stop.Leaves ws r seen root old new =
    (l : IsLeaving code inputs m b c ws r seen root) × HasNoted noting old new (marks_of (reads_of l.ahead.steps))
