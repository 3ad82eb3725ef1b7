-- What was not read does not matter, and what was read is what the snapshot and the input have.
use Rattle.std.specs.Prelude.{◌≡◌, ℕ, ℤ, List}
use Rattle.rev_code.specs.Words.{Word}
use Rattle.rev_code.specs.State.{Setting, State}
use Rattle.rev_code.specs.Step.{step, reach}
use Rattle.code_machine_laws.specs.Reached.{snapshots}
use Rattle.code_machine_laws.specs.Reads.{step_reads, reach_reads}
use Rattle.code_machine_laws.specs.Moved.{moved, moved_comes, AllAgree}

-- the same code and funs, with other inputs and another share
abbrev pub with_inputs : {H : Type 0} → Setting H → List ℤ → (share : ℕ) → Setting H
with_inputs s inputs share = record s { inputs = inputs; share = share }

-- a step over another snapshot and under another input, which have what the step reads
abbrev pub StepIsByReads : Type 0 → Type 0
StepIsByReads H =
    (s : Setting H) (c : State H) (xs : List (Word H)) (inputs : List ℤ) (share : ℕ)
    → AllAgree xs inputs (step_reads s c)
    → step (with_inputs s inputs share) (moved xs c) ≡ moved_comes xs (step s c)

-- and as many steps as one likes, up to their event; they read the same
abbrev pub ReachIsByReads : Type 0 → Type 0
ReachIsByReads H =
    (s : Setting H) (k : ℕ) (c : State H) (xs : List (Word H)) (inputs : List ℤ) (share : ℕ)
    → AllAgree xs inputs (reach_reads s k c)
    → (reach (with_inputs s inputs share) k (moved xs c) ≡ moved_comes xs (reach s k c))
    × (reach_reads (with_inputs s inputs share) k (moved xs c) ≡ reach_reads s k c)

-- what a revision reads is what its own snapshot and input have
abbrev pub OwnReadsAgree : Type 0 → Type 0
OwnReadsAgree H =
    (s : Setting H) (k : ℕ) (c : State H) → AllAgree (snapshots c.locations) s.inputs (reach_reads s k c)
