-- What a revision that runs code reads of what comes from outside of it: of its snapshot and of the input.
--   Read         a location and its word in the snapshot; a position of the input and the number there; or how many
--                input numbers there are
--   step_reads   what the next instruction of a state reads. A location that the revision has written is none
--   reach_reads  what several instructions read, in their order
--   reads_of     what the instructions of these steps read
use Rattle.std.specs.Prelude.{ℕ, zero, suc, ℤ, pos, negsuc, List, [], ◌∷◌, ◌++◌, length, Option, Some, None, slice_get}
use Rattle.rev_code.specs.declared.code.Instr.{Instr}
use Rattle.rev_code.specs.declared.code.Instr.TheVariants as i
use Rattle.rev_code.specs.declared.code.CodeBlock.{CodeBlock}
use Rattle.rev_code.specs.Words.{Word, int}
use Rattle.rev_code.specs.State.{Location, Setting, State}
use Rattle.rev_code.specs.Variables.{Place, scalar, array, cell_at}
use Rattle.rev_code.specs.Step as code
use Rattle.rev_code.specs.Step.{Comes, goes, traps, forks, joins, ends, stuck, step, Steps}

pub data Read (H : Type 0) : Type 0 where
  location : ℕ → Word H → Read H
  input : ℕ → ℤ → Read H
  count : ℕ → Read H

-- ---- locations

abbrev pub if_unwritten : {H : Type 0} → ℕ → (snapshot : Word H) → (written : Option (Word H)) → List (Read H)
if_unwritten n w None = location n w ∷ []
if_unwritten n w (Some x) = []

abbrev pub of_location : {H : Type 0} → ℕ → Option (Location H) → List (Read H)
of_location n None = []
of_location n (Some l) = if_unwritten n l.snapshot l.written

abbrev pub of_place : {H : Type 0} → List (Location H) → Option ℕ → List (Read H)
of_place ls None = []
of_place ls (Some n) = of_location n (slice_get ls n)

abbrev pub of_scalar : {H : Type 0} → List (Location H) → Option Place → List (Read H)
of_scalar ls None = []
of_scalar ls (Some p) = of_place ls (Some p.first)

-- an index that is out of range reads nothing
abbrev pub of_cell : {H : Type 0} → List (Location H) → Option Place → List (Word H) → List (Read H)
of_cell ls (Some p) (int n ∷ rest) = of_place ls (cell_at p n)
of_cell ls _ _ = []

-- ---- input

-- a position in range reads the number there, one out of range the count
abbrev pub of_position : {H : Type 0} → List ℤ → ℕ → Option ℤ → List (Read H)
of_position inputs n (Some z) = input n z ∷ []
of_position inputs n None = count (length inputs) ∷ []

abbrev pub of_index : {H : Type 0} → List ℤ → ℤ → List (Read H)
of_index inputs (pos n) = of_position inputs n (slice_get inputs n)
of_index inputs (negsuc n) = count (length inputs) ∷ []

abbrev pub of_input : {H : Type 0} → List ℤ → List (Word H) → List (Read H)
of_input inputs (int n ∷ rest) = of_index inputs n
of_input inputs _ = []

-- ---- steps

abbrev pub act_reads : {H : Type 0} → Setting H → State H → Instr → List (Read H)
act_reads s c (i.LoadShared v) = of_scalar c.locations (scalar s.code.vars v)
act_reads s c (i.LoadCell v) = of_cell c.locations (array s.code.vars v) c.stack
act_reads s c i.LoadInput = of_input s.inputs c.stack
act_reads s c i.CountInput = count (length s.inputs) ∷ []
act_reads s c _ = []

abbrev pub reads_at : {H : Type 0} → Setting H → State H → Option Instr → List (Read H)
reads_at s c None = []
reads_at s c (Some x) = act_reads s c x

abbrev pub reads_in : {H : Type 0} → Setting H → State H → Option CodeBlock → List (Read H)
reads_in s c None = []
reads_in s c (Some b) = reads_at s c (slice_get b.instrs c.at)

abbrev pub step_reads : {H : Type 0} → Setting H → State H → List (Read H)
step_reads s c = reads_in s c (slice_get s.code.blocks c.block)

-- ---- several steps

abbrev pub then_reads : {H : Type 0} → (State H → List (Read H)) → Comes H → List (Read H)
then_reads f (goes c) = f c
then_reads f (traps c e) = []
then_reads f (forks c n args) = []
then_reads f (joins c try h) = []
then_reads f (ends c w) = []
then_reads f stuck = []

-- as many further instructions as `reach` of the step goes on for
abbrev pub reach_reads : {H : Type 0} → Setting H → ℕ → State H → List (Read H)
reach_reads s zero c = step_reads s c
reach_reads s (suc k) c = step_reads s c ++ then_reads (λ c'. reach_reads s k c') (step s c)

abbrev pub reads_of : {H : Type 0} {t : Setting H} {c c' : State H} → Steps t c c' → List (Read H)
reads_of code.none = []
reads_of {t = t} (code.more {c = c} e rest) = step_reads t c ++ reads_of rest
