-- What code has in which the verifier finds no fault.
--   IsAccepted    each block has a certificate, and the tables keep their rules
--   AreCosts      what the blocks cost, each by the costs of those before it, within the limits
use Rattle.std.specs.Prelude.{ℕ, ◌≡◌, ◌+◌, ◌≤◌, true, List, [], length, take, Option, Some, None, slice_get}
use Rattle.rev_code.specs.declared.code.Code.{Code}
use Rattle.rev_code.specs.declared.code.CodeBlock.{CodeBlock}
use Rattle.rev_code.specs.declared.code.Instr.{Instr}
use Rattle.code_rules.specs.declared.Cost.{Cost}
use Rattle.code_rules.specs.Pass.{Note, Passed, entry, gone, is_value_class, applied, block_cost, most_need, most_count}
use Rattle.code_rules.specs.Tables.{names_well, is_small}
use Rattle.code_rules.specs.Verdict.{first_fault}
use Rattle.code_soundness.specs.Certificate.{AllCertified, note_at}

pub record IsAccepted (code : Code) (notes : ℕ → ℕ → Note) : Type 0 where
  pub certified : AllCertified code notes
  pub named : names_well code ≡ true
  pub small : is_small code ≡ true

-- what the pass notes, by block and place
abbrev pub notes_in : Code → Option CodeBlock → ℕ → Note
notes_in code None = λ at. entry
notes_in code (Some b) = note_at code b

abbrev pub notes_of : Code → ℕ → ℕ → Note
notes_of code n = notes_in code (slice_get code.blocks n)

-- all instructions of a block, as the pass goes over them
abbrev pub all_passed : Code → CodeBlock → List Passed
all_passed code b = gone code b [] b.instrs

pub record AreCosts (code : Code) (costs : List Cost) : Type 0 where
  pub each : (n : ℕ) (b : CodeBlock) → slice_get code.blocks n ≡ Some b
      → slice_get costs n ≡ Some (block_cost code (take n costs) b (all_passed code b))
  pub need : (n : ℕ) (c : Cost) → slice_get costs n ≡ Some c → c.need ≤ most_need
  pub count : (n : ℕ) (c : Cost) → slice_get costs n ≡ Some c → c.count ≤ most_count
  -- at each place of a fun or merge: its locals, its stack, and the need of the fun that is applied
  pub room : (n : ℕ) (b : CodeBlock) (c : Cost) → slice_get code.blocks n ≡ Some b
      → slice_get costs n ≡ Some c → is_value_class b.class ≡ true
      → (at : ℕ) (x : Instr) → slice_get b.instrs at ≡ Some x
      → length b.locals + length (notes_of code n at).shape + (applied (take n costs) x).need ≤ c.need

abbrev pub NoFaultIsAccepted : Type 0
NoFaultIsAccepted = (code : Code) → first_fault code ≡ None → IsAccepted code (notes_of code)

abbrev pub NoFaultIsWithinLimits : Type 0
NoFaultIsWithinLimits =
    (code : Code) → first_fault code ≡ None → (costs : List Cost) × AreCosts code costs
