-- A certificate: a note for each place of a block, such that each instruction fits the notes round it.
--   Fits          what is found fits what was noted: the same shape, and paid where the note says so
--   IsNoted       what an instruction finds and leaves, by the notes
--   IsCertified   all instructions of a block
--   AllCertified  all blocks of code
--   note_at       the note that the pass makes at a place
use Rattle.std.specs.Prelude.{ℕ, suc, ◌≡◌, ◌<◌, ◌≤◌, true, false, List, [], length, Some, Ok, slice_get}
use Rattle.rev_code.specs.declared.code.Code.{Code}
use Rattle.rev_code.specs.declared.code.CodeBlock.{CodeBlock}
use Rattle.rev_code.specs.declared.code.Instr.{Instr}
use Rattle.code_rules.specs.declared.Cost.{Cost}
use Rattle.code_rules.specs.Shapes.{takes, begins, shape_after}
use Rattle.code_rules.specs.Pass as pass
use Rattle.code_rules.specs.Pass.{Note, entry, after, known, arrival, before, bad_jump, bad_operand, bad_local, falls_off, is_bare, is_paid_for, is_value_class, falls, block_fault, most_words}

pub record Fits (found noted : Note) : Type 0 where
  pub shape : found.shape ≡ noted.shape
  pub paid : noted.paid ≡ true → found.paid ≡ true

-- what an instruction leaves where this is noted
abbrev pub leaves : Code → CodeBlock → Note → Instr → Note
leaves code b note x = after code b (record { instr = x; note = note })

-- an earlier instruction jumps to this place
pub record IsJumped (b : CodeBlock) (to : ℕ) : Type 0 where
  pub from : ℕ
  pub earlier : from < to
  pub instr : Instr
  pub is : slice_get b.instrs from ≡ Some instr
  pub jumps : pass.target instr ≡ Some to

pub record IsNoted (code : Code) (n : ℕ) (b : CodeBlock) (notes : ℕ → Note) (at : ℕ) (x : Instr) : Type 0 where
  pub target : bad_jump b at (pass.target x) ≡ false
  pub operand : bad_operand code n b x ≡ false
  pub found : begins (takes code b (notes at).shape x) (notes at).shape ≡ true
  pub bare : is_bare x ≡ true → length (notes at).shape ≡ length (takes code b (notes at).shape x)
  pub paid : is_paid_for x ≡ true → (notes at).paid ≡ true
  pub local : bad_local b x ≡ false
  pub inside : falls_off b at x ≡ false
  pub small : is_value_class b.class ≡ false → length (shape_after code b (notes at).shape x) ≤ most_words
  pub on : falls x ≡ true → Fits (leaves code b (notes at) x) (notes (suc at))
  pub jump : (to : ℕ) → pass.target x ≡ Some to → at < to → Fits (leaves code b (notes at) x) (notes to)
  pub back : (to : ℕ) → pass.target x ≡ Some to → to ≤ at → shape_after code b (notes at).shape x ≡ []

pub record IsCertified (code : Code) (n : ℕ) (b : CodeBlock) (notes : ℕ → Note) : Type 0 where
  pub some : 0 < length b.instrs
  pub start : Fits entry (notes 0)
  pub each : (at : ℕ) (x : Instr) → slice_get b.instrs at ≡ Some x → IsNoted code n b notes at x

-- each block of the code has a certificate
abbrev pub AllCertified : Code → (ℕ → ℕ → Note) → Type 0
AllCertified code notes = (n : ℕ) (b : CodeBlock) → slice_get code.blocks n ≡ Some b → IsCertified code n b (notes n)

abbrev pub note_at : Code → CodeBlock → ℕ → Note
note_at code b at = known (arrival code b (before code b at))

abbrev pub AcceptedIsCertified : Type 0
AcceptedIsCertified =
    (code : Code) (costs : List Cost) (n : ℕ) (b : CodeBlock) (cost : Cost) → block_fault code costs n b ≡ Ok cost
    → IsCertified code n b (note_at code b)
