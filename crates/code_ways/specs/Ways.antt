-- The ways through a block, of which the rules on shapes and on payment speak.
--   IsStart   ways start at the first instruction, and behind a Jump or Return where no earlier jump leads
--   Arrives   a way brings this shape to a place, by the instruction before it or by jumps ahead
--   Way       a way to a place, and whether a Charge stands on it behind its last Call or Fork
use Rattle.std.specs.Prelude.{ℕ, suc, ◌≡◌, ◌<◌, Bool, true, false, [], Some, slice_get}
use Rattle.rev_code.specs.declared.code.Code.{Code}
use Rattle.rev_code.specs.declared.code.CodeBlock.{CodeBlock}
use Rattle.rev_code.specs.declared.code.Instr.{Instr}
use Rattle.code_rules.specs.Shapes.{Shape, shape_after}
use Rattle.code_rules.specs.Pass.{target, falls, paid_after, bad_jump}
use Rattle.code_soundness.specs.Certificate.{IsJumped}

pub data IsStart (b : CodeBlock) : ℕ → Type 0 where
  first : IsStart b 0
  behind : (at : ℕ) (x : Instr) → slice_get b.instrs at ≡ Some x → falls x ≡ false
      → (IsJumped b (suc at) → ⊥) → IsStart b (suc at)

pub data Arrives (code : Code) (b : CodeBlock) : ℕ → Shape → Type 0 where
  starts : (at : ℕ) → IsStart b at → Arrives code b at []
  falls_on : (at : ℕ) (s : Shape) (x : Instr) → Arrives code b at s → slice_get b.instrs at ≡ Some x
      → falls x ≡ true → Arrives code b (suc at) (shape_after code b s x)
  jumps_on : (at to : ℕ) (s : Shape) (x : Instr) → Arrives code b at s → slice_get b.instrs at ≡ Some x
      → target x ≡ Some to → at < to → Arrives code b to (shape_after code b s x)

-- a jump that is at fault itself makes no way
pub data Way (b : CodeBlock) : ℕ → Bool → Type 0 where
  begins : (at : ℕ) → IsStart b at → Way b at false
  goes_on : (at : ℕ) (paid : Bool) (x : Instr) → Way b at paid → slice_get b.instrs at ≡ Some x
      → falls x ≡ true → Way b (suc at) (paid_after paid x)
  jumps : (at to : ℕ) (paid : Bool) (x : Instr) → Way b at paid → slice_get b.instrs at ≡ Some x
      → target x ≡ Some to → bad_jump b at (target x) ≡ false → Way b to (paid_after paid x)
