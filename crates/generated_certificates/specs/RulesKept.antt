-- Code that keeps all rules at its places, by notes.
--   IsWithin   a block whose jumps stay inside and whose last instruction does not go on to the
--              next place, and a number of words, which has a limit except in a fun or merge
--   IsKept     an instruction fits the notes, and what it leaves is at most so many words
--   AllKept    instructions from a place on
use Rattle.std.specs.Prelude.{◌≡◌, ◌⊎◌, ◌≤◌, ℕ, suc, false, List, [], ◌∷◌, Some, length, slice_get}
use Rattle.rev_code.specs.declared.code.Code.{Code}
use Rattle.rev_code.specs.declared.code.CodeBlock.{CodeBlock}
use Rattle.rev_code.specs.declared.code.Instr.{Instr}
use Rattle.code_rules.specs.Shapes.{shape_after}
use Rattle.code_rules.specs.Pass.{Note, entry, target, falls, bad_jump, falls_off, is_value_class, most_words}
use Rattle.code_soundness.specs.Certificate.{Fits, IsJumped, IsNoted}

pub record IsWithin (b : CodeBlock) (deepest : ℕ) : Type 0 where
  pub jumps : (at : ℕ) (x : Instr)
      → slice_get b.instrs at ≡ Some x → bad_jump b at (target x) ≡ false
  pub ends : (at : ℕ) (x : Instr) → slice_get b.instrs at ≡ Some x → falls_off b at x ≡ false
  pub small : is_value_class b.class ≡ false → deepest ≤ most_words

pub record IsKept (code : Code) (n : ℕ) (b : CodeBlock) (notes : ℕ → Note) (deepest at : ℕ)
    (x : Instr) : Type 0 where
  pub noted : IsNoted code n b notes at x
  pub anew : falls x ≡ false → Fits entry (notes (suc at)) ⊎ IsJumped b (suc at)
  pub low : length (shape_after code b (notes at).shape x) ≤ deepest

abbrev pub AllKept : Code → ℕ → CodeBlock → (ℕ → Note) → (deepest at : ℕ) → List Instr → Type 0
AllKept code n b notes deepest at [] = Unit {0}
AllKept code n b notes deepest at (x ∷ xs) =
    IsKept code n b notes deepest at x × AllKept code n b notes deepest (suc at) xs
