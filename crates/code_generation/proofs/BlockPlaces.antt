-- The blocks of a program's code from a place on.
use Rattle.std.proofs.Common.{◌≡◌, ◌∙◌, ℕ, suc, ◌+◌, List, ◌∷◌, Some, refl, ap, arith}
use Rattle.std.specs.Prelude.{slice_get}
use Rattle.rev_syntax.specs.Trees.{ProgramTree}
use Rattle.rev_code.specs.declared.code.Code.{Code}
use Rattle.rev_code.specs.declared.code.CodeBlock.{CodeBlock}
use Rattle.code_generation.specs.Generated.{code_of}

module _ (p : ProgramTree) where
  abbrev code : Code
  code = code_of p

  pub Stand : ℕ → List CodeBlock → Type 0
  Stand at bs = (j : ℕ) (b : CodeBlock) → slice_get bs j ≡ Some b → slice_get code.blocks (at + j) ≡ Some b

  pub first_stands : (at : ℕ) (b : CodeBlock) (bs : List CodeBlock) → Stand at (b ∷ bs)
      → slice_get code.blocks at ≡ Some b
  unfolding Stand
  first_stands at b bs h = ap (slice_get code.blocks) (let z : at ≡ at + 0 = omega arith in z) ∙ h 0 b refl

  pub rest_stands : (at : ℕ) (b : CodeBlock) (bs : List CodeBlock) → Stand at (b ∷ bs) → Stand (suc at) bs
  unfolding Stand
  rest_stands at b bs h j c e =
      ap (slice_get code.blocks) (let z : suc at + j ≡ at + suc j = omega arith in z) ∙ h (suc j) c e

  pub all_stand : Stand 0 code.blocks
  unfolding Stand
  all_stand j b h = ap (slice_get code.blocks) (let z : 0 + j ≡ j = omega arith in z) ∙ h
