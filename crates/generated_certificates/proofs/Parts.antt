-- The note at a place, and kept code is taken apart and put together.
use Rattle.std.proofs.Common.{◌≡◌, ◌∙◌, ℕ, zero, suc, ◌+◌, List, [], ◌∷◌, ◌++◌, length, Some, None, refl, sym, ap, subst, arith}
use Rattle.std.specs.Prelude.{slice_get}
use Rattle.rev_code.specs.declared.code.Code.{Code}
use Rattle.rev_code.specs.declared.code.CodeBlock.{CodeBlock}
use Rattle.rev_code.specs.declared.code.Instr.{Instr}
use Rattle.code_rules.specs.Pass.{Note, known}
use Rattle.code_soundness.specs.Certificate.{Fits}
use Rattle.generated_certificates.specs.Items.{noted}
use Rattle.generated_certificates.specs.RulesKept.{IsKept, AllKept}

pub nothing : Unit {0}
nothing = tt

-- ---- notes

pub note_here : (ns : List Note) (at : ℕ) (n : Note) → slice_get ns at ≡ Some n → noted ns at ≡ n
note_here ns at n h = ap known h

pub fits_eq : (n m : Note) → m ≡ n → Fits n m
fits_eq n m e = record { shape = ap (λ z. z.shape) (sym e); paid = λ h. ap (λ z. z.paid) (sym e) ∙ h }

-- ---- kept code

module _ (code : Code) (k : ℕ) (b : CodeBlock) (notes : ℕ → Note) (deepest : ℕ) where
  pub parts_kept : (xs ys : List Instr) (at m : ℕ) → length xs ≡ m → AllKept code k b notes deepest at xs
      → AllKept code k b notes deepest (at + m) ys → AllKept code k b notes deepest at (xs ++ ys)
  parts_kept [] ys at m e h q =
      subst (λ p. AllKept code k b notes deepest p ys) (let z : at + m ≡ at = omega (arith, e) in z) q
  parts_kept (x ∷ xs) ys at m e h q = (
    h.0,
    parts_kept xs ys (suc at) (length xs) refl h.1
        (subst (λ p. AllKept code k b notes deepest p ys) (let z : at + m ≡ suc at + length xs = omega (arith, e) in z)
        q),
  )

  pub around_kept : (xs ys : List Instr) (y : Instr) (at m to : ℕ) → length xs ≡ m → to ≡ at + m + 1
      → AllKept code k b notes deepest at xs → IsKept code k b notes deepest (at + m) y
      → AllKept code k b notes deepest to ys → AllKept code k b notes deepest at (xs ++ y ∷ ys)
  around_kept xs ys y at m to e z h j q = parts_kept xs (y ∷ ys) at m e h
      (j, subst (λ p. AllKept code k b notes deepest p ys) (let w : to ≡ suc (at + m) = omega (arith, z) in w) q)

  -- with an instruction behind
  pub one_kept : (xs : List Instr) (y : Instr) (at m : ℕ) → length xs ≡ m → AllKept code k b notes deepest at xs
      → IsKept code k b notes deepest (at + m) y → AllKept code k b notes deepest at (xs ++ y ∷ [])
  one_kept xs y at m e h j = parts_kept xs (y ∷ []) at m e h (j, nothing)

  pub each_kept : (xs : List Instr) (at j : ℕ) (x : Instr) → AllKept code k b notes deepest at xs
      → slice_get xs j ≡ Some x → IsKept code k b notes deepest (at + j) x
  each_kept [] at j x h e = absurd (let z : None ≡ Some x = e in cc)
  each_kept (y ∷ xs) at zero x h e =
      subst (λ p. IsKept code k b notes deepest p x) (let z : at ≡ at + 0 = omega arith in z)
      (subst (λ u. IsKept code k b notes deepest at u) (let w : y ≡ x = cc in w) h.0)
  each_kept (y ∷ xs) at (suc j) x h e =
      subst (λ p. IsKept code k b notes deepest p x) (let z : suc at + j ≡ at + suc j = omega arith in z)
      (each_kept xs (suc at) j x h.1 e)
