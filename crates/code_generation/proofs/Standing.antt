-- What stands in a list, as code in a block, is taken apart, and jumps are put together.
use Rattle.std.proofs.Common.{◌≡◌, ℕ, zero, suc, ◌+◌, List, [], ◌∷◌, ◌++◌, length, Some, None, refl, sym, ap, subst, append_assoc, arith}
use Rattle.std.specs.Prelude.{slice_get}
use Rattle.rev_code.specs.declared.code.Instr.{Instr}
use Rattle.code_rules.specs.Pass.{target}
use Rattle.code_generation.specs.Stands.{HasItems, Leads, AllLead}

nothing : Unit {0}
nothing = tt

-- ---- what stands there

module _ {A : Type 0} (whole : List A) where
  -- the first part, and the second, which begins as many items further on
  pub parts_stand : (xs ys : List A) (at m : ℕ) → length xs ≡ m → HasItems whole at (xs ++ ys)
      → HasItems whole at xs × HasItems whole (at + m) ys
  parts_stand [] ys at m e h =
      (nothing, subst (λ p. HasItems whole p ys) (let z : at ≡ at + m = omega (arith, e) in z) h)
  parts_stand (x ∷ xs) ys at m e h =
      let r = parts_stand xs ys (suc at) (length xs) refl h.1 in
      ((h.0, r.0), subst (λ p. HasItems whole p ys) (let z : suc at + length xs ≡ at + m = omega (arith, e) in z) r.1)

  -- the first part, an item, and the part behind it
  pub around_stands : (xs ys : List A) (y : A) (at m to : ℕ) → length xs ≡ m → to ≡ at + m + 1
      → HasItems whole at (xs ++ y ∷ ys)
      → HasItems whole at xs × ((slice_get whole (at + m) ≡ Some y) × HasItems whole to ys)
  around_stands xs ys y at m to e z h =
      let r = parts_stand xs (y ∷ ys) at m e h in
      (r.0, (r.1.0, subst (λ p. HasItems whole p ys) (let w : suc (at + m) ≡ to = omega (arith, z) in w) r.1.1))

-- ---- all of a list stands in it

module _ {A : Type 0} where
  pub all_stands : (before xs : List A) → HasItems (before ++ xs) (length before) xs
  all_stands before [] = nothing
  all_stands before (x ∷ xs) = (
    here before,
    subst (λ w. HasItems w (suc (length before)) xs) (append_assoc before (x ∷ []) xs)
        (subst (λ p. HasItems ((before ++ x ∷ []) ++ xs) p xs) (longer before) (all_stands (before ++ x ∷ []) xs)),
  )
    where
      here : (bs : List A) → slice_get (bs ++ x ∷ xs) (length bs) ≡ Some x
      here [] = refl
      here (b ∷ bs) = here bs

      longer : (bs : List A) → length (bs ++ x ∷ []) ≡ suc (length bs)
      longer [] = refl
      longer (b ∷ bs) = ap suc (longer bs)

  pub whole_stands : (xs : List A) → HasItems xs 0 xs
  whole_stands xs = all_stands [] xs

-- ---- jumps

module _ (back : ℕ → Type 0) (last : ℕ) where
  pub parts_lead : (xs ys : List Instr) (at m : ℕ) → length xs ≡ m → AllLead back last at xs
      → AllLead back last (at + m) ys → AllLead back last at (xs ++ ys)
  parts_lead [] ys at m e h k = subst (λ p. AllLead back last p ys) (let z : at + m ≡ at = omega (arith, e) in z) k
  parts_lead (x ∷ xs) ys at m e h k = (
    h.0,
    parts_lead xs ys (suc at) (length xs) refl h.1
        (subst (λ p. AllLead back last p ys) (let z : at + m ≡ suc at + length xs = omega (arith, e) in z) k),
  )

  pub around_leads : (xs ys : List Instr) (y : Instr) (at m to : ℕ) → length xs ≡ m → to ≡ at + m + 1
      → AllLead back last at xs → Leads back last (at + m) (target y) → AllLead back last to ys
      → AllLead back last at (xs ++ y ∷ ys)
  around_leads xs ys y at m to e z h j k = parts_lead xs (y ∷ ys) at m e h
      (j, subst (λ p. AllLead back last p ys) (let w : to ≡ suc (at + m) = omega (arith, z) in w) k)

  -- with an instruction behind that does not jump
  pub one_leads : (xs : List Instr) (y : Instr) (at m : ℕ) → length xs ≡ m → target y ≡ None → AllLead back last at xs
      → AllLead back last at (xs ++ y ∷ [])
  one_leads xs y at m e j h =
      parts_lead xs (y ∷ []) at m e h (subst (λ t. Leads back last (at + m) t) (sym j) nothing, nothing)

  pub each_leads : (xs : List Instr) (at k : ℕ) (x : Instr) → AllLead back last at xs → slice_get xs k ≡ Some x
      → Leads back last (at + k) (target x)
  each_leads [] at k x h e = absurd (let z : None ≡ Some x = e in cc)
  each_leads (y ∷ xs) at zero x h e =
      subst (λ p. Leads back last p (target x)) (let z : at ≡ at + 0 = omega arith in z)
      (subst (λ u. Leads back last at (target u)) (let w : y ≡ x = cc in w) h.0)
  each_leads (y ∷ xs) at (suc k) x h e =
      subst (λ p. Leads back last p (target x)) (let z : suc at + k ≡ at + suc k = omega arith in z)
      (each_leads xs (suc at) k x h.1 e)
