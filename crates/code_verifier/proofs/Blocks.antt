-- The pass over blocks.
use Rattle.std.proofs.Common.{◌≡◌, ◌∙◌, ℕ, zero, suc, ◌+◌, ◌<◌, Bool, true, false, List, [], ◌∷◌, ◌++◌, length, Some, None, refl, sym, ap, subst, arith, drop, get_or, length-append}
use Rattle.std.specs.Prelude.{slice_get, nat_lt, IfOk, Result, Ok}
use Rattle.std.proofs.lemmas.Bool.Decides.{nat_tests}
use Rattle.rev_code.specs.declared.code.Code.{Code}
use Rattle.rev_code.specs.declared.code.CodeBlock.{CodeBlock}
use Rattle.code_rules.specs.declared.Cost.{Cost}
use Rattle.code_rules.specs.declared.Rule.{Rule}
use Rattle.code_rules.specs.Pass.{block_fault, blocks_fault, fault_or}
use Rattle.code_verifier.specs.Spending.{AllCheap, IsCheap}
use Rattle.code_verifier.proofs.Tries.{get_or_some, get_last}
use Rattle.code_soundness.proofs.Basics.{some_within}
use Rattle.rev_num.proofs.Lists.{get_append}

pub drop_suc : {A : Type 0} (xs : List A) (n : ℕ) (x : A) → slice_get xs n ≡ Some x → drop n xs ≡ x ∷ drop (suc n) xs
drop_suc [] n x h = absurd (let z : None ≡ Some x = h in cc)
drop_suc (y ∷ xs) zero x h = (let e : y ≡ x = cc in ap (λ z. z ∷ xs) e)
drop_suc (y ∷ xs) (suc n) x h = drop_suc xs n x h

-- what `as_slice` lends
pub block_here : (xs ys : List CodeBlock) (n : ℕ) (b : CodeBlock) → xs ≡ ys → n < length xs → b ≡ get_or xs n b
    → slice_get ys n ≡ Some b
block_here xs ys n b e h g = ap (λ z. slice_get z n) (sym e) ∙ get_or_some xs n b h g

pub blocks_next : (code : Code) (costs costs' costs'' : List Cost) (n : ℕ) (b : CodeBlock) (cost : Cost)
    (r : Result Cost (ℕ × Rule))
    → slice_get code.blocks n ≡ Some b → costs' ≡ costs → r ≡ block_fault code costs' n b → r ≡ Ok cost
    → costs'' ≡ costs ++ cost ∷ []
    → blocks_fault code costs n (drop n code.blocks) ≡ blocks_fault code costs'' (n + 1) (drop (n + 1) code.blocks)
blocks_next code costs costs' costs'' n b cost r here same verdict ok pushed =
    let z : suc n ≡ n + 1 = omega arith in
    let v : block_fault code costs n b ≡ Ok cost = ap (λ y. block_fault code y n b) (sym same) ∙ sym verdict ∙ ok in
    ap (blocks_fault code costs n) (drop_suc code.blocks n b here)
    ∙ ap (λ y. fault_or n y (λ c. blocks_fault code (costs ++ c ∷ []) (suc n) (drop (suc n) code.blocks))) v
    ∙ (λ i. blocks_fault code (sym pushed i) (z i) (drop (z i) code.blocks))

pub cheap_push : (costs costs'' : List Cost) (cost : Cost) → costs'' ≡ costs ++ cost ∷ [] → AllCheap costs
    → IsCheap cost → AllCheap costs''
cheap_push costs costs'' cost e all one = subst AllCheap (sym e) pushed
  where
    pushed : AllCheap (costs ++ cost ∷ [])
    pushed n c h = by (nat_lt n (length costs)) refl
      where
        inside : n < suc (length costs)
        inside =
            let a = some_within (costs ++ cost ∷ []) n c h in
            let l = length-append costs (cost ∷ []) in
            omega (arith, a, l)

        by : (d : Bool) → nat_lt n (length costs) ≡ d → IsCheap c
        by true q = all n c (sym (get_append costs (cost ∷ []) n (grind (arith, nat_tests, q))) ∙ h)
        by false q =
            let i = inside in
            let z : n ≡ length costs = grind (arith, nat_tests, q, i) in
            let w : Some cost ≡ Some c = sym (get_last costs cost) ∙ ap (slice_get (costs ++ cost ∷ [])) (sym z) ∙ h in
            subst IsCheap (let y : cost ≡ c = cc in y) one

pub ok_cheap : (r : Result Cost (ℕ × Rule)) (cost : Cost) → IfOk r IsCheap → r ≡ Ok cost → IsCheap cost
ok_cheap r cost h e = subst (λ y. IfOk y IsCheap) e h
