-- Kinds, tests and lists, and the instructions before a place, for theories of the pass.
use Rattle.std.proofs.Common.{◌≡◌, ◌∙◌, ℕ, zero, suc, ◌+◌, ◌<◌, ◌≤◌, Bool, true, false, ◌&&◌, ◌||◌, List, [], ◌∷◌, ◌++◌, length, Option, Some, None, refl, sym, ap, arith, true≢false, take}
use Rattle.std.specs.Prelude.{slice_get, nat_lt, if◌then◌else◌}
use Rattle.std.proofs.lemmas.Bool.Decides.{nat_tests}
use Rattle.rev_num.specs.Value.{same_kind}
use Rattle.rev_num.proofs.SameKinds.{same_kind_self, same_kind_is}
use Rattle.rev_code.specs.declared.code.Code.{Code}
use Rattle.rev_code.specs.declared.code.CodeBlock.{CodeBlock}
use Rattle.rev_code.specs.declared.code.Instr.{Instr}
use Rattle.code_rules.specs.declared.Rule.{Rule}
use Rattle.code_rules.specs.Shapes.{Shape, same_shape}
use Rattle.code_rules.specs.Pass.{Passed, gone, passed, before}
pub use Rattle.std.proofs.lemmas.Bool.{and_parts, or_parts, not-true as not_true, not-false as not_false}
pub use Rattle.std.proofs.lemmas.List.{length-append as append_length}
pub use Rattle.std.proofs.lemmas.Option.{slice_get_within as some_within}
pub use Rattle.rev_num.proofs.Lists.{within_some}
pub use Rattle.rev_num.proofs.Options.{some_eq}
pub use Rattle.rev_num.proofs.Options.{none_some}

-- ---- kinds and tests

pub same_is : (xs ys : Shape) → same_shape xs ys ≡ true → xs ≡ ys
same_is [] [] h = refl
same_is [] (y ∷ ys) h = absurd (true≢false (sym h))
same_is (x ∷ xs) [] h = absurd (true≢false (sym h))
same_is (x ∷ xs) (y ∷ ys) h =
    let z = and_parts (same_kind x y) (same_shape xs ys) h in
    let a = same_kind_is x y z.0 in
    let b = same_is xs ys z.1 in
    λ i. a i ∷ b i

pub and_false : (d e : Bool) → d && e ≡ false → d ≡ true → e ≡ false
and_false true e h p = h
and_false false e h p = absurd (true≢false (sym p))

pub if_none : (d : Bool) (w : Rule) (r : Option Rule) → (if d then Some w else r) ≡ None → (d ≡ false) × (r ≡ None)
if_none true w r h = absurd (let z : Some w ≡ None = h in cc)
if_none false w r h = (refl, h)

pub parts : (p q r s : Bool) → (p || q || r || s) ≡ false → (p ≡ false) × (q ≡ false) × (r ≡ false) × (s ≡ false)
parts false false false false h = (refl, refl, refl, refl)
parts true q r s h = absurd (true≢false h)
parts false true r s h = absurd (true≢false h)
parts false false true s h = absurd (true≢false h)
parts false false false true h = absurd (true≢false h)

pub no_length : (s : Shape) → nat_lt 0 (length s) ≡ false → s ≡ []
no_length [] h = refl
no_length (x ∷ s) h = absurd (let z : 0 < length (x ∷ s) = omega arith in grind (arith, nat_tests, h, z))

-- ---- the instructions before a place

pub take_whole : {A : Type 0} (xs : List A) (n : ℕ) → length xs ≡ n → take n xs ≡ xs
take_whole [] zero h = refl
take_whole [] (suc n) h = refl
take_whole (x ∷ xs) zero h = absurd (omega (arith, h))
take_whole (x ∷ xs) (suc n) h = ap (λ z. x ∷ z) (take_whole xs n (omega (arith, h)))

pub take_front : {A : Type 0} (xs ys : List A) (n : ℕ) → length xs ≡ n → take n (xs ++ ys) ≡ xs
take_front [] ys zero h = refl
take_front [] ys (suc n) h = absurd (omega (arith, h))
take_front (x ∷ xs) ys zero h = absurd (omega (arith, h))
take_front (x ∷ xs) ys (suc n) h = ap (λ z. x ∷ z) (take_front xs ys n (omega (arith, h)))

pub get_last : {A : Type 0} (xs : List A) (y : A) (n : ℕ) → length xs ≡ n → slice_get (xs ++ y ∷ []) n ≡ Some y
get_last [] y zero h = refl
get_last [] y (suc n) h = absurd (omega (arith, h))
get_last (x ∷ xs) y zero h = absurd (omega (arith, h))
get_last (x ∷ xs) y (suc n) h = get_last xs y n (omega (arith, h))

pub take_some : {A : Type 0} (xs : List A) (n : ℕ) (x : A) → slice_get xs n ≡ Some x
    → take (suc n) xs ≡ take n xs ++ x ∷ []
take_some [] n x h = absurd (let z : None ≡ Some x = h in cc)
take_some (y ∷ xs) zero x h = let e : y ≡ x = cc in ap (λ z. z ∷ []) e
take_some (y ∷ xs) (suc n) x h = ap (λ z. y ∷ z) (take_some xs n x h)

pub length_take : {A : Type 0} (xs : List A) (n : ℕ) → n ≤ length xs → length (take n xs) ≡ n
length_take xs zero h = refl
length_take [] (suc n) h = absurd (omega (arith, h))
length_take (x ∷ xs) (suc n) h = ap suc (length_take xs n (omega (arith, h)))

pub gone_snoc : (code : Code) (b : CodeBlock) (done : List Passed) (xs : List Instr) (x : Instr)
    → gone code b done (xs ++ x ∷ []) ≡ passed code b (gone code b done xs) x ∷ gone code b done xs
gone_snoc code b done [] x = refl
gone_snoc code b done (y ∷ xs) x = gone_snoc code b (passed code b done y ∷ done) xs x

pub gone_length : (code : Code) (b : CodeBlock) (done : List Passed) (xs : List Instr)
    → length (gone code b done xs) ≡ length done + length xs
gone_length code b done [] = omega arith
gone_length code b done (x ∷ xs) = let r = gone_length code b (passed code b done x ∷ done) xs in omega (arith, r)

pub before_next : (code : Code) (b : CodeBlock) (at : ℕ) (x : Instr) → slice_get b.instrs at ≡ Some x
    → before code b (suc at) ≡ passed code b (before code b at) x ∷ before code b at
before_next code b at x h = ap (gone code b []) (take_some b.instrs at x h) ∙ gone_snoc code b [] (take at b.instrs) x

pub before_length : (code : Code) (b : CodeBlock) (at : ℕ) → at ≤ length b.instrs → length (before code b at) ≡ at
before_length code b at h =
    let a = gone_length code b [] (take at b.instrs) in let l = length_take b.instrs at h in omega (arith, a, l)

pub same_self : (s : Shape) → same_shape s s ≡ true
same_self [] = refl
same_self (x ∷ s) = ap (λ d. d && same_shape s s) (same_kind_self x) ∙ same_self s
