-- The one choice of eight locations.
use Rattle.std.proofs.Common.{◌≡◌, ◌∙◌, ap, sym, refl, subst, ℕ, zero, suc, ◌+◌, ◌<◌, ◌≤◌, Bool, true, false, ◌&&◌, nat_lt, if◌then◌else◌, List, [], ◌∷◌, length, take, drop, slice_get, Option, Some, None, option_and_then, arith}
use Rattle.std.proofs.lemmas.Bool.Decides.{nat_tests}
use Rattle.rev_num.proofs.Lists.{false_no}
use Rattle.rev_syntax.proofs.Lists.{same-number}
use Rattle.rev_syntax.specs.Trees.{Expression}
use Rattle.std.specs.Prelude.{MatchBool}
use Rattle.merge_kernels.specs.Equal.{equal}
use Rattle.merge_kernels.proofs.Equality.{equal_is}
use Rattle.merge_kernels.specs.Plans.{the_choice, choice_at, is_choice, have, if_all, row_choice, is_true, has_row, AreWithin, IsRowFor}

pub both_true : (p q : Bool) → p && q ≡ true → (p ≡ true) × (q ≡ true)
both_true true q h = (refl, h)
both_true false q h = false_no h

is_some : Option ℕ → Type 0
is_some None = ⊥
is_some (Some n) = Unit {0}

none_some : {A : Type 0} (n : ℕ) → ◌≡◌ {A = Option ℕ} None (Some n) → A
unfolding is_some
none_some n e = absurd (subst is_some (sym e) tt)

or_zero : Option ℕ → ℕ
or_zero None = 0
or_zero (Some n) = n

some_is : (m n : ℕ) → ◌≡◌ {A = Option ℕ} (Some m) (Some n) → m ≡ n
unfolding or_zero
some_is m n e = ap or_zero e

choice_is : (n : ℕ) (c : Option ℕ) → is_choice n c ≡ true → c ≡ Some n
choice_is n (Some m) h = ap Some (same-number m n h)
choice_is n None h = false_no h

have_at : (n : ℕ) (cs : List (Option ℕ)) → have n cs ≡ true → (k : ℕ) → k < length cs
    → the_choice (slice_get cs k) ≡ Some n
have_at n [] h k below = absurd (omega arith)
have_at n (c ∷ cs) h zero below = choice_is n c (both_true (is_choice n c) (have n cs) h).0
have_at n (c ∷ cs) h (suc k) below = have_at n cs (both_true (is_choice n c) (have n cs) h).1 k (omega arith)

pub taken : (n k : ℕ) (cs : List (Option ℕ)) → k < n → slice_get (take n cs) k ≡ slice_get cs k
taken zero k cs h = absurd (omega arith)
taken (suc n) k [] h = refl
taken (suc n) zero (c ∷ cs) h = refl
taken (suc n) (suc k) (c ∷ cs) h = taken n k cs (omega arith)

pub dropped : (i k : ℕ) (cs : List (Option ℕ)) → slice_get (drop i cs) k ≡ slice_get cs (i + k)
dropped zero k cs = let e : k ≡ 0 + k = omega arith in ap (slice_get cs) e
dropped (suc i) k [] = refl
dropped (suc i) k (c ∷ cs) = let e : suc (i + k) ≡ suc i + k = omega arith in dropped i k cs ∙ ap (slice_get (c ∷ cs)) e

pub long : (n i : ℕ) (cs : List (Option ℕ)) → i + n ≤ length cs → length (take n (drop i cs)) ≡ n
long zero zero cs h = refl
long (suc n) zero [] h = absurd (omega arith)
long (suc n) zero (c ∷ cs) h = ap suc (long n zero cs (omega arith))
long n (suc i) [] h = absurd (omega arith)
long n (suc i) (c ∷ cs) h = long n i cs (omega arith)

if_all_is : (c : Option ℕ) (cs : List (Option ℕ)) (n : ℕ) → if_all c cs ≡ Some n → have n cs ≡ true
if_all_is None cs n e = none_some n e
if_all_is (Some m) cs n e = by (have m cs) refl e
  where
    by : (b : Bool) → have m cs ≡ b → (if b then Some m else None) ≡ Some n → have n cs ≡ true
    by true h e = subst (λ k. have k cs ≡ true) (some_is m n e) h
    by false h e = none_some n e

-- each of the eight has the choice
pub all_choose : (choices : List (Option ℕ)) (first n : ℕ) → row_choice choices first ≡ Some n → (k : ℕ) → k < 8
    → choice_at choices (first + k) ≡ Some n
unfolding row_choice
all_choose choices first n e k h = by (nat_lt (length choices) (first + 8)) refl e
  where
    by : (b : Bool) → nat_lt (length choices) (first + 8) ≡ b
        → (if b then None else if_all (choice_at choices first) (take 8 (drop first choices))) ≡ Some n
        → choice_at choices (first + k) ≡ Some n
    by true short e = none_some n e
    by false short e =
        let many : first + 8 ≤ length choices = grind (arith, nat_tests, short) in
        let all = if_all_is (choice_at choices first) (take 8 (drop first choices)) n e in
        ap the_choice (sym (dropped first k choices) ∙ sym (taken 8 k (drop first choices) h))
        ∙ have_at n (take 8 (drop first choices)) all k (omega (arith, h, long 8 first choices many))

-- the definition of that kernel was chosen for each of the eight
pub row_for : (choices : List (Option ℕ)) (kernels : List Expression) (first n : ℕ) (e : Expression)
    → row_choice choices first ≡ Some n → slice_get kernels n ≡ Some e → IsRowFor choices kernels first e
row_for choices kernels first n e is at k h =
    ap (option_and_then (slice_get kernels)) (all_choose choices first n is k h) ∙ at

-- what the choice is, by how many locations there are
pub short_is : (choices : List (Option ℕ)) (first : ℕ) → length choices < first + 8 → None ≡ row_choice choices first
unfolding row_choice
short_is choices first h =
    let short : nat_lt (length choices) (first + 8) ≡ true = grind (arith, nat_tests, h) in
    sym (ap (λ b. if b then None else if_all (choice_at choices first) (take 8 (drop first choices))) short)

pub long_is : (choices : List (Option ℕ)) (first : ℕ) → first + 8 ≤ length choices
    → if_all (choice_at choices first) (take 8 (drop first choices)) ≡ row_choice choices first
unfolding row_choice
long_is choices first h =
    let enough : nat_lt (length choices) (first + 8) ≡ false = grind (arith, nat_tests, h) in
    sym (ap (λ b. if b then None else if_all (choice_at choices first) (take 8 (drop first choices))) enough)

no_choice : (choices : List (Option ℕ)) (first : ℕ) → first + 8 ≤ length choices → choice_at choices first ≡ None
    → None ≡ row_choice choices first
no_choice choices first h none = ap (λ c. if_all c (take 8 (drop first choices))) (sym none) ∙ long_is choices first h

-- where the first has none
pub none_here : (choices : List (Option ℕ)) (first : ℕ) → choice_at choices first ≡ None
    → row_choice choices first ≡ None
none_here choices first none = by (nat_lt (length choices) (first + 8)) refl
  where
    by : (b : Bool) → nat_lt (length choices) (first + 8) ≡ b → row_choice choices first ≡ None
    by true short = sym (short_is choices first (grind (arith, nat_tests, short)))
    by false long = sym (no_choice choices first (grind (arith, nat_tests, long)) none)

pub one_choice : (choices : List (Option ℕ)) (first n : ℕ) (b : Bool) → first + 8 ≤ length choices
    → choice_at choices first ≡ Some n
    → b ≡ have n (take 8 (drop first choices)) → (if b then Some n else None) ≡ row_choice choices first
one_choice choices first n b h some is =
    ap (λ c. if c then Some n else None) is ∙ ap (λ c. if_all c (take 8 (drop first choices))) (sym some)
    ∙ long_is choices first h

-- where the first has one, by whether all have it
pub by_all : (choices : List (Option ℕ)) (first n : ℕ) (b : Bool) → first + 8 ≤ length choices
    → choice_at choices first ≡ Some n
    → b ≡ have n (take 8 (drop first choices))
    → MatchBool b (row_choice choices first ≡ Some n) (row_choice choices first ≡ None)
by_all choices first n true h some is = sym (one_choice choices first n true h some is)
by_all choices first n false h some is = sym (one_choice choices first n false h some is)

-- a choice is a place of the kernels
pub within_here : (choices : List (Option ℕ)) (kernels : List Expression) (first n : ℕ)
    → choice_at choices first ≡ Some n → AreWithin choices kernels → n < length kernels
within_here choices kernels first n is within = within first n is

pub row_told : (choices : List (Option ℕ)) (rows : List Bool) (first n : ℕ) (b : Bool)
    → row_choice choices first ≡ Some n → slice_get rows n ≡ Some b → b ≡ has_row choices rows first
row_told choices rows first n b is at = sym (ap (λ o. is_true (option_and_then (slice_get rows) o)) is ∙ ap is_true at)

pub no_row_told : (choices : List (Option ℕ)) (rows : List Bool) (first : ℕ) → row_choice choices first ≡ None
    → false ≡ has_row choices rows first
no_row_told choices rows first is = sym (ap (λ o. is_true (option_and_then (slice_get rows) o)) is)

-- the kernel of the first has no row
pub none_told : (choices : List (Option ℕ)) (rows : List Bool) (first n : ℕ) → choice_at choices first ≡ Some n
    → slice_get rows n ≡ Some false → false ≡ has_row choices rows first
none_told choices rows first n some at = by (row_choice choices first) refl
  where
    by : (o : Option ℕ) → row_choice choices first ≡ o → false ≡ has_row choices rows first
    by None is = no_row_told choices rows first is
    by (Some k) is =
        let here : first + 0 ≡ first = omega arith in
        let same : n ≡ k =
        some_is n k (sym some ∙ ap (choice_at choices) (sym here) ∙ all_choose choices first k is 0 (omega arith)) in
        row_told choices rows first k false is (ap (slice_get rows) (sym same) ∙ at)

pub row_same : (choices : List (Option ℕ)) (kernels : List Expression) (first n : ℕ) (d e : Expression)
    → equal d e ≡ true → row_choice choices first ≡ Some n → slice_get kernels n ≡ Some e
    → IsRowFor choices kernels first d
row_same choices kernels first n d e same is at =
    row_for choices kernels first n d is (at ∙ ap Some (sym (equal_is d e same)))
