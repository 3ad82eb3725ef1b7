-- Kinds in a row, and the top of a stack.
use Rattle.std.proofs.Common.{◌≡◌, ◌∙◌, ℕ, zero, suc, ◌+◌, ◌<◌, false, List, [], ◌∷◌, ◌++◌, length, drop, take, Some, None, refl, sym, ap, arith, get_or}
use Rattle.std.specs.Prelude.{◌&&◌}
use Rattle.rev_num.specs.declared.value.ValueKind.{ValueKind}
use Rattle.rev_num.specs.declared.value.ValueKind.TheVariants as k
use Rattle.rev_num.specs.Value.{same_kind}
use Rattle.rev_code.specs.declared.code.LayoutItem.{LayoutItem}
use Rattle.rev_code.specs.declared.code.LayoutItem.TheVariants as item
use Rattle.rev_code.specs.Printing.{printed_kinds}
use Rattle.code_rules.specs.Shapes.{Shape, begins}
use Rattle.code_verifier.specs.ShapesByNumber.{first, rest}

kinds_append : (xs ys : List LayoutItem) → printed_kinds (xs ++ ys) ≡ printed_kinds xs ++ printed_kinds ys
kinds_append [] ys = refl
kinds_append (item.Int ∷ xs) ys = ap (λ y. k.Int ∷ y) (kinds_append xs ys)
kinds_append (item.Bool ∷ xs) ys = ap (λ y. k.Bool ∷ y) (kinds_append xs ys)
kinds_append (item.Text n ∷ xs) ys = kinds_append xs ys

take_more : {A : Type 0} (xs : List A) (n : ℕ) (d : A) → n < length xs
    → take (suc n) xs ≡ take n xs ++ get_or xs n d ∷ []
take_more [] n d h = absurd (omega (arith, h))
take_more (x ∷ xs) zero d h = refl
take_more (x ∷ xs) (suc n) d h = ap (λ y. x ∷ y) (take_more xs n d (omega (arith, h)))

pub kinds_more : (xs : List LayoutItem) (n : ℕ) (d : LayoutItem) → n < length xs
    → printed_kinds (take (n + 1) xs) ≡ printed_kinds (take n xs) ++ printed_kinds (get_or xs n d ∷ [])
kinds_more xs n d h =
    ap (λ y. printed_kinds (take y xs)) (let z : n + 1 ≡ suc n = omega arith in z)
    ∙ ap printed_kinds (take_more xs n d h) ∙ kinds_append (take n xs) (get_or xs n d ∷ [])

-- ---- a stack from a depth on

pub drop_rest : (n : ℕ) (s : Shape) → rest (drop n s) ≡ drop (n + 1) s
drop_rest n s = go n s ∙ ap (λ y. drop y s) (let z : suc n ≡ n + 1 = omega arith in z)
  where
    go : (n : ℕ) (s : Shape) → rest (drop n s) ≡ drop (suc n) s
    go zero [] = refl
    go zero (x ∷ s) = refl
    go (suc n) [] = refl
    go (suc n) (x ∷ s) = go n s

drop_get : {A : Type 0} (xs : List A) (n : ℕ) (d : A) → n < length xs → drop n xs ≡ get_or xs n d ∷ drop (suc n) xs
drop_get [] n d h = absurd (omega (arith, h))
drop_get (x ∷ xs) zero d h = refl
drop_get (x ∷ xs) (suc n) d h = drop_get xs n d (omega (arith, h))

begins_none : (x : ValueKind) (xs s : Shape) → first s ≡ None → begins (x ∷ xs) s ≡ false
begins_none x xs [] h = refl
begins_none x xs (y ∷ s) h = absurd (let z : Some y ≡ None = h in cc)

begins_some : (x y : ValueKind) (xs s : Shape) → first s ≡ Some y
    → begins (x ∷ xs) s ≡ same_kind x y && begins xs (rest s)
begins_some x y xs [] h = absurd (let z : None ≡ Some y = h in cc)
begins_some x y xs (w ∷ s) h = let e : w ≡ y = cc in ap (λ v. same_kind x v && begins xs s) e

pub no_more : (xs : Shape) (n : ℕ) (s : Shape) → n < length xs → None ≡ first s → begins (drop n xs) s ≡ false
no_more [] n s h e = absurd (omega (arith, h))
no_more (x ∷ xs) n s h e = ap (λ y. begins y s) (drop_get (x ∷ xs) n x h) ∙ begins_none _ _ s (sym e)

pub one_more : (xs : Shape) (n : ℕ) (s : Shape) (d y : ValueKind) → n < length xs → Some y ≡ first s
    → begins (drop n xs) s ≡ same_kind (get_or xs n d) y && begins (drop (n + 1) xs) (rest s)
one_more xs n s d y h e =
    ap (λ v. begins v s) (drop_get xs n d h) ∙ begins_some (get_or xs n d) y (drop (suc n) xs) s (sym e)
    ∙ ap (λ v. same_kind (get_or xs n d) y && begins (drop v xs) (rest s)) (let z : suc n ≡ n + 1 = omega arith in z)
