-- Lists from a place on.
use Rattle.std.proofs.Common.{◌≡◌, ◌∙◌, ℕ, zero, suc, ◌+◌, ◌<◌, ◌≤◌, Bool, true, cond, List, [], ◌∷◌, length, drop, refl, sym, ap, arith, get_or, map}
use Rattle.std.specs.List.{fold}
use Rattle.rev_code.specs.declared.code.CodeBlock.{CodeBlock}
use Rattle.rev_code.specs.declared.code.CodeVar.{CodeVar}
use Rattle.rev_code.specs.declared.code.BlockClass.{BlockClass}
use Rattle.code_rules.specs.Tables as tables
use Rattle.std.proofs.lemmas.List.{drop_more}

pub count_more : (f : BlockClass → Bool) (xs : List CodeBlock) (n : ℕ) (d : CodeBlock) → n < length xs
    → f (get_or xs n d).class ≡ true → tables.count_class f (drop n xs) ≡ suc (tables.count_class f (drop (n + 1) xs))
count_more f xs n d h e =
    ap (tables.count_class f) (drop_more xs n d h)
    ∙ ap (λ y. cond y (suc (tables.count_class f (drop (n + 1) xs))) (tables.count_class f (drop (n + 1) xs))) e

fold_from : (xs : List ℕ) (n : ℕ) → fold ◌+◌ n xs ≡ n + fold ◌+◌ 0 xs
fold_from [] n = omega arith
fold_from (x ∷ xs) n =
    let a = fold_from xs (n + x) in
    let b = fold_from xs (0 + x) in
    let z : (n + x) + fold ◌+◌ 0 xs ≡ n + ((0 + x) + fold ◌+◌ 0 xs) = omega arith in
    a ∙ z ∙ ap (λ y. n + y) (sym b)

pub locations_more : (xs : List CodeVar) (n : ℕ) (d : CodeVar) → n < length xs
    → tables.locations (drop n xs) ≡ (get_or xs n d).cells + tables.locations (drop (n + 1) xs)
locations_more xs n d h =
    ap tables.locations (drop_more xs n d h)
    ∙ fold_from (map (λ v. v.cells) (drop (n + 1) xs)) (0 + (get_or xs n d).cells)
    ∙ ap (λ y. y + tables.locations (drop (n + 1) xs))
    (let z : 0 + (get_or xs n d).cells ≡ (get_or xs n d).cells = omega arith in z)

pub main_last : (xs : List CodeBlock) (n : ℕ) (d : CodeBlock) → length xs ≡ n + 1
    → tables.ends_in_main (drop n xs) ≡ tables.is_main (get_or xs n d).class
main_last xs n d h =
    ap tables.ends_in_main (drop_more xs n d (omega (arith, h)))
    ∙ ap (λ y. tables.ends_in_main (get_or xs n d ∷ y)) (past xs (n + 1) (omega (arith, h)))
  where
    past : (xs : List CodeBlock) (n : ℕ) → length xs ≤ n → drop n xs ≡ []
    past [] zero h = refl
    past [] (suc n) h = refl
    past (x ∷ xs) zero h = absurd (omega (arith, h))
    past (x ∷ xs) (suc n) h = past xs n (omega (arith, h))
