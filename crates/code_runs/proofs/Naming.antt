-- Paths by births.
use Rattle.std.proofs.Common.{◌≡◌, ◌∙◌, inl, inr, ℕ, zero, suc, ◌+◌, ◌-◌, ◌<◌, ◌≤◌, Bool, true, false, List, [], ◌∷◌, ◌++◌, length, get_or, take, reverse, Option, Some, None, refl, sym, ap, arith}
use Rattle.std.proofs.Math.Dec.{eqb-suc-zero}
use Rattle.std.proofs.lemmas.Bool.Decides.{nat_tests}
use Rattle.std.proofs.lemmas.List.{reverse-append, take_more}
use Rattle.std.specs.Prelude.{◌&&◌, nat_eq}
use Rattle.rev_num.specs.Path.{Path, child, same}
use Rattle.revision_machine.specs.Laws.{IsIn}
use Rattle.revision_machine.specs.Numbered.{at_number, or_path}
use Rattle.revision_machine.proofs.Lists.{at_none}
use Rattle.code_world.specs.declared.table.Birth.{Birth}
use Rattle.code_world.specs.Endings.{Names}
use Rattle.code_runs.specs.Births.{forked_as, path_in}

module _ {A : Type 0} where
  at_within : (xs : List A) (n : ℕ) → at_number xs n ≡ None → length xs ≤ n
  at_within [] n e = omega arith
  at_within (x ∷ xs) zero e = absurd (let z : Some x ≡ None = e in cc)
  at_within (x ∷ xs) (suc n) e = let h = at_within xs n e in omega (arith, h)

module _ (bs : List Birth) (paths : List Path) (names : Names bs paths) where
  pub forker_before : (n : ℕ) (b : Birth) → forked_as bs n ≡ Some b → b.forker < n
  forker_before zero b e = absurd (let z : None ≡ Some b = e in cc)
  forker_before (suc n) b e = let h = (names.named (suc n) b e).1 in omega (arith, h)

  -- the path of a forked revision
  pub path_more : (n : ℕ) (b : Birth) → forked_as bs n ≡ Some b
      → path_in paths n ≡ child (path_in paths b.forker) b.place
  path_more zero b e = absurd (let z : None ≡ Some b = e in cc)
  path_more (suc n) b e =
      let h = names.named (suc n) b e in
      ap (λ o. or_path o []) h.3 ∙ ap (λ q. child q b.place) (sym (ap (λ o. or_path o []) h.2))

  main_path : (o : Option Birth) → at_number bs 0 ≡ o → path_in paths 0 ≡ []
  main_path (Some b) e = ap (λ o. or_path o []) (names.named 0 b e)
  main_path None e =
      let few = at_within bs 0 e in
      let same = names.all in
      ap (λ o. or_path o []) (at_none paths 0 (omega (arith, few, same)))

  -- and of any other
  pub path_none : (n : ℕ) → forked_as bs n ≡ None → path_in paths n ≡ []
  path_none zero e = main_path (at_number bs 0) refl
  path_none (suc n) e =
      let few = at_within bs (suc n) e in
      let same = names.all in
      ap (λ o. or_path o []) (at_none paths (suc n) (omega (arith, few, same)))

append_assoc : (xs ys zs : List ℕ) → (xs ++ ys) ++ zs ≡ xs ++ (ys ++ zs)
append_assoc [] ys zs = refl
append_assoc (x ∷ xs) ys zs = ap (λ us. x ∷ us) (append_assoc xs ys zs)

-- one place more, with the later ones behind it
pub place_more : (q more more' : List ℕ) (k : ℕ) → more' ≡ more ++ k ∷ []
    → q ++ reverse more' ≡ child q k ++ reverse more
place_more q more more' k is =
    ap (λ xs. q ++ xs) (ap reverse is ∙ reverse-append more (k ∷ []))
    ∙ sym (append_assoc q (k ∷ []) (reverse more))

-- ---- numbers of paths

-- the path of a number of the births is that of the paths
pub path_there : (bs : List Birth) (paths : List Path) → Names bs paths → (n : ℕ) → n < length bs
    → at_number paths n ≡ Some (path_in paths n)
path_there bs paths names n small = by (at_number paths n) refl
  where
    by : (o : Option Path) → at_number paths n ≡ o → at_number paths n ≡ Some (path_in paths n)
    by None e = absurd (let few = at_within paths n e in let same = names.all in omega (arith, few, same, small))
    by (Some p) e = e ∙ ap (λ z. Some (or_path z [])) (sym e)

-- where each path of a number is another one, this is none of them
pub none_there : (paths : List Path) (p : Path) → ((n : ℕ) → n < length paths → at_number paths n ≡ Some p → ⊥)
    → IsIn p paths → ⊥
none_there [] p none i = i
none_there (q ∷ paths) p none (inl e) = none 0 (omega arith) (ap Some (sym e))
none_there (q ∷ paths) p none (inr i) = none_there paths p (λ n small e. none (suc n) (omega (arith, small)) e) i

-- two paths with these ends are the same where their ends and the paths before them are
pub same_more : (q r : Path) (k j : ℕ) → same (child q k) (child r j) ≡ (nat_eq k j && same q r)
same_more [] [] k j = by (nat_eq k j)
  where
    by : (b : Bool) → (b && true) ≡ (b && true)
    by b = refl
same_more [] (y ∷ r) k j = shorter (nat_eq k y) r j (nat_eq k j)
  where
    shorter : (b : Bool) (r : Path) (j : ℕ) (c : Bool) → (b && same [] (child r j)) ≡ (c && false)
    shorter true [] j true = refl
    shorter true [] j false = refl
    shorter true (x ∷ r) j true = refl
    shorter true (x ∷ r) j false = refl
    shorter false r j true = refl
    shorter false r j false = refl
same_more (x ∷ q) [] k j = longer (nat_eq x j) q k (nat_eq k j)
  where
    longer : (b : Bool) (q : Path) (k : ℕ) (c : Bool) → (b && same (child q k) []) ≡ (c && false)
    longer true [] k true = refl
    longer true [] k false = refl
    longer true (x ∷ q) k true = refl
    longer true (x ∷ q) k false = refl
    longer false q k true = refl
    longer false q k false = refl
same_more (x ∷ q) (y ∷ r) k j =
    ap (λ b. nat_eq x y && b) (same_more q r k j) ∙ swap (nat_eq x y) (nat_eq k j) (same q r)
  where
    swap : (a b c : Bool) → (a && (b && c)) ≡ (b && (a && c))
    swap true b c = refl
    swap false true c = refl
    swap false false c = refl

turned : (k j : ℕ) → nat_eq k j ≡ nat_eq j k
turned k j = grind (arith, nat_tests)

-- a path, and as many numbers of a list
pub same_end : (q : Path) (k : ℕ) (places : List ℕ) (n : ℕ) → 0 < n → n ≤ length places
    → same (child q k) (take n places) ≡ (nat_eq (get_or places (n - 1) 0) k && same q (take (n - 1) places))
same_end q k places n some short =
    let before : n - 1 + 1 ≡ n = omega arith in
    ap (λ m. same (child q k) (take m places)) (sym before)
    ∙ ap (same (child q k)) (take_more places (n - 1) 0 (omega arith))
    ∙ same_more q (take (n - 1) places) k (get_or places (n - 1) 0)
    ∙ ap (λ b. b && same q (take (n - 1) places)) (turned k (get_or places (n - 1) 0))

-- `main`'s path is as many numbers of a list as there are none
pub same_none : (places : List ℕ) (n : ℕ) → n ≤ length places → same [] (take n places) ≡ nat_eq n 0
same_none places zero short = refl
same_none (x ∷ places) (suc n) short = sym (eqb-suc-zero n)
same_none [] (suc n) short = absurd (omega (arith, short))
