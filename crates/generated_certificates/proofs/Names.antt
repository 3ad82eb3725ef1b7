-- A name of the language is a name in code, and a text a text.
use Rattle.std.proofs.Common.{◌≡◌, ◌∙◌, ℕ, zero, suc, Bool, true, false, not, ◌&&◌, ◌||◌, List, [], ◌∷◌, ◌++◌, Some, None, refl, sym, ap, arith, true≢false, take}
use Rattle.std.proofs.lemmas.Bool.{not-true}
use Rattle.std.specs.Prelude.{slice_get, nat_eq}
use Rattle.std.specs.List.{list_all, list_any}
use Rattle.std.specs.Cmp.Lexicographic.{pointwise}
use Rattle.std.proofs.lemmas.Bool.Decides.{nat_tests}
use Rattle.rev_syntax.specs.declared.token.Fixed.{Fixed}
use Rattle.rev_syntax.specs.declared.token.Fixed.TheVariants as s
use Rattle.rev_syntax.specs.Words as word
use Rattle.rev_syntax.specs.Bytes as byte
use Rattle.typed_programs.proofs.Lists.{and_parts}
use Rattle.code_rules.specs.Tables as table
use Rattle.code_generation.proofs.BlockRules.{both}

-- ---- lists

pub all_both : {A : Type 0} (f : A → Bool) (xs ys : List A) → list_all f xs ≡ true → list_all f ys ≡ true
    → list_all f (xs ++ ys) ≡ true
all_both f [] ys h k = k
all_both f (x ∷ xs) ys h k =
    let p = and_parts (f x) (list_all f xs) h in both (f x) (list_all f (xs ++ ys)) p.0 (all_both f xs ys p.1 k)

pub all_same : {A : Type 0} (f g : A → Bool) → ((x : A) → f x ≡ g x) → (xs : List A) → list_all f xs ≡ true
    → list_all g xs ≡ true
all_same f g e [] h = refl
all_same f g e (x ∷ xs) h =
    let p = and_parts (f x) (list_all f xs) h in both (g x) (list_all g xs) (sym (e x) ∙ p.0) (all_same f g e xs p.1)

none_at : {A : Type 0} (f : A → Bool) (xs : List A) (j : ℕ) (x : A) → list_any f xs ≡ false → slice_get xs j ≡ Some x
    → f x ≡ false
none_at f [] j x h e = absurd (let z : None ≡ Some x = e in cc)
none_at f (y ∷ xs) zero x h e = (let z : y ≡ x = cc in sym (ap f z)) ∙ front (f y) (list_any f xs) h
  where
    front : (d q : Bool) → d || q ≡ false → d ≡ false
    front true q k = k
    front false q k = refl
none_at f (y ∷ xs) (suc j) x h e = none_at f xs j x (back (f y) (list_any f xs) h) e
  where
    back : (d q : Bool) → d || q ≡ false → q ≡ false
    back true q k = absurd (true≢false k)
    back false q k = k

-- ---- bytes

text_byte : (b : ℕ) → byte.is_text_byte b ≡ table.is_text_byte b
text_byte b = refl

pub text_well : (bytes : List ℕ) → list_all byte.is_text_byte bytes ≡ true → list_all table.is_text_byte bytes ≡ true
text_well bytes h = all_same byte.is_text_byte table.is_text_byte text_byte bytes h

name_byte : (b : ℕ) → byte.is_name_byte b ≡ table.is_name_byte b
name_byte b = refl

word_well : (name : List ℕ) → byte.is_word name ≡ true → table.is_word name ≡ true
word_well [] h = h
word_well (b ∷ bs) h =
    let p = and_parts (byte.is_letter b) (list_all byte.is_name_byte bs) h in
    both (table.is_letter b) (list_all table.is_name_byte bs) p.0
    (all_same byte.is_name_byte table.is_name_byte name_byte bs p.1)

-- ---- reserved words

same_number : (x y : ℕ) → nat_eq x y ≡ nat_eq y x
same_number x y = by (nat_eq x y) refl (nat_eq y x) refl
  where
    by : (d : Bool) → nat_eq x y ≡ d → (q : Bool) → nat_eq y x ≡ q → nat_eq x y ≡ nat_eq y x
    by true e true h = e ∙ sym h
    by false e false h = e ∙ sym h
    by true e false h = absurd (grind (arith, nat_tests, e, h))
    by false e true h = absurd (grind (arith, nat_tests, e, h))

flip : (xs ys : List ℕ) → pointwise nat_eq xs ys ≡ pointwise nat_eq ys xs
flip [] [] = refl
flip [] (y ∷ ys) = refl
flip (x ∷ xs) [] = refl
flip (x ∷ xs) (y ∷ ys) = λ j. same_number x y j && flip xs ys j

-- the reserved words, which stand first among all words and signs
abbrev reserved : List Fixed
reserved = take 27 word.fixed

module _ (name : List ℕ) (h : word.is_reserved name ≡ false) where
  other : (j : ℕ) (x : Fixed) → slice_get reserved j ≡ Some x → table.spells name (word.spelling x) ≡ false
  other j x e = flip name (word.spelling x) ∙ none_at (word.has_spelling name) reserved j x h e

  first : table.is_reserved_1 name ≡ false
  first = λ j. other 0 s.Fun refl j || other 1 s.Merge refl j || other 2 s.Versioned refl j
      || other 3 s.Cumulative refl j || other 4 s.By refl j || other 5 s.Proc refl j || other 6 s.Main refl j
      || other 7 s.KindInt refl j || other 8 s.KindBool refl j

  second : table.is_reserved_2 name ≡ false
  second = λ j.
      other 9 s.KindRev refl j || other 10 s.Let refl j || other 11 s.If refl j || other 12 s.Else refl j
      || other 13 s.While refl j || other 14 s.Call refl j || other 15 s.Return refl j || other 16 s.Fork refl j
      || other 17 s.Join refl j

  third : table.is_reserved_3 name ≡ false
  third = λ j. other 18 s.TryJoin refl j || other 19 s.Print refl j || other 20 s.Assert refl j
      || other 21 s.True refl j || other 22 s.False refl j || other 23 s.NoRev refl j || other 24 s.Input refl j
      || other 25 s.Inputs refl j || other 26 s.Pick refl j

  free : table.is_reserved name ≡ false
  free = λ j. first j || second j || third j

pub name_well : (name : List ℕ) → word.is_name name ≡ true → table.is_name name ≡ true
name_well name h =
    let p = and_parts (byte.is_word name) (not (word.is_reserved name)) h in
    both (table.is_word name) (not (table.is_reserved name)) (word_well name p.0)
    (ap not (free name (not-true (word.is_reserved name) p.1)))
