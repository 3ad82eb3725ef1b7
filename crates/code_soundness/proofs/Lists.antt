-- Lists, kinds of words, and Bool tests, as the laws use them.
use Rattle.std.proofs.Common.{◌≡◌, ◌∙◌, ℕ, zero, suc, ◌+◌, Bool, true, ◌&&◌, List, [], ◌∷◌, ◌++◌, length, map, take, drop, reverse, Some, None, refl, sym, ap, arith, true≢false}
use Rattle.std.specs.Prelude.{slice_get, slice_set, if◌then◌else◌}
use Rattle.std.specs.List.{list_all}
use Rattle.std.proofs.lemmas.List.{reverse-append, reverse-reverse}
use Rattle.rev_num.specs.declared.value.ValueKind.{ValueKind}
use Rattle.rev_num.specs.declared.value.ValueKind.TheVariants as k
use Rattle.rev_num.specs.Value.{same_kind}
use Rattle.rev_num.proofs.SameKinds.{same_kind_self, same_kind_is}
use Rattle.rev_code.specs.Words.{Word, kind_of, fits, zero_word}
use Rattle.rev_code.specs.Step as step
use Rattle.code_rules.specs.Shapes.{begins}
pub use Rattle.rev_num.proofs.Lists.{get_append_left}
pub use Rattle.code_soundness.proofs.Basics.{or_parts, not_true, and_false, append_length, and_parts, not_false, none_some, some_eq, some_within, within_some}
use Rattle.code_soundness.specs.Typed.{kinds_of}
pub use Rattle.std.proofs.Math.Seq.{take-append_seam as take_append}
pub use Rattle.std.proofs.lemmas.List.{length-reverse as reverse_length}

-- ---- tests

-- ---- lists

module _ {A : Type 0} where
  pub all_at : (p : A → Bool) (xs : List A) (n : ℕ) (x : A) → list_all p xs ≡ true → slice_get xs n ≡ Some x
      → p x ≡ true
  all_at p [] n x h e = absurd (none_some e)
  all_at p (y ∷ xs) zero x h e = ap p (sym (some_eq e)) ∙ (and_parts (p y) (list_all p xs) h).0
  all_at p (y ∷ xs) (suc n) x h e = all_at p xs n x (and_parts (p y) (list_all p xs) h).1 e

  pub get_append_right : (xs ys : List A) (n : ℕ) → slice_get (xs ++ ys) (length xs + n) ≡ slice_get ys n
  get_append_right [] ys n = ap (slice_get ys) (omega arith)
  get_append_right (x ∷ xs) ys n =
      ap (slice_get (x ∷ xs ++ ys)) (let z : suc (length xs) + n ≡ suc (length xs + n) = omega arith in z)
      ∙ get_append_right xs ys n

  -- what is taken, and behind as many the rest
  pub take_then_drop : (n : ℕ) (xs : List A) → take n xs ++ drop (length (take n xs)) xs ≡ xs
  take_then_drop zero xs = refl
  take_then_drop (suc n) [] = refl
  take_then_drop (suc n) (x ∷ xs) = ap (λ z. x ∷ z) (take_then_drop n xs)

  pub drop_whole : (n : ℕ) (xs : List A) → length xs ≡ n → drop n xs ≡ []
  drop_whole zero [] h = refl
  drop_whole zero (x ∷ xs) h = absurd (omega (arith, h))
  drop_whole (suc n) [] h = refl
  drop_whole (suc n) (x ∷ xs) h = drop_whole n xs (omega (arith, h))

  pub reverse-cons : (x : A) (xs : List A) → reverse (x ∷ xs) ≡ reverse xs ++ x ∷ []
  reverse-cons x xs = reverse-append (x ∷ []) xs

-- ---- what a stack begins with

pub begins_take : (xs ys : List ValueKind) → begins xs ys ≡ true → take (length xs) ys ≡ xs
begins_take [] ys h = refl
begins_take (x ∷ xs) [] h = absurd (true≢false (sym h))
begins_take (x ∷ xs) (y ∷ ys) h =
    let p = and_parts (same_kind x y) (begins xs ys) h in
    let e : y ≡ x = sym (same_kind_is x y p.0) in
    let f = begins_take xs ys p.1 in λ j. e j ∷ f j

pub begins_all : (xs ys : List ValueKind) → begins xs ys ≡ true → length ys ≡ length xs → ys ≡ xs
begins_all [] [] h e = refl
begins_all [] (y ∷ ys) h e = absurd (omega (arith, e))
begins_all (x ∷ xs) [] h e = absurd (true≢false (sym h))
begins_all (x ∷ xs) (y ∷ ys) h e =
    let p = and_parts (same_kind x y) (begins xs ys) h in
    let a : y ≡ x = sym (same_kind_is x y p.0) in
    let f = begins_all xs ys p.1 (omega (arith, e)) in λ j. a j ∷ f j

-- ---- kinds of words

pub kinds_zero : (H : Type 0) (kinds : List ValueKind) → kinds_of (map (zero_word {H = H}) kinds) ≡ kinds
kinds_zero H [] = refl
kinds_zero H (k.Int ∷ kinds) = ap (λ z. k.Int ∷ z) (kinds_zero H kinds)
kinds_zero H (k.Bool ∷ kinds) = ap (λ z. k.Bool ∷ z) (kinds_zero H kinds)
kinds_zero H (k.Rev ∷ kinds) = ap (λ z. k.Rev ∷ z) (kinds_zero H kinds)

module _ {H : Type 0} where
  pub kinds_length : (ws : List (Word H)) → length (kinds_of ws) ≡ length ws
  kinds_length [] = refl
  kinds_length (w ∷ ws) = ap suc (kinds_length ws)

  pub kinds_append : (us ws : List (Word H)) → kinds_of (us ++ ws) ≡ kinds_of us ++ kinds_of ws
  kinds_append [] ws = refl
  kinds_append (u ∷ us) ws = ap (λ z. kind_of u ∷ z) (kinds_append us ws)

  pub kinds_take : (n : ℕ) (ws : List (Word H)) → kinds_of (take n ws) ≡ take n (kinds_of ws)
  kinds_take zero ws = refl
  kinds_take (suc n) [] = refl
  kinds_take (suc n) (w ∷ ws) = ap (λ z. kind_of w ∷ z) (kinds_take n ws)

  pub kinds_drop : (n : ℕ) (ws : List (Word H)) → kinds_of (drop n ws) ≡ drop n (kinds_of ws)
  kinds_drop zero ws = refl
  kinds_drop (suc n) [] = refl
  kinds_drop (suc n) (w ∷ ws) = kinds_drop n ws

  pub kinds_reverse : (ws : List (Word H)) → kinds_of (reverse ws) ≡ reverse (kinds_of ws)
  kinds_reverse [] = refl
  kinds_reverse (w ∷ ws) =
      ap kinds_of (reverse-cons w ws) ∙ kinds_append (reverse ws) (w ∷ [])
      ∙ ap (λ z. z ++ kind_of w ∷ []) (kinds_reverse ws) ∙ sym (reverse-cons (kind_of w) (kinds_of ws))

  pub kinds_set : (ws : List (Word H)) (n : ℕ) (w : Word H) (kinds : List ValueKind) → kinds_of ws ≡ kinds
      → slice_get kinds n ≡ Some (kind_of w) → kinds_of (slice_set ws n w) ≡ kinds
  kinds_set ws n w [] e h = absurd (none_some h)
  kinds_set [] n w (x ∷ kinds) e h = absurd cc
  kinds_set (u ∷ ws) zero w (x ∷ kinds) e h =
      let q : kinds_of ws ≡ kinds = cc in
      let z : kind_of w ≡ x = sym (some_eq h) in λ j. z j ∷ q j
  kinds_set (u ∷ ws) (suc n) w (x ∷ kinds) e h =
      let q : kinds_of ws ≡ kinds = cc in
      let z : kind_of u ≡ x = cc in
      let r = kinds_set ws n w kinds q h in λ j. z j ∷ r j

  -- the word of a local
  pub word_at : (ws : List (Word H)) (n : ℕ) (kinds : List ValueKind) (x : ValueKind) → kinds_of ws ≡ kinds
      → slice_get kinds n ≡ Some x → (w : Word H) × (slice_get ws n ≡ Some w) × (kind_of w ≡ x)
  word_at ws n [] x e h = absurd (none_some h)
  word_at [] n (y ∷ kinds) x e h = absurd cc
  word_at (u ∷ ws) zero (y ∷ kinds) x e h = (u, refl, let z : kind_of u ≡ y = cc in z ∙ some_eq h)
  word_at (u ∷ ws) (suc n) (y ∷ kinds) x e h = word_at ws n kinds x (let q : kinds_of ws ≡ kinds = cc in q) h

  pub fits_kinds : (kinds : List ValueKind) (ws : List (Word H)) → kinds_of ws ≡ kinds → fits kinds ws ≡ true
  fits_kinds [] [] e = refl
  fits_kinds [] (w ∷ ws) e = absurd cc
  fits_kinds (x ∷ kinds) [] e = absurd cc
  fits_kinds (x ∷ kinds) (w ∷ ws) e =
      let z : kind_of w ≡ x = cc in
      let q : kinds_of ws ≡ kinds = cc in
      ap (λ y. same_kind x y && fits kinds ws) z ∙ ap (λ d. d && fits kinds ws) (same_kind_self x)
      ∙ fits_kinds kinds ws q

  -- the uppermost words, where the stack begins with their kinds
  pub record Taken (kinds : List ValueKind) (ws : List (Word H)) : Type 0 where
    pub args : List (Word H)
    pub is : step.arguments kinds ws ≡ Some args
    pub same : kinds_of args ≡ kinds
    pub left : kinds_of (drop (length args) ws) ≡ drop (length (reverse kinds)) (kinds_of ws)

  pub taken : (kinds : List ValueKind) (ws : List (Word H)) → begins (reverse kinds) (kinds_of ws) ≡ true
      → Taken kinds ws
  taken kinds ws h = record {
    args = reverse (take (length kinds) ws);
    is = ap (λ d. if d then Some (reverse (take (length kinds) ws)) else None)
        (fits_kinds kinds (reverse (take (length kinds) ws)) is_same);
    same = is_same;
    left = kinds_drop (length (reverse (take (length kinds) ws))) ws ∙ ap (λ n. drop n (kinds_of ws)) long;
  }
    where
      is_same : kinds_of (reverse (take (length kinds) ws)) ≡ kinds
      is_same =
          kinds_reverse (take (length kinds) ws)
          ∙ ap reverse (kinds_take (length kinds) ws ∙ ap (λ n. take n (kinds_of ws)) (sym (reverse_length kinds))
          ∙ begins_take (reverse kinds) (kinds_of ws) h)
          ∙ reverse-reverse kinds

      long : length (reverse (take (length kinds) ws)) ≡ length (reverse kinds)
      long = sym (kinds_length (reverse (take (length kinds) ws))) ∙ ap length is_same ∙ sym (reverse_length kinds)

  -- the locals of a new frame
  pub first_kinds : (n : ℕ) (locals : List ValueKind) (args : List (Word H)) → kinds_of args ≡ take n locals
      → kinds_of (args ++ map zero_word (drop (length args) locals)) ≡ locals
  first_kinds n locals args e =
      let long : length args ≡ length (take n locals) = sym (kinds_length args) ∙ ap length e in
      kinds_append args (map zero_word (drop (length args) locals))
      ∙ ap (λ z. kinds_of args ++ z) (kinds_zero H (drop (length args) locals))
      ∙ ap (λ z. z ++ drop (length args) locals) e
      ∙ ap (λ m. take n locals ++ drop m locals) long
      ∙ take_then_drop n locals
