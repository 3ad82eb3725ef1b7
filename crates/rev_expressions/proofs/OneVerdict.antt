-- What tokens are is one thing at most: the one value, or one first fault.
use Rattle.std.proofs.Common.{◌≡◌, ℕ, zero, suc, ◌≤◌, ◌<◌, Bool, List, [], ◌∷◌, ◌++◌, length, take, drop, Some, refl, sym, ap, ◌∙◌, subst, arith, inl, inr, ◌⊎◌, append_assoc}
use Rattle.std.proofs.lemmas.Bool.{cases_order}
use Rattle.std.proofs.lemmas.List.{length-take-le, take-append-drop, take-take}
use Rattle.rev_expressions.specs.Outcome.{next, after, left}
use Rattle.rev_expressions.specs.Form.{Alphabet, Form, nothing, token, level, both, either, many, Lang, Opened, Many, Derives, Rules, Nested, AnyNested, Stands}
use Rattle.rev_expressions.specs.First.{IsAny, Begins, IsOnly, IsUnexpected, IsTooDeep}
use Rattle.rev_expressions.proofs.Words.{derives_free, nested_free, any_free}

-- ---- where fewer tokens are counted, no fewer stand for a value

left_fewer : {T : Type 0} (ts : List T) (few k : ℕ) → few ≤ k → left few ts ≤ left k ts
left_fewer ts zero k h = omega arith
left_fewer ts (suc few) zero h = absurd (omega arith)
left_fewer [] (suc few) (suc k) h = h
left_fewer (t ∷ ts) (suc few) (suc k) h = left_fewer ts few k (omega arith)

module _ (G : Alphabet) where
  abbrev Fewer : {A : Type 0} → Lang G A → Type 0
  Fewer {A} P = (n few k : ℕ) (ts : List G.Token) (x : A) → few ≤ k → P n k ts x → P n few ts x

  many_fewer : {A : Type 0} (P : Lang G A) (ends : A → Bool) → Fewer P → (xs : List A) (n few k : ℕ) (ts : List G.Token)
      → few ≤ k → Many G P ends n k ts xs → Many G P ends n few ts xs
  many_fewer P ends one [] n few k ts h m = m
  many_fewer P ends one (x ∷ xs) n few k ts h m = (
    m.0,
    m.1,
    m.2,
    one n few k m.0 x h m.3,
    many_fewer P ends one xs n (left few m.0) (left k m.0) m.1 (left_fewer m.0 few k h) m.4,
    m.5,
  )

  module _ (I : (i : G.Inner) → Lang G (G.Value i))
      (free : (i : G.Inner) (n k : ℕ) (ts : List G.Token) (y : G.Value i) → I i n k ts y → I i 0 0 ts y)
      (inner : (i : G.Inner) → Fewer (I i)) where
    opened_fewer : (i : G.Inner) (v : List G.Token) (y : G.Value i) (n few k : ℕ) → few ≤ k
        → Opened G (λ n k. I i n k v y) n k → Opened G (λ n k. I i n k v y) n few
    opened_fewer i v y n zero zero h o = o
    opened_fewer i v y zero zero (suc k) h o = absurd o
    opened_fewer i v y (suc n) zero (suc k) h o = free i n k v y o
    opened_fewer i v y n (suc few) zero h o = absurd (omega arith)
    opened_fewer i v y zero (suc few) (suc k) h o = o
    opened_fewer i v y (suc n) (suc few) (suc k) h o = inner i n few k v y (omega arith) o

    derives_fewer : {A : Type 0} (F : Form G A) → Fewer (Derives G I F)
    derives_fewer (nothing a) n few k ts x h d = d
    derives_fewer (token s val) n few k ts x h d = d
    derives_fewer (level s i val) n few k ts x h d =
        (d.0, d.1, d.2, d.3, d.4, opened_fewer i d.1 d.2 n few k h d.5, d.6)
    derives_fewer (both f P Q) n few k ts x h d = record {
      front = d.front;
      back = d.back;
      a = d.a;
      b = d.b;
      split = d.split;
      first = derives_fewer P n few k d.front d.a h d.first;
      second = derives_fewer Q n (left few d.front) (left k d.front) d.back d.b (left_fewer d.front few k h) d.second;
      value = d.value;
    }
    derives_fewer (either P Q) n few k ts x h (inl d) = inl (derives_fewer P n few k ts x h d)
    derives_fewer (either P Q) n few k ts x h (inr d) = inr (derives_fewer Q n few k ts x h d)
    derives_fewer (many f ends P) n few k ts x h d =
        (d.0, many_fewer (Derives G I P) ends (derives_fewer P) d.0 n few k ts h d.1, d.2)

  module _ (rules : Rules G) where
    nested_fewer : (d : ℕ) (i : G.Inner) → Fewer (Nested G rules d i)
    nested_fewer zero i n few k ts y h d = d
    nested_fewer (suc d) i n few k ts y h w =
        derives_fewer (Nested G rules d) (nested_free G rules d) (nested_fewer d) (rules i) n few k ts y h w

    any_fewer : (i : G.Inner) → Fewer (AnyNested G rules i)
    any_fewer i n few k ts y h w = (w.0, nested_fewer w.0 i n few k ts y h w.1)

-- ---- the tokens before a place, and those from it on

-- the first so many tokens, cut at an earlier place
take_cut : {T : Type 0} (at to : ℕ) (ts : List T) → at ≤ to → take to ts ≡ take at ts ++ drop at (take to ts)
take_cut at to ts h =
    sym (take-append-drop at (take to ts)) ∙ ap (λ l. l ++ drop at (take to ts)) (take-take at to ts h)

-- the token at an earlier place is among the first so many
next_cut : {T : Type 0} (at to : ℕ) (ts more : List T) → at < to → to ≤ length ts
    → next (drop at (take to ts) ++ more) ≡ next (drop at ts)
next_cut at zero ts more h l = absurd (omega arith)
next_cut at (suc to) [] more h l = absurd (omega arith)
next_cut zero (suc to) (t ∷ ts) more h l = refl
next_cut (suc at) (suc to) (t ∷ ts) more h l = next_cut at to ts more (omega arith) (omega arith)

next_is : {T : Type 0} (ts : List T) (t : T) → next ts ≡ Some t → ts ≡ t ∷ after ts
next_is [] t e = absurd cc
next_is (x ∷ ts) t e = cc

next_within : {T : Type 0} (at : ℕ) (ts : List T) (t : T) → next (drop at ts) ≡ Some t → at < length ts
next_within zero [] t e = absurd cc
next_within (suc at) [] t e = absurd cc
next_within zero (x ∷ ts) t e = omega arith
next_within (suc at) (x ∷ ts) t e = let h = next_within at ts t e in omega arith

-- ---- two verdicts on the same tokens

module _ (G : Alphabet) (rules : Rules G) {A : Type 0} (F : Form G A) (n : ℕ) (ts : List G.Token) where
  any_of : (m k : ℕ) (w : List G.Token) (x : A) → Stands G rules F m k w x → IsAny G rules F w x
  any_of m k w x h = derives_free G (AnyNested G rules) (any_free G rules) F m k w x h

  fewer_of : (few k : ℕ) (w : List G.Token) (x : A) → few ≤ k → Stands G rules F n k w x → Stands G rules F n few w x
  fewer_of few k w x h s = derives_fewer G (AnyNested G rules) (any_free G rules) (any_fewer G rules) F n few k w x h s

  -- at a later place, the tokens before it go on as they do at an earlier one
  cut : (at to : ℕ) (more : List G.Token) → at < to → take to ts ++ more ≡ take at ts ++ (drop at (take to ts) ++ more)
  cut at to more h =
      ap (λ l. l ++ more) (take_cut at to ts (omega arith)) ∙ append_assoc (take at ts) (drop at (take to ts)) more

  -- the tokens begin something past no place where none goes on
  unexpected_is_first : (at to : ℕ) → IsUnexpected G rules F n ts at → at < to → to ≤ length ts
      → Begins G rules F n (take to ts) → ⊥
  unexpected_is_first at to u h l b =
      let word = subst (λ l. Stands G rules F n (length (take to ts)) l b.value) (cut at to b.more h) b.whole in
      u.none (drop at (take to ts) ++ b.more) b.value (next_cut at to ts b.more h l)
      (any_of n (length (take to ts)) _ b.value word)

  -- and keep within the levels past no place where one is opened too many
  too_deep_is_first : (at to : ℕ) → IsTooDeep G rules F n ts at → at < to → to ≤ length ts
      → Begins G rules F n (take to ts) → ⊥
  too_deep_is_first at to d h l b =
      let rest = drop at (take to ts) ++ b.more in
      let here : rest ≡ d.token ∷ after rest = next_is rest d.token (next_cut at to ts b.more h l ∙ d.here) in
      let whole : take to ts ++ b.more ≡ take at ts ++ d.token ∷ after rest =
      cut at to b.more h ∙ ap (λ l. take at ts ++ l) here in
      let many : length (take to ts) ≡ to = length-take-le to ts l in
      let word = subst (λ l. Stands G rules F n (length (take to ts)) l b.value) whole b.whole in
      d.none (after rest) b.value (fewer_of (suc at) (length (take to ts)) _ b.value (omega arith) word)

  too_deep_inside : (at : ℕ) → IsTooDeep G rules F n ts at → at < length ts
  too_deep_inside at d = next_within at ts d.token d.here

  pub one_value : (x y : A) → IsOnly G rules F n ts x → IsOnly G rules F n ts y → x ≡ y
  one_value x y one two = two.only x (any_of n (length ts) ts x one.whole)

  pub value_not_unexpected : (x : A) (at : ℕ) → IsOnly G rules F n ts x → IsUnexpected G rules F n ts at → ⊥
  value_not_unexpected x at one u =
      u.none (drop at ts) x refl
      (subst (λ l. IsAny G rules F l x) (sym (take-append-drop at ts)) (any_of n (length ts) ts x one.whole))

  pub value_not_too_deep : (x : A) (at : ℕ) → IsOnly G rules F n ts x → IsTooDeep G rules F n ts at → ⊥
  value_not_too_deep x at one d =
      let within : at < length ts = too_deep_inside at d in
      let split : ts ≡ take at ts ++ d.token ∷ after (drop at ts) =
      sym (take-append-drop at ts) ∙ ap (λ l. take at ts ++ l) (next_is (drop at ts) d.token d.here) in
      d.none (after (drop at ts)) x
      (subst (λ l. Stands G rules F n (suc at) l x) split (fewer_of (suc at) (length ts) ts x (omega arith) one.whole))

  pub unexpected_not_too_deep : (at to : ℕ) → IsUnexpected G rules F n ts at → IsTooDeep G rules F n ts to → ⊥
  unexpected_not_too_deep at to u d = by_place (cases_order at to)
    where
      by_place : (at ≡ to) ⊎ ((at < to) ⊎ (to < at)) → ⊥
      by_place (inr (inl h)) =
          unexpected_is_first at to u h (let w : to < length ts = too_deep_inside to d in omega arith) d.begins
      by_place (inl e) =
          let same : IsUnexpected G rules F n ts to = subst (λ p. IsUnexpected G rules F n ts p) e u in
          same.none (d.token ∷ d.more) d.value (sym d.here)
          (any_of n to (take to ts ++ d.token ∷ d.more) d.value d.goes_on)
      by_place (inr (inr h)) = too_deep_is_first to at d h u.inside u.begins

  pub one_unexpected : (at to : ℕ) → IsUnexpected G rules F n ts at → IsUnexpected G rules F n ts to → at ≡ to
  one_unexpected at to u v = by_place (cases_order at to)
    where
      by_place : (at ≡ to) ⊎ ((at < to) ⊎ (to < at)) → at ≡ to
      by_place (inr (inl h)) = absurd (unexpected_is_first at to u h v.inside v.begins)
      by_place (inl e) = e
      by_place (inr (inr h)) = absurd (unexpected_is_first to at v h u.inside u.begins)

  pub one_too_deep : (at to : ℕ) → IsTooDeep G rules F n ts at → IsTooDeep G rules F n ts to → at ≡ to
  one_too_deep at to d e = by_place (cases_order at to)
    where
      within : (place : ℕ) → IsTooDeep G rules F n ts place → place ≤ length ts
      within place d = let w : place < length ts = too_deep_inside place d in omega arith

      by_place : (at ≡ to) ⊎ ((at < to) ⊎ (to < at)) → at ≡ to
      by_place (inr (inl h)) = absurd (too_deep_is_first at to d h (within to e) e.begins)
      by_place (inl same) = same
      by_place (inr (inr h)) = absurd (too_deep_is_first to at e h (within at d) d.begins)
