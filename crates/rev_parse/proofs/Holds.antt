-- Properties that all words of a form have: of each value, with the levels that are left for it and the bytes of its
-- tokens.
use Rattle.std.proofs.Common.{◌≡◌, ℕ, zero, suc, ◌+◌, ◌-◌, ◌≤◌, ◌<◌, Bool, true, List, [], ◌∷◌, ◌++◌, length, refl, sym, subst, arith, inl, inr, length-append}
use Rattle.rev_syntax.specs.declared.token.Token.{Token}
use Rattle.rev_expressions.specs.Outcome.{left}
use Rattle.rev_expressions.specs.Form.{nothing, token, level, both, either, many, Lang, Opened, Many, Derives}
use Rattle.rev_syntax.specs.declared.token.Fixed.{Fixed}
use Rattle.rev_expressions.specs.Classes.{Class, class_of, is_same}
use Rattle.rev_expressions.specs.Grammar.{alphabet, Rule, Inner, Value, behind, before, all, listing}
use Rattle.rev_parse.specs.Verdicts.{most_levels}
use Rattle.rev_parse.proofs.TextTokens.{IsProper, AreProper, span, spans, proper_front, proper_back, spans-append}

-- Of a value: with n levels left for it, and tokens of at most w bytes.
abbrev pub Property : Type 0 → Type 1
Property A = ℕ → ℕ → A → Type 0

abbrev pub Any : {A : Type 0} → Property A
Any n w x = Unit {0}

-- lists that begin with no value and grow by one at the front, up to one that ends them
abbrev pub Starts : {A : Type 0} → Property (List A) → Type 0
Starts L = (n w : ℕ) → L n w []

abbrev pub GrowsTo : {A : Type 0} → (A → Bool) → Property A → Property (List A) → Type 0
GrowsTo {A = A} ends P L =
    (n u v : ℕ) (x : A) (xs : List A) → n ≤ most_levels → P n u x → L n v xs → (ends x ≡ true → xs ≡ [])
    → L n (u + v) (x ∷ xs)

abbrev pub Grows : {A : Type 0} → Property A → Property (List A) → Type 0
Grows {A = A} P L = (n u v : ℕ) (x : A) (xs : List A) → n ≤ most_levels → P n u x → L n v xs → L n (u + v) (x ∷ xs)

-- with one level more than the property has
pub record Within {A : Type 0} (P : Property A) (n w : ℕ) (x : A) : Type 0 where
  pub below : ℕ
  pub one_more : n ≡ suc below
  pub inside : P below w x

left-enough : (u v : List Token) (k : ℕ) → length (u ++ v) ≤ k → length v ≤ left k u
left-enough [] v zero h = h
left-enough [] v (suc k) h = h
left-enough (t ∷ u) v zero h = absurd (omega (arith, h))
left-enough (t ∷ u) v (suc k) h = left-enough u v k (omega (arith, h))

module _ (bytes : List ℕ) where
  -- tokens of the text that have at most w bytes, of which the first k and so all are counted, with n levels left
  pub record Weighs (n k w : ℕ) (ts : List Token) : Type 0 where
    pub levels : n ≤ most_levels
    pub counted : length ts ≤ k
    pub proper : AreProper bytes ts
    pub weight : spans ts ≤ w

  weighs_front : (u v ts : List Token) (n k w : ℕ) → ts ≡ u ++ v → Weighs n k w ts → Weighs n k (spans u) u
  weighs_front u v ts n k w e h =
      let whole : Weighs n k w (u ++ v) = subst (Weighs n k w) e h in
      let size : length (u ++ v) ≡ length u + length v = length-append u v in
      record {
        levels = whole.levels;
        counted = omega arith;
        proper = proper_front bytes u v whole.proper;
        weight = omega arith;
      }

  weighs_back : (u v ts : List Token) (n k w : ℕ) → ts ≡ u ++ v → Weighs n k w ts
      → Weighs n (left k u) (w - spans u) v × (spans u + (w - spans u) ≡ w)
  weighs_back u v ts n k w e h =
      let whole : Weighs n k w (u ++ v) = subst (Weighs n k w) e h in
      let size : spans (u ++ v) ≡ spans u + spans v = spans-append u v in (
        record {
          levels = whole.levels;
          counted = left-enough u v k whole.counted;
          proper = proper_back bytes u v whole.proper;
          weight = omega arith;
        },
        omega arith,
      )

  weighs_part : (u v ts : List Token) (n k w : ℕ) → ts ≡ u ++ v → Weighs n k w ts
      → Weighs n k w u × Weighs n (left k u) w v
  weighs_part u v ts n k w e h =
      let front = weighs_front u v ts n k w e h in
      let back = weighs_back u v ts n k w e h in (
        record { levels = front.levels; counted = front.counted; proper = front.proper; weight = omega arith },
        record {
          levels = h.levels;
          counted = back.0.counted;
          proper = back.0.proper;
          weight = let one : spans v ≤ w - spans u = back.0.weight in omega arith;
        },
      )

  -- each value of an inner rule has this property
  abbrev pub Inside : ((i : Inner) → Property (Value i)) → ((i : Inner) → Lang alphabet (Value i)) → Type 0
  Inside Has I = (i : Inner) (n k w : ℕ) (ts : List Token) (y : Value i) → Weighs n k w ts → I i n k ts y → Has i n w y

  module _ (I : (i : Inner) → Lang alphabet (Value i)) where
    -- each word of the form has the property
    pub record Holds {A : Type 0} (Q : Property A) (F : Rule A) : Type 0 where
      pub word : (n k w : ℕ) (ts : List Token) (x : A) → Weighs n k w ts → Derives alphabet I F n k ts x → Q n w x

    pub holds_nothing : {A : Type 0} {Q : Property A} {a : A} → ((n w : ℕ) → Q n w a) → Holds Q (nothing a)
    holds_nothing {Q = Q} h = record { word = λ n k w ts x fits d. subst (Q n w) (sym d.1) (h n w) }

    token_word : {A : Type 0} (Q : Property A) (s : Class) (val : Token → A)
        → ((n w : ℕ) (t : Token) → IsProper bytes t → is_same s (class_of t.kind) ≡ true → span t ≤ w → Q n w (val t))
        → (n k w : ℕ) (ts : List Token) (x : A) → Weighs n k w ts → Derives alphabet I (token s val) n k ts x → Q n w x
    token_word Q s val h n k w ts x fits d =
        let whole : Weighs n k w (d.0 ∷ []) = subst (Weighs n k w) d.1 fits in
        subst (Q n w) (sym d.3) (h n w d.0 whole.proper.0 d.2 (omega arith))

    pub holds_token : {A : Type 0} {Q : Property A} {s : Class} {val : Token → A}
        → ((n w : ℕ) (t : Token) → IsProper bytes t → is_same s (class_of t.kind) ≡ true → span t ≤ w → Q n w (val t))
        → Holds Q (token s val)
    holds_token {Q = Q} {s = s} {val = val} h = record { word = token_word Q s val h }

    pub holds_both : {A B C : Type 0} {P : Property A} {Q : Property B} {R : Property C} {f : A → B → C} {F : Rule A}
        {G : Rule B}
        → Holds P F → Holds Q G
        → ((n u v : ℕ) (a : A) (b : B) → n ≤ most_levels → P n u a → Q n v b → R n (u + v) (f a b))
        → Holds R (both f F G)
    holds_both {R = R} {f = f} p q h = record {
      word = λ n k w ts x fits d.
          let back = weighs_back d.front d.back ts n k w d.split fits in
          let a = p.word n k (spans d.front) d.front d.a (weighs_front d.front d.back ts n k w d.split fits) d.first in
          let b = q.word n (left k d.front) (w - spans d.front) d.back d.b back.0 d.second in
          let both_parts : R n (spans d.front + (w - spans d.front)) (f d.a d.b) =
          h n (spans d.front) (w - spans d.front) d.a d.b fits.levels a b in
          subst (λ x. R n w x) (sym d.value) (subst (λ w. R n w (f d.a d.b)) back.1 both_parts);
    }

    pub holds_either : {A : Type 0} {Q : Property A} {F G : Rule A} → Holds Q F → Holds Q G → Holds Q (either F G)
    holds_either {A = A} {Q = Q} {F = F} {G = G} p q = record { word = one }
      where
        one : (n k w : ℕ) (ts : List Token) (x : A) → Weighs n k w ts → Derives alphabet I (either F G) n k ts x
            → Q n w x
        one n k w ts x fits (inl d) = p.word n k w ts x fits d
        one n k w ts x fits (inr d) = q.word n k w ts x fits d

    many_word : {A : Type 0} {P : Property A} (L : Property (List A)) (ends : A → Bool) {F : Rule A} → Holds P F
        → Starts L → GrowsTo ends P L → (xs : List A) (n k w : ℕ) (ts : List Token) → Weighs n k w ts
        → Many alphabet (Derives alphabet I F) ends n k ts xs → L n w xs
    many_word L ends p start grow [] n k w ts fits d = start n w
    many_word L ends p start grow (x ∷ xs) n k w ts fits d =
        let back = weighs_back d.0 d.1 ts n k w d.2 fits in
        let one = p.word n k (spans d.0) d.0 x (weighs_front d.0 d.1 ts n k w d.2 fits) d.3 in
        let more = many_word L ends p start grow xs n (left k d.0) (w - spans d.0) d.1 back.0 d.4 in
        subst (λ w. L n w (x ∷ xs)) back.1 (grow n (spans d.0) (w - spans d.0) x xs fits.levels one more d.5)

    pub holds_many : {A B : Type 0} {P : Property A} {L : Property (List A)} {Q : Property B} {f : List A → B}
        {ends : A → Bool} {F : Rule A}
        → Holds P F → Starts L → GrowsTo ends P L → ((n w : ℕ) (xs : List A) → L n w xs → Q n w (f xs))
        → Holds Q (many f ends F)
    holds_many {L = L} {Q = Q} {f = f} {ends = ends} p start grow last = record {
      word = λ n k w ts x fits d.
          subst (Q n w) (sym d.2) (last n w d.0 (many_word L ends p start grow d.0 n k w ts fits d.1));
    }

    pub holds_behind : {A : Type 0} {Q : Property A} {s : Fixed} {F : Rule A} → Holds Q F → Holds Q (behind s F)
    holds_behind {Q = Q} q = record {
      word = λ n k w ts x fits d.
          let parts = weighs_part d.front d.back ts n k w d.split fits in
          subst (Q n w) (sym d.value) (q.word n (left k d.front) w d.back d.b parts.1 d.second);
    }

    pub holds_before : {A : Type 0} {Q : Property A} {s : Fixed} {F : Rule A} → Holds Q F → Holds Q (before F s)
    holds_before {Q = Q} q = record {
      word = λ n k w ts x fits d.
          let parts = weighs_part d.front d.back ts n k w d.split fits in
          subst (Q n w) (sym d.value) (q.word n k w d.front d.a parts.0 d.first);
    }

    -- a list of values, one behind the other
    pub holds_all : {A : Type 0} {P : Property A} {L : Property (List A)} {F : Rule A} → Holds P F → Starts L
        → Grows P L → Holds L (all F)
    holds_all p start grow =
        holds_many p start (λ n u v x xs levels one more ends. grow n u v x xs levels one more) (λ n w xs h. h)

    pub holds_listing : {A : Type 0} {P : Property A} {L : Property (List A)} {F : Rule A} → Holds P F → Starts L
        → Grows P L → Holds L (listing F)
    holds_listing p start grow =
        holds_either (holds_both p (holds_all (holds_behind p) start grow) grow) (holds_nothing start)

    -- the same property, put otherwise
    pub holds_as : {A : Type 0} {P Q : Property A} {F : Rule A} → Holds P F
        → ((n w : ℕ) (x : A) → n ≤ most_levels → P n w x → Q n w x) → Holds Q F
    holds_as p h = record { word = λ n k w ts x fits d. h n w x fits.levels (p.word n k w ts x fits d) }

    pub holds_any : {A : Type 0} {F : Rule A} → Holds Any F
    holds_any = record { word = λ n k w ts x fits d. tt }

    module _ {Has : (i : Inner) → Property (Value i)} (inside : Inside Has I) where
      opened_word : {A : Type 0} (Q : Property A) (s : Class) (i : Inner) (val : Token → Value i → A)
          → ((n u v : ℕ) (t : Token) (y : Value i) → IsProper bytes t → n < most_levels → span t ≤ u → Has i n v y
          → Q (suc n) (u + v) (val t y))
          → (n k w : ℕ) (t : Token) (v : List Token) (y : Value i) → Weighs n k w (t ∷ v)
          → Opened alphabet (λ n k. I i n k v y) n k → Q n w (val t y)
      opened_word Q s i val h n zero w t v y fits o =
          absurd (let c : suc (length v) ≤ zero = fits.counted in omega arith)
      opened_word Q s i val h zero (suc k) w t v y fits o = absurd o
      opened_word Q s i val h (suc n) (suc k) w t v y fits o =
          let counted : suc (length v) ≤ suc k = fits.counted in
          let weight : span t + spans v ≤ w = fits.weight in
          let levels : suc n ≤ most_levels = fits.levels in
          let within : Weighs n k (w - span t) v =
          record { levels = omega arith; counted = omega arith; proper = fits.proper.1; weight = omega arith } in
          let whole : span t + (w - span t) ≡ w = omega arith in
          let r : Q (suc n) (span t + (w - span t)) (val t y) =
          h n (span t) (w - span t) t y fits.proper.0 levels (omega arith) (inside i n k (w - span t) v y within o) in
          subst (λ w. Q (suc n) w (val t y)) whole r

      within_word : (s : Class) (i : Inner) (n k w : ℕ) (t : Token) (v : List Token) (y : Value i)
          → Weighs n k w (t ∷ v) → Opened alphabet (λ n k. I i n k v y) n k → Within (Has i) n w y
      within_word s i n zero w t v y fits o = absurd (let c : suc (length v) ≤ zero = fits.counted in omega arith)
      within_word s i zero (suc k) w t v y fits o = absurd o
      within_word s i (suc n) (suc k) w t v y fits o =
          let counted : suc (length v) ≤ suc k = fits.counted in
          let weight : span t + spans v ≤ w = fits.weight in
          let levels : suc n ≤ most_levels = fits.levels in
          let within : Weighs n k w v =
          record { levels = omega arith; counted = omega arith; proper = fits.proper.1; weight = omega arith } in
          record { below = n; one_more = refl; inside = inside i n k w v y within o }

      -- what stands in a level, as it is
      pub holds_within : (s : Class) (i : Inner) → Holds (Within (Has i)) (level s i (λ x y. y))
      holds_within s i = record {
        word = λ n k w ts x fits d.
            let whole : Weighs n k w (d.0 ∷ d.1) = subst (Weighs n k w) d.3 fits in
            subst (Within (Has i) n w) (sym d.6) (within_word s i n k w d.0 d.1 d.2 whole d.5);
      }

      pub holds_level : {A : Type 0} {Q : Property A} {s : Class} {i : Inner} {val : Token → Value i → A}
          → ((n u v : ℕ) (t : Token) (y : Value i) → IsProper bytes t → n < most_levels → span t ≤ u → Has i n v y
          → Q (suc n) (u + v) (val t y))
          → Holds Q (level s i val)
      holds_level {Q = Q} {s = s} {i = i} {val = val} h = record {
        word = λ n k w ts x fits d.
            let whole : Weighs n k w (d.0 ∷ d.1) = subst (Weighs n k w) d.3 fits in
            subst (Q n w) (sym d.6) (opened_word Q s i val h n k w d.0 d.1 d.2 whole d.5);
      }
