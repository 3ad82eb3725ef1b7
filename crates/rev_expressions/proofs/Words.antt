-- What a form derives, and what its tests say of that.
use Rattle.std.proofs.Common.{◌≡◌, ℕ, zero, suc, Bool, true, false, ◌&&◌, ◌||◌, List, [], ◌∷◌, ◌++◌, refl, sym, ap, ◌∙◌, subst, inl, inr}
use Rattle.std.proofs.lemmas.Bool.{or_left, or_right}
use Rattle.rev_expressions.specs.Outcome.{left}
use Rattle.rev_expressions.specs.Form.{Alphabet, Form, nothing, token, level, both, either, many, Lang, Opened, Many, Derives, Rules, Nested, AnyNested}
use Rattle.rev_expressions.specs.Reader.{nullable, first}

pub both_true : (a b : Bool) → a ≡ true → b ≡ true → a && b ≡ true
both_true true b e h = h
both_true false b e h = e

pub empty_front : {A : Type 0} (u v : List A) → [] ≡ u ++ v → (u ≡ []) × (v ≡ [])
empty_front [] v e = (refl, sym e)
empty_front (x ∷ u) v e = absurd cc

module _ (G : Alphabet) where
  abbrev pub Inners : Type 1
  Inners = (i : G.Inner) → Lang G (G.Value i)

  module _ (I : Inners) where
    pub null_sound : {A : Type 0} (F : Form G A) (n k : ℕ) (ts : List G.Token) (x : A) → Derives G I F n k ts x
        → ts ≡ [] → nullable G F ≡ true
    null_sound (nothing a) n k ts x h e = refl
    null_sound (token s val) n k ts x h e = let clash : h.0 ∷ [] ≡ [] = sym h.1 ∙ e in absurd cc
    null_sound (level s i val) n k ts x h e = let clash : h.0 ∷ h.1 ≡ [] = sym h.3 ∙ e in absurd cc
    null_sound (both f P Q) n k ts x h e =
        let parts = empty_front h.front h.back (sym e ∙ h.split) in
        both_true _ _ (null_sound P n k h.front h.a h.first parts.0)
        (null_sound Q n (left k h.front) h.back h.b h.second parts.1)
    null_sound (either P Q) n k ts x (inl h) e = or_left _ _ (null_sound P n k ts x h e)
    null_sound (either P Q) n k ts x (inr h) e = or_right _ _ (null_sound Q n k ts x h e)
    null_sound (many f ends P) n k ts x h e = refl

    first_of_both : {A B C : Type 0} (f : A → B → C) (P : Form G A) (Q : Form G B) (u w ts : List G.Token) (t : G.Token)
        (v : List G.Token)
        → ts ≡ u ++ w → ts ≡ t ∷ v → ((v : List G.Token) → u ≡ t ∷ v → first G P (G.kind t) ≡ true)
        → (u ≡ [] → nullable G P ≡ true) → (w ≡ t ∷ v → first G Q (G.kind t) ≡ true)
        → first G P (G.kind t) || (nullable G P && first G Q (G.kind t)) ≡ true
    first_of_both f P Q [] w ts t v split e one empty two =
        or_right (first G P (G.kind t)) _ (both_true _ _ (empty refl) (two (sym split ∙ e)))
    first_of_both f P Q (y ∷ u) w ts t v split e one empty two =
        let whole : y ∷ (u ++ w) ≡ t ∷ v = sym split ∙ e in
        let same : y ≡ t = cc in
        or_left _ _ (one u (ap (λ y. y ∷ u) same))

    first_of_many : {A : Type 0} (P : Form G A) (ends : A → Bool)
        → ((n k : ℕ) (ts : List G.Token) (x : A) → Derives G I P n k ts x → (t : G.Token) (v : List G.Token)
        → ts ≡ t ∷ v → first G P (G.kind t) ≡ true)
        → (xs : List A) (n k : ℕ) (ts : List G.Token) → Many G (Derives G I P) ends n k ts xs
        → (t : G.Token) (v : List G.Token) → ts ≡ t ∷ v → first G P (G.kind t) ≡ true
    first_of_many P ends one [] n k ts m t v e = let clash : [] ≡ t ∷ v = sym m ∙ e in absurd cc
    first_of_many P ends one (x ∷ xs) n k ts m t v e =
        by_front m.0 refl (λ is. first_of_many P ends one xs n (left k m.0) m.1 m.4 t v is)
      where
        by_front : (u : List G.Token) → m.0 ≡ u → (m.1 ≡ t ∷ v → first G P (G.kind t) ≡ true)
            → first G P (G.kind t) ≡ true
        by_front [] is rest = rest (ap (λ l. l ++ m.1) (sym is) ∙ sym m.2 ∙ e)
        by_front (y ∷ u) is rest =
            let whole : y ∷ (u ++ m.1) ≡ t ∷ v = ap (λ l. l ++ m.1) (sym is) ∙ sym m.2 ∙ e in
            let same : y ≡ t = cc in
            one n k m.0 x m.3 t u (is ∙ ap (λ y. y ∷ u) same)

    pub first_sound : {A : Type 0} (F : Form G A) (n k : ℕ) (ts : List G.Token) (x : A) → Derives G I F n k ts x
        → (t : G.Token) (v : List G.Token) → ts ≡ t ∷ v → first G F (G.kind t) ≡ true
    first_sound (nothing a) n k ts x h t v e = let clash : [] ≡ t ∷ v = sym h.0 ∙ e in absurd cc
    first_sound (token s val) n k ts x h t v e =
        let same : h.0 ∷ [] ≡ t ∷ v = sym h.1 ∙ e in
        let token_same : h.0 ≡ t = cc in
        subst (λ t. G.is s (G.kind t) ≡ true) token_same h.2
    first_sound (level s i val) n k ts x h t v e =
        let same : h.0 ∷ h.1 ≡ t ∷ v = sym h.3 ∙ e in
        let token_same : h.0 ≡ t = cc in
        subst (λ t. G.is s (G.kind t) ≡ true) token_same h.4
    first_sound (both f P Q) n k ts x h t v e =
        first_of_both f P Q h.front h.back ts t v h.split e (λ v is. first_sound P n k h.front h.a h.first t v is)
        (λ is. null_sound P n k h.front h.a h.first is)
        (λ is. first_sound Q n (left k h.front) h.back h.b h.second t v is)
    first_sound (either P Q) n k ts x (inl h) t v e = or_left _ _ (first_sound P n k ts x h t v e)
    first_sound (either P Q) n k ts x (inr h) t v e = or_right (first G P (G.kind t)) _ (first_sound Q n k ts x h t v e)
    first_sound (many f ends P) n k ts x h t v e =
        first_of_many P ends (λ n k ts x h t v e. first_sound P n k ts x h t v e) h.0 n k ts h.1 t v e

  module _ (I J : Inners)
      (inner : (i : G.Inner) (n k : ℕ) (ts : List G.Token) (y : G.Value i) → I i n k ts y → J i n k ts y) where
    opened_map : (i : G.Inner) (v : List G.Token) (y : G.Value i) (n k : ℕ) → Opened G (λ n k. I i n k v y) n k
        → Opened G (λ n k. J i n k v y) n k
    opened_map i v y n zero h = inner i zero zero v y h
    opened_map i v y zero (suc k) h = h
    opened_map i v y (suc n) (suc k) h = inner i n k v y h

    pub many_map : {A : Type 0} (P Q : Lang G A) (ends : A → Bool)
        → ((n k : ℕ) (ts : List G.Token) (x : A) → P n k ts x → Q n k ts x)
        → (xs : List A) (n k : ℕ) (ts : List G.Token) → Many G P ends n k ts xs → Many G Q ends n k ts xs
    many_map P Q ends one [] n k ts m = m
    many_map P Q ends one (x ∷ xs) n k ts m =
        (m.0, m.1, m.2, one n k m.0 x m.3, many_map P Q ends one xs n (left k m.0) m.1 m.4, m.5)

    pub derives_map : {A : Type 0} (F : Form G A) (n k : ℕ) (ts : List G.Token) (x : A) → Derives G I F n k ts x
        → Derives G J F n k ts x
    derives_map (nothing a) n k ts x h = h
    derives_map (token s val) n k ts x h = h
    derives_map (level s i val) n k ts x h = (h.0, h.1, h.2, h.3, h.4, opened_map i h.1 h.2 n k h.5, h.6)
    derives_map (both f P Q) n k ts x h =
        record {
          front = h.front;
          back = h.back;
          a = h.a;
          b = h.b;
          split = h.split;
          first = derives_map P n k h.front h.a h.first;
          second = derives_map Q n (left k h.front) h.back h.b h.second;
          value = h.value;
        }
    derives_map (either P Q) n k ts x (inl h) = inl (derives_map P n k ts x h)
    derives_map (either P Q) n k ts x (inr h) = inr (derives_map Q n k ts x h)
    derives_map (many f ends P) n k ts x h = (
      h.0,
      many_map (Derives G I P) (Derives G J P) ends (λ n k ts x h. derives_map P n k ts x h) h.0 n k ts h.1,
      h.2,
    )

  -- where no level is counted, no number of levels matters
  module _ (I : Inners)
      (free : (i : G.Inner) (n k : ℕ) (ts : List G.Token) (y : G.Value i) → I i n k ts y → I i 0 0 ts y) where
    opened_free : (i : G.Inner) (v : List G.Token) (y : G.Value i) (n k : ℕ) → Opened G (λ n k. I i n k v y) n k
        → I i 0 0 v y
    opened_free i v y n zero h = h
    opened_free i v y zero (suc k) h = absurd h
    opened_free i v y (suc n) (suc k) h = free i n k v y h

    pub many_free : {A : Type 0} (P : Lang G A) (ends : A → Bool)
        → ((n k : ℕ) (ts : List G.Token) (x : A) → P n k ts x → P 0 0 ts x)
        → (xs : List A) (n k : ℕ) (ts : List G.Token) → Many G P ends n k ts xs → Many G P ends 0 0 ts xs
    many_free P ends one [] n k ts m = m
    many_free P ends one (x ∷ xs) n k ts m =
        (m.0, m.1, m.2, one n k m.0 x m.3, many_free P ends one xs n (left k m.0) m.1 m.4, m.5)

    pub derives_free : {A : Type 0} (F : Form G A) (n k : ℕ) (ts : List G.Token) (x : A) → Derives G I F n k ts x
        → Derives G I F 0 0 ts x
    derives_free (nothing a) n k ts x h = h
    derives_free (token s val) n k ts x h = h
    derives_free (level s i val) n k ts x h = (h.0, h.1, h.2, h.3, h.4, opened_free i h.1 h.2 n k h.5, h.6)
    derives_free (both f P Q) n k ts x h =
        record {
          front = h.front;
          back = h.back;
          a = h.a;
          b = h.b;
          split = h.split;
          first = derives_free P n k h.front h.a h.first;
          second = derives_free Q n (left k h.front) h.back h.b h.second;
          value = h.value;
        }
    derives_free (either P Q) n k ts x (inl h) = inl (derives_free P n k ts x h)
    derives_free (either P Q) n k ts x (inr h) = inr (derives_free Q n k ts x h)
    derives_free (many f ends P) n k ts x h =
        (h.0, many_free (Derives G I P) ends (λ n k ts x h. derives_free P n k ts x h) h.0 n k ts h.1, h.2)

  module _ (rules : Rules G) where
    pub nested_free : (d : ℕ) (i : G.Inner) (n k : ℕ) (ts : List G.Token) (y : G.Value i) → Nested G rules d i n k ts y
        → Nested G rules d i 0 0 ts y
    nested_free zero i n k ts y h = h
    nested_free (suc d) i n k ts y h = derives_free (Nested G rules d) (nested_free d) (rules i) n k ts y h

    pub any_free : (i : G.Inner) (n k : ℕ) (ts : List G.Token) (y : G.Value i) → AnyNested G rules i n k ts y
        → AnyNested G rules i 0 0 ts y
    any_free i n k ts y h = (h.0, nested_free h.0 i n k ts y h.1)

    pub nested_any : (d : ℕ) (i : G.Inner) (n k : ℕ) (ts : List G.Token) (y : G.Value i) → Nested G rules d i n k ts y
        → AnyNested G rules i n k ts y
    nested_any d i n k ts y h = (d, h)

    -- what an inner rule derives, its form derives
    any_at : (d : ℕ) (i : G.Inner) (n k : ℕ) (ts : List G.Token) (y : G.Value i) → Nested G rules d i n k ts y
        → Derives G (AnyNested G rules) (rules i) n k ts y
    any_at zero i n k ts y h = absurd h
    any_at (suc d) i n k ts y h = derives_map (Nested G rules d) (AnyNested G rules) (nested_any d) (rules i) n k ts y h

    pub any_inside : (i : G.Inner) (n k : ℕ) (ts : List G.Token) (y : G.Value i) → AnyNested G rules i n k ts y
        → Derives G (AnyNested G rules) (rules i) n k ts y
    any_inside i n k ts y h = any_at h.0 i n k ts y h.1
