-- The parser of a decided grammar is exact.
use Rattle.std.proofs.Common.{◌≡◌, ℕ, zero, suc, ◌≤◌, Bool, true, false, not, cond, option_map, ◌&&◌, ◌||◌, List, [], ◌∷◌, ◌++◌, length, Option, Some, None, refl, sym, ap, ◌∙◌, subst, arith, inl, inr, append_assoc, length-append, append-nil}
use Rattle.std.proofs.lemmas.Bool.{and_parts, or_parts, not-true, false_from_ne_true}
use Rattle.rev_expressions.specs.Outcome.{Unexpected, TooDeep, Outcome, Read, Failed, Parser, and_then, next, left}
use Rattle.rev_expressions.specs.Form.{Alphabet, Form, nothing, token, level, both, either, many, Many, Derives, Rules, Nested, AnyNested}
use Rattle.rev_expressions.specs.Reader.{nullable, first, passes, next_kind, begins, is_next, taken, inside_of, repeat, read, below, parser}
use Rattle.rev_expressions.specs.Exact.{extends, are_apart, is_decided, is_plain, Decided}
use Rattle.rev_expressions.proofs.Words.{Inners, null_sound, first_sound, derives_map, derives_free, nested_free, any_free, any_inside, many_free, both_true}
use Rattle.rev_expressions.proofs.Good.{Tokens, IsFree, Reaches, AsFar, Taken, Good, Two, Both, pairs, good_change, Image, image, behind_token}

-- ---- truth values

neither : (a b : Bool) → not (a && b) ≡ true → a ≡ true → b ≡ false
neither true false e h = refl
neither true true e h = absurd cc
neither false b e h = absurd cc

clash : (a : Bool) → a ≡ true → a ≡ false → ⊥
clash true e f = cc
clash false e f = cc

-- ---- the next token

module _ (G : Alphabet) where
  passes_next : (p : G.Kind → Bool) (ts us : Tokens G) → next ts ≡ next us
      → passes G p (next_kind G ts) ≡ passes G p (next_kind G us)
  passes_next p ts us e = ap (λ o. passes G p (option_map G.kind o)) e

  passes_weaker : (p q : G.Kind → Bool) (o : Option G.Kind) → ((k : G.Kind) → q k ≡ false → p k ≡ false)
      → passes G q o ≡ false → passes G p o ≡ false
  passes_weaker p q None h e = refl
  passes_weaker p q (Some k) h e = h k e

module _ (G : Alphabet) (rules : Rules G) (Ext : G.Inner → G.Kind → Bool) (kinds : List G.Kind)
    (H : Decided G rules Ext kinds) where
  apart : (p q : G.Kind → Bool) → are_apart G Ext kinds p q ≡ true → (k : G.Kind) → p k ≡ true → q k ≡ false
  apart p q e k h = neither (p k) (q k) (H.complete (λ k. not (p k && q k)) e k) h

  -- ---- some words of each form

  abbrev Nowhere : Inners G
  Nowhere i n k ts y = ⊥

  abbrev Plain : {A : Type 0} → Form G A → Type 0
  Plain {A} F = (w : Tokens G) × (x : A) × ((n k : ℕ) → Derives G Nowhere F n k w x)

  plain_either : {A : Type 0} (P Q : Form G A) (a b : Bool) → is_plain G Ext P ≡ a → is_plain G Ext Q ≡ b
      → a || b ≡ true → (is_plain G Ext P ≡ true → Plain P) → (is_plain G Ext Q ≡ true → Plain Q) → Plain (either P Q)
  plain_either P Q true b ea eb e p q = let h = p ea in (h.0, h.1, λ n k. inl (h.2 n k))
  plain_either P Q false true ea eb e p q = let h = q eb in (h.0, h.1, λ n k. inr (h.2 n k))
  plain_either P Q false false ea eb e p q = absurd cc

  pub plain_word : {A : Type 0} (F : Form G A) → is_plain G Ext F ≡ true → Plain F
  plain_word (nothing a) e = ([], a, λ n k. (refl, refl))
  plain_word (token s val) e = let t = H.sample s in (t.0 ∷ [], val t.0, λ n k. (t.0, refl, t.1, refl))
  plain_word (level s i val) e = absurd cc
  plain_word (both f P Q) e =
      let parts = and_parts _ _ e in
      let p = plain_word P parts.0 in
      let q = plain_word Q parts.1 in (
        p.0 ++ q.0,
        f p.1 q.1,
        λ n k. record {
          front = p.0;
          back = q.0;
          a = p.1;
          b = q.1;
          split = refl;
          first = p.2 n k;
          second = q.2 n (left k p.0);
          value = refl;
        },
      )
  plain_word (either P Q) e = plain_either P Q _ _ refl refl e (plain_word P) (plain_word Q)
  plain_word (many f ends P) e = ([], f [], λ n k. ([], refl, refl))

  inner_word : (d : ℕ) (i : G.Inner) → (w : Tokens G) × (y : G.Value i) × ((n k : ℕ) → Nested G rules (suc d) i n k w y)
  inner_word d i =
      let p = plain_word (rules i) (H.plain i) in (
        p.0,
        p.1,
        λ n k. derives_map G Nowhere (Nested G rules d) (λ i n k ts y h. absurd h) (rules i) n k p.0 p.1 (p.2 n k),
      )

  -- a word of the form, whose levels are not counted
  pub some_word : (d : ℕ) {A : Type 0} (F : Form G A)
      → (w : Tokens G) × (x : A) × ((n : ℕ) → Derives G (Nested G rules (suc d)) F n 0 w x)
  some_word d (nothing a) = ([], a, λ n. (refl, refl))
  some_word d (token s val) = let t = H.sample s in (t.0 ∷ [], val t.0, λ n. (t.0, refl, t.1, refl))
  some_word d (level s i val) =
      let t = H.sample s in
      let v = inner_word d i in
      (t.0 ∷ v.0, val t.0 v.1, λ n. (t.0, v.0, v.1, refl, t.1, v.2 0 0, refl))
  some_word d (both f P Q) =
      let p = some_word d P in
      let q = some_word d Q in (
        p.0 ++ q.0,
        f p.1 q.1,
        λ n. record {
          front = p.0;
          back = q.0;
          a = p.1;
          b = q.1;
          split = refl;
          first = p.2 n;
          second = q.2 n;
          value = refl;
        },
      )
  some_word d (either P Q) = let p = some_word d P in (p.0, p.1, λ n. inl (p.2 n))
  some_word d (many f ends P) = ([], f [], λ n. ([], refl, refl))

  -- ---- the three kinds of words of a form

  module _ (n : ℕ) where
    abbrev pub E : {A : Type 0} → Form G A → ℕ → Tokens G → A → Type 0
    E F k w x = Derives G (Nested G rules (suc n)) F n k w x

    abbrev pub L : {A : Type 0} → Form G A → ℕ → Tokens G → A → Type 0
    L F k w x = Derives G (AnyNested G rules) F n k w x

  abbrev pub U : {A : Type 0} → Form G A → Tokens G → A → Type 0
  U F w x = Derives G (AnyNested G rules) F 0 0 w x

  free : {A : Type 0} (n : ℕ) (F : Form G A) (k : ℕ) (w : Tokens G) (x : A) → L n F k w x → U F w x
  free n F k w x h = derives_free G (AnyNested G rules) (any_free G rules) F n k w x h

  abbrev pub Exactly : (n : ℕ) {A : Type 0} (F : Form G A) → (G.Kind → Bool) → Tokens G → Outcome G.Token A → Type 0
  Exactly n F ext ts o = Good G (E n F) (L n F) (U F) ext ts o

  -- ---- one token

  abbrev is_kind : G.Kind → Tokens G → Bool
  is_kind s ts = is_next G s ts

  nothing_exact : (n : ℕ) {A : Type 0} (a : A) (ext : G.Kind → Bool) (ts : Tokens G)
      → Exactly n (nothing a) ext ts (Read a ts)
  nothing_exact n a ext ts = record { used = []; split = refl; word = λ k. (refl, refl); only = λ w more z b u r. u }

  -- a form whose words begin with a token of this kind, where another comes
  refuse : (n : ℕ) {A : Type 0} (F : Form G A) (s : G.Kind)
      → ((w more : Tokens G) (x : A) → U F w x → is_kind s (w ++ more) ≡ true) → (ext : G.Kind → Bool) (ts : Tokens G)
      → is_kind s ts ≡ false → Exactly n F ext ts (Failed Unexpected ts)
  refuse n F s first_is ext ts e =
      let some = some_word n F in
      record {
        used = [];
        split = refl;
        begins = record { more = some.0; value = some.1; word = some.2 n };
        none = λ w more z b u r.
            let far = as_far_next ext ts w more z r in
            clash (is_kind s ts) (sym (passes_next G (G.is s) (w ++ more) ts far) ∙ first_is w more b u) e;
      }
    where
      as_far_next : (ext : G.Kind → Bool) (ts w more z : Tokens G) → Reaches G ext [] ts w more z
          → next (w ++ more) ≡ next ts
      as_far_next ext ts w more z r = ap next r.same ∙ r.goes

  token_first : {A : Type 0} (s : G.Kind) (val : G.Token → A) (w more : Tokens G) (x : A) → U (token s val) w x
      → is_kind s (w ++ more) ≡ true
  token_first s val w more x h = subst (λ l. is_kind s (l ++ more) ≡ true) (sym h.1) h.2

  level_first : {A : Type 0} (s : G.Kind) (i : G.Inner) (val : G.Token → G.Value i → A) (w more : Tokens G) (x : A)
      → U (level s i val) w x → is_kind s (w ++ more) ≡ true
  level_first s i val w more x h = subst (λ l. is_kind s (l ++ more) ≡ true) (sym h.3) h.4

  token_exact : (n : ℕ) {A : Type 0} (s : G.Kind) (val : G.Token → A) (ext : G.Kind → Bool) (ts : Tokens G)
      → Exactly n (token s val) ext ts (taken G s val (next ts) ts)
  token_exact n s val ext [] = refuse n (token s val) s (token_first s val) ext [] refl
  token_exact n s val ext (t ∷ ts) = by_test (G.is s (G.kind t)) refl
    where
      by_test : (b : Bool) → G.is s (G.kind t) ≡ b
          → Exactly n (token s val) ext (t ∷ ts) (cond b (Read (val t) ts) (Failed Unexpected (t ∷ ts)))
      by_test false e = refuse n (token s val) s (token_first s val) ext (t ∷ ts) e
      by_test true e = record {
        used = t ∷ [];
        split = refl;
        word = λ k. (t, refl, e, refl);
        only = λ w more z b u r.
            let same : u.0 ∷ more ≡ t ∷ z = ap (λ l. l ++ more) (sym u.1) ∙ r.same in
            let token_same : u.0 ≡ t = cc in
            (u.1 ∙ ap (λ t. t ∷ []) token_same, u.3 ∙ ap val token_same);
      }

  -- ---- a level

  weaker : (p q : G.Kind → Bool) → ((k : G.Kind) → q k ≡ false → p k ≡ false) → (ts : Tokens G) → IsFree G q ts
      → IsFree G p ts
  weaker p q h ts e = passes_weaker G p q (next_kind G ts) h e

  no_extension : (i : G.Inner) (k : G.Kind) → Ext i k ≡ false → extends G Ext (rules i) k ≡ false
  no_extension i k e = false_from_ne_true (extends G Ext (rules i) k) (λ h. clash (Ext i k) (H.extended i k h) e)

  no_level : {A : Type 0} (s : G.Kind) (i : G.Inner) (val : G.Token → G.Value i → A) (t : G.Token) (ts : Tokens G)
      → is_kind s (t ∷ ts) ≡ true → Exactly 0 (level s i val) (Ext i) (t ∷ ts) (Failed TooDeep (t ∷ ts))
  no_level s i val t ts e =
      let some = some_word 0 (level s i val) in
      let v = inner_word 0 i in
      record {
        used = [];
        split = refl;
        token = t;
        here = refl;
        begins = record { more = some.0; value = some.1; word = some.2 0 };
        goes_on = record { more = v.0; value = val t v.1; word = (t, v.0, v.1, refl, e, v.2 0 0, refl) };
        none = λ w more z b u r. u.5;
      }

  module _ {A : Type 0} (s : G.Kind) (i : G.Inner) (val : G.Token → G.Value i → A) (m : ℕ)
      (p : Parser G.Token (G.Value i))
      (exact : (ts : Tokens G) → Exactly m (rules i) (extends G Ext (rules i)) ts (p ts)) (t : G.Token)
      (ts : Tokens G) where
    first_is : (w more : Tokens G) (x : A) (n k : ℕ) (h : Derives G (AnyNested G rules) (level s i val) n k w x)
        → AsFar G (Ext i) (t ∷ ts) w more → h.0 ≡ t
    first_is w more x n k h far =
        let same : Some h.0 ≡ Some t = ap (λ l. next (l ++ more)) (sym h.3) ∙ far.1 in
        cc

    one_level : is_kind s (t ∷ ts) ≡ true
        → Exactly (suc m) (level s i val) (Ext i) (t ∷ ts) (and_then (p ts) (λ y rest. Read (val t y) rest))
    one_level e =
        let inner =
        good_change G (E m (rules i)) (L m (rules i)) (U (rules i)) (E m (rules i)) (L m (rules i)) (U (rules i))
        (extends G Ext (rules i)) (Ext i) ts (p ts) (weaker (extends G Ext (rules i)) (Ext i) (no_extension i))
        (λ k w a h. h) (λ w more a h far. h) (λ k w more a h far. h) (exact ts) in
        behind_token G (λ k. Image G (val t) (E m (rules i)) (L m (rules i)) (U (rules i)) (Ext i) ts (E m (rules i) k))
        (λ k. Image G (val t) (E m (rules i)) (L m (rules i)) (U (rules i)) (Ext i) ts (L m (rules i) k))
        (Image G (val t) (E m (rules i)) (L m (rules i)) (U (rules i)) (Ext i) ts (U (rules i)))
        (E (suc m) (level s i val)) (L (suc m) (level s i val)) (U (level s i val)) (Ext i) t ts
        (λ v a h. (
          t,
          v,
          h.0,
          refl,
          e,
          derives_free G (Nested G rules (suc m)) (nested_free G rules (suc m)) (rules i) m 0 v h.0 h.1,
          h.2,
        ))
        (λ k v a h. (t, v, h.0, refl, e, h.1, h.2))
        (λ w more a h far.
        let same = first_is w more a 0 0 h far in (
          h.1,
          h.3 ∙ ap (λ t. t ∷ h.1) same,
          (h.2, any_inside G rules i 0 0 h.1 h.2 h.5, h.6 ∙ ap (λ t. val t h.2) same),
        ))
        (λ k w more a h far.
        let same = first_is w more a (suc m) (suc k) h far in (
          h.1,
          h.3 ∙ ap (λ t. t ∷ h.1) same,
          (h.2, any_inside G rules i m k h.1 h.2 h.5, h.6 ∙ ap (λ t. val t h.2) same),
        ))
        _ (image G (val t) (E m (rules i)) (L m (rules i)) (U (rules i)) (Ext i) ts (p ts) inner)

  -- ---- one of two

  module _ (n : ℕ) {A : Type 0} (P Q : Form G A) (empty : nullable G P ≡ false)
      (differ : (k : G.Kind) → first G P k ≡ true → first G Q k ≡ false) where
    abbrev ext_either : G.Kind → Bool
    ext_either k = extends G Ext P k || (extends G Ext Q k || (nullable G Q && first G P k))

    never_empty : (I : Inners G) (n k : ℕ) (w : Tokens G) (x : A) → Derives G I P n k w x → w ≡ [] → ⊥
    never_empty I n k w x h e = clash (nullable G P) (null_sound G I P n k w x h e) empty

    -- a word of the first begins as the first does
    first_begins : (n k : ℕ) (w more ts : Tokens G) (x : A) → Derives G (AnyNested G rules) P n k w x
        → next (w ++ more) ≡ next ts → begins G P ts ≡ true
    first_begins n k w more ts x h far = by_word w refl
      where
        by_word : (u : Tokens G) → w ≡ u → begins G P ts ≡ true
        by_word [] e = absurd (never_empty (AnyNested G rules) n k w x h e)
        by_word (t ∷ u) e =
            sym (passes_next G (first G P) (w ++ more) ts far) ∙ ap (λ l. begins G P (l ++ more)) e
            ∙ first_sound G (AnyNested G rules) P n k w x h t u e

    -- where the next token begins the first, a word is none of the second
    no_second : (n k : ℕ) (w more ts : Tokens G) (x : A) → Derives G (AnyNested G rules) Q n k w x
        → AsFar G ext_either ts w more → begins G P ts ≡ true → ⊥
    no_second n k w more ts x h far b = by_word w refl
      where
        begins_too : begins G P (w ++ more) ≡ true
        begins_too = passes_next G (first G P) (w ++ more) ts far.1 ∙ b

        no_first : nullable G Q ≡ true → (k : G.Kind) → ext_either k ≡ false → first G P k ≡ false
        no_first e k f =
            let one = or_parts (extends G Ext P k) (extends G Ext Q k || (nullable G Q && first G P k)) f in
            let two = or_parts (extends G Ext Q k) (nullable G Q && first G P k) one.1 in
            false_from_ne_true (first G P k)
            (λ h. clash (nullable G Q && first G P k) (both_true (nullable G Q) (first G P k) e h) two.1)

        by_word : (u : Tokens G) → w ≡ u → ⊥
        by_word [] e =
            let null = null_sound G (AnyNested G rules) Q n k w x h e in
            clash (begins G P more) (ap (λ l. begins G P (l ++ more)) (sym e) ∙ begins_too)
            (weaker (first G P) ext_either (no_first null) more far.0)
        by_word (t ∷ u) e =
            let one : first G P (G.kind t) ≡ true = ap (λ l. begins G P (l ++ more)) (sym e) ∙ begins_too in
            clash (first G Q (G.kind t)) (first_sound G (AnyNested G rules) Q n k w x h t u e) (differ (G.kind t) one)

    smaller_first : (k : G.Kind) → ext_either k ≡ false → extends G Ext P k ≡ false
    smaller_first k e = (or_parts _ _ e).0

    smaller_second : (k : G.Kind) → ext_either k ≡ false → extends G Ext Q k ≡ false
    smaller_second k e = (or_parts _ _ (or_parts _ _ e).1).0

    choose : (ts : Tokens G) (p q : Outcome G.Token A) → Exactly n P (extends G Ext P) ts p
        → Exactly n Q (extends G Ext Q) ts q → (b : Bool) → begins G P ts ≡ b
        → Exactly n (either P Q) ext_either ts (cond b p q)
    choose ts p q gp gq true e =
        good_change G (E n P) (L n P) (U P) (E n (either P Q)) (L n (either P Q)) (U (either P Q)) (extends G Ext P)
        ext_either ts p (weaker (extends G Ext P) ext_either smaller_first) (λ k w a h. inl h) out_u out_l gp
      where
        out_l : (k : ℕ) (w more : Tokens G) (a : A) → L n (either P Q) k w a → AsFar G ext_either ts w more
            → L n P k w a
        out_l k w more a (inl h) far = h
        out_l k w more a (inr h) far = absurd (no_second n k w more ts a h far e)

        out_u : (w more : Tokens G) (a : A) → U (either P Q) w a → AsFar G ext_either ts w more → U P w a
        out_u w more a (inl h) far = h
        out_u w more a (inr h) far = absurd (no_second 0 0 w more ts a h far e)
    choose ts p q gp gq false e =
        good_change G (E n Q) (L n Q) (U Q) (E n (either P Q)) (L n (either P Q)) (U (either P Q)) (extends G Ext Q)
        ext_either ts q (weaker (extends G Ext Q) ext_either smaller_second) (λ k w a h. inr h) out_u out_l gq
      where
        out_l : (k : ℕ) (w more : Tokens G) (a : A) → L n (either P Q) k w a → AsFar G ext_either ts w more
            → L n Q k w a
        out_l k w more a (inl h) far = absurd (clash (begins G P ts) (first_begins n k w more ts a h far.1) e)
        out_l k w more a (inr h) far = h

        out_u : (w more : Tokens G) (a : A) → U (either P Q) w a → AsFar G ext_either ts w more → U Q w a
        out_u w more a (inl h) far = absurd (clash (begins G P ts) (first_begins 0 0 w more ts a h far.1) e)
        out_u w more a (inr h) far = h

  -- ---- one behind the other

  module _ (n : ℕ) {A B C : Type 0} (f : A → B → C) (P : Form G A) (Q : Form G B)
      (differ : (k : G.Kind) → extends G Ext P k ≡ true → first G Q k ≡ false) where
    abbrev ext_both : G.Kind → Bool
    ext_both k = extends G Ext Q k || (nullable G Q && extends G Ext P k)

    stops : (v more : Tokens G) (b : B) → U Q v b → IsFree G ext_both more → IsFree G (extends G Ext P) (v ++ more)
    stops v more b h e = by_word v refl
      where
        no_first : (k : G.Kind) → first G Q k ≡ true → extends G Ext P k ≡ false
        no_first k h = false_from_ne_true (extends G Ext P k) (λ g. clash (first G Q k) h (differ k g))

        by_end : nullable G Q ≡ true → (k : G.Kind) → ext_both k ≡ false → extends G Ext P k ≡ false
        by_end null k f =
            let two = or_parts (extends G Ext Q k) (nullable G Q && extends G Ext P k) f in
            false_from_ne_true (extends G Ext P k)
            (λ g. clash (nullable G Q && extends G Ext P k) (both_true (nullable G Q) (extends G Ext P k) null g) two.1)

        by_word : (u : Tokens G) → v ≡ u → IsFree G (extends G Ext P) (v ++ more)
        by_word [] is =
            let null = null_sound G (AnyNested G rules) Q 0 0 v b h is in
            subst (λ l. IsFree G (extends G Ext P) (l ++ more)) (sym is)
            (weaker (extends G Ext P) ext_both (by_end null) more e)
        by_word (t ∷ u) is =
            subst (λ l. IsFree G (extends G Ext P) (l ++ more)) (sym is)
            (no_first (G.kind t) (first_sound G (AnyNested G rules) Q 0 0 v b h t u is))

    smaller_both : (k : G.Kind) → ext_both k ≡ false → extends G Ext Q k ≡ false
    smaller_both k e = (or_parts (extends G Ext Q k) (nullable G Q && extends G Ext P k) e).0

    both_exact : (ts : Tokens G) (p : Outcome G.Token A) (q : Parser G.Token B) → Exactly n P (extends G Ext P) ts p
        → ((rest : Tokens G) → Exactly n Q (extends G Ext Q) rest (q rest))
        → Exactly n (both f P Q) ext_both ts (and_then p (λ a rest. and_then (q rest) (λ b rest2. Read (f a b) rest2)))
    both_exact ts p q gp gq =
        let some = some_word n Q in
        let two =
        pairs G f (E n P) (L n P) (U P) (λ a. E n Q) (λ a. L n Q) (λ a. U Q) (extends G Ext P) (extends G Ext Q)
        ext_both (free n P) (λ a. free n Q) (λ a. stops) (weaker (extends G Ext Q) ext_both smaller_both) (λ a. some.0)
        (λ a. some.1) (λ a. some.2 n) ts p (λ a. q) gp (λ a rest g. gq rest) in
        good_change G (Two G f (E n P) (L n P) (U P) (λ a. E n Q) (λ a. L n Q) (λ a. U Q) (extends G Ext P)
        (extends G Ext Q) ext_both (E n P) (λ a. E n Q))
        (Two G f (E n P) (L n P) (U P) (λ a. E n Q) (λ a. L n Q) (λ a. U Q) (extends G Ext P) (extends G Ext Q) ext_both
        (L n P) (λ a. L n Q))
        (Both G f (E n P) (L n P) (U P) (λ a. E n Q) (λ a. L n Q) (λ a. U Q) (extends G Ext P) (extends G Ext Q)
        ext_both)
        (E n (both f P Q)) (L n (both f P Q)) (U (both f P Q)) ext_both ext_both ts _ (λ more e. e)
        (λ k w c h. record {
          front = h.front;
          back = h.back;
          a = h.a;
          b = h.b;
          split = h.split;
          first = h.first;
          second = h.second;
          value = h.value;
        })
        (λ w more c h far. record {
          front = h.front;
          back = h.back;
          a = h.a;
          b = h.b;
          split = h.split;
          first = h.first;
          second = h.second;
          value = h.value;
        })
        (λ k w more c h far. record {
          front = h.front;
          back = h.back;
          a = h.a;
          b = h.b;
          split = h.split;
          first = h.first;
          second = h.second;
          value = h.value;
        })
        two

  -- ---- as often as it comes

  module _ {A : Type 0} (p : Parser G.Token A) (ends : A → Bool) (more : Tokens G → Bool) where
    -- the same with no part found before
    abbrev collect : ℕ → Parser G.Token (List A)
    collect zero ts = Read [] ts
    collect (suc m) ts =
        cond (more ts) (and_then (p ts)
        (λ a rest. and_then (cond (ends a) (Read [] rest) (collect m rest)) (λ xs2 rest2. Read (a ∷ xs2) rest2)))
        (Read [] ts)

    abbrev behind_found : List A → Outcome G.Token (List A) → Outcome G.Token (List A)
    behind_found found o = and_then o (λ xs2 rest. Read (found ++ xs2) rest)

    found_more : (found : List A) (a : A) (o : Outcome G.Token (List A))
        → behind_found (found ++ a ∷ []) o ≡ behind_found found (and_then o (λ xs2 rest2. Read (a ∷ xs2) rest2))
    found_more found a (Read xs2 rest) = ap (λ l. Read l rest) (append_assoc found (a ∷ []) xs2)
    found_more found a (Failed e rest) = refl

    abbrev go_on : ℕ → List A → A → Parser G.Token (List A)
    go_on m found a rest = cond (ends a) (Read (found ++ a ∷ []) rest) (repeat G p ends more m (found ++ a ∷ []) rest)

    goes_on_is : (m : ℕ) (found : List A) (a : A) (rest : Tokens G) (b : Bool)
        → repeat G p ends more m (found ++ a ∷ []) rest ≡ behind_found (found ++ a ∷ []) (collect m rest)
        → cond b (Read (found ++ a ∷ []) rest) (repeat G p ends more m (found ++ a ∷ []) rest)
        ≡ behind_found found (and_then (cond b (Read [] rest) (collect m rest)) (λ xs2 rest2. Read (a ∷ xs2) rest2))
    goes_on_is m found a rest true h = refl
    goes_on_is m found a rest false h = h ∙ found_more found a (collect m rest)

    pub repeat_is : (m : ℕ) (found : List A) (ts : Tokens G)
        → repeat G p ends more m found ts ≡ behind_found found (collect m ts)
    repeat_is zero found ts = ap (λ l. Read l ts) (sym (append-nil found))
    repeat_is (suc m) found ts = by_test (more ts) (p ts) (λ a rest. repeat_is m (found ++ a ∷ []) rest)
      where
        by_part : (o : Outcome G.Token A)
            → ((a : A) (rest : Tokens G)
            → repeat G p ends more m (found ++ a ∷ []) rest ≡ behind_found (found ++ a ∷ []) (collect m rest))
            → and_then o (λ a rest. go_on m found a rest)
            ≡ behind_found found (and_then o
            (λ a rest. and_then (cond (ends a) (Read [] rest) (collect m rest)) (λ xs2 rest2. Read (a ∷ xs2) rest2)))
        by_part (Read a rest) h = goes_on_is m found a rest (ends a) (h a rest)
        by_part (Failed e rest) h = refl

        by_test : (b : Bool) (o : Outcome G.Token A)
            → ((a : A) (rest : Tokens G)
            → repeat G p ends more m (found ++ a ∷ []) rest ≡ behind_found (found ++ a ∷ []) (collect m rest))
            → cond b (and_then o (λ a rest. go_on m found a rest)) (Read found ts)
            ≡ behind_found found (cond b
            (and_then o
            (λ a rest. and_then (cond (ends a) (Read [] rest) (collect m rest)) (λ xs2 rest2. Read (a ∷ xs2) rest2)))
            (Read [] ts))
        by_test true o h = by_part o h
        by_test false o h = ap (λ l. Read l ts) (sym (append-nil found))

  module _ (n : ℕ) {A : Type 0} (ends : A → Bool) (P : Form G A) (empty : nullable G P ≡ false)
      (differ : (k : G.Kind) → extends G Ext P k ≡ true → first G P k ≡ false) where
    abbrev ME : ℕ → Tokens G → List A → Type 0
    ME k w xs = Many G (Derives G (Nested G rules (suc n)) P) ends n k w xs

    abbrev ML : ℕ → Tokens G → List A → Type 0
    ML k w xs = Many G (Derives G (AnyNested G rules) P) ends n k w xs

    abbrev MU : Tokens G → List A → Type 0
    MU w xs = Many G (Derives G (AnyNested G rules) P) ends 0 0 w xs

    abbrev ext_many : G.Kind → Bool
    ext_many k = first G P k || extends G Ext P k

    -- the first token of some parts, of which there is one
    part_begins : (n k : ℕ) (w : Tokens G) (x : A) (xs : List A)
        → Many G (Derives G (AnyNested G rules) P) ends n k w (x ∷ xs)
        → (t : G.Token) × (v : Tokens G) × (w ≡ t ∷ v) × (first G P (G.kind t) ≡ true)
    part_begins n k w x xs m = by_word m.0 refl
      where
        by_word : (u : Tokens G) → m.0 ≡ u
            → (t : G.Token) × (v : Tokens G) × (w ≡ t ∷ v) × (first G P (G.kind t) ≡ true)
        by_word [] e = absurd (clash (nullable G P) (null_sound G (AnyNested G rules) P n k m.0 x m.3 e) empty)
        by_word (t ∷ u) e =
            (t, u ++ m.1, m.2 ∙ ap (λ l. l ++ m.1) e, first_sound G (AnyNested G rules) P n k m.0 x m.3 t u e)

    many_stops : (v more : Tokens G) (xs : List A) → MU v xs → IsFree G ext_many more
        → IsFree G (extends G Ext P) (v ++ more)
    many_stops v more [] m e =
        subst (λ l. IsFree G (extends G Ext P) (l ++ more)) (sym m)
        (weaker (extends G Ext P) ext_many (λ k f. (or_parts (first G P k) (extends G Ext P k) f).1) more e)
    many_stops v more (x ∷ xs) m e =
        let b = part_begins 0 0 v x xs m in
        subst (λ l. IsFree G (extends G Ext P) (l ++ more)) (sym b.2)
        (false_from_ne_true (extends G Ext P (G.kind b.0))
        (λ g. clash (first G P (G.kind b.0)) b.3 (differ (G.kind b.0) g)))

    none_here : (ts : Tokens G) → begins G P ts ≡ false → Good G ME ML MU ext_many ts (Read [] ts)
    none_here ts e = record { used = []; split = refl; word = λ k. refl; only = only }
      where
        only : (w more z : Tokens G) (xs : List A) → MU w xs → Reaches G ext_many [] ts w more z → (w ≡ []) × (xs ≡ [])
        only w more z [] m r = (m, refl)
        only w more z (x ∷ xs) m r =
            let b = part_begins 0 0 w x xs m in
            let far : next (w ++ more) ≡ next ts = ap next r.same ∙ r.goes in
            let starts_it : begins G P ts ≡ true =
            sym (passes_next G (first G P) (w ++ more) ts far) ∙ ap (λ l. begins G P (l ++ more)) b.2 ∙ b.3 in
            absurd (clash (begins G P ts) starts_it e)

    -- where the next token begins a part, a part comes
    no_none : (ts w more : Tokens G) → begins G P ts ≡ true → w ≡ [] → AsFar G ext_many ts w more → ⊥
    no_none ts w more b e far =
        let starts_it : begins G P more ≡ true =
        ap (λ l. begins G P (l ++ more)) (sym e) ∙ passes_next G (first G P) (w ++ more) ts far.1 ∙ b in
        clash (begins G P more) starts_it
        (weaker (first G P) ext_many (λ k f. (or_parts (first G P k) (extends G Ext P k) f).0) more far.0)

    -- what may come behind a part: nothing, where it ends them
    abbrev Behind : (ℕ → Tokens G → List A → Type 0) → A → ℕ → Tokens G → List A → Type 0
    Behind X a k w xs = X k w xs × (ends a ≡ true → xs ≡ [])

    abbrev TwoOf : (ℕ → Tokens G → A → Type 0) → (ℕ → Tokens G → List A → Type 0) → ℕ → Tokens G → List A → Type 0
    TwoOf X Y = Two G (λ a xs2. a ∷ xs2) (E n P) (L n P) (U P) (Behind ME) (Behind ML) (λ a. Behind (λ k. MU) a 0)
        (extends G Ext P) ext_many ext_many X (Behind Y)

    -- behind a part that ends them nothing comes
    ended : (a : A) (ts : Tokens G) → ends a ≡ true
        → Good G (Behind ME a) (Behind ML a) (Behind (λ k. MU) a 0) ext_many ts (Read [] ts)
    ended a ts e = record { used = []; split = refl; word = λ k. (refl, λ h. refl); only = only }
      where
        only : (w more z : Tokens G) (xs : List A) → Behind (λ k. MU) a 0 w xs → Reaches G ext_many [] ts w more z
            → (w ≡ []) × (xs ≡ [])
        only w more z [] m r = (m.0, refl)
        only w more z (x ∷ xs) m r = let clash2 : x ∷ xs ≡ [] = m.1 e in absurd cc

    not_ended : (a : A) (ts : Tokens G) (o : Outcome G.Token (List A)) → ends a ≡ false → Good G ME ML MU ext_many ts o
        → Good G (Behind ME a) (Behind ML a) (Behind (λ k. MU) a 0) ext_many ts o
    not_ended a ts o e g =
        good_change G ME ML MU (Behind ME a) (Behind ML a) (Behind (λ k. MU) a 0) ext_many ext_many ts o (λ more e. e)
        (λ k w xs h. (h, λ t. absurd (clash (ends a) t e))) (λ w more xs h far. h.0) (λ k w more xs h far. h.0) g

    one_more : (ts : Tokens G) (p : Outcome G.Token A) (q : A → Parser G.Token (List A)) → begins G P ts ≡ true
        → Exactly n P (extends G Ext P) ts p
        → ((a : A) (rest : Tokens G) → Taken G (E n P) (L n P) (U P) (extends G Ext P) ts a rest
        → Good G (Behind ME a) (Behind ML a) (Behind (λ k. MU) a 0) ext_many rest (q a rest))
        → Good G ME ML MU ext_many ts (and_then p (λ a rest. and_then (q a rest) (λ xs2 rest2. Read (a ∷ xs2) rest2)))
    one_more ts p q b gp gq =
        good_change G (TwoOf (E n P) ME) (TwoOf (L n P) ML) (λ w xs. TwoOf (λ k. U P) (λ k. MU) zero w xs) ME ML MU
        ext_many ext_many ts _ (λ more e. e) into out_u out_l
        (pairs G (λ a xs2. a ∷ xs2) (E n P) (L n P) (U P) (Behind ME) (Behind ML) (λ a. Behind (λ k. MU) a 0)
        (extends G Ext P) ext_many ext_many (free n P) (λ a k w xs m. (
          many_free G (AnyNested G rules) (any_free G rules) (Derives G (AnyNested G rules) P) ends
              (λ n k ts x h. derives_free G (AnyNested G rules) (any_free G rules) P n k ts x h) xs n k w m.0,
          m.1,
        )) (λ a v more xs m. many_stops v more xs m.0) (λ more e. e) (λ a. []) (λ a. []) (λ a. (refl, λ h. refl)) ts p q
        gp gq)
      where
        into : (k : ℕ) (w : Tokens G) (xs : List A) → TwoOf (E n P) ME k w xs → ME k w xs
        into k w xs h = subst (ME k w) (sym h.value) (h.front, h.back, h.split, h.first, h.second.0, h.second.1)

        out_l : (k : ℕ) (w more : Tokens G) (xs : List A) → ML k w xs → AsFar G ext_many ts w more
            → TwoOf (L n P) ML k w xs
        out_l k w more [] m far = absurd (no_none ts w more b m far)
        out_l k w more (x ∷ xs) m far = record {
          front = m.0;
          back = m.1;
          a = x;
          b = xs;
          split = m.2;
          first = m.3;
          second = (m.4, m.5);
          value = refl;
        }

        out_u : (w more : Tokens G) (xs : List A) → MU w xs → AsFar G ext_many ts w more
            → TwoOf (λ k. U P) (λ k. MU) zero w xs
        out_u w more [] m far = absurd (no_none ts w more b m far)
        out_u w more (x ∷ xs) m far = record {
          front = m.0;
          back = m.1;
          a = x;
          b = xs;
          split = m.2;
          first = m.3;
          second = (m.4, m.5);
          value = refl;
        }

    module _ (p : Parser G.Token A) (exact : (ts : Tokens G) → Exactly n P (extends G Ext P) ts (p ts)) where
      -- what is left is shorter
      shorter : (ts rest : Tokens G) (a : A) → Taken G (E n P) (L n P) (U P) (extends G Ext P) ts a rest
          → suc (length rest) ≤ length ts
      shorter ts rest a g = by_used g.used refl
        where
          by_used : (u : Tokens G) → g.used ≡ u → suc (length rest) ≤ length ts
          by_used [] e =
              absurd (clash (nullable G P) (null_sound G (Nested G rules (suc n)) P n 0 g.used a (g.word 0) e) empty)
          by_used (t ∷ u) e = omega (arith, ap length g.split, ap length (ap (λ l. l ++ rest) e), length-append u rest)

      collect_exact : (m : ℕ) (ts : Tokens G) → length ts ≤ m
          → Good G ME ML MU ext_many ts (collect p ends (begins G P) m ts)
      collect_exact zero [] le = none_here [] refl
      collect_exact zero (t ∷ ts) le = absurd (omega arith)
      collect_exact (suc m) ts le = by_test (begins G P ts) refl (λ rest le. collect_exact m rest le)
        where
          behind : (a : A) (rest : Tokens G) (b : Bool) → ends a ≡ b
              → Good G ME ML MU ext_many rest (collect p ends (begins G P) m rest)
              → Good G (Behind ME a) (Behind ML a) (Behind (λ k. MU) a 0) ext_many rest
              (cond b (Read [] rest) (collect p ends (begins G P) m rest))
          behind a rest true e h = ended a rest e
          behind a rest false e h = not_ended a rest _ e h

          by_test : (b : Bool) → begins G P ts ≡ b
              → ((rest : Tokens G) → length rest ≤ m
              → Good G ME ML MU ext_many rest (collect p ends (begins G P) m rest))
              → Good G ME ML MU ext_many ts
              (cond b (and_then (p ts) (λ a rest.
              and_then (cond (ends a) (Read [] rest) (collect p ends (begins G P) m rest))
              (λ xs2 rest2. Read (a ∷ xs2) rest2)))
              (Read [] ts))
          by_test false e h = none_here ts e
          by_test true e h =
              one_more ts (p ts) (λ a rest. cond (ends a) (Read [] rest) (collect p ends (begins G P) m rest)) e
              (exact ts) (λ a rest g. behind a rest (ends a) refl (h rest (omega (arith, shorter ts rest a g))))

      pub many_exact : {B : Type 0} (f : List A → B) (ts : Tokens G)
          → Exactly n (many f ends P) ext_many ts
          (and_then (repeat G p ends (begins G P) (length ts) [] ts) (λ xs rest. Read (f xs) rest))
      many_exact f ts =
          subst (λ o. Exactly n (many f ends P) ext_many ts (and_then o (λ xs rest. Read (f xs) rest)))
          (sym (repeat_is p ends (begins G P) (length ts) [] ts
          ∙ no_found (collect p ends (begins G P) (length ts) ts)))
          (image G f ME ML MU ext_many ts (collect p ends (begins G P) (length ts) ts)
          (collect_exact (length ts) ts (omega arith)))
        where
          no_found : (o : Outcome G.Token (List A)) → behind_found p ends (begins G P) [] o ≡ o
          no_found (Read xs2 rest) = refl
          no_found (Failed e rest) = refl

  -- ---- each form

  abbrev pub FormIsExact : ℕ → Type 1
  FormIsExact n =
      (A : Type 0) (F : Form G A) → is_decided G Ext kinds F ≡ true → (ts : Tokens G)
      → Exactly n F (extends G Ext F) ts (parser G rules n F ts)

  abbrev LevelIsExact : ℕ → Type 1
  LevelIsExact n =
      (A : Type 0) (s : G.Kind) (i : G.Inner) (val : G.Token → G.Value i → A) (ts : Tokens G)
      → Exactly n (level s i val) (Ext i) ts (parser G rules n (level s i val) ts)

  form_exact : (n : ℕ) → LevelIsExact n → {A : Type 0} (F : Form G A) → is_decided G Ext kinds F ≡ true
      → (ts : Tokens G) → Exactly n F (extends G Ext F) ts (parser G rules n F ts)
  unfolding read
  form_exact n levels (nothing a) e ts = nothing_exact n a _ ts
  form_exact n levels (token s val) e ts = token_exact n s val _ ts
  form_exact n levels (level s i val) e ts = levels _ s i val ts
  form_exact n levels (both f P Q) e ts =
      let one =
      and_parts (is_decided G Ext kinds P)
      (is_decided G Ext kinds Q && are_apart G Ext kinds (extends G Ext P) (first G Q)) e in
      let two = and_parts (is_decided G Ext kinds Q) (are_apart G Ext kinds (extends G Ext P) (first G Q)) one.1 in
      both_exact n f P Q (apart (extends G Ext P) (first G Q) two.1) ts (parser G rules n P ts) (parser G rules n Q)
      (form_exact n levels P one.0 ts) (form_exact n levels Q two.0)
  form_exact n levels (either P Q) e ts =
      let one =
      and_parts (is_decided G Ext kinds P)
      (is_decided G Ext kinds Q && (not (nullable G P) && are_apart G Ext kinds (first G P) (first G Q))) e in
      let two =
      and_parts (is_decided G Ext kinds Q) (not (nullable G P) && are_apart G Ext kinds (first G P) (first G Q))
      one.1 in
      let three = and_parts (not (nullable G P)) (are_apart G Ext kinds (first G P) (first G Q)) two.1 in
      choose n P Q (not-true (nullable G P) three.0) (apart (first G P) (first G Q) three.1) ts (parser G rules n P ts)
      (parser G rules n Q ts) (form_exact n levels P one.0 ts) (form_exact n levels Q two.0 ts) (begins G P ts) refl
  form_exact n levels (many f ends P) e ts =
      let one =
      and_parts (is_decided G Ext kinds P) (not (nullable G P) && are_apart G Ext kinds (extends G Ext P) (first G P))
      e in
      let two = and_parts (not (nullable G P)) (are_apart G Ext kinds (extends G Ext P) (first G P)) one.1 in
      many_exact n ends P (not-true (nullable G P) two.0) (apart (extends G Ext P) (first G P) two.1)
      (parser G rules n P) (form_exact n levels P one.0) f ts

  levels_zero : LevelIsExact 0
  unfolding below read
  levels_zero A s i val [] = refuse 0 (level s i val) s (level_first s i val) (Ext i) [] refl
  levels_zero A s i val (t ∷ ts) = by_test (G.is s (G.kind t)) refl
    where
      by_test : (b : Bool) → G.is s (G.kind t) ≡ b
          → Exactly 0 (level s i val) (Ext i) (t ∷ ts) (cond b (Failed TooDeep (t ∷ ts)) (Failed Unexpected (t ∷ ts)))
      by_test false e = refuse 0 (level s i val) s (level_first s i val) (Ext i) (t ∷ ts) e
      by_test true e = no_level s i val t ts e

  levels_more : (m : ℕ) → FormIsExact m → LevelIsExact (suc m)
  unfolding below read
  levels_more m exact A s i val [] = refuse (suc m) (level s i val) s (level_first s i val) (Ext i) [] refl
  levels_more m exact A s i val (t ∷ ts) = by_test (G.is s (G.kind t)) refl
    where
      by_test : (b : Bool) → G.is s (G.kind t) ≡ b
          → Exactly (suc m) (level s i val) (Ext i) (t ∷ ts)
          (cond b (inside_of G (below G rules (suc m)) i (val t) (t ∷ ts)) (Failed Unexpected (t ∷ ts)))
      by_test false e = refuse (suc m) (level s i val) s (level_first s i val) (Ext i) (t ∷ ts) e
      by_test true e =
          one_level s i val m (parser G rules m (rules i)) (exact (G.Value i) (rules i) (H.decided i)) t ts e

  pub exact : (n : ℕ) → FormIsExact n
  exact zero A F = form_exact zero levels_zero F
  exact (suc n) A F = form_exact (suc n) (levels_more n (exact n)) F
