-- Parsers that are exact, put together.
use Rattle.std.proofs.Common.{◌≡◌, ℕ, zero, suc, Bool, false, List, [], ◌∷◌, ◌++◌, length, Some, refl, sym, ap, ◌∙◌, subst, arith, append_assoc}
use Rattle.std.proofs.lemmas.List.{append_cancel_left}
use Rattle.rev_expressions.specs.Outcome.{Unexpected, TooDeep, Outcome, Read, Failed, Parser, and_then, next, left}
use Rattle.rev_expressions.specs.Form.{Alphabet}
use Rattle.rev_expressions.specs.Reader.{passes, next_kind}

-- ---- tokens that are counted

pub left-whole : {T : Type 0} (u v : List T) (k : ℕ) → k ≡ length (u ++ v) → left k u ≡ length v
left-whole [] v zero e = e
left-whole [] v (suc k) e = e
left-whole (t ∷ u) v zero e = absurd (omega (arith, e))
left-whole (t ∷ u) v (suc k) e = left-whole u v k (omega (arith, e))

pub left-more : {T : Type 0} (u v : List T) (k : ℕ) → k ≡ suc (length (u ++ v)) → left k u ≡ suc (length v)
left-more [] v zero e = e
left-more [] v (suc k) e = e
left-more (t ∷ u) v zero e = absurd (omega (arith, e))
left-more (t ∷ u) v (suc k) e = left-more u v k (omega (arith, e))

pub left-past : {T : Type 0} (u v : List T) (k : ℕ) → k ≡ length u → left k (u ++ v) ≡ 0
left-past u v zero e = refl
left-past [] v (suc k) e = absurd (omega (arith, e))
left-past (t ∷ u) v (suc k) e = left-past u v k (omega (arith, e))

module _ (G : Alphabet) where
  abbrev pub Tokens : Type 0
  Tokens = List G.Token

  -- the next token is none of these kinds
  abbrev pub IsFree : (G.Kind → Bool) → Tokens → Type 0
  IsFree ext ts = passes G ext (next_kind G ts) ≡ false

  -- the word, and what may follow it, go as far as these tokens and the first of the rest
  pub record Reaches (ext : G.Kind → Bool) (used rest w more z : Tokens) : Type 0 where
    pub free : IsFree ext more
    pub same : w ++ more ≡ used ++ z
    pub goes : next z ≡ next rest

  pub next_same : (v rest rest2 z : Tokens) → rest ≡ v ++ rest2 → next z ≡ next rest2 → next (v ++ z) ≡ next rest
  next_same [] rest rest2 z e n = n ∙ ap next (sym e)
  next_same (t ∷ v) rest rest2 z e n = ap next (sym e)

  -- E: the words, of which the first k tokens keep within the levels; L: the same without a bound on the nesting;
  -- U: of any nesting
  module _ {A : Type 0} (E L : ℕ → Tokens → A → Type 0) (U : Tokens → A → Type 0) (ext : G.Kind → Bool)
      (ts : Tokens) where
    pub record Begun (used : Tokens) (rest : Tokens) : Type 0 where
      pub more : Tokens
      pub value : A
      pub word : E (length used) (used ++ (rest ++ more)) value

    -- the one way to read this far
    pub record Taken (a : A) (rest : Tokens) : Type 0 where
      pub used : Tokens
      pub split : ts ≡ used ++ rest
      pub word : (k : ℕ) → E k used a
      pub only : (w more z : Tokens) (b : A) → U w b → Reaches ext used rest w more z → (w ≡ used) × (b ≡ a)

    -- the tokens before the rest begin a word, and with the next one they begin none
    pub record Refused (rest : Tokens) : Type 0 where
      pub used : Tokens
      pub split : ts ≡ used ++ rest
      pub begins : Begun used []
      pub none : (w more z : Tokens) (b : A) → U w b → Reaches ext used rest w more z → ⊥

    -- the next token opens a level too many
    pub record Deep (rest : Tokens) : Type 0 where
      pub used : Tokens
      pub split : ts ≡ used ++ rest
      pub token : G.Token
      pub here : next rest ≡ Some token
      pub begins : Begun used []
      pub goes_on : Begun used (token ∷ [])
      pub none : (w more z : Tokens) (b : A) → L (suc (length used)) w b → Reaches ext used rest w more z → ⊥

    abbrev pub Good : Outcome G.Token A → Type 0
    Good (Read a rest) = Taken a rest
    Good (Failed Unexpected rest) = Refused rest
    Good (Failed TooDeep rest) = Deep rest

  -- ---- one part behind the other

  module _ {A B C : Type 0} (f : A → B → C) (E1 L1 : ℕ → Tokens → A → Type 0) (U1 : Tokens → A → Type 0)
      (E2 L2 : A → ℕ → Tokens → B → Type 0) (U2 : A → Tokens → B → Type 0) (ext1 ext2 ext : G.Kind → Bool) where
    pub record Two (P : ℕ → Tokens → A → Type 0) (Q : A → ℕ → Tokens → B → Type 0) (k : ℕ) (ts : Tokens)
        (c : C) : Type 0 where
      pub front : Tokens
      pub back : Tokens
      pub a : A
      pub b : B
      pub split : ts ≡ front ++ back
      pub first : P k front a
      pub second : Q a (left k front) back b
      pub value : c ≡ f a b

    abbrev pub Both : Tokens → C → Type 0
    Both ts c = Two (λ k. U1) (λ a k. U2 a) zero ts c

    module _ (free1 : (k : ℕ) (w : Tokens) (a : A) → L1 k w a → U1 w a)
        (free2 : (a : A) (k : ℕ) (w : Tokens) (b : B) → L2 a k w b → U2 a w b)
        (stops : (a : A) (v more : Tokens) (b : B) → U2 a v b → IsFree ext more → IsFree ext1 (v ++ more))
        (smaller : (more : Tokens) → IsFree ext more → IsFree ext2 more) (some : A → Tokens) (value : A → B)
        (some_is : (a : A) → E2 a 0 (some a) (value a)) where
      shorter : (used rest w more z front back : Tokens) (a : A) (b : B) → w ≡ front ++ back → U2 a back b
          → Reaches ext used rest w more z → Reaches ext1 used rest front (back ++ more) z
      shorter used rest w more z front back a b split u r =
          record {
            free = stops a back more b u r.free;
            same = sym (append_assoc front back more) ∙ ap (λ l. l ++ more) (sym split) ∙ r.same;
            goes = r.goes;
          }

      extend : (ts used rest : Tokens) → Begun E1 L1 U1 ext1 ts used rest
          → Begun (Two E1 E2) (Two L1 L2) Both ext ts used rest
      extend ts used rest b = record {
        more = b.more ++ some b.value;
        value = f b.value (value b.value);
        word = record {
          front = used ++ (rest ++ b.more);
          back = some b.value;
          a = b.value;
          b = value b.value;
          split = ap (λ l. used ++ l) (sym (append_assoc rest b.more (some b.value)))
              ∙ sym (append_assoc used (rest ++ b.more) (some b.value));
          first = b.word;
          second = subst (λ k. E2 b.value k (some b.value) (value b.value))
              (sym (left-past used (rest ++ b.more) (length used) refl)) (some_is b.value);
          value = refl;
        };
      }

      behind : (ts ts2 used1 used2 rest : Tokens) (a : A) → ((k : ℕ) → E1 k used1 a)
          → Begun (E2 a) (L2 a) (U2 a) ext2 ts2 used2 rest
          → Begun (Two E1 E2) (Two L1 L2) Both ext ts (used1 ++ used2) rest
      behind ts ts2 used1 used2 rest a word b = record {
        more = b.more;
        value = f a b.value;
        word = record {
          front = used1;
          back = used2 ++ (rest ++ b.more);
          a = a;
          b = b.value;
          split = append_assoc used1 used2 (rest ++ b.more);
          first = word (length (used1 ++ used2));
          second = subst (λ k. E2 a k (used2 ++ (rest ++ b.more)) b.value)
              (sym (left-whole used1 used2 (length (used1 ++ used2)) refl)) b.word;
          value = refl;
        };
      }

      -- where the first part is the one that was read
      same_front : (ts rest rest2 used2 w more z front back : Tokens) (a a2 : A) (b : B)
          (g : Taken E1 L1 U1 ext1 ts a rest)
          → w ≡ front ++ back → U1 front a2 → U2 a2 back b → rest ≡ used2 ++ rest2
          → Reaches ext (g.used ++ used2) rest2 w more z
          → (front ≡ g.used) × (a2 ≡ a) × Reaches ext2 used2 rest2 back more z
      same_front ts rest rest2 used2 w more z front back a a2 b g split u1 u2 e r =
          let same : front ++ (back ++ more) ≡ g.used ++ (used2 ++ z) =
          sym (append_assoc front back more) ∙ ap (λ l. l ++ more) (sym split) ∙ r.same ∙ append_assoc g.used used2 z in
          let only = g.only front (back ++ more) (used2 ++ z) a2 u1 (record {
            free = stops a2 back more b u2 r.free;
            same = same;
            goes = next_same used2 rest rest2 z e r.goes;
          }) in
          let rest_same =
          append_cancel_left g.used (back ++ more) (used2 ++ z) (ap (λ l. l ++ (back ++ more)) (sym only.0) ∙ same) in
          (only.0, only.1, record { free = smaller more r.free; same = rest_same; goes = r.goes })

      second : (ts rest : Tokens) (a : A) (o : Outcome G.Token B) → Taken E1 L1 U1 ext1 ts a rest
          → Good (E2 a) (L2 a) (U2 a) ext2 rest o
          → Good (Two E1 E2) (Two L1 L2) Both ext ts (and_then o (λ b rest2. Read (f a b) rest2))
      second ts rest a (Read b rest2) g h = record {
        used = g.used ++ h.used;
        split = g.split ∙ ap (λ l. g.used ++ l) h.split ∙ sym (append_assoc g.used h.used rest2);
        word = λ k. record {
          front = g.used;
          back = h.used;
          a = a;
          b = b;
          split = refl;
          first = g.word k;
          second = h.word (left k g.used);
          value = refl;
        };
        only = λ w more z d u r.
            let s = same_front ts rest rest2 h.used w more z u.front u.back a u.a u.b g u.split u.first u.second h.split
            r in
            let o = h.only u.back more z u.b (subst (λ a. U2 a u.back u.b) s.1 u.second) s.2 in (
              u.split ∙ ap (λ l. l ++ u.back) s.0 ∙ ap (λ l. g.used ++ l) o.0,
              u.value ∙ ap (λ x. f x u.b) s.1 ∙ ap (f a) o.1,
            );
      }
      second ts rest a (Failed Unexpected rest2) g h = record {
        used = g.used ++ h.used;
        split = g.split ∙ ap (λ l. g.used ++ l) h.split ∙ sym (append_assoc g.used h.used rest2);
        begins = behind ts rest g.used h.used [] a g.word h.begins;
        none = λ w more z d u r.
            let s = same_front ts rest rest2 h.used w more z u.front u.back a u.a u.b g u.split u.first u.second h.split
            r in
            h.none u.back more z u.b (subst (λ a. U2 a u.back u.b) s.1 u.second) s.2;
      }
      second ts rest a (Failed TooDeep rest2) g h = record {
        used = g.used ++ h.used;
        split = g.split ∙ ap (λ l. g.used ++ l) h.split ∙ sym (append_assoc g.used h.used rest2);
        token = h.token;
        here = h.here;
        begins = behind ts rest g.used h.used [] a g.word h.begins;
        goes_on = behind ts rest g.used h.used (h.token ∷ []) a g.word h.goes_on;
        none = λ w more z d u r.
            let s = same_front ts rest rest2 h.used w more z u.front u.back a u.a u.b g u.split
            (free1 _ u.front u.a u.first) (free2 u.a _ u.back u.b u.second) h.split r in
            let counted : left (suc (length (g.used ++ h.used))) u.front ≡ suc (length h.used) =
            ap (left (suc (length (g.used ++ h.used)))) s.0
            ∙ left-more g.used h.used (suc (length (g.used ++ h.used))) refl in
            h.none u.back more z u.b
            (subst (λ a. L2 a (suc (length h.used)) u.back u.b) s.1 (subst (λ k. L2 u.a k u.back u.b) counted u.second))
            s.2;
      }

      pub pairs : (ts : Tokens) (o : Outcome G.Token A) (q : A → Parser G.Token B) → Good E1 L1 U1 ext1 ts o
          → ((a : A) (rest : Tokens) → Taken E1 L1 U1 ext1 ts a rest → Good (E2 a) (L2 a) (U2 a) ext2 rest (q a rest))
          → Good (Two E1 E2) (Two L1 L2) Both ext ts
          (and_then o (λ a rest. and_then (q a rest) (λ b rest2. Read (f a b) rest2)))
      pairs ts (Read a rest) q g h = second ts rest a (q a rest) g (h a rest g)
      pairs ts (Failed Unexpected rest) q g h = record {
        used = g.used;
        split = g.split;
        begins = extend ts g.used [] g.begins;
        none = λ w more z d u r.
            g.none u.front (u.back ++ more) z u.a u.first
            (shorter g.used rest w more z u.front u.back u.a u.b u.split u.second r);
      }
      pairs ts (Failed TooDeep rest) q g h = record {
        used = g.used;
        split = g.split;
        token = g.token;
        here = g.here;
        begins = extend ts g.used [] g.begins;
        goes_on = extend ts g.used (g.token ∷ []) g.goes_on;
        none = λ w more z d u r.
            g.none u.front (u.back ++ more) z u.a u.first
            (shorter g.used rest w more z u.front u.back u.a u.b u.split (free2 u.a _ u.back u.b u.second) r);
      }

  -- ---- the same answer for other words

  -- what a word and what may follow it begin with
  abbrev pub AsFar : (G.Kind → Bool) → Tokens → Tokens → Tokens → Type 0
  AsFar ext ts w more = IsFree ext more × (next (w ++ more) ≡ next ts)

  pub as_far : (ext : G.Kind → Bool) (ts used rest w more z : Tokens) → ts ≡ used ++ rest
      → Reaches ext used rest w more z → AsFar ext ts w more
  as_far ext ts used rest w more z e r = (r.free, ap next r.same ∙ next_same used ts rest z e r.goes)

  module _ {A : Type 0} (E L : ℕ → Tokens → A → Type 0) (U : Tokens → A → Type 0) (E' L' : ℕ → Tokens → A → Type 0)
      (U' : Tokens → A → Type 0) (ext ext' : G.Kind → Bool) (ts : Tokens) where
    abbrev narrower : (used rest w more z : Tokens) → ((more : Tokens) → IsFree ext' more → IsFree ext more)
        → Reaches ext' used rest w more z → Reaches ext used rest w more z
    narrower used rest w more z smaller r = record { free = smaller more r.free; same = r.same; goes = r.goes }

    abbrev begun_into : (used rest : Tokens) → ((k : ℕ) (w : Tokens) (a : A) → E k w a → E' k w a)
        → Begun E L U ext ts used rest → Begun E' L' U' ext' ts used rest
    begun_into used rest into b = record { more = b.more; value = b.value; word = into _ _ _ b.word }

    pub good_change : (o : Outcome G.Token A) (smaller : (more : Tokens) → IsFree ext' more → IsFree ext more)
        (into : (k : ℕ) (w : Tokens) (a : A) → E k w a → E' k w a)
        (out_u : (w more : Tokens) (a : A) → U' w a → AsFar ext' ts w more → U w a)
        (out_l : (k : ℕ) (w more : Tokens) (a : A) → L' k w a → AsFar ext' ts w more → L k w a)
        → Good E L U ext ts o → Good E' L' U' ext' ts o
    good_change (Read a rest) smaller into out_u out_l g = record {
      used = g.used;
      split = g.split;
      word = λ k. into k g.used a (g.word k);
      only = λ w more z b u r.
          g.only w more z b (out_u w more b u (as_far ext' ts g.used rest w more z g.split r))
          (narrower g.used rest w more z smaller r);
    }
    good_change (Failed Unexpected rest) smaller into out_u out_l g = record {
      used = g.used;
      split = g.split;
      begins = begun_into g.used [] into g.begins;
      none = λ w more z b u r.
          g.none w more z b (out_u w more b u (as_far ext' ts g.used rest w more z g.split r))
          (narrower g.used rest w more z smaller r);
    }
    good_change (Failed TooDeep rest) smaller into out_u out_l g = record {
      used = g.used;
      split = g.split;
      token = g.token;
      here = g.here;
      begins = begun_into g.used [] into g.begins;
      goes_on = begun_into g.used (g.token ∷ []) into g.goes_on;
      none = λ w more z b u r.
          g.none w more z b (out_l _ w more b u (as_far ext' ts g.used rest w more z g.split r))
          (narrower g.used rest w more z smaller r);
    }

  -- ---- a value that is made of another

  module _ {A B : Type 0} (f : A → B) (E L : ℕ → Tokens → A → Type 0) (U : Tokens → A → Type 0) (ext : G.Kind → Bool)
      (ts : Tokens) where
    abbrev pub Image : (Tokens → A → Type 0) → Tokens → B → Type 0
    Image P w b = (a : A) × P w a × (b ≡ f a)

    abbrev begun_image : (used rest : Tokens) → Begun E L U ext ts used rest
        → Begun (λ k. Image (E k)) (λ k. Image (L k)) (Image U) ext ts used rest
    begun_image used rest b = record { more = b.more; value = f b.value; word = (b.value, b.word, refl) }

    pub image : (o : Outcome G.Token A) → Good E L U ext ts o
        → Good (λ k. Image (E k)) (λ k. Image (L k)) (Image U) ext ts (and_then o (λ a rest. Read (f a) rest))
    image (Read a rest) g = record {
      used = g.used;
      split = g.split;
      word = λ k. (a, g.word k, refl);
      only = λ w more z b u r. let o = g.only w more z u.0 u.1 r in (o.0, u.2 ∙ ap f o.1);
    }
    image (Failed Unexpected rest) g = record {
      used = g.used;
      split = g.split;
      begins = begun_image g.used [] g.begins;
      none = λ w more z b u r. g.none w more z u.0 u.1 r;
    }
    image (Failed TooDeep rest) g = record {
      used = g.used;
      split = g.split;
      token = g.token;
      here = g.here;
      begins = begun_image g.used [] g.begins;
      goes_on = begun_image g.used (g.token ∷ []) g.goes_on;
      none = λ w more z b u r. g.none w more z u.0 u.1 r;
    }

  -- ---- words that begin with one token

  module _ {A : Type 0} (E1 L1 : ℕ → Tokens → A → Type 0) (U1 : Tokens → A → Type 0) (E L : ℕ → Tokens → A → Type 0)
      (U : Tokens → A → Type 0) (ext : G.Kind → Bool) (t : G.Token) (ts : Tokens) where
    module _ (free : (v : Tokens) (a : A) → E1 0 v a → E 0 (t ∷ v) a)
        (into : (k : ℕ) (v : Tokens) (a : A) → E1 k v a → E (suc k) (t ∷ v) a)
        (out_u : (w more : Tokens) (a : A) → U w a → AsFar ext (t ∷ ts) w more → (v : Tokens) × (w ≡ t ∷ v) × U1 v a)
        (out_l : (k : ℕ) (w more : Tokens) (a : A) → L (suc k) w a → AsFar ext (t ∷ ts) w more
        → (v : Tokens) × (w ≡ t ∷ v) × L1 k v a) where
      word_at : (used : Tokens) (a : A) → ((k : ℕ) → E1 k used a) → (k : ℕ) → E k (t ∷ used) a
      word_at used a word zero = free used a (word 0)
      word_at used a word (suc k) = into k used a (word k)

      abbrev begun_behind : (used rest : Tokens) → Begun E1 L1 U1 ext ts used rest
          → Begun E L U ext (t ∷ ts) (t ∷ used) rest
      begun_behind used rest b = record { more = b.more; value = b.value; word = into _ _ _ b.word }

      without : (used rest w more z v : Tokens) → w ≡ t ∷ v → Reaches ext (t ∷ used) rest w more z
          → Reaches ext used rest v more z
      without used rest w more z v e r =
          let same : t ∷ (v ++ more) ≡ t ∷ (used ++ z) = ap (λ l. l ++ more) (sym e) ∙ r.same in
          record { free = r.free; same = cc; goes = r.goes }

      pub behind_token : (o : Outcome G.Token A) → Good E1 L1 U1 ext ts o → Good E L U ext (t ∷ ts) o
      behind_token (Read a rest) g = record {
        used = t ∷ g.used;
        split = ap (λ l. t ∷ l) g.split;
        word = word_at g.used a g.word;
        only = λ w more z b u r.
            let i = out_u w more b u (as_far ext (t ∷ ts) (t ∷ g.used) rest w more z (ap (λ l. t ∷ l) g.split) r) in
            let e = g.only i.0 more z b i.2 (without g.used rest w more z i.0 i.1 r) in
            (i.1 ∙ ap (λ l. t ∷ l) e.0, e.1);
      }
      behind_token (Failed Unexpected rest) g = record {
        used = t ∷ g.used;
        split = ap (λ l. t ∷ l) g.split;
        begins = begun_behind g.used [] g.begins;
        none = λ w more z b u r.
            let i = out_u w more b u (as_far ext (t ∷ ts) (t ∷ g.used) rest w more z (ap (λ l. t ∷ l) g.split) r) in
            g.none i.0 more z b i.2 (without g.used rest w more z i.0 i.1 r);
      }
      behind_token (Failed TooDeep rest) g = record {
        used = t ∷ g.used;
        split = ap (λ l. t ∷ l) g.split;
        token = g.token;
        here = g.here;
        begins = begun_behind g.used [] g.begins;
        goes_on = begun_behind g.used (g.token ∷ []) g.goes_on;
        none = λ w more z b u r.
            let i = out_l (suc (length g.used)) w more b u
            (as_far ext (t ∷ ts) (t ∷ g.used) rest w more z (ap (λ l. t ∷ l) g.split) r) in
            g.none i.0 more z b i.2 (without g.used rest w more z i.0 i.1 r);
      }
