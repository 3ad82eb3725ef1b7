-- Grammars as data: forms, and which tokens each of them derives.
use Rattle.std.specs.Prelude.{ℕ, zero, suc, List, [], ◌∷◌, ◌++◌, ◌≡◌, ◌⊎◌, Bool, true}
use Rattle.rev_expressions.specs.Outcome.{left}

-- The grammar's tokens, their kinds, and its inner rules: those that stand behind a token that opens a level.
pub record Alphabet : Type 1 where
  pub Token : Type 0
  pub Kind : Type 0
  pub kind : Token → Kind
  pub is : Kind → Kind → Bool
  pub Inner : Type 0
  pub Value : Inner → Type 0

module _ (G : Alphabet) where
  -- a rule of the grammar, with the values of what it derives
  pub data Form : Type 0 → Type 1 where
    nothing : {A : Type 0} → A → Form A
    token : {A : Type 0} → G.Kind → (G.Token → A) → Form A
    -- a token that opens a level, and what stands in it
    level : {A : Type 0} → G.Kind → (i : G.Inner) → (G.Token → G.Value i → A) → Form A
    -- one after the other
    both : {A B C : Type 0} → (A → B → C) → Form A → Form B → Form C
    -- one of the two
    either : {A : Type 0} → Form A → Form A → Form A
    -- as often as it comes, up to one that ends it
    many : {A B : Type 0} → (List A → B) → (A → Bool) → Form A → Form B

  -- Which tokens stand for which value, where the first so many of them open at most so many levels at once.
  abbrev pub Lang : Type 0 → Type 1
  Lang A = ℕ → ℕ → List G.Token → A → Type 0

  -- a level is opened; past the first so many tokens no level is counted
  abbrev pub Opened : (ℕ → ℕ → Type 0) → ℕ → ℕ → Type 0
  Opened P n zero = P zero zero
  Opened P zero (suc k) = ⊥
  Opened P (suc n) (suc k) = P n k

  -- one part behind the other
  pub record Pair {A B C : Type 0} (f : A → B → C) (P : Lang A) (Q : Lang B) (n k : ℕ)
      (ts : List G.Token) (c : C) : Type 0 where
    pub front : List G.Token
    pub back : List G.Token
    pub a : A
    pub b : B
    pub split : ts ≡ front ++ back
    pub first : P n k front a
    pub second : Q n (left k front) back b
    pub value : c ≡ f a b

  -- a part as often as it comes; behind one that ends it none comes
  abbrev pub Many : {A : Type 0} → Lang A → (A → Bool) → Lang (List A)
  Many P ends n k ts [] = ts ≡ []
  Many P ends n k ts (a ∷ rest) =
      (u : List G.Token) × (v : List G.Token) × (ts ≡ u ++ v) × P n k u a ×
      Many P ends n (left k u) v rest × (ends a ≡ true → rest ≡ [])

  -- what a form derives, where the inner rules derive this
  abbrev pub Derives : ((i : G.Inner) → Lang (G.Value i)) → {A : Type 0} → Form A → Lang A
  Derives I (nothing a) n k ts x = (ts ≡ []) × (x ≡ a)
  Derives I (token s val) n k ts x =
      (t : G.Token) × (ts ≡ t ∷ []) × (G.is s (G.kind t) ≡ true) × (x ≡ val t)
  Derives I (level s i val) n k ts x =
      (t : G.Token) × (v : List G.Token) × (y : G.Value i) × (ts ≡ t ∷ v) ×
      (G.is s (G.kind t) ≡ true) × Opened (λ n k. I i n k v y) n k × (x ≡ val t y)
  Derives I (both f P Q) n k ts x = Pair f (Derives I P) (Derives I Q) n k ts x
  Derives I (either P Q) n k ts x = Derives I P n k ts x ⊎ Derives I Q n k ts x
  Derives I (many {A = A} f ends P) n k ts x =
      (xs : List A) × Many (Derives I P) ends n k ts xs × (x ≡ f xs)

  -- the inner rules
  abbrev pub Rules : Type 1
  Rules = (i : G.Inner) → Form (G.Value i)

  -- what the inner rules derive, with so many of them within each other
  abbrev pub Nested : Rules → ℕ → (i : G.Inner) → Lang (G.Value i)
  Nested rules zero i n k ts x = ⊥
  Nested rules (suc d) i n k ts x = Derives (Nested rules d) (rules i) n k ts x

  -- of any nesting
  abbrev pub AnyNested : Rules → (i : G.Inner) → Lang (G.Value i)
  AnyNested rules i n k ts x = (d : ℕ) × Nested rules d i n k ts x

  -- The tokens stand for this value of the form, and the first k of them open at most n levels at once.
  abbrev pub Stands : Rules → {A : Type 0} → Form A → Lang A
  Stands rules F n k ts x = Derives (AnyNested rules) F n k ts x
