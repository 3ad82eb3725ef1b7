-- The parser of a form, as functions over tokens.
use Rattle.std.specs.Prelude.{ℕ, zero, suc, List, [], ◌∷◌, ◌++◌, Bool, true, false, ◌&&◌, ◌||◌, Option, Some, None, length, cond, option_map}
use Rattle.rev_expressions.specs.Outcome.{Read, Failed, Parser, and_then, after, next, Unexpected, TooDeep}
use Rattle.rev_expressions.specs.Form.{Alphabet, Form, nothing, token, level, both, either, many, Rules}

module _ (G : Alphabet) where
  -- whether the form derives the empty list of tokens
  abbrev pub nullable : {A : Type 0} → Form G A → Bool
  nullable (nothing a) = true
  nullable (token s val) = false
  nullable (level s i val) = false
  nullable (both f P Q) = nullable P && nullable Q
  nullable (either P Q) = nullable P || nullable Q
  nullable (many f ends P) = true

  -- the kinds of token with which it begins
  abbrev pub first : {A : Type 0} → Form G A → G.Kind → Bool
  first (nothing a) k = false
  first (token s val) k = G.is s k
  first (level s i val) k = G.is s k
  first (both f P Q) k = first P k || (nullable P && first Q k)
  first (either P Q) k = first P k || first Q k
  first (many f ends P) k = first P k

  abbrev pub next_kind : List G.Token → Option G.Kind
  next_kind ts = option_map G.kind (next ts)

  -- there is a next token, of a kind that passes the test
  abbrev pub passes : (G.Kind → Bool) → Option G.Kind → Bool
  passes p None = false
  passes p (Some k) = p k

  abbrev pub begins : {A : Type 0} → Form G A → List G.Token → Bool
  begins P ts = passes (first P) (next_kind ts)

  abbrev pub is_next : G.Kind → List G.Token → Bool
  is_next s ts = passes (G.is s) (next_kind ts)

  abbrev pub Inside : Type 0
  Inside = (i : G.Inner) → Parser G.Token (G.Value i)

  -- a token of this kind
  abbrev pub taken : {A : Type 0} → G.Kind → (G.Token → A) → Option G.Token → Parser G.Token A
  taken s val None ts = Failed Unexpected ts
  taken s val (Some t) ts =
      cond (G.is s (G.kind t)) (Read (val t) (after ts)) (Failed Unexpected ts)

  -- what a token that opens a level begins, where one more may be opened
  abbrev pub inside_of :
      {A : Type 0} → Option Inside → (i : G.Inner) → (G.Value i → A) → Parser G.Token A
  inside_of None i val ts = Failed TooDeep ts
  inside_of (Some inside) i val ts = and_then (inside i (after ts)) (λ y rest. Read (val y) rest)

  abbrev pub opened :
      {A : Type 0} → Option Inside → G.Kind → (i : G.Inner) → (G.Token → G.Value i → A) →
      Option G.Token → Parser G.Token A
  opened inside s i val None ts = Failed Unexpected ts
  opened inside s i val (Some t) ts =
      cond (G.is s (G.kind t)) (inside_of inside i (val t) ts) (Failed Unexpected ts)

  -- the part as long as it begins and none has ended it, at most so often
  abbrev pub repeat :
      {A : Type 0} → Parser G.Token A → (A → Bool) → (List G.Token → Bool) → ℕ → List A →
      Parser G.Token (List A)
  repeat p ends more zero found ts = Read found ts
  repeat p ends more (suc m) found ts =
      cond (more ts)
      (and_then (p ts) (λ a rest.
      cond (ends a) (Read (found ++ a ∷ []) rest) (repeat p ends more m (found ++ a ∷ []) rest)))
      (Read found ts)

  -- the parser of a form, over those of the inner rules, where one more level may be opened
  unfoldable pub read : Option Inside → {A : Type 0} → Form G A → Parser G.Token A
  read inside (nothing a) ts = Read a ts
  read inside (token s val) ts = taken s val (next ts) ts
  read inside (level s i val) ts = opened inside s i val (next ts) ts
  read inside (both f P Q) ts =
      and_then (read inside P ts)
      (λ a rest. and_then (read inside Q rest) (λ b rest2. Read (f a b) rest2))
  read inside (either P Q) ts = cond (begins P ts) (read inside P ts) (read inside Q ts)
  read inside (many f ends P) ts =
      and_then (repeat (read inside P) ends (begins P) (length ts) [] ts)
      (λ xs rest. Read (f xs) rest)

  -- where so many levels may be opened
  unfoldable pub below : Rules G → ℕ → Option Inside
  unfolding read
  below rules zero = None
  below rules (suc n) = Some (λ i. read (below rules n) (rules i))

  abbrev pub parser : Rules G → ℕ → {A : Type 0} → Form G A → Parser G.Token A
  parser rules n P = read (below rules n) P
