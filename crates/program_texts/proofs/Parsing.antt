-- What the parser reads of a rule as often as it comes.
use Rattle.std.proofs.Common.{◌≡◌, ℕ, zero, suc, ◌+◌, ◌≤◌, true, false, List, [], ◌∷◌, ◌++◌, length, sym, ap, ◌∙◌, arith, append_assoc, append-nil}
use Rattle.std.specs.Prelude.{cond}
use Rattle.rev_syntax.specs.declared.token.Token.{Token}
use Rattle.rev_expressions.specs.Outcome.{Read, and_then}
use Rattle.rev_expressions.specs.Reader.{begins, read, repeat}
use Rattle.rev_expressions.specs.Grammar.{alphabet, Rule, never, all}
use Rattle.rev_expressions.specs.Parse.{parse}

module _ (bytes : List ℕ) (n : ℕ) where
  -- the tokens are these values in a row, and the rest
  abbrev pub Rows : {A : Type 0} → Rule A → List Token → List A → List Token → Type 0
  Rows P ts [] rest = ts ≡ rest
  Rows P ts (x ∷ xs) rest =
      (us : List Token) × (begins alphabet P ts ≡ true) × (parse bytes n P ts ≡ Read x us)
      × (suc (length us) ≤ length ts) × Rows P us xs rest

  rows_few : {A : Type 0} (P : Rule A) (xs : List A) (ts rest : List Token) → Rows P ts xs rest → length xs ≤ length ts
  rows_few P [] ts rest h = omega arith
  rows_few P (x ∷ xs) ts rest h = let few = rows_few P xs h.0 rest h.4 in let less = h.3 in omega (arith, few, less)

  repeat_rows : {A : Type 0} (P : Rule A) (xs : List A) (ts rest : List Token) (m : ℕ) (found : List A) → length xs ≤ m
      → Rows P ts xs rest → begins alphabet P rest ≡ false
      → repeat alphabet (parse bytes n P) never (begins alphabet P) m found ts ≡ Read (found ++ xs) rest
  repeat_rows P [] ts rest zero found few h stop =
      ap (λ l. Read l ts) (sym (append-nil found)) ∙ ap (λ l. Read (found ++ []) l) h
  repeat_rows P [] ts rest (suc m) found few h stop =
      let here = ap (begins alphabet P) h ∙ stop in
      ap (λ b. cond b (and_then (parse bytes n P ts)
      (λ a rest.
      cond (never a) (Read (found ++ a ∷ []) rest)
      (repeat alphabet (parse bytes n P) never (begins alphabet P) m (found ++ a ∷ []) rest)))
      (Read found ts))
      here
      ∙ ap (λ l. Read l ts) (sym (append-nil found)) ∙ ap (λ l. Read (found ++ []) l) h
  repeat_rows P (x ∷ xs) ts rest zero found few h stop = absurd (omega arith)
  repeat_rows P (x ∷ xs) ts rest (suc m) found few h stop =
      ap (λ b. cond b (and_then (parse bytes n P ts)
      (λ a rest.
      cond (never a) (Read (found ++ a ∷ []) rest)
      (repeat alphabet (parse bytes n P) never (begins alphabet P) m (found ++ a ∷ []) rest)))
      (Read found ts))
      h.1
      ∙ ap (λ o.
      and_then o (λ a rest.
      cond (never a) (Read (found ++ a ∷ []) rest)
      (repeat alphabet (parse bytes n P) never (begins alphabet P) m (found ++ a ∷ []) rest)))
      h.2
      ∙ repeat_rows P xs h.0 rest m (found ++ x ∷ []) (omega arith) h.4 stop
      ∙ ap (λ l. Read l rest) (append_assoc found (x ∷ []) xs)

  pub read_all : {A : Type 0} (P : Rule A) (xs : List A) (ts rest : List Token) → Rows P ts xs rest
      → begins alphabet P rest ≡ false → parse bytes n (all P) ts ≡ Read xs rest
  unfolding read
  read_all P xs ts rest h stop =
      ap (λ o. and_then o (λ xs rest. Read xs rest))
      (repeat_rows P xs ts rest (length ts) [] (rows_few P xs ts rest h) h stop)
