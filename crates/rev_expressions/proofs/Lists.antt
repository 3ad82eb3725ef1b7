-- Equations of the parser, for lists with commas and for rules that are repeated.
use Rattle.std.proofs.Common.{◌≡◌, ℕ, zero, suc, Bool, true, false, cond, List, [], ◌∷◌, ◌++◌, length, Option, Some, None, refl, sym, ap, ◌∙◌, append_assoc}
use Rattle.rev_syntax.specs.declared.token.Token.{Token}
use Rattle.rev_syntax.specs.declared.token.Fixed.TheVariants as s
use Rattle.rev_expressions.specs.Classes.{Class, is_same}
use Rattle.rev_expressions.specs.Outcome.{Outcome, Read, Failed, Unexpected, and_then, after}
use Rattle.rev_expressions.specs.Reader.{begins, first, is_next, passes, next_kind, read}
use Rattle.rev_expressions.specs.Grammar.{alphabet, Rule, behind, all, listed, never}
use Rattle.rev_expressions.specs.Parse.{parse}
use Rattle.rev_expressions.specs.Lists.{more_of, more_listed}
use Rattle.rev_expressions.proofs.Turns.{or_nothing, same_outcome, repeat_end, repeat_stop, repeat_go}
use Rattle.rev_expressions.specs.Classes as class

module _ (bytes : List ℕ) (n : ℕ) {A : Type 0} (F : Rule A) where
  -- ---- a rule as often as it comes

  pub all_is : (ts : List Token) → parse bytes n (all F) ts ≡ more_of bytes n F (length ts) [] ts
  unfolding read
  all_is ts = same_outcome (more_of bytes n F (length ts) [] ts)

  pub all_end : (k : ℕ) (found : List A) (ts : List Token) → k ≡ 0 → more_of bytes n F k found ts ≡ Read found ts
  all_end = repeat_end (parse bytes n F) never (begins alphabet F)

  pub all_stop : (k : ℕ) (found : List A) (ts : List Token) → begins alphabet F ts ≡ false
      → more_of bytes n F k found ts ≡ Read found ts
  all_stop = repeat_stop (parse bytes n F) never (begins alphabet F)

  pub all_go : (k j : ℕ) (found : List A) (ts : List Token) → k ≡ suc j → begins alphabet F ts ≡ true
      → more_of bytes n F k found ts
      ≡ and_then (parse bytes n F ts) (λ a rest. more_of bytes n F j (found ++ a ∷ []) rest)
  all_go = repeat_go (parse bytes n F) never (begins alphabet F)

  -- ---- behind a comma

  comma_begins : (ts : List Token) → begins alphabet (behind s.Comma F) ts ≡ is_next alphabet (class.fixed s.Comma) ts
  comma_begins ts = by_next (next_kind alphabet ts)
    where
      by_next : (o : Option Class)
          → passes alphabet (first alphabet (behind s.Comma F)) o ≡ passes alphabet (is_same (class.fixed s.Comma)) o
      by_next None = refl
      by_next (Some k) = or_nothing (is_same (class.fixed s.Comma) k) (first alphabet F k)

  comma_read : (ts : List Token) → is_next alphabet (class.fixed s.Comma) ts ≡ true
      → parse bytes n (behind s.Comma F) ts ≡ parse bytes n F (after ts)
  unfolding read
  comma_read [] e = absurd cc
  comma_read (t ∷ ts) e =
      ap (λ b. and_then (cond b (Read tt ts) (Failed Unexpected (t ∷ ts)))
      (λ x rest. and_then (parse bytes n F rest) (λ a rest2. Read a rest2)))
      e
      ∙ same_outcome (parse bytes n F ts)

  pub comma_end : (k : ℕ) (found : List A) (ts : List Token) → k ≡ 0 → more_listed bytes n F k found ts ≡ Read found ts
  comma_end = repeat_end (parse bytes n (behind s.Comma F)) never (begins alphabet (behind s.Comma F))

  pub comma_stop : (k : ℕ) (found : List A) (ts : List Token) → is_next alphabet (class.fixed s.Comma) ts ≡ false
      → more_listed bytes n F k found ts ≡ Read found ts
  comma_stop k found ts e =
      repeat_stop (parse bytes n (behind s.Comma F)) never (begins alphabet (behind s.Comma F)) k found ts
      (comma_begins ts ∙ e)

  pub comma_go : (k j : ℕ) (found : List A) (ts : List Token) → k ≡ suc j
      → is_next alphabet (class.fixed s.Comma) ts ≡ true
      → more_listed bytes n F k found ts
      ≡ and_then (parse bytes n F (after ts)) (λ a rest. more_listed bytes n F j (found ++ a ∷ []) rest)
  comma_go k j found ts ek e =
      repeat_go (parse bytes n (behind s.Comma F)) never (begins alphabet (behind s.Comma F)) k j found ts ek
      (comma_begins ts ∙ e)
      ∙ ap (λ o. and_then o (λ a rest. more_listed bytes n F j (found ++ a ∷ []) rest)) (comma_read ts e)

  -- ---- those behind a first one

  behind_first : A → Outcome Token (List A) → Outcome Token (List A)
  behind_first a o = and_then o (λ xs rest. Read (a ∷ xs) rest)

  abbrev ahead : List A → Outcome Token (List A) → Outcome Token (List A)
  ahead front o = and_then o (λ xs rest. Read (front ++ xs) rest)

  -- what was found before stands before
  found_before : (front : List A) (m : ℕ) (found : List A) (ts : List Token)
      → more_listed bytes n F m (front ++ found) ts ≡ ahead front (more_listed bytes n F m found ts)
  found_before front zero found ts = refl
  found_before front (suc m) found ts =
      by_test (begins alphabet (behind s.Comma F) ts) (parse bytes n (behind s.Comma F) ts)
      (λ a rest. found_before front m (found ++ a ∷ []) rest)
    where
      by_part : (o : Outcome Token A)
          → ((a : A) (rest : List Token)
          → more_listed bytes n F m (front ++ (found ++ a ∷ [])) rest
          ≡ ahead front (more_listed bytes n F m (found ++ a ∷ []) rest))
          → and_then o (λ a rest. more_listed bytes n F m ((front ++ found) ++ a ∷ []) rest)
          ≡ ahead front (and_then o (λ a rest. more_listed bytes n F m (found ++ a ∷ []) rest))
      by_part (Read a rest) h = ap (λ l. more_listed bytes n F m l rest) (append_assoc front found (a ∷ [])) ∙ h a rest
      by_part (Failed x rest) h = refl

      by_test : (b : Bool) (o : Outcome Token A)
          → ((a : A) (rest : List Token)
          → more_listed bytes n F m (front ++ (found ++ a ∷ [])) rest
          ≡ ahead front (more_listed bytes n F m (found ++ a ∷ []) rest))
          → cond b (and_then o (λ a rest. more_listed bytes n F m ((front ++ found) ++ a ∷ []) rest))
          (Read (front ++ found) ts)
          ≡ ahead front (cond b (and_then o (λ a rest. more_listed bytes n F m (found ++ a ∷ []) rest)) (Read found ts))
      by_test true o h = by_part o h
      by_test false o h = refl

  pub listed_is : (ts : List Token)
      → parse bytes n (listed F) ts
      ≡ and_then (parse bytes n F ts) (λ a rest. more_listed bytes n F (length rest) (a ∷ []) rest)
  unfolding read
  listed_is ts = by_first (parse bytes n F ts)
    where
      by_rest : (a : A) (rest : List Token) (o : Outcome Token (List A))
          → more_listed bytes n F (length rest) (a ∷ []) rest ≡ and_then o (λ xs rest2. Read (a ∷ xs) rest2)
          → and_then (and_then o (λ xs rest2. Read xs rest2)) (λ xs rest2. Read (a ∷ xs) rest2)
          ≡ more_listed bytes n F (length rest) (a ∷ []) rest
      by_rest a rest (Read xs rest2) e = sym e
      by_rest a rest (Failed x rest2) e = sym e

      by_first : (o : Outcome Token A)
          → and_then o (λ a rest.
          and_then (and_then (more_listed bytes n F (length rest) [] rest) (λ xs rest2. Read xs rest2))
          (λ xs rest2. Read (a ∷ xs) rest2))
          ≡ and_then o (λ a rest. more_listed bytes n F (length rest) (a ∷ []) rest)
      by_first (Read a rest) =
          by_rest a rest (more_listed bytes n F (length rest) [] rest) (found_before (a ∷ []) (length rest) [] rest)
      by_first (Failed x rest) = refl

pub ruleset comma_turns = (comma_end, comma_stop)

pub ruleset all_turns = (all_end, all_stop, all_is)
