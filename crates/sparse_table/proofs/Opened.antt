-- The words at the start meet the rule.
use Rattle.std.proofs.Common.{◌≡◌, ◌≢◌, ℕ, zero, suc, ◌+◌, ◌*◌, ◌/◌, ◌%◌, ◌^◌, ◌<◌, ◌≤◌, ◌⊎◌, inl, inr, ⊎_elim}
use Rattle.std.proofs.Common.{Bool, false, true≢false, List, [], ◌∷◌, length, get_or, set, sym, refl, ap, ◌∙◌}
use Rattle.std.proofs.Common.{subst, arith, length-set, get_or-set_other, get_or-set_same}
use Rattle.std.specs.Prelude.{replicate}
use Rattle.std.proofs.Math.Nat.{zero-div}
use mathlib.Core.Logic.{dite}
use mathlib.Core.Option.{some, some-injective, some-ne-none}
use native.Mathlib.Decide.{ℕ_discrete, dec_le}
use lib.ListN.{get_elem?, length-replicate}
use Rattle.atomic_table.specs.Table as table
use Rattle.sparse_table.specs.Words.{blank, laid, opening}
use Rattle.sparse_table.specs.Parts.{IsPart, head_at, flag_at, seen, Knows, Rules, resting}
use Rattle.sparse_table.specs.Ended.{first_words}
use Rattle.sparse_table.proofs.Laid.{laid_long, laid_same, laid_apart, rep_at}
use Rattle.sparse_table.proofs.Spots.{heads_apart, inner_in}

one_seat : {A : Type 0} (a b : A) (i : ℕ) → get_elem? (a ∷ []) i ≡ some b → a ≡ b
one_seat a b zero e = some-injective a b e
one_seat a b (suc i) e = absurd (some-ne-none b (sym e))

none_at : (n i : ℕ) → ◌≡◌ {A = ℕ} (get_or (replicate n 0) i 0) 0
none_at zero i = refl
none_at (suc n) zero = refl
none_at (suc n) (suc i) = none_at n i

module _ (len shift first : ℕ) where
  abbrev many : ℕ
  many = 2 * (len / 2 ^ shift + 1)

  -- all words are blank, and first words and flags are 0
  abbrev pub bare_words : List ℕ
  bare_words = laid (replicate (len + many) blank) len (replicate many 0)

  abbrev pub started : List ℕ
  started = set (set bare_words 0 0) len first

  pub bare_long : length bare_words ≡ len + many
  bare_long = laid_long (replicate many 0) (replicate (len + many) blank) len ∙ length-replicate (len + many) blank

  pub started_long : length started ≡ len + many
  started_long = length-set (set bare_words 0 0) len first ∙ (length-set bare_words 0 0 ∙ bare_long)

  -- another word below them
  pub blank_at : (j : ℕ) → j < len → get_or bare_words j 0 ≡ blank
  blank_at j low = laid_apart many 0 (replicate (len + many) blank) len j (inl low) ∙ rep_at (len + many) blank j
      (omega arith)

  pub zero_at : (j : ℕ) → len ≤ j → get_or bare_words j 0 ≡ 0
  zero_at j le = let long = length-replicate (len + many) blank in let whole = bare_long in dite (dec_le (len + many) j)
      (λ past. lib.ListN.get_or-eq_default bare_words 0 (omega arith))
      (λ no. laid_same many 0 (replicate (len + many) blank) len j le (omega arith) (omega arith))

  apart : (j : ℕ) → j ≢ 0 → j ≢ len → get_or started j 0 ≡ get_or bare_words j 0
  apart j a b = get_or-set_other (set bare_words 0 0) len j first 0 b ∙ get_or-set_other bare_words 0 j 0 0 a

  at_first : 0 < len → get_or started 0 0 ≡ 0
  at_first pos = let long = bare_long in get_or-set_other (set bare_words 0 0) len 0 first 0 (λ q. omega arith)
      ∙ get_or-set_same bare_words 0 0 0 (omega arith)

  at_len : get_or started len 0 ≡ first
  at_len = let long = bare_long in let same = length-set bare_words 0 0 in get_or-set_same (set bare_words 0 0) len
      first 0 (omega arith)

  head_zero : head_at len shift 0 ≡ len
  head_zero = let z = zero-div (2 ^ shift) in omega arith

module _ {V : Type 0} (holds : table.State (Unit {0}) V → Type 0) (makes : V → ℕ → Type 0) (needs : ℕ → ℕ → Bool)
    (len width shift : ℕ) where
  pub opened : (first : ℕ) (v : V) → first < blank → (1 < width) × (2 ^ shift ≤ width) × (len % width ≡ 0)
      × (0 < len) → needs 0 first ≡ false → ((c : ℕ) → needs c 0 ≡ false)
      → holds (seen (first_words len first) (v ∷ [])) → Rules holds makes needs len width shift
      (opening (started len shift first) (resting len width shift [] v))
  opened first v small sizes bare bares agreed = let ns : List ℕ = started len shift first in
      let all : List ℕ = first_words len first in let pos = sizes.3 in let one = sizes.0 in let tight = sizes.1 in
      let long : ◌≡◌ {A = ℕ} (length {A = ℕ} (replicate len 0)) len = length-replicate len 0 in record {
        all = all;
        agreed = agreed;
        sizes = sizes;
        long = (length-set (replicate len 0) 0 first ∙ long, started_long len shift first);
        numbers = λ j why. number j why;
        firsts = λ c pc. dite (ℕ_discrete c 0)
            (λ e. let q : get_or ns c 0 ≡ 0 = ap (λ (y : ℕ). get_or ns y 0) e ∙ at_first len shift first pos in
            omega arith)
            (λ ne. let low = pc.0 in let q = apart len shift first c ne (λ e. omega arith) ∙ blank_at len shift first
            c low in omega arith);
        heads = λ c pc. dite (ℕ_discrete c 0)
            (λ e. ap (λ (y : ℕ). get_or ns (head_at len shift y) 0) e ∙ (ap (λ (y : ℕ). get_or ns y 0)
            (head_zero len shift first) ∙ (at_len len shift first
            ∙ sym (ap (λ (y : ℕ). get_or all y 0) e ∙ get_or-set_same (replicate len 0) 0 first 0 (omega arith)))))
            (λ ne. let not_len : head_at len shift c ≢ len = λ q. ne (heads_apart len width shift one tight c 0 pc
            (pos, Rattle.std.proofs.Math.Nat.zero-mod width) (q ∙ sym (head_zero len shift first))) in
            apart len shift first (head_at len shift c) (λ q. omega arith) not_len ∙ (zero_at len shift first
            (head_at len shift c) (omega arith) ∙ sym (later c ne)));
        there = λ c i pc pi f. absurd (let q = none c pc in omega arith);
        zeros = λ c i pc pi. inr (later i (λ e. let l = pi.0 in omega arith));
        unmade = λ c i pc pi f. let l = pi.0 in let low = inner_in len width shift one tight c i sizes.2 pc pi in
            apart len shift first i (λ e. omega arith) (λ e. omega arith) ∙ blank_at len shift first i low;
        needed = λ c pc want. absurd (true≢false (sym want ∙ dite (ℕ_discrete c 0)
            (λ e. ap (λ (y : ℕ). needs y (get_or all y 0)) e ∙ (ap (needs 0) (get_or-set_same (replicate len 0) 0
            first 0 (omega arith)) ∙ bare))
            (λ ne. ap (needs c) (later c ne) ∙ bares c)));
        flags = λ c pc. inl (none c pc);
        seats = λ i d e. subst (Knows makes len width shift ns) (one_seat (resting len width shift [] v) d i e)
            record { stands = tt; known = λ c h. absurd h };
      } where
        none : (c : ℕ) → IsPart len width c → get_or (started len shift first) (flag_at len shift c) 0 ≡ 0
        none c pc = apart len shift first (flag_at len shift c) (λ q. omega arith) (λ q. omega arith)
            ∙ zero_at len shift first (flag_at len shift c) (omega arith)

        later : (i : ℕ) → i ≢ 0 → get_or (first_words len first) i 0 ≡ 0
        later i ne = get_or-set_other (replicate len 0) 0 i first 0 ne ∙ none_at len i

        number : (j : ℕ) → (j ≡ 0) ⊎ (len ≤ j) → get_or (started len shift first) j 0 < blank
        number j why = dite (ℕ_discrete j 0)
            (λ e. let pos = sizes.3 in let q : get_or (started len shift first) j 0 ≡ 0 = ap (λ (y : ℕ). get_or
            (started len shift first) y 0) e ∙ at_first len shift first pos in omega arith)
            (λ ne. dite (ℕ_discrete j len)
            (λ e. subst (λ (y : ℕ). y < blank) (sym (ap (λ (y : ℕ). get_or (started len shift first) y 0) e
            ∙ at_len len shift first)) small)
            (λ no. let q = apart len shift first j ne no ∙ zero_at len shift first j (⊎_elim (λ e. absurd (ne e))
            (λ le. le) why) in omega arith))
