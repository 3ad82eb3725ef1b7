-- Words by segment and offset, and chains.
use Rattle.std.proofs.Common.{◌≡◌, ℕ, ◌+◌, ◌%◌, ◌<◌, ◌≤◌, ◌≢◌, cond, List, [], ◌∷◌}
use Rattle.std.proofs.Common.{sym, refl, ◌∙◌, subst, arith, ⊎_elim, eq-eqb, ne_eqb}
use mathlib.Core.Logic.{dite}
use native.Mathlib.Decide.{dec_le}
use Rattle.segment_store.specs.Entry.{Entry}
use Rattle.atomic_table.proofs.Lists.{one_turn}
use Rattle.segment_store.specs.Store.{first_of, refs_in, Chain, Has}

-- a chain that begins with the segment c refers to it
pub refs_is : (c x : ℕ) (es : List Entry) → 0 < first_of es → first_of es ≡ c
    → refs_in c es x ≡ 1 + x
refs_is c x [] h e = absurd (omega arith)
refs_is c x (a ∷ more) h e = subst (λ b. cond b (1 + x) 0 ≡ 1 + x) (sym (eq-eqb a.seg c e)) refl

pub refs_not : (c x : ℕ) (es : List Entry) → first_of es ≢ c → refs_in c es x ≡ 0
refs_not c x [] n = refl
refs_not c x (a ∷ more) n = subst (λ b. cond b (1 + x) 0 ≡ 0) (sym (ne_eqb a.seg c n)) refl

pub refs_none : (c x : ℕ) (es : List Entry) → 0 < c → refs_in c es x ≡ 0 → first_of es ≢ c
refs_none c x [] h e n = omega arith
refs_none c x (a ∷ more) h e n = let is = subst (λ b. cond b (1 + x) 0 ≡ 0) (eq-eqb a.seg c n) e in
    omega arith

-- two segments that share a word are one
pub one_segment : (c d i n : ℕ) → c % n ≡ 0 → d % n ≡ 0 → c ≤ i → i < c + n → d ≤ i → i < d + n
    → c ≡ d
one_segment c d i n hc hd a b x y = dite (dec_le c d)
    (λ h. one_turn c d n h (omega arith) (hc ∙ sym hd))
    (λ h. sym (one_turn d c n (omega arith) (omega arith) (hd ∙ sym hc)))

module _ (words stride : ℕ) where
  pub chain_map : (B C : Entry → Type 0) → ((e : Entry) → B e → C e) → (es : List Entry)
      → Chain words stride B es → Chain words stride C es
  chain_map B C keep [] c = tt
  chain_map B C keep (e ∷ es) c = (keep e c.0, c.1, chain_map B C keep es c.2)

  -- a chain that does not begin with c, where no segment has c for its parent
  pub chain_keeps : (B C : Entry → Type 0) (c : ℕ) → ((e : Entry) → B e → e.up ≢ c)
      → ((e : Entry) → e.seg ≢ c → B e → C e) → (es : List Entry) → first_of es ≢ c
      → Chain words stride B es → Chain words stride C es
  chain_keeps B C c none_up keep [] n h = tt
  chain_keeps B C c none_up keep (e ∷ es) n h = (
    keep e n h.0,
    h.1,
    chain_keeps B C c none_up keep es (λ q. none_up e h.0 (h.1 ∙ q)) h.2,
  )

  pub chain_has : (B : Entry → Type 0) (es : List Entry) (e : Entry) → Chain words stride B es
      → Has e es → B e
  chain_has B [] e h at = absurd at
  chain_has B (x ∷ xs) e h at = ⊎_elim (λ (q : x ≡ e). subst B q h.0) (λ q. chain_has B xs e h.2 q)
      at
