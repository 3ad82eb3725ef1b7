-- Entries from a place on: the one at the place, and those behind it.
use Rattle.std.proofs.Common.{◌≡◌, ◌≢◌, ℕ, zero, suc, ◌+◌, ◌<◌, ◌≤◌, Bool, cond, List, [], ◌∷◌, ◌++◌, length, slice_index_or, refl, sym, ap, ◌∙◌, arith, eq-eqb, ne_eqb, Option, None}
use Rattle.hub_core.specs.declared.journal.Entry.{Entry}
use Rattle.hub_core.specs.declared.journal.Looped.{Looped}
use Rattle.hub_core.specs.Rounds.{first_at, behind_at}
use Rattle.hub_core.specs.Woven.{pairs_from, rounds_at}

pub from_end : (at : ℕ) (es : List Entry) → length es ≤ at → pairs_from at es ≡ []
from_end zero [] h = refl
from_end zero (x ∷ es) h = absurd (omega arith)
from_end (suc at) [] h = refl
from_end (suc at) (x ∷ es) h = from_end at es (omega arith)

pub first_same : (n c k : ℕ) (xs : List (ℕ × ℕ)) → c ≡ n → first_at n ((c, k) ∷ xs) ≡ k ∷ first_at n xs
first_same n c k xs e = ap (λ (b : Bool). cond b (k ∷ first_at n xs) []) (eq-eqb c n e)

pub behind_same : (n c k : ℕ) (xs : List (ℕ × ℕ)) → c ≡ n → behind_at n ((c, k) ∷ xs) ≡ behind_at n xs
behind_same n c k xs e = ap (λ (b : Bool). cond b (behind_at n xs) ((c, k) ∷ xs)) (eq-eqb c n e)

pub first_other : (n c k : ℕ) (xs : List (ℕ × ℕ)) → c ≢ n → first_at n ((c, k) ∷ xs) ≡ []
first_other n c k xs ne = ap (λ (b : Bool). cond b (k ∷ first_at n xs) []) (ne_eqb c n ne)

pub behind_other : (n c k : ℕ) (xs : List (ℕ × ℕ)) → c ≢ n → behind_at n ((c, k) ∷ xs) ≡ (c, k) ∷ xs
behind_other n c k xs ne = ap (λ (b : Bool). cond b (behind_at n xs) ((c, k) ∷ xs)) (ne_eqb c n ne)

pub none_more : (rs : List (Option Looped)) (n : ℕ) → rounds_at (rs ++ None ∷ []) n ≡ rounds_at rs n
none_more [] zero = refl
none_more [] (suc n) = refl
none_more (x ∷ rs) zero = refl
none_more (x ∷ rs) (suc n) = none_more rs n

-- the entry at a place
abbrev pub entry_at : List Entry → ℕ → Entry
entry_at es at = slice_index_or es at record { count = 0; number = 0 }

from_or : (at : ℕ) (es : List Entry) → at < length es
    → pairs_from at es ≡ ((entry_at es at).count, (entry_at es at).number) ∷ pairs_from (suc at) es
from_or zero [] h = absurd (omega arith)
from_or (suc at) [] h = absurd (omega arith)
from_or zero (x ∷ es) h = refl
from_or (suc at) (x ∷ es) h = from_or at es (omega arith)

pub from_next : (at : ℕ) (es : List Entry) → at < length es
    → pairs_from at es ≡ ((entry_at es at).count, (entry_at es at).number) ∷ pairs_from (at + 1) es
from_next at es h =
    let z : suc at ≡ at + 1 = omega arith in
    from_or at es h ∙ ap (λ i. ((entry_at es at).count, (entry_at es at).number) ∷ pairs_from i es) z

-- an entry of this count
pub step_first : (n at : ℕ) (es : List Entry) → at < length es → (entry_at es at).count ≡ n
    → first_at n (pairs_from at es) ≡ (entry_at es at).number ∷ first_at n (pairs_from (at + 1) es)
step_first n at es h e =
    ap (first_at n) (from_next at es h)
    ∙ first_same n (entry_at es at).count (entry_at es at).number (pairs_from (at + 1) es) e

pub step_behind : (n at : ℕ) (es : List Entry) → at < length es → (entry_at es at).count ≡ n
    → behind_at n (pairs_from at es) ≡ behind_at n (pairs_from (at + 1) es)
step_behind n at es h e =
    ap (behind_at n) (from_next at es h)
    ∙ behind_same n (entry_at es at).count (entry_at es at).number (pairs_from (at + 1) es) e

-- one of another
pub stop_first : (n at : ℕ) (es : List Entry) → at < length es → (entry_at es at).count ≢ n
    → first_at n (pairs_from at es) ≡ []
stop_first n at es h ne =
    ap (first_at n) (from_next at es h)
    ∙ first_other n (entry_at es at).count (entry_at es at).number (pairs_from (at + 1) es) ne

pub stop_behind : (n at : ℕ) (es : List Entry) → at < length es → (entry_at es at).count ≢ n
    → behind_at n (pairs_from at es) ≡ pairs_from at es
stop_behind n at es h ne =
    ap (behind_at n) (from_next at es h)
    ∙ (behind_other n (entry_at es at).count (entry_at es at).number (pairs_from (at + 1) es) ne
    ∙ sym (from_next at es h))
