-- The passes of a seat.
--   Pass            a revision that a seat has: its number, and the schedule at its last turn
--   named n ps      how many passes name it
--   Fresh log ps    no pass has had an entry since
--   IsStartOf at log, AreStartsOf log ats   the schedule begins with that one, or with each of those
use Rattle.std.specs.Prelude.{◌≡◌, ◌⊎◌, ℕ, List, [], ◌∷◌, ◌++◌, cond, ◌==◌}
use Rattle.hub_core.specs.Replay.{IsNotIn}
use Rattle.hub_core.specs.Counts.{total, is_at}

abbrev pub Pass : Type 0
Pass = ℕ × List ℕ

abbrev pub named : ℕ → List Pass → ℕ
named n = total (λ p. is_at n p.0)

abbrev pub IsPass : List Pass → ℕ → List ℕ → Type 0
IsPass [] k at = ⊥
IsPass (p ∷ ps) k at = ((p.0 ≡ k) × (p.1 ≡ at)) ⊎ IsPass ps k at

-- the list without those of this number
abbrev pub less : {A : Type 0} → (A → ℕ) → ℕ → List A → List A
less f k [] = []
less f k (x ∷ xs) = cond (f x == k) (less f k xs) (x ∷ less f k xs)

abbrev pub without : ℕ → List ℕ → List ℕ
without k = less (λ x. x) k

abbrev pub left : ℕ → List Pass → List Pass
left k = less (λ p. p.0) k

abbrev pub IsSince : List ℕ → ℕ → List ℕ → Type 0
IsSince log k at = (since : List ℕ) × (log ≡ at ++ since) × IsNotIn k since

abbrev pub Fresh : List ℕ → List Pass → Type 0
Fresh log ps = (k : ℕ) (at : List ℕ) → IsPass ps k at → IsSince log k at

abbrev pub IsStartOf : List ℕ → List ℕ → Type 0
IsStartOf at log = (since : List ℕ) × (log ≡ at ++ since)

abbrev pub AreStartsOf : List ℕ → List (List ℕ) → Type 0
AreStartsOf log [] = Unit {0}
AreStartsOf log (at ∷ ats) = IsStartOf at log × AreStartsOf log ats
