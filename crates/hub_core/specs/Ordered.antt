-- What a close puts together of the lists of all seats, and what records leave.
--   all_rounds            the rounds of several lists
--   are_below             each child has a number below this one
--   placed, look_of       the round of a number, where these are put behind others; the rounds of a list by number
--   forker_or             the forker of a round, or else this number
--   end_in, self_in       what a record leaves: an end, or itself
--   ends_of               by number the ends, of so many numbers
--   kept_in               the runners and joiners that no seat has
use Rattle.std.specs.Prelude.{◌<◌, ◌==◌, ℕ, zero, suc, cond, List, [], ◌∷◌, ◌++◌, Option, Some, None}
use Rattle.hub_core.specs.declared.status.Status.{Status}
use Rattle.hub_core.specs.declared.status.Status.TheVariants.{Ready, Out, Waiting, Over, Gone}
use Rattle.hub_core.specs.declared.kept.Kept.{Kept}
use Rattle.hub_core.specs.declared.kept.Kept.TheVariants as left
use Rattle.hub_core.specs.Hub.{end_of}
use Rattle.hub_core.specs.Left.{self_kept}
use Rattle.hub_core.specs.Rounds.{Round}

abbrev pub all_rounds : List (List Round) → List Round
all_rounds [] = []
all_rounds (rs ∷ lists) = rs ++ all_rounds lists

abbrev pub AreBelow : ℕ → List Round → Type 0
AreBelow born [] = Unit {0}
AreBelow born (r ∷ rs) = (r.0 < born) × AreBelow born rs

-- of two rounds of one number the later
abbrev pub placed : List Round → (ℕ → Option (ℕ × ℕ)) → ℕ → Option (ℕ × ℕ)
placed [] look n = look n
placed (r ∷ rs) look n = placed rs (λ i. cond (r.0 == i) (Some (r.1, r.2)) (look i)) n

abbrev pub look_of : List Round → ℕ → Option (ℕ × ℕ)
look_of rs n = placed rs (λ i. None) n

abbrev pub forker_or : ℕ → Option (ℕ × ℕ) → ℕ
forker_or last None = last
forker_or last (Some x) = x.1

module _ {R A E : Type 0} where
  abbrev pub end_in : Option (Status R A E) → Option E
  end_in None = None
  end_in (Some s) = end_of s

  abbrev pub self_in : Option (Status R A E) → Option (Kept R A)
  self_in None = None
  self_in (Some s) = self_kept s

  abbrev pub ends_of : ℕ → List (Option (Status R A E)) → List (Option E)
  ends_of zero rs = []
  ends_of (suc n) [] = None ∷ ends_of n []
  ends_of (suc n) (r ∷ rs) = end_in r ∷ ends_of n rs

  abbrev pub kept_in : List (Option (Status R A E)) → List (Kept R A)
  kept_in [] = []
  kept_in (None ∷ rs) = kept_in rs
  kept_in (Some (Ready r) ∷ rs) = left.Run r ∷ kept_in rs
  kept_in (Some Out ∷ rs) = kept_in rs
  kept_in (Some (Waiting a) ∷ rs) = left.Join a ∷ kept_in rs
  kept_in (Some (Over e) ∷ rs) = kept_in rs
  kept_in (Some Gone ∷ rs) = kept_in rs
