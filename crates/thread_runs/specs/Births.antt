-- The births of revisions, from the forkers of all by number.
--   forks_by     how often a revision is the forker among these; the first, whom nobody forked, is left out
--   IsBirth      the birth of a number: its place is how many its forker had forked before
--   AreBirths    the births of all
--   AreEarlier   each but the first was forked by an earlier one
use Rattle.std.specs.Prelude.{◌≡◌, ◌≤◌, ℕ, suc, List, [], ◌∷◌, length, take, Some}
use Rattle.revision_machine.specs.Numbered.{at_number}
use Rattle.hub_core.specs.Counts.{times}
use Rattle.code_world.specs.declared.table.Birth.{Birth}

abbrev pub forks_by : ℕ → List ℕ → ℕ
forks_by n [] = 0
forks_by n (f ∷ fs) = times n fs

pub record IsBirth (forkers : List ℕ) (n : ℕ) (b : Birth) : Type 0 where
  pub forked : at_number forkers n ≡ Some b.forker
  pub place : b.place ≡ forks_by b.forker (take n forkers)
  pub forks : b.forks ≡ forks_by n forkers

pub record AreBirths (forkers : List ℕ) (births : List Birth) : Type 0 where
  pub each : (n : ℕ) (b : Birth) → at_number births n ≡ Some b → IsBirth forkers n b
  pub all : length births ≡ length forkers

abbrev pub AreEarlier : List ℕ → Type 0
AreEarlier forkers = (n f : ℕ) → at_number forkers (suc n) ≡ Some f → f ≤ n
