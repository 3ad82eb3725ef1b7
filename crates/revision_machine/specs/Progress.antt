-- What comes of some steps of a list of revisions.
use Rattle.std.specs.Prelude.{◌≡◌, ◌<◌, ℕ, suc, List, Vec, length, Bool, true, false, None, get_or}
use Rattle.rev_num.specs.Path.{Path}
use Rattle.revision_machine.specs.Machine.{Machine, Twice, Live, step, Runs, Final}
use Rattle.revision_machine.specs.declared.state.RevisionRow.{RevisionRow}
use Rattle.revision_machine.specs.declared.complete_run.Progress.{Progress}
use Rattle.revision_machine.specs.declared.complete_run.Progress.TheVariants as progress
use Rattle.revision_machine.specs.RevisionList.{globe}
use Rattle.revision_machine.specs.Rules.{Rules, machine_of}

module _ (M : Machine) where
  -- steps lead from the old list to the new one, at least so many
  abbrev pub Goes : ℕ → List (RevisionRow M.Local) → List (RevisionRow M.Local) → Type 0
  Goes least old new =
      (rs : List Path) × Runs M (Live (globe old)) rs (Live (globe new)) × (least < suc (length rs))

  abbrev pub GoesToTwice : List (RevisionRow M.Local) → Type 0
  GoesToTwice old = (rs : List Path) × Runs M (Live (globe old)) rs Twice

  -- what an answer tells; where nothing moved, this holds
  abbrev pub Progresses : Type 0 → Progress → List (RevisionRow M.Local) → List (RevisionRow M.Local) → Type 0
  Progresses Still progress.Moved old new = Goes 1 old new
  Progresses Still progress.Stuck old new = Still × (new ≡ old)
  Progresses Still progress.Twice old new = GoesToTwice old

  -- the revision at this place cannot step
  abbrev pub CannotStep : List (RevisionRow M.Local) → ℕ → Type 0
  CannotStep revisions i =
      (d : RevisionRow M.Local) → step M (Live (globe revisions)) (get_or revisions i d).path ≡ None

  -- none of the first n can
  abbrev pub NoneSteps : List (RevisionRow M.Local) → ℕ → Type 0
  NoneSteps revisions n = (k : ℕ) → k < n → CannotStep revisions k

  -- of a pass over the first n: something moved, or nothing did
  abbrev pub PassSoFar : Bool → List (RevisionRow M.Local) → List (RevisionRow M.Local) → ℕ → Type 0
  PassSoFar true old new n = Goes 1 old new
  PassSoFar false old new n = (new ≡ old) × NoneSteps old n

  -- what an answer tells of steps that may be none
  abbrev pub GoesOn : Progress → List (RevisionRow M.Local) → List (RevisionRow M.Local) → Type 0
  GoesOn progress.Moved old new = Goes 0 old new
  GoesOn progress.Stuck old new = ⊥
  GoesOn progress.Twice old new = GoesToTwice old

module _ {L A : Type 0} (rules : Rules L) where
  -- of the revision at this place
  abbrev pub Tries : ℕ → Progress → Vec (RevisionRow L) A → Vec (RevisionRow L) A → Type 0
  Tries i p old new =
      Progresses (machine_of rules) (CannotStep (machine_of rules) old.items i) p old.items new.items

  -- of each revision in turn
  abbrev pub TriesEach : Progress → Vec (RevisionRow L) A → Vec (RevisionRow L) A → Type 0
  TriesEach p old new =
      Progresses (machine_of rules) (Final (machine_of rules) (Live (globe old.items))) p old.items new.items

  abbrev pub TriesSome : Progress → Vec (RevisionRow L) A → Vec (RevisionRow L) A → Type 0
  TriesSome p old new = GoesOn (machine_of rules) p old.items new.items

-- how many places a step adds at most
abbrev pub most_of : Progress → ℕ
most_of progress.Moved = 2
most_of progress.Stuck = 0
most_of progress.Twice = 0

-- something has moved, now or before
abbrev pub moved_by : Bool → Progress → Bool
moved_by before progress.Moved = true
moved_by before progress.Stuck = before
moved_by before progress.Twice = before
