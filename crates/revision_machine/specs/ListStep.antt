-- A step as a change of the list of revisions.
use Rattle.std.specs.Prelude.{◌≡◌, ◌<◌, ℕ, List, Vec, length, get_or, set, true, Some, None}
use Rattle.rev_num.specs.Path.{Path}
use Rattle.revision_machine.specs.Machine.{Event, Joins, Machine, Twice, Live, step}
use Rattle.revision_machine.specs.declared.state.RevisionRow.{RevisionRow}
use Rattle.revision_machine.specs.declared.one_step.StepOutcome.{StepOutcome}
use Rattle.revision_machine.specs.declared.one_step.StepOutcome.TheVariants as outcome
use Rattle.revision_machine.specs.RevisionList.{globe}
use Rattle.revision_machine.specs.Rules.{Rules, machine_of, AreRoomy}
use Rattle.revision_machine.specs.StepOutcomes.{WaitsOn, IsEndedEntry}

-- the revision at this place has this path
pub record IsAt {L : Type 0} (revisions : List (RevisionRow L)) (i : ℕ) (p : Path) : Type 0 where
  pub within : i < length revisions
  pub path : (d : RevisionRow L) → (get_or revisions i d).path ≡ p

abbrev pub with_state : {L : Type 0} → RevisionRow L → L → RevisionRow L
with_state s l = record { path = s.path; state = l; joined = s.joined }

abbrev pub with_mark : {L : Type 0} → RevisionRow L → RevisionRow L
with_mark s = record { path = s.path; state = s.state; joined = true }

-- what an answer tells of the list before and after a step of p
abbrev pub Does : (M : Machine) → StepOutcome → Path → List (RevisionRow M.Local) → List (RevisionRow M.Local) → Type 0
Does M outcome.Moved p old new = step M (Live (globe old)) p ≡ Some (Live (globe new))
Does M (outcome.Waits q) p old new = WaitsOn M (globe old) p q × (new ≡ old)
Does M outcome.Ended p old new = IsEndedEntry M p (globe old p) × (new ≡ old)
Does M outcome.Twice p old new = step M (Live (globe old)) p ≡ Some Twice
Does M outcome.NoSuch p old new = (globe old p ≡ None) × (new ≡ old)

-- the first of these revisions after its join of the second
abbrev pub meet : {L : Type 0} → Rules L → RevisionRow L → RevisionRow L → RevisionRow L
meet rules x y = with_state x (rules.join x.path x.state y.path y.state)

module _ {L : Type 0} (rules : Rules L) where
  -- what the answer tells of a step at this place
  abbrev pub StepsAt : {A : Type 0} → ℕ → StepOutcome → Vec (RevisionRow L) A → Vec (RevisionRow L) A → Type 0
  StepsAt i s old new =
      (d : RevisionRow L) → Does (machine_of rules) s (get_or old.items i d).path old.items new.items

  -- the revision at this place does this next
  abbrev pub NextIs : List (RevisionRow L) → ℕ → Event L → Type 0
  NextIs list i e = (d : RevisionRow L) → rules.next (get_or list i d).path (get_or list i d).state ≡ e

  -- it joins the one at that place
  abbrev pub JoinsPlace : List (RevisionRow L) → ℕ → ℕ → Type 0
  JoinsPlace list i j =
      (d : RevisionRow L)
      → rules.next (get_or list i d).path (get_or list i d).state ≡ Joins (get_or list j d).path

  abbrev pub JoinsOther : RevisionRow L → RevisionRow L → Type 0
  JoinsOther x y = rules.next x.path x.state ≡ Joins y.path

  abbrev pub PlacesRoomy : List (RevisionRow L) → ℕ → ℕ → Type 0
  PlacesRoomy list i j =
      (d : RevisionRow L) → AreRoomy rules (get_or list i d).state (get_or list j d).state

  -- the list after the join, read with any default
  abbrev pub AfterJoin : List (RevisionRow L) → ℕ → ℕ → List (RevisionRow L) → Type 0
  AfterJoin list i j new =
      (d : RevisionRow L) → new
      ≡ set (set list i (meet rules (get_or list i d) (get_or list j d))) j (with_mark (get_or list j d))
