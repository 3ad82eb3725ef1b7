-- What is noted of a leg.
--   IsChanged      the note of this number has changed so, and no other
--   HasAdded       a note with one entry more, where there is one
--   HasEnd         a note of what the revision of this number left in this world
--   HasNoted       the notes after a leg that came out so
--   listed_by      what a leg that comes to this adds to the list of forks and joins, where a child
--                  gets this number
use Rattle.std.specs.Prelude.{◌≡◌, ◌≢◌, ℕ, List, [], ◌∷◌, ◌++◌, length, Option, Some, None}
use Rattle.rev_code.specs.State.{Listed, forked, joined}
use Rattle.rev_code.specs.Step.{Comes, goes, traps, forks, joins, ends, stuck}
use Rattle.version_map.specs.declared.end.EndValue.{EndValue}
use Rattle.leg_run.specs.declared.revision.Meeting.{Meeting}
use Rattle.revision_machine.specs.Numbered.{World, at_number}
use Rattle.code_machine.specs.Local.{CodeRun, Local}
use Rattle.code_world.specs.declared.answer.LegAnswer.{LegAnswer}
use Rattle.code_world.specs.declared.answer.LegAnswer.TheVariants as answer
use Rattle.code_world.specs.declared.world.World as rust
use Rattle.code_world.specs.Endings.{IsEndAt}
use Rattle.code_world.specs.Tables.{IsWorld}
use Rattle.world_runs.specs.declared.noted.Noted.{Noted}

pub record IsChanged (n : ℕ) (Changes : Noted → Noted → Type 0) (old new : List Noted)
    : Type 0 where
  pub count : length new ≡ length old
  pub others : (m : ℕ) → m ≢ n → at_number new m ≡ at_number old m
  pub own : (y : Noted) → at_number new n ≡ Some y
      → (x : Noted) × (at_number old n ≡ Some x) × Changes x y

abbrev pub entries_of : Option Meeting → List Meeting
entries_of None = []
entries_of (Some m) = m ∷ []

pub record HasAdded (m : Option Meeting) (x y : Noted) : Type 0 where
  pub meetings : y.meetings.items ≡ x.meetings.items ++ entries_of m
  pub end : y.end ≡ x.end

-- for whatever world of the definition it stands
abbrev pub IsEndIn : rust.World → ℕ → Option EndValue → Type 0
IsEndIn v n o = (g : CodeRun) (w : World (Local ℕ)) → IsWorld g v w → IsEndAt g w n o

pub record HasEnd (v : rust.World) (n : ℕ) (x y : Noted) : Type 0 where
  pub meetings : y.meetings ≡ x.meetings
  pub end : IsEndIn v n y.end

-- a child has a note of its own, which comes last
abbrev pub IsBorn : (n : ℕ) → Option Meeting → (old new : List Noted) → Type 0
IsBorn n m old new =
    (between : List Noted) × (child : Noted) × IsChanged n (HasAdded m) old between
    × (new ≡ between ++ child ∷ []) × (child.meetings.items ≡ [])

abbrev pub IsOverNow : rust.World → (n : ℕ) → Option Meeting → (old new : List Noted) → Type 0
IsOverNow v n m old new =
    (between : List Noted) × IsChanged n (HasAdded m) old between
    × IsChanged n (HasEnd v n) between new

-- where there is no leg, and in Twice, the notes stay
abbrev pub HasNoted : rust.World → (n : ℕ) → LegAnswer → Option Meeting → (old new : List Noted)
    → Type 0
HasNoted v n (answer.Forked k) m old new = IsBorn n m old new
HasNoted v n (answer.Joined on) m old new = IsChanged n (HasAdded m) old new
HasNoted v n answer.Ended m old new = IsOverNow v n m old new
HasNoted v n answer.Trapped m old new = IsOverNow v n m old new
HasNoted v n (answer.Waits on) m old new = new ≡ old
HasNoted v n answer.Twice m old new = new ≡ old
HasNoted v n answer.NoSuch m old new = new ≡ old
HasNoted v n answer.Over m old new = new ≡ old

-- ---- the list of a revision, leg by leg

abbrev pub listed_by : (child : ℕ) → Comes ℕ → List (Listed ℕ)
listed_by child (forks c block args) = forked child c.line ∷ []
listed_by child (joins c try on) = joined on c.line ∷ []
listed_by child (goes c) = []
listed_by child (traps c cause) = []
listed_by child (ends c result') = []
listed_by child stuck = []
