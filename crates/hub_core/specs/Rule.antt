-- Statuses of revisions, and the schedule whose replay they are.
--   is_out, OutsAre   the revisions that seats have
--   done              nothing is unfinished, or a halt was entered
--   Sound             the schedule is legal, and the statuses are its replay, after Twice without the last entry
--   AreOfGroup        the snapshot of what is kept is of this group
--   says              what a view says of the statuses
use Rattle.std.specs.Prelude.{◌≡◌, ℕ, Bool, true, List, [], ◌∷◌, ◌++◌, cond, Option, Some, None}
use Rattle.revision_machine.specs.Numbered.{Both, at_number}
use Rattle.hub_core.specs.declared.status.Status.{Status}
use Rattle.hub_core.specs.declared.status.Status.TheVariants.{Ready, Out, Waiting, Over, Gone}
use Rattle.hub_core.specs.Replay.{replay}
use Rattle.hub_core.specs.Hub.{Tied}
use Rattle.hub_core.specs.HubMachine.{HubMachine, numbered, values}
use Rattle.hub_core.specs.declared.state.HubState.{HubState}
use Rattle.hub_core.specs.declared.state.HubState.TheVariants.{All, Twice, NoMemory}
use Rattle.hub_core.specs.Counts.{times}
use Rattle.hub_core.specs.Found.{all_over}
use Rattle.hub_core.specs.declared.view.Said.{Said}
use Rattle.hub_core.specs.declared.view.Said.TheVariants as mark

module _ {R A E : Type 0} where
  abbrev pub is_out : Option (Status R A E) → ℕ
  is_out None = 0
  is_out (Some (Ready r)) = 0
  is_out (Some Out) = 1
  is_out (Some (Waiting a)) = 0
  is_out (Some (Over e)) = 0
  is_out (Some Gone) = 0

  abbrev pub OutsAre : List (Status R A E) → List ℕ → Type 0
  OutsAre slots out = (n : ℕ) → times n out ≡ is_out (at_number slots n)

  -- nothing is unfinished, or a halt was entered
  abbrev pub done : HubState → List (Status R A E) → Bool
  done All slots = all_over slots
  done Twice slots = true
  done NoMemory slots = true

module _ {L R A E : Type 0} (d : HubMachine L R A E) (ends : E → L → Type 0) where
  -- the last entry joined what was joined
  pub record EnteredTwice (start : L) (log : List ℕ) (slots : List (Status R A E)) (forkers : List ℕ) : Type 0 where
    pub before : List ℕ
    pub last : ℕ
    pub is : log ≡ before ++ last ∷ []
    pub tied : Tied (numbered d) (values d ends) start before slots forkers
    pub twice : replay (numbered d) start log ≡ Some Both

  abbrev pub Sound : L → HubState → List ℕ → List (Status R A E) → List ℕ → Type 0
  Sound start All log slots forkers = Tied (numbered d) (values d ends) start log slots forkers
  Sound start NoMemory log slots forkers = Tied (numbered d) (values d ends) start log slots forkers
  Sound start Twice log slots forkers = EnteredTwice start log slots forkers

  abbrev pub SoundFrom : Option L → HubState → List ℕ → List (Status R A E) → List ℕ → Type 0
  SoundFrom None state log slots forkers = ⊥
  SoundFrom (Some start) state log slots forkers = Sound start state log slots forkers

  -- the snapshot of what is kept is of this group
  abbrev pub IsOfGroup : List ℕ → Status R A E → Type 0
  IsOfGroup group (Ready r) = d.runner_group r ≡ group
  IsOfGroup group Out = Unit {0}
  IsOfGroup group (Waiting a) = d.joiner_group a ≡ group
  IsOfGroup group (Over e) = Unit {0}
  IsOfGroup group Gone = Unit {0}

  abbrev pub AreOfGroup : List ℕ → List (Status R A E) → Type 0
  AreOfGroup group [] = Unit {0}
  AreOfGroup group (s ∷ slots) = IsOfGroup group s × AreOfGroup group slots

  abbrev pub said_of : Status R A E → Said
  said_of (Ready r) = mark.Ready
  said_of Out = mark.Out
  said_of (Waiting a) = mark.Waits (d.on a)
  said_of (Over e) = cond (d.trapped e) mark.Trapped mark.Done
  said_of Gone = mark.Joined

  abbrev pub says : List (Status R A E) → List Said
  says [] = []
  says (x ∷ slots) = said_of x ∷ says slots
