-- What a thread knows of the revisions that it runs between the calls of a hub.
--   IsReached    a state of a world to which a legal schedule leads
--   HaveMet      a joiner and the end that it takes in, in one such world
--   Comes        where the leg of a state leads
--   ComesTo      the same, or the end of a state after its join
--   IsSettled    what a joiner is in the state after its join
--   IsEndBy      an end of a state, made by a join or by a leg
--   EndsHere     an end of a state, or of the state to which its leg leads
--   IsSameHand   a hand of the same group, for the same runs
use Rattle.std.specs.Prelude.{◌≡◌, ◌⊎◌, ℕ, Bool, true, false, List, Some}
use Rattle.revision_machine.specs.Numbered.{Bears, Goes}
use Rattle.hub_core.specs.Replay.{state_after}
use Rattle.hub_core.specs.Hub.{Stands, IsEnd, Meets}
use Rattle.hub_core.specs.HubMachine.{HubMachine, numbered, values}
use Rattle.hub_workers.specs.declared.legs.LegEvent.{LegEvent}
use Rattle.hub_workers.specs.declared.legs.LegEvent.TheVariants as event
use Rattle.hub_workers.specs.declared.legs.SettledLeg.{SettledLeg}
use Rattle.hub_workers.specs.declared.legs.SettledLeg.TheVariants as settled

module _ {L R A E : Type 0} (d : HubMachine L R A E) where
  -- a schedule leads from such a start to a world in which a revision has this state
  pub record IsReached (Begins : L → Type 0) (l : L) : Type 0 where
    pub start : L
    pub begins : Begins start
    pub schedule : List ℕ
    pub number : ℕ
    pub stands : state_after (numbered d) start schedule number ≡ Some l

  -- what is run of an event belongs to this
  abbrev pub IsEventOf : {F : Type 0} → (F → List ℕ) → List ℕ → LegEvent F A E → Type 0
  IsEventOf fork_group group (event.Fork f) = fork_group f ≡ group
  IsEventOf fork_group group (event.Join a) = d.joiner_group a ≡ group
  IsEventOf fork_group group (event.End e) = Unit {0}

  abbrev pub IsSettledOf : List ℕ → SettledLeg R E → Type 0
  IsSettledOf group (settled.Run r) = d.runner_group r ≡ group
  IsSettledOf group (settled.Trap e) = Unit {0}

module _ {L R A E : Type 0} (d : HubMachine L R A E) (ends : E → L → Type 0) where
  -- in the world of a schedule from such a start the one stands before its join,
  -- and the other is the end of the revision that it joins
  pub record HaveMet (Begins : L → Type 0) (a : A) (e : E) : Type 0 where
    pub start : L
    pub begins : Begins start
    pub schedule : List ℕ
    pub number : ℕ
    pub meets : Meets (numbered d) (values d ends) start schedule number a e

  module _ (by_join : E → Bool) where
    abbrev pub IsEndBy : Bool → E → L → Type 0
    IsEndBy b e l = IsEnd (numbered d) (values d ends) e l × (by_join e ≡ b)

    -- the joiner has ended by its join in this state, or by the leg behind it
    abbrev pub EndsHere : E → L → Type 0
    EndsHere e l = IsEndBy true e l ⊎ ((last : L) × (d.next l ≡ Goes last) × IsEndBy false e last)

    abbrev pub Comes : {F : Type 0} → (F → ℕ → L) → (F → L) → L → LegEvent F A E → Type 0
    Comes forker child l (event.Fork f) = d.next l ≡ Bears (forker f) (child f)
    Comes forker child l (event.Join a) = Stands (numbered d) (values d ends) a l
    Comes forker child l (event.End e) = (last : L) × (d.next l ≡ Goes last) × IsEndBy false e last

    abbrev pub ComesTo : {F : Type 0} → (F → ℕ → L) → (F → L) → L → LegEvent F A E → Type 0
    ComesTo forker child l (event.Fork f) = d.next l ≡ Bears (forker f) (child f)
    ComesTo forker child l (event.Join a) = Stands (numbered d) (values d ends) a l
    ComesTo forker child l (event.End e) = EndsHere e l

    abbrev pub IsSettled : L → SettledLeg R E → Type 0
    IsSettled l (settled.Run r) = d.runs r ≡ l
    IsSettled l (settled.Trap e) = IsEndBy true e l

module _ {H L : Type 0} (begins : H → L → Type 0) (group : H → List ℕ) where
  abbrev pub IsSameHand : H → H → Type 0
  IsSameHand h h' = (group h' ≡ group h) × ((l : L) → begins h l → begins h' l)
