-- What a seat has: the passes of revisions, whose states are those of the hub's replay.
--   HadTurn v w                         the seat had one turn between the two, and left that schedule
--   HasState v k l                      it has the pass of the revision k, whose state is l
--   HasFork, HasJoin, HasEnd, HasTrap   what is handed in is the event of that revision's leg
--   KeepsOthers, KeepsAll               the other passes, or all, are as they were, and so is a halt that it knew of
--   LacksPass                           it has no pass of a revision
--   HasCurrent v                        each pass has had no entry since, and seats have its revision
--   HasWorld v                          what the hub kept when the seat gave its turn back
--   Owes v m k l                        the joiner k has taken in the end of m, is in this state,
--   and neither is an entry yet
use Rattle.std.specs.Prelude.{◌≡◌, ◌≢◌, ℕ, ◌≤◌, List, [], ◌∷◌, ◌++◌, Some}
use Rattle.revision_machine.specs.Numbered.{at_number}
use Rattle.hub_core.specs.declared.status.Status.{Status}
use Rattle.hub_core.specs.declared.status.Status.TheVariants.{Out}
use Rattle.hub_core.specs.Counts.{times}
use Rattle.hub_core.specs.Replay.{state_after}
use Rattle.hub_core.specs.Hub.{Tied, Forks, Joins, EndsLeg, WasTrapped}
use Rattle.hub_core.specs.HubMachine.{HubMachine, numbered, values}
use Rattle.hub_core.specs.declared.state.HubState.TheVariants.{All}
use Rattle.hub_core.specs.declared.view.View.{View}
use Rattle.hub_core.specs.Passes.{IsPass, Fresh, named}

module _ {L : Type 0} where
  -- what no call changes
  abbrev pub IsSameSeat : View L → View L → Type 0
  IsSameSeat v w = (w.start ≡ v.start) × (w.group ≡ v.group) × (w.parts ≡ v.parts)

  -- it had one turn more, at whose end the schedule was that of its view
  abbrev pub HadTurn : View L → View L → Type 0
  HadTurn v w = w.turns ≡ w.log ∷ v.turns

  -- a halt that it knew of is the one that it knows of
  abbrev pub KeepsHalt : View L → View L → Type 0
  KeepsHalt v w = v.halt ≢ All → w.halt ≡ v.halt

  abbrev pub KeepsOthers : View L → View L → ℕ → Type 0
  KeepsOthers v w k =
      IsSameSeat v w
      × ((j : ℕ) (at : List ℕ) → j ≢ k → IsPass v.passes j at → IsPass w.passes j at)
      × ((j : ℕ) (at : List ℕ) → j ≢ k → IsPass w.passes j at → IsPass v.passes j at)
      × KeepsHalt v w

  abbrev pub KeepsAll : View L → View L → Type 0
  KeepsAll v w = IsSameSeat v w × (w.passes ≡ v.passes) × KeepsHalt v w

  abbrev pub LacksPass : View L → ℕ → Type 0
  LacksPass v k = (at : List ℕ) → IsPass v.passes k at → ⊥

  abbrev pub HasCurrent : View L → Type 0
  HasCurrent v = Fresh v.log v.passes × ((k : ℕ) → named k v.passes ≤ times k v.out)

  -- in its last turn the seat added this entry to the schedule, or none
  abbrev pub AddsEntry : View L → ℕ → Type 0
  AddsEntry w k = w.log ≡ w.found ++ k ∷ []

  abbrev pub AddsNone : View L → Type 0
  AddsNone w = w.log ≡ w.found

module _ {L R A E : Type 0} (d : HubMachine L R A E) (ends : E → L → Type 0) where
  -- of a pass of the revision k: what holds of the start and of the schedule at its last turn
  abbrev pub HasPass : View L → ℕ → (L → List ℕ → Type 0) → Type 0
  HasPass v k P =
      (start : L) × (at : List ℕ) × (v.start ≡ Some start) × IsPass v.passes k at × P start at

  abbrev pub HasState : View L → ℕ → L → Type 0
  HasState v k l = HasPass v k (λ start at. state_after (numbered d) start at k ≡ Some l)

  abbrev pub HasFork : View L → ℕ → R → Type 0
  HasFork v k c = HasPass v k (λ start at. Forks (numbered d) (values d ends) start at k c)

  abbrev pub HasJoin : View L → ℕ → A → Type 0
  HasJoin v k a = HasPass v k (λ start at. Joins (numbered d) (values d ends) start at k a)

  abbrev pub HasEnd : View L → ℕ → E → Type 0
  HasEnd v k e = HasPass v k (λ start at. EndsLeg (numbered d) (values d ends) start at k e)

  -- its join trapped it, and this is the end of its state
  abbrev pub HasTrap : View L → ℕ → E → Type 0
  HasTrap v k e = HasPass v k (λ start at. WasTrapped (numbered d) (values d ends) start at k e)

  -- after the entry of the forker k, the child has that state under this number
  abbrev pub ForkedAs : View L → ℕ → ℕ → R → Type 0
  ForkedAs v k n c =
      HasPass v k (λ start at. state_after (numbered d) start at n ≡ Some (d.runs c))

  -- the hub kept these when the seat gave its turn back: each of its passes was one of then, and its revision out
  pub record HasWorld (v : View L) : Type 0 where
    pub start : L
    pub begun : v.start ≡ Some start
    pub slots : List (Status R A E)
    pub forkers : List ℕ
    pub tied : Tied (numbered d) (values d ends) start v.log slots forkers
    pub fresh : Fresh v.log v.passes
    pub out : (k : ℕ) (at : List ℕ) → IsPass v.passes k at → at_number slots k ≡ Some Out

  -- the seat has m at its end, and k at its join of m, which is in this state after it
  pub record Owes (v : View L) (m k : ℕ) (l : L) : Type 0 where
    pub joiner : A
    pub last : E
    pub ended : HasEnd v m last
    pub joins : HasJoin v k joiner
    pub on : d.on joiner ≡ m
    pub state : l ≡ d.joined joiner last
