-- What a hub leaves at its close.
--   saw_of, halt_known, held_by   what the seats saw and know, and the passes that they have
--   Legal        the schedule is legal, or its last entry joined what was joined
--   EndsFit      each end that is told is that of a revision that has ended and was not joined
--   KeptRun      a run: legal, with the forkers and the ends of its world
--   ClosedDesk   what the slot has, and how many revisions there are
--   ClosedHub    what a hub leaves: the run, and what a halt left
--   IsSameMachine, HaveSameEnds   two machines of the same states and ends do the same
use Rattle.std.specs.Prelude.{◌≡◌, ◌≤◌, ◌↔◌, ℕ, true, List, [], ◌∷◌, ◌++◌, map, length, Option, Some, None}
use Rattle.atomic_table.specs.declared.shared.Seat.{Seat}
use Rattle.revision_machine.specs.Machine.{Plain, Joined}
use Rattle.revision_machine.specs.Numbered.{Numbered, Entries, Both, Listing, Stops, IsOver, at_number, paths_of}
use Rattle.hub_core.specs.declared.status.Status.{Status}
use Rattle.hub_core.specs.Replay.{replay}
use Rattle.hub_core.specs.Forkers.{ForkersAre}
use Rattle.hub_core.specs.Hub.{AllFit, EndsAre, end_of}
use Rattle.hub_core.specs.HubMachine.{HubMachine, numbered, values}
use Rattle.hub_core.specs.declared.state.HubState.{HubState}
use Rattle.hub_core.specs.declared.state.HubState.TheVariants.{All, Twice, NoMemory}
use Rattle.hub_core.specs.declared.kept.Kept.{Kept}
use Rattle.hub_core.specs.declared.kept.Kept.TheVariants as left
use Rattle.hub_core.specs.declared.view.View.{View}
use Rattle.hub_core.specs.declared.sight.Sight.{Sight}
use Rattle.hub_core.specs.declared.desk.Desk.{Desk}
use Rattle.hub_core.specs.Counts.{total, times}
use Rattle.hub_core.specs.Left.{kept_of}
use Rattle.hub_core.specs.Passes.{named, AreStartsOf}
use Rattle.hub_core.specs.Views.{either_saw, either_halt}
use Rattle.hub_core.specs.Rule.{is_out, done, Sound, AreOfGroup}
use Rattle.hub_core.specs.Rounds.{Item, flat, born, turn_part, round_part, IsRound, children}
use Rattle.hub_core.specs.Tally.{pairs, records_of, Shadows}

module _ {S L : Type 0} where
  -- 1 where one of them was answered Finished or Halted, or entered a halt
  abbrev pub saw_of : List (Seat S (Sight L)) → ℕ
  saw_of [] = 0
  saw_of (s ∷ ss) = either_saw s.me.0.seat.saw (saw_of ss)

  -- the halt that one of them knows of
  abbrev pub halt_known : List (Seat S (Sight L)) → HubState
  halt_known [] = All
  halt_known (s ∷ ss) = either_halt (halt_known ss) s.me.0.seat.halt

  -- how many of their passes name the revision
  abbrev pub held_by : ℕ → List (Seat S (Sight L)) → ℕ
  held_by n = total (λ s. named n s.me.0.seat.passes)

module _ (N : Numbered) where
  -- the schedule leads to the world, or in Twice from there by one entry to the join that entered it
  abbrev pub IsLegal : N.Local → HubState → List ℕ → Entries N.Local → Type 0
  IsLegal start All schedule world = replay N start schedule ≡ Some (Listing world)
  IsLegal start NoMemory schedule world = replay N start schedule ≡ Some (Listing world)
  IsLegal start Twice schedule world =
      (before : List ℕ) × (last : ℕ) × (schedule ≡ before ++ last ∷ [])
      × (replay N start before ≡ Some (Listing world)) × (replay N start schedule ≡ Some Both)

  -- each revision of which no end is told was joined
  abbrev pub OthersJoined : {E : Type 0} → List (Option E) → Entries N.Local → Type 0
  OthersJoined [] w = Unit {0}
  OthersJoined (e ∷ es) [] = Unit {0}
  OthersJoined (None ∷ es) (x ∷ w) = ((l : N.Local) × (x.1 ≡ Joined l)) × OthersJoined es w
  OthersJoined (Some e ∷ es) (x ∷ w) = OthersJoined es w

  module _ {E : Type 0} (ends : E → N.Local → Type 0) where
    abbrev pub IsEndOf : E → N.Local → Type 0
    IsEndOf e l = (N.next l ≡ Stops) × ends e l

    abbrev pub EndsFit : List (Option E) → Entries N.Local → Type 0
    EndsFit [] [] = Unit {0}
    EndsFit [] (x ∷ w) = ⊥
    EndsFit (e ∷ es) [] = ⊥
    EndsFit (None ∷ es) (x ∷ w) = EndsFit es w
    EndsFit (Some e ∷ es) (x ∷ w) =
        ((l : N.Local) × (x.1 ≡ Plain l) × IsEndOf e l) × EndsFit es w

    pub record KeptRun (start : N.Local) (state : HubState) (schedule forkers : List ℕ) (ended : List (Option E)) : Type
        0 where
      pub world : Entries N.Local
      pub legal : IsLegal start state schedule world
      -- of each revision of the world, the number that forked it
      pub forked : ForkersAre (paths_of world) forkers
      pub fits : EndsFit ended world
      -- where no halt was entered, the schedule is complete
      pub complete : state ≡ All → IsOver N start (Listing world) × OthersJoined ended world

    -- the run began somewhere
    abbrev pub IsKeptRun :
        Option N.Local → HubState → List ℕ → List ℕ → List (Option E) → Type 0
    IsKeptRun begun state schedule forkers ended =
        (start : N.Local) × (begun ≡ Some start) × KeptRun start state schedule forkers ended

module _ {L R A E : Type 0} (d : HubMachine L R A E) (ends : E → L → Type 0) where
  -- by the view of all seats together
  pub record ClosedDesk (first : View L) (v : Sight L) (desk : Desk R A E) (count : ℕ) : Type 0 where
    pub items : List Item
    pub slots : List (Status R A E)
    pub lone : List ℕ
    pub start : L
    pub begun : first.start ≡ Some start
    pub sound : Sound d ends start desk.state (flat items) slots (0 ∷ born items)
    pub grouped : AreOfGroup d ends first.group slots
    pub outs : (n : ℕ) → is_out (at_number slots n) ≡ named n v.seat.passes
    pub state : desk.state ≡ v.seat.halt
    pub over : done desk.state slots ≡ true
    pub same : (v.seat.start ≡ first.start) × (v.seat.group ≡ first.group)
    pub behind : AreStartsOf (flat items) v.seat.turns
    pub counted : count ≡ length slots
    pub forked : length slots ≡ length (0 ∷ born items)
    pub roomy : count ≤ desk.journal.limit
    pub entries : pairs desk.journal.entries.items ≡ turn_part 1 items
    pub shadows : Shadows (records_of desk) slots lone
    -- each round of the schedule is once in the lists of the seats
    pub each : (n : ℕ) → times n (children v.rounds) ≡ times n (children (round_part 1 items))
    pub made : (n i k : ℕ) → IsRound v.rounds n i k → IsRound (round_part 1 items) n i k

  abbrev pub Legal : L → HubState → List ℕ → Entries L → Type 0
  Legal start state schedule world = IsLegal (numbered d) start state schedule world

  abbrev pub AreKeptOf : List ℕ → List (Kept R A) → Type 0
  AreKeptOf group [] = Unit {0}
  AreKeptOf group (left.Run r ∷ kept) = (d.runner_group r ≡ group) × AreKeptOf group kept
  AreKeptOf group (left.Join a ∷ kept) = (d.joiner_group a ≡ group) × AreKeptOf group kept

  pub record ClosedHub
      (start : L) (group : List ℕ) (state : HubState) (schedule forkers : List ℕ) (ended : List (Option E))
      (kept : List (Kept R A)) (taken : ℕ → ℕ) : Type 0 where
    pub world : Entries L
    pub legal : Legal start state schedule world
    -- of each revision of the world, the number that forked it
    pub forked : ForkersAre (paths_of world) forkers
    -- where no halt was entered, the schedule is complete, and the ends are those of the revisions without the mark
    pub complete :
        state ≡ All
        → IsOver (numbered d) start (Listing world) × EndsAre (numbered d) (values d ends) ended world × (kept ≡ [])
    -- what is left of each revision: its end, or itself, or a seat has it
    pub slots : List (Status R A E)
    pub fits : AllFit (numbered d) (values d ends) slots world
    pub taken_are : (n : ℕ) → is_out (at_number slots n) ≡ taken n
    pub ends_are : ended ≡ map end_of slots
    pub kept_are : kept ≡ kept_of slots
    pub grouped : AreKeptOf group kept

  -- the hub began somewhere, and this is what it leaves
  abbrev pub IsClosed :
      View L → HubState → List ℕ → List ℕ → List (Option E) → List (Kept R A) → (ℕ → ℕ) → Type 0
  IsClosed first state schedule forkers ended kept taken =
      (start : L) × (first.start ≡ Some start)
      × ClosedHub start first.group state schedule forkers ended kept taken

-- two machines whose states step, fork and join alike, whatever stands for the states
abbrev pub IsSameMachine :
    {L R A E Q B D : Type 0} → HubMachine L R A E → HubMachine L Q B D → Type 0
IsSameMachine d e = (e.next ≡ d.next) × (e.forks ≡ d.forks) × (e.join ≡ d.join)

abbrev pub HaveSameEnds : {L E : Type 0} → (E → L → Type 0) → (E → L → Type 0) → Type 0
HaveSameEnds {L = L} {E = E} ends other = (e : E) (l : L) → ends e l ↔ other e l
