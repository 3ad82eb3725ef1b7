-- What a hub keeps of each revision, and how it is tied to the replay of its schedule.
--   Values        the values that stand for local states
--   Fits, AllFit  a status is right of a revision, and all are of a world
--   Tied          the schedule is legal, and what the hub keeps is its replay
--   Forks, Joins, EndsLeg, WasTrapped   what is handed in is the event of a revision's leg
--   Meets         a joiner and the end of the revision that it joins, in the world of a schedule
--   EndsAre       in a world in which all have ended: the ends of those without the mark
use Rattle.std.specs.Prelude.{Option, Some, None, ◌≡◌, ℕ, List, [], ◌∷◌}
use Rattle.revision_machine.specs.Machine.{Entry, Plain, Joined}
use Rattle.rev_num.specs.Path.{Path}
use Rattle.revision_machine.specs.Numbered.{Bears, Goes, Wants, Stops, Numbered, Entries, Listing, at_number, paths_of}
use Rattle.hub_core.specs.declared.status.Status.{Status}
use Rattle.hub_core.specs.declared.status.Status.TheVariants.{Ready, Out, Waiting, Over, Gone}
use Rattle.hub_core.specs.Replay.{replay, state_after}
use Rattle.hub_core.specs.Forkers.{ForkersAre}

-- the values that stand for local states: a runner before its leg, one that stands at its join, and an end
pub record Values (N : Numbered) : Type 1 where
  pub Runner : Type 0
  pub AtJoin : Type 0
  pub End : Type 0
  pub runs : Runner → N.Local
  -- the number that it joins, and the state after it joined a revision of this end
  pub on : AtJoin → ℕ
  pub joined : AtJoin → End → N.Local
  pub ends : End → N.Local → Type 0

-- its end, where that was handed in and nobody joined it
abbrev pub end_of : {R A E : Type 0} → Status R A E → Option E
end_of (Ready r) = None
end_of Out = None
end_of (Waiting a) = None
end_of (Over e) = Some e
end_of Gone = None

module _ (N : Numbered) (V : Values N) where
  abbrev pub Statuses : Type 0
  Statuses = List (Status V.Runner V.AtJoin V.End)

  -- it stands at the join to which the leg of this state comes
  abbrev pub Stands : V.AtJoin → N.Local → Type 0
  Stands at l =
      (N.next l ≡ Wants (V.on at))
      × ((e : V.End) (lq : N.Local) → V.ends e lq → V.joined at e ≡ N.join l (V.on at) lq)

  -- the end of a state in which its revision has ended
  abbrev pub IsEnd : V.End → N.Local → Type 0
  IsEnd e l = (N.next l ≡ Stops) × V.ends e l

  -- the status is right of a revision of the world
  abbrev pub Fits : Status V.Runner V.AtJoin V.End → Entry N.Local → Type 0
  Fits (Ready r) e = e ≡ Plain (V.runs r)
  Fits Out e = (l : N.Local) × (e ≡ Plain l)
  Fits (Waiting at) e = (l : N.Local) × (e ≡ Plain l) × Stands at l
  Fits (Over end) e = (l : N.Local) × (e ≡ Plain l) × IsEnd end l
  Fits Gone e = (l : N.Local) × (e ≡ Joined l)

  abbrev pub AllFit : Statuses → Entries N.Local → Type 0
  AllFit [] [] = Unit {0}
  AllFit [] (x ∷ w) = ⊥
  AllFit (s ∷ hub) [] = ⊥
  AllFit (s ∷ hub) (x ∷ w) = Fits s x.1 × AllFit hub w

  -- the schedule is legal, and what the hub keeps is its replay
  pub record Tied (main : N.Local) (schedule : List ℕ) (hub : Statuses) (forkers : List ℕ)
      : Type 0 where
    pub world : Entries N.Local
    pub replays : replay N main schedule ≡ Some (Listing world)
    pub fits : AllFit hub world
    pub forked : ForkersAre (paths_of world) forkers

  -- a seat's pass: what it hands in is the event of the leg of the state that the pass has
  pub record Forks (main : N.Local) (at : List ℕ) (k : ℕ) (c : V.Runner) : Type 0 where
    pub state : N.Local
    pub forker : ℕ → N.Local
    pub stands : state_after N main at k ≡ Some state
    pub bears : N.next state ≡ Bears forker (V.runs c)

  pub record Joins (main : N.Local) (at : List ℕ) (k : ℕ) (a : V.AtJoin) : Type 0 where
    pub state : N.Local
    pub stands : state_after N main at k ≡ Some state
    pub comes : Stands a state

  -- the end of its leg, which is an entry
  pub record EndsLeg (main : N.Local) (at : List ℕ) (k : ℕ) (e : V.End) : Type 0 where
    pub state : N.Local
    pub last : N.Local
    pub stands : state_after N main at k ≡ Some state
    pub goes : N.next state ≡ Goes last
    pub is_end : IsEnd e last

  -- its join trapped it, and this is none
  pub record WasTrapped (main : N.Local) (at : List ℕ) (k : ℕ) (e : V.End) : Type 0 where
    pub state : N.Local
    pub stands : state_after N main at k ≡ Some state
    pub is_end : IsEnd e state

  -- in the world of this schedule the revision k stands before its join, and the one that it joins has this end
  pub record Meets (main : N.Local) (at : List ℕ) (k : ℕ) (a : V.AtJoin) (e : V.End) : Type 0 where
    pub world : Entries N.Local
    pub replays : replay N main at ≡ Some (Listing world)
    pub path : Path
    pub state : N.Local
    pub joiner : at_number world k ≡ Some (path, Plain state)
    pub stands : Stands a state
    pub other : Path
    pub last : N.Local
    pub joinee : at_number world (V.on a) ≡ Some (other, Plain last)
    pub is_end : IsEnd e last

  -- each revision has ended
  abbrev pub all_ended : Statuses → Type 0
  all_ended [] = Unit {0}
  all_ended (Ready r ∷ hub) = ⊥
  all_ended (Out ∷ hub) = ⊥
  all_ended (Waiting a ∷ hub) = ⊥
  all_ended (Over e ∷ hub) = all_ended hub
  all_ended (Gone ∷ hub) = all_ended hub

  -- the ends of the revisions that were not joined
  abbrev pub EndsAre : List (Option V.End) → Entries N.Local → Type 0
  EndsAre [] [] = Unit {0}
  EndsAre [] (x ∷ w) = ⊥
  EndsAre (e ∷ es) [] = ⊥
  EndsAre (None ∷ es) (x ∷ w) = ((l : N.Local) × (x.1 ≡ Joined l)) × EndsAre es w
  EndsAre (Some e ∷ es) (x ∷ w) =
      ((l : N.Local) × (x.1 ≡ Plain l) × IsEnd e l) × EndsAre es w
