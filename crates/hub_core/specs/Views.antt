-- What a seat knows, and how its steps change that.
--   ended_said, ready_said, all_said   of what it found of the revisions
--   commits, hands_in, ends_in, draws, stops   what the seat with the turn does
--   rests                              it gives the turn back
--   sees                               it says that it found something else
--   most, part, witness, both          seats are cut in two and joined
use Rattle.std.specs.Prelude.{ℕ, ◌+◌, ◌-◌, Bool, true, false, List, [], ◌∷◌, ◌++◌, cond, ◌==◌, Option, Some, None}
use Rattle.revision_machine.specs.Numbered.{at_number}
use Rattle.hub_core.specs.declared.state.HubState.{HubState}
use Rattle.hub_core.specs.declared.state.HubState.TheVariants.{All, Twice, NoMemory}
use Rattle.hub_core.specs.declared.view.Said.{Said}
use Rattle.hub_core.specs.declared.view.Said.TheVariants as mark
use Rattle.hub_core.specs.declared.view.View.{View}
use Rattle.hub_core.specs.Passes.{Pass, left, without}

-- its end was handed in
abbrev pub ended_said : Option Said → Bool
ended_said None = false
ended_said (Some mark.Ready) = false
ended_said (Some mark.Out) = false
ended_said (Some (mark.Waits on)) = false
ended_said (Some mark.Done) = true
ended_said (Some mark.Trapped) = true
ended_said (Some mark.Joined) = true

-- no seat has it, and it is no joiner whose joinee has not ended
abbrev pub ready_said : List Said → Option Said → Bool
ready_said said None = false
ready_said said (Some mark.Ready) = true
ready_said said (Some mark.Out) = false
ready_said said (Some (mark.Waits on)) = ended_said (at_number said on)
ready_said said (Some mark.Done) = false
ready_said said (Some mark.Trapped) = false
ready_said said (Some mark.Joined) = false

-- the end of each was handed in
abbrev pub all_said : List Said → Bool
all_said [] = true
all_said (mark.Ready ∷ said) = false
all_said (mark.Out ∷ said) = false
all_said (mark.Waits on ∷ said) = false
all_said (mark.Done ∷ said) = all_said said
all_said (mark.Trapped ∷ said) = all_said said
all_said (mark.Joined ∷ said) = all_said said

-- want of memory, where nothing was entered before
abbrev pub or_no_memory : HubState → HubState
or_no_memory All = NoMemory
or_no_memory Twice = Twice
or_no_memory NoMemory = NoMemory

abbrev pub halt_count : HubState → ℕ
halt_count All = 0
halt_count Twice = 1
halt_count NoMemory = 1

abbrev pub either_halt : HubState → HubState → HubState
either_halt All h = h
either_halt Twice h = Twice
either_halt NoMemory h = NoMemory

abbrev pub either_saw : ℕ → ℕ → ℕ
either_saw a b = cond (a == 1) 1 b

module _ {L : Type 0} where
  abbrev pub view :
      ℕ → Option L → List ℕ → ℕ → List ℕ → List ℕ → List Pass → ℕ → HubState
      → List Said → HubState → List ℕ → List (List ℕ) → View L
  view parts start group has log out passes saw halt said entered found turns = record {
    parts = parts;
    start = start;
    group = group;
    has = has;
    log = log;
    out = out;
    passes = passes;
    saw = saw;
    halt = halt;
    said = said;
    entered = entered;
    found = found;
    turns = turns;
  }

  abbrev pub blank : View L
  blank = view 0 None [] 0 [] [] [] 0 All [] All [] []

  abbrev pub opens : ℕ → Option L → List ℕ → View L
  opens parts start group = view parts start group 0 [] [] [] 0 All [] All [] []

  abbrev pub commits : ℕ → View L → View L
  commits k v =
      view v.parts v.start v.group v.has (v.log ++ k ∷ []) v.out ((k, v.log ++ k ∷ []) ∷ left k v.passes)
      v.saw v.halt v.said v.entered v.found v.turns

  abbrev pub hands_in : ℕ → View L → View L
  hands_in k v =
      view v.parts v.start v.group v.has v.log (without k v.out) (left k v.passes)
      v.saw v.halt v.said v.entered v.found v.turns

  -- the end of a revision: one entry, and none where its join trapped it
  abbrev pub ends_in : Bool → ℕ → View L → View L
  ends_in true k v = hands_in k v
  ends_in false k v = hands_in k (commits k v)

  abbrev pub draws : ℕ → View L → View L
  draws k v =
      view v.parts v.start v.group v.has v.log (k ∷ v.out) ((k, v.log) ∷ v.passes)
      v.saw v.halt v.said v.entered v.found v.turns

  abbrev pub stops : HubState → View L → View L
  stops h v = view v.parts v.start v.group v.has v.log v.out v.passes 1 h v.said v.entered v.found v.turns

  abbrev pub rests : View L → View L
  rests v =
      view v.parts v.start v.group 0 v.log [] v.passes v.saw v.halt v.said v.entered v.found
      (v.log ∷ v.turns)

  -- the same seat, had it found this of the revisions, and this schedule
  abbrev pub sees : List Said → List ℕ → View L → View L
  sees said found v =
      view v.parts v.start v.group v.has v.log v.out v.passes v.saw v.halt said v.entered found v.turns

  abbrev pub both : View L → View L → View L
  both v w =
      view (v.parts + w.parts) v.start v.group 0 [] [] (v.passes ++ w.passes)
      (either_saw v.saw w.saw) (either_halt v.halt w.halt) [] All [] (v.turns ++ w.turns)

  abbrev pub most : View L → View L
  most v =
      view (v.parts - 1) v.start v.group 0 [] [] v.passes v.saw v.halt v.said v.entered v.found v.turns

  abbrev pub part : View L → View L
  part v = opens 1 v.start v.group

  -- it has the start and no part of the right to close
  abbrev pub witness : View L → View L
  witness v = opens 0 v.start v.group
