-- The rules of a language: a machine over its local states, with their handles and a bound on their steps. And how the
-- runner's values show the events of that machine.
use Rattle.std.specs.Prelude.{◌≡◌, ◌+◌, ◌≤◌, ℕ}
use Rattle.rev_num.specs.Path.{Path}
use Rattle.revision_machine.specs.Machine.{Event, Machine, Global, start}
use Rattle.revision_machine.specs.Machine as machine
use Rattle.revision_machine.specs.Conditions.{Counts, Handles, Spends, HoldsNone}
use Rattle.revision_machine.specs.StepOutcomes.{IsReached}
use Rattle.revision_machine.specs.declared.language.Next.{Next}
use Rattle.revision_machine.specs.declared.language.Next.TheVariants.{Moved, Forked, Joins, Ended}

-- over these local states
pub record Rules (L : Type 0) : Type 1 where
  -- what the revision at this path does next
  pub next : Path → L → Event L
  -- how many forks it has made
  pub forks : L → ℕ
  -- the joiner, with its path, after it joined the ended revision at that path
  pub join : Path → L → Path → L → L
  -- it has a handle of the revision at this path
  pub holds : L → Path → Type 0
  -- a bound on the steps that it can make, with all that it forks
  pub weight : L → ℕ
  -- the forks and the weight of all revisions are at most this
  pub limit : ℕ

module _ {L : Type 0} (rules : Rules L) where
  abbrev pub machine_of : Machine
  machine_of = record { Local = L; next = rules.next; forks = rules.forks; join = rules.join }

  -- the conditions of the laws
  pub record Keeps : Type 0 where
    pub counts : Counts machine_of
    pub handles : Handles machine_of rules.holds
    pub spends : Spends machine_of 1 rules.weight

  -- the forks that it has made and its weight
  abbrev pub extent : L → ℕ
  extent l = rules.forks l + rules.weight l

  abbrev pub IsRoomy : L → Type 0
  IsRoomy l = extent l ≤ rules.limit

  abbrev pub AreRoomy : L → L → Type 0
  AreRoomy l m = extent l + extent m ≤ rules.limit

  -- a first state: it holds no handle, and is within the limit
  pub record IsFirst (main : L) : Type 0 where
    pub none : HoldsNone machine_of rules.holds main
    pub room : IsRoomy main

  abbrev pub start_by : L → Global L
  start_by = start machine_of

  -- a run leads to the state from a first one
  abbrev pub IsWithin : Global L → Type 0
  IsWithin = IsReached machine_of rules.holds (λ l. rules.forks l + rules.weight l) rules.limit

-- the event that the answer tells, with the state after it
abbrev pub event_of : {L : Type 0} → Next L → L → Event L
event_of Moved l = machine.Moves l
event_of (Forked c) l = machine.Forks l c
event_of (Joins q) l = machine.Joins q
event_of Ended l = machine.Ended

-- what wants a join or has ended stays as it was
abbrev pub IsStill : {L : Type 0} → Next L → L → L → Type 0
IsStill Moved old new = Unit {0}
IsStill (Forked c) old new = Unit {0}
IsStill (Joins q) old new = new ≡ old
IsStill Ended old new = new ≡ old

-- the answer tells what the revision at this path does next
abbrev pub IsNext : {L : Type 0} → Rules L → Path → L → Next L → L → Type 0
IsNext rules p old n new = event_of n new ≡ rules.next p old
