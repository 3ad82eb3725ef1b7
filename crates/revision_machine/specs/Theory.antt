-- Machines, worlds by number, and pairs of the two, that keep the conditions of the laws.
use Rattle.std.specs.Prelude.{ℕ, ◌+◌, List, []}
use Rattle.rev_num.specs.Path.{Path}
use Rattle.revision_machine.specs.Machine.{Machine}
use Rattle.revision_machine.specs.Conditions.{Counts, Handles, HoldsNone, Spends, PaysForks}
use Rattle.revision_machine.specs.Laws.{IsIn, HandleLaw, NoBlockedEnd, BoundLaw, CountLaw}
use Rattle.revision_machine.specs.Simulation.{Simulates, StepLaw, RunLaw, UnblockedLaw, CompleteLaw, SameEnd}
use Rattle.revision_machine.specs.Numbered.{Numbered, machine_by, ScheduleBound, WorldCount}
use Rattle.revision_machine.specs.Schedules.{ScheduleAgrees, LegLaw, CompleteScheduleAgrees}

-- a machine, with the handles of a local state, a bound on the steps that it can make with all that it forks, and an
-- amount that pays for forks
pub record Lawful : Type 1 where
  pub machine : Machine
  pub holds : machine.Local → Path → Type 0
  pub weight : machine.Local → ℕ
  pub fuel : machine.Local → ℕ
  pub counts : Counts machine
  pub handles : Handles machine holds
  pub spends : Spends machine 1 weight
  pub pays : PaysForks machine fuel

-- a world by number, with a bound on the legs that a local state can have with all that it forks, and an amount that
-- pays for forks; by any table of paths it keeps the conditions
pub record LawfulWorld : Type 1 where
  pub numbered : Numbered
  pub weight : numbered.Local → ℕ
  pub fuel : numbered.Local → ℕ
  pub counts : (t : List Path) → Counts (machine_by numbered t)
  pub spends : (t : List Path) → Spends (machine_by numbered t) 1 weight
  pub pays : (t : List Path) → PaysForks (machine_by numbered t) fuel

-- a machine by paths that does what a world by number does, by any table that has the paths of the children
pub record Simulation : Type 1 where
  pub paths : Lawful
  pub numbers : LawfulWorld
  pub related : List Path → Path → paths.machine.Local → numbers.numbered.Local → Type 0
  pub simulates : (t : List Path) → Simulates paths.machine (machine_by numbers.numbered t) (related t) (λ p. IsIn p t)

-- first states of both: they are related, and the one by paths holds no handle
pub record AreFirst (s : Simulation) (a : s.paths.machine.Local) (b : s.numbers.numbered.Local) : Type 0 where
  pub none : HoldsNone s.paths.machine s.paths.holds a
  pub related : (t : List Path) → IsIn [] t → s.related t [] a b

-- from every first state that holds no handle
abbrev pub HandleLaws : Lawful → Type 0
HandleLaws l =
    (main : l.machine.Local) → HoldsNone l.machine l.holds main → HandleLaw l.machine main l.holds

abbrev pub UnblockedLaws : Lawful → Type 0
UnblockedLaws l =
    (main : l.machine.Local) → HoldsNone l.machine l.holds main → NoBlockedEnd l.machine main

-- no run has more steps than the weight of the first state
abbrev pub BoundLaws : Lawful → Type 0
BoundLaws l = (main : l.machine.Local) → BoundLaw l.machine main (l.weight main)

-- no reached state has more revisions than 1 and what the first state has to pay for forks
abbrev pub CountLaws : Lawful → Type 0
CountLaws l = (main : l.machine.Local) → CountLaw l.machine main (1 + l.fuel main)

abbrev pub ScheduleBounds : LawfulWorld → Type 0
ScheduleBounds w = (main : w.numbered.Local) → ScheduleBound w.numbered main (w.weight main)

abbrev pub WorldCounts : LawfulWorld → Type 0
WorldCounts w = (main : w.numbered.Local) → WorldCount w.numbered main (1 + w.fuel main)

module _ (s : Simulation) (t : List Path) where
  abbrev InTable : Path → Type 0
  InTable p = IsIn p t

  abbrev pub Steps : Type 0
  Steps = StepLaw s.paths.machine (machine_by s.numbers.numbered t) (s.related t) InTable

  -- from first states, where the table has the path of `main`
  abbrev FromFirst : ((a : s.paths.machine.Local) → s.numbers.numbered.Local → Type 0) → Type 0
  FromFirst Law =
      (a : s.paths.machine.Local) (b : s.numbers.numbered.Local) → AreFirst s a b → IsIn [] t
      → Law a b

  abbrev pub Runs : Type 0
  Runs = FromFirst (RunLaw s.paths.machine (machine_by s.numbers.numbered t) (s.related t) InTable)

  abbrev pub Unblocked : Type 0
  Unblocked =
      FromFirst (UnblockedLaw s.paths.machine (machine_by s.numbers.numbered t) (s.related t) InTable)

  abbrev pub CompleteRuns : Type 0
  CompleteRuns =
      FromFirst (CompleteLaw s.paths.machine (machine_by s.numbers.numbered t) (s.related t) InTable)

  abbrev pub Ends : Type 0
  Ends = FromFirst (SameEnd s.paths.machine (machine_by s.numbers.numbered t) (s.related t) InTable)

module _ (s : Simulation) where
  abbrev FromStart : ((a : s.paths.machine.Local) → s.numbers.numbered.Local → Type 0) → Type 0
  FromStart Law =
      (a : s.paths.machine.Local) (b : s.numbers.numbered.Local) → AreFirst s a b → Law a b

  abbrev pub Schedules : Type 0
  Schedules = FromStart (ScheduleAgrees s.paths.machine s.numbers.numbered s.related)

  abbrev pub Legs : Type 0
  Legs = FromStart (LegLaw s.paths.machine s.numbers.numbered s.related)

  abbrev pub CompleteSchedules : Type 0
  CompleteSchedules =
      FromStart (CompleteScheduleAgrees s.paths.machine s.numbers.numbered s.related)
