-- Worlds by number whose local states agree with those of a machine by paths.
use Rattle.std.specs.Prelude.{Some, ◌≡◌, List, [], ◌∷◌, ◌++◌, ℕ, replicate}
use Rattle.rev_num.specs.Path.{Path}
use Rattle.revision_machine.specs.Machine.{Machine, Global, start, Runs, Final}
use Rattle.revision_machine.specs.Laws.{AllEnded, IsDistinct}
use Rattle.revision_machine.specs.Simulation.{Agrees}
use Rattle.revision_machine.specs.Numbered.{Numbered, World, at_number, leg, machine_by, shows, begin, Replays, HasPaths, IsOver, AllStop}

module _ (A : Machine) (N : Numbered) (R : List Path → Path → A.Local → N.Local → Type 0) (a : A.Local)
    (main : N.Local) where
  -- by the table of the world's own paths, each once, the world agrees with a state that a run of A reaches; Both does
  -- by some table
  pub record Matches (w : World N.Local) : Type 0 where
    pub table : List Path
    pub own : HasPaths N main w table
    pub distinct : IsDistinct table
    pub by : List Path
    pub state : Global A.Local
    pub runs : Runs A (start A a) by state
    pub agrees : Agrees A (machine_by N table) (R table) state (shows w)

  -- the world after a legal schedule
  abbrev pub ScheduleAgrees : Type 0
  ScheduleAgrees = (ns : List ℕ) (w : World N.Local) → Replays N (begin N main) ns w → Matches w

  -- by this table, each leg from v to w is some number of steps of the revision with its number's
  -- path, from g to h, and
  -- of no other; and after each the world agrees with the state
  abbrev pub LegsAgree : List Path → Global A.Local → World N.Local → List ℕ → Global A.Local → World N.Local → Type 0
  LegsAgree t g v [] h w = (g ≡ h) × (v ≡ w)
  LegsAgree t g v (n ∷ ns) h w =
      (u : World N.Local) × (leg N v n ≡ Some u) × (path : Path) × (at_number t n ≡ Some path)
      × (times : ℕ) × (i : Global A.Local) × Runs A g (replicate times path) i
      × Agrees A (machine_by N t) (R t) i (shows u) × LegsAgree t i u ns h w

  -- the legs of a schedule from the start to w
  pub record MatchesLegs (ns : List ℕ) (w : World N.Local) : Type 0 where
    pub paths : List Path
    pub own : HasPaths N main w paths
    pub distinct : IsDistinct paths
    -- by any table that begins with the paths
    pub legs : (t rest : List Path) → IsDistinct t → t ≡ paths ++ rest → (h : Global A.Local)
        × LegsAgree t (start A a) (begin N main) ns h w

  -- each leg of a legal schedule is some number of steps of the revision with its number's path
  abbrev pub LegLaw : Type 0
  LegLaw = (ns : List ℕ) (w : World N.Local) → Replays N (begin N main) ns w → MatchesLegs ns w

  pub record MatchesEnd (w : World N.Local) : Type 0 where
    pub matches : Matches w
    pub final : Final A matches.state
    pub ended : AllEnded A matches.state
    pub stopped : AllStop N main w

  -- the world after a complete schedule agrees with the end of a complete run, and, if it is not Both, every revision
  -- has ended in both
  abbrev pub CompleteScheduleAgrees : Type 0
  CompleteScheduleAgrees =
      (ns : List ℕ) (w : World N.Local) → Replays N (begin N main) ns w → IsOver N main w
      → MatchesEnd w
