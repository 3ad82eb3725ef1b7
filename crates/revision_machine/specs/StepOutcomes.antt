-- What the answers of a step tell of the state.
use Rattle.std.specs.Prelude.{◌≡◌, ◌≢◌, ◌⊎◌, ◌≤◌, ℕ, List, Option, Some, None}
use Rattle.rev_num.specs.Path.{Path}
use Rattle.revision_machine.specs.Machine.{Joins, Ended, Machine, Entry, Plain, Joined, Global, Twice, Live, Revisions, start, step, Complete, Reached}
use Rattle.revision_machine.specs.Conditions.{HoldsNone}
use Rattle.revision_machine.specs.declared.one_step.StepOutcome.{StepOutcome}
use Rattle.revision_machine.specs.declared.one_step.StepOutcome.TheVariants as outcome

module _ (M : Machine) where
  -- r, which is unmarked, joins q, which is unmarked and has not ended
  pub record WaitsOn (revs : Revisions M) (r q : Path) : Type 0 where
    pub state : M.Local
    pub stands : revs r ≡ Some (Plain state)
    pub joins : M.next r state ≡ Joins q
    pub target : M.Local
    pub target_stands : revs q ≡ Some (Plain target)
    pub goes_on : M.next q target ≢ Ended

  abbrev pub Waits : Global M.Local → Path → Path → Type 0
  Waits Twice r q = ⊥
  Waits (Live revs) r q = WaitsOn revs r q

  -- it is marked Joined, or nothing more is to come
  abbrev pub IsEndedEntry : Path → Option (Entry M.Local) → Type 0
  IsEndedEntry r None = ⊥
  IsEndedEntry r (Some (Joined l)) = Unit {0}
  IsEndedEntry r (Some (Plain l)) = M.next r l ≡ Ended

  abbrev pub HasEnded : Global M.Local → Path → Type 0
  HasEnded Twice r = ⊥
  HasEnded (Live revs) r = IsEndedEntry r (revs r)

  -- the state is not Twice and has no such revision
  abbrev pub IsMissing : Global M.Local → Path → Type 0
  IsMissing Twice r = ⊥
  IsMissing (Live revs) r = revs r ≡ None

  -- from g, r steps to a state that is not Twice
  pub record Moves (g : Global M.Local) (r : Path) (h : Global M.Local) : Type 0 where
    pub steps : step M g r ≡ Some h
    pub live : h ≢ Twice

  -- what an answer tells of the state before and after
  abbrev pub Tells : StepOutcome → Path → Global M.Local → Global M.Local → Type 0
  Tells outcome.Moved r g h = Moves g r h
  Tells (outcome.Waits q) r g h = Waits g r q × (h ≡ g)
  Tells outcome.Ended r g h = HasEnded g r × (h ≡ g)
  Tells outcome.Twice r g h = ((g ≡ Twice) ⊎ (step M g r ≡ Some Twice)) × (h ≡ Twice)
  Tells outcome.NoSuch r g h = IsMissing g r × (h ≡ g)

  -- the answer tells this, and it comes wherever this holds
  pub record IsOutcome (answer : StepOutcome) (r : Path) (g h : Global M.Local) : Type 0 where
    pub tells : Tells answer r g h
    pub moved : (k : Global M.Local) → Moves g r k → answer ≡ outcome.Moved
    pub waits : (q : Path) → Waits g r q → answer ≡ outcome.Waits q
    pub ended : HasEnded g r → answer ≡ outcome.Ended
    pub twice : h ≡ Twice → answer ≡ outcome.Twice
    pub no_such : IsMissing g r → answer ≡ outcome.NoSuch

  -- a run leads to the state from a first revision that holds no handle, with an amount that is within the limit
  pub record IsReached (holds : M.Local → Path → Type 0) (amount : M.Local → ℕ) (limit : ℕ) (g : Global M.Local) : Type
      0 where
    pub main : M.Local
    pub none : HoldsNone M holds main
    pub room : amount main ≤ limit
    pub reached : Reached M main g

  -- the end of every complete run
  pub record IsEnd (main : M.Local) (g : Global M.Local) : Type 0 where
    pub by : List Path
    pub complete : Complete M (start M main) by g
    pub only : (rs : List Path) (h : Global M.Local) → Complete M (start M main) rs h → h ≡ g
