-- Runs with the children that they fork.
use Rattle.std.specs.Prelude.{Option, Some, None, ◌≡◌, List, [], ◌∷◌, ◌++◌}
use Rattle.rev_num.specs.Path.{Path, child}
use Rattle.revision_machine.specs.Machine.{Event, Moves, Forks, Joins, Ended, Machine, Entry, Plain, Joined, Global, Twice, Live, step}
use Rattle.revision_machine.specs.Laws.{IsIn}

module _ (M : Machine) where
  abbrev pub offspring_of : Path → M.Local → Event M.Local → List Path
  offspring_of r l (Moves _) = []
  offspring_of r l (Forks _ _) = child r (M.forks l) ∷ []
  offspring_of r l (Joins _) = []
  offspring_of r l Ended = []

  abbrev pub offspring_at : Path → Option (Entry M.Local) → List Path
  offspring_at r None = []
  offspring_at r (Some (Joined l)) = []
  offspring_at r (Some (Plain l)) = offspring_of r l (M.next r l)

  -- the child that a step of r forks, if it forks one
  abbrev pub offspring : Global M.Local → Path → List Path
  offspring Twice r = []
  offspring (Live revs) r = offspring_at r (revs r)

  -- a run, and the children that it forks, in their order
  abbrev pub RunsBearing : Global M.Local → List Path → Global M.Local → List Path → Type 0
  RunsBearing g [] h cs = (g ≡ h) × (cs ≡ [])
  RunsBearing g (r ∷ rs) h cs = (m : Global M.Local) × (step M g r ≡ Some m) × (ds : List Path)
      × (cs ≡ offspring g r ++ ds) × RunsBearing m rs h ds

abbrev pub AllKnown : (Path → Type 0) → List Path → Type 0
AllKnown Known cs = (c : Path) → IsIn c cs → Known c
