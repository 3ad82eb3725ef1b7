-- A machine of revisions: global states and their steps, whatever a local state is.
use Rattle.std.specs.Prelude.{Option, Some, None, ◌≡◌, ℕ, List, [], ◌∷◌}
use Rattle.rev_num.specs.Path.{Path, child}
use Rattle.revision_machine.specs.PathMap.{PathMap, with_at}

-- what a revision does next
pub data Event (L : Type 0) : Type 0 where
  -- a local step, to this state
  Moves : L → Event L
  -- a fork: what the forker and the child become
  Forks : L → L → Event L
  -- a join of the revision at this path
  Joins : Path → Event L
  -- nothing more: done or trapped
  Ended : Event L

pub record Machine : Type 1 where
  pub Local : Type 0
  -- of the revision at this path
  pub next : Path → Local → Event Local
  -- how many forks it has made, which is the number of its next child
  pub forks : Local → ℕ
  -- the joiner, with its path, after it joined the ended revision at that path
  pub join : Path → Local → Path → Local → Local

-- a revision of a state: its local state, plain or under the mark Joined
pub data Entry (L : Type 0) : Type 0 where
  Plain : L → Entry L
  Joined : L → Entry L

-- the revisions by their paths, or Twice, where one was joined a second time
pub data Global (L : Type 0) : Type 0 where
  Twice : Global L
  Live : PathMap (Entry L) → Global L

abbrev pub nowhere : {L : Type 0} → PathMap (Entry L)
nowhere p = None

module _ (M : Machine) where
  abbrev pub Revisions : Type 0
  Revisions = PathMap (Entry M.Local)

  -- `main` alone, at its first local state
  abbrev pub start : M.Local → Global M.Local
  start main = Live (with_at nowhere [] (Plain main))

  -- r, at l, comes to join q, at lq, of which this is the next event
  abbrev pub join_ended : Revisions → Path → M.Local → Path → M.Local → Event M.Local → Option (Global M.Local)
  join_ended revs r l q lq Ended = Some (Live (with_at (with_at revs r (Plain (M.join r l q lq))) q (Joined lq)))
  join_ended revs r l q lq (Moves _) = None
  join_ended revs r l q lq (Forks _ _) = None
  join_ended revs r l q lq (Joins _) = None

  -- r, at l, comes to join q, whose entry this is
  abbrev pub join_at : Revisions → Path → M.Local → Path → Option (Entry M.Local) → Option (Global M.Local)
  join_at revs r l q None = None
  join_at revs r l q (Some (Joined lq)) = Some Twice
  join_at revs r l q (Some (Plain lq)) = join_ended revs r l q lq (M.next q lq)

  -- r, at l, does this
  abbrev pub happens : Revisions → Path → M.Local → Event M.Local → Option (Global M.Local)
  happens revs r l (Moves l') = Some (Live (with_at revs r (Plain l')))
  happens revs r l (Forks l' c) = Some (Live (with_at (with_at revs r (Plain l')) (child r (M.forks l)) (Plain c)))
  happens revs r l (Joins q) = join_at revs r l q (revs q)
  happens revs r l Ended = None

  abbrev pub step_at : Revisions → Path → Option (Entry M.Local) → Option (Global M.Local)
  step_at revs r None = None
  step_at revs r (Some (Joined l)) = None
  step_at revs r (Some (Plain l)) = happens revs r l (M.next r l)

  -- the state after a step of r, where r can step
  abbrev pub step : Global M.Local → Path → Option (Global M.Local)
  step Twice r = None
  step (Live revs) r = step_at revs r (revs r)

  -- g goes to h by steps of these revisions
  abbrev pub Runs : Global M.Local → List Path → Global M.Local → Type 0
  Runs g [] h = g ≡ h
  Runs g (r ∷ rs) h = (m : Global M.Local) × (step g r ≡ Some m) × Runs m rs h

  -- no revision can step
  abbrev pub Final : Global M.Local → Type 0
  Final g = (r : Path) → step g r ≡ None

  -- a run that nothing can go on
  pub record Complete (g : Global M.Local) (rs : List Path) (h : Global M.Local) : Type 0 where
    pub runs : Runs g rs h
    pub final : Final h

  -- a run from the start of this `main` leads to g
  pub record Reached (main : M.Local) (g : Global M.Local) : Type 0 where
    pub by : List Path
    pub runs : Runs (start main) by g
