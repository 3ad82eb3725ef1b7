-- A run of calls of a procedure that does nothing takes two steps for each unit of fuel, and one for the end.
use Rattle.std.proofs.Common.{◌≡◌, ℕ, zero, suc, ◌+◌, ◌*◌, List, [], ◌∷◌, length, replicate, Some, None, refl, ap, arith}
use Rattle.rev_num.specs.Path.{Path}
use Rattle.revision_machine.specs.PathMap.{with_at}
use Rattle.revision_machine.specs.Machine.{Plain, Global, Live, nowhere, Revisions, step_at, Runs}
use Rattle.revision_calculus.specs.Program.{Setting}
use Rattle.revision_calculus.specs.State.{Frame, running, Local}
use Rattle.revision_calculus.specs.Calculus.{calculus}
use Rattle.revision_calculus.specs.Step.{finish}
use Rattle.revision_calculus.specs.Words.{block, call}
use Rattle.revision_calculus.specs.Examples.{usual}
use Rattle.revision_calculus.specs.Tight.{calls_often, Takes}

module _ (n : ℕ) where
  abbrev s : Setting
  s = usual (calls_often n)

  -- before so many calls, with as much fuel
  abbrev ahead : ℕ → Frame
  ahead k = record { locals = []; rest = block (replicate k (call 1 "p" [])); left = None }

  abbrev before : ℕ → ℕ → Local
  before k line = record {
    locations = [];
    frames = ahead k ∷ [];
    fuel = k;
    forks = 0;
    noted = [];
    text = [];
    line = line;
    phase = running;
  }

  -- in the call
  abbrev within : ℕ → Local
  within k = record {
    locations = [];
    frames = record { locals = []; rest = block []; left = None } ∷ ahead k ∷ [];
    fuel = k;
    forks = 0;
    noted = [];
    text = [];
    line = 1;
    phase = running;
  }

  Walk : Revisions (calculus s) → ℕ → Type 0
  Walk revs k = (rs : List Path) × (g : Global Local) × Runs (calculus s) (Live revs) rs g × (length rs ≡ 2 * k + 1)

  walk : (k line : ℕ) (revs : Revisions (calculus s)) → revs [] ≡ Some (Plain (before k line)) → Walk revs k
  unfolding Walk
  walk zero line revs here = (
    [] ∷ [],
    Live (with_at revs [] (Plain (finish (before 0 line)))),
    (Live (with_at revs [] (Plain (finish (before 0 line)))), ap (step_at (calculus s) revs []) here, refl),
    refl,
  )
  walk (suc k) line revs here =
      let one : Revisions (calculus s) = with_at revs [] (Plain (within k)) in
      let two : Revisions (calculus s) = with_at one [] (Plain (before k 1)) in
      let rest = walk k 1 two refl in
      let long = rest.3 in (
        [] ∷ [] ∷ rest.0,
        rest.1,
        (Live one, ap (step_at (calculus s) revs []) here, (Live two, refl, rest.2)),
        omega arith,
      )

pub takes : Takes (λ fuel. 2 * fuel + 1)
unfolding Walk
takes fuel = walk fuel fuel 0 (with_at nowhere [] (Plain (before fuel fuel 0))) refl
