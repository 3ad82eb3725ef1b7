-- What each step keeps of a local state, and what follows of an outcome.
--
-- `location_count` is how many locations a run has; `IsShaped` is kept: snapshot and writes over all of them, bounds on
-- frames, and in a trap of a merge the number of one of them. `PlaceLaw` says the last of the outcome of each state.
use Rattle.std.specs.Prelude.{◌≡◌, ℕ, ◌≤◌, ◌<◌, length, Some}
use Rattle.rev_num.specs.Path.{Path}
use Rattle.rev_num.specs.declared.outcome.Cause.{Cause}
use Rattle.rev_num.specs.declared.outcome.Cause.TheVariants as cause
use Rattle.rev_num.specs.declared.outcome.Outcome.{Outcome}
use Rattle.rev_num.specs.declared.outcome.Outcome.TheVariants as o
use Rattle.revision_machine.specs.Machine.{Global, Reached}
use Rattle.typed_programs.specs.Limits.{cells}
use Rattle.revision_calculus.specs.Program.{Setting}
use Rattle.revision_calculus.specs.State.{Phase, running, joining, done, trapped, Local}
use Rattle.revision_calculus.specs.Step.{most_frames}
use Rattle.revision_calculus.specs.Calculus.{main, calculus}
use Rattle.revision_calculus.specs.Outcome.{outcome}

-- how many locations a run has
abbrev pub location_count : Setting → ℕ
location_count s = cells s.program.declarations

-- it has not ended
abbrev pub IsAtWork : Phase → Type 0
IsAtWork running = Unit {0}
IsAtWork (joining q left) = Unit {0}
IsAtWork done = ⊥
IsAtWork (trapped t) = ⊥

-- the location of a merge that faulted is one of this many
abbrev pub IsFaultBelow : ℕ → Cause → Type 0
IsFaultBelow count (cause.Merge n f) = n < count
IsFaultBelow count cause.Overflow = Unit {0}
IsFaultBelow count cause.ZeroDivisor = Unit {0}
IsFaultBelow count cause.Index = Unit {0}
IsFaultBelow count cause.Assert = Unit {0}
IsFaultBelow count cause.JoinNone = Unit {0}
IsFaultBelow count cause.CallDepth = Unit {0}
IsFaultBelow count cause.Spent = Unit {0}

-- and so it is where a revision trapped, whether the trap is its own or a joinee's
abbrev pub IsTrapBelow : ℕ → Phase → Type 0
IsTrapBelow count running = Unit {0}
IsTrapBelow count (joining q left) = Unit {0}
IsTrapBelow count done = Unit {0}
IsTrapBelow count (trapped t) = IsFaultBelow count t.cause

-- The snapshot and the writes are over all locations; there are at most 1,000 frames, and one at least until the end;
-- a merge that faulted is that of a location.
pub record IsShaped (s : Setting) (r : Path) (l : Local) : Type 0 where
  pub locations : length l.locations ≡ location_count s
  pub most : length l.frames ≤ most_frames
  pub some : IsAtWork l.phase → 1 ≤ length l.frames
  pub trap : IsTrapBelow (location_count s) l.phase

-- in an outcome, the location of a merge that faulted is that of a value of `main`
abbrev pub IsPlaced : Outcome → Type 0
IsPlaced (o.Done text values) = Unit {0}
IsPlaced (o.Trapped text values t) = IsFaultBelow (length values) t.cause
IsPlaced o.Twice = Unit {0}

abbrev pub PlaceLaw : Setting → ℕ → Type 0
PlaceLaw s fuel =
    (g : Global Local) → Reached (calculus s) (main s fuel) g → (x : Outcome) → outcome s g ≡ Some x → IsPlaced x
