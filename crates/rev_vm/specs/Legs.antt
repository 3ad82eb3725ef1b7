-- Legs.
--   HasComeTo   a revision whose leg from this state has ended like this
--   IsNoted     a revision whose list has this join now
--   trap_of     how a revision ends that traps by itself
use Rattle.std.specs.Prelude.{ℕ, ◌≡◌, [], ◌∷◌, ◌++◌, None}
use Rattle.rev_num.specs.declared.outcome.Cause.{Cause}
use Rattle.rev_code.specs.State.{State}
use Rattle.version_map.specs.declared.delta.Delta.{Delta}
use Rattle.version_map.specs.Deltas.{at, locations}
use Rattle.version_map.specs.Overlay as overlay
use Rattle.block_run.specs.Area.{count}
use Rattle.code_machine.specs.Local.{CodeRun, IsVerified, Phase, trapped}
use Rattle.leg_run.specs.declared.revision.LegEnd.{LegEnd}
use Rattle.leg_run.specs.declared.revision.Meeting.TheVariants as meeting
use Rattle.leg_run.specs.declared.revision.Run.{Run}
use Rattle.leg_run.specs.Ends.{LegEnds}

pub record HasComeTo (g : CodeRun) (c : State ℕ) (e : LegEnd) (run : Run) (delta : Delta) (base : ℕ → ℕ) (first : Delta)
    : Type 0 where
  pub verified : IsVerified g
  pub size : locations delta ≡ count g.code.vars
  pub ends : LegEnds g.code g.inputs g.share c e run (overlay.under delta base) (at first)

pub record IsNoted (on : ℕ) (r r' : Run) : Type 0 where
  pub registers : r'.registers ≡ r.registers
  pub words : r'.words ≡ r.words
  pub below : r'.below ≡ r.below
  pub text : r'.text ≡ r.text
  pub forks : r'.forks ≡ r.forks
  pub meetings : r'.meetings.items
      ≡ r.meetings.items ++ meeting.Joined on r.registers.line ∷ []

abbrev pub trap_of : State ℕ → Cause → Phase ℕ
trap_of c e = trapped (record { cause = e; line = c.line; origin = None })
