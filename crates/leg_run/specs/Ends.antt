-- How a leg ends, and what an instruction that leaves a block comes to.
--   Leaves    what a revision leaves at its end: all of a state but its frames
--   LegEnds   instructions lead from a state to the event at which the leg ends
--   TurnsTo   an instruction leaves its block and goes on, or the leg ends there
use Rattle.std.specs.Prelude.{ℕ, ◌≡◌, Bool, true, false, zero, suc, ℤ, List, Option, map}
use Rattle.rev_num.specs.declared.outcome.Cause.TheVariants as cause
use Rattle.rev_code.specs.declared.code.Code.{Code}
use Rattle.rev_code.specs.declared.code.Instr.{Instr}
use Rattle.rev_code.specs.declared.code.Instr.TheVariants as i
use Rattle.rev_code.specs.Words.{Word}
use Rattle.rev_code.specs.State.{Setting, State}
use Rattle.rev_code.specs.Step.{goes, traps, forks, joins, ends, step}
use Rattle.rev_code.specs.Funs.{setting}
use Rattle.code_machine.specs.Leg.{IsLeg}
use Rattle.code_soundness.specs.Typed.{location_kinds, AreLocations}
use Rattle.block_run.specs.Standing.{AreSeen}
use Rattle.leg_run.specs.declared.revision.LegEnd.{LegEnd}
use Rattle.leg_run.specs.declared.revision.LegEnd.TheVariants as end
use Rattle.leg_run.specs.declared.revision.Run.{Run}
use Rattle.leg_run.specs.declared.turn.BlockExit.{BlockExit}
use Rattle.leg_run.specs.declared.turn.BlockExit.TheVariants as turn
use Rattle.leg_run.specs.Standing.{Stands, IsStanding, listed_as, state_of}

-- ---- what is left of a revision that has ended

pub record Leaves (code : Code) (run : Run) (seen : ℕ → ℕ) (root : ℕ → Option ℕ) (c : State ℕ) : Type 0 where
  pub locations : AreSeen c.locations seen root
  pub kinds : AreLocations (location_kinds code.vars) c.locations
  pub fuel : c.fuel ≡ run.registers.fuel
  pub line : c.line ≡ run.registers.line
  pub forks : c.forks ≡ run.forks
  pub listed : c.listed ≡ map listed_as run.meetings.items
  pub text : c.text ≡ run.text.items

-- a state, with the frames of another
abbrev pub with_frames : State ℕ → State ℕ → State ℕ
with_frames c d = record c { block = d.block; at = d.at; locals = d.locals; stack = d.stack; below = d.below }

-- ---- the end of a leg

-- the event, at the state for which the revision stands behind it;
-- at the end and at a trap its frames no longer matter,
-- and the words that it has written and their roots are those of the state
abbrev pub LegEnds : Code → List ℤ → (share : ℕ) → State ℕ → LegEnd → Run → (seen : ℕ → ℕ) → (root : ℕ → Option ℕ)
    → Type 0
LegEnds code inputs share c0 (end.Fork n) run seen root =
    (args : List (Word ℕ)) × IsLeg (setting code inputs share) c0 (forks (state_of code run seen root) n args)
    × IsStanding code inputs share run seen root
LegEnds code inputs share c0 (end.Join try on) run seen root =
    IsLeg (setting code inputs share) c0 (joins (state_of code run seen root) try on)
    × IsStanding code inputs share run seen root
LegEnds code inputs share c0 end.End run seen root =
    (w : Option (Word ℕ)) × (c : State ℕ) × IsLeg (setting code inputs share) c0 (ends c w)
    × (c ≡ with_frames (state_of code run seen root) c) × Leaves code run seen root c
LegEnds code inputs share c0 (end.Trap e) run seen root =
    (c : State ℕ) × IsLeg (setting code inputs share) c0 (traps c e)
    × (c ≡ with_frames (state_of code run seen root) c) × Leaves code run seen root c

-- ---- an instruction that leaves its block

-- the event to which the next instruction comes, at this state
abbrev pub EventAt : Setting ℕ → State ℕ → LegEnd → State ℕ → Type 0
EventAt s last (end.Fork n) c = (args : List (Word ℕ)) × (step s last ≡ forks c n args)
EventAt s last (end.Join try on) c = step s last ≡ joins c try on
EventAt s last end.End c = (w : Option (Word ℕ)) × (step s last ≡ ends c w)
EventAt s last (end.Trap e) c = step s last ≡ traps c e

-- it ends the leg, and changes nothing
abbrev pub EndsAt : Setting ℕ → State ℕ → LegEnd → Type 0
EndsAt s c e = EventAt s c e c

abbrev pub StandsAt : Code → List ℤ → (share : ℕ) → State ℕ → LegEnd → Run → (seen : ℕ → ℕ) → (root : ℕ → Option ℕ)
    → Type 0
StandsAt code inputs share c (end.Fork n) run seen root = Stands code inputs share run seen root c
StandsAt code inputs share c (end.Join try on) run seen root = Stands code inputs share run seen root c
StandsAt code inputs share c end.End run seen root = Leaves code run seen root c
StandsAt code inputs share c (end.Trap e) run seen root = Leaves code run seen root c

-- it goes on in a state for which the revision stands now
pub record GoesOn (code : Code) (inputs : List ℤ) (share : ℕ) (c : State ℕ) (run : Run) (seen : ℕ → ℕ)
    (root : ℕ → Option ℕ)
    : Type 0 where
  pub next : State ℕ
  pub goes : step (setting code inputs share) c ≡ goes next
  pub stands : Stands code inputs share run seen root next

abbrev pub TurnsTo : Code → List ℤ → (share : ℕ) → State ℕ → BlockExit → Run → (seen : ℕ → ℕ) → (root : ℕ → Option ℕ)
    → Type 0
TurnsTo code inputs share c turn.Goes run seen root = GoesOn code inputs share c run seen root
TurnsTo code inputs share c (turn.Ends e) run seen root =
    EndsAt (setting code inputs share) c e × StandsAt code inputs share c e run seen root

-- ---- joins

abbrev pub join_instr : (try : Bool) → Instr
join_instr true = i.TryJoin
join_instr false = i.Join

-- by the word of the handle
abbrev pub join_of : (try : Bool) → ℕ → LegEnd
join_of try zero = end.Trap cause.JoinNone
join_of try (suc n) = end.Join try n
