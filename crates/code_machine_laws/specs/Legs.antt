-- Whose a trap is, where a leg ends with one or a join brings one.
--   own_trap          the trap of a leg: its cause, at the line charged last or not paid, and first of all in this
--                     revision
--   merge_trap        the trap of a join whose merges fault
--   passed_trap       the trap of a join of a revision that has trapped
--   IsJoinTrap        one of these two
use Rattle.std.specs.Prelude.{ℕ, ◌≡◌, true, false, ℤ, List, Option, Some, None}
use Rattle.rev_num.specs.declared.value.NumFault.{NumFault}
use Rattle.rev_num.specs.declared.outcome.Cause.{Cause}
use Rattle.rev_num.specs.declared.outcome.Cause.TheVariants as cause
use Rattle.rev_code.specs.declared.code.Code.{Code}
use Rattle.rev_code.specs.State.{State}
use Rattle.rev_code.specs.Step.{traps}
use Rattle.rev_code.specs.Funs.{setting}
pub use Rattle.code_machine.specs.Leg.{IsLeg}
use Rattle.version_map.specs.declared.end.CodeTrap.{CodeTrap}
use Rattle.version_map.specs.Endings.{of_join}

-- ---- traps

abbrev pub own_trap : State ℕ → Cause → CodeTrap
own_trap c e = record { cause = e; line = c.line; origin = None }

abbrev pub merge_trap : (location : ℕ) → NumFault → (line : ℕ) → CodeTrap
merge_trap location fault line = record { cause = cause.Merge location fault; line = line; origin = None }

-- the revision that trapped first: the joined one, unless it had its trap from another
abbrev pub first_of : (joined : ℕ) → Option ℕ → ℕ
first_of joined None = joined
first_of joined (Some n) = n

abbrev pub passed_trap : (joined : ℕ) → CodeTrap → CodeTrap
passed_trap joined t = record { cause = t.cause; line = t.line; origin = Some (first_of joined t.origin) }

pub data IsJoinTrap : CodeTrap → Type 0 where
  by_merge : (location : ℕ) (fault : NumFault) (line : ℕ) → IsJoinTrap (merge_trap location fault line)
  passed : (joined : ℕ) (t : CodeTrap) → IsJoinTrap (passed_trap joined t)

-- a leg's own trap is never that of a join
abbrev pub OwnTrapsAreNotOfJoin : Type 0
OwnTrapsAreNotOfJoin =
    (code : Code) (inputs : List ℤ) (share : ℕ) (c c' : State ℕ) (e : Cause)
    → IsLeg (setting code inputs share) c (traps c' e)
    → of_join (own_trap c' e) ≡ false

-- a join's always is
abbrev pub JoinTrapsAreOfJoin : Type 0
JoinTrapsAreOfJoin = (t : CodeTrap) → IsJoinTrap t → of_join t ≡ true
