-- The outcome of verified code.
--   IsCompleteRun    a complete schedule of its `main`, and the world after it
--   HasOutcome       there is one, and the world after each has this outcome
--   EachHasOne       each verified code has one outcome
use Rattle.std.specs.Prelude.{◌≡◌, ℕ, List, Some}
use Rattle.rev_num.specs.declared.outcome.Outcome.{Outcome}
use Rattle.revision_machine.specs.Numbered.{World, begin, Replays, IsOver}
use Rattle.code_machine.specs.Local.{CodeRun, IsVerified, Local}
use Rattle.code_machine.specs.Machines.{IsMain, numbered, start_in}
use Rattle.code_machine.specs.Outcome.{outcome}

-- by the schedule, `main` with this fuel comes to this world, in which no revision has a leg
pub record IsCompleteRun (g : CodeRun) (fuel : ℕ) (schedule : List ℕ) (w : World (Local ℕ)) : Type 0 where
  pub block : ℕ
  pub main : IsMain g block
  pub legal : Replays (numbered g) (begin (numbered g) (start_in g block main.body fuel)) schedule w
  pub over : IsOver (numbered g) (start_in g block main.body fuel) w

pub record HasOutcome (g : CodeRun) (fuel : ℕ) (o : Outcome) : Type 0 where
  pub schedule : List ℕ
  pub world : World (Local ℕ)
  pub complete : IsCompleteRun g fuel schedule world
  pub each : (ns : List ℕ) (w : World (Local ℕ)) → IsCompleteRun g fuel ns w → outcome g w ≡ Some o

pub record HasOne (g : CodeRun) (fuel : ℕ) : Type 0 where
  pub is : Outcome
  pub has : HasOutcome g fuel is
  pub only : (o : Outcome) → HasOutcome g fuel o → o ≡ is

abbrev pub EachHasOne : Type 0
EachHasOne = (g : CodeRun) → IsVerified g → (fuel : ℕ) → HasOne g fuel
