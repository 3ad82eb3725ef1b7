-- The schedule of a run of verified code.
--   IsLegalOf   it leads from this first state to a world, or in Twice to a join of what was joined;
--               where no halt was entered it is complete
--   IsOfCode    the same from `main` with this fuel
--   RunsAreOfCode
--               what a hub leaves of a run from `main` is a run of the code
use Rattle.std.specs.Prelude.{ℕ, List, Option}
use Rattle.revision_machine.specs.Numbered.{Entries, Both, Listing, begin, Replays, CompleteSchedule}
use Rattle.hub_core.specs.declared.kept.Kept.{Kept}
use Rattle.hub_core.specs.declared.state.HubState.{HubState}
use Rattle.hub_core.specs.declared.state.HubState.TheVariants.{All, Twice, NoMemory}
use Rattle.code_machine.specs.Local.{CodeRun, IsVerified, Local}
use Rattle.code_machine.specs.Machines.{numbered, IsMain, start_in}
use Rattle.turn_hub.specs.Closing.{ClosedHub}
use Rattle.run_revision.specs.CodeState.{CodeState}
use Rattle.run_revision.specs.CodeValues.{RunnerValue, JoinerValue, LeftValue, is_end, code_hub}
use Rattle.run_revision.specs.Laws.{IsStart}

module _ (g : CodeRun) (main : Local ℕ) where
  abbrev pub IsLegalOf : HubState → List ℕ → Type 0
  IsLegalOf All ns =
      (w : Entries (Local ℕ)) × CompleteSchedule (numbered g) main (begin (numbered g) main) ns (Listing w)
  IsLegalOf Twice ns = Replays (numbered g) (begin (numbered g) main) ns Both
  IsLegalOf NoMemory ns =
      (w : Entries (Local ℕ)) × Replays (numbered g) (begin (numbered g) main) ns (Listing w)

pub record IsOfCode (g : CodeRun) (fuel : ℕ) (state : HubState) (ns : List ℕ) : Type 0 where
  pub verified : IsVerified g
  pub block : ℕ
  pub main : IsMain g block
  pub legal : IsLegalOf g (start_in g block main.body fuel) state ns

abbrev pub RunsAreOfCode : Type 0
RunsAreOfCode =
    (g : CodeRun) (fuel : ℕ) (start : CodeState) → IsStart g fuel start
    → (group : List ℕ) (state : HubState) (ns forkers : List ℕ) (ended : List (Option LeftValue))
    → (kept : List (Kept RunnerValue JoinerValue)) (taken : ℕ → ℕ)
    → ClosedHub code_hub is_end start group state ns forkers ended kept taken → IsOfCode g fuel state ns
