-- A run of verified code that a hub kept.
--   IsRunOf   of `main` with this fuel; no halt was entered, or that of a second join
-- Of the machine that the hub runs only the ends have to be those of code.
use Rattle.std.specs.Prelude.{◌≢◌, ◌≤◌, ℕ, List}
use Rattle.code_machine_laws.specs.Reached.{most_fuel}
use Rattle.hub_core.specs.declared.kept.Kept.{Kept}
use Rattle.hub_core.specs.declared.state.HubState.TheVariants.{NoMemory}
use Rattle.turn_hub.specs.declared.closing.HubRun.{HubRun}
use Rattle.hub_core.specs.declared.revision.Revision.{Ghosts}
use Rattle.turn_hub.specs.Closing.{ClosedHub}
use Rattle.turn_hub.specs.Names.{run_state, run_schedule, run_forkers, run_ends}
use Rattle.code_machine.specs.Local.{CodeRun}
use Rattle.run_revision.specs.CodeState.{CodeState}
use Rattle.run_revision.specs.CodeValues.{RunnerValue, JoinerValue, LeftValue, is_end, code_hub}
use Rattle.run_revision.specs.Laws.{IsStart}

pub record IsRunOf {M S R A C P : Type 0} {k : Ghosts M S R A LeftValue C P} (g : CodeRun) (fuel : ℕ)
    (run : HubRun M S R A LeftValue C P k) : Type 0 where
  pub few : fuel ≤ most_fuel
  pub start : CodeState
  pub begins : IsStart g fuel start
  pub group : List ℕ
  pub kept : List (Kept RunnerValue JoinerValue)
  pub taken : ℕ → ℕ
  -- what the run tells is what its hub leaves
  pub closed :
      ClosedHub code_hub is_end start group (run_state run) (run_schedule run) (run_forkers run)
      (run_ends run) kept taken
  pub known : run_state run ≢ NoMemory
