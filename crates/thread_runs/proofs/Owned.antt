-- From what threads leave at a hub to the run that is owned.
use Rattle.std.proofs.Common.{◌≡◌, refl, sym, subst, ℕ, ℤ, ◌≤◌, List, Option}
use Rattle.std.specs.Prelude.{◌≢◌}
use Rattle.rev_code.specs.declared.code.Code.{Code}
use Rattle.leg_run.specs.declared.setting.CodeSetting.{CodeSetting}
use Rattle.rev_vm.specs.Starts.{run_under}
use Rattle.code_runs.proofs.WorldsAndRuns.{of_run}
use Rattle.revision_machine.specs.Numbered.{Both, Listing, paths_of}
use Rattle.code_machine_laws.specs.Reached.{most_fuel}
use Rattle.hub_core.specs.declared.state.HubState.{HubState}
use Rattle.hub_core.specs.declared.state.HubState.TheVariants.{All, Twice, NoMemory}
use Rattle.turn_hub.specs.declared.closing.HubRun.{HubRun}
use Rattle.hub_core.specs.declared.revision.Revision.{Ghosts}
use Rattle.turn_hub.specs.Names.{run_state}
use Rattle.code_machine.specs.Local.{CodeRun}
use Rattle.run_revision.specs.CodeState.{CodeState}
use Rattle.run_revision.specs.CodeValues.{RunnerValue, JoinerValue, LeftValue}
use Rattle.code_machine_laws.specs.Outcomes.{HasOutcome, IsCompleteRun}
use Rattle.thread_runs.specs.Told as kept
use Rattle.run_revision.specs.CodeRuns.{IsOfCode}
use Rattle.rev_workers.specs.Runs.{IsRunOfCode}
use Rattle.segment_store.specs.Group.{closed_group}
use Rattle.turn_hub.specs.Names.{schedule_group}
use Rattle.hub_core.specs.Forkers.{ForkersAre}
use Rattle.thread_runs.specs.Ends.{AreOwned}
use Rattle.thread_runs.proofs.Mains.{Left, owned_here}
use Rattle.thread_runs.specs.Runs.{IsRunOf, numbers_of, state_of, forkers_of, ends_of}
use Rattle.thread_runs.specs.declared.ran.Ran.{Ran}

module _ (g : CodeRun) (fuel : ℕ) where
  -- what the run tells is what the hub left
  pub record Tells (state : HubState) (ns forkers : List ℕ) (ended : List (Option LeftValue)) (r : Ran) : Type 0 where
    pub numbers : numbers_of r ≡ ns
    pub state_is : state_of r ≡ state
    pub forks : forkers_of r ≡ forkers
    pub owned : AreOwned ended (ends_of r)
    pub store : closed_group r.closed ≡ schedule_group r.order
    pub counted : r.live ≡ r.closed.live
    pub none : r.live ≡ 0

  twice : (ns : List ℕ) → IsOfCode g fuel Twice ns → IsCompleteRun g fuel ns Both
  twice ns h = record { block = h.block; main = h.main; legal = h.legal; over = λ n. refl }

  -- a schedule that no halt for want of memory cut short is complete
  pub is_run : (state : HubState) (ns forkers : List ℕ) (ended : List (Option LeftValue)) → IsOfCode g fuel state ns
      → state ≢ NoMemory → (state ≡ All → Left g fuel ns forkers ended) → (r : Ran) → Tells state ns forkers ended r
      → HasOutcome g fuel r.outcome → IsRunOf g fuel r
  is_run All ns forkers ended h known left r t has =
      let l = left refl in
      record {
        world = Listing l.world;
        complete = subst (λ (xs : List ℕ). IsCompleteRun g fuel xs (Listing l.world)) (sym t.numbers) l.complete;
        told = (
          t.state_is,
          subst (ForkersAre (paths_of l.world)) (sym t.forks) l.forked,
          owned_here g l.world ended (ends_of r) l.each t.owned,
        );
        shows = has.each ns (Listing l.world) l.complete;
        of_store = t.store;
        counted = t.counted;
        none_live = t.none;
      }
  is_run Twice ns forkers ended h known left r t has =
      record {
        world = Both;
        complete = subst (λ (xs : List ℕ). IsCompleteRun g fuel xs Both) (sym t.numbers) (twice ns h);
        told = t.state_is;
        shows = has.each ns Both (twice ns h);
        of_store = t.store;
        counted = t.counted;
        none_live = t.none;
      }
  is_run NoMemory ns forkers ended h known left r t has = absurd (known refl)

  -- what the outcome is made of
  pub is_kept : {M C P : Type 0} {k : Ghosts M CodeState RunnerValue JoinerValue LeftValue C P} (group : List ℕ)
      (run : HubRun M CodeState RunnerValue JoinerValue LeftValue C P k)
      → fuel ≤ most_fuel
      → IsRunOfCode g fuel group run → run_state run ≢ NoMemory → kept.IsRunOf g fuel run
  is_kept group run few h known = record {
    few = few;
    start = h.start;
    begins = h.begins;
    group = group;
    kept = h.left.kept;
    taken = h.left.taken;
    closed = h.left.closed;
    known = known;
  }

-- the same of the code, the inputs and the share of a setting
pub owned : (s : CodeSetting) (fuel : ℕ) (code : Code) (inputs : List ℤ) (share : ℕ) → s.code ≡ code
    → s.inputs.items ≡ inputs → s.share ≡ share
    → (state : HubState) (ns forkers : List ℕ) (ended : List (Option LeftValue)) → IsOfCode (run_under s) fuel state ns
    → state ≢ NoMemory → (state ≡ All → Left (run_under s) fuel ns forkers ended) → (r : Ran)
    → Tells (run_under s) fuel state ns forkers ended r
    → HasOutcome (run_under s) fuel r.outcome → IsRunOf (record { code = code; inputs = inputs; share = share }) fuel r
owned s fuel code inputs share a b c state ns forkers ended h known left r t has =
    of_run (λ (x : CodeRun). IsRunOf x fuel r) code s.code inputs s.inputs.items share s.share a b c
    (is_run (run_under s) fuel state ns forkers ended h known left r t has)
