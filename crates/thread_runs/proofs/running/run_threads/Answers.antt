-- Answers of run_threads: the setting is made of this code, these inputs and this share, so the run is theirs.
use Rattle.std.proofs.Common.{◌∙◌, ap, map, refl, sym, subst}
use Rattle.rev_code.specs.declared.code.Code.{Code}
use Rattle.code_machine.specs.Local.{CodeRun}
use Rattle.code_machine_laws.specs.Outcomes.{HasOutcome}
use Rattle.merge_kernels.specs.Terms.{definition}
use Rattle.rev_vm.specs.Starts.{run_under}
use Rattle.rev_workers.specs.Plans.{IsPlanFor}
use Rattle.turn_hub.specs.Seats.{first_of}
use Rattle.code_runs.proofs.WorldsAndRuns.{of_run}
use Rattle.turn_hub.specs.Names.{run_forkers, run_ends}
use Rattle.thread_runs.specs.Ends.{AreOwned}
use Rattle.thread_runs.proofs.Mains.{left_of}
use Rattle.thread_runs.proofs.Owned.{is_kept, owned}
use Rattle.thread_runs.proofs.running.run_threads.Goals as goal

pub new-requires-clause-inputs : goal.new-requires-clause-inputs
new-requires-clause-inputs g c = c.note_inputs.ensures

pub run_threads-requires-clause-plan : goal.run_threads-requires-clause-plan
run_threads-requires-clause-plan g c κs within =
    subst
    (λ (x : Code). IsPlanFor x c.args.plan.choices.items (map (λ k. definition k.def) c.args.plan.kernels.now))
    (sym (c.in_ok-setting.ensures.code ∙ c.into_code.ensures.code)) c.requires.plan

pub outcome_of_run-requires : goal.outcome_of_run-requires
outcome_of_run-requires g c = λ k. (
  (refl, tt),
  (
    c.args.fuel,
    is_kept (run_under c.in_ok-setting.setting) c.args.fuel _ c.in-Ok.left.run c.requires.fuel c.in-Ok.ensures.run
        c.in-Ok.ensures.state,
  ),
)

pub returns-clause-outcome : goal.returns-clause-outcome
returns-clause-outcome g c =
    let s = c.in_ok-setting.ensures in
    let own = c.in_ok-setting.setting in
    of_run (λ (r : CodeRun). HasOutcome r c.args.fuel c.in_ok-outcome.outcome)
    c.args.code.code own.code c.args.inputs.items own.inputs.items c.args.share own.share
    (s.code ∙ c.into_code.ensures.code) s.inputs s.share
    (c.in_ok-outcome.ensures c.args.fuel
    (is_kept (run_under own) c.args.fuel _ c.in-Ok.left.run c.requires.fuel c.in-Ok.ensures.run c.in-Ok.ensures.state))

pub returns-clause-run : goal.returns-clause-run
returns-clause-run g c =
    let s = c.in_ok-setting.ensures in
    let own = c.in_ok-setting.setting in
    owned own c.args.fuel c.args.code.code c.args.inputs.items c.args.share
    (s.code ∙ c.into_code.ensures.code) s.inputs s.share
    _ _ (run_forkers c.in-Ok.left.run) (run_ends c.in-Ok.left.run) c.in-Ok.ensures.schedule c.in-Ok.ensures.state
    (left_of (run_under own) c.args.fuel c.in-Ok.left.run
    (is_kept (run_under own) c.args.fuel _ c.in-Ok.left.run c.requires.fuel c.in-Ok.ensures.run c.in-Ok.ensures.state))
    _ record {
      numbers = ap (λ v. v.items) c.into_schedule-order.ensures.numbers;
      state_is = c.into_schedule-order.ensures.state;
      forks = ap (λ v. v.items) c.into_schedule-order.ensures.forkers;
      owned = subst (λ v. AreOwned v.items c.in_ok-ends.ends.items) c.into_schedule-order.ensures.ends
          c.in_ok-ends.ensures;
      store = sym c.in-Ok.ensures.run.left.group_is
          ∙ sym (ap (λ w. (first_of w.views).group) c.into_schedule-order.ensures.witness);
      counted = c.in-Ok.ensures.live.0;
      none = c.in-Ok.ensures.live.1;
    }
    (c.in_ok-outcome.ensures c.args.fuel
    (is_kept (run_under own) c.args.fuel _ c.in-Ok.left.run c.requires.fuel c.in-Ok.ensures.run c.in-Ok.ensures.state))
