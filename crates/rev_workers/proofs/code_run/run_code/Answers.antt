-- Answers of run_code: each hand has this run, this fuel and this group, so the threads make a run of the code.
use Rattle.std.proofs.Common.{rules, ◌<◌, ◌^◌, slice_index_or, sym, ◌∙◌, subst, arith}
use Rattle.run_revision.specs.Laws.{IsStart}
use Rattle.rev_vm.specs.Starts.{run_under}
use Rattle.turn_hub.specs.Names.{run_state, run_schedule, run_forkers, run_ends}
use Rattle.run_revision.proofs.CodeRuns.{of_code}
use Rattle.rev_workers.proofs.code_run.run_code.Goals as goal

pub run-requires-clause-begins : goal.run-requires-clause-begins
run-requires-clause-begins g c κs within k d h =
    let e = c.requires.hands k d h in
    let fuel = e.1 in
    let small : c.args.fuel < 2 ^ 64 = search rules in (
      subst (λ z. IsStart z (slice_index_or c.args.hands.items k d).fuel c.in-Ok.first.state) (sym e.0)
          (subst (λ z. IsStart (run_under c.args.setting.now) z c.in-Ok.first.state) (sym e.1) c.in-Ok.ensures.start),
      omega (arith, fuel, small),
    )

pub run-requires-clause-group : goal.run-requires-clause-group
run-requires-clause-group g c κs within k d h = (c.requires.hands k d h).2 ∙ sym c.in-Ok.ensures.group

pub returns-in-Ok-run-clause-schedule : goal.returns-in-Ok-run-clause-schedule
returns-in-Ok-run-clause-schedule g c =
    let r = c.in-Ok-run.ensures.run in
    let run = c.in-Ok-run.finished.run in
    of_code (run_under c.args.setting.now) c.args.fuel c.in-Ok.first.state c.in-Ok.ensures.start c.in-Ok.first.group
    (run_state run) (run_schedule run) (run_forkers run) (run_ends run) r.kept r.taken r.closed

pub returns-in-Ok-run-clause-hands : goal.returns-in-Ok-run-clause-hands
returns-in-Ok-run-clause-hands g c k d h = c.in-Ok-run.ensures.hands k d h ∙ c.in-Ok.ensures.group
