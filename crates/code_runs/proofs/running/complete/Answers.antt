-- Answers of complete: the world is reached, so finishing it gives a complete schedule, whose outcome is taken.
use Rattle.rev_vm.specs.Starts.{run_under}
use Rattle.code_runs.proofs.WorldsAndRuns.{is_after, reached}
use Rattle.code_runs.proofs.running.complete.Goals as goal

pub finish-requires-clause-reached : goal.finish-requires-clause-reached
finish-requires-clause-reached g c =
    let s = run_under c.args.setting.now in
    let u = c.requires.underway in
    (u.1.world, reached s u.0 c.args.world u.1, u.1.stands)

pub finish-requires-clause-size : goal.finish-requires-clause-size
finish-requires-clause-size g c = c.requires.size

pub finish-requires-clause-merges : goal.finish-requires-clause-merges
finish-requires-clause-merges g c = c.requires.merges

pub outcome_after-requires : goal.outcome_after-requires
outcome_after-requires g c =
    let s = run_under c.args.setting.now in
    let u = c.requires.underway in
    record {
      over = (
        u.0,
        is_after s u.0 c.args.world u.1 c.in_ok-end.end
            (c.in_ok-end.ensures.finished u.1.world (reached s u.0 c.args.world u.1) u.1.stands),
      );
    }

pub returns : goal.returns
returns g c = λ fuel u.
    let s = run_under c.args.setting.now in
    c.in_ok-outcome.ensures fuel
    (is_after s fuel c.args.world u c.in_ok-end.end
    (c.in_ok-end.ensures.finished u.world (reached s fuel c.args.world u) u.stands))
