-- Answers of begun: a revision that has begun stays as it is, and one that has not stands behind its beginning.
use Rattle.std.proofs.Common.{sym}
use Rattle.rev_vm.specs.Starts.{run_under}
use Rattle.rev_vm.proofs.Born.{begun_as, born_as, same_born}
use Rattle.rev_vm.proofs.beginning.begun.Goals as goal

pub begin-requires : goal.begin-requires
begin-requires g c =
    let q = c.requires.stands in
    record {
      stands = (
        q.0,
        same_born g.P.Snapshot.base g.P.Snapshot.size _ _ (sym c.into_inner.ensures) (run_under c.args.setting.now) q.0
            (born_as (run_under c.args.setting.now) c.args.runner.stage c.in-Born.beginning q.0 c.in-Born.is q.1),
      );
    }

pub returns-in-Begun-clause-state : goal.returns-in-Begun-clause-state
returns-in-Begun-clause-state g c = λ s h.
    begun_as (run_under c.args.setting.now) c.args.runner.stage c.in-Begun.revision s c.in-Begun.is h

pub returns-in-Born-clause-state : goal.returns-in-Born-clause-state
returns-in-Born-clause-state g c = λ s h.
    c.begin.ensures.state s
    (same_born g.P.Snapshot.base g.P.Snapshot.size _ _ (sym c.into_inner.ensures) (run_under c.args.setting.now) s
    (born_as (run_under c.args.setting.now) c.args.runner.stage c.in-Born.beginning s c.in-Born.is h))
