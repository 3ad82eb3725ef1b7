-- Answers of run_from: a try that moves leads to a state from which the rest goes on, and a stuck one ends it.
use Rattle.std.proofs.Common.{subst}
use Rattle.std.proofs.lemmas.Result.{IfOk-weaker}
use Rattle.revision_machine.specs.Machine.{Live}
use Rattle.revision_machine.specs.Rules.{machine_of}
use Rattle.revision_machine.specs.RevisionList.{globe}
use Rattle.revision_machine.specs.Progress.{Progresses, CannotStep}
use Rattle.revision_machine.proofs.Reached.{goes_on}
use Rattle.revision_machine.proofs.Runs.{more_after}
use Rattle.revision_machine.proofs.complete_run.run_from.Goals as goal

pub run_these-requires-clause-reached : goal.run_these-requires-clause-reached
run_these-requires-clause-reached g c =
    let M = machine_of (g.L.Language.rules c.args.language.now) in
    let old = c.args.list.now.items in
    let mid = c.try_step.new.list.items in
    let one =
    subst (λ p. Progresses M (CannotStep M old c.args.place) p old mid) c.in-Moved.is
    c.in_ok-try_step.ensures.progress in
    goes_on M (g.L.Language.rules c.args.language.now).holds (g.L.Language.rules c.args.language.now).weight
    (g.L.Language.rules c.args.language.now).limit (g.met.L.Language.keeps c.args.language.now).counts
    (g.met.L.Language.keeps c.args.language.now).handles (g.met.L.Language.keeps c.args.language.now).spends one.0
    (Live (globe old)) (Live (globe mid)) c.requires.reached one.1

pub returns-in-Moved-clause-progress : goal.returns-in-Moved-clause-progress
returns-in-Moved-clause-progress g c =
    let M = machine_of (g.L.Language.rules c.args.language.now) in
    let old = c.args.list.now.items in
    let mid = c.try_step.new.list.items in
    let one =
    subst (λ p. Progresses M (CannotStep M old c.args.place) p old mid) c.in-Moved.is
    c.in_ok-try_step.ensures.progress in
    IfOk-weaker c.run_these.result _ _
    (more_after M (CannotStep M old c.args.place) old c.run_these.new.list.items mid one) c.run_these.ensures.progress
