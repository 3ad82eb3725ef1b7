-- Answers of run_these: a try that moves is a step of the run, and a stuck one takes a place from the list.
use Rattle.std.proofs.Common.{◌+◌, subst, arith}
use Rattle.revision_machine.specs.Rules.{machine_of}
use Rattle.revision_machine.specs.Progress.{Progresses, CannotStep}
use Rattle.revision_machine.proofs.Runs.{kept, smaller, goes_on, goes_to_twice}
use Rattle.revision_machine.proofs.Reached.{goes_on as reached_by}
use Rattle.revision_machine.specs.Machine.{Live}
use Rattle.revision_machine.specs.RevisionList.{globe}
use Rattle.revision_machine.proofs.complete_run.run_these.Goals as goal

pub returns-in-Twice-clause-progress : goal.returns-in-Twice-clause-progress
returns-in-Twice-clause-progress g c =
    let M = machine_of (g.L.Language.rules c.args.language.now) in
    let old = c.loop-place.list.items in
    goes_to_twice M 0 c.args.list.now.items old c.loop-place.invariant.goes
    (subst (λ p. Progresses M (CannotStep M old c.in-Some.place) p old c.try_step.new.list.items) c.in-Twice.is
    c.in_ok-try_step.ensures.progress)

pub loop-place-smaller : goal.loop-place-smaller
loop-place-smaller g c =
    let M = machine_of (g.L.Language.rules c.args.language.now) in
    let old = c.loop-place.list.items in
    smaller M (CannotStep M old c.in-Some.place) old c.try_step.new.list.items
    (g.L.Language.rules c.args.language.now).holds (λ s. M.forks s + (g.L.Language.rules c.args.language.now).weight s)
    (g.L.Language.rules c.args.language.now).limit (g.L.Language.rules c.args.language.now).weight
    (g.met.L.Language.keeps c.args.language.now).counts (g.met.L.Language.keeps c.args.language.now).spends
    c.loop-place.invariant.reached c.loop-place.invariant.distinct c.in_ok-try_step.ensures.distinct
    c.in_ok-try_step.field-0 c.in-Moved.is c.in_ok-try_step.ensures.progress _ _ _ c.in-Some.ensures.cases
    c.in_ok-try_step.ensures.more

pub loop-place-preserved : goal.loop-place-preserved
loop-place-preserved g c =
    let M = machine_of (g.L.Language.rules c.args.language.now) in
    let old = c.loop-place.list.items in
    let new = c.try_step.new.list.items in
    let goes =
    kept M (CannotStep M old c.in-Some.place) old new c.in_ok-try_step.field-0 c.in-Moved.is
    c.in_ok-try_step.ensures.progress in
    record {
      distinct = c.in_ok-try_step.ensures.distinct;
      indexed = c.in_ok-try_step.ensures.indexed;
      reached = reached_by M (g.L.Language.rules c.args.language.now).holds
          (g.L.Language.rules c.args.language.now).weight (g.L.Language.rules c.args.language.now).limit
          (g.met.L.Language.keeps c.args.language.now).counts (g.met.L.Language.keeps c.args.language.now).handles
          (g.met.L.Language.keeps c.args.language.now).spends goes.0 (Live (globe old)) (Live (globe new))
          c.loop-place.invariant.reached goes.1;
      todo = c.in_ok-try_step.ensures.todo;
      goes = goes_on M 0 0 0 c.args.list.now.items old new c.loop-place.invariant.goes goes (omega arith);
      longer = (let a = c.loop-place.invariant.longer in let b = c.in_ok-try_step.ensures.longer in omega arith);
    }
