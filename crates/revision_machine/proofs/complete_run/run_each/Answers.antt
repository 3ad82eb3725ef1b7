-- Answers of run_each: where no revision has moved in a whole pass none can step, and a second join ends the pass.
use Rattle.std.proofs.Common.{◌≡◌, ◌+◌, length, sym, subst, arith}
use Rattle.revision_machine.specs.Machine.{Live}
use Rattle.revision_machine.specs.Rules.{machine_of}
use Rattle.revision_machine.specs.RevisionList.{globe}
use Rattle.revision_machine.specs.Progress.{Progresses, CannotStep, PassSoFar}
use Rattle.revision_machine.proofs.Reached.{goes_on}
use Rattle.revision_machine.proofs.Runs.{kept, pass_on, pass_to_twice, pass_stuck}
use Rattle.revision_machine.proofs.complete_run.run_each.Goals as goal

pub returns-in-Twice-clause-progress : goal.returns-in-Twice-clause-progress
returns-in-Twice-clause-progress g c =
    let M = machine_of (g.L.Language.rules c.args.language.now) in
    let old = c.loop-place.list.items in
    pass_to_twice M c.loop-place.moved c.args.list.now.items old c.loop-place.place c.loop-place.invariant.so_far
    (subst (λ p. Progresses M (CannotStep M old c.loop-place.place) p old c.run_from.new.list.items) c.in-Twice.is
    c.in_ok-progress.ensures.progress)

pub loop-place-preserved : goal.loop-place-preserved
loop-place-preserved g c =
    let M = machine_of (g.L.Language.rules c.args.language.now) in
    let old = c.loop-place.list.items in
    let new = c.run_from.new.list.items in
    let p = c.in_ok-progress.progress in
    let goes = kept M (CannotStep M old c.loop-place.place) old new p c.in-Moved.is c.in_ok-progress.ensures.progress in
    record {
      distinct = c.in_ok-progress.ensures.distinct;
      indexed = c.in_ok-progress.ensures.indexed;
      reached = goes_on M (g.L.Language.rules c.args.language.now).holds (g.L.Language.rules c.args.language.now).weight
          (g.L.Language.rules c.args.language.now).limit (g.met.L.Language.keeps c.args.language.now).counts
          (g.met.L.Language.keeps c.args.language.now).handles (g.met.L.Language.keeps c.args.language.now).spends
          goes.0 (Live (globe old)) (Live (globe new)) c.loop-place.invariant.reached goes.1;
      longer = (let a = c.loop-place.invariant.longer in let b = c.in_ok-progress.ensures.longer in omega arith);
      so_far = subst (λ b. PassSoFar M b c.args.list.now.items new (c.loop-place.place + 1))
          (sym c.has_moved-moved.ensures)
          (pass_on M c.loop-place.moved p c.args.list.now.items old new c.loop-place.place c.in-Moved.is
          c.loop-place.invariant.so_far c.in_ok-progress.ensures.progress);
    }

pub returns-else-moved-clause-progress : goal.returns-else-moved-clause-progress
returns-else-moved-clause-progress g c =
    let M = machine_of (g.L.Language.rules c.args.language.now) in
    let old = c.args.list.now.items in
    let test = c.loop-place-test.false in
    let low = c.loop-place.auto.place-end in
    let len = c.len-place-end.ensures in
    let ok = c.args.list.now.ok.0 in
    let all : c.loop-place.place ≡ length old = omega arith in
    pass_stuck M c.loop-place.moved old c.loop-place.list.items c.loop-place.place c.if-moved.false all
    c.loop-place.invariant.so_far
