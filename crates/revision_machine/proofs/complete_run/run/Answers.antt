-- Answers of run: a pass that moves leaves less to be done, and where a pass is stuck the run is complete.
use Rattle.std.proofs.Common.{◌+◌, [], sym, ap, ◌∙◌, subst}
use Rattle.revision_machine.specs.Machine.{Live, Final}
use Rattle.revision_machine.specs.Rules.{machine_of}
use Rattle.revision_machine.specs.RevisionList.{globe}
use Rattle.revision_machine.specs.States.{global_of}
use Rattle.revision_machine.specs.Progress.{Progresses}
use Rattle.revision_machine.proofs.Runs.{left_less, end_stuck, end_twice, runs_more, smaller_by_one}
use Rattle.revision_machine.proofs.complete_run.run.Goals as goal

pub loop-places-init : goal.loop-places-init
loop-places-init g c = record {
  distinct = c.in-Live.live.distinct;
  indexed = c.in-Live.live.indexed;
  runs = ([], sym c.in_ok-live.ensures.start ∙ ap global_of c.in-Live.is);
}

pub run_each-requires-clause-reached : goal.run_each-requires-clause-reached
run_each-requires-clause-reached g c = record {
  main = c.args.main;
  none = c.requires.none;
  room = c.requires.room;
  reached = record { by = c.loop-places.invariant.runs.0; runs = c.loop-places.invariant.runs.1 };
}

pub loop-places-smaller : goal.loop-places-smaller
loop-places-smaller g c =
    let M = machine_of (g.L.Language.rules c.args.language.now) in
    let old = c.loop-places.list.items in
    let new = c.run_each.new.list.items in
    let told =
    subst (λ p. Progresses M (Final M (Live (globe old))) p old new) c.in-Moved.is c.in_ok-run_each.ensures.progress in
    let less =
    left_less M (g.L.Language.rules c.args.language.now).holds
    (λ s. M.forks s + (g.L.Language.rules c.args.language.now).weight s) (g.L.Language.rules c.args.language.now).limit
    (g.L.Language.rules c.args.language.now).weight (g.met.L.Language.keeps c.args.language.now).counts
    (g.met.L.Language.keeps c.args.language.now).spends old new 1
    (record {
      main = c.args.main;
      none = c.requires.none;
      room = c.requires.room;
      reached = record { by = c.loop-places.invariant.runs.0; runs = c.loop-places.invariant.runs.1 };
    }) c.loop-places.invariant.distinct c.in_ok-run_each.ensures.distinct told in
    smaller_by_one _ _ less

pub loop-places-preserved : goal.loop-places-preserved
loop-places-preserved g c =
    let M = machine_of (g.L.Language.rules c.args.language.now) in
    let old = c.loop-places.list.items in
    let new = c.run_each.new.list.items in
    let told =
    subst (λ p. Progresses M (Final M (Live (globe old))) p old new) c.in-Moved.is c.in_ok-run_each.ensures.progress in
    record {
      distinct = c.in_ok-run_each.ensures.distinct;
      indexed = c.in_ok-run_each.ensures.indexed;
      runs = runs_more M c.args.main 1 c.loop-places.invariant.runs.0 old new c.loop-places.invariant.runs.1 told;
    }

pub returns-in-Stuck : goal.returns-in-Stuck
returns-in-Stuck g c =
    let M = machine_of (g.L.Language.rules c.args.language.now) in
    let old = c.loop-places.list.items in
    let new = c.run_each.new.list.items in
    let told =
    subst (λ p. Progresses M (Final M (Live (globe old))) p old new) c.in-Stuck.is c.in_ok-run_each.ensures.progress in
    end_stuck M c.args.main (g.met.L.Language.keeps c.args.language.now).counts c.loop-places.invariant.runs.0 old new
    c.loop-places.invariant.runs.1 told

pub returns-in-Twice-2 : goal.returns-in-Twice-2
returns-in-Twice-2 g c =
    let M = machine_of (g.L.Language.rules c.args.language.now) in
    let old = c.loop-places.list.items in
    let new = c.run_each.new.list.items in
    let told =
    subst (λ p. Progresses M (Final M (Live (globe old))) p old new) c.in-Twice-2.is
    c.in_ok-run_each.ensures.progress in
    end_twice M c.args.main (g.met.L.Language.keeps c.args.language.now).counts c.loop-places.invariant.runs.0 old
    c.loop-places.invariant.runs.1 told
