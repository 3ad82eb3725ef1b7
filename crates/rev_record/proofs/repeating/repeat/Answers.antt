-- Answers of repeat: nothing is counted at first, each leg keeps the count, and at the end it is the run's.
use Rattle.rev_vm.specs.Starts.{run_under}
use Rattle.rev_record.proofs.Legs.{reached_from}
use Rattle.rev_record.proofs.RunEnds.{first_world, from_start, repeated_first, after_it, reuses}
use Rattle.rev_record.proofs.repeating.repeat.Goals as goal

pub finish_by-requires-clause-reached : goal.finish_by-requires-clause-reached
finish_by-requires-clause-reached g c =
    let s = run_under c.args.setting.now in
    let b = c.in_ok-start.ensures.begun in
    let few = c.requires.fuel in
    let w = first_world s c.args.fuel few b.0 b.1 in (
      w,
      reached_from s c.args.fuel w (from_start s c.args.fuel few b.0 b.1),
      b.2,
      (c.args.fuel, c.requires.memo.0),
      repeated_first s c.args.fuel few b.0 b.1 c.requires.memo.0 c.args.memo.now.entries.items c.requires.memo.1,
    )

pub returns-clause-world : goal.returns-clause-world
returns-clause-world g c =
    let s = run_under c.args.setting.now in
    let b = c.in_ok-start.ensures.begun in
    let few = c.requires.fuel in
    let w = first_world s c.args.fuel few b.0 b.1 in
    let es = c.requires.memo.0 in
    let f = c.in_ok-end.ensures.finished w (reached_from s c.args.fuel w (from_start s c.args.fuel few b.0 b.1)) b.2
    (c.args.fuel, es) (repeated_first s c.args.fuel few b.0 b.1 es c.args.memo.now.entries.items c.requires.memo.1) in
    after_it s c.args.fuel few b.0 b.1 c.in_ok-start.start c.in_ok-end.end b.2 f.finished

pub returns-clause-count : goal.returns-clause-count
returns-clause-count g c = λ es stand.
    let s = run_under c.args.setting.now in
    let b = c.in_ok-start.ensures.begun in
    let few = c.requires.fuel in
    let w = first_world s c.args.fuel few b.0 b.1 in
    let f = c.in_ok-end.ensures.finished w (reached_from s c.args.fuel w (from_start s c.args.fuel few b.0 b.1)) b.2
    (c.args.fuel, es) (repeated_first s c.args.fuel few b.0 b.1 es c.args.memo.now.entries.items stand) in
    reuses s c.args.setting.now.faultless c.args.fuel c.in_ok-end.end f.finished.end f.finished.world
    (λ main. (f.finished.complete main).over) es c.finish_by.new.legs.memo.now.entries.items c.finish_by.new.legs.reused
    f.kept c.counted-reused.result c.counted-reused.ensures
