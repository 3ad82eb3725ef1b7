-- Answers of record_run: nothing is recorded at first, each leg keeps the record, and at the end it is the run's memo.
use Rattle.rev_vm.specs.Starts.{run_under}
use Rattle.rev_record.proofs.Legs.{reached_from}
use Rattle.rev_record.proofs.RunEnds.{first_world, from_start, recorded_first, after_it, kept_distinct, memo_of_run}
use Rattle.rev_record.proofs.recording.record_run.Goals as goal

pub finish_by-requires-clause-reached : goal.finish_by-requires-clause-reached
finish_by-requires-clause-reached g c =
    let s = run_under c.args.setting.now in
    let b = c.in_ok-start.ensures.begun in
    let few = c.requires.fuel in
    let w = first_world s c.args.fuel few b.0 b.1 in (
      w,
      reached_from s c.args.fuel w (from_start s c.args.fuel few b.0 b.1),
      b.2,
      c.args.fuel,
      recorded_first s c.args.fuel few b.0 b.1 c.requires.inputs c.new.result.items c.new.ensures.items,
    )

pub memo_of-requires : goal.memo_of-requires
memo_of-requires g c =
    let s = run_under c.args.setting.now in
    let b = c.in_ok-start.ensures.begun in
    let few = c.requires.fuel in
    let w = first_world s c.args.fuel few b.0 b.1 in
    let f = c.in_ok-end.ensures.finished w (reached_from s c.args.fuel w (from_start s c.args.fuel few b.0 b.1)) b.2
    c.args.fuel (recorded_first s c.args.fuel few b.0 b.1 c.requires.inputs c.new.result.items c.new.ensures.items) in
    kept_distinct s c.args.setting.now.faultless c.args.fuel c.in_ok-end.end f.finished.end f.finished.world
    (λ main. (f.finished.complete main).over) c.finish_by.new.legs.entries.items f.kept

pub returns-in-Ok-clause-world : goal.returns-in-Ok-clause-world
returns-in-Ok-clause-world g c =
    let s = run_under c.args.setting.now in
    let b = c.in_ok-start.ensures.begun in
    let few = c.requires.fuel in
    let w = first_world s c.args.fuel few b.0 b.1 in
    let f = c.in_ok-end.ensures.finished w (reached_from s c.args.fuel w (from_start s c.args.fuel few b.0 b.1)) b.2
    c.args.fuel (recorded_first s c.args.fuel few b.0 b.1 c.requires.inputs c.new.result.items c.new.ensures.items) in
    after_it s c.args.fuel few b.0 b.1 c.in_ok-start.start c.in_ok-end.end b.2 f.finished

pub returns-in-Ok-clause-memo : goal.returns-in-Ok-clause-memo
returns-in-Ok-clause-memo g c =
    let s = run_under c.args.setting.now in
    let b = c.in_ok-start.ensures.begun in
    let few = c.requires.fuel in
    let w = first_world s c.args.fuel few b.0 b.1 in
    let f = c.in_ok-end.ensures.finished w (reached_from s c.args.fuel w (from_start s c.args.fuel few b.0 b.1)) b.2
    c.args.fuel (recorded_first s c.args.fuel few b.0 b.1 c.requires.inputs c.new.result.items c.new.ensures.items) in
    memo_of_run s c.args.setting.now.faultless c.args.fuel c.in_ok-end.end f.finished.end f.finished.world
    (λ main. (f.finished.complete main).over) c.finish_by.new.legs.entries.items f.kept c.in-Ok.memo c.in-Ok.ensures
