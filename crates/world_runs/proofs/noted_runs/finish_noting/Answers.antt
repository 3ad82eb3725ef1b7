-- Answers of finish_noting: a run to the end by legs that keep the notes has the notes of its last world.
use Rattle.std.proofs.Common.{rules}
use Rattle.rev_vm.specs.Starts.{run_under}
use Rattle.world_runs.proofs.NotesOfLegs.{finished_noting, first_in}
use Rattle.world_runs.proofs.noted_runs.finish_noting.Goals as goal

pub finish_by-requires-clause-reached : goal.finish_by-requires-clause-reached
finish_by-requires-clause-reached g c =
    let q = c.requires.reached in
    let place = c.new-noter.result.notes in (
      q.0,
      q.1,
      q.2,
      place,
      first_in (run_under c.args.setting.now) q.0 place c.args.notes.now c.new-noter.ensures.now q.3,
    )

pub returns-clause-finished : goal.returns-clause-finished
returns-clause-finished g c = λ w h is noted.
    let s = run_under c.args.setting.now in
    let place = c.new-noter.result.notes in
    let f = c.in_ok-end.ensures.finished w h is place
    (first_in s w place c.args.notes.now c.new-noter.ensures.now noted) in
    let same = f.kept.same in
    finished_noting s w c.in_ok-end.end place c.finish_by.new.legs.notes f _ (search rules)
