-- Answers of replay_noting: the first notes are those of the start, and a replay by legs that keep them has them still.
use Rattle.std.proofs.Common.{rules}
use Rattle.rev_vm.specs.Starts.{run_under}
use Rattle.world_runs.specs.Replay.{IsIllegal}
use Rattle.world_runs.specs.declared.replaying.ReplayFault.TheVariants as fault
use Rattle.world_runs.proofs.Keeping.{handed}
use Rattle.world_runs.proofs.NotesOfLegs.{first_in, noted_there}
use Rattle.world_runs.proofs.noted_runs.replay_noting.Goals as goal

pub replay_by-requires-clause-first : goal.replay_by-requires-clause-first
replay_by-requires-clause-first g c =
    let s = run_under c.args.setting.now in
    let place = c.new-noter.result.notes in (
      place,
      λ n m v is. first_in s _ place c.in_ok-notes.notes c.new-noter.ensures.now
          (c.in_ok-notes.ensures s c.args.fuel n m),
    )

pub returns-clause-ok : goal.returns-clause-ok
returns-clause-ok g c =
    let s = run_under c.args.setting.now in
    let place = c.new-noter.result.notes in
    let k = c.in_ok-world.ensures.ok in
    let n = k.4 place (λ n m v is.
    first_in s _ place c.in_ok-notes.notes c.new-noter.ensures.now (c.in_ok-notes.ensures s c.args.fuel n m)) in
    let same = n.same in
    (k.0, k.1, k.2, k.3, noted_there s k.0 place c.replay_by.new.legs.notes n _ (search rules))

pub returns-in_err-world-clause-fault : goal.returns-in_err-world-clause-fault
returns-in_err-world-clause-fault g c =
    handed (IsIllegal (run_under c.args.setting.now) c.args.fuel c.args.schedule.now)
    c.from_residual-in_err-world.result c.in_err-world.field-0.0 c.from_residual-in_err-world.ensures.1
    c.in_err-world.ensures.fault

pub returns-in_err-notes-clause-fault : goal.returns-in_err-notes-clause-fault
returns-in_err-notes-clause-fault g c =
    handed (IsIllegal (run_under c.args.setting.now) c.args.fuel c.args.schedule.now) c.from_residual.result
    fault.OutOfMemory c.from_residual.ensures.1 tt
