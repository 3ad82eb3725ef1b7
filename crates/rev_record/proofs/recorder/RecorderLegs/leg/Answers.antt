-- Answers of Recorder::leg: the leg of a revision that is not fresh adds no entry, and a fresh one's is recorded.
use Rattle.rev_vm.specs.Starts.{run_under}
use Rattle.rev_record.proofs.Recorded.{recorded_old}
use Rattle.rev_record.proofs.recorder.RecorderLegs.leg.Goals as goal

pub fresh-requires : goal.fresh-requires
fresh-requires g c = let q = c.requires.reached in (q.0, q.1, q.2)

pub leg-requires-clause-reached : goal.leg-requires-clause-reached
leg-requires-clause-reached g c = let q = c.requires.reached in (q.0, q.1, q.2)

pub returns-in_ok-made-in-None-clause-kept : goal.returns-in_ok-made-in-None-clause-kept
returns-in_ok-made-in-None-clause-kept g c = λ w reached stands fuel rec.
    let s = run_under c.args.setting.now in
    let none = rw c.in-None.is at (c.in-Ok.ensures w reached stands) in
    recorded_old s c.args.setting.now.faultless fuel c.args.self.now.entries.items c.args.world w c.args.revision stands
    none rec c.in_ok-made-in-None.made.1

pub returns-in_ok-made-in-Some-clause-kept : goal.returns-in_ok-made-in-Some-clause-kept
returns-in_ok-made-in-Some-clause-kept g c = λ w reached stands fuel rec.
    let begun = rw c.in-Some.is at (c.in-Ok.ensures w reached stands) in
    c.in_ok-made-in-Some.ensures.kept w reached stands fuel rec begun

pub record_leg-requires-clause-reached : goal.record_leg-requires-clause-reached
record_leg-requires-clause-reached g c =
    let q = c.requires.reached in
    (q.0, q.1, q.2, q.3, q.4, rw c.in-Some.is at (c.in-Ok.ensures q.0 q.1 q.2))
