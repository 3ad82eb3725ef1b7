-- Answers of Repeater::leg: the leg of a revision that is not fresh counts nothing, and a fresh one's is repeated.
use Rattle.rev_vm.specs.Starts.{run_under}
use Rattle.rev_record.proofs.Repeated.{repeated_old}
use Rattle.rev_record.proofs.repeater.RepeaterLegs.leg.Goals as goal

pub fresh-requires : goal.fresh-requires
fresh-requires g c = let q = c.requires.reached in (q.0, q.1, q.2)

pub leg-requires-clause-reached : goal.leg-requires-clause-reached
leg-requires-clause-reached g c = let q = c.requires.reached in (q.0, q.1, q.2)

pub repeat_leg-requires-clause-reached : goal.repeat_leg-requires-clause-reached
repeat_leg-requires-clause-reached g c =
    let q = c.requires.reached in
    (q.0, q.1, q.2, q.3.0, q.3.1, q.4, rw c.in-Some.is at (c.in-Ok.ensures q.0 q.1 q.2))

pub returns-in_ok-made-in-None-clause-kept : goal.returns-in_ok-made-in-None-clause-kept
returns-in_ok-made-in-None-clause-kept g c = λ w reached stands told rep.
    let s = run_under c.args.setting.now in
    let none = rw c.in-None.is at (c.in-Ok.ensures w reached stands) in
    repeated_old s c.args.setting.now.faultless told.0 told.1 c.args.self.now.memo.now.entries.items
    c.args.self.now.reused c.args.world w c.args.revision stands none rep c.in_ok-made-in-None.made.1

pub returns-in_ok-made-in-Some-clause-kept : goal.returns-in_ok-made-in-Some-clause-kept
returns-in_ok-made-in-Some-clause-kept g c = λ w reached stands told rep.
    let begun = rw c.in-Some.is at (c.in-Ok.ensures w reached stands) in
    c.in_ok-made-in-Some.ensures.kept w reached stands told.0 told.1 rep begun

pub returns-in_ok-made-in-Some-clause-answer : goal.returns-in_ok-made-in-Some-clause-answer
returns-in_ok-made-in-Some-clause-answer g c = λ w reached stands told rep.
    let begun = rw c.in-Some.is at (c.in-Ok.ensures w reached stands) in
    c.in_ok-made-in-Some.ensures.answer w reached stands told.0 told.1 rep begun
