-- Answers of meet_done: the claim stands for the states of joiner and joinee, and so does what settle gives.
use Rattle.std.proofs.Common.{◌∙◌, sym}
use Rattle.rev_vm.specs.Starts.{run_under}
use Rattle.machine_cases.proofs.Steps.{claimed, settles}
use Rattle.machine_cases.proofs.driver.meet_done.Goals as goal

pub claim-requires-clause-of : goal.claim-requires-clause-of
claim-requires-clause-of g c =
    (run_under c.args.setting.now, c.requires.stands.0, c.requires.ended.0, c.requires.stands.1, c.requires.ended.1)

pub settle-requires : goal.settle-requires
settle-requires g c =
    let q = c.requires.stands in
    let j = c.requires.ended in
    let k = claimed (run_under c.args.setting.now) c.args.at c.args.end c.claim.result q.0 j.0 q.1 j.1 c.requires.done
    c.claim.ensures.at c.claim.ensures.end in
    c.requires.size ∙ sym k.joiner.stands.size ∙ c.claim.result.at.revision.value.memory.written

pub returns-in-Ok-clause-settled : goal.returns-in-Ok-clause-settled
returns-in-Ok-clause-settled g c =
    let q = c.requires.stands in
    let j = c.requires.ended in
    let k = claimed (run_under c.args.setting.now) c.args.at c.args.end c.claim.result q.0 j.0 q.1 j.1 c.requires.done
    c.claim.ensures.at c.claim.ensures.end in
    settles (run_under c.args.setting.now) q.0 c.claim.result.at.is_try c.claim.result.at.on j.0 c.in-Ok.settled
    (c.in-Ok.ensures.settled (run_under c.args.setting.now) q.0 j.0 k c.requires.merges)
