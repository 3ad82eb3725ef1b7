-- Answers of meet_done: the claim of the end settles as the definition's join does: the joiner runs on or traps.
use Rattle.std.proofs.Common.{◌∙◌, refl, sym, subst}
use Rattle.code_machine.specs.Local.{end_of}
use Rattle.rev_vm.specs.Meaning.{IsEnd}
use Rattle.code_world.specs.LegOutcomes.{meets}
use Rattle.code_world.proofs.Coming.{is_claimed, fuels_fit, meets_is}
use Rattle.code_world.proofs.advance.meet_done.Goals as goal

pub claim-requires-clause-fuel : goal.claim-requires-clause-fuel
claim-requires-clause-fuel g c = let q = c.requires.meeting in fuels_fit q.0 c.args.at c.args.end q.1 q.2 q.3

pub claim-requires-clause-of : goal.claim-requires-clause-of
claim-requires-clause-of g c =
    let q = c.requires.meeting in
    let k = is_claimed q.0 c.args.at c.args.at c.args.end c.args.end q.1 q.2 refl refl q.3 c.requires.done in
    (q.0, q.1, q.2, k.joiner, k.joinee)

pub settle-requires : goal.settle-requires
settle-requires g c =
    let q = c.requires.meeting in
    let k = is_claimed q.0 c.args.at c.claim.result.at c.args.end c.claim.result.end q.1 q.2 c.claim.ensures.at
    c.claim.ensures.end q.3 c.requires.done in
    q.4 ∙ sym k.joiner.stands.size ∙ c.claim.result.at.revision.value.memory.written

pub returns-in-Ok-Run-clause-met : goal.returns-in-Ok-Run-clause-met
returns-in-Ok-Run-clause-met g c = λ r s j m are.
    let k = rw c.in-Ok-Run.field-0-is at
    (c.in-Ok-Run.ensures.settled r s j
    (is_claimed r c.args.at c.claim.result.at c.args.end c.claim.result.end s j c.claim.ensures.at c.claim.ensures.end m
    c.requires.done)
    are) in
    (k.0, sym (meets_is r c.args.at c.claim.result.at s j c.claim.ensures.at) ∙ k.1, k.2)

pub returns-in-Ok-Trap-clause-met : goal.returns-in-Ok-Trap-clause-met
returns-in-Ok-Trap-clause-met g c = λ r s j m are.
    let k = rw c.in-Ok-Trap.field-0-is at
    (c.in-Ok-Trap.ensures.settled r s j
    (is_claimed r c.args.at c.claim.result.at c.args.end c.claim.result.end s j c.claim.ensures.at c.claim.ensures.end m
    c.requires.done)
    are) in
    subst (IsEnd r (end_of (meets r c.args.at s j))) (sym c.retire.ensures.end)
    (subst (λ l. IsEnd r (end_of l) c.in-Ok-Trap.stopped.end)
    (meets_is r c.args.at c.claim.result.at s j c.claim.ensures.at) k)

pub returns-in-Ok-Run-clause-size : goal.returns-in-Ok-Run-clause-size
returns-in-Ok-Run-clause-size g c = c.in-Ok-Run.ensures.merges_size

pub returns-in-Ok-Run-clause-same : goal.returns-in-Ok-Run-clause-same
returns-in-Ok-Run-clause-same g c = c.in-Ok-Run.ensures.merges_same

pub returns-in-Ok-Trap-clause-size : goal.returns-in-Ok-Trap-clause-size
returns-in-Ok-Trap-clause-size g c = c.in-Ok-Trap.ensures.merges_size

pub returns-in-Ok-Trap-clause-same : goal.returns-in-Ok-Trap-clause-same
returns-in-Ok-Trap-clause-same g c = c.in-Ok-Trap.ensures.merges_same

pub returns-in-Err-clause-size : goal.returns-in-Err-clause-size
returns-in-Err-clause-size g c = c.in-Err.ensures.merges_size

pub returns-in-Err-clause-same : goal.returns-in-Err-clause-same
returns-in-Err-clause-same g c = c.in-Err.ensures.merges_same
