-- `advance_noting`: as `advance`, and what was noted.
use Rattle.std.proofs.Common.{refl, sym, subst}
use Rattle.std.proofs.lemmas.Result.{IfOk-weaker}
use Rattle.code_machine.specs.Local.{done, end_of, has_ended}
use Rattle.rev_vm.specs.Legs.{trap_of}
use Rattle.rev_vm.specs.Meaning.{IsEnd}
use Rattle.rev_vm.specs.Starts.{run_under}
use Rattle.code_world.proofs.Coming.{has_ended_done, has_ended_trapped}
use Rattle.code_world.proofs.advance.advance_noting.Goals as goal

pub run_leg_noting-requires-clause-stands : goal.run_leg_noting-requires-clause-stands
run_leg_noting-requires-clause-stands c = c.requires.stands

pub fork-requires : goal.fork-requires
fork-requires c =
    let e = rw c.in-Ok-Fork.field-0-is at (c.in-Ok-Fork.ensures.event c.requires.stands.0 c.requires.stands.1) in
    record { stands = (e.0, e.1, e.3) }

pub returns-in-Ok-Fork-clause-come : goal.returns-in-Ok-Fork-clause-come
returns-in-Ok-Fork-clause-come c = λ s runs.
    let e = rw c.in-Ok-Fork.field-0-is at (c.in-Ok-Fork.ensures.event s runs) in
    c.fork.ensures s e.0 e.1 e.2 e.3

pub returns-in-Ok-Join-clause-come : goal.returns-in-Ok-Join-clause-come
returns-in-Ok-Join-clause-come c = λ s runs.
    let e = rw c.in-Ok-Join.field-0-is at (c.in-Ok-Join.ensures.event s runs) in
    (s, refl, e.0, e.1, e.2)

pub returns-in-Ok-End-clause-come : goal.returns-in-Ok-End-clause-come
returns-in-Ok-End-clause-come c = λ s runs.
    let e = rw c.in-Ok-End.field-0-is at (c.in-Ok-End.ensures.event s runs) in
    has_ended_done (run_under c.args.setting.now) s e.0 e.1 e.2 c.retire.result.0
    (subst (IsEnd (run_under c.args.setting.now) (end_of (has_ended e.0 done))) (sym c.retire.ensures.end) e.3)

pub returns-in-Ok-Trap-clause-come : goal.returns-in-Ok-Trap-clause-come
returns-in-Ok-Trap-clause-come c = λ s runs.
    let e = rw c.in-Ok-Trap.field-0-is at (c.in-Ok-Trap.ensures.event s runs) in
    has_ended_trapped (run_under c.args.setting.now) s e.0 e.1 e.2 c.retire-in-Ok-Trap.result.0
    (subst (IsEnd (run_under c.args.setting.now) (end_of (has_ended e.0 (trap_of e.0 e.1))))
    (sym c.retire-in-Ok-Trap.ensures.end) e.3)

pub returns-in-Ok-Fork-clause-read : goal.returns-in-Ok-Fork-clause-read
returns-in-Ok-Fork-clause-read c = λ s runs. IfOk-weaker c.fork.result _ _ (λ k h. c.in-Ok-Fork.ensures.noted s runs)
    (let e = rw c.in-Ok-Fork.field-0-is at (c.in-Ok-Fork.ensures.event s runs) in c.fork.ensures s e.0 e.1 e.2 e.3)

pub returns-in-Ok-Join-clause-read : goal.returns-in-Ok-Join-clause-read
returns-in-Ok-Join-clause-read c = λ s runs. c.in-Ok-Join.ensures.noted s runs

pub returns-in-Ok-End-clause-read : goal.returns-in-Ok-End-clause-read
returns-in-Ok-End-clause-read c = λ s runs. c.in-Ok-End.ensures.noted s runs

pub returns-in-Ok-Trap-clause-read : goal.returns-in-Ok-Trap-clause-read
returns-in-Ok-Trap-clause-read c = λ s runs. c.in-Ok-Trap.ensures.noted s runs
