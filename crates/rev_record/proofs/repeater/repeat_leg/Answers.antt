-- Answers of repeat_leg: an end that is taken over is the leg's, and is counted once; without one the leg is made.
use Rattle.std.proofs.Common.{◌+◌, sym, subst, refl, arith}
use Rattle.code_machine_laws.specs.Reached.{IsReached}
use Rattle.code_world.specs.Answers.{LegAnswers}
use Rattle.code_world.specs.Tables.{IsWorld}
use Rattle.world_runs.specs.KeptByLegs.{KeepsOn}
use Rattle.rev_vm.specs.Starts.{run_under}
use Rattle.rev_record.specs.Legs.{IsRepeated}
use Rattle.rev_record.proofs.Legs.{fresh_live}
use Rattle.rev_record.proofs.Recorded.{keeps_made}
use Rattle.rev_record.proofs.Repeated.{few_taken, repeated_on, repeated_more}
use Rattle.rev_record.proofs.repeater.repeat_leg.Goals as goal

pub known_end-requires : goal.known_end-requires
known_end-requires g c =
    let q = c.requires.reached in
    let s = run_under c.args.setting.now in
    let x = fresh_live s c.args.world q.0 c.args.revision c.args.start.now q.6 in
    let rep = subst (λ z. IsRepeated s q.3 q.4 z c.args.memo.now.entries.items c.args.reused.now) x.is q.5 in
    (x.entries, q.3, q.4, rep.from, subst (IsWorld s c.args.world) x.is q.2, rep.stand, x.stands)

pub overflow_add-reused : goal.overflow_add-reused
overflow_add-reused g c =
    let q = c.requires.reached in
    let few =
    few_taken (run_under c.args.setting.now) c.args.setting.now.faultless q.3 q.4 c.args.memo.now.entries.items
    c.args.reused.now q.0 q.5 in
    omega (arith, few)

pub adopt-requires : goal.adopt-requires
adopt-requires g c =
    let q = c.requires.reached in
    let s = run_under c.args.setting.now in
    let x = fresh_live s c.args.world q.0 c.args.revision c.args.start.now q.6 in
    let rep = subst (λ z. IsRepeated s q.3 q.4 z c.args.memo.now.entries.items c.args.reused.now) x.is q.5 in
    let stands = subst (IsWorld s c.args.world) x.is q.2 in
    let taken =
    rw c.in-Ok-Some.field-0-is at (c.in-Ok-Some.ensures x.entries q.3 q.4 rep.from stands rep.stand x.stands) in
    (s, x.entries, c.args.setting.now.faultless, subst (IsReached s) x.is q.1, stands, taken.4)

pub returns-in-Ok-Some-clause-answer : goal.returns-in-Ok-Some-clause-answer
returns-in-Ok-Some-clause-answer g c = λ w reached stood fuel es counted fresh.
    let s = run_under c.args.setting.now in
    let x = fresh_live s c.args.world w c.args.revision c.args.start.now fresh in
    let rep = subst (λ z. IsRepeated s fuel es z c.args.memo.now.entries.items c.args.reused.now) x.is counted in
    let stands = subst (IsWorld s c.args.world) x.is stood in
    let taken =
    rw c.in-Ok-Some.field-0-is at (c.in-Ok-Some.ensures x.entries fuel es rep.from stands rep.stand x.stands) in
    subst (λ z. LegAnswers s z c.args.revision c.adopt.result.1 c.adopt.result.0) (sym x.is)
    (c.adopt.ensures.answer s x.entries c.args.setting.now.faultless (subst (IsReached s) x.is reached) stands taken.4)

pub returns-in-Ok-Some-clause-kept : goal.returns-in-Ok-Some-clause-kept
returns-in-Ok-Some-clause-kept g c = λ w reached stood fuel es counted fresh.
    let s = run_under c.args.setting.now in
    let ok = c.args.setting.now.faultless in
    let ks = c.args.memo.now.entries.items in
    let x = fresh_live s c.args.world w c.args.revision c.args.start.now fresh in
    let rep = subst (λ z. IsRepeated s fuel es z ks c.args.reused.now) x.is counted in
    let stands = subst (IsWorld s c.args.world) x.is stood in
    let taken =
    rw c.in-Ok-Some.field-0-is at (c.in-Ok-Some.ensures x.entries fuel es rep.from stands rep.stand x.stands) in
    subst (λ z. KeepsOn (λ u. IsRepeated s fuel es u ks (c.args.reused.now + 1)) s z c.args.revision c.adopt.result.1)
    (sym x.is)
    (keeps_made s x.entries c.args.revision taken.0 taken.1 taken.2
    (λ u. IsRepeated s fuel es u ks (c.args.reused.now + 1)) c.adopt.result.1 c.adopt.result.0
    (c.adopt.ensures.answer s x.entries ok (subst (IsReached s) x.is reached) stands taken.4)
    (λ u e. repeated_more s ok fuel es ks c.args.reused.now x.entries c.args.revision rep c.in-Ok-Some.end taken u e
    (c.args.reused.now + 1) refl))

pub returns-in_ok-made-in-Ok-None-clause-kept : goal.returns-in_ok-made-in-Ok-None-clause-kept
returns-in_ok-made-in-Ok-None-clause-kept g c = λ w reached stood fuel es counted fresh.
    let s = run_under c.args.setting.now in
    let ok = c.args.setting.now.faultless in
    let ks = c.args.memo.now.entries.items in
    let x = fresh_live s c.args.world w c.args.revision c.args.start.now fresh in
    let rep = subst (λ z. IsRepeated s fuel es z ks c.args.reused.now) x.is counted in
    let stands = subst (IsWorld s c.args.world) x.is stood in
    let refused =
    rw c.in-Ok-None.field-0-is at (c.in-Ok-None.ensures x.entries fuel es rep.from stands rep.stand x.stands) in
    subst
    (λ z. KeepsOn (λ u. IsRepeated s fuel es u ks c.args.reused.now) s z c.args.revision c.in_ok-made-in-Ok-None.made.1)
    (sym x.is)
    (repeated_on s ok fuel es ks c.args.reused.now x.entries c.args.revision rep refused c.in_ok-made-in-Ok-None.made.1)
