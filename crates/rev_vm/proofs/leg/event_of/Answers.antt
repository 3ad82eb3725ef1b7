-- Answers of event_of: each way in which a leg ends is the event to which the definition's leg leads.
use Rattle.std.proofs.Common.{◌∙◌, sym, subst}
use Rattle.rev_vm.specs.Legs.{HasComeTo}
use Rattle.rev_vm.proofs.Boxes.{same_joining, same_line}
use Rattle.rev_vm.proofs.Legs.{end_event, fork_event, join_event_as, ready, trap_event, trap_own}
use Rattle.rev_vm.proofs.leg.event_of.Goals as goal

pub returns-in-Fork-clause-event : goal.returns-in-Fork-clause-event
returns-in-Fork-clause-event g c = λ r st h.
    let k = subst (λ e.
    HasComeTo r st e c.args.revision.value.run c.args.revision.value.memory.delta
    (g.P.Snapshot.base c.args.revision.value.memory.snapshot) c.args.revision.value.memory.first.roots)
    c.in-Fork.is h in
    fork_event r k.verified st c.args.revision.value.run c.args.revision.value.memory.delta
    (g.P.Snapshot.base c.args.revision.value.memory.snapshot) c.args.revision.value.memory.first.roots
    c.in-Fork.block k.ends k.size

pub at_join-requires : goal.at_join-requires
at_join-requires g c =
    let q = c.requires.come in
    let k = subst (λ e.
    HasComeTo q.0 q.1 e c.args.revision.value.run c.args.revision.value.memory.delta
    (g.P.Snapshot.base c.args.revision.value.memory.snapshot) c.args.revision.value.memory.first.roots)
    c.in-Join.is q.2 in
    ready q.0 k.verified q.1 c.args.revision.value.run c.args.revision.value.memory.delta
    (g.P.Snapshot.base c.args.revision.value.memory.snapshot) c.args.revision.value.memory.first.roots
    c.in-Join.is_try c.in-Join.on k.ends

pub returns-in_ok-joiner-in-Join-clause-event : goal.returns-in_ok-joiner-in-Join-clause-event
returns-in_ok-joiner-in-Join-clause-event g c = λ r st h.
    let k = subst (λ e.
    HasComeTo r st e c.args.revision.value.run c.args.revision.value.memory.delta
    (g.P.Snapshot.base c.args.revision.value.memory.snapshot) c.args.revision.value.memory.first.roots)
    c.in-Join.is h in
    let e = join_event_as r k.verified st c.args.revision.value.run c.args.revision.value.memory.delta
    (g.P.Snapshot.base c.args.revision.value.memory.snapshot) c.args.revision.value.memory.first.roots
    c.in-Join.is_try c.in-Join.on k.ends c.in_ok-joiner-in-Join.joiner.revision.value.run
    c.in_ok-joiner-in-Join.ensures.noted c.in_ok-joiner-in-Join.joiner.is_try c.in_ok-joiner-in-Join.joiner.on
    c.in_ok-joiner-in-Join.ensures.tries c.in_ok-joiner-in-Join.ensures.on k.size in (
      e.0,
      e.1,
      same_joining (sym c.in_ok-joiner-in-Join.ensures.memory) r c.in_ok-joiner-in-Join.joiner.revision.value.run
          c.in_ok-joiner-in-Join.joiner.is_try c.in_ok-joiner-in-Join.joiner.on e.0 e.2,
    )

pub returns-in_ok-ended-in-End-clause-event : goal.returns-in_ok-ended-in-End-clause-event
returns-in_ok-ended-in-End-clause-event g c = λ r st h.
    let k = subst (λ e.
    HasComeTo r st e c.args.revision.value.run c.args.revision.value.memory.delta
    (g.P.Snapshot.base c.args.revision.value.memory.snapshot) c.args.revision.value.memory.first.roots)
    c.in-End.is h in
    end_event r k.verified st c.args.revision.value.run c.args.revision.value.memory.delta
    (g.P.Snapshot.base c.args.revision.value.memory.snapshot) c.args.revision.value.memory.first.roots
    (g.P.Snapshot.size c.args.revision.value.memory.snapshot)
    (sym c.args.revision.value.memory.written ∙ k.size) c.in_ok-ended-in-End.ended.end
    c.in_ok-ended-in-End.ensures.written c.in_ok-ended-in-End.ensures.text c.in_ok-ended-in-End.ensures.fuel
    k.ends c.in_ok-ended-in-End.ensures.finish

pub returns-in_ok-stopped-in-Trap-clause-event : goal.returns-in_ok-stopped-in-Trap-clause-event
returns-in_ok-stopped-in-Trap-clause-event g c = λ r st h.
    let k = subst (λ e.
    HasComeTo r st e c.args.revision.value.run c.args.revision.value.memory.delta
    (g.P.Snapshot.base c.args.revision.value.memory.snapshot) c.args.revision.value.memory.first.roots)
    c.in-Trap.is h in
    trap_event r k.verified st c.args.revision.value.run c.args.revision.value.memory.delta
    (g.P.Snapshot.base c.args.revision.value.memory.snapshot) c.args.revision.value.memory.first.roots
    (g.P.Snapshot.size c.args.revision.value.memory.snapshot)
    (sym c.args.revision.value.memory.written ∙ k.size) c.in_ok-stopped-in-Trap.stopped.end
    c.in_ok-stopped-in-Trap.ensures.written c.in_ok-stopped-in-Trap.ensures.text
    c.in_ok-stopped-in-Trap.ensures.fuel c.in-Trap.cause k.ends
    (c.in_ok-stopped-in-Trap.ensures.finish ∙ c.own_trap-finish.ensures ∙ same_line c.deref.ensures c.in-Trap.cause)

pub returns-in_ok-stopped-in-Trap-clause-own : goal.returns-in_ok-stopped-in-Trap-clause-own
returns-in_ok-stopped-in-Trap-clause-own g c =
    let q = c.requires.come in
    let k = subst (λ e.
    HasComeTo q.0 q.1 e c.args.revision.value.run c.args.revision.value.memory.delta
    (g.P.Snapshot.base c.args.revision.value.memory.snapshot) c.args.revision.value.memory.first.roots)
    c.in-Trap.is q.2 in
    trap_own q.0 k.verified q.1 c.args.revision.value.run c.args.revision.value.memory.delta
    (g.P.Snapshot.base c.args.revision.value.memory.snapshot) c.args.revision.value.memory.first.roots
    (g.P.Snapshot.size c.args.revision.value.memory.snapshot)
    (sym c.args.revision.value.memory.written ∙ k.size) c.in_ok-stopped-in-Trap.stopped.end
    c.in_ok-stopped-in-Trap.ensures.written c.in_ok-stopped-in-Trap.ensures.text
    c.in_ok-stopped-in-Trap.ensures.fuel c.in-Trap.cause k.ends
    (c.in_ok-stopped-in-Trap.ensures.finish ∙ c.own_trap-finish.ensures ∙ same_line c.deref.ensures c.in-Trap.cause)
