-- Answers of run_leg_noting: the leg of each state for which the revision stood has ended as its instructions have,
-- so the event is its.
use Rattle.std.proofs.Common.{◌∙◌, sym}
use Rattle.std.proofs.lemmas.Result.{IfOk-weaker}
use Rattle.rev_vm.specs.Starts.{run_under}
use Rattle.rev_vm.proofs.Reading.{noted_at}
use Rattle.rev_vm.proofs.Boxes.{same_at, same_some}
use Rattle.rev_vm.proofs.Legs.{come_to, own}
use Rattle.rev_vm.proofs.noting.run_leg_noting.Goals as goal

pub run_noting-requires-clause-size : goal.run_noting-requires-clause-size
run_noting-requires-clause-size g c =
    sym c.deref_mut.result.now.memory.written
    ∙ (same_some (sym c.deref_mut.ensures.value) (run_under c.args.setting.now) (
      c.requires.stands.0,
      c.in_ok-revision.ensures.state c.requires.stands.0 c.requires.stands.1,
    )).1.size

pub run_noting-requires-clause-stands : goal.run_noting-requires-clause-stands
run_noting-requires-clause-stands g c =
    let q = same_some (sym c.deref_mut.ensures.value) (run_under c.args.setting.now) (
      c.requires.stands.0,
      c.in_ok-revision.ensures.state c.requires.stands.0 c.requires.stands.1,
    ) in
    own (run_under c.args.setting.now) c.deref_mut.result.now.run c.deref_mut.result.now.memory.delta
    (g.P.Snapshot.base c.deref_mut.result.now.memory.snapshot) c.deref_mut.result.now.memory.first.roots q.0 q.1

pub event_of-requires : goal.event_of-requires
event_of-requires g c =
    let q = same_some (sym c.deref_mut.ensures.value) (run_under c.args.setting.now) (
      c.requires.stands.0,
      c.in_ok-revision.ensures.state c.requires.stands.0 c.requires.stands.1,
    ) in record {
      come = (
        run_under c.args.setting.now,
        q.0,
        come_to (run_under c.args.setting.now) c.deref_mut.result.now.run c.deref_mut.result.now.memory.delta
            (g.P.Snapshot.base c.deref_mut.result.now.memory.snapshot) c.deref_mut.result.now.memory.first.roots q.0 q.1
            c.in-Ok.end c.run_noting.new.revision.run c.run_noting.new.revision.memory.delta
            (g.P.Snapshot.base c.run_noting.new.revision.memory.snapshot) c.run_noting.new.revision.memory.first.roots
            c.in-Ok.ensures.leg
            (c.run_noting.new.revision.memory.written ∙ c.in-Ok.ensures.size ∙ sym c.deref_mut.result.now.memory.written
            ∙ q.1.size),
      );
    }

pub returns-in-Ok-clause-event : goal.returns-in-Ok-clause-event
returns-in-Ok-clause-event g c = λ st h0.
    let h = same_at (sym c.deref_mut.ensures.value) (run_under c.args.setting.now) st
    (c.in_ok-revision.ensures.state st h0) in
    c.event_of.ensures.event (run_under c.args.setting.now) st
    (come_to (run_under c.args.setting.now) c.deref_mut.result.now.run c.deref_mut.result.now.memory.delta
    (g.P.Snapshot.base c.deref_mut.result.now.memory.snapshot) c.deref_mut.result.now.memory.first.roots st h
    c.in-Ok.end c.run_noting.new.revision.run c.run_noting.new.revision.memory.delta
    (g.P.Snapshot.base c.run_noting.new.revision.memory.snapshot) c.run_noting.new.revision.memory.first.roots
    c.in-Ok.ensures.leg
    (c.run_noting.new.revision.memory.written ∙ c.in-Ok.ensures.size ∙ sym c.deref_mut.result.now.memory.written
    ∙ h.size))

pub returns-in-Ok-clause-noted : goal.returns-in-Ok-clause-noted
returns-in-Ok-clause-noted g c = λ st h.
    IfOk-weaker c.event_of.result _ _ (λ _ _.
    noted_at (run_under c.args.setting.now) c.deref_mut.result.now.run c.deref_mut.result.now.memory.delta
    (g.P.Snapshot.base c.deref_mut.result.now.memory.snapshot) c.deref_mut.result.now.memory.first.roots st
    (same_at (sym c.deref_mut.ensures.value) (run_under c.args.setting.now) st (c.in_ok-revision.ensures.state st h))
    c.args.noted.now
    c.run_noting.new.noted c.in-Ok.ensures.noted)
    c.event_of.ensures.group
