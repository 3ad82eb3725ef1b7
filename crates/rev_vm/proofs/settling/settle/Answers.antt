-- Answers of settle: collapse and reading keep what is stood for, and composing gives the join's state or trap.
use Rattle.std.proofs.Common.{◌∙◌, ap, map, sym, subst, arith}
use Rattle.rev_num.specs.declared.outcome.Cause.TheVariants as cause
use Rattle.version_map.specs.declared.end.Written.{Written}
use Rattle.version_map.specs.Deltas.{at}
use Rattle.version_map.specs.Overlay.{under}
use Rattle.block_run.specs.Remembering.{HasRoom, Kept, written_below}
use Rattle.block_run.proofs.Rooms.{room_kept}
use Rattle.version_map.specs.Composing.{composed, entries}
use Rattle.rev_vm.specs.NewWords.{IsMergedTo}
use Rattle.rev_vm.specs.Writes.{HasWritten}
use Rattle.rev_vm.proofs.Boxes.{same_claimed, same_line, same_ready, same_room}
use Rattle.rev_vm.proofs.Claims.{claimed_within}
use Rattle.rev_vm.proofs.Joins.{settled_run, settled_trap, values_many}
use Rattle.rev_vm.proofs.settling.settle.Goals as goal

pub merge_words-requires-clause-memory : goal.merge_words-requires-clause-memory
merge_words-requires-clause-memory g c = λ k d less.
    let w = claimed_within c.args.claimed k d less in
    let e = c.collapse.ensures.size in
    let f = ap (λ r. g.P.Snapshot.size r.memory.snapshot) c.deref_mut-inside.ensures.value in omega (arith, w, e, f)

pub merge_words-requires-clause-merges : goal.merge_words-requires-clause-merges
merge_words-requires-clause-merges g c = λ k d less.
    let w = claimed_within c.args.claimed k d less in
    let e = c.requires in omega (arith, w, e)

pub take_over-requires-clause-ready : goal.take_over-requires-clause-ready
take_over-requires-clause-ready g c = same_ready (sym c.deref_mut-inside.ensures.value) c.args.claimed.at.ready

pub take_over-requires-clause-within : goal.take_over-requires-clause-within
take_over-requires-clause-within g c = λ k d less.
    let w = claimed_within c.args.claimed k d less in
    let e = c.collapse.ensures.size in
    let f = ap (λ r. g.P.Snapshot.size r.memory.snapshot) c.deref_mut-inside.ensures.value in
    let h = c.merge_words.ensures.size in omega (arith, w, e, f, h)

pub take_over-requires-clause-many : goal.take_over-requires-clause-many
take_over-requires-clause-many g c =
    values_many (g.M.MergeBy.merges c.args.merges.now)
    (λ (w : Written). under c.collapse.new.into (g.P.Snapshot.base c.collapse.new.snapshot) w.location)
    c.args.claimed.end.written c.in-Ok-Words.values.items
    (subst (IsMergedTo (composed (g.M.MergeBy.merges c.args.merges.now)
    (map (λ (w : Written). under c.collapse.new.into (g.P.Snapshot.base c.collapse.new.snapshot) w.location)
    c.args.claimed.end.written)
    (entries c.args.claimed.end.written)))
    c.in-Ok-Words.field-0-is c.in-Ok-Words.ensures.merged)

pub stop_in_room-requires : goal.stop_in_room-requires
stop_in_room-requires g c =
    let size = c.merge_words.ensures.size ∙ c.collapse.ensures.size in
    let room = same_room (sym c.deref_mut-inside.ensures.value) c.args.claimed.at.room c.args.claimed.at.enough in
    subst (HasRoom c.args.claimed.at.room (at c.merge_words.new.memory.first.roots)) (sym size)
    (room_kept c.args.claimed.at.room (g.P.Snapshot.size c.deref_mut-inside.result.now.memory.snapshot)
    (under c.collapse.new.into (g.P.Snapshot.base c.collapse.new.snapshot))
    (under c.merge_words.new.memory.delta (g.P.Snapshot.base c.merge_words.new.memory.snapshot))
    (at c.deref_mut-inside.result.now.memory.first.roots) (at c.merge_words.new.memory.first.roots)
    (subst (λ z.
    Kept z (under c.collapse.new.into (g.P.Snapshot.base c.collapse.new.snapshot))
    (under c.merge_words.new.memory.delta (g.P.Snapshot.base c.merge_words.new.memory.snapshot))
    (at c.deref_mut-inside.result.now.memory.first.roots) (at c.merge_words.new.memory.first.roots))
    c.collapse.ensures.size c.merge_words.ensures.kept) room)

pub returns-in-Ok-Fault-clause-settled : goal.returns-in-Ok-Fault-clause-settled
returns-in-Ok-Fault-clause-settled g c = λ g' s j h0 are.
    let h = same_claimed (sym c.deref_mut-inside.ensures.value) g' c.args.claimed.at.is_try
    c.args.claimed.at.on c.args.claimed.end s j h0 in
    settled_trap g' c.deref_mut-inside.result.now.run c.deref_mut-inside.result.now.memory.delta
    (g.P.Snapshot.base c.deref_mut-inside.result.now.memory.snapshot) c.deref_mut-inside.result.now.memory.first.roots
    c.args.claimed.at.is_try c.args.claimed.at.on c.args.claimed.end s j h
    (g.M.MergeBy.merges c.args.merges.now) are
    (g.P.Snapshot.size c.deref_mut-inside.result.now.memory.snapshot)
    (sym c.deref_mut-inside.result.now.memory.written ∙ h.joiner.stands.size)
    (under c.collapse.new.into (g.P.Snapshot.base c.collapse.new.snapshot)) c.collapse.ensures.base
    (under c.merge_words.new.memory.delta (g.P.Snapshot.base c.merge_words.new.memory.snapshot))
    (at c.merge_words.new.memory.first.roots)
    (subst (λ z.
    Kept z (under c.collapse.new.into (g.P.Snapshot.base c.collapse.new.snapshot))
    (under c.merge_words.new.memory.delta (g.P.Snapshot.base c.merge_words.new.memory.snapshot))
    (at c.deref_mut-inside.result.now.memory.first.roots) (at c.merge_words.new.memory.first.roots))
    c.collapse.ensures.size c.merge_words.ensures.kept)
    c.in-Ok-Fault.trap (subst
    (IsMergedTo (composed (g.M.MergeBy.merges c.args.merges.now)
    (map (λ (w : Written). under c.collapse.new.into (g.P.Snapshot.base c.collapse.new.snapshot) w.location)
    c.args.claimed.end.written)
    (entries c.args.claimed.end.written)))
    c.in-Ok-Fault.field-0-is c.in-Ok-Fault.ensures.merged)
    c.stop_in_room.result.end
    (c.stop_in_room.ensures.written
    ∙ ap (written_below (under c.merge_words.new.memory.delta (g.P.Snapshot.base c.merge_words.new.memory.snapshot))
    (at c.merge_words.new.memory.first.roots)) (c.merge_words.ensures.size ∙ c.collapse.ensures.size))
    c.stop_in_room.ensures.text c.stop_in_room.ensures.fuel
    (c.stop_in_room.ensures.finish ∙ c.fault_at-finish.ensures
    ∙ same_line c.deref.ensures (cause.Merge c.in-Ok-Fault.trap.location c.in-Ok-Fault.trap.fault))

pub returns-in-Ok-clause-settled : goal.returns-in-Ok-clause-settled
returns-in-Ok-clause-settled g c = λ g' s j h0 are.
    let h = same_claimed (sym c.deref_mut-inside.ensures.value) g' c.args.claimed.at.is_try
    c.args.claimed.at.on c.args.claimed.end s j h0 in
    let r = settled_run g' c.deref_mut-inside.result.now.run c.deref_mut-inside.result.now.memory.delta
    (g.P.Snapshot.base c.deref_mut-inside.result.now.memory.snapshot) c.deref_mut-inside.result.now.memory.first.roots
    c.args.claimed.at.is_try c.args.claimed.at.on c.args.claimed.end s j h
    (g.M.MergeBy.merges c.args.merges.now) are
    (g.P.Snapshot.size c.deref_mut-inside.result.now.memory.snapshot)
    (sym c.deref_mut-inside.result.now.memory.written ∙ h.joiner.stands.size)
    (under c.collapse.new.into (g.P.Snapshot.base c.collapse.new.snapshot)) c.collapse.ensures.base
    c.in-Ok-Words.values.items
    (subst (IsMergedTo (composed (g.M.MergeBy.merges c.args.merges.now)
    (map (λ (w : Written). under c.collapse.new.into (g.P.Snapshot.base c.collapse.new.snapshot) w.location)
    c.args.claimed.end.written)
    (entries c.args.claimed.end.written)))
    c.in-Ok-Words.field-0-is c.in-Ok-Words.ensures.merged)
    (under c.merge_words.new.memory.delta (g.P.Snapshot.base c.merge_words.new.memory.snapshot))
    (under c.in-Ok.revision.value.memory.delta (g.P.Snapshot.base c.in-Ok.revision.value.memory.snapshot))
    (at c.merge_words.new.memory.first.roots) (at c.in-Ok.revision.value.memory.first.roots)
    (subst (λ z.
    Kept z (under c.collapse.new.into (g.P.Snapshot.base c.collapse.new.snapshot))
    (under c.merge_words.new.memory.delta (g.P.Snapshot.base c.merge_words.new.memory.snapshot))
    (at c.deref_mut-inside.result.now.memory.first.roots) (at c.merge_words.new.memory.first.roots))
    c.collapse.ensures.size c.merge_words.ensures.kept)
    (subst (λ z.
    HasWritten z c.args.claimed.end.written c.in-Ok-Words.values.items
    (under c.merge_words.new.memory.delta (g.P.Snapshot.base c.merge_words.new.memory.snapshot))
    (at c.merge_words.new.memory.first.roots)
    (under c.in-Ok.revision.value.memory.delta (g.P.Snapshot.base c.in-Ok.revision.value.memory.snapshot))
    (at c.in-Ok.revision.value.memory.first.roots))
    (c.merge_words.ensures.size ∙ c.collapse.ensures.size) c.in-Ok.ensures.wrote)
    c.in-Ok.revision.value.run c.in-Ok.ensures.taken
    (same_ready (sym c.deref_mut-inside.ensures.value) c.args.claimed.at.ready) in (
      r.next,
      r.is_next,
      record {
        verified = h.joiner.stands.verified;
        stands = r.stand;
        size = c.in-Ok.revision.value.memory.written ∙ c.in-Ok.ensures.size ∙ c.merge_words.ensures.size
            ∙ c.collapse.ensures.size ∙ sym c.deref_mut-inside.result.now.memory.written ∙ h.joiner.stands.size;
      },
    )

pub returns-in-Err-clause-broken_collapsed : goal.returns-in-Err-clause-broken_collapsed
returns-in-Err-clause-broken_collapsed g c =
    let h = c.collapse.ensures.collapsed in (
      h.0,
      h.1,
      subst (λ s. g.P.Snapshot.answered s h.0) (sym c.break_off.ensures) (c.merge_words.ensures.answered h.0 h.2),
    )

pub returns-in-Ok-Fault-clause-collapsed : goal.returns-in-Ok-Fault-clause-collapsed
returns-in-Ok-Fault-clause-collapsed g c =
    let h = c.collapse.ensures.collapsed in (
      h.0,
      h.1,
      c.stop_in_room.ensures.answered h.0 (c.merge_words.ensures.answered h.0 h.2),
    )

pub returns-in-Ok-clause-collapsed : goal.returns-in-Ok-clause-collapsed
returns-in-Ok-clause-collapsed g c =
    let h = c.collapse.ensures.collapsed in
    (h.0, h.1, c.in-Ok.ensures.answered h.0 (c.merge_words.ensures.answered h.0 h.2))

pub returns-clause-broken_collapsed : goal.returns-clause-broken_collapsed
returns-clause-broken_collapsed g c =
    let h = c.collapse.ensures.collapsed in
    (h.0, h.1, c.in-Err-take_over.ensures.broken_answered h.0 (c.merge_words.ensures.answered h.0 h.2))

pub returns-in-Err-clause-merges_size : goal.returns-in-Err-clause-merges_size
returns-in-Err-clause-merges_size g c = c.merge_words.ensures.merges_size

pub returns-in-Err-clause-merges_same : goal.returns-in-Err-clause-merges_same
returns-in-Err-clause-merges_same g c = c.merge_words.ensures.merges_same

pub returns-in-Ok-Fault-clause-merges_size : goal.returns-in-Ok-Fault-clause-merges_size
returns-in-Ok-Fault-clause-merges_size g c = c.merge_words.ensures.merges_size

pub returns-in-Ok-Fault-clause-merges_same : goal.returns-in-Ok-Fault-clause-merges_same
returns-in-Ok-Fault-clause-merges_same g c = c.merge_words.ensures.merges_same

pub returns-in-Ok-clause-merges_size : goal.returns-in-Ok-clause-merges_size
returns-in-Ok-clause-merges_size g c = c.merge_words.ensures.merges_size

pub returns-in-Ok-clause-merges_same : goal.returns-in-Ok-clause-merges_same
returns-in-Ok-clause-merges_same g c = c.merge_words.ensures.merges_same

pub returns-clause-merges_size : goal.returns-clause-merges_size
returns-clause-merges_size g c = c.merge_words.ensures.merges_size

pub returns-clause-merges_same : goal.returns-clause-merges_same
returns-clause-merges_same g c = c.merge_words.ensures.merges_same
