-- Answers of give_hands: the merges taken last make one hand more of this setting, fuel and store.
use Rattle.std.proofs.Common.{◌≡◌, ◌+◌, length, Some, ap, ◌∙◌, arith}
use Rattle.std.proofs.lemmas.List.Elements.{All-pop, All-push, All-same}
use Rattle.segment_store.specs.Names.{IsOf, IsSameHold}
use Rattle.hub_core.proofs.Lists.{many_more}
use Rattle.segment_store.specs.Group.{store_group}
use Rattle.rev_workers.specs.Hands.{AreMergesFor, IsHandFor}
use Rattle.rev_workers.proofs.Opened.{last_of}
use Rattle.rev_workers.proofs.hands.give_hands.Goals as goal

pub new-requires-clause-size : goal.new-requires-clause-size
new-requires-clause-size g c =
    (All-pop (AreMergesFor g.M.MergeBy.size g.M.MergeBy.merges c.args.setting.now) c.loop.rest.items
    c.take_last-merges.new.list.items (Some c.take_last-merges.result) c.take_last-merges.ensures.items
    c.loop.invariant.0).1.0

pub new-requires-clause-merges : goal.new-requires-clause-merges
new-requires-clause-merges g c =
    (All-pop (AreMergesFor g.M.MergeBy.size g.M.MergeBy.merges c.args.setting.now) c.loop.rest.items
    c.take_last-merges.new.list.items (Some c.take_last-merges.result) c.take_last-merges.ensures.items
    c.loop.invariant.0).1.1

pub loop-preserved : goal.loop-preserved
loop-preserved g c =
    let i = c.loop.invariant in
    let m = All-pop (AreMergesFor g.M.MergeBy.size g.M.MergeBy.merges c.args.setting.now) c.loop.rest.items
    c.take_last-merges.new.list.items (Some c.take_last-merges.result) c.take_last-merges.ensures.items i.0 in
    let a : length c.loop.rest.items ≡ length c.take_last-merges.new.list.items + 1 =
    ap length c.take_last-merges.ensures.items
    ∙ many_more c.take_last-merges.new.list.items c.take_last-merges.result in
    let b : length c.append.new.list.items ≡ length c.loop.hands.items + 1 =
    ap length c.append.ensures.items ∙ many_more c.loop.hands.items c.new.result in
    let left = i.4 in
    let done = i.5 in
    let room = i.6 in
    let more = c.append.ensures.capacity in
    let same =
    last_of {A = IsOf c.args.store.now c.new-keeper.new.hold} {B = IsSameHold c.loop.hold c.new-keeper.new.hold}
    c.new-keeper.ensures.own in (
      m.0,
      All-same (IsHandFor c.args.setting.now c.args.fuel c.args.store.now) c.append.new.list.items _
          c.append.ensures.items
          (All-push (IsHandFor c.args.setting.now c.args.fuel c.args.store.now) c.loop.hands.items c.new.result i.1
          (c.new.ensures.run, c.new.ensures.fuel, c.new.ensures.group ∙ ap store_group c.new-keeper.ensures.store)),
      c.new-keeper.ensures.own.0,
      (same.0 ∙ i.3.0, same.1 ∙ i.3.1),
      omega arith,
      omega arith,
      omega arith,
    )
