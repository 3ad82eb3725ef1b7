-- Answers of part: the last worker has worked, so its seat knows of the end and its hand is of the group.
use Rattle.std.proofs.Common.{◌≡◌, ◌+◌, length, Some, sym, ap, ◌∙◌, arith}
use Rattle.std.proofs.lemmas.List.Elements.{All-pop, All-push, All-same}
use Rattle.hub_core.proofs.Lists.{many_more}
use Rattle.turn_hub.specs.Names.{began}
use Rattle.hub_workers.specs.Threads.{HasWorked}
use Rattle.hub_workers.proofs.Rows.{Saw}
use Rattle.hub_workers.proofs.running.part.Goals as goal

pub loop-preserved : goal.loop-preserved
loop-preserved g c =
    let i = c.loop.invariant in
    let w = All-pop (λ w. HasWorked g.L.Legs.begins g.L.Legs.hand_group c.args.hub.now w.seat w.hand) c.loop.rest.items
    c.take_last-seat.new.list.items (Some c.take_last-seat.result) c.take_last-seat.ensures.items i.0 in
    let a : length c.loop.rest.items ≡ length c.take_last-seat.new.list.items + 1 =
    ap length c.take_last-seat.ensures.items ∙ many_more c.take_last-seat.new.list.items c.take_last-seat.result in
    let b : length c.append.new.list.items ≡ length c.loop.seats.items + 1 =
    ap length c.append.ensures.items ∙ many_more c.loop.seats.items _ in
    let d : length c.append-in-loop.new.list.items ≡ length c.loop.hands.items + 1 =
    ap length c.append-in-loop.ensures.items ∙ many_more c.loop.hands.items _ in
    let seats = i.3 in
    let hands = i.4 in
    let left = i.5 in
    let seats_room = i.7 in
    let hands_room = i.8 in
    let grown = i.9 in
    let more = c.append.ensures.capacity in
    let more_hands = c.append-in-loop.ensures.capacity in (
      w.0,
      All-same (Saw c.args.hub.now) c.append.new.list.items _ c.append.ensures.items
          (All-push (Saw c.args.hub.now) c.loop.seats.items _ i.1 (w.1.0.0, w.1.1)),
      All-same (λ h. g.L.Legs.hand_group h ≡ (began c.args.hub.now).group) c.append-in-loop.new.list.items _
          c.append-in-loop.ensures.items
          (All-push (λ h. g.L.Legs.hand_group h ≡ (began c.args.hub.now).group) c.loop.hands.items _ i.2
          (sym w.1.0.2.0 ∙ w.1.0.1)),
      omega arith,
      omega arith,
      omega arith,
      i.6,
      omega arith,
      omega arith,
      omega arith,
    )
