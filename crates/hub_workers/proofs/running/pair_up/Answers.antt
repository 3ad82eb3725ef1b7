-- Answers of pair_up: the last seat and the last hand are of the hub, so the worker that they make is.
use Rattle.std.proofs.Common.{◌≡◌, ◌+◌, length, Some, sym, ap, ◌∙◌, arith}
use Rattle.std.proofs.lemmas.List.Elements.{All-pop, All-push, All-same}
use Rattle.hub_core.proofs.Lists.{many_more}
use Rattle.hub_workers.specs.Threads.{IsWorkerOf}
use Rattle.hub_workers.specs.Running.{IsSeatFor, IsHandFor}
use Rattle.hub_workers.proofs.running.pair_up.Goals as goal

pub loop-preserved : goal.loop-preserved
loop-preserved g c =
    let i = c.loop.invariant in
    let seat =
    All-pop (λ s. IsSeatFor c.args.hub.now s) c.loop.seats.items c.take_last-seat.new.list.items
    (Some c.take_last-seat.result) c.take_last-seat.ensures.items i.0 in
    let hand =
    All-pop (λ h. IsHandFor g.L.Legs.begins g.L.Legs.hand_group c.args.hub.now h) c.loop.hands.items
    c.take_last-hand.new.list.items (Some c.take_last-hand.result) c.take_last-hand.ensures.items i.1 in
    let a : length c.loop.seats.items ≡ length c.take_last-seat.new.list.items + 1 =
    ap length c.take_last-seat.ensures.items ∙ many_more c.take_last-seat.new.list.items c.take_last-seat.result in
    let b : length c.loop.hands.items ≡ length c.take_last-hand.new.list.items + 1 =
    ap length c.take_last-hand.ensures.items ∙ many_more c.take_last-hand.new.list.items c.take_last-hand.result in
    let d : length c.append.new.list.items ≡ length c.loop.workers.items + 1 =
    ap length c.append.ensures.items ∙ many_more c.loop.workers.items _ in
    let even = i.3 in
    let done = i.4 in
    let left = i.5 in
    let room = i.6 in
    let more = c.append.ensures.capacity in (
      seat.0,
      hand.0,
      All-same (λ w. IsWorkerOf g.L.Legs.begins g.L.Legs.hand_group c.args.hub.now w.seat w.hand)
          c.append.new.list.items _ c.append.ensures.items
          (All-push (λ w. IsWorkerOf g.L.Legs.begins g.L.Legs.hand_group c.args.hub.now w.seat w.hand)
          c.loop.workers.items _ i.2
          (seat.1.0, seat.1.2, (seat.1.2 ∙ sym hand.1.0, (hand.1.1.0, seat.1.1 ∙ hand.1.1.1, hand.1.1.2)))),
      omega arith,
      omega arith,
      omega arith,
      omega arith,
      c.take_last-seat.ensures.capacity ∙ i.7,
      c.take_last-hand.ensures.capacity ∙ i.8,
    )
