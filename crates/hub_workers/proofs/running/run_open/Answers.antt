-- Answers of run_open: all workers have worked, so all seats are of the hub, and its close gives the run.
use Rattle.std.proofs.Common.{rules, ◌≡◌, ◌+◌, length, Some, sym, ap, ◌∙◌, subst, arith}
use Rattle.std.proofs.lemmas.List.Elements.{All-pop, All-push, All-same}
use Rattle.hub_core.proofs.Lists.{many_more}
use Rattle.turn_hub.specs.Closing.{AreKeptOf}
use Rattle.turn_hub.specs.Names.{began}
use Rattle.hub_workers.specs.Threads.{HasWorked}
use Rattle.hub_workers.proofs.Rows.{seats_are, one_saw, written_whole}
use Rattle.hub_workers.proofs.running.run_open.Goals as goal

pub part-requires-clause-workers : goal.part-requires-clause-workers
part-requires-clause-workers g c =
    let many : c.pair_up.new.workers.len ≡ length c.run_workers.new.workers = search rules in
    All-same (λ w. HasWorked g.L.Legs.begins g.L.Legs.hand_group c.args.hub w.seat w.hand) _ c.run_workers.new.workers
    (written_whole c.pair_up.new.workers.len c.run_workers.new.workers _ many) c.run_workers.ensures.each

pub close-run-requires-clause-own : goal.close-run-requires-clause-own
close-run-requires-clause-own g c = seats_are c.args.hub c.part.new.seats.items c.part.ensures.seats

pub close-run-requires-clause-over : goal.close-run-requires-clause-over
close-run-requires-clause-over g c =
    let many : c.pair_up.new.workers.len ≡ length c.run_workers.new.workers = search rules in
    let whole = written_whole c.pair_up.new.workers.len c.run_workers.new.workers _ many in
    let seats : length c.part.new.seats.items ≡ length c.run_workers.new.workers =
    c.part.ensures.many.0 ∙ ap length whole in
    let workers : length c.run_workers.new.workers ≡ length c.pair_up.new.workers.items = search rules in
    let hands = c.pair_up.ensures.many in
    let some = c.requires.some in
    one_saw c.args.hub c.part.new.seats.items c.part.ensures.seats (omega arith)

pub give_up-requires : goal.give_up-requires
give_up-requires g c =
    let hand =
    All-pop (λ h. g.L.Legs.hand_group h ≡ (began c.args.hub).group) c.part.new.hands.items
    c.take_last-hand.new.list.items (Some c.take_last-hand.result) c.take_last-hand.ensures.items
    c.part.ensures.hands in
    subst (λ group. AreKeptOf g.L.Revision.machine g.L.Revision.ends group c.close-run.result.kept.items) (sym hand.1)
    c.close-run.ensures.run.2.grouped

pub returns-clause-hands : goal.returns-clause-hands
returns-clause-hands g c =
    let hand =
    All-pop (λ h. g.L.Legs.hand_group h ≡ (began c.args.hub).group) c.part.new.hands.items
    c.take_last-hand.new.list.items (Some c.take_last-hand.result) c.take_last-hand.ensures.items
    c.part.ensures.hands in
    All-same (λ h. g.L.Legs.hand_group h ≡ (began c.args.hub).group) c.append.new.list.items _ c.append.ensures.items
    (All-push (λ h. g.L.Legs.hand_group h ≡ (began c.args.hub).group) c.take_last-hand.new.list.items _ hand.0
    (c.give_up.ensures ∙ hand.1))

pub returns-clause-many : goal.returns-clause-many
returns-clause-many g c =
    let a : length c.part.new.hands.items ≡ length c.take_last-hand.new.list.items + 1 =
    ap length c.take_last-hand.ensures.items ∙ many_more c.take_last-hand.new.list.items c.take_last-hand.result in
    let b : length c.append.new.list.items ≡ length c.take_last-hand.new.list.items + 1 =
    ap length c.append.ensures.items ∙ many_more c.take_last-hand.new.list.items _ in
    let many : c.pair_up.new.workers.len ≡ length c.run_workers.new.workers = search rules in
    let whole = written_whole c.pair_up.new.workers.len c.run_workers.new.workers _ many in
    let hands : length c.part.new.hands.items ≡ length c.run_workers.new.workers =
    c.part.ensures.many.1 ∙ ap length whole in
    let workers : length c.run_workers.new.workers ≡ length c.pair_up.new.workers.items = search rules in
    let paired = c.pair_up.ensures.many in
    omega arith
