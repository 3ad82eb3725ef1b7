-- Answers of TurnHub::take: what the turn hands out is told of the seat before it.
use Rattle.std.proofs.Common.{rules, ◌≡◌, ◌≢◌, refl}
use Rattle.turn_hub.proofs.hub.TurnHub.take.Goals as goal

pub returns-in-Run-clause-answer : goal.returns-in-Run-clause-answer
returns-in-Run-clause-answer g c = c.in-Run.ensures.answer c.args.seat.now.place.me.0 c.enter-desk.ensures.told

pub returns-in-Retry-clause-answer : goal.returns-in-Retry-clause-answer
returns-in-Retry-clause-answer g c = c.in-Retry.ensures.answer c.args.seat.now.place.me.0 c.enter-desk.ensures.told

pub returns-then-over-clause-answer : goal.returns-then-over-clause-answer
returns-then-over-clause-answer g c =
    let zero : c.enter-desk.result.value.records.queue.unfinished ≡ 0 = search rules in
    (c.in-Nothing.ensures.none c.args.seat.now.place.me.0 c.enter-desk.ensures.told refl).1 zero

pub returns-else-over-clause-answer : goal.returns-else-over-clause-answer
returns-else-over-clause-answer g c =
    let some : c.enter-desk.result.value.records.queue.unfinished ≢ 0 = search rules in
    (c.in-Nothing.ensures.none c.args.seat.now.place.me.0 c.enter-desk.ensures.told refl).0 some
