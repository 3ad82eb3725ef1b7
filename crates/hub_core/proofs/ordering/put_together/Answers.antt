-- Answers of put_together: the next number has the entries of its count, and then its round, if it has one.
use Rattle.std.proofs.Common.{rules, ◌≤◌, length, slice_index_or, ◌∙◌, arith, None}
use Rattle.hub_core.specs.Woven.{pairs_from, rounds_at, looped_pair}
use Rattle.hub_core.proofs.Looking.{rounds_or, weave_next, forkers_next, weave_end, forkers_end}
use Rattle.hub_core.proofs.ordering.put_together.Goals as goal

pub loop-number-preserved : goal.loop-number-preserved
loop-number-preserved c =
    let i = c.loop-number.invariant in
    let n = c.loop-number.number in
    let rounds = c.args.rounds.now in
    let b = length rounds in
    let below = c.loop-number-test.true in
    let look = rounds_at rounds in
    let es = pairs_from c.loop-number.at c.args.entries.now in
    let next = pairs_from c.take_entries-next.result.0 c.args.entries.now in
    let here = rounds_or rounds n None below in
    let took = c.take_entries-next.ensures in
    let place = took.place in
    let far = place.0 in
    let end = place.1 in
    let long = took.room.0 in
    let wide = took.room.1 in
    let round = c.take_round-forker.ensures.room in
    let three = round.0 in
    let more = round.1 in
    let added = c.append-in-loop-number.ensures.len in
    let space = c.append-in-loop-number.ensures.capacity in
    let was = i.5 in
    let many = i.6 in
    let room = i.7 in (
      weave_next b n es next look (looped_pair (slice_index_or rounds n None)) c.loop-number.schedule.items
          c.take_entries-next.new.schedule.items c.take_round-forker.new.schedule.items below took.schedule
          c.take_round-forker.ensures.schedule here took.behind
          ∙ i.0,
      forkers_next b n c.take_entries-next.result.1 c.take_round-forker.result es next look
          (looped_pair (slice_index_or rounds n None)) c.loop-number.forkers.items
          c.append-in-loop-number.new.list.items below c.append-in-loop-number.ensures.items
          c.take_round-forker.ensures.forker took.last here took.behind
          ∙ i.1,
      end,
      omega arith,
      omega arith,
      omega arith,
      omega arith,
      omega arith,
    )

pub returns-clause-schedule : goal.returns-clause-schedule
returns-clause-schedule c =
    let over : length c.args.rounds.now ≤ c.loop-number.number = search rules in
    weave_end (length c.args.rounds.now) c.loop-number.number (pairs_from c.loop-number.at c.args.entries.now)
    (rounds_at c.args.rounds.now) c.loop-number.schedule.items c.take_rest.new.schedule.items over c.take_rest.ensures
    ∙ c.loop-number.invariant.0

pub returns-clause-forkers : goal.returns-clause-forkers
returns-clause-forkers c =
    let over : length c.args.rounds.now ≤ c.loop-number.number = search rules in
    forkers_end (length c.args.rounds.now) c.loop-number.number (pairs_from c.loop-number.at c.args.entries.now)
    (rounds_at c.args.rounds.now) c.loop-number.forkers.items over
    ∙ c.loop-number.invariant.1
