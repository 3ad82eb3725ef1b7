-- Answers of take_rest: the next entry goes to the schedule.
use Rattle.std.proofs.Common.{rules, ◌+◌, ◌≤◌, ◌++◌, [], ◌∷◌, length, append_assoc, append-nil, sym, ap, ◌∙◌, arith}
use Rattle.hub_core.specs.Rounds.{entries_of}
use Rattle.hub_core.specs.Woven.{pairs_from}
use Rattle.hub_core.proofs.Weaves.{entry_at, from_end, from_next}
use Rattle.hub_core.proofs.ordering.take_rest.Goals as goal

pub append-requires : goal.append-requires
append-requires c =
    let i = c.loop-at.invariant in
    let a = i.3 in
    let b = i.4 in
    let within = c.loop-at-test.true in
    let room = c.requires.room in
    omega arith

pub loop-at-preserved : goal.loop-at-preserved
loop-at-preserved c =
    let i = c.loop-at.invariant in
    let at = c.loop-at.at in
    let es = c.args.entries.now in
    let within = c.loop-at-test.true in
    let items = c.append.ensures.items in
    let len = c.append.ensures.len in
    let cap = c.append.ensures.capacity in
    let a = i.1 in
    let b = i.3 in
    let e = i.4 in (
      ap (λ l. l ++ entries_of (pairs_from (at + 1) es)) items
          ∙ (append_assoc c.loop-at.schedule.items ((entry_at es at).number ∷ []) (entries_of (pairs_from (at + 1) es))
          ∙ (ap (λ l. c.loop-at.schedule.items ++ entries_of l) (sym (from_next at es within)) ∙ i.0)),
      omega arith,
      omega arith,
      omega arith,
      omega arith,
    )

pub returns : goal.returns
returns c =
    let es = c.args.entries.now in
    let over : length es ≤ c.loop-at.at = search rules in
    sym (append-nil c.loop-at.schedule.items)
    ∙ (ap (λ l. c.loop-at.schedule.items ++ entries_of l) (sym (from_end c.loop-at.at es over))
    ∙ c.loop-at.invariant.0)
