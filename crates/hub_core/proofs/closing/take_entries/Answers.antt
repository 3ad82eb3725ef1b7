-- Answers of take_entries: an entry of the count goes to the schedule, and one of another ends what is taken.
use Rattle.std.proofs.Common.{rules, ◌≡◌, ◌≢◌, ◌+◌, ◌<◌, ◌≤◌, ◌++◌, [], ◌∷◌, length, append_assoc, append-nil, sym, ap, ◌∙◌, arith}
use Rattle.hub_core.specs.Rounds.{first_at, behind_at, last_or}
use Rattle.hub_core.specs.Woven.{pairs_from}
use Rattle.hub_core.proofs.Weaves.{entry_at, from_end, step_first, step_behind, stop_first, stop_behind}
use Rattle.hub_core.proofs.closing.take_entries.Goals as goal

pub loop-at-preserved : goal.loop-at-preserved
loop-at-preserved c =
    let i = c.loop-at.invariant in
    let at = c.loop-at.at in
    let es = c.args.entries.now in
    let within : at < length es = c.loop-at-test.true in
    let is : (entry_at es at).count ≡ c.args.count = search rules in
    let first = step_first c.args.count at es within is in
    let items = c.append.ensures.items in
    let len = c.append.ensures.len in
    let cap = c.append.ensures.capacity in
    let a = i.3 in
    let b = i.5 in
    let e = i.6 in (
      ap (λ l. l ++ first_at c.args.count (pairs_from (at + 1) es)) items
          ∙ (append_assoc c.loop-at.schedule.items ((entry_at es at).number ∷ [])
          (first_at c.args.count (pairs_from (at + 1) es))
          ∙ (ap (λ l. c.loop-at.schedule.items ++ l) (sym first) ∙ i.0)),
      sym (step_behind c.args.count at es within is) ∙ i.1,
      ap (last_or c.loop-at.last) (sym first) ∙ i.2,
      omega arith,
      omega arith,
      omega arith,
      omega arith,
    )

pub returns-then-entry-count-clause-schedule : goal.returns-then-entry-count-clause-schedule
returns-then-entry-count-clause-schedule c =
    let es = c.args.entries.now in
    let ne : (entry_at es c.loop-at.at).count ≢ c.args.count = search rules in
    let stop = stop_first c.args.count c.loop-at.at es c.loop-at-test.true ne in
    sym (append-nil c.loop-at.schedule.items)
    ∙ (ap (λ l. c.loop-at.schedule.items ++ l) (sym stop) ∙ c.loop-at.invariant.0)

pub returns-then-entry-count-clause-behind : goal.returns-then-entry-count-clause-behind
returns-then-entry-count-clause-behind c =
    let es = c.args.entries.now in
    let ne : (entry_at es c.loop-at.at).count ≢ c.args.count = search rules in
    sym (stop_behind c.args.count c.loop-at.at es c.loop-at-test.true ne) ∙ c.loop-at.invariant.1

pub returns-then-entry-count-clause-last : goal.returns-then-entry-count-clause-last
returns-then-entry-count-clause-last c =
    let es = c.args.entries.now in
    let ne : (entry_at es c.loop-at.at).count ≢ c.args.count = search rules in
    ap (last_or c.loop-at.last) (sym (stop_first c.args.count c.loop-at.at es c.loop-at-test.true ne))
    ∙ c.loop-at.invariant.2

pub returns-clause-schedule : goal.returns-clause-schedule
returns-clause-schedule c =
    let es = c.args.entries.now in
    let over : length es ≤ c.loop-at.at = search rules in
    sym (append-nil c.loop-at.schedule.items)
    ∙ (ap (λ l. c.loop-at.schedule.items ++ first_at c.args.count l) (sym (from_end c.loop-at.at es over))
    ∙ c.loop-at.invariant.0)

pub returns-clause-behind : goal.returns-clause-behind
returns-clause-behind c =
    let es = c.args.entries.now in
    let over : length es ≤ c.loop-at.at = search rules in
    from_end (length es) es (omega arith)
    ∙ (ap (behind_at c.args.count) (sym (from_end c.loop-at.at es over)) ∙ c.loop-at.invariant.1)

pub returns-clause-last : goal.returns-clause-last
returns-clause-last c =
    let es = c.args.entries.now in
    let over : length es ≤ c.loop-at.at = search rules in
    ap (λ l. last_or c.loop-at.last (first_at c.args.count l)) (sym (from_end c.loop-at.at es over))
    ∙ c.loop-at.invariant.2
