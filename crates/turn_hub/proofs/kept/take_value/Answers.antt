-- Answers of take_value: a record more changes nothing in the run queue.
use Rattle.std.proofs.Common.{◌≡◌, ◌+◌, ℕ, List, sym, subst}
use Rattle.hub_core.specs.Chains.{HasLists, IsAsLong}
use Rattle.turn_hub.proofs.kept.take_value.Goals as goal

pub returns-else-kept-clause-born : goal.returns-else-kept-clause-born
returns-else-kept-clause-born g c =
    let old = c.args.desk.now.records.queue in
    subst (λ q.
    ((ready : List ℕ) (waits : ℕ → List ℕ) → HasLists old ready waits → HasLists q ready waits)
    × (q.unfinished ≡ old.unfinished + 1) × IsAsLong old q)
    (sym c.record_kept.ensures.queue)
    (c.begin_one.ensures.lists, c.begin_one.ensures.count, c.begin_one.ensures.long)
