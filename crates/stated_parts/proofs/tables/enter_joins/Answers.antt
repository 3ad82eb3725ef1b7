-- Answers of enter_joins: one event more enters what it lists and leaves what the events before it entered.
use Rattle.revision_machine.specs.PathIndex.{place_by}
use Rattle.stated_parts.proofs.Finding.{entered_next}
use Rattle.stated_parts.proofs.tables.enter_joins.Goals as goal

pub loop-event-preserved : goal.loop-event-preserved
loop-event-preserved c = λ q.
    entered_next c.args.events.now c.loop-event.event-index c.event-item.result q c.args.number
    (place_by c.args.table.now.map q) (place_by c.loop-event.table.map q) (place_by c.enter_join.new.table.map q)
    c.loop-event-test.true c.event-item.is (c.loop-event.invariant q) (c.in_ok-enter_join.ensures q)
