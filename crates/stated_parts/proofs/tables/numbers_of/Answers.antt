-- Answers of numbers_of: a place that is added behind the others has the next number, where it had none before.
use Rattle.std.proofs.Common.{ap, ◌∙◌}
use Rattle.name_tables.specs.Table.{added, find}
use Rattle.stated_parts.proofs.Slots.{number_more}
use Rattle.stated_parts.proofs.tables.numbers_of.Goals as goal

pub loop-n-preserved : goal.loop-n-preserved
loop-n-preserved c = λ q.
    ap (find q) c.in_ok-add.ensures.ok ∙ ap (λ v. find q (added c.loop-n.table v c.loop-n.n)) c.as_slice.ensures
    ∙ number_more c.loop-n.table c.args.places.now c.loop-n.n c.index-places-n.result q c.loop-n-test.true
    c.index-places-n.is (c.loop-n.invariant q)
