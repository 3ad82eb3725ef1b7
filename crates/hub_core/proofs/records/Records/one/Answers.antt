-- Answers of Records::one: where there was none, one place more is the first, and its record the only one.
use Rattle.std.proofs.Common.{◌≡◌, ◌+◌, length, ap, ◌∙◌}
use Rattle.hub_core.proofs.Partings.{put_first, first_queue}
use Rattle.hub_core.proofs.records.Records.one.Goals as goal

pub returns-clause-ok : goal.returns-clause-ok
returns-clause-ok g c =
    let one : length c.lengthen.new.self.list.items ≡ 1 =
    c.lengthen.ensures.one c.if-not-lengthen.false ∙ ap (λ l. length l + 1) c.new-records.ensures.none in
    c.bear.ensures.now ∙ put_first c.lengthen.new.self.list.items _ one

pub returns-clause-queue : goal.returns-clause-queue
returns-clause-queue g c =
    let one : length c.lengthen.new.self.list.items ≡ 1 =
    c.lengthen.ensures.one c.if-not-lengthen.false ∙ ap (λ l. length l + 1) c.new-records.ensures.none in
    first_queue c.new-records.result.queue c.lengthen.new.self.queue c.bear.new.self.queue
    c.new-records.result.list.items c.lengthen.new.self.list.items c.new-records.ensures.queue c.lengthen.ensures.longer
    one c.bear.ensures.queue
