-- Answers of Records::lengthen: the room that was reserved keeps all lists, and a place without a record is none.
use Rattle.std.proofs.Common.{◌++◌, [], ◌∷◌, length, None, ap, ◌∙◌, arith}
use Rattle.hub_core.proofs.Lists.{many_more}
use Rattle.hub_core.specs.Tally.{record_at}
use Rattle.hub_core.proofs.Places.{record_more}
use Rattle.hub_core.proofs.records.Records.lengthen.Goals as goal

pub returns-clause-longer : goal.returns-clause-longer
returns-clause-longer g c =
    let keeps = c.reserve.ensures.queue in
    let items = c.append.ensures.items ∙ ap (λ l. l ++ None ∷ []) c.reserve.ensures.list in
    let many = ap length items ∙ many_more c.args.self.now.list.items None in
    let links = c.make_place.ensures.many in
    let before = keeps.2.0 in
    let had = c.requires.queue.0 in
    let reach = c.make_place.ensures.reach in
    record {
      same = λ j. ap (λ l. record_at l j) items ∙ record_more c.args.self.now.list.items j;
      long = omega arith;
      lists = λ ready waits h. c.make_place.ensures.lists ready waits (keeps.0 ready waits h);
      unfinished = c.make_place.ensures.same ∙ keeps.1;
      links = omega arith;
      reach = omega arith;
    }
