-- Answers of first_once_ended: what is read at a place inside is the list that the number has.
use Rattle.std.proofs.Common.{sym, ap, ◌∙◌}
use Rattle.hub_core.specs.Marks.{first_in}
use Rattle.hub_core.proofs.Ways.{chain_read}
use Rattle.turn_hub.specs.Comings.{first_or}
use Rattle.turn_hub.proofs.firsts.first_once_ended.Goals as goal

pub returns-in-None : goal.returns-in-None
returns-in-None c =
    let q = c.args.queue.now in
    let read = chain_read q.waiters.items c.args.of _ c.requires c.index.ensures in
    c.first_ready.ensures
    ∙ sym (ap (λ o. first_or (first_in o) (first_in q.ready)) (read ∙ c.in-None.is))

pub returns-in-Some : goal.returns-in-Some
returns-in-Some c =
    let q = c.args.queue.now in
    let read = chain_read q.waiters.items c.args.of _ c.requires c.index.ensures in
    sym (ap (λ o. first_or (first_in o) (first_in q.ready)) (read ∙ c.in-Some.is))
