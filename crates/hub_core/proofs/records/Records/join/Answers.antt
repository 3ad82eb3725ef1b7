-- Answers of Records::join: what had ended has a record, and Gone in place of Gone changes nothing.
use Rattle.std.proofs.Common.{Some, ap, ◌∙◌}
use Rattle.hub_core.proofs.Places.{ended_record, put_record_same}
use Rattle.hub_core.proofs.records.Records.join.Goals as goal

pub exchange-requires : goal.exchange-requires
exchange-requires g c = ended_record _ c.requires

pub returns-in-Gone-clause-joined : goal.returns-in-Gone-clause-joined
returns-in-Gone-clause-joined g c =
    let was = c.exchange.ensures.was ∙ ap Some c.in-Gone.is in
    (was, c.exchange.ensures.now ∙ put_record_same _ _ _ was)
