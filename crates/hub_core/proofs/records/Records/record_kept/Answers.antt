-- Answers of Records::record_kept: nothing stood there.
use Rattle.std.proofs.Common.{sym, ◌∙◌}
use Rattle.hub_core.proofs.Places.{record_is, put_is}
use Rattle.hub_core.proofs.records.Records.record_kept.Goals as goal

pub empty-requires : goal.empty-requires
empty-requires g c = sym (record_is c.args.self.now.list.items c.args.number c.swap.result c.swap.ensures.was)
    ∙ c.requires.none

pub returns-clause-now : goal.returns-clause-now
returns-clause-now g c = c.swap.ensures.now ∙ put_is _ _ _
