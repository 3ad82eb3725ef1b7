-- Answers of Records::exchange: what the list has at its place is the record.
use Rattle.std.proofs.Common.{rules, sym, ◌∙◌}
use Rattle.hub_core.proofs.Shadowing.{record_within}
use Rattle.hub_core.proofs.Places.{record_is, put_is}
use Rattle.hub_core.proofs.records.Records.exchange.Goals as goal

pub swap-requires : goal.swap-requires
swap-requires g c = record_within _ _ _ c.requires.1

pub returns-clause-now : goal.returns-clause-now
returns-clause-now g c = c.swap.ensures.now ∙ put_is _ _ _

pub unwrap-requires : goal.unwrap-requires
unwrap-requires g c =
    let is = sym (record_is c.args.self.now.list.items c.args.number c.swap.result c.swap.ensures.was) ∙ c.requires.1 in
    search rules

pub returns-clause-was : goal.returns-clause-was
returns-clause-was g c =
    let is = record_is c.args.self.now.list.items c.args.number c.swap.result c.swap.ensures.was in search rules
