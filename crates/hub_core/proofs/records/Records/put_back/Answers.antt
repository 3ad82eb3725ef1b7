-- Answers of Records::put_back: what stood there was Out.
use Rattle.std.proofs.Common.{rules, sym, ◌∙◌}
use Rattle.revision_machine.proofs.Paths.{some_inj}
use Rattle.hub_core.proofs.records.Records.put_back.Goals as goal

pub empty-requires : goal.empty-requires
empty-requires g c = let was = some_inj (sym c.requires ∙ c.exchange.ensures.was) in search rules
