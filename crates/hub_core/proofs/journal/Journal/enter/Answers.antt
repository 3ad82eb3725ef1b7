-- Answers of Journal::enter: the entry stands behind the others.
use Rattle.std.proofs.Common.{ap, ◌∙◌}
use Rattle.hub_core.specs.Tally.{pairs}
use Rattle.hub_core.proofs.Entries.{pairs_more}
use Rattle.hub_core.proofs.journal.Journal.enter.Goals as goal

pub returns-clause-entry : goal.returns-clause-entry
returns-clause-entry g c = ap pairs c.append.ensures.items ∙ pairs_more _ _
