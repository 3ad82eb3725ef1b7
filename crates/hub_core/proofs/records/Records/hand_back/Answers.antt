-- Answers of Records::hand_back: its record changes no list, and of what is ready its number is the first.
use Rattle.std.proofs.Common.{sym, subst}
use Rattle.hub_core.specs.Chains.{ReadiesOne}
use Rattle.hub_core.proofs.records.Records.hand_back.Goals as goal

pub returns-clause-queue : goal.returns-clause-queue
returns-clause-queue g c =
    subst (λ q. ReadiesOne c.args.self.now.queue q c.args.number) (sym c.put_back.ensures.queue) (
      c.put_first.ensures.lists,
      c.put_first.ensures.same.0,
      c.put_first.ensures.same.1,
    )
