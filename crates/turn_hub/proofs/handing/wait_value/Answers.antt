-- Answers of wait_value: another record changes nothing in the run queue.
use Rattle.std.proofs.Common.{sym, subst}
use Rattle.hub_core.specs.Chains.{DelaysOne}
use Rattle.turn_hub.proofs.handing.wait_value.Goals as goal

pub returns-in-Out-clause-queue : goal.returns-in-Out-clause-queue
returns-in-Out-clause-queue g c =
    let same = c.wait.ensures.same in
    subst (λ q. DelaysOne c.args.records.now.queue q c.args.number c.args.on) (sym c.exchange.ensures.queue)
    (c.wait.ensures.lists, same.0, same.1)
