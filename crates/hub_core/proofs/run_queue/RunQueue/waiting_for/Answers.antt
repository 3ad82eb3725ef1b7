-- Answers of RunQueue::waiting_for: what is read at a place inside is the list that the number has.
use Rattle.std.proofs.Common.{sym}
use Rattle.hub_core.proofs.Ways.{chain_read}
use Rattle.hub_core.proofs.run_queue.RunQueue.waiting_for.Goals as goal

pub returns : goal.returns
returns c = sym (chain_read c.args.self.now.waiters.items c.args.number _ c.requires c.index.ensures)
