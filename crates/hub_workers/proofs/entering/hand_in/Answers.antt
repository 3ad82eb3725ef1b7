-- Answers of hand_in: the answer to the end keeps the seat the same, and what it took is all that it has next.
use Rattle.hub_workers.proofs.Events.{ended_on}
use Rattle.hub_workers.proofs.Handed.{ended_only}
use Rattle.hub_workers.proofs.entering.hand_in.Goals as goal

pub returns-in-Ok-clause-same : goal.returns-in-Ok-clause-same
returns-in-Ok-clause-same g c =
    (ended_on g.L.Revision.machine g.L.Revision.ends g.L.Revision.claimed g.L.Revision.stopped
    g.L.Revision.claimed_group g.L.Revision.stopped_group c.in-Ok.ensures.ok c.after_end.ensures).0

pub returns-in-Ok-clause-next : goal.returns-in-Ok-clause-next
returns-in-Ok-clause-next g c =
    (ended_on g.L.Revision.machine g.L.Revision.ends g.L.Revision.claimed g.L.Revision.stopped
    g.L.Revision.claimed_group g.L.Revision.stopped_group c.in-Ok.ensures.ok c.after_end.ensures).1

pub returns-in-Ok-clause-only : goal.returns-in-Ok-clause-only
returns-in-Ok-clause-only g c =
    ended_only g.L.Revision.machine g.L.Revision.ends g.L.Revision.claimed g.L.Revision.stopped
    g.L.Revision.claimed_group g.L.Revision.stopped_group c.in-Ok.ensures.ok c.after_end.ensures
