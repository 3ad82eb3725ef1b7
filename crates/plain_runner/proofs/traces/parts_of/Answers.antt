-- Answers of parts_of: the part of the revision popped last joins the others, in whatever order.
use Rattle.plain_runner.proofs.Making.{popped_more}
use Rattle.plain_runner.proofs.traces.parts_of.Goals as goal

pub loop-revision-preserved : goal.loop-revision-preserved
loop-revision-preserved c =
    popped_more c.args.places.now c.args.revisions.items c.loop-revision.rest.items c.pop.new.self.items
    c.in-Some.revision _ c.loop-revision.parts.items c.push.new.self.items c.in-Some.ensures.items
    c.in_ok-into_part.ensures c.in_ok-push.ensures.items c.loop-revision.invariant
