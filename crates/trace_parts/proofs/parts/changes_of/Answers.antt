-- Answers of changes_of: a location's change goes behind the others, and past the shorter list there is none.
use Rattle.std.proofs.Common.{arith, length}
use Rattle.audit_rules.specs.Parts.{changes}
use Rattle.trace_parts.proofs.Changes.{changes_more, changes_all, run_out}
use Rattle.trace_parts.proofs.parts.changes_of.Goals as goal

pub loop-n-preserved : goal.loop-n-preserved
loop-n-preserved c =
    let ps = c.args.places.now in
    let ms = c.args.locations.now in
    changes_more ps ms c.loop-n.n c.index-places-n.result c.index-locations-n.result c.loop-n.changes.items
    c.append_change.new.changes.items (changes ps ms) (omega arith) (omega arith) c.index-places-n.is
    c.index-locations-n.is c.in_ok-append_change.ensures c.loop-n.invariant

pub returns : goal.returns
returns c =
    let ps = c.args.places.now in
    let ms = c.args.locations.now in
    changes_all ps ms c.loop-n.n c.loop-n.changes.items (changes ps ms)
    (run_out (length ps) (length ms) c.loop-n.n (omega arith)) c.loop-n.invariant
