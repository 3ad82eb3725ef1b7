-- Answers of places_of: with the path of this revision at its place the table indexes one revision more.
use Rattle.std.proofs.Common.{sym, subst}
use Rattle.revision_machine.specs.PathIndex.{IsEntered}
use Rattle.revision_machine.proofs.PathIndex.{indexed_more}
use Rattle.revision_machine.proofs.place_table.places_of.Goals as goal

pub loop-i-preserved : goal.loop-i-preserved
loop-i-preserved g c =
    indexed_more c.loop-i.places.map c.enter.new.self.map c.args.list.now c.loop-i.i c.index-list-i.result
    c.loop-i-test.true c.index-list-i.is c.loop-i.invariant
    (subst (λ v. IsEntered c.loop-i.places.map c.enter.new.self.map v.path c.loop-i.i) (sym c.index-list-i.is)
    c.in_ok-enter.ensures.ok)
