-- Answers of places_of: the places are those of the entries so far, and one more is entered by its path.
use Rattle.std.proofs.Common.{subst, sym}
use Rattle.revision_machine.specs.PathIndex.{IsEntered}
use Rattle.rev_record.proofs.Known.{indexed_entry}
use Rattle.rev_record.proofs.memo.places_of.Goals as goal

pub loop-place-preserved : goal.loop-place-preserved
loop-place-preserved c =
    indexed_entry c.loop-place.places c.enter.new.places c.args.entries.now c.loop-place.place
    c.index-entries-place.result c.loop-place-test.true c.index-entries-place.is c.loop-place.invariant
    (subst (λ v. IsEntered c.loop-place.places c.enter.new.places v.path c.loop-place.place)
    (sym c.index-entries-place.is) c.in_ok-enter.ensures)
