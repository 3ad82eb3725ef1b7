-- Answers of indices_of: with the path of this part at its number the table indexes one part more.
use Rattle.std.proofs.Common.{subst, sym}
use Rattle.revision_machine.specs.PathIndex.{IsEntered}
use Rattle.stated_parts.proofs.Finding.{indexed_part}
use Rattle.stated_parts.proofs.tables.indices_of.Goals as goal

pub loop-i-preserved : goal.loop-i-preserved
loop-i-preserved c =
    indexed_part c.loop-i.table.map c.enter.new.self.map c.args.parts.now c.loop-i.i c.index-parts-i.result
    c.loop-i-test.true c.index-parts-i.is c.loop-i.invariant
    (subst (λ v. IsEntered c.loop-i.table.map c.enter.new.self.map v.path c.loop-i.i) (sym c.index-parts-i.is)
    c.in_ok-enter.ensures)
