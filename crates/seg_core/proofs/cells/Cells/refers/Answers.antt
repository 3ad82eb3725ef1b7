-- Answers of Cells::refers: no, one or two references are copies of the segment where number and segment agree.
use Rattle.std.proofs.Common.{ℕ, suc, [], map, eqb, sym, ap, subst}
use Rattle.seg_core.specs.declared.segment.References.{References}
use Rattle.seg_core.specs.Core.{Has}
use Rattle.seg_core.specs.Shape.{list_of}
use Rattle.seg_core.specs.Cells.{core_of}
use Rattle.seg_core.specs.Applies.{copies}
use Rattle.seg_core.proofs.Maps.{decided}
use Rattle.seg_core.proofs.Refers.{copies_apart, refers_by}
use Rattle.seg_core.proofs.cells.Cells.refers.Goals as goal

pub returns-in-Some-Empty : goal.returns-in-Some-Empty
returns-in-Some-Empty c = refers_by (map list_of c.args.self.now.holders.items) c.args.holder []
    (copies c.args.times (suc c.args.segment)) (eqb c.args.times 0)
    (subst (λ (r : References). Has (core_of c.args.self.now) c.args.holder (list_of r))
    c.in-Some-Empty.field-0-is (c.references.ensures.some c.in-Some-Empty.field-0
    c.in-Some-Empty.is))
    (decided c.args.times 0 _ (λ e. ap (λ (n : ℕ). copies n (suc c.args.segment)) (sym e))
    (λ ne e. ne (sym (copies_apart 0 c.args.times 0 (suc c.args.segment) e))))

pub returns-in-Some-Once : goal.returns-in-Some-Once
returns-in-Some-Once c = refers_by (map list_of c.args.self.now.holders.items) c.args.holder
    (copies 1 (suc c.in-Some-Once.own)) (copies c.args.times (suc c.args.segment)) c.are_same.result
    (subst (λ (r : References). Has (core_of c.args.self.now) c.args.holder (list_of r))
    c.in-Some-Once.field-0-is (c.references.ensures.some c.in-Some-Once.field-0 c.in-Some-Once.is))
    c.are_same.ensures

pub returns-in-Some-Twice : goal.returns-in-Some-Twice
returns-in-Some-Twice c = refers_by (map list_of c.args.self.now.holders.items) c.args.holder
    (copies 2 (suc c.in-Some-Twice.own)) (copies c.args.times (suc c.args.segment))
    c.are_same-in-Some-Twice.result
    (subst (λ (r : References). Has (core_of c.args.self.now) c.args.holder (list_of r))
    c.in-Some-Twice.field-0-is (c.references.ensures.some c.in-Some-Twice.field-0
    c.in-Some-Twice.is)) c.are_same-in-Some-Twice.ensures
