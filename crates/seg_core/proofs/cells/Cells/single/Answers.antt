-- Answers of Cells::single: no or one reference is a list of the parent alone, for which two references are too many.
use Rattle.std.proofs.Common.{◌≡◌, ℕ, List, [], length, Option, None, Some, sym, ap, ◌∙◌, subst}
use Rattle.std.proofs.Common.{arith}
use mathlib.Core.Option as m
use Rattle.seg_core.specs.declared.segment.References.{References}
use Rattle.seg_core.specs.Core.{Has}
use Rattle.seg_core.specs.Steps as core
use Rattle.seg_core.specs.Shape.{name_of, list_of}
use Rattle.seg_core.specs.Cells.{core_of}
use Rattle.seg_core.proofs.Maps.{some_same}
use Rattle.seg_core.proofs.Refers.{joined_suc, joined_short}
use Rattle.seg_core.proofs.cells.Cells.single.Goals as goal

pub returns-in-Some-Empty-clause-some : goal.returns-in-Some-Empty-clause-some
returns-in-Some-Empty-clause-some c =
    λ p e. subst (λ (q : Option ℕ). Has (core_of c.args.self.now) c.args.holder
    (core.joined (name_of q) [])) (some_same None p e)
    (subst (λ (r : References). Has (core_of c.args.self.now) c.args.holder (list_of r))
    c.in-Some-Empty.field-0-is (c.references.ensures.some c.in-Some-Empty.field-0
    c.in-Some-Empty.is))

pub returns-in-Some-Once-clause-some : goal.returns-in-Some-Once-clause-some
returns-in-Some-Once-clause-some c =
    λ p e. subst (λ (q : Option ℕ). Has (core_of c.args.self.now) c.args.holder
    (core.joined (name_of q) [])) (some_same (Some c.in-Some-Once.own) p e)
    ((subst (λ (r : References). Has (core_of c.args.self.now) c.args.holder (list_of r))
    c.in-Some-Once.field-0-is (c.references.ensures.some c.in-Some-Once.field-0 c.in-Some-Once.is))
    ∙ ap m.some (sym (joined_suc c.in-Some-Once.own)))

pub returns-in-Some-Twice-clause-none : goal.returns-in-Some-Twice-clause-none
returns-in-Some-Twice-clause-none c = λ e p t. let twice =
    subst (λ (r : References). Has (core_of c.args.self.now) c.args.holder (list_of r))
    c.in-Some-Twice.field-0-is (c.references.ensures.some c.in-Some-Twice.field-0
    c.in-Some-Twice.is) in let short = joined_short p in
    let n : length (core.joined p []) ≡ 2 = ap (λ (xs : List ℕ). length xs)
    (m.some-injective _ _ (sym t ∙ twice)) in omega arith
