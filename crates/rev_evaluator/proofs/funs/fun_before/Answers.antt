-- Answers of fun_before: the table has the name's first fun, which is meant where it is declared before the bound.
use Rattle.std.proofs.Common.{◌∙◌, ap, sym, subst, arith}
use Rattle.typed_programs.specs.Evaluation.{IsMeant}
use Rattle.name_tables.specs.Table.{find}
use Rattle.rev_evaluator.specs.Declarations.{declared_by}
use Rattle.rev_evaluator.proofs.Weighed.{name_weight}
use Rattle.rev_evaluator.proofs.Meanings.{meant_none, meant_later, meant_some}
use Rattle.rev_evaluator.proofs.funs.fun_before.Goals as goal

pub returns-in_err-head-clause-meaning : goal.returns-in_err-head-clause-meaning
returns-in_err-head-clause-meaning c =
    subst (λ f. IsMeant (declared_by c.args.expanded.now) c.args.within c.args.name.now.text.items f)
    (sym c.from_residual.ensures)
    (meant_none (declared_by c.args.expanded.now) c.args.within c.args.name.now.text.items
    (sym (c.args.expanded.now.funs_found c.args.name.now.text.items)
    ∙ ap (λ n. find n c.args.expanded.now.table) (sym c.deref.ensures.value)
    ∙ sym c.in_err-head.ensures))

pub returns-then-decl-within-clause-meaning : goal.returns-then-decl-within-clause-meaning
returns-then-decl-within-clause-meaning c =
    meant_some (declared_by c.args.expanded.now) c.args.within c.args.name.now.text.items c.in_ok-head.head
    (sym (c.args.expanded.now.funs_found c.args.name.now.text.items)
    ∙ ap (λ n. find n c.args.expanded.now.table) (sym c.deref.ensures.value)
    ∙ sym c.in_ok-head.ensures)
    c.if-decl-within.true

pub returns-else-decl-within-clause-meaning : goal.returns-else-decl-within-clause-meaning
returns-else-decl-within-clause-meaning c =
    meant_later (declared_by c.args.expanded.now) c.args.within c.args.name.now.text.items c.in_ok-head.head
    (sym (c.args.expanded.now.funs_found c.args.name.now.text.items)
    ∙ ap (λ n. find n c.args.expanded.now.table) (sym c.deref.ensures.value)
    ∙ sym c.in_ok-head.ensures)
    c.if-decl-within.false

pub returns-then-decl-within-clause-lighter : goal.returns-then-decl-within-clause-lighter
returns-then-decl-within-clause-lighter c =
    let e = name_weight (declared_by c.args.expanded.now) c.args.within c.args.name.now.text.items c.in_ok-head.head
    (sym (c.args.expanded.now.funs_found c.args.name.now.text.items)
    ∙ ap (λ n. find n c.args.expanded.now.table) (sym c.deref.ensures.value)
    ∙ sym c.in_ok-head.ensures)
    c.if-decl-within.true in
    omega arith
