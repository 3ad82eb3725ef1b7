-- Answers of note_vars: the variable that was noted joins those before it, and at the end those before are all.
use Rattle.std.proofs.Common.{All, arith, subst}
use Rattle.std.proofs.lemmas.List.{take_all}
use Rattle.std.proofs.lemmas.List.Elements.{All-more}
use Rattle.code_file.specs.Laws.{VarFits}
use Rattle.code_file.proofs.widths.note_vars.Goals as goal

pub loop-var-preserved : goal.loop-var-preserved
loop-var-preserved c =
    All-more VarFits c.args.vars.now c.loop-var.var-index c.var-item.result c.loop-var-test.true c.loop-var.invariant
    (subst VarFits c.var-item.is c.note_var.ensures)

pub returns : goal.returns
returns c =
    let t = c.loop-var-test.false in
    subst (All VarFits) (take_all c.loop-var.var-index c.args.vars.now (omega (arith, t))) c.loop-var.invariant
