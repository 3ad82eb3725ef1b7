-- Answers of Local::does: an assignment of a cell and a loop do what the calculus says of such statements.
use Rattle.std.proofs.Common.{◌∙◌, sym, ap}
use Rattle.std.proofs.lemmas.Result.{IfOk-weaker}
use Rattle.rev_syntax.specs.Trees.{statement, repeat}
use Rattle.rev_syntax.specs.View.{expression, placed_name, stmt, stmts}
use Rattle.revision_state.specs.Views.{given}
use Rattle.rev_syntax.proofs.Shapes.{block_is}
use Rattle.revision_steps.proofs.Shapes.{stmt-AssignCell, stmt-While}
use Rattle.revision_steps.proofs.Steps.{cell_does, while_does}
use Rattle.revision_steps.proofs.local.Local.does.Goals as goal

pub returns-in-AssignCell : goal.returns-in-AssignCell
returns-in-AssignCell c =
    let this = c.args.this.now in
    let e = stmt-AssignCell this c.in-AssignCell.name c.in-AssignCell.index c.in-AssignCell.value c.in-AssignCell.is in
    IfOk-weaker c.assign_cell.result _ _
    (λ n h. h
    ∙ cell_does (given c.args.setting.now) c.args.path.now c.args.self.now (stmt this) this.at this.line
    (placed_name c.in-AssignCell.name) (expression c.in-AssignCell.index) (expression c.in-AssignCell.value) e)
    c.assign_cell.ensures

pub returns-in-While : goal.returns-in-While
returns-in-While c =
    let this = c.args.this.now in
    let e =
    stmt-While this c.in-While.test c.in-While.body c.in-While.is
    ∙ ap (λ b. statement this.at this.line (repeat (expression c.in-While.test) b))
    (block_is c.in-While.body ∙ ap stmts (sym c.deref-in-While.ensures.value))
    in
    IfOk-weaker c.repeat.result _ _
    (λ n h. h
    ∙ while_does (given c.args.setting.now) c.args.path.now c.args.self.now (stmt this) this.at this.line
    (expression c.in-While.test) (stmts c.deref-in-While.result.now) e)
    c.repeat.ensures
