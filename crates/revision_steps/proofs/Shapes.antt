-- The plain trees of two forms of statements.
use Rattle.std.proofs.Common.{◌≡◌, sym, ap, ◌∙◌}
use Rattle.rev_syntax.specs.Trees.{Expression, StatementForm, Statement, statement, assign_cell, repeat, Statements}
use Rattle.rev_syntax.specs.View.{placed_name, expression, statement_form_level, arm_level, block_level, statement_level, statement_form, block, stmt}
use Rattle.rev_syntax.specs.declared.tree.Name.{Name}
use Rattle.rev_syntax.specs.declared.tree.Expr.{Expr}
use Rattle.rev_syntax.specs.declared.tree.Block.{Block}
use Rattle.rev_syntax.specs.declared.tree.Stmt.{Stmt}
use Rattle.rev_syntax.specs.declared.tree.Form.TheOpen.{Form-F}
use Rattle.rev_syntax.specs.declared.tree.Form.TheFolds.{fold-roll-Form}
use Rattle.rev_syntax.specs.declared.tree.Form.TheVariants.{While, AssignCell, rolls-While, rolls-AssignCell}
use Rattle.rev_syntax.proofs.Shapes.{stmt_is}

pub stmt-AssignCell : (s : Stmt) (name : Name) (index e : Expr) → s.form ≡ AssignCell name index e
    → stmt s ≡ statement s.at s.line (assign_cell (placed_name name) (expression index) (expression e))
stmt-AssignCell s name index e is =
    stmt_is s ∙ ap (λ f. statement s.at s.line (statement_form f)) is
    ∙ ap (statement s.at s.line)
    (ap statement_form (sym (rolls-AssignCell name index e))
    ∙ fold-roll-Form StatementForm (Expression × Statements) Statements Statement statement_form_level arm_level
    block_level statement_level (Form-F.AssignCell name index e))

pub stmt-While : (s : Stmt) (test : Expr) (body : Block) → s.form ≡ While test body
    → stmt s ≡ statement s.at s.line (repeat (expression test) (block body))
stmt-While s test body is =
    stmt_is s ∙ ap (λ f. statement s.at s.line (statement_form f)) is
    ∙ ap (statement s.at s.line)
    (ap statement_form (sym (rolls-While test body))
    ∙ fold-roll-Form StatementForm (Expression × Statements) Statements Statement statement_form_level arm_level
    block_level statement_level (Form-F.While test body))
