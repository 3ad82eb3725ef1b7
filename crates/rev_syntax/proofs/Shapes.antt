-- The plain trees of a statement and of a block, by what these hold.
--
--   stmt_is    a statement, by its form
--   block_is   a block, by its statements
use Rattle.std.proofs.Common.{◌≡◌}
use Rattle.rev_syntax.specs.Trees.{Expression, StatementForm, Statement, statement, Statements}
use Rattle.rev_syntax.specs.View.{statement_form_level, arm_level, block_level, statement_level, statement_form, block, stmt, stmts}
use Rattle.rev_syntax.specs.declared.tree.Block.{Block, out-Block}
use Rattle.rev_syntax.specs.declared.tree.Stmt.{Stmt}
use Rattle.rev_syntax.specs.declared.tree.Form.TheFolds.{fold_out-Stmt, fold_out-Block}

pub stmt_is : (s : Stmt) → stmt s ≡ statement s.at s.line (statement_form s.form)
stmt_is s = fold_out-Stmt StatementForm (Expression × Statements) Statements Statement statement_form_level arm_level
    block_level statement_level s

pub block_is : (b : Block) → block b ≡ stmts (out-Block b).stmts.items
block_is b = fold_out-Block StatementForm (Expression × Statements) Statements Statement statement_form_level arm_level
    block_level statement_level b
