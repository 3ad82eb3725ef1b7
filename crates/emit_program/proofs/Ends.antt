-- The last statement of a block.
use Rattle.std.proofs.Common.{◌≡◌, Bool, false, List, ◌∷◌, refl, ap, sym}
use Rattle.rev_syntax.specs.Trees.{Statement, statement, Statements, no_statements, statements}
use Rattle.rev_syntax.specs.View.{statement_form, stmts}
use Rattle.rev_syntax.specs.declared.tree.Stmt.{Stmt}
use Rattle.rev_syntax.proofs.Shapes.{stmt_is}
use Rattle.code_generation.specs.Generated.{is_return, ends_in_return}
use Rattle.emit_program.specs.Parts.{ends_behind}

some_end : (before : Bool) (x : Statement) (rest : Statements)
    → ends_behind before (statements x rest) ≡ ends_in_return (statements x rest)
some_end before (statement p line form) no_statements = refl
some_end before (statement p line form) (statements x rest) = some_end (is_return form) x rest

pub ends_are : (xs : Statements) → ends_behind false xs ≡ ends_in_return xs
ends_are no_statements = refl
ends_are (statements x rest) = some_end false x rest

-- one more statement
pub ends_more : (before : Bool) (s : Stmt) (rest : List Stmt)
    → ends_behind (is_return (statement_form s.form)) (stmts rest) ≡ ends_behind before (stmts (s ∷ rest))
ends_more before s rest = sym (ap (λ x. ends_behind before (statements x (stmts rest))) (stmt_is s))
