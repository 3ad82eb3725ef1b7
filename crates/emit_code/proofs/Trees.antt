-- The trees of expressions, by the forms of their nodes.
use Rattle.std.proofs.Common.{◌≡◌, ◌+◌, List, ◌++◌, length, sym, ap, ◌∙◌}
use Rattle.rev_syntax.specs.Trees.{placed, ExpressionForm}
use Rattle.rev_syntax.specs.View as view
use Rattle.rev_syntax.specs.Small.{expression_count, expression_form_count}
use Rattle.rev_syntax.specs.declared.tree.Expr.{Expr}
use Rattle.typed_programs.proofs.Shapes.{expression-placed}
use Rattle.rev_code.specs.declared.code.Instr.{Instr}
use Rattle.code_generation.specs.Numbers.{Numbers, Scope}
use Rattle.code_generation.specs.Expressions.{expression_code, form_code}

pub formed : (n : Numbers) (scope : Scope) (e : Expr) (s : ExpressionForm) (code : List Instr)
    → view.expression_form e.node ≡ s
    → code ++ form_code n scope s (length code) ≡ code ++ expression_code n scope (view.expression e) (length code)
formed n scope e s code h =
    ap (λ x. code ++ expression_code n scope x (length code)) (sym (expression-placed e ∙ ap (λ f. placed e.at f) h))

pub counted : (e : Expr) (s : ExpressionForm) → view.expression_form e.node ≡ s
    → expression_count (view.expression e) ≡ 1 + expression_form_count s
counted e s h = ap expression_count (expression-placed e ∙ ap (λ f. placed e.at f) h)
