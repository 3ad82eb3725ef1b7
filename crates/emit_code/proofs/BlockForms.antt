-- The plain trees of an `if` and of an arm, and how long the code of a statement is.
use Rattle.std.specs.declared.alloc.Global.{Global}
use Rattle.std.proofs.Common.{◌≡◌, ℕ, ◌+◌, Option, Some, Vec, List, [], ◌∷◌, ◌++◌, length, sym, ap, ◌∙◌, arith, length-append}
use Rattle.rev_syntax.specs.Trees.{Expression, Statement, statement, StatementForm, Statements, choose_or}
use Rattle.rev_syntax.specs.View.{expression, statement_form_level, arm_level, block_level, statement_level, statement_form, block, stmt, arm, arms}
use Rattle.rev_syntax.specs.declared.tree.Block.{Block}
use Rattle.rev_syntax.specs.declared.tree.Form.{Form}
use Rattle.rev_syntax.specs.declared.tree.Stmt.{Stmt}
use Rattle.rev_syntax.specs.declared.tree.Arm.{Arm, out-Arm}
use Rattle.rev_syntax.specs.declared.tree.Form.TheOpen.{Form-F}
use Rattle.rev_syntax.specs.declared.tree.Form.TheFolds.{fold-roll-Form, fold_out-Arm}
use Rattle.rev_syntax.specs.declared.tree.Form.TheVariants.{If, rolls-If}
use Rattle.rev_syntax.proofs.Shapes.{stmt_is}
use Rattle.rev_code.specs.declared.code.Instr.{Instr}
use Rattle.rev_code.specs.declared.code.Instr.TheVariants as i
use Rattle.code_generation.specs.Numbers.{Numbers, Scope}
use Rattle.code_generation.specs.Sizes.{statement_size}
use Rattle.code_generation.specs.Statements.{statement_form_code}
use Rattle.code_generation.proofs.Lengths.{statement_length}
use Rattle.emit_code.proofs.Loops.{spot}

pub if_else_is : (f : Form) (all : Vec Arm Global) (o : Option Block) (last : Block) → f ≡ If all o → o ≡ Some last
    → statement_form f ≡ choose_or (arms all.items) (block last)
if_else_is f all o last is some =
    ap statement_form is
    ∙ ap (λ x. statement_form (If all x)) some
    ∙ ap statement_form (sym (rolls-If all (Some last)))
    ∙ fold-roll-Form StatementForm (Expression × Statements) Statements Statement statement_form_level arm_level
    block_level statement_level (Form-F.If all (Some last))

pub pair_is : (a : Arm) → arm a ≡ (expression (out-Arm a).test, block (out-Arm a).body)
pair_is a = fold_out-Arm StatementForm (Expression × Statements) Statements Statement statement_form_level arm_level
    block_level statement_level a

-- a statement's Charge, and what it does
pub statement_long : (n : Numbers) (scope : Scope) (s : Stmt) (head local layout : ℕ) (c0 c1 c2 : List Instr)
    → c1 ≡ c0 ++ i.Charge s.line ∷ [] → head ≡ length c0
    → c2 ≡ c1 ++ statement_form_code n scope (statement_form s.form) head
    (record { at = length c1; local = local; layout = layout })
    → length c2 ≡ length c0 + statement_size n (stmt s)
statement_long n scope s head local layout c0 c1 c2 e1 eh e2 =
    let form : StatementForm = statement_form s.form in
    let a = ap length e1 in let b = length-append c0 (i.Charge s.line ∷ []) in
    let l1 : length c1 ≡ length c0 + 1 = omega (arith, a, b) in
    let moved : c2 ≡ c1 ++ statement_form_code n scope form (length c0) (spot (length c0 + 1) local layout) =
    e2
    ∙ ap (λ k. c1 ++ statement_form_code n scope form k (spot (length c1) local layout)) eh
    ∙ ap (λ k. c1 ++ statement_form_code n scope form (length c0) (spot k local layout)) l1 in
    let d = ap length moved in
    let f = length-append c1 (statement_form_code n scope form (length c0) (spot (length c0 + 1) local layout)) in
    let g = statement_length n scope (statement s.at s.line form) (spot (length c0) local layout) in
    let whole : length c2 ≡ length c0 + statement_size n (statement s.at s.line form) = omega (arith, l1, d, f, g) in
    whole ∙ ap (λ x. length c0 + statement_size n x) (sym (stmt_is s))
