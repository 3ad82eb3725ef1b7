-- The plain trees of expressions, form by form.
use Rattle.std.proofs.Common.{◌≡◌, ◌∙◌, ap, sym, ℕ, ℤ, Bool, List, ◌∷◌, Vec, Global, Box}
use Rattle.rev_syntax.specs.Trees as t
use Rattle.rev_syntax.specs.Trees.{ExpressionForm, Expression}
use Rattle.rev_syntax.specs.View.{placed_name, expression, expression_form, expressions, link, links, expression_form_level, expression_level, link_level}
use Rattle.rev_syntax.specs.declared.tree.Name.{Name}
use Rattle.rev_syntax.specs.declared.tree.BinaryOp.{BinaryOp}
use Rattle.rev_syntax.specs.declared.tree.UnaryOp.{UnaryOp}
use Rattle.rev_syntax.specs.declared.tree.Expr.{Expr}
use Rattle.rev_syntax.specs.declared.tree.Link.{Link}
use Rattle.rev_syntax.specs.declared.tree.Node as node
use Rattle.rev_syntax.specs.declared.tree.Node.TheOpen.{Node-F}
use Rattle.rev_syntax.specs.declared.tree.Node.TheFolds.{fold-roll-Node, fold_out-Expr, fold_out-Link}
use Rattle.rev_syntax.specs.declared.tree.Node.TheVariants.{rolls-Chain, rolls-Apply, rolls-Pick, rolls-Unary, rolls-Cell, rolls-Input, rolls-Int, rolls-Bool, rolls-NoRev, rolls-Var, rolls-Inputs}

pub expression_form-Chain : (first : Box Expr Global) (rest : Vec Link Global)
    → expression_form (node.Chain first rest) ≡ t.chain (expression first.value) (links rest.items)
expression_form-Chain first rest =
    ap expression_form (sym (rolls-Chain first rest))
    ∙ fold-roll-Node ExpressionForm Expression (BinaryOp × Expression) expression_form_level expression_level link_level
    (Node-F.Chain first rest)

pub expression_form-Apply : (name : Name) (args : Vec Expr Global)
    → expression_form (node.Apply name args) ≡ t.apply (placed_name name) (expressions args.items)
expression_form-Apply name args =
    ap expression_form (sym (rolls-Apply name args))
    ∙ fold-roll-Node ExpressionForm Expression (BinaryOp × Expression) expression_form_level expression_level link_level
    (Node-F.Apply name args)

pub expression_form-Pick : (a b c : Box Expr Global)
    → expression_form (node.Pick a b c) ≡ t.pick (expression a.value) (expression b.value) (expression c.value)
expression_form-Pick a b c =
    ap expression_form (sym (rolls-Pick a b c))
    ∙ fold-roll-Node ExpressionForm Expression (BinaryOp × Expression) expression_form_level expression_level link_level
    (Node-F.Pick a b c)

pub expression_form-Unary : (op : UnaryOp) (part : Box Expr Global)
    → expression_form (node.Unary op part) ≡ t.unary op (expression part.value)
expression_form-Unary op part =
    ap expression_form (sym (rolls-Unary op part))
    ∙ fold-roll-Node ExpressionForm Expression (BinaryOp × Expression) expression_form_level expression_level link_level
    (Node-F.Unary op part)

pub expression_form-Cell : (name : Name) (index : Box Expr Global)
    → expression_form (node.Cell name index) ≡ t.cell (placed_name name) (expression index.value)
expression_form-Cell name index =
    ap expression_form (sym (rolls-Cell name index))
    ∙ fold-roll-Node ExpressionForm Expression (BinaryOp × Expression) expression_form_level expression_level link_level
    (Node-F.Cell name index)

pub expression_form-Input : (at : ℕ) (index : Box Expr Global)
    → expression_form (node.Input at index) ≡ t.input at (expression index.value)
expression_form-Input at index =
    ap expression_form (sym (rolls-Input at index))
    ∙ fold-roll-Node ExpressionForm Expression (BinaryOp × Expression) expression_form_level expression_level link_level
    (Node-F.Input at index)

pub expression_form-Int : (n : ℤ) → expression_form (node.Int n) ≡ t.int n
expression_form-Int n =
    ap expression_form (sym (rolls-Int n))
    ∙ fold-roll-Node ExpressionForm Expression (BinaryOp × Expression) expression_form_level expression_level link_level
    (Node-F.Int n)

pub expression_form-Bool : (b : Bool) → expression_form (node.Bool b) ≡ t.bool b
expression_form-Bool b =
    ap expression_form (sym (rolls-Bool b))
    ∙ fold-roll-Node ExpressionForm Expression (BinaryOp × Expression) expression_form_level expression_level link_level
    (Node-F.Bool b)

pub expression_form-NoRev : expression_form node.NoRev ≡ t.no_rev
expression_form-NoRev =
    ap expression_form (sym rolls-NoRev)
    ∙ fold-roll-Node ExpressionForm Expression (BinaryOp × Expression) expression_form_level expression_level link_level
    Node-F.NoRev

pub expression_form-Var : (name : Name) → expression_form (node.Var name) ≡ t.var (placed_name name)
expression_form-Var name =
    ap expression_form (sym (rolls-Var name))
    ∙ fold-roll-Node ExpressionForm Expression (BinaryOp × Expression) expression_form_level expression_level link_level
    (Node-F.Var name)

pub expression_form-Inputs : (at : ℕ) → expression_form (node.Inputs at) ≡ t.inputs at
expression_form-Inputs at =
    ap expression_form (sym (rolls-Inputs at))
    ∙ fold-roll-Node ExpressionForm Expression (BinaryOp × Expression) expression_form_level expression_level link_level
    (Node-F.Inputs at)

-- ---- expressions and links

pub expression-placed : (e : Expr) → expression e ≡ t.placed e.at (expression_form e.node)
expression-placed e =
    fold_out-Expr ExpressionForm Expression (BinaryOp × Expression) expression_form_level expression_level link_level e

pub link-parts : (l : Link) → link l ≡ (l.op, expression l.part)
link-parts l =
    fold_out-Link ExpressionForm Expression (BinaryOp × Expression) expression_form_level expression_level link_level l

-- ---- links

pub links-first : (l : Link) (rest : List Link) → links (l ∷ rest) ≡ t.link l.op (expression l.part) (links rest)
links-first l rest = ap (λ p. t.link p.0 p.1 (links rest)) (link-parts l)
