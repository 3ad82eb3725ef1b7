-- The plain trees that the program's trees stand for.
use Rattle.std.specs.Prelude.{List, [], ◌∷◌, map, Option, Some, None, option_map}
use Rattle.rev_syntax.specs.Trees as t
use Rattle.rev_syntax.specs.Trees.{PlacedName, Expression, ExpressionForm, Expressions, Links, RightSide, PrintItem, StatementForm, Statement, Statements, Arms, Parameter, ArraySize, Constant, Declaration, ProgramTree}
use Rattle.rev_syntax.specs.declared.tree.Name.{Name}
use Rattle.rev_syntax.specs.declared.tree.BinaryOp.{BinaryOp}
use Rattle.rev_syntax.specs.declared.tree.Node.{Node, fold-Node}
use Rattle.rev_syntax.specs.declared.tree.Node.TheOpen.{Node-F, Expr-F, Link-F}
use Rattle.rev_syntax.specs.declared.tree.Expr.{Expr, fold-Expr}
use Rattle.rev_syntax.specs.declared.tree.Link.{Link, fold-Link}
use Rattle.rev_syntax.specs.declared.tree.Rhs.{Rhs}
use Rattle.rev_syntax.specs.declared.tree.Rhs.TheVariants as rhs
use Rattle.rev_syntax.specs.declared.tree.Item.{Item}
use Rattle.rev_syntax.specs.declared.tree.Item.TheVariants as item
use Rattle.rev_syntax.specs.declared.tree.Form.{Form, fold-Form}
use Rattle.rev_syntax.specs.declared.tree.Form.TheOpen.{Form-F, Stmt-F, Block-F, Arm-F}
use Rattle.rev_syntax.specs.declared.tree.Stmt.{Stmt, fold-Stmt}
use Rattle.rev_syntax.specs.declared.tree.Block.{Block, fold-Block}
use Rattle.rev_syntax.specs.declared.tree.Arm.{Arm, fold-Arm}
use Rattle.rev_syntax.specs.declared.tree.Param.{Param}
use Rattle.rev_syntax.specs.declared.tree.Size.{Size}
use Rattle.rev_syntax.specs.declared.tree.Const.{Const}
use Rattle.rev_syntax.specs.declared.tree.Decl.{Decl}
use Rattle.rev_syntax.specs.declared.tree.Decl.TheVariants as decl
use Rattle.rev_syntax.specs.declared.tree.Program.{Program}

abbrev pub placed_name : Name → PlacedName
placed_name n = record { at = n.at; text = n.text.items }

abbrev pub expressions_of : List Expression → Expressions
expressions_of [] = t.no_expressions
expressions_of (x ∷ xs) = t.expression x (expressions_of xs)

abbrev pub links_of : List (BinaryOp × Expression) → Links
links_of [] = t.no_links
links_of (x ∷ xs) = t.link x.0 x.1 (links_of xs)

-- one level of an expression, with the expressions of its parts in their places
abbrev pub expression_form_level :
    Node-F ExpressionForm Expression (BinaryOp × Expression) → ExpressionForm
expression_form_level (Node-F.Int n) = t.int n
expression_form_level (Node-F.Bool b) = t.bool b
expression_form_level Node-F.NoRev = t.no_rev
expression_form_level (Node-F.Var name) = t.var (placed_name name)
expression_form_level (Node-F.Cell name index) = t.cell (placed_name name) index.value
expression_form_level (Node-F.Apply name args) =
    t.apply (placed_name name) (expressions_of args.items)
expression_form_level (Node-F.Input word_at index) = t.input word_at index.value
expression_form_level (Node-F.Inputs word_at) = t.inputs word_at
expression_form_level (Node-F.Pick test a b) = t.pick test.value a.value b.value
expression_form_level (Node-F.Unary op part) = t.unary op part.value
expression_form_level (Node-F.Chain first rest) = t.chain first.value (links_of rest.items)

abbrev pub expression_level : Expr-F ExpressionForm Expression (BinaryOp × Expression) → Expression
expression_level e = t.placed e.at e.node

abbrev pub link_level :
    Link-F ExpressionForm Expression (BinaryOp × Expression) → BinaryOp × Expression
link_level l = (l.op, l.part)

abbrev pub expression : Expr → Expression
expression =
    fold-Expr ExpressionForm Expression (BinaryOp × Expression) expression_form_level
    expression_level link_level

abbrev pub expression_form : Node → ExpressionForm
expression_form =
    fold-Node ExpressionForm Expression (BinaryOp × Expression) expression_form_level
    expression_level link_level

abbrev pub link : Link → BinaryOp × Expression
link =
    fold-Link ExpressionForm Expression (BinaryOp × Expression) expression_form_level
    expression_level link_level

abbrev pub expressions : List Expr → Expressions
expressions es = expressions_of (map expression es)

abbrev pub links : List Link → Links
links ls = links_of (map link ls)

abbrev pub right_side : Rhs → RightSide
right_side (rhs.Plain e) = t.plain (expression e)
right_side (rhs.Call at name args) = t.called at (placed_name name) (expressions args.items)
right_side (rhs.Fork at name args) = t.forked at (placed_name name) (expressions args.items)
right_side (rhs.Try at handle) = t.tried at (expression handle)

abbrev pub print_item : Item → PrintItem
print_item (item.Text at bytes) = t.text at bytes.items
print_item (item.Value e) = t.shown (expression e)

abbrev pub statements_of : List Statement → Statements
statements_of [] = t.no_statements
statements_of (x ∷ xs) = t.statements x (statements_of xs)

abbrev pub arms_of : List (Expression × Statements) → Arms
arms_of [] = t.no_arms
arms_of (x ∷ xs) = t.arm x.0 x.1 (arms_of xs)

abbrev pub choice : Arms → Option Statements → StatementForm
choice arms None = t.choose arms
choice arms (Some last) = t.choose_or arms last

-- one level of a statement, with the statements of its blocks in their places
abbrev pub statement_form_level :
    Form-F StatementForm (Expression × Statements) Statements Statement → StatementForm
statement_form_level (Form-F.Let name r) = t.bind (placed_name name) (right_side r)
statement_form_level (Form-F.Assign name r) = t.assign (placed_name name) (right_side r)
statement_form_level (Form-F.AssignCell name index value) =
    t.assign_cell (placed_name name) (expression index) (expression value)
statement_form_level (Form-F.If arms last) = choice (arms_of arms.items) last
statement_form_level (Form-F.While test body) = t.repeat (expression test) body
statement_form_level (Form-F.Call name args) = t.call (placed_name name) (expressions args.items)
statement_form_level (Form-F.Return value) = t.return (option_map expression value)
statement_form_level (Form-F.Fork name args) = t.fork (placed_name name) (expressions args.items)
statement_form_level (Form-F.Join handle) = t.join (expression handle)
statement_form_level (Form-F.Print items) = t.print (map print_item items.items)
statement_form_level (Form-F.Assert test) = t.assert (expression test)

abbrev pub arm_level :
    Arm-F StatementForm (Expression × Statements) Statements Statement → Expression × Statements
arm_level a = (expression a.test, a.body)

abbrev pub block_level :
    Block-F StatementForm (Expression × Statements) Statements Statement → Statements
block_level b = statements_of b.stmts.items

abbrev pub statement_level :
    Stmt-F StatementForm (Expression × Statements) Statements Statement → Statement
statement_level s = t.statement s.at s.line s.form

abbrev pub statement_form : Form → StatementForm
statement_form =
    fold-Form StatementForm (Expression × Statements) Statements Statement statement_form_level
    arm_level block_level statement_level

abbrev pub block : Block → Statements
block =
    fold-Block StatementForm (Expression × Statements) Statements Statement statement_form_level
    arm_level block_level statement_level

abbrev pub stmt : Stmt → Statement
stmt =
    fold-Stmt StatementForm (Expression × Statements) Statements Statement statement_form_level
    arm_level block_level statement_level

abbrev pub arm : Arm → Expression × Statements
arm =
    fold-Arm StatementForm (Expression × Statements) Statements Statement statement_form_level
    arm_level block_level statement_level

abbrev pub stmts : List Stmt → Statements
stmts ss = statements_of (map stmt ss)

abbrev pub arms : List Arm → Arms
arms xs = arms_of (map arm xs)

abbrev pub parameter : Param → Parameter
parameter p = record { name = placed_name p.name; kind_at = p.kind_at; kind = p.kind }

abbrev pub array_size : Size → ArraySize
array_size s = record { at = s.at; cells = s.cells }

abbrev pub constant : Const → Constant
constant c = record { at = c.at; value = c.value }

abbrev pub declaration : Decl → Declaration
declaration (decl.Fun name params result body) =
    t.fun (placed_name name) (map parameter params.items) result (expression body)
declaration (decl.Merge name main join root body) =
    t.merge (placed_name name) (placed_name main) (placed_name join) (placed_name root)
    (expression body)
declaration (decl.Shared name by kind_at holds size first) =
    t.shared (record {
      name = placed_name name;
      by = option_map placed_name by;
      kind_at = kind_at;
      holds = holds;
      size = option_map array_size size;
      first = option_map constant first;
    })
declaration (decl.Proc name params result body) =
    t.proc (placed_name name) (map parameter params.items) result (block body)

abbrev pub program : Program → ProgramTree
program p = record {
  declarations = map declaration p.decls.items;
  main_at = p.main_at;
  main = block p.main;
}
