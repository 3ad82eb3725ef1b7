-- Short words for writing programs as trees. Places of bytes do not matter to a run, and are 0.
use Rattle.std.specs.Prelude.{ℕ, pos, codes, Bool, List, [], ◌∷◌, Some, None}
use Prim.Native.String.{String}
use Rattle.rev_num.specs.declared.value.ValueKind.{ValueKind}
use Rattle.rev_num.specs.declared.value.ValueKind.TheVariants as kind
use Rattle.rev_syntax.specs.Trees as t
use Rattle.rev_syntax.specs.Trees.{PlacedName, Expression, RightSide, PrintItem, Statement, Statements, Parameter, Declaration, ProgramTree}
use Rattle.rev_syntax.specs.View.{expressions_of, statements_of, arms_of}
use Rattle.rev_syntax.specs.declared.tree.BinaryOp.{BinaryOp}
use Rattle.rev_syntax.specs.declared.tree.BinaryOp.TheVariants as b
use Rattle.rev_syntax.specs.declared.tree.UnaryOp.TheVariants as u

abbrev pub placed_name : String → PlacedName
placed_name name = record { at = 0; text = codes name }

-- ---- expressions

abbrev pub int : ℕ → Expression
int n = t.placed 0 (t.int (pos n))

abbrev pub bool : Bool → Expression
bool x = t.placed 0 (t.bool x)

abbrev pub none : Expression
none = t.placed 0 t.no_rev

abbrev pub var : String → Expression
var x = t.placed 0 (t.var (placed_name x))

abbrev pub cell : String → Expression → Expression
cell a index = t.placed 0 (t.cell (placed_name a) index)

abbrev pub input : Expression → Expression
input index = t.placed 0 (t.input 0 index)

abbrev pub inputs : Expression
inputs = t.placed 0 (t.inputs 0)

abbrev pub neg : Expression → Expression
neg e = t.placed 0 (t.unary u.Neg e)

abbrev pub not : Expression → Expression
not e = t.placed 0 (t.unary u.Not e)

abbrev pub pick : Expression → Expression → Expression → Expression
pick test x y = t.placed 0 (t.pick test x y)

-- a fun of arguments
abbrev pub apply : String → List Expression → Expression
apply f args = t.placed 0 (t.apply (placed_name f) (expressions_of args))

-- an operator between two operands
abbrev pub op : Expression → BinaryOp → Expression → Expression
op x o y = t.placed 0 (t.chain x (t.link o y t.no_links))

-- ---- statements

abbrev pub block : List Statement → Statements
block ss = statements_of ss

abbrev pub value : Expression → RightSide
value e = t.plain e

abbrev pub call_of : String → List Expression → RightSide
call_of p args = t.called 0 (placed_name p) (expressions_of args)

abbrev pub rfork : String → List Expression → RightSide
rfork p args = t.forked 0 (placed_name p) (expressions_of args)

abbrev pub tryjoin : Expression → RightSide
tryjoin h = t.tried 0 h

-- the number of a statement's line comes first
abbrev pub let_ : ℕ → String → RightSide → Statement
let_ line x r = t.statement 0 line (t.bind (placed_name x) r)

abbrev pub assign : ℕ → String → RightSide → Statement
assign line x r = t.statement 0 line (t.assign (placed_name x) r)

abbrev pub assign_cell : ℕ → String → Expression → Expression → Statement
assign_cell line a index e = t.statement 0 line (t.assign_cell (placed_name a) index e)

abbrev pub if_ : ℕ → Expression → List Statement → Statement
if_ line test ss = t.statement 0 line (t.choose (arms_of ((test, statements_of ss) ∷ [])))

-- with the statements of its `else`
abbrev pub if_else : ℕ → Expression → List Statement → List Statement → Statement
if_else line test ss last =
    t.statement 0 line (t.choose_or (arms_of ((test, statements_of ss) ∷ [])) (statements_of last))

abbrev pub while : ℕ → Expression → List Statement → Statement
while line test ss = t.statement 0 line (t.repeat test (statements_of ss))

abbrev pub call : ℕ → String → List Expression → Statement
call line p args = t.statement 0 line (t.call (placed_name p) (expressions_of args))

abbrev pub return : ℕ → Expression → Statement
return line e = t.statement 0 line (t.return (Some e))

abbrev pub fork : ℕ → String → List Expression → Statement
fork line p args = t.statement 0 line (t.fork (placed_name p) (expressions_of args))

abbrev pub rjoin : ℕ → Expression → Statement
rjoin line h = t.statement 0 line (t.join h)

abbrev pub print : ℕ → List PrintItem → Statement
print line items = t.statement 0 line (t.print items)

abbrev pub item : Expression → PrintItem
item e = t.shown e

abbrev pub quoted : String → PrintItem
quoted x = t.text 0 (codes x)

abbrev pub assert : ℕ → Expression → Statement
assert line test = t.statement 0 line (t.assert test)

-- ---- declarations

abbrev pub param : String → ValueKind → Parameter
param x k = record { name = placed_name x; kind_at = 0; kind = k }

abbrev pub proc : String → List Parameter → List Statement → Declaration
proc p params ss = t.proc (placed_name p) params None (statements_of ss)

-- a procedure with a result
abbrev pub proc_giving : ValueKind → String → List Parameter → List Statement → Declaration
proc_giving result p params ss = t.proc (placed_name p) params (Some result) (statements_of ss)

abbrev pub fun : String → List Parameter → ValueKind → Expression → Declaration
fun f params result body = t.fun (placed_name f) params result body

abbrev pub versioned : String → ValueKind → Declaration
versioned x k = t.shared (record { name = placed_name x; by = None; kind_at = 0; holds = k; size = None; first = None })

abbrev pub versioned_array : String → ValueKind → ℕ → Declaration
versioned_array x k cells = t.shared (record {
  name = placed_name x;
  by = None;
  kind_at = 0;
  holds = k;
  size = Some (record { at = 0; cells = pos cells });
  first = None;
})

abbrev pub cumulative : String → String → Declaration
cumulative x merge = t.shared
    (record {
      name = placed_name x;
      by = Some (placed_name merge);
      kind_at = 0;
      holds = kind.Int;
      size = None;
      first = None;
    })

abbrev pub cumulative_array : String → ℕ → String → Declaration
cumulative_array x cells merge = t.shared (record {
  name = placed_name x;
  by = Some (placed_name merge);
  kind_at = 0;
  holds = kind.Int;
  size = Some (record { at = 0; cells = pos cells });
  first = None;
})

-- merge sum(m, j, r) = m + j - r;
abbrev pub sum : Declaration
sum = t.merge (placed_name "sum") (placed_name "m") (placed_name "j") (placed_name "r")
    (t.placed 0 (t.chain (var "m") (t.link b.Add (var "j") (t.link b.Sub (var "r") t.no_links))))

abbrev pub program : List Declaration → List Statement → ProgramTree
program declarations ss = record { declarations = declarations; main_at = 0; main = statements_of ss }
