-- The term of what stands in a merge.
--   renamed   the expression over the three parameters m, j and r that an expression over these names
--             means; none where it applies a fun, and where it has a form that no merge may have
use Rattle.std.specs.Prelude.{Option, Some, None, if◌then◌else◌}
use Rattle.rev_syntax.specs.Trees.{Expression, placed, ExpressionForm, Links, int, bool, no_rev, var, cell, apply, input, inputs, pick, unary, chain, no_links, link}
use Rattle.rev_syntax.specs.declared.tree.UnaryOp.{UnaryOp}
use Rattle.rev_syntax.specs.declared.tree.BinaryOp.{BinaryOp}
use Rattle.name_tables.specs.Names.{Name, same}
use Rattle.merge_kernels.specs.Terms.{bare, parameter, main_name, join_name, root_name}

-- the names of a merge's parameters
pub record Names : Type 0 where
  pub main : Name
  pub join : Name
  pub root : Name

-- the last parameter of a name counts
abbrev pub parameter_of : Names → Name → Option Expression
parameter_of n name =
    if same name n.root
    then Some (parameter root_name)
    else
    if same name n.join
    then Some (parameter join_name)
    else if same name n.main then Some (parameter main_name) else None

abbrev pub with_part : UnaryOp → Option Expression → Option Expression
with_part op None = None
with_part op (Some x) = Some (bare (unary op x))

abbrev pub with_three : Option Expression → Option Expression → Option Expression → Option Expression
with_three (Some a) (Some b) (Some c) = Some (bare (pick a b c))
with_three None b c = None
with_three (Some a) None c = None
with_three (Some a) (Some b) None = None

abbrev pub with_links : Option Expression → Option Links → Option Expression
with_links (Some a) (Some rest) = Some (bare (chain a rest))
with_links None rest = None
with_links (Some a) None = None

abbrev pub with_link : BinaryOp → Option Expression → Option Links → Option Links
with_link op (Some a) (Some rest) = Some (link op a rest)
with_link op None rest = None
with_link op (Some a) None = None

abbrev mutual
  pub renamed : Names → Expression → Option Expression
  renamed n (placed at s) = renamed_form n s

  pub renamed_form : Names → ExpressionForm → Option Expression
  renamed_form n (int z) = Some (bare (int z))
  renamed_form n (bool b) = Some (bare (bool b))
  renamed_form n no_rev = None
  renamed_form n (var w) = parameter_of n w.text
  renamed_form n (cell w index) = None
  renamed_form n (apply w args) = None
  renamed_form n (input at index) = None
  renamed_form n (inputs at) = None
  renamed_form n (pick test a b) = with_three (renamed n test) (renamed n a) (renamed n b)
  renamed_form n (unary op part) = with_part op (renamed n part)
  renamed_form n (chain first rest) = with_links (renamed n first) (renamed_links n rest)

  pub renamed_links : Names → Links → Option Links
  renamed_links n no_links = Some no_links
  renamed_links n (link op part rest) = with_link op (renamed n part) (renamed_links n rest)
