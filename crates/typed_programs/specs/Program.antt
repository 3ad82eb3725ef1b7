-- The rules that declarations break, and what a program declares.
use Rattle.std.specs.Prelude.{ℕ, ◌+◌, ◌-◌, Bool, if◌then◌else◌, nat_eq, nat_le, nat_lt, min, Option, Some, None, is_some, List, [], ◌∷◌, ◌++◌}
use Rattle.rev_num.specs.declared.value.ValueKind.{ValueKind}
use Rattle.rev_num.specs.declared.value.ValueKind.TheVariants as k
use Rattle.rev_num.specs.Value.{kind_of, same_kind}
use Rattle.rev_syntax.specs.Trees.{PlacedName, Parameter, ArraySize, Constant, SharedDeclaration, Expression, placed, ExpressionForm, Expressions, Links, int, bool, no_rev, var, cell, apply, input, inputs, pick, unary, chain, no_expressions, expression, no_links, link, Statements, Declaration, fun, merge, shared, proc, ProgramTree}
use Rattle.name_tables.specs.Table.{Table, find, added}
use Rattle.typed_programs.specs.Weights.{known_weight}
use Rattle.rev_report.specs.declared.limit.Limit.{Limit}
use Rattle.rev_report.specs.declared.limit.Limit.TheVariants as limits
use Rattle.typed_programs.specs.declared.fault.TypeFault.{TypeFault}
use Rattle.typed_programs.specs.declared.fault.TypeFault.TheVariants.{UnknownName, Redeclared, WrongType, WrongCount, NoReturn}
use Rattle.rev_report.specs.Limits.{first_past, most}
use Rattle.typed_programs.specs.Faults.{exceeded}
use Rattle.typed_programs.specs.Kinds.{Names, Locals, kind_in, expression_place}
use Rattle.typed_programs.specs.Rules.{wants, not_rev, part_by}
use Rattle.typed_programs.specs.declared.shared_info.SharedInfo.{SharedInfo}
use Rattle.typed_programs.specs.Scopes.{outside, within, with_params, merge_locals, size_cells, cells_of}
use Rattle.typed_programs.specs.Statements.{new_local, one_more_local, broken_in_statements, returns}

-- ---- weights

-- the sum of weights; a weight past the limit counts as one past it
abbrev pub plus : ℕ → ℕ → ℕ
plus a b = min (a + b) (first_past limits.Weight)

abbrev mutual
  -- the weight of an expression: 1 for each node and 1 for each link in place of a chain's node; an
  -- application also has the weight of its fun
  pub weight : Table ℕ → Expression → ℕ
  weight ws (placed at s) = expression_form_weight ws s

  pub expression_form_weight : Table ℕ → ExpressionForm → ℕ
  expression_form_weight ws (int n) = 1
  expression_form_weight ws (bool x) = 1
  expression_form_weight ws no_rev = 1
  expression_form_weight ws (var w) = 1
  expression_form_weight ws (inputs at) = 1
  expression_form_weight ws (cell w index) = plus 1 (weight ws index)
  expression_form_weight ws (input at index) = plus 1 (weight ws index)
  expression_form_weight ws (apply w args) = expressions_weight ws (plus 1 (known_weight (find w.text ws))) args
  expression_form_weight ws (pick test x y) = plus (plus (plus 1 (weight ws test)) (weight ws x)) (weight ws y)
  expression_form_weight ws (unary op part) = plus 1 (weight ws part)
  expression_form_weight ws (chain first rest) = links_weight ws (weight ws first) rest

  -- with this weight before
  pub expressions_weight : Table ℕ → ℕ → Expressions → ℕ
  expressions_weight ws n no_expressions = n
  expressions_weight ws n (expression x xs) = expressions_weight ws (plus n (weight ws x)) xs

  pub links_weight : Table ℕ → ℕ → Links → ℕ
  links_weight ws n no_links = n
  links_weight ws n (link op x rest) = links_weight ws (plus n (plus 1 (weight ws x))) rest

-- ---- what earlier declarations declare

-- the locations of a variable; more than the limit count as one more than it
abbrev pub cells_in : Option ArraySize → ℕ
cells_in x = min (cells_of x) (first_past limits.Locations)

-- the locations of cells after others; more than the limit count as one more than it
abbrev pub located_after : ℕ → ℕ → ℕ
located_after before cells = min (before + cells) (first_past limits.Locations)

-- What the declarations before a place declare: their names, the numbers of the merges by name, the
-- weights of the funs by name, the locations, and how many more procedures and how many more funs and
-- merges there are up to and with the first past the limit.
pub record Passed : Type 0 where
  pub number : ℕ
  pub names : Table ℕ
  pub merges : Table ℕ
  pub merge_count : ℕ
  pub weights : Table ℕ
  pub located : ℕ
  pub procs_left : ℕ
  pub funs_left : ℕ

abbrev pub nothing_passed : Passed
nothing_passed = record {
  number = 0;
  names = [];
  merges = [];
  merge_count = 0;
  weights = [];
  located = 0;
  procs_left = first_past limits.Procedures;
  funs_left = first_past limits.Funs;
}

abbrev pub passed_with : Passed → Declaration → Passed
passed_with p (fun w ps r body) = record p {
  number = p.number + 1;
  names = added p.names w.text p.number;
  weights = added p.weights w.text (weight p.weights body);
  funs_left = p.funs_left - 1;
}
passed_with p (merge w m j r body) = record p {
  number = p.number + 1;
  names = added p.names w.text p.number;
  merges = added p.merges w.text p.merge_count;
  merge_count = p.merge_count + 1;
  funs_left = p.funs_left - 1;
}
passed_with p (shared x) = record p {
  number = p.number + 1;
  names = added p.names x.name.text p.number;
  located = located_after p.located (cells_in x.size);
}
passed_with p (proc w ps r body) =
    record p { number = p.number + 1; names = added p.names w.text p.number; procs_left = p.procs_left - 1 }

-- the weight of the body of a fun or of a merge behind these
abbrev pub body_weight : Passed → Declaration → ℕ
body_weight p (fun w ps r body) = weight p.weights body
body_weight p (merge w m j r body) = weight p.weights body
body_weight p (shared x) = 0
body_weight p (proc w ps r body) = 0

-- ---- the tables of a program

-- the number of the merge of a cumulative variable: of those declared before it the first of the name
abbrev pub merge_number : Table ℕ → Option PlacedName → Option ℕ
merge_number ms None = None
merge_number ms (Some w) = find w.text ms

abbrev pub info : Passed → SharedDeclaration → SharedInfo
info p x = record {
  decl = p.number;
  base = p.located;
  cells = cells_in x.size;
  array = is_some x.size;
  merge = merge_number p.merges x.by;
}

-- what a declaration adds to the shared variables
abbrev pub info_of : Passed → Declaration → List SharedInfo
info_of p (shared x) = info p x ∷ []
info_of p (fun w ps r body) = []
info_of p (merge w m j r body) = []
info_of p (proc w ps r body) = []

-- the shared variables in order, each with its first location, its cells and its merge
abbrev pub infos : Passed → List Declaration → List SharedInfo
infos p [] = []
infos p (e ∷ es) = info_of p e ++ infos (passed_with p e) es

-- what a declaration of this number adds to the procedures
abbrev pub proc_of : ℕ → Declaration → List ℕ
proc_of d (proc w ps r body) = d ∷ []
proc_of d (fun w ps r body) = []
proc_of d (merge w m j r body) = []
proc_of d (shared x) = []

-- the numbers of the declarations that are procedures
abbrev pub proc_decls : ℕ → List Declaration → List ℕ
proc_decls d [] = []
proc_decls d (e ∷ es) = proc_of d e ++ proc_decls (d + 1) es

-- what all declarations declare
abbrev pub passed_all : Passed → List Declaration → Passed
passed_all p [] = p
passed_all p (e ∷ es) = passed_all (passed_with p e) es

abbrev pub locations : ProgramTree → ℕ
locations p = (passed_all nothing_passed p.declarations).located

-- ---- the rules

-- how many more locals there are up to and with the first past the limit, after parameters
abbrev pub left_params : ℕ → List Parameter → ℕ
left_params n [] = n
left_params n (p ∷ ps) = left_params (n - 1) ps

module _ {M : Type 0} (none : M) (one : TypeFault → M) (both : M → M → M) where
  -- a name that a declaration before has
  abbrev pub new_name : PlacedName → Table ℕ → M
  new_name w names = if is_some (find w.text names) then one (Redeclared w.at) else none

  -- the first past a limit
  abbrev pub limit_at : ℕ → Limit → ℕ → M
  limit_at at which left = if nat_eq left 1 then one (exceeded at which) else none

  -- a parameter of this name, where these are the earlier ones
  abbrev pub new_param : PlacedName → Locals → M
  new_param w l = if is_some (find w.text l) then one (Redeclared w.at) else none

  abbrev pub no_rev_param : Parameter → M
  no_rev_param p = if same_kind p.kind k.Rev then one (WrongType p.kind_at) else none

  abbrev pub fun_param : Locals → ℕ → Parameter → M
  fun_param l left p = both (new_param p.name l) (both (no_rev_param p) (limit_at p.name.at limits.Parameters left))

  -- the parameters of a fun, where these faults were found before
  abbrev pub fun_params : Locals → ℕ → M → List Parameter → M
  fun_params l left found [] = found
  fun_params l left found (p ∷ ps) =
      fun_params (added l p.name.text (Some p.kind)) (left - 1) (both found (fun_param l left p)) ps

  abbrev pub proc_param : Names → Locals → ℕ → ℕ → Parameter → M
  proc_param c l left locals_left p =
      both (new_local none one both p.name (find p.name.text l) (c.shared p.name.text))
      (both (limit_at p.name.at limits.Parameters left) (one_more_local none one both p.name locals_left))

  -- the parameters of a procedure, where these faults were found before
  abbrev pub proc_params : Names → Locals → ℕ → ℕ → M → List Parameter → M
  proc_params c l left locals_left found [] = found
  proc_params c l left locals_left found (p ∷ ps) =
      proc_params c (added l p.name.text (Some p.kind)) (left - 1) (locals_left - 1)
      (both found (proc_param c l left locals_left p)) ps

  abbrev pub merge_params : PlacedName → PlacedName → PlacedName → M
  merge_params m j r =
      both (new_param j (added [] m.text (Some k.Int)))
      (new_param r (added (added [] m.text (Some k.Int)) j.text (Some k.Int)))

  -- a fun's or a merge's weight
  abbrev pub weight_of : PlacedName → ℕ → M
  weight_of w n = if nat_lt (most limits.Weight) n then one (exceeded w.at limits.Weight) else none

  -- the result of a fun is no handle
  abbrev pub fun_result : PlacedName → ValueKind → M
  fun_result w r = if same_kind r k.Rev then one (WrongType w.at) else none

  -- the body of a fun has the fun's result's kind, which is no handle's
  abbrev pub fun_body : Names → Locals → ValueKind → Expression → M
  fun_body c l r body = both (part_by none one both c l body r)
      (not_rev none one both (expression_place body) (kind_in c l body))

  -- the name after `by` is that of a merge that is declared before
  abbrev pub by_use : Table ℕ → Option PlacedName → M
  by_use ms None = none
  by_use ms (Some w) = if is_some (find w.text ms) then none else one (UnknownName w.at)

  -- a cumulative variable holds ints
  abbrev pub cumulative_kind : Option PlacedName → ℕ → ValueKind → M
  cumulative_kind None at found = none
  cumulative_kind (Some w) at found = if same_kind found k.Int then none else one (WrongType at)

  -- an array has a cell
  abbrev pub size_use : Option ArraySize → M
  size_use None = none
  size_use (Some x) = if nat_eq (size_cells x.cells) 0 then one (WrongCount x.at) else none

  abbrev pub first_value : Option Constant → ValueKind → M
  first_value None wanted = none
  first_value (Some x) wanted = wants none one both x.at (Some (kind_of x.value)) wanted

  -- the variable with which there are too many locations
  abbrev pub location_limit : PlacedName → ℕ → ℕ → M
  location_limit w before after =
      if nat_le before (most limits.Locations)
      then (if nat_lt (most limits.Locations) after then one (exceeded w.at limits.Locations) else none) else none

  -- a procedure with a result returns
  abbrev pub return_use : PlacedName → Option ValueKind → Bool → M
  return_use w None b = none
  return_use w (Some found) b = if b then none else one (NoReturn w.at)

  abbrev pub broken_in_fun : Names → Passed → PlacedName → List Parameter → ValueKind → Expression → M
  broken_in_fun inner p w ps r body =
      both (both (new_name w p.names) (limit_at w.at limits.Funs p.funs_left))
      (both (both (fun_params [] (first_past limits.Parameters) none ps) (fun_result w r))
      (both (fun_body inner (with_params [] ps) r body) (weight_of w (weight p.weights body))))

  abbrev pub broken_in_merge : Names → Passed → PlacedName → PlacedName → PlacedName → PlacedName → Expression → M
  broken_in_merge inner p w m j r body =
      both (both (new_name w p.names) (limit_at w.at limits.Funs p.funs_left))
      (both (merge_params m j r)
      (both (part_by none one both inner (merge_locals m j r) body k.Int) (weight_of w (weight p.weights body))))

  abbrev pub broken_in_shared : Passed → SharedDeclaration → M
  broken_in_shared p x =
      both (both (new_name x.name p.names)
      (location_limit x.name p.located (located_after p.located (cells_in x.size))))
      (both (both (by_use p.merges x.by) (cumulative_kind x.by x.kind_at x.holds))
      (both (size_use x.size) (first_value x.first x.holds)))

  abbrev pub broken_in_proc : Names → Passed → PlacedName → List Parameter → Option ValueKind → Statements → M
  broken_in_proc outer p w ps r body =
      both (both (new_name w p.names) (limit_at w.at limits.Procedures p.procs_left))
      (both (both (proc_params outer [] (first_past limits.Parameters) (first_past limits.Locals) none ps)
      (return_use w r (returns body)))
      (broken_in_statements none one both outer r (with_params [] ps) (left_params (first_past limits.Locals) ps) none
      body))

  -- a declaration, where names mean this outside of funs and merges, and this inside, after these
  abbrev pub broken_in_declaration : Names → Names → Passed → Declaration → M
  broken_in_declaration outer inner p (fun w ps r body) = broken_in_fun inner p w ps r body
  broken_in_declaration outer inner p (merge w m j r body) = broken_in_merge inner p w m j r body
  broken_in_declaration outer inner p (shared x) = broken_in_shared p x
  broken_in_declaration outer inner p (proc w ps r body) = broken_in_proc outer p w ps r body

  -- declarations, where these faults were found before
  abbrev pub broken_in_declarations : Names → Names → Passed → M → List Declaration → M
  broken_in_declarations outer inner p found [] = found
  broken_in_declarations outer inner p found (e ∷ es) =
      broken_in_declarations outer inner (passed_with p e) (both found (broken_in_declaration outer inner p e)) es

  abbrev pub broken_in_program : ProgramTree → M
  broken_in_program p =
      both (broken_in_declarations (outside p.declarations) (within p.declarations) nothing_passed none p.declarations)
      (broken_in_statements none one both (outside p.declarations) None [] (first_past limits.Locals) none p.main)

-- ---- well-typed programs

-- all rules and limits that a program breaks, beside the rules on funs
abbrev pub faults : ProgramTree → List TypeFault
faults p = broken_in_program [] (λ f. f ∷ []) (λ xs ys. xs ++ ys) p
