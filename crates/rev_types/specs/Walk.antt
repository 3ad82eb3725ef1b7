-- The rules on statements and declarations gathered by the first of two faults.
use Rattle.std.specs.Prelude.{ℕ, Bool, Option, Some, None, List}
use Rattle.rev_num.specs.declared.value.ValueKind.{ValueKind}
use Rattle.rev_syntax.specs.Trees.{PlacedName, Parameter, ArraySize, Constant, Expression, RightSide, PrintItem, Statement, StatementForm, Statements, Arms, Declaration, ProgramTree}
use Rattle.name_tables.specs.Table.{Table}
use Rattle.rev_report.specs.declared.limit.Limit.{Limit}
use Rattle.typed_programs.specs.declared.names.Holder.{Holder}
use Rattle.typed_programs.specs.Kinds.{Names, Locals}
use Rattle.rev_kinds.specs.Walk.{Fault, both}
use Rattle.typed_programs.specs.Statements as s
use Rattle.typed_programs.specs.Program as p

-- ---- statements

abbrev pub new_local : PlacedName → Option (Option ValueKind) → Option Holder → Fault
new_local = s.new_local None Some both

abbrev pub one_more_local : PlacedName → ℕ → Fault
one_more_local = s.one_more_local None Some both

abbrev pub one_more_item : ℕ → ℕ → Fault
one_more_item = s.one_more_item None Some both

abbrev pub items_by : Names → Locals → ℕ → Fault → List PrintItem → Fault
items_by = s.items_by None Some both

abbrev pub return_by : Names → Locals → Option ValueKind → ℕ → Option Expression → Fault
return_by = s.return_by None Some both

abbrev pub assigned : Names → Locals → Option ValueKind → RightSide → Fault
assigned = s.assigned None Some both

abbrev pub broken_in_statement : Names → Option ValueKind → Locals → ℕ → Statement → Fault
broken_in_statement = s.broken_in_statement None Some both

abbrev pub broken_in_statement_form : Names → Option ValueKind → Locals → ℕ → ℕ → StatementForm → Fault
broken_in_statement_form = s.broken_in_statement_form None Some both

abbrev pub broken_in_statements : Names → Option ValueKind → Locals → ℕ → Fault → Statements → Fault
broken_in_statements = s.broken_in_statements None Some both

abbrev pub broken_in_arms : Names → Option ValueKind → Locals → ℕ → Fault → Arms → Fault
broken_in_arms = s.broken_in_arms None Some both

-- ---- declarations

abbrev pub new_name : PlacedName → Table ℕ → Fault
new_name = p.new_name None Some both

abbrev pub limit_at : ℕ → Limit → ℕ → Fault
limit_at = p.limit_at None Some both

abbrev pub new_param : PlacedName → Locals → Fault
new_param = p.new_param None Some both

abbrev pub fun_params : Locals → ℕ → Fault → List Parameter → Fault
fun_params = p.fun_params None Some both

abbrev pub proc_params : Names → Locals → ℕ → ℕ → Fault → List Parameter → Fault
proc_params = p.proc_params None Some both

abbrev pub merge_params : PlacedName → PlacedName → PlacedName → Fault
merge_params = p.merge_params None Some both

abbrev pub weight_of : PlacedName → ℕ → Fault
weight_of = p.weight_of None Some both

abbrev pub fun_result : PlacedName → ValueKind → Fault
fun_result = p.fun_result None Some both

abbrev pub fun_body : Names → Locals → ValueKind → Expression → Fault
fun_body = p.fun_body None Some both

abbrev pub by_use : Table ℕ → Option PlacedName → Fault
by_use = p.by_use None Some both

abbrev pub cumulative_kind : Option PlacedName → ℕ → ValueKind → Fault
cumulative_kind = p.cumulative_kind None Some both

abbrev pub size_use : Option ArraySize → Fault
size_use = p.size_use None Some both

abbrev pub first_value : Option Constant → ValueKind → Fault
first_value = p.first_value None Some both

abbrev pub location_limit : PlacedName → ℕ → ℕ → Fault
location_limit = p.location_limit None Some both

abbrev pub return_use : PlacedName → Option ValueKind → Bool → Fault
return_use = p.return_use None Some both

abbrev pub broken_in_declaration : Names → Names → p.Passed → Declaration → Fault
broken_in_declaration = p.broken_in_declaration None Some both

abbrev pub broken_in_declarations : Names → Names → p.Passed → Fault → List Declaration → Fault
broken_in_declarations = p.broken_in_declarations None Some both

abbrev pub broken_in_program : ProgramTree → Fault
broken_in_program = p.broken_in_program None Some both
