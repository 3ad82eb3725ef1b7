-- The rules on expressions gathered by the first of two faults, and what a contract sees of a checker.
use Rattle.std.specs.Prelude.{ℕ, Bool, if◌then◌else◌, Option, Some, None, option_map, List, map}
use Rattle.rev_num.specs.declared.value.ValueKind.{ValueKind}
use Rattle.rev_syntax.specs.Trees.{PlacedName, Parameter, Expression, ExpressionForm, Expressions, Links, RightSide}
use Rattle.rev_syntax.specs.View.{parameter}
use Rattle.rev_syntax.specs.declared.tree.BinaryOp.{BinaryOp}
use Rattle.typed_programs.specs.Least.{first_of}
use Rattle.name_tables.specs.Table.{find}
use Rattle.typed_programs.specs.declared.fault.TypeFault.{TypeFault}
use Rattle.typed_programs.specs.declared.names.Holder.{Holder}
use Rattle.rev_kinds.specs.declared.names.Callee as held
use Rattle.rev_kinds.specs.declared.names.Checker as held_checker
use Rattle.typed_programs.specs.Faults.{place, rank}
use Rattle.typed_programs.specs.Kinds.{Callee, Names, Locals}
use Rattle.typed_programs.specs.Rules as r

-- ---- views

abbrev pub callee : held.Callee → Callee
callee f = record { params = map parameter f.params.now; result = f.result }

-- what names mean to a checker
abbrev pub names_of : held_checker.Checker → Names
names_of c = record {
  shared = λ name. if c.inside then None else find name c.shared.now;
  procs = λ name. option_map callee (find name c.procs.now);
  funs = λ name. option_map callee (find name c.funs.now);
  inside = c.inside;
}

-- ---- the first fault

abbrev pub Fault : Type 0
Fault = Option TypeFault

abbrev pub both : Fault → Fault → Fault
both = first_of place rank

abbrev pub wants : ℕ → Option ValueKind → ValueKind → Fault
wants = r.wants None Some both

abbrev pub not_rev : ℕ → Option ValueKind → Fault
not_rev = r.not_rev None Some both

abbrev pub alike : ℕ → Option ValueKind → Option ValueKind → Fault
alike = r.alike None Some both

abbrev pub fits : ℕ → Option ValueKind → Option Parameter → Fault
fits = r.fits None Some both

abbrev pub scalar_use : PlacedName → Option (Option ValueKind) → Option Holder → Fault
scalar_use = r.scalar_use None Some both

abbrev pub array_use : PlacedName → Option (Option ValueKind) → Option Holder → Fault
array_use = r.array_use None Some both

abbrev pub input_use : Bool → ℕ → Fault
input_use = r.input_use None Some both

abbrev pub left_operand : BinaryOp → ℕ → Option ValueKind → Fault
left_operand = r.left_operand None Some both

abbrev pub right_operand : BinaryOp → Option ValueKind → ℕ → Option ValueKind → Fault
right_operand = r.right_operand None Some both

abbrev pub first_operand : Links → ℕ → Option ValueKind → Fault
first_operand = r.first_operand None Some both

abbrev pub params_of : Option Callee → List Parameter
params_of = r.params_of None Some both

abbrev pub broken_in_expression : Names → Locals → Expression → Fault
broken_in_expression = r.broken_in_expression None Some both

abbrev pub broken_in_expression_form : Names → Locals → ExpressionForm → Fault
broken_in_expression_form = r.broken_in_expression_form None Some both

abbrev pub args_by : Names → Locals → List Parameter → ℕ → Fault → Expressions → Fault
args_by = r.args_by None Some both

abbrev pub arg_by : Names → Locals → List Parameter → ℕ → Expression → Fault
arg_by = r.arg_by None Some both

abbrev pub broken_in_links : Names → Locals → Option ValueKind → Fault → Links → Fault
broken_in_links = r.broken_in_links None Some both

abbrev pub part_by : Names → Locals → Expression → ValueKind → Fault
part_by = r.part_by None Some both

abbrev pub callee_use : PlacedName → ℕ → Option Callee → Fault
callee_use = r.callee_use None Some both

abbrev pub call_by : Names → Locals → PlacedName → Expressions → Fault
call_by = r.call_by None Some both

abbrev pub result_use : ℕ → Option Callee → Fault
result_use = r.result_use None Some both

abbrev pub broken_in_right_side : Names → Locals → RightSide → Fault
broken_in_right_side = r.broken_in_right_side None Some both
