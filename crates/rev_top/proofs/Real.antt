-- Want of memory is among no faults of a program, so each of them is reported.
use Rattle.std.proofs.Common.{◌≡◌, refl, List, ℕ}
use Rattle.std.specs.Prelude.{Some}
use Rattle.rev_syntax.specs.Tokens.{IsFirstFault}
use Rattle.rev_syntax.specs.Trees.{ProgramTree}
use Rattle.rev_syntax.specs.declared.scan.LexFault.{LexFault}
use Rattle.rev_syntax.specs.declared.scan.LexFault.TheVariants as lex
use Rattle.typed_programs.specs.declared.fun_fault.MergeFault.{MergeFault}
use Rattle.typed_programs.specs.declared.fun_fault.MergeFault.TheVariants as fun
use Rattle.typed_programs.specs.declared.fault.TypeFault.{TypeFault}
use Rattle.typed_programs.specs.declared.fault.TypeFault.TheVariants as type
use Rattle.static_rules.specs.Funs.{BreaksFun, unknown_fun, later_fun, other_arity}
use Rattle.static_rules.specs.Breaks.{Breaks, unknown_variable, unknown_procedure, unknown_merge, declared_again, parameter_again, parameter_of_shared, let_again, other_kind, is_handle, other_right_side, other_constant, other_use, no_result, cumulative_kind, fun_parameter, fun_result, input_inside, inputs_inside, return_without, return_with, other_count, no_cells, no_return, locations, procedures, declared_funs, parameters, local_parameter, local_let, too_many_items, too_heavy}
use Rattle.rev_report.specs.declared.refusal.Refusal.{Refusal}
use Rattle.mode_reports.specs.Texts.{report_of_funs, report_of_lexical, report_of_types}

pub lexical_told : (text : List ℕ) (f : LexFault) → IsFirstFault text f
    → (r : Refusal) × (report_of_lexical text f ≡ Some r)
lexical_told text (lex.BadByte at) h = (_, refl)
lexical_told text (lex.BadNumber at) h = (_, refl)
lexical_told text (lex.OpenText at) h = (_, refl)
lexical_told text lex.OutOfMemory h = absurd h

-- ---- faults of funs

abbrev IsFun : MergeFault → Type 0
IsFun (fun.UnknownFun at) = Unit {0}
IsFun (fun.LaterFun at) = Unit {0}
IsFun (fun.Arity at) = Unit {0}
IsFun fun.OutOfMemory = ⊥

is_fun : (p : ProgramTree) (f : MergeFault) → BreaksFun p f → IsFun f
is_fun p _ (unknown_fun a b) = tt
is_fun p _ (later_fun a b c) = tt
is_fun p _ (other_arity a b c) = tt

fun_is_told : (text : List ℕ) (f : MergeFault) → IsFun f → (r : Refusal) × (report_of_funs text f ≡ Some r)
fun_is_told text (fun.UnknownFun at) h = (_, refl)
fun_is_told text (fun.LaterFun at) h = (_, refl)
fun_is_told text (fun.Arity at) h = (_, refl)
fun_is_told text fun.OutOfMemory h = absurd h

pub funs_told : (text : List ℕ) (p : ProgramTree) (f : MergeFault) → BreaksFun p f
    → (r : Refusal) × (report_of_funs text f ≡ Some r)
funs_told text p f b = fun_is_told text f (is_fun p f b)

-- ---- other static faults

abbrev IsRule : TypeFault → Type 0
IsRule (type.UnknownName at) = Unit {0}
IsRule (type.Redeclared at) = Unit {0}
IsRule (type.WrongType at) = Unit {0}
IsRule (type.WrongCount at) = Unit {0}
IsRule (type.NoReturn at) = Unit {0}
IsRule (type.LimitOf at w n) = Unit {0}
IsRule type.OutOfMemory = ⊥

is_rule : (p : ProgramTree) (f : TypeFault) → Breaks p f → IsRule f
is_rule p _ (unknown_variable a b) = tt
is_rule p _ (unknown_procedure a b c) = tt
is_rule p _ (unknown_merge a b c) = tt
is_rule p _ (declared_again d a b c) = tt
is_rule p _ (parameter_again v a b c d) = tt
is_rule p _ (parameter_of_shared q a b c) = tt
is_rule p _ (let_again a b) = tt
is_rule p _ (other_kind a b c) = tt
is_rule p _ (is_handle a b) = tt
is_rule p _ (other_right_side a b c d) = tt
is_rule p _ (other_constant a b c) = tt
is_rule p _ (other_use a b c) = tt
is_rule p _ (no_result a b c d) = tt
is_rule p _ (cumulative_kind a b c) = tt
is_rule p _ (fun_parameter q a b c) = tt
is_rule p _ (fun_result a b) = tt
is_rule p _ (input_inside a b) = tt
is_rule p _ (inputs_inside a b) = tt
is_rule p _ (return_without a b) = tt
is_rule p _ (return_with a b) = tt
is_rule p _ (other_count a b c d) = tt
is_rule p _ (no_cells a b c) = tt
is_rule p _ (no_return a b) = tt
is_rule p _ (locations a b c) = tt
is_rule p _ (procedures a b) = tt
is_rule p _ (declared_funs a b c) = tt
is_rule p _ (parameters a b c) = tt
is_rule p _ (local_parameter a b c) = tt
is_rule p _ (local_let a b) = tt
is_rule p _ (too_many_items a b c) = tt
is_rule p _ (too_heavy a b) = tt

rule_told : (text : List ℕ) (f : TypeFault) → IsRule f → (r : Refusal) × (report_of_types text f ≡ Some r)
rule_told text (type.UnknownName at) h = (_, refl)
rule_told text (type.Redeclared at) h = (_, refl)
rule_told text (type.WrongType at) h = (_, refl)
rule_told text (type.WrongCount at) h = (_, refl)
rule_told text (type.NoReturn at) h = (_, refl)
rule_told text (type.LimitOf at w n) h = (_, refl)
rule_told text type.OutOfMemory h = absurd h

pub types_told : (text : List ℕ) (p : ProgramTree) (f : TypeFault) → Breaks p f
    → (r : Refusal) × (report_of_types text f ≡ Some r)
types_told text p f b = rule_told text f (is_rule p f b)
