-- The rules and limits that a program breaks, each with its place.
--
-- `Breaks`: a program breaks a rule, and this is the fault, in the order of the list in the language's
-- reference; `array_named`: whether a name is that of an array; `IsFun`: a fun or a merge;
-- `IsFirstBroken`: the broken rule at the least place.
use Rattle.std.specs.Prelude.{◌≡◌, ◌≢◌, ℕ, ◌+◌, ◌≤◌, ◌<◌, Bool, true, false, Option, Some, None, option_map, List, [], length}
use Rattle.rev_num.specs.declared.value.ValueKind.{ValueKind}
use Rattle.rev_num.specs.declared.value.ValueKind.TheVariants as k
use Rattle.rev_num.specs.Value.{kind_of}
use Rattle.rev_syntax.specs.Trees.{PlacedName, Parameter, ArraySize, Constant, SharedDeclaration, Expression, placed, Expressions, input, inputs, RightSide, called, PrintItem, StatementForm, bind, assign, return, print, Statements, Declaration, fun, merge, shared, proc, ProgramTree}
use Rattle.typed_programs.specs.Least.{Among, IsFirstOf}
use Rattle.name_tables.specs.Table.{find}
use Rattle.typed_programs.specs.Weights.{weights_after, declaration_weight}
use Rattle.rev_report.specs.declared.limit.Limit.TheVariants as limits
use Rattle.typed_programs.specs.declared.fault.TypeFault.{TypeFault}
use Rattle.typed_programs.specs.declared.fault.TypeFault.TheVariants.{UnknownName, Redeclared, WrongType, WrongCount, NoReturn}
use Rattle.typed_programs.specs.declared.names.Holder.{Holder}
use Rattle.rev_report.specs.Limits.{most}
use Rattle.typed_programs.specs.Faults.{exceeded, row}
use Rattle.typed_programs.specs.Kinds.{Callee, Names, Locals, kind_in, name_kind, right_side_kind, right_side_place, expression_place, item_place}
use Rattle.typed_programs.specs.Scopes.{outside, cells_of, size_cells}
use Rattle.typed_programs.specs.Judgement.{IsNew, IsMergeOf, word_of}
use Rattle.typed_programs.specs.Limits.{cells, procs, funs}
use Rattle.static_rules.specs.Places.{IsBehind, Declares, Site, Stands, Occurs, Uses, Wanted, NoHandle, expressions_of, parameters_of, param_words, right_side_of, call_of}
use Rattle.typed_programs.specs.Judgement.{Ends}

-- whether a name is that of an array, if it is known
abbrev pub array_named : Option (Option ValueKind) → Option Holder → Option Bool
array_named (Some found) h = Some false
array_named None h = option_map (λ x. x.array) h

-- a fun or a merge
abbrev pub IsFun : Declaration → Type 0
IsFun (fun w ps r body) = Unit {0}
IsFun (merge w m j r body) = Unit {0}
IsFun _ = ⊥

-- a program breaks a rule or a limit, and this is the fault with its place
pub data Breaks (p : ProgramTree) : TypeFault → Type 0 where
  -- ---- unknown names

  -- a name that is read or assigned and is that of no local in scope and of no shared variable
  unknown_variable : {c : Names} {l : Locals} {w : PlacedName} {indexed : Bool}
      → Uses p c l w indexed → IsNew c l w → Breaks p (UnknownName w.at)
  -- a name after `call` or `rfork` that no procedure has
  unknown_procedure : {i : Site} {form : StatementForm} {w : PlacedName} {args : Expressions}
      → Stands p i form → call_of form ≡ Some (w, args) → i.names.procs w.text ≡ None → Breaks p (UnknownName w.at)
  -- a name after `by` that no merge before has
  unknown_merge : {before : List Declaration} {x : SharedDeclaration} {w : PlacedName}
      → IsBehind before (shared x) p.declarations → x.by ≡ Some w
      → ((e : Declaration) → Among before e → IsMergeOf w.text e → ⊥) → Breaks p (UnknownName w.at)
  -- ---- names that are declared twice

  -- a declaration with the name of one before
  declared_again : {before : List Declaration} (d : Declaration) {e : Declaration}
      → IsBehind before e p.declarations → Among before d → (word_of d).text ≡ (word_of e).text
      → Breaks p (Redeclared (word_of e).at)
  -- a parameter with the name of an earlier one of the declaration
  parameter_again : {e : Declaration} {before : List PlacedName} (v : PlacedName) {w : PlacedName}
      → Declares p e → IsBehind before w (param_words e) → Among before v → v.text ≡ w.text → Breaks p (Redeclared w.at)
  -- a procedure's parameter with the name of a shared variable
  parameter_of_shared : {w : PlacedName} {ps : List Parameter} {r : Option ValueKind} {body : Statements}
      (q : Parameter)
      → Declares p (proc w ps r body) → Among ps q → (outside p.declarations).shared q.name.text ≢ None
      → Breaks p (Redeclared q.name.at)
  -- a `let` with the name of a local in scope or of a shared variable
  let_again : {i : Site} {w : PlacedName} {x : RightSide}
      → Stands p i (bind w x) → (IsNew i.names i.locals w → ⊥) → Breaks p (Redeclared w.at)
  -- ---- wrong kinds

  -- an expression whose kind is not the one that is wanted there
  other_kind : {c : Names} {l : Locals} {e : Expression} {t found : ValueKind}
      → Wanted p c l e t → kind_in c l e ≡ Some found → found ≢ t → Breaks p (WrongType (expression_place e))
  -- a handle where none may be
  is_handle : {c : Names} {l : Locals} {e : Expression}
      → NoHandle p c l e → kind_in c l e ≡ Some k.Rev → Breaks p (WrongType (expression_place e))
  -- a right side whose kind is not that of what it is assigned to
  other_right_side : {i : Site} {w : PlacedName} {x : RightSide} {t found : ValueKind}
      → Stands p i (assign w x) → name_kind (find w.text i.locals) (i.names.shared w.text) ≡ Some t
      → right_side_kind i.names i.locals x ≡ Some found → found ≢ t → Breaks p (WrongType (right_side_place x))
  -- a start value whose kind is not that of its variable
  other_constant : {x : SharedDeclaration} {first : Constant}
      → Declares p (shared x) → x.first ≡ Some first → kind_of first.value ≢ x.holds → Breaks p (WrongType first.at)
  -- an array without an index, or another name with one
  other_use : {c : Names} {l : Locals} {w : PlacedName} {indexed array : Bool}
      → Uses p c l w indexed → array_named (find w.text l) (c.shared w.text) ≡ Some array → array ≢ indexed
      → Breaks p (WrongType w.at)
  -- a `call` behind `=` of a procedure without a result
  no_result : {i : Site} {at : ℕ} {form : StatementForm} {w : PlacedName} {args : Expressions} {f : Callee}
      → Stands p i form → right_side_of form ≡ Some (called at w args) → i.names.procs w.text ≡ Some f → f.result ≡ None
      → Breaks p (WrongType w.at)
  -- a cumulative variable that is no int
  cumulative_kind : {x : SharedDeclaration} {w : PlacedName}
      → Declares p (shared x) → x.by ≡ Some w → x.holds ≢ k.Int → Breaks p (WrongType x.kind_at)
  -- a fun's parameter that is a handle
  fun_parameter : {w : PlacedName} {ps : List Parameter} {r : ValueKind} {body : Expression} (q : Parameter)
      → Declares p (fun w ps r body) → Among ps q → q.kind ≡ k.Rev → Breaks p (WrongType q.kind_at)
  -- a fun that gives a handle
  fun_result : {w : PlacedName} {ps : List Parameter} {r : ValueKind} {body : Expression}
      → Declares p (fun w ps r body) → r ≡ k.Rev → Breaks p (WrongType w.at)
  -- `input` and `inputs` inside a fun or a merge
  input_inside : {c : Names} {l : Locals} {at at' : ℕ} {e : Expression}
      → Occurs p c l (placed at (input at' e)) → c.inside ≡ true → Breaks p (WrongType at')
  inputs_inside : {c : Names} {l : Locals} {at at' : ℕ}
      → Occurs p c l (placed at (inputs at')) → c.inside ≡ true → Breaks p (WrongType at')
  -- `return` without a value in a procedure with a result, and with one in `main` or a procedure without
  return_without : {i : Site} {t : ValueKind}
      (s : Stands p i (return None)) → i.result ≡ Some t → Breaks p (WrongType s.at)
  return_with : {i : Site} {e : Expression}
      → Stands p i (return (Some e)) → i.result ≡ None → Breaks p (WrongType (expression_place e))
  -- ---- wrong numbers

  -- another number of arguments than parameters
  other_count : {i : Site} {form : StatementForm} {w : PlacedName} {args : Expressions} {f : Callee}
      → Stands p i form → call_of form ≡ Some (w, args) → i.names.procs w.text ≡ Some f
      → length (expressions_of args) ≢ length f.params
      → Breaks p (WrongCount w.at)
  -- an array of size 0
  no_cells : {x : SharedDeclaration} {size : ArraySize}
      → Declares p (shared x) → x.size ≡ Some size → size_cells size.cells ≡ 0 → Breaks p (WrongCount size.at)
  -- ---- no return

  -- a procedure with a result whose block does not return
  no_return : {w : PlacedName} {ps : List Parameter} {t : ValueKind} {body : Statements}
      → Declares p (proc w ps (Some t) body) → (Ends body → ⊥) → Breaks p (NoReturn w.at)
  -- ---- limits

  -- the variable with which the cells are more than the limit for the first time
  locations : {before : List Declaration} {x : SharedDeclaration}
      → IsBehind before (shared x) p.declarations → cells before ≤ most limits.Locations
      → most limits.Locations < cells before + cells_of x.size
      → Breaks p (exceeded x.name.at limits.Locations)
  -- the procedure before which as many stand as the limit allows
  procedures : {before : List Declaration} {w : PlacedName} {ps : List Parameter} {r : Option ValueKind}
      {body : Statements}
      → IsBehind before (proc w ps r body) p.declarations → procs before ≡ most limits.Procedures
      → Breaks p (exceeded w.at limits.Procedures)
  -- the fun or the merge before which as many stand as the limit allows
  declared_funs : {before : List Declaration} {e : Declaration}
      → IsBehind before e p.declarations → IsFun e → funs before ≡ most limits.Funs
      → Breaks p (exceeded (word_of e).at limits.Funs)
  -- the parameter before which as many stand as the limit allows
  parameters : {e : Declaration} {before : List Parameter} {q : Parameter}
      → Declares p e → IsBehind before q (parameters_of e) → length before ≡ most limits.Parameters
      → Breaks p (exceeded q.name.at limits.Parameters)
  -- the parameter or the `let` before which as many locals stand as the limit allows
  local_parameter : {w : PlacedName} {ps : List Parameter} {r : Option ValueKind} {body : Statements}
      {before : List Parameter} {q : Parameter}
      → Declares p (proc w ps r body) → IsBehind before q ps → length before ≡ most limits.Locals
      → Breaks p (exceeded q.name.at limits.Locals)
  local_let : {i : Site} {w : PlacedName} {x : RightSide}
      → Stands p i (bind w x) → i.before ≡ most limits.Locals → Breaks p (exceeded w.at limits.Locals)
  -- the item before which as many stand as the limit allows
  too_many_items : {i : Site} {all before : List PrintItem} {x : PrintItem}
      → Stands p i (print all) → IsBehind before x all → length before ≡ most limits.Items
      → Breaks p (exceeded (item_place x) limits.Items)
  -- a fun or a merge whose body weighs more than the limit
  too_heavy : {before : List Declaration} {e : Declaration}
      → IsBehind before e p.declarations → most limits.Weight < declaration_weight (weights_after [] before) e
      → Breaks p (exceeded (word_of e).at limits.Weight)

-- a program breaks no rule and no limit
abbrev pub BreaksNone : ProgramTree → Type 0
BreaksNone p = (f : TypeFault) → Breaks p f → ⊥

-- of all that a program breaks this is at the least place, and there of the least number
abbrev pub IsFirstBroken : ProgramTree → TypeFault → Type 0
IsFirstBroken p f = IsFirstOf (Breaks p) row f
