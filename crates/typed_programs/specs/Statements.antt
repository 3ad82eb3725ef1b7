-- The rules that a statement breaks.
use Rattle.std.specs.Prelude.{ℕ, ◌-◌, Bool, true, false, if◌then◌else◌, nat_eq, Option, Some, None, is_some, List, [], ◌∷◌}
use Rattle.rev_num.specs.declared.value.ValueKind.{ValueKind}
use Rattle.rev_num.specs.declared.value.ValueKind.TheVariants as k
use Rattle.rev_syntax.specs.Trees.{PlacedName, Expression, RightSide, PrintItem, text, shown, Statement, statement, StatementForm, bind, assign, assign_cell, choose, choose_or, repeat, call, return, fork, join, print, assert, Statements, no_statements, statements, Arms, no_arms, arm}
use Rattle.name_tables.specs.Table.{find}
use Rattle.typed_programs.specs.declared.names.Holder.{Holder}
use Rattle.rev_report.specs.declared.limit.Limit.TheVariants as limits
use Rattle.typed_programs.specs.declared.fault.TypeFault.{TypeFault}
use Rattle.typed_programs.specs.declared.fault.TypeFault.TheVariants.{Redeclared, WrongType}
use Rattle.rev_report.specs.Limits.{first_past}
use Rattle.typed_programs.specs.Faults.{exceeded}
use Rattle.typed_programs.specs.Kinds.{Names, Locals, name_kind, kind_in, right_side_kind, right_side_place, expression_place}
use Rattle.typed_programs.specs.Rules.{not_rev, alike, scalar_use, array_use, part_by, broken_in_expression, broken_in_right_side, call_by}
use Rattle.typed_programs.specs.Scopes.{locals_after}

-- How many more locals there are up to and with the first past the limit, after a statement: each
-- `let` counts, also in a block that has ended.
abbrev mutual
  pub left_after : ℕ → Statement → ℕ
  left_after n (statement at line form) = left_statement_form n form

  pub left_statement_form : ℕ → StatementForm → ℕ
  left_statement_form n (bind w r) = n - 1
  left_statement_form n (choose arms) = left_arms n arms
  left_statement_form n (choose_or arms last) = left_statements (left_arms n arms) last
  left_statement_form n (repeat test body) = left_statements n body
  left_statement_form n (assign w r) = n
  left_statement_form n (assign_cell w i e) = n
  left_statement_form n (call w args) = n
  left_statement_form n (return e) = n
  left_statement_form n (fork w args) = n
  left_statement_form n (join e) = n
  left_statement_form n (print items) = n
  left_statement_form n (assert e) = n

  pub left_statements : ℕ → Statements → ℕ
  left_statements n no_statements = n
  left_statements n (statements s rest) = left_statements (left_after n s) rest

  pub left_arms : ℕ → Arms → ℕ
  left_arms n no_arms = n
  left_arms n (arm test body rest) = left_arms (left_statements n body) rest

-- a block returns where its last statement is `return`, or an `if` with a last `else` whose blocks
-- all return
abbrev mutual
  pub statement_returns : Statement → Bool
  statement_returns (statement at line form) = statement_form_returns form

  pub statement_form_returns : StatementForm → Bool
  statement_form_returns (return e) = true
  statement_form_returns (choose_or arms last) = if arms_return true arms then statements_return false last else false
  statement_form_returns (choose arms) = false
  statement_form_returns (bind w r) = false
  statement_form_returns (assign w r) = false
  statement_form_returns (assign_cell w i e) = false
  statement_form_returns (repeat test body) = false
  statement_form_returns (call w args) = false
  statement_form_returns (fork w args) = false
  statement_form_returns (join e) = false
  statement_form_returns (print items) = false
  statement_form_returns (assert e) = false

  -- whether the last of these statements returns, or this where there is none
  pub statements_return : Bool → Statements → Bool
  statements_return before no_statements = before
  statements_return before (statements s rest) = statements_return (statement_returns s) rest

  -- whether each of these blocks returns, and this holds
  pub arms_return : Bool → Arms → Bool
  arms_return before no_arms = before
  arms_return before (arm test body rest) = arms_return (if before then statements_return false body else false) rest

abbrev pub returns : Statements → Bool
returns body = statements_return false body

module _ {M : Type 0} (none : M) (one : TypeFault → M) (both : M → M → M) where
  -- a name that a procedure declares, which no shared variable and no local in scope may have
  abbrev pub new_local : PlacedName → Option (Option ValueKind) → Option Holder → M
  new_local w found h = if is_some found then one (Redeclared w.at)
      else (if is_some h then one (Redeclared w.at) else none)

  -- the local of this name, where this many are left up to and with the first past the limit
  abbrev pub one_more_local : PlacedName → ℕ → M
  one_more_local w left = if nat_eq left 1 then one (exceeded w.at limits.Locals) else none

  -- an item of a print, where this many are left up to and with the first past the limit
  abbrev pub one_more_item : ℕ → ℕ → M
  one_more_item at left = if nat_eq left 1 then one (exceeded at limits.Items) else none

  abbrev pub item_by : Names → Locals → ℕ → PrintItem → M
  item_by c l left (text at bytes) = one_more_item at left
  item_by c l left (shown e) =
      both (both (broken_in_expression none one both c l e)
      (not_rev none one both (expression_place e) (kind_in c l e))) (one_more_item (expression_place e) left)

  -- the items of a print, where these faults were found before
  abbrev pub items_by : Names → Locals → ℕ → M → List PrintItem → M
  items_by c l left found [] = found
  items_by c l left found (x ∷ xs) = items_by c l (left - 1) (both found (item_by c l left x)) xs

  -- a value that is returned, in a procedure with this result, or in `main` or one without
  abbrev pub return_by : Names → Locals → Option ValueKind → ℕ → Option Expression → M
  return_by c l None at None = none
  return_by c l None at (Some e) =
      both (broken_in_expression none one both c l e) (one (WrongType (expression_place e)))
  return_by c l (Some wanted) at None = one (WrongType at)
  return_by c l (Some wanted) at (Some e) = part_by none one both c l e wanted

  -- the right side of an assignment to what has this kind
  abbrev pub assigned : Names → Locals → Option ValueKind → RightSide → M
  assigned c l wanted r =
      both (broken_in_right_side none one both c l r)
      (alike none one both (right_side_place r) wanted (right_side_kind c l r))

  abbrev pub bind_by : Names → Locals → ℕ → PlacedName → RightSide → M
  bind_by c l left w r =
      both (broken_in_right_side none one both c l r)
      (both (new_local w (find w.text l) (c.shared w.text)) (one_more_local w left))

  abbrev pub assign_by : Names → Locals → PlacedName → RightSide → M
  assign_by c l w r =
      both (scalar_use none one both w (find w.text l) (c.shared w.text))
      (assigned c l (name_kind (find w.text l) (c.shared w.text)) r)

  abbrev pub cell_by : Names → Locals → PlacedName → Expression → Expression → M
  cell_by c l w index e =
      both (array_use none one both w (find w.text l) (c.shared w.text)) (both (part_by none one both c l index k.Int)
      (both (broken_in_expression none one both c l e)
      (alike none one both (expression_place e) (name_kind (find w.text l) (c.shared w.text)) (kind_in c l e))))

  abbrev mutual
    -- a statement of a procedure with this result, where this many locals are left
    pub broken_in_statement : Names → Option ValueKind → Locals → ℕ → Statement → M
    broken_in_statement c result l left (statement at line form) = broken_in_statement_form c result l left at form

    pub broken_in_statement_form : Names → Option ValueKind → Locals → ℕ → ℕ → StatementForm → M
    broken_in_statement_form c result l left at (bind w r) = bind_by c l left w r
    broken_in_statement_form c result l left at (assign w r) = assign_by c l w r
    broken_in_statement_form c result l left at (assign_cell w index e) = cell_by c l w index e
    broken_in_statement_form c result l left at (choose arms) = broken_in_arms c result l left none arms
    broken_in_statement_form c result l left at (choose_or arms last) =
        both (broken_in_arms c result l left none arms)
        (broken_in_statements c result l (left_arms left arms) none last)
    broken_in_statement_form c result l left at (repeat test body) =
        both (part_by none one both c l test k.Bool) (broken_in_statements c result l left none body)
    broken_in_statement_form c result l left at (call w args) = call_by none one both c l w args
    broken_in_statement_form c result l left at (return e) = return_by c l result at e
    broken_in_statement_form c result l left at (fork w args) = call_by none one both c l w args
    broken_in_statement_form c result l left at (join e) = part_by none one both c l e k.Rev
    broken_in_statement_form c result l left at (print items) = items_by c l (first_past limits.Items) none items
    broken_in_statement_form c result l left at (assert e) = part_by none one both c l e k.Bool

    -- the statements of a block, where these faults were found before
    pub broken_in_statements : Names → Option ValueKind → Locals → ℕ → M → Statements → M
    broken_in_statements c result l left found no_statements = found
    broken_in_statements c result l left found (statements s rest) =
        broken_in_statements c result (locals_after c l s) (left_after left s)
        (both found (broken_in_statement c result l left s)) rest

    -- the tests and blocks of an `if`, where these faults were found before
    pub broken_in_arms : Names → Option ValueKind → Locals → ℕ → M → Arms → M
    broken_in_arms c result l left found no_arms = found
    broken_in_arms c result l left found (arm test body rest) =
        broken_in_arms c result l (left_statements left body)
        (both found (both (part_by none one both c l test k.Bool) (broken_in_statements c result l left none body)))
        rest

  -- a test of an `if` and its block
  abbrev pub arm_by : Names → Option ValueKind → Locals → ℕ → Expression → Statements → M
  arm_by c result l left test body =
      both (part_by none one both c l test k.Bool) (broken_in_statements c result l left none body)
