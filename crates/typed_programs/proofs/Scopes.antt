-- What stands behind a typed statement is what the rules say.
--
-- `right_side_is`: the kind of a right side that is typed; `form_scope` and `statement_scope`: the
-- locals in scope behind a typed statement.
use Rattle.std.proofs.Common.{◌≡◌, ◌∙◌, Option, Some, sym, ap}
use Rattle.rev_num.specs.declared.value.ValueKind.{ValueKind}
use Rattle.rev_syntax.specs.Trees.{RightSide, plain, called, forked, tried, Statement, statement, StatementForm, bind, assign, assign_cell, choose, choose_or, repeat, call, return, fork, join, print, assert}
use Rattle.name_tables.specs.Table.{added}
use Rattle.typed_programs.specs.Kinds.{Names, Locals, right_side_kind, result_of}
use Rattle.typed_programs.proofs.Typings.{complete}
use Rattle.typed_programs.specs.Judgement.{RightSideHas, StatementTyped, StatementFormTyped}
use Rattle.typed_programs.specs.Scopes.{locals_after, statement_form_locals}

-- the kind of what a right side gives
pub right_side_is : (c : Names) (l : Locals) (r : RightSide) (t : ValueKind) → RightSideHas c l r t
    → right_side_kind c l r ≡ Some t
right_side_is c l (plain e) t h = (complete c l e t h).1
right_side_is c l (called at w args) t h = ap result_of h.1.0 ∙ h.2
right_side_is c l (forked at w args) t h = ap Some (sym h.0)
right_side_is c l (tried at handle) t h = ap Some (sym h.0)

form_scope : (c : Names) (result : Option ValueKind) (l l' : Locals) (form : StatementForm)
    → StatementFormTyped c result l form l' → l' ≡ statement_form_locals c l form
form_scope c result l l' (bind w r) h = h.1.2 ∙ ap (λ o. added l w.text o) (sym (right_side_is c l r h.1.0 h.1.1))
form_scope c result l l' (assign w r) h = h.1
form_scope c result l l' (assign_cell w index e) h = h.1
form_scope c result l l' (choose arms) h = h.1
form_scope c result l l' (choose_or arms last) h = h.1
form_scope c result l l' (repeat test body) h = h.1
form_scope c result l l' (call w args) h = h.1
form_scope c result l l' (return e) h = h.1
form_scope c result l l' (fork w args) h = h.1
form_scope c result l l' (join handle) h = h.1
form_scope c result l l' (print items) h = h.1
form_scope c result l l' (assert test) h = h.1

pub statement_scope : (c : Names) (result : Option ValueKind) (l l' : Locals) (x : Statement)
    → StatementTyped c result l x l' → l' ≡ locals_after c l x
statement_scope c result l l' (statement at line form) h = form_scope c result l l' form h
