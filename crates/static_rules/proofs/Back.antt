-- What a part of a statement breaks is among what the statement breaks.
use Rattle.std.proofs.Common.{◌≡◌, inl, inr, ℕ, ◌+◌, ◌-◌, Option, Some, None, List, [], ◌∷◌, sym, subst, arith}
use Rattle.rev_num.specs.declared.value.ValueKind.{ValueKind}
use Rattle.rev_syntax.specs.Trees.{PlacedName, Expression, Expressions, RightSide, plain, called, forked, tried, PrintItem, text, shown, Statement, StatementForm, bind, assign, assign_cell, choose, choose_or, repeat, call, return, fork, join, print, assert, Statements, no_statements, statements, Arms, no_arms, arm}
use Rattle.typed_programs.specs.Least.{Among}
use Rattle.typed_programs.specs.Kinds.{Names, Locals}
use Rattle.rev_report.specs.Limits.{first_past}
use Rattle.rev_report.specs.declared.limit.Limit.TheVariants as limits
use Rattle.typed_programs.specs.Rules as r
use Rattle.typed_programs.proofs.Typings.{All, one, app}
use Rattle.typed_programs.specs.Statements as s
use Rattle.typed_programs.specs.Scopes as scopes
use Rattle.typed_programs.specs.Limits.{statements_lets}
use Rattle.typed_programs.proofs.StatementsWithin.{statements_left}
use Rattle.static_rules.specs.Places.{ArmOf, first_arm, later_arm, right_side_expressions, item_expressions, arm_expressions, statement_form_expressions, right_side_of, right_side_call, call_of, arms_of}
use Rattle.static_rules.proofs.Gathers.{Is, In, in_left, in_right_side, in_app, not_some, some_is}
use Rattle.static_rules.proofs.Expressions.{arg_expression_in, same_expression}
use Rattle.static_rules.proofs.Blocks.{no_arm}

-- ---- what was found before

pub statements_more : (c : Names) (result : Option ValueKind) (l : Locals) (left : ℕ) (xs ys : All) (ss : Statements)
    → In xs ys
    → In (s.broken_in_statements [] one app c result l left xs ss)
    (s.broken_in_statements [] one app c result l left ys ss)
statements_more c result l left xs ys no_statements a = a
statements_more c result l left xs ys (statements x rest) a =
    statements_more c result (scopes.locals_after c l x) (s.left_after left x) _ _ rest (in_app xs ys _ a)

pub statements_found : (c : Names) (result : Option ValueKind) (l : Locals) (left : ℕ) (xs : All) (ss : Statements)
    → In xs (s.broken_in_statements [] one app c result l left xs ss)
statements_found c result l left xs no_statements f m = m
statements_found c result l left xs (statements x rest) f m =
    statements_found c result (scopes.locals_after c l x) (s.left_after left x) _ rest f (in_left xs _ f m)

-- the first of statements, and those behind it
pub statement_in : (c : Names) (result : Option ValueKind) (l : Locals) (left : ℕ) (x : Statement) (rest : Statements)
    → In (s.broken_in_statement [] one app c result l left x)
    (s.broken_in_statements [] one app c result l left [] (statements x rest))
statement_in c result l left x rest f m =
    statements_found c result (scopes.locals_after c l x) (s.left_after left x) _ rest f m

pub rest_in : (c : Names) (result : Option ValueKind) (l : Locals) (left : ℕ) (x : Statement) (rest : Statements)
    → In (s.broken_in_statements [] one app c result (scopes.locals_after c l x) (s.left_after left x) [] rest)
    (s.broken_in_statements [] one app c result l left [] (statements x rest))
rest_in c result l left x rest f m =
    statements_more c result (scopes.locals_after c l x) (s.left_after left x) [] _ rest (λ g n. absurd n.it) f m

-- ---- the blocks of a statement

pub arms_found : (c : Names) (result : Option ValueKind) (l : Locals) (left : ℕ) (xs : All) (arms : Arms)
    → In xs (s.broken_in_arms [] one app c result l left xs arms)
arms_found c result l left xs no_arms f m = m
arms_found c result l left xs (arm t body rest) f m =
    arms_found c result l (s.left_statements left body) _ rest f (in_left xs _ f m)

no_less : (n : ℕ) → n - 0 ≡ n
no_less n = omega arith

less_both : (left a b m : ℕ) → m ≡ left - a → left - (a + b) ≡ m - b
less_both left a b m h = omega arith

arm_in : (c : Names) (result : Option ValueKind) (l : Locals) {arms : Arms} {m : ℕ} {t : Expression} {b : Statements}
    → ArmOf arms m t b → (left : ℕ) (xs : All)
    → In (s.arm_by [] one app c result l (left - m) t b) (s.broken_in_arms [] one app c result l left xs arms)
arm_in c result l (first_arm t b rest) left xs f d =
    arms_found c result l (s.left_statements left b) _ rest f
    (in_right_side xs _ f (subst (λ j. Is (s.arm_by [] one app c result l j t b) f) (no_less left) d))
arm_in c result l (later_arm t' body {n = m} {test = t} {body = b} h) left xs f d =
    arm_in c result l h (s.left_statements left body) _ f
    (subst (λ j. Is (s.arm_by [] one app c result l j t b) f)
    (less_both left (statements_lets body) m (s.left_statements left body) (statements_left left body)) d)

pub block_in : (c : Names) (result : Option ValueKind) (l : Locals) (left at : ℕ) (form : StatementForm) {m : ℕ}
    {t : Expression} {b : Statements}
    → ArmOf (arms_of form) m t b
    → In (s.arm_by [] one app c result l (left - m) t b) (s.broken_in_statement_form [] one app c result l left at form)
block_in c result l left at (choose arms) a f d = arm_in c result l a left [] f d
block_in c result l left at (choose_or arms last) a f d = in_left _ _ f (arm_in c result l a left [] f d)
block_in c result l left at (repeat test body) a f d = arm_in c result l a left [] f d
block_in c result l left at (bind w x) a f d = absurd (no_arm a)
block_in c result l left at (assign w x) a f d = absurd (no_arm a)
block_in c result l left at (assign_cell w i e) a f d = absurd (no_arm a)
block_in c result l left at (call w args) a f d = absurd (no_arm a)
block_in c result l left at (return e) a f d = absurd (no_arm a)
block_in c result l left at (fork w args) a f d = absurd (no_arm a)
block_in c result l left at (join e) a f d = absurd (no_arm a)
block_in c result l left at (print xs) a f d = absurd (no_arm a)
block_in c result l left at (assert e) a f d = absurd (no_arm a)

-- ---- the expressions of a statement

right_side_expression_in : (c : Names) (l : Locals) (x : RightSide) (e : Expression)
    → Among (right_side_expressions x) e
    → In (r.broken_in_expression [] one app c l e) (r.broken_in_right_side [] one app c l x)
right_side_expression_in c l (plain x) e (inl is) f d = same_expression c l x e is f d
right_side_expression_in c l (plain x) e (inr m) f d = absurd m
right_side_expression_in c l (called at w args) e m f d =
    in_right_side _ _ f (in_right_side _ _ f (arg_expression_in c l _ 0 [] args e m f d))
right_side_expression_in c l (forked at w args) e m f d =
    in_right_side _ _ f (arg_expression_in c l _ 0 [] args e m f d)
right_side_expression_in c l (tried at x) e (inl is) f d = in_left _ _ f (same_expression c l x e is f d)
right_side_expression_in c l (tried at x) e (inr m) f d = absurd m

arm_expression_in : (c : Names) (result : Option ValueKind) (l : Locals) (left : ℕ) (xs : All) (arms : Arms)
    (e : Expression)
    → Among (arm_expressions arms) e
    → In (r.broken_in_expression [] one app c l e) (s.broken_in_arms [] one app c result l left xs arms)
arm_expression_in c result l left xs no_arms e m f d = absurd m
arm_expression_in c result l left xs (arm t body rest) e (inl is) f d =
    arms_found c result l (s.left_statements left body) _ rest f
    (in_right_side xs _ f (in_left _ _ f (in_left _ _ f (same_expression c l t e is f d))))
arm_expression_in c result l left xs (arm t body rest) e (inr m) f d =
    arm_expression_in c result l (s.left_statements left body) _ rest e m f d

pub items_found : (c : Names) (l : Locals) (left : ℕ) (found : All) (xs : List PrintItem)
    → In found (s.items_by [] one app c l left found xs)
items_found c l left found [] f m = m
items_found c l left found (x ∷ xs) f m = items_found c l (left - 1) _ xs f (in_left found _ f m)

item_expression_in : (c : Names) (l : Locals) (left : ℕ) (found : All) (xs : List PrintItem) (e : Expression)
    → Among (item_expressions xs) e
    → In (r.broken_in_expression [] one app c l e) (s.items_by [] one app c l left found xs)
item_expression_in c l left found [] e m f d = absurd m
item_expression_in c l left found (text at bytes ∷ xs) e m f d = item_expression_in c l (left - 1) _ xs e m f d
item_expression_in c l left found (shown x ∷ xs) e (inl is) f d =
    items_found c l (left - 1) _ xs f
    (in_right_side found _ f (in_left _ _ f (in_left _ _ f (same_expression c l x e is f d))))
item_expression_in c l left found (shown x ∷ xs) e (inr m) f d = item_expression_in c l (left - 1) _ xs e m f d

return_expression_in : (c : Names) (l : Locals) (result : Option ValueKind) (at : ℕ) (e : Expression)
    → In (r.broken_in_expression [] one app c l e) (s.return_by [] one app c l result at (Some e))
return_expression_in c l None at e f d = in_left _ _ f d
return_expression_in c l (Some t) at e f d = in_left _ _ f d

pub statement_form_expression_in : (c : Names) (result : Option ValueKind) (l : Locals) (left at : ℕ)
    (form : StatementForm) (e : Expression)
    → Among (statement_form_expressions form) e
    → In (r.broken_in_expression [] one app c l e) (s.broken_in_statement_form [] one app c result l left at form)
statement_form_expression_in c result l left at (bind w x) e m f d =
    in_left _ _ f (right_side_expression_in c l x e m f d)
statement_form_expression_in c result l left at (assign w x) e m f d =
    in_right_side _ _ f (in_left _ _ f (right_side_expression_in c l x e m f d))
statement_form_expression_in c result l left at (assign_cell w i x) e (inl is) f d =
    in_right_side _ _ f (in_left _ _ f (in_left _ _ f (same_expression c l i e is f d)))
statement_form_expression_in c result l left at (assign_cell w i x) e (inr (inl is)) f d =
    in_right_side _ _ f (in_right_side _ _ f (in_left _ _ f (same_expression c l x e is f d)))
statement_form_expression_in c result l left at (assign_cell w i x) e (inr (inr m)) f d = absurd m
statement_form_expression_in c result l left at (choose arms) e m f d =
    arm_expression_in c result l left [] arms e m f d
statement_form_expression_in c result l left at (choose_or arms last) e m f d =
    in_left _ _ f (arm_expression_in c result l left [] arms e m f d)
statement_form_expression_in c result l left at (repeat t body) e (inl is) f d =
    in_left _ _ f (in_left _ _ f (same_expression c l t e is f d))
statement_form_expression_in c result l left at (repeat t body) e (inr m) f d = absurd m
statement_form_expression_in c result l left at (call w args) e m f d =
    in_right_side _ _ f (arg_expression_in c l _ 0 [] args e m f d)
statement_form_expression_in c result l left at (return None) e m f d = absurd m
statement_form_expression_in c result l left at (return (Some x)) e (inl is) f d =
    return_expression_in c l result at x f (same_expression c l x e is f d)
statement_form_expression_in c result l left at (return (Some x)) e (inr m) f d = absurd m
statement_form_expression_in c result l left at (fork w args) e m f d =
    in_right_side _ _ f (arg_expression_in c l _ 0 [] args e m f d)
statement_form_expression_in c result l left at (join x) e (inl is) f d = in_left _ _ f (same_expression c l x e is f d)
statement_form_expression_in c result l left at (join x) e (inr m) f d = absurd m
statement_form_expression_in c result l left at (print xs) e m f d =
    item_expression_in c l (first_past limits.Items) [] xs e m f d
statement_form_expression_in c result l left at (assert x) e (inl is) f d =
    in_left _ _ f (same_expression c l x e is f d)
statement_form_expression_in c result l left at (assert x) e (inr m) f d = absurd m

-- ---- the call and the right side of a statement

pub right_side_in : (c : Names) (result : Option ValueKind) (l : Locals) (left at : ℕ) (form : StatementForm)
    (x : RightSide)
    → right_side_of form ≡ Some x
    → In (r.broken_in_right_side [] one app c l x) (s.broken_in_statement_form [] one app c result l left at form)
right_side_in c result l left at (bind w y) x e f d =
    in_left _ _ f (subst (λ z. Is (r.broken_in_right_side [] one app c l z) f) (sym (some_is y x e)) d)
right_side_in c result l left at (assign w y) x e f d =
    in_right_side _ _ f
    (in_left _ _ f (subst (λ z. Is (r.broken_in_right_side [] one app c l z) f) (sym (some_is y x e)) d))
right_side_in c result l left at (assign_cell w i y) x e f d = absurd (not_some x e)
right_side_in c result l left at (choose arms) x e f d = absurd (not_some x e)
right_side_in c result l left at (choose_or arms last) x e f d = absurd (not_some x e)
right_side_in c result l left at (repeat t body) x e f d = absurd (not_some x e)
right_side_in c result l left at (call w args) x e f d = absurd (not_some x e)
right_side_in c result l left at (return y) x e f d = absurd (not_some x e)
right_side_in c result l left at (fork w args) x e f d = absurd (not_some x e)
right_side_in c result l left at (join y) x e f d = absurd (not_some x e)
right_side_in c result l left at (print xs) x e f d = absurd (not_some x e)
right_side_in c result l left at (assert y) x e f d = absurd (not_some x e)

-- a name and its arguments
abbrev pub pair_by : Names → Locals → PlacedName × Expressions → All
pair_by c l y = r.call_by [] one app c l y.0 y.1

pair_in : (c : Names) (l : Locals) (y z : PlacedName × Expressions) → Some y ≡ Some z
    → In (pair_by c l z) (pair_by c l y)
pair_in c l y z e f d = subst (λ x. Is (pair_by c l x) f) (sym (some_is y z e)) d

right_side_call_in : (c : Names) (l : Locals) (x : RightSide) (y : PlacedName × Expressions)
    → right_side_call x ≡ Some y → In (pair_by c l y) (r.broken_in_right_side [] one app c l x)
right_side_call_in c l (plain x) y e f d = absurd (not_some y e)
right_side_call_in c l (called at w args) y e f d = in_right_side _ _ f (pair_in c l (w, args) y e f d)
right_side_call_in c l (forked at w args) y e f d = pair_in c l (w, args) y e f d
right_side_call_in c l (tried at x) y e f d = absurd (not_some y e)

pub call_in : (c : Names) (result : Option ValueKind) (l : Locals) (left at : ℕ) (form : StatementForm)
    (y : PlacedName × Expressions)
    → call_of form ≡ Some y
    → In (pair_by c l y) (s.broken_in_statement_form [] one app c result l left at form)
call_in c result l left at (bind w x) y e f d = in_left _ _ f (right_side_call_in c l x y e f d)
call_in c result l left at (assign w x) y e f d = in_right_side _ _ f (in_left _ _ f (right_side_call_in c l x y e f d))
call_in c result l left at (assign_cell w i x) y e f d = absurd (not_some y e)
call_in c result l left at (choose arms) y e f d = absurd (not_some y e)
call_in c result l left at (choose_or arms last) y e f d = absurd (not_some y e)
call_in c result l left at (repeat t body) y e f d = absurd (not_some y e)
call_in c result l left at (call w args) y e f d = pair_in c l (w, args) y e f d
call_in c result l left at (return x) y e f d = absurd (not_some y e)
call_in c result l left at (fork w args) y e f d = pair_in c l (w, args) y e f d
call_in c result l left at (join x) y e f d = absurd (not_some y e)
call_in c result l left at (print xs) y e f d = absurd (not_some y e)
call_in c result l left at (assert x) y e f d = absurd (not_some y e)
