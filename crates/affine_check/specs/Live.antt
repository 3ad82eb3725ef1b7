-- Which locals some path from a place uses before they get a new value, and that none of them was used before.
--
-- `live` says of a name whether some path through statements uses it before it gets a value; `passes` whether some path
-- goes through them. In `StatementsOnce` no use of a rev local is live behind itself, and handles are neither copied
-- nor stored.
use Rattle.std.specs.Prelude.{◌≡◌, ◌≢◌, Bool, true, false, cond, Option, Some, None}
use Rattle.rev_num.specs.declared.value.ValueKind.{ValueKind}
use Rattle.rev_num.specs.declared.value.ValueKind.TheVariants as k
use Rattle.rev_syntax.specs.Trees.{PlacedName, Expression, placed, ExpressionForm, int, bool, no_rev, var, cell, apply, input, inputs, pick, unary, chain, Expressions, no_expressions, expression, RightSide, plain, called, forked, tried, Statement, statement, StatementForm, bind, assign, assign_cell, choose, choose_or, repeat, call, return, fork, join, print, assert, Statements, no_statements, statements, Arms, no_arms, arm}
use Rattle.name_tables.specs.Names.{Name, same}
use Rattle.name_tables.specs.Table.{find}
use Rattle.typed_programs.specs.declared.names.Holder.{Holder}
use Rattle.typed_programs.specs.Kinds.{Names, Locals}
use Rattle.typed_programs.specs.Judgement.{StatementTyped}

abbrev pub or : Bool → Bool → Bool
or a b = cond a true b

-- ---- uses

abbrev pub is_name : Name → ExpressionForm → Bool
is_name n (int z) = false
is_name n (bool x) = false
is_name n no_rev = false
is_name n (var w) = same n w.text
is_name n (cell w index) = false
is_name n (apply w args) = false
is_name n (input at index) = false
is_name n (inputs at) = false
is_name n (pick test x y) = false
is_name n (unary op e) = false
is_name n (chain first rest) = false

-- the expression is this name itself
abbrev pub names_it : Name → Expression → Bool
names_it n (placed at s) = is_name n s

-- one of these expressions is
abbrev pub among : Name → Expressions → Bool
among n no_expressions = false
among n (expression x xs) = or (names_it n x) (among n xs)

abbrev pub right_side_uses : Name → RightSide → Bool
right_side_uses n (plain e) = false
right_side_uses n (called at w args) = among n args
right_side_uses n (forked at w args) = among n args
right_side_uses n (tried at handle) = names_it n handle

abbrev pub value_uses : Name → Option Expression → Bool
value_uses n None = false
value_uses n (Some e) = names_it n e

-- these names but for one
abbrev pub without : (Name → Bool) → Name → Name → Bool
without b m n = cond (same n m) false (b n)

-- ---- what is used ahead

-- Some path through the statements uses the name before it gives it a new value, or it comes to their end without a
-- new value, and then this holds.
abbrev mutual
  pub live : Name → Statements → Bool → Bool
  live n no_statements later = later
  live n (statements x rest) later = live_statement n x (live n rest later)

  pub live_statement : Name → Statement → Bool → Bool
  live_statement n (statement at line form) later = live_statement_form n form later

  pub live_statement_form : Name → StatementForm → Bool → Bool
  live_statement_form n (bind w r) later = or (right_side_uses n r) (cond (same n w.text) false later)
  live_statement_form n (assign w r) later = or (right_side_uses n r) (cond (same n w.text) false later)
  live_statement_form n (assign_cell w index e) later = later
  live_statement_form n (choose arms) later = live_arms n arms later later
  live_statement_form n (choose_or arms last) later = live_arms n arms (live n last later) later
  live_statement_form n (repeat test body) later = or (live n body false) later
  live_statement_form n (call w args) later = or (among n args) later
  live_statement_form n (return e) later = value_uses n e
  live_statement_form n (fork w args) later = or (among n args) later
  live_statement_form n (join handle) later = or (names_it n handle) later
  live_statement_form n (print items) later = later
  live_statement_form n (assert test) later = later

  -- in a block of these, or where none of them is taken
  pub live_arms : Name → Arms → Bool → Bool → Bool
  live_arms n no_arms other later = other
  live_arms n (arm test body rest) other later = or (live n body later) (live_arms n rest other later)

-- some path goes through to the end
abbrev mutual
  pub passes : Statements → Bool
  passes no_statements = true
  passes (statements x rest) = cond (statement_passes x) (passes rest) false

  pub statement_passes : Statement → Bool
  statement_passes (statement at line form) = statement_form_passes form

  pub statement_form_passes : StatementForm → Bool
  statement_form_passes (bind w r) = true
  statement_form_passes (assign w r) = true
  statement_form_passes (assign_cell w index e) = true
  statement_form_passes (choose arms) = true
  statement_form_passes (choose_or arms last) = or (arms_pass arms) (passes last)
  statement_form_passes (repeat test body) = true
  statement_form_passes (call w args) = true
  statement_form_passes (return e) = false
  statement_form_passes (fork w args) = true
  statement_form_passes (join handle) = true
  statement_form_passes (print items) = true
  statement_form_passes (assert test) = true

  pub arms_pass : Arms → Bool
  arms_pass no_arms = false
  arms_pass (arm test body rest) = or (passes body) (arms_pass rest)

-- ---- each handle is used once

abbrev pub IsRev : Locals → PlacedName → Type 0
IsRev l w = find w.text l ≡ Some (Some k.Rev)

abbrev pub ExpressionFormFree : Locals → ExpressionForm → Type 0
ExpressionFormFree l (int z) = Unit {0}
ExpressionFormFree l (bool x) = Unit {0}
ExpressionFormFree l no_rev = Unit {0}
ExpressionFormFree l (var w) = IsRev l w → ⊥
ExpressionFormFree l (cell w index) = Unit {0}
ExpressionFormFree l (apply w args) = Unit {0}
ExpressionFormFree l (input at index) = Unit {0}
ExpressionFormFree l (inputs at) = Unit {0}
ExpressionFormFree l (pick test x y) = Unit {0}
ExpressionFormFree l (unary op e) = Unit {0}
ExpressionFormFree l (chain first rest) = Unit {0}

-- the expression is not the name of a rev local
abbrev pub Free : Locals → Expression → Type 0
Free l (placed at s) = ExpressionFormFree l s

abbrev mutual
  -- and neither is an answer of a `pick` that it is
  pub PickFree : Locals → Expression → Type 0
  PickFree l (placed at s) = PicksFree l s

  pub PicksFree : Locals → ExpressionForm → Type 0
  PicksFree l (int z) = Unit {0}
  PicksFree l (bool x) = Unit {0}
  PicksFree l no_rev = Unit {0}
  PicksFree l (var w) = Unit {0}
  PicksFree l (cell w index) = Unit {0}
  PicksFree l (apply w args) = Unit {0}
  PicksFree l (input at index) = Unit {0}
  PicksFree l (inputs at) = Unit {0}
  PicksFree l (pick test x y) = (Free l x × PickFree l x) × (Free l y × PickFree l y)
  PicksFree l (unary op e) = Unit {0}
  PicksFree l (chain first rest) = Unit {0}

abbrev pub ExpressionFormOnce : Locals → ExpressionForm → (Name → Bool) → Type 0
ExpressionFormOnce l (int z) K = Unit {0}
ExpressionFormOnce l (bool x) K = Unit {0}
ExpressionFormOnce l no_rev K = Unit {0}
ExpressionFormOnce l (var w) K = IsRev l w → K w.text ≡ false
ExpressionFormOnce l (cell w index) K = Unit {0}
ExpressionFormOnce l (apply w args) K = Unit {0}
ExpressionFormOnce l (input at index) K = Unit {0}
ExpressionFormOnce l (inputs at) K = Unit {0}
ExpressionFormOnce l (pick test x y) K = Unit {0}
ExpressionFormOnce l (unary op e) K = Unit {0}
ExpressionFormOnce l (chain first rest) K = Unit {0}

-- a rev local that is used here is none of those that are used later
abbrev pub NameOnce : Locals → Expression → (Name → Bool) → Type 0
NameOnce l (placed at s) K = ExpressionFormOnce l s K

abbrev pub UseOnce : Locals → Expression → (Name → Bool) → Type 0
UseOnce l e K = PickFree l e × NameOnce l e K

abbrev pub UsesOnce : Locals → Expressions → (Name → Bool) → Type 0
UsesOnce l no_expressions K = Unit {0}
UsesOnce l (expression e es) K = UseOnce l e (λ n. or (among n es) (K n)) × UsesOnce l es K

abbrev pub RightSideOnce : Locals → RightSide → (Name → Bool) → Type 0
RightSideOnce l (plain e) K = Free l e × PickFree l e
RightSideOnce l (called at w args) K = UsesOnce l args K
RightSideOnce l (forked at w args) K = UsesOnce l args K
RightSideOnce l (tried at handle) K = UseOnce l handle K

abbrev pub ReturnOnce : Locals → Option Expression → Type 0
ReturnOnce l None = Unit {0}
ReturnOnce l (Some e) = PickFree l e

-- no shared variable of kind rev
abbrev pub NotStored : Names → PlacedName → Type 0
NotStored c w = (h : Holder) → c.shared w.text ≡ Some h → h.kind ≢ k.Rev

abbrev mutual
  -- typed statements, with these in use behind them, each of which uses handles once
  pub StatementsOnce : Names → Option ValueKind → Locals → Statements → (Name → Bool) → Type 0
  StatementsOnce c result l no_statements K = Unit {0}
  StatementsOnce c result l (statements x rest) K =
      (l' : Locals) × StatementTyped c result l x l' × StatementOnce c result l x (λ n. live n rest (K n))
      × (statement_passes x ≡ true → StatementsOnce c result l' rest K)

  pub StatementOnce : Names → Option ValueKind → Locals → Statement → (Name → Bool) → Type 0
  StatementOnce c result l (statement at line form) K = StatementFormOnce c result l form K

  pub StatementFormOnce : Names → Option ValueKind → Locals → StatementForm → (Name → Bool) → Type 0
  StatementFormOnce c result l (bind w r) K = RightSideOnce l r (without K w.text)
  StatementFormOnce c result l (assign w r) K = NotStored c w × RightSideOnce l r (without K w.text)
  StatementFormOnce c result l (assign_cell w index e) K = NotStored c w
  StatementFormOnce c result l (choose arms) K = ArmsOnce c result l arms K
  StatementFormOnce c result l (choose_or arms last) K = ArmsOnce c result l arms K × StatementsOnce c result l last K
  StatementFormOnce c result l (repeat test body) K = StatementsOnce c result l body (λ n. or (live n body false) (K n))
  StatementFormOnce c result l (call w args) K = UsesOnce l args K
  StatementFormOnce c result l (return e) K = ReturnOnce l e
  StatementFormOnce c result l (fork w args) K = UsesOnce l args K
  StatementFormOnce c result l (join handle) K = UseOnce l handle K
  StatementFormOnce c result l (print items) K = Unit {0}
  StatementFormOnce c result l (assert test) K = Unit {0}

  pub ArmsOnce : Names → Option ValueKind → Locals → Arms → (Name → Bool) → Type 0
  ArmsOnce c result l no_arms K = Unit {0}
  ArmsOnce c result l (arm test body rest) K = StatementsOnce c result l body K × ArmsOnce c result l rest K
