-- The places of second uses, as a function.
--
-- `ahead` lists where a path uses a name before it gets a value, `twice` where a use of a rev local can follow another.
use Rattle.std.specs.Prelude.{ℕ, cond, if◌then◌else◌, List, [], ◌∷◌, ◌++◌, Option, Some, None}
use Rattle.rev_num.specs.declared.value.ValueKind.{ValueKind}
use Rattle.rev_num.specs.declared.value.ValueKind.TheVariants as k
use Rattle.rev_syntax.specs.Trees.{Expression, placed, ExpressionForm, int, bool, no_rev, var, cell, apply, input, inputs, pick, unary, chain, Expressions, no_expressions, expression, RightSide, plain, called, forked, tried, Statement, statement, StatementForm, bind, assign, assign_cell, choose, choose_or, repeat, call, return, fork, join, print, assert, Statements, no_statements, statements, Arms, no_arms, arm}
use Rattle.name_tables.specs.Names.{Name, same}
use Rattle.name_tables.specs.Table.{find}
use Rattle.typed_programs.specs.Kinds.{Names, Locals}
use Rattle.typed_programs.specs.Scopes.{locals_after}
use Rattle.affine_check.specs.Live.{statement_passes}

-- ---- uses of a name

abbrev pub expression_form_places : Name → ExpressionForm → List ℕ
expression_form_places n (int z) = []
expression_form_places n (bool x) = []
expression_form_places n no_rev = []
expression_form_places n (var w) = if same n w.text then w.at ∷ [] else []
expression_form_places n (cell w index) = []
expression_form_places n (apply w args) = []
expression_form_places n (input at index) = []
expression_form_places n (inputs at) = []
expression_form_places n (pick test x y) = []
expression_form_places n (unary op e) = []
expression_form_places n (chain first rest) = []

abbrev pub expression_places : Name → Expression → List ℕ
expression_places n (placed at s) = expression_form_places n s

abbrev pub expressions_places : Name → Expressions → List ℕ
expressions_places n no_expressions = []
expressions_places n (expression x xs) = expression_places n x ++ expressions_places n xs

abbrev pub right_side_places : Name → RightSide → List ℕ
right_side_places n (plain e) = []
right_side_places n (called at w args) = expressions_places n args
right_side_places n (forked at w args) = expressions_places n args
right_side_places n (tried at handle) = expression_places n handle

abbrev pub value_places : Name → Option Expression → List ℕ
value_places n None = []
value_places n (Some e) = expression_places n e

-- the places where a path uses the name before it gets a value, or those behind
abbrev mutual
  pub ahead : Name → Statements → List ℕ → List ℕ
  ahead n no_statements later = later
  ahead n (statements x rest) later = statement_ahead n x (ahead n rest later)

  pub statement_ahead : Name → Statement → List ℕ → List ℕ
  statement_ahead n (statement at line form) later = statement_form_ahead n form later

  pub statement_form_ahead : Name → StatementForm → List ℕ → List ℕ
  statement_form_ahead n (bind w r) later = right_side_places n r ++ (if same n w.text then [] else later)
  statement_form_ahead n (assign w r) later = right_side_places n r ++ (if same n w.text then [] else later)
  statement_form_ahead n (assign_cell w index e) later = later
  statement_form_ahead n (choose arms) later = arms_ahead n arms later later
  statement_form_ahead n (choose_or arms last) later = arms_ahead n arms (ahead n last later) later
  statement_form_ahead n (repeat test body) later = ahead n body [] ++ later
  statement_form_ahead n (call w args) later = expressions_places n args ++ later
  statement_form_ahead n (return e) later = value_places n e
  statement_form_ahead n (fork w args) later = expressions_places n args ++ later
  statement_form_ahead n (join handle) later = expression_places n handle ++ later
  statement_form_ahead n (print items) later = later
  statement_form_ahead n (assert test) later = later

  pub arms_ahead : Name → Arms → List ℕ → List ℕ → List ℕ
  arms_ahead n no_arms other later = other
  arms_ahead n (arm test body rest) other later = ahead n body later ++ arms_ahead n rest other later

-- ---- second uses

-- behind a use of what this name means, where these are used behind it
abbrev pub if_rev : Option (Option ValueKind) → List ℕ → List ℕ
if_rev None ps = []
if_rev (Some None) ps = []
if_rev (Some (Some k.Int)) ps = []
if_rev (Some (Some k.Bool)) ps = []
if_rev (Some (Some k.Rev)) ps = ps

abbrev pub expression_form_twice : Locals → ExpressionForm → (Name → List ℕ) → List ℕ
expression_form_twice l (int z) K = []
expression_form_twice l (bool x) K = []
expression_form_twice l no_rev K = []
expression_form_twice l (var w) K = if_rev (find w.text l) (K w.text)
expression_form_twice l (cell w index) K = []
expression_form_twice l (apply w args) K = []
expression_form_twice l (input at index) K = []
expression_form_twice l (inputs at) K = []
expression_form_twice l (pick test x y) K = []
expression_form_twice l (unary op e) K = []
expression_form_twice l (chain first rest) K = []

abbrev pub expression_twice : Locals → Expression → (Name → List ℕ) → List ℕ
expression_twice l (placed at s) K = expression_form_twice l s K

abbrev pub expressions_twice : Locals → Expressions → (Name → List ℕ) → List ℕ
expressions_twice l no_expressions K = []
expressions_twice l (expression x xs) K =
    expression_twice l x (λ n. expressions_places n xs ++ K n) ++ expressions_twice l xs K

abbrev pub right_side_twice : Locals → RightSide → (Name → List ℕ) → List ℕ
right_side_twice l (plain e) K = []
right_side_twice l (called at w args) K = expressions_twice l args K
right_side_twice l (forked at w args) K = expressions_twice l args K
right_side_twice l (tried at handle) K = expression_twice l handle K

abbrev pub value_twice : Locals → Option Expression → List ℕ
value_twice l None = []
value_twice l (Some e) = []

-- the places of second uses in the statements, behind which these places use a name
abbrev mutual
  pub twice : Names → Locals → Statements → (Name → List ℕ) → List ℕ
  twice c l no_statements K = []
  twice c l (statements x rest) K =
      statement_twice c l x (λ n. ahead n rest (K n)) ++ cond (statement_passes x) (twice c (locals_after c l x) rest K)
      []

  pub statement_twice : Names → Locals → Statement → (Name → List ℕ) → List ℕ
  statement_twice c l (statement at line form) K = statement_form_twice c l form K

  pub statement_form_twice : Names → Locals → StatementForm → (Name → List ℕ) → List ℕ
  statement_form_twice c l (bind w r) K = right_side_twice l r (λ n. if same n w.text then [] else K n)
  statement_form_twice c l (assign w r) K = right_side_twice l r (λ n. if same n w.text then [] else K n)
  statement_form_twice c l (assign_cell w index e) K = []
  statement_form_twice c l (choose arms) K = arms_twice c l arms K
  statement_form_twice c l (choose_or arms last) K = arms_twice c l arms K ++ twice c l last K
  statement_form_twice c l (repeat test body) K = twice c l body (λ n. ahead n body [] ++ K n)
  statement_form_twice c l (call w args) K = expressions_twice l args K
  statement_form_twice c l (return e) K = value_twice l e
  statement_form_twice c l (fork w args) K = expressions_twice l args K
  statement_form_twice c l (join handle) K = expression_twice l handle K
  statement_form_twice c l (print items) K = []
  statement_form_twice c l (assert test) K = []

  pub arms_twice : Names → Locals → Arms → (Name → List ℕ) → List ℕ
  arms_twice c l no_arms K = []
  arms_twice c l (arm test body rest) K = twice c l body K ++ arms_twice c l rest K
