-- The first of all the rules that are broken is what is found by the first of two.
use Rattle.std.proofs.Common.{◌≡◌, ◌∙◌, ℕ, ◌+◌, ◌-◌, Bool, true, false, if◌then◌else◌, nat_eq, nat_le, nat_lt, Option, Some, None, is_some, List, [], ◌∷◌, ◌++◌, refl, slice_get, length}
use Rattle.rev_num.specs.declared.value.ValueKind.{ValueKind}
use Rattle.rev_num.specs.declared.value.ValueKind.TheVariants as k
use Rattle.rev_num.specs.Value.{kind_of, same_kind}
use Rattle.rev_syntax.specs.Trees.{PlacedName, Parameter, ArraySize, Constant, Expression, placed, ExpressionForm, Expressions, Links, int, bool, no_rev, var, cell, apply, input, inputs, pick, unary, chain, no_expressions, expression, no_links, link, RightSide, plain, called, forked, tried, PrintItem, text, shown, Statement, statement, StatementForm, bind, assign, assign_cell, choose, choose_or, repeat, call, return, fork, join, print, assert, Statements, no_statements, statements, Arms, no_arms, arm, Declaration, fun, merge, shared, proc, ProgramTree}
use Rattle.rev_syntax.specs.declared.tree.BinaryOp.{BinaryOp}
use Rattle.rev_syntax.specs.declared.tree.BinaryOp.TheVariants as b
use Rattle.typed_programs.specs.FunRules.{count}
use Rattle.name_tables.specs.Table.{Table, find, added}
use Rattle.typed_programs.specs.Least.{least}
use Rattle.typed_programs.proofs.Leasts.{least-append}
use Rattle.typed_programs.specs.declared.fault.TypeFault.{TypeFault}
use Rattle.rev_report.specs.declared.limit.Limit.{Limit}
use Rattle.rev_report.specs.declared.limit.Limit.TheVariants as limits
use Rattle.typed_programs.specs.declared.names.Holder.{Holder}
use Rattle.rev_report.specs.Limits.{first_past, most}
use Rattle.typed_programs.specs.Faults.{HasLimit, place, rank}
use Rattle.typed_programs.specs.Kinds.{Callee, Names, Locals, name_kind, operand_kind, kind_in, right_side_kind, right_side_place, expression_place}
use Rattle.typed_programs.specs.Rules as r
use Rattle.rev_kinds.specs.Walk.{both}
use Rattle.typed_programs.specs.Statements as s
use Rattle.typed_programs.specs.Scopes as scopes
use Rattle.typed_programs.specs.Program as p
use Rattle.rev_types.specs.Walk.{broken_in_program}

-- Two ways to gather faults, the second of which is the first seen by h. A fault of a limit has the
-- number of that limit.
module _ {M N : Type 0} (none : M) (one : TypeFault → M) (both : M → M → M) (none' : N) (one' : TypeFault → N)
    (both' : N → N → N)
    (h : M → N) (h-none : h none ≡ none') (h-one : (f : TypeFault) → HasLimit f → h (one f) ≡ one' f)
    (h-both : (x y : M) → h (both x y) ≡ both' (h x) (h y)) where
  -- two parts
  pub two : (x y : M) (x' y' : N) → h x ≡ x' → h y ≡ y' → h (both x y) ≡ both' x' y'
  two x y x' y' p q = h-both x y ∙ (λ i. both' (p i) (q i))

  -- a choice that a test makes
  test : (b : Bool) (x y : M) (x' y' : N) → h x ≡ x' → h y ≡ y' → h (if b then x else y) ≡ (if b then x' else y')
  test true x y x' y' p q = p
  test false x y x' y' p q = q

  -- ---- operands and names

  wants : (at : ℕ) (found : Option ValueKind) (wanted : ValueKind)
      → h (r.wants none one both at found wanted) ≡ r.wants none' one' both' at found wanted
  wants at None wanted = h-none
  wants at (Some found) wanted = test (same_kind found wanted) _ _ _ _ h-none (h-one _ tt)

  not_rev : (at : ℕ) (found : Option ValueKind)
      → h (r.not_rev none one both at found) ≡ r.not_rev none' one' both' at found
  not_rev at None = h-none
  not_rev at (Some k.Int) = h-none
  not_rev at (Some k.Bool) = h-none
  not_rev at (Some k.Rev) = h-one _ tt

  alike : (at : ℕ) (wanted found : Option ValueKind)
      → h (r.alike none one both at wanted found) ≡ r.alike none' one' both' at wanted found
  alike at None found = h-none
  alike at (Some wanted) found = wants at found wanted

  fits : (at : ℕ) (found : Option ValueKind) (p : Option Parameter)
      → h (r.fits none one both at found p) ≡ r.fits none' one' both' at found p
  fits at found None = h-none
  fits at found (Some p) = wants at found p.kind

  scalar_use : (n : PlacedName) (l : Option (Option ValueKind)) (o : Option Holder)
      → h (r.scalar_use none one both n l o) ≡ r.scalar_use none' one' both' n l o
  scalar_use n (Some found) o = h-none
  scalar_use n None (Some o) = test o.array _ _ _ _ (h-one _ tt) h-none
  scalar_use n None None = h-one _ tt

  array_use : (n : PlacedName) (l : Option (Option ValueKind)) (o : Option Holder)
      → h (r.array_use none one both n l o) ≡ r.array_use none' one' both' n l o
  array_use n (Some found) o = h-one _ tt
  array_use n None (Some o) = test o.array _ _ _ _ h-none (h-one _ tt)
  array_use n None None = h-one _ tt

  input_use : (inside : Bool) (at : ℕ)
      → h (r.input_use none one both inside at) ≡ r.input_use none' one' both' inside at
  input_use true at = h-one _ tt
  input_use false at = h-none

  left_operand : (op : BinaryOp) (at : ℕ) (found : Option ValueKind)
      → h (r.left_operand none one both op at found) ≡ r.left_operand none' one' both' op at found
  left_operand b.Add at found = wants at found k.Int
  left_operand b.Sub at found = wants at found k.Int
  left_operand b.Mul at found = wants at found k.Int
  left_operand b.Div at found = wants at found k.Int
  left_operand b.Rem at found = wants at found k.Int
  left_operand b.Eq at found = not_rev at found
  left_operand b.Ne at found = not_rev at found
  left_operand b.Lt at found = wants at found k.Int
  left_operand b.Le at found = wants at found k.Int
  left_operand b.Gt at found = wants at found k.Int
  left_operand b.Ge at found = wants at found k.Int
  left_operand b.And at found = wants at found k.Bool
  left_operand b.Or at found = wants at found k.Bool

  ordered : (left : Option ValueKind) (at : ℕ) (found : Option ValueKind)
      → h (both (r.wants none one both at found k.Int) (r.alike none one both at left found))
      ≡ both' (r.wants none' one' both' at found k.Int) (r.alike none' one' both' at left found)
  ordered left at found = two _ _ _ _ (wants at found k.Int) (alike at left found)

  right_operand : (op : BinaryOp) (left : Option ValueKind) (at : ℕ) (found : Option ValueKind)
      → h (r.right_operand none one both op left at found) ≡ r.right_operand none' one' both' op left at found
  right_operand b.Add left at found = wants at found k.Int
  right_operand b.Sub left at found = wants at found k.Int
  right_operand b.Mul left at found = wants at found k.Int
  right_operand b.Div left at found = wants at found k.Int
  right_operand b.Rem left at found = wants at found k.Int
  right_operand b.Eq left at found = alike at left found
  right_operand b.Ne left at found = alike at left found
  right_operand b.Lt left at found = ordered left at found
  right_operand b.Le left at found = ordered left at found
  right_operand b.Gt left at found = ordered left at found
  right_operand b.Ge left at found = ordered left at found
  right_operand b.And left at found = wants at found k.Bool
  right_operand b.Or left at found = wants at found k.Bool

  first_operand : (ls : Links) (at : ℕ) (found : Option ValueKind)
      → h (r.first_operand none one both ls at found) ≡ r.first_operand none' one' both' ls at found
  first_operand no_links at found = h-none
  first_operand (link op e rest) at found = left_operand op at found

  -- ---- expressions

  mutual
    pub expressions_first : (c : Names) (l : Locals) (e : Expression)
        → h (r.broken_in_expression none one both c l e) ≡ r.broken_in_expression none' one' both' c l e
    expressions_first c l (placed at s) = expression_form_first c l s

    expression_form_first : (c : Names) (l : Locals) (s : ExpressionForm)
        → h (r.broken_in_expression_form none one both c l s) ≡ r.broken_in_expression_form none' one' both' c l s
    expression_form_first c l (int n) = h-none
    expression_form_first c l (bool x) = h-none
    expression_form_first c l no_rev = h-none
    expression_form_first c l (var n) = scalar_use n (find n.text l) (c.shared n.text)
    expression_form_first c l (cell n index) =
        two _ _ _ _ (array_use n (find n.text l) (c.shared n.text))
        (two _ _ _ _ (expressions_first c l index) (wants (expression_place index) (kind_in c l index) k.Int))
    expression_form_first c l (apply n args) =
        args_first c l (r.params_of none one both (c.funs n.text)) 0 none none' args h-none
    expression_form_first c l (input at index) =
        two _ _ _ _ (input_use c.inside at)
        (two _ _ _ _ (expressions_first c l index) (wants (expression_place index) (kind_in c l index) k.Int))
    expression_form_first c l (inputs at) = input_use c.inside at
    expression_form_first c l (pick t x y) =
        two _ _ _ _ (two _ _ _ _ (expressions_first c l t) (wants (expression_place t) (kind_in c l t) k.Bool))
        (two _ _ _ _ (two _ _ _ _ (expressions_first c l x) (expressions_first c l y))
        (alike (expression_place y) (kind_in c l x) (kind_in c l y)))
    expression_form_first c l (unary op e) =
        two _ _ _ _ (expressions_first c l e) (wants (expression_place e) (kind_in c l e) (operand_kind op))
    expression_form_first c l (chain e rest) =
        links_first c l (kind_in c l e) _ _ rest
        (two _ _ _ _ (expressions_first c l e) (first_operand rest (expression_place e) (kind_in c l e)))

    args_first : (c : Names) (l : Locals) (ps : List Parameter) (n : ℕ) (x : M) (x' : N) (ts : Expressions) → h x ≡ x'
        → h (r.args_by none one both c l ps n x ts) ≡ r.args_by none' one' both' c l ps n x' ts
    args_first c l ps n x x' no_expressions p = p
    args_first c l ps n x x' (expression e es) p =
        args_first c l ps (n + 1) _ _ es
        (two _ _ _ _ p
        (two _ _ _ _ (expressions_first c l e) (fits (expression_place e) (kind_in c l e) (slice_get ps n))))

    links_first : (c : Names) (l : Locals) (left : Option ValueKind) (x : M) (x' : N) (ls : Links) → h x ≡ x'
        → h (r.broken_in_links none one both c l left x ls) ≡ r.broken_in_links none' one' both' c l left x' ls
    links_first c l left x x' no_links p = p
    links_first c l left x x' (link op e rest) p =
        links_first c l left _ _ rest
        (two _ _ _ _ p
        (two _ _ _ _ (expressions_first c l e) (right_operand op left (expression_place e) (kind_in c l e))))

  part_first : (c : Names) (l : Locals) (e : Expression) (wanted : ValueKind)
      → h (r.part_by none one both c l e wanted) ≡ r.part_by none' one' both' c l e wanted
  part_first c l e wanted = two _ _ _ _ (expressions_first c l e) (wants (expression_place e) (kind_in c l e) wanted)

  callee_use : (n : PlacedName) (k : ℕ) (f : Option Callee)
      → h (r.callee_use none one both n k f) ≡ r.callee_use none' one' both' n k f
  callee_use n k None = h-one _ tt
  callee_use n k (Some f) = test (nat_eq k (length f.params)) _ _ _ _ h-none (h-one _ tt)

  call_first : (c : Names) (l : Locals) (n : PlacedName) (args : Expressions)
      → h (r.call_by none one both c l n args) ≡ r.call_by none' one' both' c l n args
  call_first c l n args =
      two _ _ _ _ (callee_use n (count args) (c.procs n.text))
      (args_first c l (r.params_of none one both (c.procs n.text)) 0 none none' args h-none)

  has_result : (at : ℕ) (found : Option ValueKind)
      → h (r.has_result none one both at found) ≡ r.has_result none' one' both' at found
  has_result at None = h-one _ tt
  has_result at (Some found) = h-none

  result_use : (at : ℕ) (f : Option Callee) → h (r.result_use none one both at f) ≡ r.result_use none' one' both' at f
  result_use at None = h-none
  result_use at (Some f) = has_result at f.result

  right_side_first : (c : Names) (l : Locals) (x : RightSide)
      → h (r.broken_in_right_side none one both c l x) ≡ r.broken_in_right_side none' one' both' c l x
  right_side_first c l (plain e) = expressions_first c l e
  right_side_first c l (called at n args) = two _ _ _ _ (result_use n.at (c.procs n.text)) (call_first c l n args)
  right_side_first c l (forked at n args) = call_first c l n args
  right_side_first c l (tried at e) = part_first c l e k.Rev

  -- ---- statements

  new_local : (n : PlacedName) (found : Option (Option ValueKind)) (o : Option Holder)
      → h (s.new_local none one both n found o) ≡ s.new_local none' one' both' n found o
  new_local n found o = test (is_some found) _ _ _ _ (h-one _ tt) (test (is_some o) _ _ _ _ (h-one _ tt) h-none)

  one_more_local : (n : PlacedName) (left : ℕ)
      → h (s.one_more_local none one both n left) ≡ s.one_more_local none' one' both' n left
  one_more_local n left = test (nat_eq left 1) _ _ _ _ (h-one _ refl) h-none

  one_more_item : (at left : ℕ) → h (s.one_more_item none one both at left) ≡ s.one_more_item none' one' both' at left
  one_more_item at left = test (nat_eq left 1) _ _ _ _ (h-one _ refl) h-none

  item_first : (c : Names) (l : Locals) (left : ℕ) (x : PrintItem)
      → h (s.item_by none one both c l left x) ≡ s.item_by none' one' both' c l left x
  item_first c l left (text at bytes) = one_more_item at left
  item_first c l left (shown e) =
      two _ _ _ _ (two _ _ _ _ (expressions_first c l e) (not_rev (expression_place e) (kind_in c l e)))
      (one_more_item (expression_place e) left)

  items_first : (c : Names) (l : Locals) (left : ℕ) (x : M) (x' : N) (is : List PrintItem) → h x ≡ x'
      → h (s.items_by none one both c l left x is) ≡ s.items_by none' one' both' c l left x' is
  items_first c l left x x' [] p = p
  items_first c l left x x' (i ∷ is) p = items_first c l (left - 1) _ _ is (two _ _ _ _ p (item_first c l left i))

  return_first : (c : Names) (l : Locals) (result : Option ValueKind) (at : ℕ) (e : Option Expression)
      → h (s.return_by none one both c l result at e) ≡ s.return_by none' one' both' c l result at e
  return_first c l None at None = h-none
  return_first c l None at (Some e) = two _ _ _ _ (expressions_first c l e) (h-one _ tt)
  return_first c l (Some wanted) at None = h-one _ tt
  return_first c l (Some wanted) at (Some e) = part_first c l e wanted

  assigned_first : (c : Names) (l : Locals) (wanted : Option ValueKind) (x : RightSide)
      → h (s.assigned none one both c l wanted x) ≡ s.assigned none' one' both' c l wanted x
  assigned_first c l wanted x =
      two _ _ _ _ (right_side_first c l x) (alike (right_side_place x) wanted (right_side_kind c l x))

  cell_first : (c : Names) (l : Locals) (n : PlacedName) (index e : Expression)
      → h (s.cell_by none one both c l n index e) ≡ s.cell_by none' one' both' c l n index e
  cell_first c l n index e =
      two _ _ _ _ (array_use n (find n.text l) (c.shared n.text)) (two _ _ _ _ (part_first c l index k.Int)
      (two _ _ _ _ (expressions_first c l e)
      (alike (expression_place e) (name_kind (find n.text l) (c.shared n.text)) (kind_in c l e))))

  mutual
    statement_first : (c : Names) (result : Option ValueKind) (l : Locals) (left : ℕ) (x : Statement)
        → h (s.broken_in_statement none one both c result l left x)
        ≡ s.broken_in_statement none' one' both' c result l left x
    statement_first c result l left (statement at line form) = statement_form_first c result l left at form

    statement_form_first : (c : Names) (result : Option ValueKind) (l : Locals) (left at : ℕ) (x : StatementForm)
        → h (s.broken_in_statement_form none one both c result l left at x)
        ≡ s.broken_in_statement_form none' one' both' c result l left at x
    statement_form_first c result l left at (bind n x) =
        two _ _ _ _ (right_side_first c l x)
        (two _ _ _ _ (new_local n (find n.text l) (c.shared n.text)) (one_more_local n left))
    statement_form_first c result l left at (assign n x) =
        two _ _ _ _ (scalar_use n (find n.text l) (c.shared n.text))
        (assigned_first c l (name_kind (find n.text l) (c.shared n.text)) x)
    statement_form_first c result l left at (assign_cell n index e) = cell_first c l n index e
    statement_form_first c result l left at (choose arms) = arms_first c result l left none none' arms h-none
    statement_form_first c result l left at (choose_or arms last) =
        two _ _ _ _ (arms_first c result l left none none' arms h-none)
        (statements_first c result l (s.left_arms left arms) none none' last h-none)
    statement_form_first c result l left at (repeat t body) =
        two _ _ _ _ (part_first c l t k.Bool) (statements_first c result l left none none' body h-none)
    statement_form_first c result l left at (call n args) = call_first c l n args
    statement_form_first c result l left at (return e) = return_first c l result at e
    statement_form_first c result l left at (fork n args) = call_first c l n args
    statement_form_first c result l left at (join e) = part_first c l e k.Rev
    statement_form_first c result l left at (print is) = items_first c l (first_past limits.Items) none none' is h-none
    statement_form_first c result l left at (assert e) = part_first c l e k.Bool

    pub statements_first : (c : Names) (result : Option ValueKind) (l : Locals) (left : ℕ) (x : M) (x' : N)
        (ss : Statements)
        → h x ≡ x'
        → h (s.broken_in_statements none one both c result l left x ss)
        ≡ s.broken_in_statements none' one' both' c result l left x' ss
    statements_first c result l left x x' no_statements p = p
    statements_first c result l left x x' (statements a rest) p =
        statements_first c result (scopes.locals_after c l a) (s.left_after left a) _ _ rest
        (two _ _ _ _ p (statement_first c result l left a))

    arms_first : (c : Names) (result : Option ValueKind) (l : Locals) (left : ℕ) (x : M) (x' : N) (rs : Arms) → h x ≡ x'
        → h (s.broken_in_arms none one both c result l left x rs)
        ≡ s.broken_in_arms none' one' both' c result l left x' rs
    arms_first c result l left x x' no_arms p = p
    arms_first c result l left x x' (arm t body rest) p =
        arms_first c result l (s.left_statements left body) _ _ rest
        (two _ _ _ _ p
        (two _ _ _ _ (part_first c l t k.Bool) (statements_first c result l left none none' body h-none)))

  -- ---- declarations

  new_name : (n : PlacedName) (names : Table ℕ)
      → h (p.new_name none one both n names) ≡ p.new_name none' one' both' n names
  new_name n names = test (is_some (find n.text names)) _ _ _ _ (h-one _ tt) h-none

  limit_at : (at : ℕ) (which : Limit) (left : ℕ)
      → h (p.limit_at none one both at which left) ≡ p.limit_at none' one' both' at which left
  limit_at at which left = test (nat_eq left 1) _ _ _ _ (h-one _ refl) h-none

  new_param : (n : PlacedName) (l : Locals) → h (p.new_param none one both n l) ≡ p.new_param none' one' both' n l
  new_param n l = test (is_some (find n.text l)) _ _ _ _ (h-one _ tt) h-none

  no_rev_param : (b : Parameter) → h (p.no_rev_param none one both b) ≡ p.no_rev_param none' one' both' b
  no_rev_param b = test (same_kind b.kind k.Rev) _ _ _ _ (h-one _ tt) h-none

  fun_params : (l : Locals) (left : ℕ) (x : M) (x' : N) (bs : List Parameter) → h x ≡ x'
      → h (p.fun_params none one both l left x bs) ≡ p.fun_params none' one' both' l left x' bs
  fun_params l left x x' [] q = q
  fun_params l left x x' (b ∷ bs) q =
      fun_params (added l b.name.text (Some b.kind)) (left - 1) _ _ bs
      (two _ _ _ _ q
      (two _ _ _ _ (new_param b.name l) (two _ _ _ _ (no_rev_param b) (limit_at b.name.at limits.Parameters left))))

  proc_params : (c : Names) (l : Locals) (left locals : ℕ) (x : M) (x' : N) (bs : List Parameter) → h x ≡ x'
      → h (p.proc_params none one both c l left locals x bs) ≡ p.proc_params none' one' both' c l left locals x' bs
  proc_params c l left locals x x' [] q = q
  proc_params c l left locals x x' (b ∷ bs) q =
      proc_params c (added l b.name.text (Some b.kind)) (left - 1) (locals - 1) _ _ bs
      (two _ _ _ _ q (two _ _ _ _ (new_local b.name (find b.name.text l) (c.shared b.name.text))
      (two _ _ _ _ (limit_at b.name.at limits.Parameters left) (one_more_local b.name locals))))

  merge_params : (m j x : PlacedName) → h (p.merge_params none one both m j x) ≡ p.merge_params none' one' both' m j x
  merge_params m j x =
      two _ _ _ _ (new_param j (added [] m.text (Some k.Int)))
      (new_param x (added (added [] m.text (Some k.Int)) j.text (Some k.Int)))

  weight_of : (n : PlacedName) (weight : ℕ)
      → h (p.weight_of none one both n weight) ≡ p.weight_of none' one' both' n weight
  weight_of n weight = test (nat_lt (most limits.Weight) weight) _ _ _ _ (h-one _ refl) h-none

  fun_result : (n : PlacedName) (x : ValueKind) → h (p.fun_result none one both n x) ≡ p.fun_result none' one' both' n x
  fun_result n x = test (same_kind x k.Rev) _ _ _ _ (h-one _ tt) h-none

  fun_body : (c : Names) (l : Locals) (x : ValueKind) (e : Expression)
      → h (p.fun_body none one both c l x e) ≡ p.fun_body none' one' both' c l x e
  fun_body c l x e = two _ _ _ _ (part_first c l e x) (not_rev (expression_place e) (kind_in c l e))

  by_use : (ms : Table ℕ) (n : Option PlacedName) → h (p.by_use none one both ms n) ≡ p.by_use none' one' both' ms n
  by_use ms None = h-none
  by_use ms (Some n) = test (is_some (find n.text ms)) _ _ _ _ h-none (h-one _ tt)

  cumulative_kind : (n : Option PlacedName) (at : ℕ) (found : ValueKind)
      → h (p.cumulative_kind none one both n at found) ≡ p.cumulative_kind none' one' both' n at found
  cumulative_kind None at found = h-none
  cumulative_kind (Some n) at found = test (same_kind found k.Int) _ _ _ _ h-none (h-one _ tt)

  size_use : (x : Option ArraySize) → h (p.size_use none one both x) ≡ p.size_use none' one' both' x
  size_use None = h-none
  size_use (Some x) = test (nat_eq (scopes.size_cells x.cells) 0) _ _ _ _ (h-one _ tt) h-none

  first_value : (x : Option Constant) (wanted : ValueKind)
      → h (p.first_value none one both x wanted) ≡ p.first_value none' one' both' x wanted
  first_value None wanted = h-none
  first_value (Some x) wanted = wants x.at (Some (kind_of x.value)) wanted

  location_limit : (n : PlacedName) (before after : ℕ)
      → h (p.location_limit none one both n before after) ≡ p.location_limit none' one' both' n before after
  location_limit n before after =
      test (nat_le before (most limits.Locations)) _ _ _ _
      (test (nat_lt (most limits.Locations) after) _ _ _ _ (h-one _ refl) h-none) h-none

  return_use : (n : PlacedName) (x : Option ValueKind) (b : Bool)
      → h (p.return_use none one both n x b) ≡ p.return_use none' one' both' n x b
  return_use n None b = h-none
  return_use n (Some x) b = test b _ _ _ _ h-none (h-one _ tt)

  declaration_first : (outer inner : Names) (q : p.Passed) (e : Declaration)
      → h (p.broken_in_declaration none one both outer inner q e)
      ≡ p.broken_in_declaration none' one' both' outer inner q e
  declaration_first outer inner q (fun n bs x body) =
      two _ _ _ _ (two _ _ _ _ (new_name n q.names) (limit_at n.at limits.Funs q.funs_left))
      (two _ _ _ _ (two _ _ _ _ (fun_params [] (first_past limits.Parameters) none none' bs h-none) (fun_result n x))
      (two _ _ _ _ (fun_body inner (scopes.with_params [] bs) x body) (weight_of n (p.weight q.weights body))))
  declaration_first outer inner q (merge n m j x body) =
      two _ _ _ _ (two _ _ _ _ (new_name n q.names) (limit_at n.at limits.Funs q.funs_left))
      (two _ _ _ _ (merge_params m j x)
      (two _ _ _ _ (part_first inner (scopes.merge_locals m j x) body k.Int) (weight_of n (p.weight q.weights body))))
  declaration_first outer inner q (shared x) =
      two _ _ _ _ (two _ _ _ _ (new_name x.name q.names)
      (location_limit x.name q.located (p.located_after q.located (p.cells_in x.size))))
      (two _ _ _ _ (two _ _ _ _ (by_use q.merges x.by) (cumulative_kind x.by x.kind_at x.holds))
      (two _ _ _ _ (size_use x.size) (first_value x.first x.holds)))
  declaration_first outer inner q (proc n bs x body) =
      two _ _ _ _ (two _ _ _ _ (new_name n q.names) (limit_at n.at limits.Procedures q.procs_left))
      (two _ _ _ _ (two _ _ _ _
      (proc_params outer [] (first_past limits.Parameters) (first_past limits.Locals) none none' bs h-none)
      (return_use n x (s.returns body)))
      (statements_first outer x (scopes.with_params [] bs) (p.left_params (first_past limits.Locals) bs) none none' body
      h-none))

  declarations_first : (outer inner : Names) (q : p.Passed) (x : M) (x' : N) (es : List Declaration) → h x ≡ x'
      → h (p.broken_in_declarations none one both outer inner q x es)
      ≡ p.broken_in_declarations none' one' both' outer inner q x' es
  declarations_first outer inner q x x' [] e = e
  declarations_first outer inner q x x' (d ∷ ds) e =
      declarations_first outer inner (p.passed_with q d) _ _ ds (two _ _ _ _ e (declaration_first outer inner q d))

  pub program_first : (x : ProgramTree)
      → h (p.broken_in_program none one both x) ≡ p.broken_in_program none' one' both' x
  program_first x =
      two _ _ _ _ (declarations_first (scopes.outside x.declarations) (scopes.within x.declarations) p.nothing_passed
      none none' x.declarations h-none)
      (statements_first (scopes.outside x.declarations) None [] (first_past limits.Locals) none none' x.main h-none)

-- the first fault of a program is the first of all its faults
pub first_of_faults : (x : ProgramTree) → least place rank (p.faults x) ≡ broken_in_program x
first_of_faults x =
    program_first [] (λ f. f ∷ []) (λ xs ys. xs ++ ys) None Some both (λ fs. least place rank fs) refl (λ f own. refl)
    (λ xs ys. least-append place rank xs ys) x
