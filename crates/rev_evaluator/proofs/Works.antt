-- What is left to do, a turn at a time.
use Rattle.std.proofs.Common.{◌≡◌, ◌∙◌, ◌<◌, ◌≤◌, ◌+◌, ◌-◌, ℕ, zero, suc, Bool, true, false, if◌then◌else◌, List, [], ◌∷◌, ◌++◌, map, reverse, take, drop, length, Option, Some, None, Result, Ok, Err, refl, sym, ap, arith, length-append, ◌==◌, slice_range, get_or, length-take-le}
use Rattle.std.proofs.lemmas.Bool.Decides.{nat_tests}
use Rattle.std.proofs.lemmas.List.{length-map, length-reverse, reverse-append}
use Rattle.rev_num.specs.declared.value.Value.{Value}
use Rattle.rev_num.specs.declared.outcome.Cause.{Cause}
use Rattle.rev_syntax.specs.Trees.{PlacedName, Declaration, Expression, Expressions, ExpressionForm, Links}
use Rattle.rev_syntax.specs.Trees as t
use Rattle.rev_syntax.specs.Small.{expression_count, expression_form_count}
use Rattle.rev_syntax.specs.View.{parameter, expression, expressions, expression_form, links, placed_name}
use Rattle.rev_syntax.specs.declared.tree.Link.{Link}
use Rattle.rev_syntax.specs.declared.tree.Name.{Name as RName}
use Rattle.rev_evaluator.specs.declared.seen.Seen.{Seen}
use Rattle.rev_evaluator.specs.declared.work.Pending.TheVariants as wait
use Rattle.std.specs.Borrow.{Bor}
use Rattle.rev_syntax.specs.declared.tree.Expr.{Expr}
use Rattle.rev_syntax.specs.declared.tree.BinaryOp.{BinaryOp}
use Rattle.name_tables.specs.Names.{Name}
use Rattle.name_tables.specs.Table.{Table}
use Rattle.typed_programs.specs.Weights.{expression_weight, expression_form_weight, links_weight}
use Rattle.typed_programs.specs.Value.{Answer, Env, and_then, bind, bind_all, nothing, called, values_by, value_by, linked, number_of, operated, read_input, read_cell, reversed, short, truth_of}
use Rattle.rev_syntax.specs.declared.tree.UnaryOp.{UnaryOp}
use Rattle.std.specs.Result.{IsErrAnd}
use Rattle.typed_programs.specs.Evaluation.{Values, IsMeant, funs_before, value_within, expression_form_within, chained_within, value_of_body, params_at, applied_within, given_within}
use Rattle.rev_evaluator.specs.Locals.{local}
use Rattle.rev_evaluator.specs.Seen.{seen}
use Rattle.typed_programs.specs.Definitions.{names_of}
use Rattle.rev_syntax.specs.declared.tree.Param.{Param}
use Rattle.rev_evaluator.specs.declared.locals.Locals as locals
use Rattle.rev_evaluator.specs.Work.{waiting, waits, kept, keeps, kept_behind, continued, ended, comes_to, after, goes_on, passed, remains, pending_size, wait_size, link_cost, pending_cost, pending_weight, wait_weight, waiting_weight, application, lasts, without}
use Rattle.rev_evaluator.specs.declared.work.Turn.{Turn}
use Rattle.rev_evaluator.specs.declared.work.Call.{Call}
use Rattle.rev_evaluator.specs.declared.work.Pending.{Pending}
use Rattle.rev_evaluator.specs.declared.work.Next.TheVariants as next
use Rattle.typed_programs.proofs.Appends.{appends}
use Rattle.rev_evaluator.proofs.Evaluations.{take_whole, at_placed, prepended, chained_step, chained_none, link_decided}
use Rattle.typed_programs.proofs.Shapes.{links-first, expression-placed}
use Rattle.rev_evaluator.proofs.Bindings.{local-Empty}

-- ---- lists

-- the last that was pushed is the first from the end
pub pushed : {A : Type 0} (xs xs' : List A) (x : A) → xs' ≡ xs ++ x ∷ [] → reverse xs' ≡ x ∷ reverse xs
pushed xs xs' x h = ap reverse h ∙ reverse-append xs (x ∷ [])

drop-whole : {A : Type 0} (xs : List A) → drop (length xs) xs ≡ []
drop-whole [] = refl
drop-whole (x ∷ xs) = drop-whole xs

take-push : {A : Type 0} (k : ℕ) (xs : List A) (x : A) → k ≤ length xs → take k (xs ++ x ∷ []) ≡ take k xs
take-push zero xs x h = refl
take-push (suc k) [] x h = absurd (omega arith)
take-push (suc k) (y ∷ xs) x h = ap (λ r. y ∷ r) (take-push k xs x (omega arith))

drop-push : {A : Type 0} (k : ℕ) (xs : List A) (x : A) → k ≤ length xs → drop k (xs ++ x ∷ []) ≡ drop k xs ++ x ∷ []
drop-push zero xs x h = refl
drop-push (suc k) [] x h = absurd (omega arith)
drop-push (suc k) (y ∷ xs) x h = drop-push k xs x (omega arith)

one_less : {A : Type 0} (k : ℕ) (xs : List A) (x : A) → length (xs ++ x ∷ []) - suc k ≡ length xs - k
one_less k xs x = let e = length-append xs (x ∷ []) in omega arith

pub lasts-none : {A : Type 0} (xs : List A) → lasts 0 xs ≡ []
lasts-none xs = let e : length xs - 0 ≡ length xs = omega arith in ap (λ m. drop m xs) e ∙ drop-whole xs

pub without-none : {A : Type 0} (xs : List A) → without 0 xs ≡ xs
without-none xs = let e : length xs - 0 ≡ length xs = omega arith in ap (λ m. take m xs) e ∙ take_whole xs

pub lasts-push : {A : Type 0} (k : ℕ) (xs : List A) (x : A) → lasts (suc k) (xs ++ x ∷ []) ≡ lasts k xs ++ x ∷ []
lasts-push k xs x = ap (λ m. drop m (xs ++ x ∷ [])) (one_less k xs x) ∙ drop-push (length xs - k) xs x (omega arith)

pub without-push : {A : Type 0} (k : ℕ) (xs : List A) (x : A) → without (suc k) (xs ++ x ∷ []) ≡ without k xs
without-push k xs x = ap (λ m. take m (xs ++ x ∷ [])) (one_less k xs x) ∙ take-push (length xs - k) xs x (omega arith)

drop-map : {A B : Type 0} (f : A → B) (k : ℕ) (xs : List A) → map f (drop k xs) ≡ drop k (map f xs)
drop-map f zero xs = refl
drop-map f (suc k) [] = refl
drop-map f (suc k) (x ∷ xs) = drop-map f k xs

take-map : {A B : Type 0} (f : A → B) (k : ℕ) (xs : List A) → map f (take k xs) ≡ take k (map f xs)
take-map f zero xs = refl
take-map f (suc k) [] = refl
take-map f (suc k) (x ∷ xs) = ap (λ r. f x ∷ r) (take-map f k xs)

-- ---- what comes of the rest

module _ (es : List Declaration) (n : ℕ) (env : Env) where
  -- a fault is handed on
  pub ended-fault : (ps : List Pending) (vs : List Value) (c : Cause) → ended es n env ps vs (Err c) ≡ Err c
  unfolding ended
  ended-fault [] vs c = refl
  ended-fault (p ∷ ps) vs c = ended-fault ps (kept_behind p vs) c

  pub ended-step : (p : Pending) (ps : List Pending) (vs : List Value) (a : Answer)
      → ended es n env (p ∷ ps) vs a ≡ ended es n env ps (kept_behind p vs) (and_then a (continued es n env p vs))
  unfolding ended
  ended-step p ps vs a = refl

  -- a part whose value is awaited
  pub awaited : (ps : List Pending) (p : Pending) (part : Bor Expr) (vs : List Value) (a : Answer)
      → and_then (value_within es n env (expression part.now)) (continued es n env p vs) ≡ a
      → comes_to es n env (p ∷ ps) vs (next.Part part) ≡ ended es n env ps (kept_behind p vs) a
  unfolding comes_to
  awaited ps p part vs a r =
      ended-step p ps vs (value_within es n env (expression part.now))
      ∙ ap (ended es n env ps (kept_behind p vs)) r

  -- a value behind which a part waits
  pub given : (ps : List Pending) (p : Pending) (x : Value) (y : Seen) (vs : List Value) → seen y ≡ x
      → comes_to es n env (p ∷ ps) vs (next.Value y) ≡ ended es n env ps (kept_behind p vs) (continued es n env p vs x)
  unfolding comes_to
  given ps p x y vs e =
      (λ i. ended es n env (p ∷ ps) vs (Ok (e i)))
      ∙ ended-step p ps vs (Ok x)

  -- ---- a value or a fault

  pub at-value : (ps : List Pending) (vs : List Value) (x : Seen) (a : Answer) → Ok (seen x) ≡ a
      → comes_to es n env ps vs (next.Value x) ≡ ended es n env ps vs a
  unfolding comes_to
  at-value ps vs x a h = ap (ended es n env ps vs) h

  pub at-part : (ps : List Pending) (vs : List Value) (e : Bor Expr) (a : Answer)
      → value_within es n env (expression e.now) ≡ a → comes_to es n env ps vs (next.Part e) ≡ ended es n env ps vs a
  unfolding comes_to
  at-part ps vs e a h = ap (ended es n env ps vs) h

  pub at-fault : (ps : List Pending) (vs : List Value) (c : Cause) (a : Answer) → Err c ≡ a
      → Err c ≡ ended es n env ps vs a
  at-fault ps vs c a h = sym (ended-fault ps vs c) ∙ ap (ended es n env ps vs) h

  -- a turn by what it is
  pub by_turn : (ps : List Pending) (vs : List Value) (t u : Turn) (a : Answer) → t ≡ u → after es n env ps vs u ≡ a
      → after es n env ps vs t ≡ a
  by_turn ps vs t u a h k = ap (after es n env ps vs) h ∙ k

  -- ---- applications

  pub application-apply : (w : PlacedName) (ts : Expressions)
      → application es n env w.text [] ts ≡ expression_form_within es n env (t.apply w ts)
  unfolding application expression_form_within
  application-apply w ts = refl

  -- an argument is evaluated, and then the others
  pub argument-step : (name : Name) (xs : List Value) (arg : Expression) (rest : Expressions)
      → and_then (value_within es n env arg) (λ x. application es n env name (xs ++ x ∷ []) rest)
      ≡ application es n env name xs (t.expression arg rest)
  unfolding application value_within
  argument-step name xs arg rest =
      (λ i. and_then (value_by (funs_before es n) env arg)
      (λ x. and_then (values_by (funs_before es n) env rest)
      (λ ys. called (funs_before es n name) (appends xs (x ∷ []) ys i))))
      ∙ prepended (value_by (funs_before es n) env arg) (values_by (funs_before es n) env rest)
      (λ ys. called (funs_before es n name) (xs ++ ys))

  -- ---- links

  in_turn : {A B C : Type 0} (r : Result A Cause) (f : A → Result B Cause) (g : B → Result C Cause)
      → and_then r (λ y. and_then (f y) g) ≡ and_then (and_then r f) g
  in_turn (Ok y) f g = refl
  in_turn (Err c) f g = refl

  -- a right operand that is wanted, and then the other links
  pub operand-step : (op : BinaryOp) (x : Value) (part : Expression) (rest : Links) → None ≡ short op x
      → and_then (value_within es n env part) (λ y. and_then (operated op x y) (λ z. chained_within es n env z rest))
      ≡ chained_within es n env x (t.link op part rest)
  unfolding value_within chained_within
  operand-step op x part rest h =
      in_turn (value_within es n env part) (operated op x) (λ z. chained_within es n env z rest)
      ∙ ap (λ o. and_then (linked op x (value_within es n env part) o) (λ z. chained_within es n env z rest)) h

-- ---- how much is left

pub remains-step : (p : Pending) (ps : List Pending) → remains (p ∷ ps) ≡ pending_size p + remains ps
unfolding remains
remains-step p ps = refl

pub remains-none : remains [] ≡ 0
unfolding remains
remains-none = refl

pub remains-waits : (o : Option Pending) (ps : List Pending) → remains (waits o ps) ≡ wait_size o + remains ps
remains-waits (Some p) ps = remains-step p ps
remains-waits None ps = omega arith

-- ---- the first turn of an application

module _ (es : List Declaration) (n : ℕ) (env : Env) where
  pub apply-begun : (name : Bor RName) (arg : Bor Expr) (rest : Bor (List Expr)) (vs : List Value)
      → and_then (value_within es n env (expression arg.now)) (continued es n env (wait.Argument name 0 rest) vs)
      ≡ expression_form_within es n env
      (t.apply (placed_name name.now) (t.expression (expression arg.now) (expressions rest.now)))
  unfolding continued
  apply-begun name arg rest vs =
      (λ i. and_then (value_within es n env (expression arg.now))
      (λ x. application es n env name.now.text.items (lasts-none vs i ++ x ∷ []) (expressions rest.now)))
      ∙ argument-step es n env name.now.text.items [] (expression arg.now) (expressions rest.now)
      ∙ application-apply es n env (placed_name name.now) (t.expression (expression arg.now) (expressions rest.now))

  pub apply-none : (ps : List Pending) (vs : List Value) (name : Bor RName) (args : Bor (List Expr))
      → comes_to es n env ps vs (next.Call (record { name = name; before = 0; value = None; rest = args }))
      ≡ ended es n env ps vs (expression_form_within es n env (t.apply (placed_name name.now) (expressions args.now)))
  unfolding comes_to
  apply-none ps vs name args =
      (λ i. ended es n env ps (without-none vs i)
      (application es n env name.now.text.items (nothing_kept vs i) (expressions args.now)))
      ∙ ap (ended es n env ps vs) (application-apply es n env (placed_name name.now) (expressions args.now))
    where
      nothing_kept : (vs : List Value) → lasts 0 vs ++ [] ≡ []
      nothing_kept vs = ap (λ xs. xs ++ []) (lasts-none vs)

  -- ---- the turn after an argument

  pub argument-kept :
      (ps : List Pending) (vs : List Value) (name : Bor RName) (k : ℕ) (x : Seen) (args : Bor (List Expr))
      → comes_to es n env ps vs (next.Call (record { name = name; before = k; value = Some x; rest = args }))
      ≡ ended es n env ps (without k vs)
      (application es n env name.now.text.items (lasts k vs ++ seen x ∷ []) (expressions args.now))
  unfolding comes_to
  argument-kept ps vs name k x args = refl

  pub argument-next : (name : Bor RName) (k : ℕ) (x : Value) (arg : Bor Expr) (rest : Bor (List Expr)) (vs : List Value)
      → and_then (value_within es n env (expression arg.now))
      (continued es n env (wait.Argument name (suc k) rest) (vs ++ x ∷ []))
      ≡ application es n env name.now.text.items (lasts k vs ++ x ∷ [])
      (t.expression (expression arg.now) (expressions rest.now))
  unfolding continued
  argument-next name k x arg rest vs =
      (λ i. and_then (value_within es n env (expression arg.now))
      (λ y. application es n env name.now.text.items (lasts-push k vs x i ++ y ∷ []) (expressions rest.now)))
      ∙ argument-step es n env name.now.text.items (lasts k vs ++ x ∷ []) (expression arg.now) (expressions rest.now)

  -- ---- the turns of a chain

  pub left-decided : (op : BinaryOp) (part : Expression) (left : Value) (z : Value) (vs : List Value)
      (rest : Bor (List Link))
      → Some z ≡ short op left
      → continued es n env (wait.Left rest) vs z ≡ chained_within es n env left (t.link op part (links rest.now))
  unfolding continued
  left-decided op part left z vs rest h =
      chained_step es n env left op part (links rest.now) (Ok z) (link_decided es n env op part left z h)

  pub left-wanted : (op : BinaryOp) (part : Expression) (left : Seen) (vs : List Value) (rest : Bor (List Link))
      → None ≡ short op (seen left)
      → and_then (value_within es n env part) (continued es n env (wait.Right op left rest) vs)
      ≡ chained_within es n env (seen left) (t.link op part (links rest.now))
  unfolding continued
  left-wanted op part left vs rest h = operand-step es n env op (seen left) part (links rest.now) h

  pub left-alone : (ps : List Pending) (vs : List Value) (x : Seen)
      → comes_to es n env ps vs (next.Value x) ≡ ended es n env ps vs (chained_within es n env (seen x) t.no_links)
  left-alone ps vs x =
      at-value es n env ps vs x (chained_within es n env (seen x) t.no_links) (chained_none es n env (seen x))

  -- ---- the turn after a value, by what the value is for

  -- what waited, by its form
  pub by_form : (ps : List Pending) (vs : List Value) (p q : Pending) (x : Value) (r : Answer) → p ≡ q
      → r ≡ ended es n env ps (kept_behind q vs) (continued es n env q vs x)
      → r ≡ ended es n env ps (kept_behind p vs) (continued es n env p vs x)
  by_form ps vs p q x r h k =
      k ∙ (λ i. ended es n env ps (kept_behind (sym h i) vs) (continued es n env (sym h i) vs x))

  -- a fault that a call hands on
  pub fault_out : (ps : List Pending) (vs : List Value) (r : Result Turn Cause) (c : Cause) (a : Answer)
      → IsErrAnd r (λ f. f ≡ c) → Err c ≡ a → goes_on es n env ps vs r ≡ a
  fault_out ps vs (Ok t) c a h k = absurd h
  fault_out ps vs (Err f) c a h k = ap (λ g. Err g) h ∙ k

  pub give-cell : (ps : List Pending) (vs : List Value) (name : Bor RName) (y : Seen) (x : Value)
      → Ok (seen y) ≡ read_cell (env.shared name.now.text.items) (number_of x)
      → comes_to es n env ps vs (next.Value y)
      ≡ ended es n env ps (kept_behind (wait.Cell name) vs) (continued es n env (wait.Cell name) vs x)
  unfolding continued
  give-cell ps vs name y x h = at-value es n env ps vs y (read_cell (env.shared name.now.text.items) (number_of x)) h

  pub give-cell-fault : (ps : List Pending) (vs : List Value) (name : Bor RName) (x : Value) (c : Cause)
      → Err c ≡ read_cell (env.shared name.now.text.items) (number_of x)
      → Err c ≡ ended es n env ps (kept_behind (wait.Cell name) vs) (continued es n env (wait.Cell name) vs x)
  unfolding continued
  give-cell-fault ps vs name x c h =
      at-fault es n env ps vs c (read_cell (env.shared name.now.text.items) (number_of x)) h

  pub give-input : (ps : List Pending) (vs : List Value) (y : Seen) (x : Value)
      → Ok (seen y) ≡ read_input env.inputs (number_of x)
      → comes_to es n env ps vs (next.Value y)
      ≡ ended es n env ps (kept_behind wait.Input vs) (continued es n env wait.Input vs x)
  unfolding continued
  give-input ps vs y x h = at-value es n env ps vs y (read_input env.inputs (number_of x)) h

  pub give-input-fault : (ps : List Pending) (vs : List Value) (x : Value) (c : Cause)
      → Err c ≡ read_input env.inputs (number_of x)
      → Err c ≡ ended es n env ps (kept_behind wait.Input vs) (continued es n env wait.Input vs x)
  unfolding continued
  give-input-fault ps vs x c h = at-fault es n env ps vs c (read_input env.inputs (number_of x)) h

  pub give-unary : (ps : List Pending) (vs : List Value) (op : UnaryOp) (y : Seen) (x : Value)
      → Ok (seen y) ≡ reversed op x
      → comes_to es n env ps vs (next.Value y)
      ≡ ended es n env ps (kept_behind (wait.Unary op) vs) (continued es n env (wait.Unary op) vs x)
  unfolding continued
  give-unary ps vs op y x h = at-value es n env ps vs y (reversed op x) h

  pub give-unary-fault : (ps : List Pending) (vs : List Value) (op : UnaryOp) (x : Value) (c : Cause)
      → Err c ≡ reversed op x
      → Err c ≡ ended es n env ps (kept_behind (wait.Unary op) vs) (continued es n env (wait.Unary op) vs x)
  unfolding continued
  give-unary-fault ps vs op x c h = at-fault es n env ps vs c (reversed op x) h

  pub give-pick : (ps : List Pending) (vs : List Value) (a b e : Bor Expr) (x : Value) (t : Bool) → truth_of x ≡ t
      → e ≡ (if t then a else b)
      → comes_to es n env ps vs (next.Part e) ≡ ended es n env ps vs (continued es n env (wait.Pick a b) vs x)
  unfolding continued
  give-pick ps vs a b e x true h k =
      at-part es n env ps vs e _
      (ap (λ d. value_within es n env (expression d.now)) k
      ∙ ap (λ s. if s then value_within es n env (expression a.now) else value_within es n env (expression b.now))
      (sym h))
  give-pick ps vs a b e x false h k =
      at-part es n env ps vs e _
      (ap (λ d. value_within es n env (expression d.now)) k
      ∙ ap (λ s. if s then value_within es n env (expression a.now) else value_within es n env (expression b.now))
      (sym h))

  pub give-behind : (ps : List Pending) (vs : List Value) (rest : Bor (List Link)) (x : Value) (r : Answer)
      → r ≡ ended es n env ps vs (chained_within es n env x (links rest.now))
      → r ≡ ended es n env ps (kept_behind (wait.Left rest) vs) (continued es n env (wait.Left rest) vs x)
  unfolding continued
  give-behind ps vs rest x r h = h

  pub give-right : (ps : List Pending) (vs : List Value) (op : BinaryOp) (left z : Seen) (rest : Bor (List Link))
      (x : Value)
      → Ok (seen z) ≡ operated op (seen left) x
      → comes_to es n env (wait.Left rest ∷ ps) vs (next.Value z)
      ≡ ended es n env ps (kept_behind (wait.Right op left rest) vs) (continued es n env (wait.Right op left rest) vs x)
  unfolding continued
  give-right ps vs op left z rest x e =
      given es n env ps (wait.Left rest) (seen z) z vs refl
      ∙ ap (λ r. ended es n env ps vs (and_then r (λ y. chained_within es n env y (links rest.now)))) e

  pub give-right-fault : (ps : List Pending) (vs : List Value) (op : BinaryOp) (left : Seen) (rest : Bor (List Link))
      (x : Value) (c : Cause)
      → Err c ≡ operated op (seen left) x
      → Err c
      ≡ ended es n env ps (kept_behind (wait.Right op left rest) vs) (continued es n env (wait.Right op left rest) vs x)
  unfolding continued
  give-right-fault ps vs op left rest x c h =
      at-fault es n env ps vs c (and_then (operated op (seen left) x) (λ y. chained_within es n env y (links rest.now)))
      (ap (λ r. and_then r (λ y. chained_within es n env y (links rest.now))) h)

  pub give-argument :
      (ps : List Pending) (vs : List Value) (name : Bor RName) (k : ℕ) (rest : Bor (List Expr)) (x : Value) (r : Answer)
      → r
      ≡ ended es n env ps (without k vs)
      (application es n env name.now.text.items (lasts k vs ++ x ∷ []) (expressions rest.now))
      → r
      ≡ ended es n env ps (kept_behind (wait.Argument name k rest) vs)
      (continued es n env (wait.Argument name k rest) vs x)
  unfolding continued
  give-argument ps vs name k rest x r h = h

  -- ---- the turn at a part, by its form

  -- an expression has the value of its form
  pub of_form : (e : Expr) (r : Answer) → r ≡ expression_form_within es n env (expression_form e.node)
      → r ≡ value_within es n env (expression e)
  of_form e r h = at_placed es n env (expression e) e.at (expression_form e.node) r (expression-placed e) h

  pub wait-cell : (s : ExpressionForm) (name : Bor RName) (index : Bor Expr) (vs : List Value)
      → s ≡ t.cell (placed_name name.now) (expression index.now)
      → and_then (value_within es n env (expression index.now)) (continued es n env (wait.Cell name) vs)
      ≡ expression_form_within es n env s
  unfolding continued expression_form_within value_within
  wait-cell s name index vs is = ap (expression_form_within es n env) (sym is)

  pub wait-input : (s : ExpressionForm) (at : ℕ) (index : Bor Expr) (vs : List Value)
      → s ≡ t.input at (expression index.now)
      → and_then (value_within es n env (expression index.now)) (continued es n env wait.Input vs)
      ≡ expression_form_within es n env s
  unfolding continued expression_form_within value_within
  wait-input s at index vs is = ap (expression_form_within es n env) (sym is)

  pub wait-unary : (s : ExpressionForm) (op : UnaryOp) (part : Bor Expr) (vs : List Value)
      → s ≡ t.unary op (expression part.now)
      → and_then (value_within es n env (expression part.now)) (continued es n env (wait.Unary op) vs)
      ≡ expression_form_within es n env s
  unfolding continued expression_form_within value_within
  wait-unary s op part vs is = ap (expression_form_within es n env) (sym is)

  pub wait-pick : (s : ExpressionForm) (test a b : Bor Expr) (vs : List Value)
      → s ≡ t.pick (expression test.now) (expression a.now) (expression b.now)
      → and_then (value_within es n env (expression test.now)) (continued es n env (wait.Pick a b) vs)
      ≡ expression_form_within es n env s
  unfolding continued expression_form_within value_within
  wait-pick s test a b vs is = ap (expression_form_within es n env) (sym is)

  pub wait-left : (s : ExpressionForm) (first : Bor Expr) (rest : Bor (List Link)) (vs : List Value)
      → s ≡ t.chain (expression first.now) (links rest.now)
      → and_then (value_within es n env (expression first.now)) (continued es n env (wait.Left rest) vs)
      ≡ expression_form_within es n env s
  unfolding continued expression_form_within value_within chained_within
  wait-left s first rest vs is = ap (expression_form_within es n env) (sym is)

-- an expression has one part more than its form
pub count_of : (e : Expr) (s : ExpressionForm) → expression_form e.node ≡ s
    → expression_count (expression e) ≡ 1 + expression_form_count s
count_of e s h = ap expression_count (expression-placed e) ∙ ap (λ x. 1 + expression_form_count x) h

-- ---- the application of a fun

-- arguments in two parts
bound-split : (l : Values) (ps : List Name) (xs ys : List Value)
    → bind_all l ps (xs ++ ys) ≡ bind_all (bind_all l ps xs) (drop (length xs) ps) ys
bound-split l [] [] ys = refl
bound-split l [] (x ∷ xs) ys = refl
bound-split l (p ∷ ps) [] ys = refl
bound-split l (p ∷ ps) (x ∷ xs) ys = bound-split (bind l p x) ps xs ys

module _ (es : List Declaration) (n : ℕ) (env : Env) (name : Name) (f : Option ℕ) (params : List Name) where
  meant-split : IsMeant es n name f → params ≡ params_at es f → (xs ys : List Value)
      → value_of_body es f (bind_all (bind_all nothing params xs) (drop (length xs) params) ys)
      ≡ called (funs_before es n name) (xs ++ ys)
  meant-split h k xs ys =
      ap (value_of_body es f) (sym (bound-split nothing params xs ys))
      ∙ ap (λ ps. value_of_body es f (bind_all nothing ps (xs ++ ys))) k
      ∙ sym (h (xs ++ ys))

  pub applied-application : IsMeant es n name f → params ≡ params_at es f → (xs : List Value) (rest : Expressions)
      → applied_within es n env rest f (drop (length xs) params) (bind_all nothing params xs)
      ≡ application es n env name (xs ++ []) rest
  unfolding applied_within application
  applied-application h k xs rest =
      (λ i. and_then (values_by (funs_before es n) env rest) (λ ys. meant-split h k xs ys i))
      ∙ (λ i. and_then (values_by (funs_before es n) env rest)
      (λ ys. called (funs_before es n name) (nothing_behind xs ys i)))
    where
      nothing_behind : (xs ys : List Value) → xs ++ ys ≡ (xs ++ []) ++ ys
      nothing_behind xs ys = sym (appends xs [] ys)

  pub given-application : IsMeant es n name f → params ≡ params_at es f
      → (xs : List Value) (x : Value) (rest : Expressions)
      → given_within es n env x rest f (drop (length xs) params) (bind_all nothing params xs)
      ≡ application es n env name (xs ++ x ∷ []) rest
  unfolding given_within application
  given-application h k xs x rest =
      (λ i. and_then (values_by (funs_before es n) env rest) (λ ys. meant-split h k xs (x ∷ ys) i))
      ∙ (λ i. and_then (values_by (funs_before es n) env rest)
      (λ ys. called (funs_before es n name) (sym (appends xs (x ∷ []) ys) i)))

-- ---- the loop

module _ (es : List Declaration) (n : ℕ) (env : Env) where
  -- at the start nothing waits
  pub starts : (e : Bor Expr) → comes_to es n env [] [] (next.Part e) ≡ value_within es n env (expression e.now)
  unfolding comes_to ended
  starts e = refl

  -- at the end nothing waits
  pub ends : (vs : List Value) (x : Seen) (a : Answer) → comes_to es n env [] vs (next.Value x) ≡ a → Ok (seen x) ≡ a
  unfolding comes_to ended
  ends vs x a k = k

  -- a part that faults, and one that has a value
  pub part-fault : (ps : List Pending) (vs : List Value) (e : Bor Expr) (c : Cause) (a : Answer)
      → Err c ≡ value_within es n env (expression e.now) → comes_to es n env ps vs (next.Part e) ≡ a → Err c ≡ a
  unfolding comes_to
  part-fault ps vs e c a h k = at-fault es n env ps vs c (value_within es n env (expression e.now)) h ∙ k

  pub part-value : (ps : List Pending) (vs : List Value) (e : Bor Expr) (x : Seen) (a : Answer)
      → Ok (seen x) ≡ value_within es n env (expression e.now) → comes_to es n env ps vs (next.Part e) ≡ a
      → comes_to es n env ps vs (next.Value x) ≡ a
  unfolding comes_to
  part-value ps vs e x a h k = ap (ended es n env ps vs) h ∙ k

  -- a part that is begun
  pub part-begun : (ps qs : List Pending) (vs : List Value) (e : Bor Expr) (t : Turn) (a : Answer)
      → after es n env ps vs t ≡ ended es n env ps vs (value_within es n env (expression e.now))
      → t.keep ≡ None → qs ≡ waits t.wait ps → comes_to es n env ps vs (next.Part e) ≡ a
      → comes_to es n env qs vs t.next ≡ a
  unfolding comes_to
  part-begun ps qs vs e t a h k q g =
      (λ i. comes_to es n env (q i) (keeps (sym k i) vs) t.next) ∙ h ∙ g

  -- an application that faults, and one that has a value
  pub call-fault : (ps : List Pending) (vs : List Value) (d : Call) (c : Cause) (a : Answer)
      → Err c
      ≡ application es n env d.name.now.text.items (lasts d.before vs ++ passed d.value) (expressions d.rest.now)
      → comes_to es n env ps vs (next.Call d) ≡ a → Err c ≡ a
  unfolding comes_to
  call-fault ps vs d c a h k =
      at-fault es n env ps (without d.before vs) c
      (application es n env d.name.now.text.items (lasts d.before vs ++ passed d.value) (expressions d.rest.now)) h
      ∙ k

  pub call-value : (ps : List Pending) (vs ws : List Value) (d : Call) (x : Seen) (a : Answer)
      → Ok (seen x)
      ≡ application es n env d.name.now.text.items (lasts d.before vs ++ passed d.value) (expressions d.rest.now)
      → ws ≡ without d.before vs → comes_to es n env ps vs (next.Call d) ≡ a
      → comes_to es n env ps ws (next.Value x) ≡ a
  unfolding comes_to
  call-value ps vs ws d x a h q k = (λ i. ended es n env ps (q i) (h i)) ∙ k

  -- a value that is given to the part that waits, and a fault of it
  pub taken : (ps qs : List Pending) (vs : List Value) (p : Pending) (x : Seen) (a r : Answer) → ps ≡ p ∷ qs
      → r ≡ ended es n env qs (kept_behind p vs) (continued es n env p vs (seen x))
      → comes_to es n env ps vs (next.Value x) ≡ a → r ≡ a
  unfolding comes_to
  taken ps qs vs p x a r h g e =
      g ∙ sym (ended-step es n env p qs vs (Ok (seen x)))
      ∙ ap (λ ps. ended es n env ps vs (Ok (seen x))) (sym h)
      ∙ e

  pub turned : (ps qs : List Pending) (vs ws : List Value) (t : Turn) (a : Answer) → after es n env ps vs t ≡ a
      → qs ≡ waits t.wait ps → ws ≡ keeps t.keep vs → comes_to es n env qs ws t.next ≡ a
  turned ps qs vs ws t a h q k = (λ i. comes_to es n env (q i) (k i) t.next) ∙ h

-- ---- the places of those that wait

take-at : {A : Type 0} (xs : List A) (k : ℕ) (x : A) → k < length xs → x ≡ get_or xs k x
    → take (suc k) xs ≡ take k xs ++ x ∷ []
take-at [] k x h e = absurd (omega arith)
take-at (y ∷ xs) zero x h e = ap (λ z. z ∷ []) (sym e)
take-at (y ∷ xs) (suc k) x h e = ap (λ r. y ∷ r) (take-at xs k x (omega arith) e)

-- the last that waits
pub waits-last : (ps : List Pending) (k m : ℕ) (p : Pending) → k < length ps → p ≡ get_or ps k p → m ≡ suc k
    → waiting ps m ≡ p ∷ waiting ps k
waits-last ps k m p h e q = ap (λ m. waiting ps m) q ∙ pushed (take k ps) (take (suc k) ps) p (take-at ps k p h e)

pub remains-some : (ps : List Pending) → 0 < length ps → 0 < remains ps
remains-some [] h = absurd (omega arith)
remains-some (p ∷ ps) h = let e = remains-step p ps in let k = pending-some p in omega arith
  where
    pending-some : (p : Pending) → 0 < pending_size p
    pending-some (wait.Cell name) = omega arith
    pending-some wait.Input = omega arith
    pending-some (wait.Unary op) = omega arith
    pending-some (wait.Pick a b) = omega arith
    pending-some (wait.Left rest) = omega arith
    pending-some (wait.Right op left rest) = omega arith
    pending-some (wait.Argument name before rest) = omega arith

-- ---- the parameters behind values

pub others : (xs : List Seen) (ps qs : List Param) → qs ≡ drop (length xs) ps
    → names_of (map parameter qs) ≡ drop (length (map seen xs)) (names_of (map parameter ps))
others xs ps qs h =
    ap (λ l. names_of (map parameter l)) h
    ∙ ap names_of (drop-map parameter (length xs) ps)
    ∙ drop-map (λ b. b.name.text) (length xs) (map parameter ps)
    ∙ ap (λ m. drop m (names_of (map parameter ps))) (sym (length-map xs seen))

pub earlier : (l e : Values) (ps : List Name) (xs : List Value) → e ≡ local locals.Empty → l ≡ bind_all e ps xs
    → l ≡ bind_all nothing ps xs
earlier l e ps xs h k = k ∙ ap (λ m. bind_all m ps xs) (h ∙ local-Empty)

-- ---- the values that are kept

drop-take : {A : Type 0} (a b : ℕ) (xs : List A) → a ≤ b → take (b - a) (drop a xs) ≡ drop a (take b xs)
drop-take zero b xs h = let e : b - 0 ≡ b = omega arith in ap (λ m. take m xs) e
drop-take (suc a) zero xs h = absurd (omega arith)
drop-take (suc a) (suc b) [] h = take-empty (suc b - suc a)
  where
    take-empty : {A : Type 0} (k : ℕ) → take {A = A} k [] ≡ []
    take-empty zero = refl
    take-empty (suc k) = refl
drop-take (suc a) (suc b) (x ∷ xs) h =
    let e : suc b - suc a ≡ b - a = omega arith in ap (λ m. take m (drop a xs)) e ∙ drop-take a b xs (omega arith)

take-within : {A : Type 0} (a b : ℕ) (xs : List A) → a ≤ b → take a xs ≡ take a (take b xs)
take-within zero b xs h = refl
take-within (suc a) zero xs h = absurd (omega arith)
take-within (suc a) (suc b) [] h = refl
take-within (suc a) (suc b) (x ∷ xs) h = ap (λ r. x ∷ r) (take-within a b xs (omega arith))

module _ (xs : List Seen) (held k first : ℕ) where
  counted : held ≤ length xs → first ≡ held - k → first ≡ length (kept xs held) - k
  counted h e = let l = length-map (take held xs) seen in let m = length-take-le held xs h in omega arith

  -- the last values that are kept, and those before them
  pub values-last : held ≤ length xs → first ≡ held - k → map seen (slice_range xs first held) ≡ lasts k (kept xs held)
  values-last h e =
      ap (map seen) (drop-take first held xs (omega arith)) ∙ drop-map seen first (take held xs)
      ∙ ap (λ m. drop m (kept xs held)) (counted h e)

  pub values-left : held ≤ length xs → first ≡ held - k → kept xs first ≡ without k (kept xs held)
  values-left h e =
      ap (map seen) (take-within first held xs (omega arith)) ∙ take-map seen first (take held xs)
      ∙ ap (λ m. take m (kept xs held)) (counted h e)

-- where all places are taken, something is left
pub remains-full : (ps : List Pending) (k : ℕ) → k ≤ length ps → 0 < k → 0 < remains (waiting ps k)
remains-full ps k h p =
    remains-some (waiting ps k) (let l = length-reverse (take k ps) in let m = length-take-le k ps h in omega arith)

-- ---- how much it costs

pub weight_of_node : (ws : Table ℕ) (e : Expr) (s : ExpressionForm) → expression_form e.node ≡ s
    → expression_weight ws (expression e) ≡ expression_form_weight ws s
weight_of_node ws e s h = ap (expression_weight ws) (expression-placed e) ∙ ap (expression_form_weight ws) h

pub cost_none : (ls : List Link) → (length ls == 0) ≡ true → 0 ≡ link_cost (links ls)
cost_none [] h = refl
cost_none (l ∷ ls) h = absurd (grind (arith, nat_tests))

pub cost_some : (ls : List Link) → (length ls == 0) ≡ false → 1 ≡ link_cost (links ls)
cost_some [] h = cc
cost_some (l ∷ ls) h = ap link_cost (sym (links-first l ls))

module _ (ws : Table ℕ) where
  pub weight-none : waiting_weight ws [] ≡ 0
  unfolding waiting_weight
  weight-none = refl

  pub weight-step : (p : Pending) (ps : List Pending)
      → waiting_weight ws (p ∷ ps) ≡ pending_weight ws p + waiting_weight ws ps
  unfolding waiting_weight
  weight-step p ps = refl

  pub weight-waits : (o : Option Pending) (ps : List Pending)
      → waiting_weight ws (waits o ps) ≡ wait_weight ws o + waiting_weight ws ps
  weight-waits (Some p) ps = weight-step p ps
  weight-waits None ps = omega arith

  -- what a turn takes is part of the weight
  pub cost-within : (p : Pending) → pending_cost p ≤ pending_weight ws p
  cost-within (wait.Cell name) = omega arith
  cost-within wait.Input = omega arith
  cost-within (wait.Unary op) = omega arith
  cost-within (wait.Pick a b) = omega arith
  cost-within (wait.Left rest) = of_links (links rest.now)
    where
      of_links : (ls : Links) → link_cost ls ≤ links_weight ws ls
      of_links t.no_links = omega arith
      of_links (t.link op part rest) = omega arith
  cost-within (wait.Right op left rest) = omega arith
  cost-within (wait.Argument name before rest) = omega arith
