-- Where a value can come from: what holds of all that an expression reads, and of each value that is no handle,
-- holds of the expression's value.
use Rattle.std.proofs.Common.{ℕ, ℤ, pos, negsuc, Bool, true, false, cond, List, [], ◌∷◌, length, Option, Some, None, Result, Ok, Err}
use Rattle.std.specs.Prelude.{nat_lt, if◌then◌else◌, not, slice_get, int_lt, int_le}
use Rattle.rev_num.specs.declared.value.Value.{Value}
use Rattle.rev_num.specs.declared.value.Value.TheVariants as v
use Rattle.rev_num.specs.declared.value.NumFault.{NumFault}
use Rattle.rev_num.specs.declared.value.NumFault.TheVariants as fault
use Rattle.rev_num.specs.declared.outcome.Cause.{Cause}
use Rattle.rev_num.specs.declared.outcome.Cause.TheVariants as cause
use Rattle.rev_num.specs.Arith.{sum_of, difference_of, product_of, quotient_of, remainder_of, negation_of}
use Rattle.rev_syntax.specs.Trees.{Expression, placed, ExpressionForm, Expressions, Links, int, bool, no_rev, var, cell, apply, input, inputs, pick, unary, chain, no_expressions, expression, no_links, link}
use Rattle.rev_syntax.specs.declared.tree.UnaryOp.{UnaryOp}
use Rattle.rev_syntax.specs.declared.tree.UnaryOp.TheVariants as u
use Rattle.rev_syntax.specs.declared.tree.BinaryOp.{BinaryOp}
use Rattle.rev_syntax.specs.declared.tree.BinaryOp.TheVariants as b
use Rattle.name_tables.specs.Names.{Name, same}
use Rattle.std.specs.Option.{option_or}
use Rattle.typed_programs.specs.Value.{Answer, and_then, number_of, truth_of, number, operated, short, linked, reversed, Shared, unknown, scalar, array, Env, read_cell, taken, read_input, read, Fun, Funs, called, value_by, expression_form_value, values_by, chained, FunDef, bind, bind_all, nothing, inside, fun_value, funs_of, same_value}

-- what holds of the result, where there is one
abbrev pub OfOk : {A E : Type 0} → (A → Type 0) → Result A E → Type 0
OfOk P (Ok x) = P x
OfOk P (Err c) = Unit {0}

pub then_ok : {A B : Type 0} (P : A → Type 0) (Q : B → Type 0) (r : Result A Cause) (f : A → Result B Cause) → OfOk P r
    → ((x : A) → P x → OfOk Q (f x)) → OfOk Q (and_then r f)
then_ok P Q (Ok x) f p go = go x p
then_ok P Q (Err c) f p go = tt

pub record OfOthers (K : Value → Type 0) : Type 0 where
  pub int : (z : ℤ) → K (v.Int z)
  pub bool : (x : Bool) → K (v.Bool x)
  pub none : K (v.Rev None)

module _ (K : Value → Type 0) (others : OfOthers K) where
  abbrev pub OfEach : List Value → Type 0
  OfEach [] = Unit {0}
  OfEach (x ∷ xs) = K x × OfEach xs

  abbrev pub OfShared : Shared → Type 0
  OfShared unknown = Unit {0}
  OfShared (scalar x) = K x
  OfShared (array n f) = (i : ℕ) → K (f i)

  abbrev pub OfLocal : Option Value → Type 0
  OfLocal None = Unit {0}
  OfLocal (Some x) = K x

  pub record OfEnv (e : Env) : Type 0 where
    pub local : (name : Name) → OfLocal (e.local name)
    pub shared : (name : Name) → OfShared (e.shared name)

  abbrev pub OfFun : Option Fun → Type 0
  OfFun None = Unit {0}
  OfFun (Some f) = (args : List Value) → OfEach args → OfOk K (f args)

  abbrev pub OfFuns : Funs → Type 0
  OfFuns fs = (name : Name) → OfFun (fs name)

  pub number_ok : (r : Result ℤ NumFault) → OfOk K (number r)
  number_ok (Ok z) = others.int z
  number_ok (Err fault.Overflow) = tt
  number_ok (Err fault.ZeroDivisor) = tt

  operated_ok : (o : BinaryOp) (x y : Value) → K y → OfOk K (operated o x y)
  operated_ok b.Add x y k = number_ok (sum_of (number_of x) (number_of y))
  operated_ok b.Sub x y k = number_ok (difference_of (number_of x) (number_of y))
  operated_ok b.Mul x y k = number_ok (product_of (number_of x) (number_of y))
  operated_ok b.Div x y k = number_ok (quotient_of (number_of x) (number_of y))
  operated_ok b.Rem x y k = number_ok (remainder_of (number_of x) (number_of y))
  operated_ok b.Eq x y k = others.bool (same_value x y)
  operated_ok b.Ne x y k = others.bool (not (same_value x y))
  operated_ok b.Lt x y k = others.bool (int_lt (number_of x) (number_of y))
  operated_ok b.Le x y k = others.bool (int_le (number_of x) (number_of y))
  operated_ok b.Gt x y k = others.bool (int_lt (number_of y) (number_of x))
  operated_ok b.Ge x y k = others.bool (int_le (number_of y) (number_of x))
  operated_ok b.And x y k = k
  operated_ok b.Or x y k = k

  cond_local : (t : Bool) (x y : Option Value) → OfLocal x → OfLocal y → OfLocal (cond t x y)
  cond_local true x y p q = p
  cond_local false x y p q = q

  short_ok : (o : BinaryOp) (x : Value) → OfLocal (short o x)
  short_ok b.Add x = tt
  short_ok b.Sub x = tt
  short_ok b.Mul x = tt
  short_ok b.Div x = tt
  short_ok b.Rem x = tt
  short_ok b.Eq x = tt
  short_ok b.Ne x = tt
  short_ok b.Lt x = tt
  short_ok b.Le x = tt
  short_ok b.Gt x = tt
  short_ok b.Ge x = tt
  short_ok b.And x = cond_local (truth_of x) None (Some (v.Bool false)) tt (others.bool false)
  short_ok b.Or x = cond_local (truth_of x) (Some (v.Bool true)) None (others.bool true) tt

  linked_ok : (o : BinaryOp) (x : Value) (right : Answer) (z : Option Value) → OfOk K right → OfLocal z
      → OfOk K (linked o x right z)
  linked_ok o x right (Some z) k kz = kz
  linked_ok o x right None k kz = then_ok K K right (operated o x) k (λ y. operated_ok o x y)

  pub reversed_ok : (o : UnaryOp) (x : Value) → OfOk K (reversed o x)
  reversed_ok u.Neg x = number_ok (negation_of (number_of x))
  reversed_ok u.Not x = others.bool (not (truth_of x))

  cond_ok : (t : Bool) (x y : Answer) → OfOk K x → OfOk K y → OfOk K (cond t x y)
  cond_ok true x y p q = p
  cond_ok false x y p q = q

  pub read_cell_ok : (found : Shared) (i : ℤ) → OfShared found → OfOk K (read_cell found i)
  read_cell_ok unknown i k = others.int (pos 0)
  read_cell_ok (scalar x) i k = others.int (pos 0)
  read_cell_ok (array n f) (pos i) k = cond_ok (nat_lt i n) (Ok (f i)) (Err cause.Index) (k i) tt
  read_cell_ok (array n f) (negsuc i) k = tt

  taken_ok : (o : Option ℤ) → OfOk K (taken o)
  taken_ok None = tt
  taken_ok (Some z) = others.int z

  pub read_input_ok : (zs : List ℤ) (i : ℤ) → OfOk K (read_input zs i)
  read_input_ok zs (pos i) = taken_ok (slice_get zs i)
  read_input_ok zs (negsuc i) = tt

  pub read_ok : (x : Option Value) (found : Shared) → OfLocal x → OfShared found → OfOk K (read x found)
  read_ok (Some x) found k kf = k
  read_ok None unknown k kf = others.int (pos 0)
  read_ok None (scalar x) k kf = kf
  read_ok None (array n f) k kf = others.int (pos 0)

  pub called_ok : (o : Option Fun) (args : List Value) → OfFun o → OfEach args → OfOk K (called o args)
  called_ok None args k ks = others.int (pos 0)
  called_ok (Some f) args k ks = k args ks

  abbrev AnyValue : Value → Type 0
  AnyValue x = Unit {0}

  any_ok : (r : Answer) → OfOk AnyValue r
  any_ok (Ok x) = tt
  any_ok (Err c) = tt

  module _ (fs : Funs) (e : Env) (of_funs : OfFuns fs) (of_env : OfEnv e) where
    mutual
      pub value_ok : (t : Expression) → OfOk K (value_by fs e t)
      value_ok (placed at s) = expression_form_ok s

      expression_form_ok : (s : ExpressionForm) → OfOk K (expression_form_value fs e s)
      expression_form_ok (int n) = others.int n
      expression_form_ok (bool x) = others.bool x
      expression_form_ok no_rev = others.none
      expression_form_ok (var w) =
          read_ok (e.local w.text) (e.shared w.text) (of_env.local w.text) (of_env.shared w.text)
      expression_form_ok (cell w index) =
          then_ok AnyValue K (value_by fs e index) (λ i. read_cell (e.shared w.text) (number_of i))
          (any_ok (value_by fs e index)) (λ i any. read_cell_ok (e.shared w.text) (number_of i) (of_env.shared w.text))
      expression_form_ok (apply w args) =
          then_ok OfEach K (values_by fs e args) (called (fs w.text)) (values_ok args)
          (λ xs k. called_ok (fs w.text) xs (of_funs w.text) k)
      expression_form_ok (input at index) =
          then_ok AnyValue K (value_by fs e index) (λ i. read_input e.inputs (number_of i))
          (any_ok (value_by fs e index)) (λ i any. read_input_ok e.inputs (number_of i))
      expression_form_ok (inputs at) = others.int (pos (length e.inputs))
      expression_form_ok (pick test x y) =
          then_ok AnyValue K (value_by fs e test) (λ c. if truth_of c then value_by fs e x else value_by fs e y)
          (any_ok (value_by fs e test))
          (let p = value_ok x in
          let q = value_ok y in
          λ c any. cond_ok (truth_of c) (value_by fs e x) (value_by fs e y) p q)
      expression_form_ok (unary o part) =
          then_ok K K (value_by fs e part) (reversed o) (value_ok part) (λ x k. reversed_ok o x)
      expression_form_ok (chain first rest) =
          then_ok K K (value_by fs e first) (λ x. chained fs e x rest) (value_ok first) (chained_ok rest)

      pub values_ok : (ts : Expressions) → OfOk OfEach (values_by fs e ts)
      values_ok no_expressions = tt
      values_ok (expression x xs) =
          then_ok K OfEach (value_by fs e x) (λ y. and_then (values_by fs e xs) (λ ys. Ok (y ∷ ys))) (value_ok x)
          (let later = values_ok xs in
          λ y k. then_ok OfEach OfEach (values_by fs e xs) (λ ys. Ok (y ∷ ys)) later (λ ys ks. (k, ks)))

      chained_ok : (ls : Links) (x : Value) → K x → OfOk K (chained fs e x ls)
      chained_ok no_links x k = k
      chained_ok (link o part rest) x k =
          then_ok K K (linked o x (value_by fs e part) (short o x)) (λ z. chained fs e z rest)
          (linked_ok o x (value_by fs e part) (short o x) (value_ok part) (short_ok o x)) (chained_ok rest)

  bind_all_ok : (params : List Name) (args : List Value) (local : Name → Option Value)
      → ((name : Name) → OfLocal (local name)) → OfEach args → (name : Name) → OfLocal (bind_all local params args name)
  bind_all_ok [] args local k ks name = k name
  bind_all_ok (p ∷ ps) [] local k ks name = k name
  bind_all_ok (p ∷ ps) (x ∷ xs) local k ks name =
      bind_all_ok ps xs (bind local p x) (λ other. cond_local (same other p) (Some x) (local other) ks.0 (k other)) ks.1
      name

  inside_ok : (params : List Name) (args : List Value) → OfEach args → OfEnv (inside params args)
  inside_ok params args ks = record { local = bind_all_ok params args nothing (λ name. tt) ks; shared = λ name. tt }

  earlier_ok : (x y : Option Fun) → OfFun x → OfFun y → OfFun (option_or x y)
  earlier_ok (Some f) y k ky = k
  earlier_ok None y k ky = ky

  cond_fun : (t : Bool) (f : Fun) → OfFun (Some f) → OfFun (cond t (Some f) None)
  cond_fun true f k = k
  cond_fun false f k = tt

  pub funs_ok : (ds : List FunDef) → OfFuns (funs_of ds)
  funs_ok [] name = tt
  funs_ok (d ∷ before) name =
      let those : OfFuns (funs_of before) = funs_ok before in
      earlier_ok (funs_of before name) (if same name d.name then Some (fun_value (funs_of before) d) else None)
      (those name)
      (cond_fun (same name d.name) (fun_value (funs_of before) d)
      (λ args ks. value_ok (funs_of before) (inside d.params args) those (inside_ok d.params args ks) d.body))
