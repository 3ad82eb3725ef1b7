-- Which cause there can be where an expression has no value: one of arithmetic, and Index where an input or an array
-- is read.
use Rattle.std.proofs.Common.{ℤ, pos, negsuc, Bool, true, false, cond, List, [], ◌∷◌, Option, Some, None, Result, Ok, Err}
use Rattle.std.specs.Prelude.{nat_lt, if◌then◌else◌, slice_get}
use Rattle.rev_num.specs.declared.value.Value.{Value}
use Rattle.rev_num.specs.declared.value.NumFault.{NumFault}
use Rattle.rev_num.specs.declared.value.NumFault.TheVariants as fault
use Rattle.rev_num.specs.declared.outcome.Cause.{Cause}
use Rattle.rev_num.specs.declared.outcome.Cause.TheVariants as cause
use Rattle.rev_num.specs.Arith.{sum_of, difference_of, product_of, quotient_of, remainder_of, negation_of}
use Rattle.rev_syntax.specs.Trees.{Expression, placed, ExpressionForm, Expressions, Links, int, bool, no_rev, var, cell, apply, input, inputs, pick, unary, chain, no_expressions, expression, no_links, link}
use Rattle.rev_syntax.specs.declared.tree.UnaryOp.{UnaryOp}
use Rattle.rev_syntax.specs.declared.tree.UnaryOp.TheVariants as u
use Rattle.rev_syntax.specs.declared.tree.BinaryOp.{BinaryOp}
use Rattle.rev_syntax.specs.declared.tree.BinaryOp.TheVariants as b
use Rattle.name_tables.specs.Names.{Name, same}
use Rattle.std.specs.Option.{option_or}
use Rattle.typed_programs.specs.Value.{Answer, and_then, number_of, truth_of, number, operated, short, linked, reversed, Shared, unknown, scalar, array, Env, read_cell, taken, read_input, read, Fun, Funs, called, value_by, expression_form_value, values_by, chained, FunDef, inside, fun_value, funs_of}

-- what holds of the cause, where there is one
abbrev pub OfErr : (Cause → Type 0) → {A : Type 0} → Result A Cause → Type 0
OfErr C (Ok x) = Unit {0}
OfErr C (Err c) = C c

-- ---- where inputs are read

abbrev mutual
  -- an expression in which an input is read only where I holds
  pub Inputs : Type 0 → Expression → Type 0
  Inputs I (placed at s) = FormInputs I s

  pub FormInputs : Type 0 → ExpressionForm → Type 0
  FormInputs I (int n) = Unit {0}
  FormInputs I (bool x) = Unit {0}
  FormInputs I no_rev = Unit {0}
  FormInputs I (var w) = Unit {0}
  FormInputs I (cell w index) = Inputs I index
  FormInputs I (apply w args) = AllInputs I args
  FormInputs I (input at index) = I × Inputs I index
  FormInputs I (inputs at) = Unit {0}
  FormInputs I (pick test x y) = Inputs I test × Inputs I x × Inputs I y
  FormInputs I (unary op part) = Inputs I part
  FormInputs I (chain first rest) = Inputs I first × LinksInputs I rest

  pub AllInputs : Type 0 → Expressions → Type 0
  AllInputs I no_expressions = Unit {0}
  AllInputs I (expression x xs) = Inputs I x × AllInputs I xs

  pub LinksInputs : Type 0 → Links → Type 0
  LinksInputs I no_links = Unit {0}
  LinksInputs I (link op x rest) = Inputs I x × LinksInputs I rest

-- the bodies of funs
abbrev pub BodiesInputs : Type 0 → List FunDef → Type 0
BodiesInputs I [] = Unit {0}
BodiesInputs I (d ∷ ds) = Inputs I d.body × BodiesInputs I ds

module _ (I : Type 0) (i : I) where
  mutual
    pub any_inputs : (x : Expression) → Inputs I x
    any_inputs (placed at s) = any_form s

    any_form : (s : ExpressionForm) → FormInputs I s
    any_form (int n) = tt
    any_form (bool x) = tt
    any_form no_rev = tt
    any_form (var w) = tt
    any_form (cell w index) = any_inputs index
    any_form (apply w args) = any_all args
    any_form (input at index) = (i, any_inputs index)
    any_form (inputs at) = tt
    any_form (pick test x y) = (any_inputs test, any_inputs x, any_inputs y)
    any_form (unary op part) = any_inputs part
    any_form (chain first rest) = (any_inputs first, any_links rest)

    pub any_all : (xs : Expressions) → AllInputs I xs
    any_all no_expressions = tt
    any_all (expression x xs) = (any_inputs x, any_all xs)

    any_links : (rest : Links) → LinksInputs I rest
    any_links no_links = tt
    any_links (link op x rest) = (any_inputs x, any_links rest)

  pub any_bodies : (ds : List FunDef) → BodiesInputs I ds
  any_bodies [] = tt
  any_bodies (d ∷ ds) = (any_inputs d.body, any_bodies ds)

-- ---- values

abbrev pub FunErr : (Cause → Type 0) → Option Fun → Type 0
FunErr C None = Unit {0}
FunErr C (Some f) = (args : List Value) → OfErr C (f args)

module _ (C : Cause → Type 0) where
  pub then_err : {A B : Type 0} (r : Result A Cause) (f : A → Result B Cause) → OfErr C r → ((x : A) → OfErr C (f x))
      → OfErr C (and_then r f)
  then_err (Ok x) f p go = go x
  then_err (Err c) f p go = p

  pub cond_err : {A : Type 0} (t : Bool) (x y : Result A Cause) → OfErr C x → OfErr C y → OfErr C (cond t x y)
  cond_err true x y p q = p
  cond_err false x y p q = q

  read_err : (o : Option Value) (found : Shared) → OfErr C (read o found)
  read_err (Some x) found = tt
  read_err None unknown = tt
  read_err None (scalar x) = tt
  read_err None (array n f) = tt

  called_err : (o : Option Fun) (args : List Value) → FunErr C o → OfErr C (called o args)
  called_err None args h = tt
  called_err (Some f) args h = h args

  earlier_err : (x y : Option Fun) → FunErr C x → FunErr C y → FunErr C (option_or x y)
  earlier_err (Some f) y p q = p
  earlier_err None y p q = q

  cond_fun : (t : Bool) (f : Fun) → FunErr C (Some f) → FunErr C (cond t (Some f) None)
  cond_fun true f h = h
  cond_fun false f h = tt

  pub cell_err : C cause.Index → (found : Shared) (z : ℤ) → OfErr C (read_cell found z)
  cell_err c unknown z = tt
  cell_err c (scalar x) z = tt
  cell_err c (array n f) (pos z) = cond_err (nat_lt z n) (Ok (f z)) (Err cause.Index) tt c
  cell_err c (array n f) (negsuc z) = c

  input_err : C cause.Index → (zs : List ℤ) (z : ℤ) → OfErr C (read_input zs z)
  input_err c zs (negsuc z) = c
  input_err c zs (pos z) = by (slice_get zs z)
    where
      by : (o : Option ℤ) → OfErr C (taken o)
      by None = c
      by (Some n) = tt

-- where the causes of arithmetic are such, and so is Index where inputs are read
module _ (C : Cause → Type 0) (over : C cause.Overflow) (nought : C cause.ZeroDivisor) (I : Type 0)
    (index_is : I → C cause.Index) where
  number_err : (r : Result ℤ NumFault) → OfErr C (number r)
  number_err (Ok z) = tt
  number_err (Err fault.Overflow) = over
  number_err (Err fault.ZeroDivisor) = nought

  operated_err : (o : BinaryOp) (x y : Value) → OfErr C (operated o x y)
  operated_err b.Add x y = number_err (sum_of (number_of x) (number_of y))
  operated_err b.Sub x y = number_err (difference_of (number_of x) (number_of y))
  operated_err b.Mul x y = number_err (product_of (number_of x) (number_of y))
  operated_err b.Div x y = number_err (quotient_of (number_of x) (number_of y))
  operated_err b.Rem x y = number_err (remainder_of (number_of x) (number_of y))
  operated_err b.Eq x y = tt
  operated_err b.Ne x y = tt
  operated_err b.Lt x y = tt
  operated_err b.Le x y = tt
  operated_err b.Gt x y = tt
  operated_err b.Ge x y = tt
  operated_err b.And x y = tt
  operated_err b.Or x y = tt

  linked_err : (o : BinaryOp) (x : Value) (right : Answer) (z : Option Value) → OfErr C right
      → OfErr C (linked o x right z)
  linked_err o x right (Some z) h = tt
  linked_err o x right None h = then_err C right (operated o x) h (operated_err o x)

  reversed_err : (o : UnaryOp) (x : Value) → OfErr C (reversed o x)
  reversed_err u.Neg x = number_err (negation_of (number_of x))
  reversed_err u.Not x = tt

  module _ (fs : Funs) (e : Env) (funs : (name : Name) → FunErr C (fs name))
      (cells : (name : Name) (z : ℤ) → OfErr C (read_cell (e.shared name) z)) where
    mutual
      pub value_err : (x : Expression) → Inputs I x → OfErr C (value_by fs e x)
      value_err (placed at s) h = form_err s h

      form_err : (s : ExpressionForm) → FormInputs I s → OfErr C (expression_form_value fs e s)
      form_err (int n) h = tt
      form_err (bool x) h = tt
      form_err no_rev h = tt
      form_err (var w) h = read_err C (e.local w.text) (e.shared w.text)
      form_err (cell w index) h =
          then_err C (value_by fs e index) (λ i. read_cell (e.shared w.text) (number_of i)) (value_err index h)
          (λ i. cells w.text (number_of i))
      form_err (apply w args) h =
          then_err C (values_by fs e args) (called (fs w.text)) (values_err args h)
          (λ xs. called_err C (fs w.text) xs (funs w.text))
      form_err (input at index) h =
          then_err C (value_by fs e index) (λ i. read_input e.inputs (number_of i)) (value_err index h.1)
          (λ i. input_err C (index_is h.0) e.inputs (number_of i))
      form_err (inputs at) h = tt
      form_err (pick test x y) h =
          let p = value_err x h.1 in
          let q = value_err y h.2 in
          then_err C (value_by fs e test) (λ c. if truth_of c then value_by fs e x else value_by fs e y)
          (value_err test h.0) (λ c. cond_err C (truth_of c) (value_by fs e x) (value_by fs e y) p q)
      form_err (unary op part) h = then_err C (value_by fs e part) (reversed op) (value_err part h) (reversed_err op)
      form_err (chain first rest) h =
          then_err C (value_by fs e first) (λ x. chained fs e x rest) (value_err first h.0) (links_err rest h.1)

      pub values_err : (xs : Expressions) → AllInputs I xs → OfErr C (values_by fs e xs)
      values_err no_expressions h = tt
      values_err (expression x xs) h =
          let later = values_err xs h.1 in
          then_err C (value_by fs e x) (λ y. and_then (values_by fs e xs) (λ ys. Ok (y ∷ ys))) (value_err x h.0)
          (λ y. then_err C (values_by fs e xs) (λ ys. Ok (y ∷ ys)) later (λ ys. tt))

      links_err : (rest : Links) → LinksInputs I rest → (x : Value) → OfErr C (chained fs e x rest)
      links_err no_links h x = tt
      links_err (link op part rest) h x =
          then_err C (linked op x (value_by fs e part) (short op x)) (λ z. chained fs e z rest)
          (linked_err op x (value_by fs e part) (short op x) (value_err part h.0)) (links_err rest h.1)

  pub funs_err : (ds : List FunDef) → BodiesInputs I ds → (name : Name) → FunErr C (funs_of ds name)
  funs_err [] h name = tt
  funs_err (d ∷ before) h name =
      let those = funs_err before h.1 in
      earlier_err C (funs_of before name) (if same name d.name then Some (fun_value (funs_of before) d) else None)
      (those name)
      (cond_fun C (same name d.name) (fun_value (funs_of before) d)
      (λ args. value_err (funs_of before) (inside d.params args) those (λ other z. tt) d.body h.0))
