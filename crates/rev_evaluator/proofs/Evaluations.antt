-- The value of an expression, form by form.
use Rattle.std.proofs.Common.{◌≡◌, ◌∙◌, ℕ, ℤ, pos, Bool, List, [], ◌∷◌, Option, Some, None, Result, Ok, Err, length, map, take, refl, sym, ap}
use Rattle.std.proofs.lemmas.List.{length-map}
use Rattle.rev_syntax.specs.View.{declaration}
use Rattle.rev_syntax.specs.declared.tree.Decl.{Decl}
use Rattle.typed_programs.specs.Definitions.{funs_after}
use Rattle.rev_num.specs.declared.value.Value.{Value}
use Rattle.rev_num.specs.declared.value.Value.TheVariants as v
use Rattle.rev_syntax.specs.Trees as t
use Rattle.rev_syntax.specs.Trees.{PlacedName, Expression, ExpressionForm, Expressions, Links, Declaration}
use Rattle.rev_syntax.specs.declared.tree.BinaryOp.{BinaryOp}
use Rattle.std.specs.Result.{IsErrAnd}
use Rattle.rev_evaluator.specs.declared.seen.Seen.{Seen}
use Rattle.rev_evaluator.specs.Seen.{answer}
use Rattle.name_tables.specs.Names.{Name}
use Rattle.typed_programs.specs.Value.{Answer, Env, and_then, bind, bind_all, nothing, read, flag, linked, short, values_by, value_by, value, funs_of}
use Rattle.typed_programs.specs.Evaluation.{Values, funs_before, value_within, expression_form_within, chained_within, link_within, value_of_body, applied_within, given_within}
use Rattle.rev_num.specs.declared.outcome.Cause.{Cause}

module _ (es : List Declaration) (n : ℕ) (env : Env) where
  -- ---- forms

  -- each says what the form's value is, where its parts have these answers

  pub at_placed : (e : Expression) (at : ℕ) (s : ExpressionForm) (r : Answer) → e ≡ t.placed at s
      → r ≡ expression_form_within es n env s → r ≡ value_within es n env e
  unfolding expression_form_within value_within
  at_placed e at s r is h = h ∙ ap (value_within es n env) (sym is)

  pub at_int : (s : ExpressionForm) (z : ℤ) → s ≡ t.int z → Ok (v.Int z) ≡ expression_form_within es n env s
  unfolding expression_form_within
  at_int s z is = ap (expression_form_within es n env) (sym is)

  pub at_bool : (s : ExpressionForm) (b : Bool) (r : Answer) → s ≡ t.bool b → r ≡ flag b
      → r ≡ expression_form_within es n env s
  unfolding expression_form_within
  at_bool s b r is h = h ∙ ap (expression_form_within es n env) (sym is)

  pub at_no_rev : (s : ExpressionForm) → s ≡ t.no_rev → Ok (v.Rev None) ≡ expression_form_within es n env s
  unfolding expression_form_within
  at_no_rev s is = ap (expression_form_within es n env) (sym is)

  pub at_var : (s : ExpressionForm) (w : PlacedName) (r : Answer) → s ≡ t.var w
      → r ≡ read (env.local w.text) (env.shared w.text) → r ≡ expression_form_within es n env s
  unfolding expression_form_within
  at_var s w r is h = h ∙ ap (expression_form_within es n env) (sym is)

  pub at_inputs : (s : ExpressionForm) (at : ℕ) (r : Answer) → s ≡ t.inputs at
      → r ≡ Ok (v.Int (pos (length env.inputs))) → r ≡ expression_form_within es n env s
  unfolding expression_form_within
  at_inputs s at r is h = h ∙ ap (expression_form_within es n env) (sym is)

  -- ---- links

  -- a left operand that decides
  pub link_decided : (op : BinaryOp) (part : Expression) (x z : Value) → Some z ≡ short op x
      → Ok z ≡ link_within es n env x (op, part)
  unfolding link_within
  link_decided op part x z h = ap (linked op x (value_within es n env part)) h

  -- a chain with no more links, and with one more

  pub chained_none : (x : Value) → Ok x ≡ chained_within es n env x t.no_links
  unfolding chained_within
  chained_none x = refl

  pub chained_step : (x : Value) (op : BinaryOp) (part : Expression) (rest : Links) (a : Answer)
      → a ≡ link_within es n env x (op, part)
      → and_then a (λ z. chained_within es n env z rest) ≡ chained_within es n env x (t.link op part rest)
  unfolding chained_within link_within value_within
  chained_step x op part rest a h = ap (λ y. and_then y (λ z. chained_within es n env z rest)) h

-- ---- arguments

pub prepended : (r : Answer) (rest : Result (List Value) Cause) (f : List Value → Answer)
    → and_then r (λ y. and_then rest (λ ys. f (y ∷ ys)))
    ≡ and_then (and_then r (λ y. and_then rest (λ ys. Ok (y ∷ ys)))) f
prepended (Ok y) (Ok ys) f = refl
prepended (Ok y) (Err c) f = refl
prepended (Err c) rest f = refl

module _ (es : List Declaration) (n : ℕ) (env : Env) where
  pub applied-none : (f : Option ℕ) (params : List Name) (bound : Values)
      → value_of_body es f bound ≡ applied_within es n env t.no_expressions f params bound
  unfolding applied_within
  applied-none f [] bound = refl
  applied-none f (p ∷ ps) bound = refl

module _ (es : List Declaration) (n : ℕ) (env : Env) (x : Expression) (args : Expressions) (f : Option ℕ) where
  -- an argument that faults
  pub applied-fault : (c : Cause) (params : List Name) (bound : Values) → Err c ≡ value_within es n env x
      → Err c ≡ applied_within es n env (t.expression x args) f params bound
  unfolding applied_within value_within
  applied-fault c params bound h =
      ap (λ r. and_then r (λ z.
      and_then (values_by (funs_before es n) env args) (λ zs. value_of_body es f (bind_all bound params (z ∷ zs)))))
      h
      ∙ prepended (value_by (funs_before es n) env x) (values_by (funs_before es n) env args)
      (λ zs. value_of_body es f (bind_all bound params zs))

module _ (es : List Declaration) (n : ℕ) (env : Env) (rest : Expressions) (f : Option ℕ) where
  -- a value that is bound to a parameter, and one that has none
  pub given-bound : (x : Value) (p : Name) (params : List Name) (earlier : Values)
      → applied_within es n env rest f params (bind earlier p x) ≡ given_within es n env x rest f (p ∷ params) earlier
  unfolding applied_within given_within
  given-bound x p params earlier = refl

  pub given-unbound : (x : Value) (earlier : Values)
      → applied_within es n env rest f [] earlier ≡ given_within es n env x rest f [] earlier
  unfolding applied_within given_within
  given-unbound x earlier = refl

  -- an argument that has a value
  pub applied-given : (arg : Expression) (x : Value) (params : List Name) (earlier : Values)
      → Ok x ≡ value_within es n env arg
      → given_within es n env x rest f params earlier ≡ applied_within es n env (t.expression arg rest) f params earlier
  unfolding applied_within given_within value_within
  applied-given arg x params earlier h =
      ap (λ r. and_then r (λ z.
      and_then (values_by (funs_before es n) env rest) (λ zs. value_of_body es f (bind_all earlier params (z ∷ zs)))))
      h
      ∙ prepended (value_by (funs_before es n) env arg) (values_by (funs_before es n) env rest)
      (λ zs. value_of_body es f (bind_all earlier params zs))

-- a fault that is handed on
pub on_fault : (r : Result Seen Cause) (c : Cause) (a : Answer) → IsErrAnd r (λ f. f ≡ c) → Err c ≡ a → answer r ≡ a
on_fault (Ok x) c a h k = absurd h
on_fault (Err f) c a h k = ap (λ g. Err g) h ∙ k

-- as many elements as there are
pub take_whole : {A : Type 0} (xs : List A) → take (length xs) xs ≡ xs
take_whole [] = refl
take_whole (x ∷ xs) = ap (λ r. x ∷ r) (take_whole xs)

-- where all declarations may be used, all funs of the program may be applied
pub outside_all : (es : List Declaration) (ds : List Decl) (n : ℕ) (env : Env) (e : Expression)
    → es ≡ map declaration ds → n ≡ length ds → value_within es n env e ≡ value (funs_after [] es) env e
unfolding value_within funs_before
outside_all es ds n env e h k =
    ap (λ l. value_by (funs_of (funs_after [] l)) env e)
    (ap (λ m. take m es) (k ∙ sym (length-map ds declaration) ∙ ap length (sym h)) ∙ take_whole es)

-- three values that are bound in turn
pub bound_three : (l0 l1 l2 l3 : Values) (m j r : Name) (x y z a b c : Value) → l0 ≡ nothing → l1 ≡ bind l0 m x
    → l2 ≡ bind l1 j y → l3 ≡ bind l2 r z → x ≡ a → y ≡ b → z ≡ c
    → l3 ≡ bind (bind (bind nothing m a) j b) r c
bound_three l0 l1 l2 l3 m j r x y z a b c h0 h1 h2 h3 p q s =
    h3 ∙ ap (λ l. bind l r z) (h2 ∙ ap (λ l. bind l j y) (h1 ∙ ap (λ l. bind l m x) h0))
    ∙ (λ i. bind (bind (bind nothing m (p i)) j (q i)) r (s i))
