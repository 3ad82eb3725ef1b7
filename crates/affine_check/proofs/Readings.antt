-- Where a handle that an expression gives comes from: it is the value of the rev local that the expression names.
use Rattle.std.proofs.Common.{◌≡◌, ◌≢◌, ◌∙◌, ℕ, suc, ◌+◌, Bool, true, false, cond, List, [], ◌∷◌, length, Option, Some, None, Ok, Err, refl, sym, ap, arith, ◌≤◌}
use Rattle.std.specs.Prelude.{if◌then◌else◌}
use Rattle.rev_num.specs.Path.{Path}
use Rattle.rev_num.specs.declared.value.Value.{Value}
use Rattle.rev_num.specs.declared.value.Value.TheVariants as v
use Rattle.rev_num.specs.declared.value.ValueKind.{ValueKind}
use Rattle.rev_num.specs.declared.value.ValueKind.TheVariants as k
use Rattle.rev_num.specs.Arith.{sum_of, difference_of, product_of, quotient_of, remainder_of}
use Rattle.rev_syntax.specs.Trees.{PlacedName, Parameter, Expression, placed, ExpressionForm, Expressions, Links, int, bool, no_rev, var, cell, apply, input, inputs, pick, unary, chain, no_expressions, expression, no_links, link}
use Rattle.rev_syntax.specs.declared.tree.UnaryOp.{UnaryOp}
use Rattle.rev_syntax.specs.declared.tree.BinaryOp.{BinaryOp}
use Rattle.rev_syntax.specs.declared.tree.BinaryOp.TheVariants as b
use Rattle.name_tables.specs.Names.{Name, same}
use Rattle.name_tables.specs.Table.{Table, find}
use Rattle.typed_programs.specs.FunRules.{count}
use Rattle.typed_programs.specs.Value.{Answer, and_then, number_of, truth_of, operated, short, linked, reversed, Shared, Env, read_cell, read_input, read, Funs, called, value_by, expression_form_value, values_by, chained}
use Rattle.typed_programs.specs.declared.names.Holder.{Holder}
use Rattle.typed_programs.specs.Kinds.{Callee, Names, Locals, links_kind}
use Rattle.typed_programs.specs.Typing.{ScalarHas, TakesRightSide, HasKind, ExpressionFormHas, ArgsHave, LinksHave}
use Rattle.revision_calculus.specs.HandlesHeld.{IsHandle}
use Rattle.revision_calculus.proofs.Events.{Any, any_ok}
use Rattle.revision_calculus.proofs.Values.{OfOk, then_ok, OfOthers, OfEach, OfShared, OfFuns, number_ok, reversed_ok, read_cell_ok, read_input_ok, read_ok, called_ok}
use Rattle.affine_check.specs.Live.{or, names_it, among, IsRev, Free, ExpressionFormFree, PickFree, PicksFree, NameOnce, ExpressionFormOnce, is_name, UseOnce, UsesOnce}
use Rattle.affine_check.specs.Owned.{hit}
use Rattle.affine_check.specs.Owned as n
use Rattle.affine_check.proofs.Counts.{hits, count_sub, count_use, or_right}
use Rattle.revision_calculus.proofs.ValueKinds.{args_shift, either}

-- what is no handle
abbrev pub Plain : Value → Type 0
Plain x = (q : Path) → IsHandle x q → ⊥

pub plain_others : OfOthers Plain
plain_others = record { int = λ z q e. absurd cc; bool = λ x q e. absurd cc; none = λ q e. absurd cc }

-- the value is a handle only where this kind is rev
abbrev pub OfRev : ValueKind → Value → Type 0
OfRev t x = (q : Path) → IsHandle x q → t ≡ k.Rev

-- no parameter is of kind rev
abbrev pub PlainParams : List Parameter → Type 0
PlainParams [] = Unit {0}
PlainParams (p ∷ ps) = (p.kind ≢ k.Rev) × PlainParams ps

-- a handle goes to a parameter of its kind
abbrev pub Fit : List Parameter → List Value → Type 0
Fit [] xs = Unit {0}
Fit (p ∷ ps) [] = Unit {0}
Fit (p ∷ ps) (x ∷ xs) = OfRev p.kind x × Fit ps xs

-- each name reads as no handle, unless it is that of a rev local
pub record EnvRev (c : Names) (scope : Locals) (fs : Funs) (e : Env) : Type 0 where
  pub local : (name : Name) (t : ValueKind) (q : Path) → find name scope ≡ Some (Some t)
      → e.local name ≡ Some (v.Rev (Some q)) → t ≡ k.Rev
  pub apart : (name : Name) (h : Holder) → c.shared name ≡ Some h → e.local name ≡ None
  pub shared : (name : Name) → OfShared Plain plain_others (e.shared name)
  pub funs : OfFuns Plain plain_others fs
  pub params : (name : Name) (f : Callee) → c.funs name ≡ Some f → PlainParams f.params

fit_plain : (ps : List Parameter) (xs : List Value) → PlainParams ps → length xs ≡ length ps → Fit ps xs
    → OfEach Plain plain_others xs
fit_plain [] [] none same fit = tt
fit_plain [] (x ∷ xs) none same fit = absurd (omega arith)
fit_plain (p ∷ ps) [] none same fit = tt
fit_plain (p ∷ ps) (x ∷ xs) none same fit = (λ q e. none.0 (fit.0 q e), fit_plain ps xs none.1 (omega arith) fit.1)

plain_read : (o : Option Value) (found : Shared) → o ≡ None → OfShared Plain plain_others found
    → OfOk Plain (read o found)
plain_read (Some x) found e sh = cc
plain_read None found e sh = read_ok Plain plain_others None found tt sh

rev_of_plain : (t : ValueKind) (a : Answer) → OfOk Plain a → OfOk (OfRev t) a
rev_of_plain t (Ok x) h = λ q e. absurd (h q e)
rev_of_plain t (Err c) h = tt

-- the values of arguments that are as many as the parameters
abbrev pub FitAll : List Parameter → List Value → Type 0
FitAll ps xs = Fit ps xs × (length xs ≡ length ps)

module _ (c : Names) (scope : Locals) (fs : Funs) (e : Env) (env : EnvRev c scope fs e) where
  var_rev : (name : Name) (t : ValueKind) → ScalarHas (find name scope) (c.shared name) t
      → OfOk (OfRev t) (read (e.local name) (e.shared name))
  var_rev name t has = by (find name scope) refl (c.shared name) refl has
    where
      own : (o : Option Value) → e.local name ≡ o → find name scope ≡ Some (Some t)
          → OfOk (OfRev t) (read o (e.shared name))
      own (Some x) p f = λ q i. env.local name t q f (p ∙ ap Some i)
      own None p f = rev_of_plain t (read None (e.shared name)) (plain_read None (e.shared name) refl (env.shared name))

      by : (o : Option (Option ValueKind)) → find name scope ≡ o → (h : Option Holder) → c.shared name ≡ h
          → ScalarHas o h t → OfOk (OfRev t) (read (e.local name) (e.shared name))
      by (Some found) p h q has = own (e.local name) refl (p ∙ ap Some has)
      by None p (Some h) q has =
          rev_of_plain t (read (e.local name) (e.shared name))
          (plain_read (e.local name) (e.shared name) (env.apart name h q) (env.shared name))
      by None p None q has = absurd has

  -- the right operand of a logical operator is no handle, and the other operators give none
  link_plain : (op : BinaryOp) (left t : ValueKind) (x : Value) (right : Answer) → TakesRightSide op left t
      → OfOk (OfRev t) right → OfOk Plain (linked op x right (short op x))
  link_plain b.Add left t x right takes rev =
      then_ok (OfRev t) Plain right (operated b.Add x) rev
      (λ y r. number_ok Plain plain_others (sum_of (number_of x) (number_of y)))
  link_plain b.Sub left t x right takes rev =
      then_ok (OfRev t) Plain right (operated b.Sub x) rev
      (λ y r. number_ok Plain plain_others (difference_of (number_of x) (number_of y)))
  link_plain b.Mul left t x right takes rev =
      then_ok (OfRev t) Plain right (operated b.Mul x) rev
      (λ y r. number_ok Plain plain_others (product_of (number_of x) (number_of y)))
  link_plain b.Div left t x right takes rev =
      then_ok (OfRev t) Plain right (operated b.Div x) rev
      (λ y r. number_ok Plain plain_others (quotient_of (number_of x) (number_of y)))
  link_plain b.Rem left t x right takes rev =
      then_ok (OfRev t) Plain right (operated b.Rem x) rev
      (λ y r. number_ok Plain plain_others (remainder_of (number_of x) (number_of y)))
  link_plain b.Eq left t x right takes rev = then_ok (OfRev t) Plain right (operated b.Eq x) rev (λ y r q i. absurd cc)
  link_plain b.Ne left t x right takes rev = then_ok (OfRev t) Plain right (operated b.Ne x) rev (λ y r q i. absurd cc)
  link_plain b.Lt left t x right takes rev = then_ok (OfRev t) Plain right (operated b.Lt x) rev (λ y r q i. absurd cc)
  link_plain b.Le left t x right takes rev = then_ok (OfRev t) Plain right (operated b.Le x) rev (λ y r q i. absurd cc)
  link_plain b.Gt left t x right takes rev = then_ok (OfRev t) Plain right (operated b.Gt x) rev (λ y r q i. absurd cc)
  link_plain b.Ge left t x right takes rev = then_ok (OfRev t) Plain right (operated b.Ge x) rev (λ y r q i. absurd cc)
  link_plain b.And left t x right takes rev = by (truth_of x)
    where
      by : (d : Bool) → OfOk Plain (linked b.And x right (cond d None (Some (v.Bool false))))
      by true = then_ok (OfRev t) Plain right (operated b.And x) rev
          (λ y r q i. absurd (let clash : k.Bool ≡ k.Rev = sym takes ∙ r q i in cc))
      by false = λ q i. absurd cc
  link_plain b.Or left t x right takes rev = by (truth_of x)
    where
      by : (d : Bool) → OfOk Plain (linked b.Or x right (cond d (Some (v.Bool true)) None))
      by true = λ q i. absurd cc
      by false = then_ok (OfRev t) Plain right (operated b.Or x) rev
          (λ y r q i. absurd (let clash : k.Bool ≡ k.Rev = sym takes ∙ r q i in cc))

  cell_plain : (w : PlacedName) (index : Expression) → OfOk Plain (expression_form_value fs e (cell w index))
  cell_plain w index =
      then_ok Any Plain (value_by fs e index) (λ i. read_cell (e.shared w.text) (number_of i))
      (any_ok (value_by fs e index))
      (λ i any. read_cell_ok Plain plain_others (e.shared w.text) (number_of i) (env.shared w.text))

  input_plain : (index : Expression)
      → OfOk Plain (and_then (value_by fs e index) (λ i. read_input e.inputs (number_of i)))
  input_plain index =
      then_ok Any Plain (value_by fs e index) (λ i. read_input e.inputs (number_of i)) (any_ok (value_by fs e index))
      (λ i any. read_input_ok Plain plain_others e.inputs (number_of i))

  unary_plain : (op : UnaryOp) (part : Expression) → OfOk Plain (expression_form_value fs e (unary op part))
  unary_plain op part =
      then_ok Any Plain (value_by fs e part) (reversed op) (any_ok (value_by fs e part))
      (λ x any. reversed_ok Plain plain_others op x)

  apply_plain : (w : PlacedName) (args : Expressions) (t : ValueKind) (has : ExpressionFormHas c scope (apply w args) t)
      → OfOk (FitAll has.0.params) (values_by fs e args) → OfOk Plain (expression_form_value fs e (apply w args))
  apply_plain w args t has fits =
      then_ok (FitAll has.0.params) Plain (values_by fs e args) (called (fs w.text)) fits
      (λ xs fit.
      called_ok Plain plain_others (fs w.text) xs (env.funs w.text)
      (fit_plain has.0.params xs (env.params w.text has.0 has.1) fit.1 fit.0))

  whole_plain : (first : Expression) (rest : Links) → ((x : Value) → OfOk Plain (chained fs e x rest))
      → OfOk Plain (expression_form_value fs e (chain first rest))
  whole_plain first rest is =
      then_ok Any Plain (value_by fs e first) (λ x. chained fs e x rest) (any_ok (value_by fs e first)) (λ x any. is x)

  mutual
    -- an expression that gives a handle is of kind rev
    pub expression_rev : (x : Expression) (t : ValueKind) → HasKind c scope x t → OfOk (OfRev t) (value_by fs e x)
    expression_rev (placed at s) t has = expression_form_rev s t has

    expression_form_rev : (s : ExpressionForm) (t : ValueKind) → ExpressionFormHas c scope s t
        → OfOk (OfRev t) (expression_form_value fs e s)
    expression_form_rev (int z) t has = λ q i. absurd cc
    expression_form_rev (bool x) t has = λ q i. absurd cc
    expression_form_rev no_rev t has = λ q i. absurd cc
    expression_form_rev (var w) t has = var_rev w.text t has
    expression_form_rev (cell w index) t has =
        rev_of_plain t (expression_form_value fs e (cell w index)) (cell_plain w index)
    expression_form_rev (apply w args) t has =
        rev_of_plain t (expression_form_value fs e (apply w args))
        (apply_plain w args t has (args_fit args has.0.params has.3 has.4))
    expression_form_rev (input at index) t has =
        rev_of_plain t (expression_form_value fs e (input at index)) (input_plain index)
    expression_form_rev (inputs at) t has = λ q i. absurd cc
    expression_form_rev (pick test x y) t has =
        let p = expression_rev x t has.1 in
        let r = expression_rev y t has.2 in
        then_ok Any (OfRev t) (value_by fs e test) (λ d. if truth_of d then value_by fs e x else value_by fs e y)
        (any_ok (value_by fs e test))
        (λ d any. either (OfOk (OfRev t)) (truth_of d) (value_by fs e x) (value_by fs e y) p r)
    expression_form_rev (unary op part) t has =
        rev_of_plain t (expression_form_value fs e (unary op part)) (unary_plain op part)
    expression_form_rev (chain first rest) t has =
        rev_of_plain t (expression_form_value fs e (chain first rest))
        (whole_plain first rest (chain_plain has.0 t rest has.3 has.4))

    pub args_fit : (ts : Expressions) (ps : List Parameter) → count ts ≡ length ps → ArgsHave c scope ps 0 ts
        → OfOk (FitAll ps) (values_by fs e ts)
    args_fit no_expressions [] same has = (tt, refl)
    args_fit no_expressions (p ∷ ps) same has = cc
    args_fit (expression x xs) [] same has = absurd (omega arith)
    args_fit (expression x xs) (p ∷ ps) same has =
        let here = expression_rev x has.0.0 has.0.1 in
        let later = args_fit xs ps (omega arith) (args_shift c scope p ps 0 xs has.1) in
        then_ok (OfRev has.0.0) (FitAll (p ∷ ps)) (value_by fs e x)
        (λ y. and_then (values_by fs e xs) (λ ys. Ok (y ∷ ys))) here
        (λ y r. then_ok (FitAll ps) (FitAll (p ∷ ps)) (values_by fs e xs) (λ ys. Ok (y ∷ ys)) later
        (λ ys rs. ((λ q i. sym has.0.2 ∙ r q i, rs.0), ap suc rs.1)))

    chain_plain : (left t : ValueKind) (ls : Links) → LinksHave c scope left ls → links_kind ls ≡ Some t → (x : Value)
        → OfOk Plain (chained fs e x ls)
    chain_plain left t no_links has is x = cc
    chain_plain left t (link op part rest) has is x =
        let here = expression_rev part has.0.0 has.0.1 in
        then_ok Plain Plain (linked op x (value_by fs e part) (short op x)) (λ z. chained fs e z rest)
        (link_plain op left has.0.0 x (value_by fs e part) has.0.2 here) (links_plain left rest has.1)

    links_plain : (left : ValueKind) (ls : Links) → LinksHave c scope left ls → (x : Value) → Plain x
        → OfOk Plain (chained fs e x ls)
    links_plain left no_links has x p = p
    links_plain left (link op part rest) has x p =
        let here = expression_rev part has.0.0 has.0.1 in
        then_ok Plain Plain (linked op x (value_by fs e part) (short op x)) (λ z. chained fs e z rest)
        (link_plain op left has.0.0 x (value_by fs e part) has.0.2 here) (links_plain left rest has.1)

  -- the expression is the name of a rev local, whose value this is
  abbrev Source : ExpressionForm → Value → Type 0
  Source (var w) x = IsRev scope w × (e.local w.text ≡ Some x)
  Source (int z) x = ⊥
  Source (bool z) x = ⊥
  Source no_rev x = ⊥
  Source (cell w index) x = ⊥
  Source (apply w args) x = ⊥
  Source (input at index) x = ⊥
  Source (inputs at) x = ⊥
  Source (pick test a z) x = ⊥
  Source (unary op part) x = ⊥
  Source (chain first rest) x = ⊥

  -- where a handle comes from
  abbrev pub ExpressionFormFrom : ExpressionForm → Value → Type 0
  ExpressionFormFrom s x = (q : Path) → IsHandle x q → Source s x

  abbrev pub From : Expression → Value → Type 0
  From (placed at s) x = ExpressionFormFrom s x

  from_plain : (s : ExpressionForm) (a : Answer) → OfOk Plain a → OfOk (ExpressionFormFrom s) a
  from_plain s (Ok x) h = λ q i. absurd (h q i)
  from_plain s (Err f) h = tt

  no_source : (s : ExpressionForm) (x : Value) → ExpressionFormFree scope s → Source s x → ⊥
  no_source (var w) x free from = free from.0
  no_source (int z) x free from = from
  no_source (bool z) x free from = from
  no_source no_rev x free from = from
  no_source (cell w index) x free from = from
  no_source (apply w args) x free from = from
  no_source (input at index) x free from = from
  no_source (inputs at) x free from = from
  no_source (pick test a z) x free from = from
  no_source (unary op part) x free from = from
  no_source (chain first rest) x free from = from

  pub free_plain : (x : Expression) (a : Answer) → Free scope x → OfOk (From x) a → OfOk Plain a
  free_plain (placed at s) (Ok x) free from = λ q i. no_source s x free (from q i)
  free_plain (placed at s) (Err f) free from = tt

  var_from : (w : PlacedName) (t : ValueKind) → ScalarHas (find w.text scope) (c.shared w.text) t
      → OfOk (ExpressionFormFrom (var w)) (read (e.local w.text) (e.shared w.text))
  var_from w t has = by (find w.text scope) refl (c.shared w.text) refl has
    where
      own : (o : Option Value) → e.local w.text ≡ o → find w.text scope ≡ Some (Some t)
          → OfOk (ExpressionFormFrom (var w)) (read o (e.shared w.text))
      own (Some x) p f = λ q i. (f ∙ ap (λ u. Some (Some u)) (env.local w.text t q f (p ∙ ap Some i)), p)
      own None p f =
          from_plain (var w) (read None (e.shared w.text)) (plain_read None (e.shared w.text) refl (env.shared w.text))

      by : (o : Option (Option ValueKind)) → find w.text scope ≡ o → (h : Option Holder) → c.shared w.text ≡ h
          → ScalarHas o h t → OfOk (ExpressionFormFrom (var w)) (read (e.local w.text) (e.shared w.text))
      by (Some found) p h q has = own (e.local w.text) refl (p ∙ ap Some has)
      by None p (Some h) q has =
          from_plain (var w) (read (e.local w.text) (e.shared w.text))
          (plain_read (e.local w.text) (e.shared w.text) (env.apart w.text h q) (env.shared w.text))
      by None p None q has = absurd has

  mutual
    pub expression_from : (x : Expression) (t : ValueKind) → HasKind c scope x t → PickFree scope x
        → OfOk (From x) (value_by fs e x)
    expression_from (placed at s) t has free = expression_form_from s t has free

    expression_form_from : (s : ExpressionForm) (t : ValueKind) → ExpressionFormHas c scope s t → PicksFree scope s
        → OfOk (ExpressionFormFrom s) (expression_form_value fs e s)
    expression_form_from (int z) t has free = λ q i. absurd cc
    expression_form_from (bool x) t has free = λ q i. absurd cc
    expression_form_from no_rev t has free = λ q i. absurd cc
    expression_form_from (var w) t has free = var_from w t has
    expression_form_from (cell w index) t has free =
        from_plain (cell w index) (expression_form_value fs e (cell w index)) (cell_plain w index)
    expression_form_from (apply w args) t has free =
        from_plain (apply w args) (expression_form_value fs e (apply w args))
        (apply_plain w args t has (args_fit args has.0.params has.3 has.4))
    expression_form_from (input at index) t has free =
        from_plain (input at index) (expression_form_value fs e (input at index)) (input_plain index)
    expression_form_from (inputs at) t has free = λ q i. absurd cc
    expression_form_from (pick test x y) t has free =
        let p = free_plain x (value_by fs e x) free.0.0 (expression_from x t has.1 free.0.1) in
        let r = free_plain y (value_by fs e y) free.1.0 (expression_from y t has.2 free.1.1) in
        from_plain (pick test x y) (expression_form_value fs e (pick test x y))
        (then_ok Any Plain (value_by fs e test) (λ d. if truth_of d then value_by fs e x else value_by fs e y)
        (any_ok (value_by fs e test))
        (λ d any. either (OfOk Plain) (truth_of d) (value_by fs e x) (value_by fs e y) p r))
    expression_form_from (unary op part) t has free =
        from_plain (unary op part) (expression_form_value fs e (unary op part)) (unary_plain op part)
    expression_form_from (chain first rest) t has free =
        from_plain (chain first rest) (expression_form_value fs e (chain first rest))
        (whole_plain first rest (chain_plain has.0 t rest has.3 has.4))

  -- an expression that gives no local's handle
  pub plain_value : (x : Expression) (t : ValueKind) → HasKind c scope x t → Free scope x × PickFree scope x
      → OfOk Plain (value_by fs e x)
  plain_value x t has free = free_plain x (value_by fs e x) free.0 (expression_from x t has free.1)

  -- ---- uses

  module _ (es : Table Value) (own : (name : Name) → e.local name ≡ find name es) where
    none_used : (f : Name → Bool) (K : Name → Bool) (q : Path) → 0 + n.count K es q ≤ n.count (λ m. or (f m) (K m)) es q
    none_used f K q = let h = count_sub K (λ m. or (f m) (K m)) es q (λ m i. or_right (f m) (K m) i) in omega (arith, h)

    expression_form_hits : (s : ExpressionForm) (y : Value) (K : Name → Bool) (q : Path) → ExpressionFormFrom s y
        → ExpressionFormOnce scope s K → hit y q + n.count K es q ≤ n.count (λ m. or (is_name m s) (K m)) es q
    expression_form_hits s (v.Int z) K q from once = none_used (λ m. is_name m s) K q
    expression_form_hits s (v.Bool z) K q from once = none_used (λ m. is_name m s) K q
    expression_form_hits s (v.Rev None) K q from once = none_used (λ m. is_name m s) K q
    expression_form_hits (var w) (v.Rev (Some p)) K q from once =
        let f = from p refl in count_use K w.text (v.Rev (Some p)) es q (once f.0) (sym (own w.text) ∙ f.1)
    expression_form_hits (int z) (v.Rev (Some p)) K q from once = absurd (from p refl)
    expression_form_hits (bool z) (v.Rev (Some p)) K q from once = absurd (from p refl)
    expression_form_hits no_rev (v.Rev (Some p)) K q from once = absurd (from p refl)
    expression_form_hits (cell w index) (v.Rev (Some p)) K q from once = absurd (from p refl)
    expression_form_hits (apply w args) (v.Rev (Some p)) K q from once = absurd (from p refl)
    expression_form_hits (input at index) (v.Rev (Some p)) K q from once = absurd (from p refl)
    expression_form_hits (inputs at) (v.Rev (Some p)) K q from once = absurd (from p refl)
    expression_form_hits (pick test a z) (v.Rev (Some p)) K q from once = absurd (from p refl)
    expression_form_hits (unary op part) (v.Rev (Some p)) K q from once = absurd (from p refl)
    expression_form_hits (chain first rest) (v.Rev (Some p)) K q from once = absurd (from p refl)

    -- a value that is used, and what is live behind it, were live before
    abbrev pub UseHits : Expression → (Name → Bool) → Value → Type 0
    UseHits x K y = (q : Path) → hit y q + n.count K es q ≤ n.count (λ m. or (names_it m x) (K m)) es q

    abbrev pub ArgsHit : Expressions → (Name → Bool) → List Value → Type 0
    ArgsHit xs K ys = (q : Path) → hits ys q + n.count K es q ≤ n.count (λ m. or (among m xs) (K m)) es q

    pub use_hits : (x : Expression) (t : ValueKind) (K : Name → Bool) → HasKind c scope x t → UseOnce scope x K
        → OfOk (UseHits x K) (value_by fs e x)
    use_hits x t K has once = by x (value_by fs e x) once.1 (expression_from x t has once.0)
      where
        by : (x : Expression) (a : Answer) → NameOnce scope x K → OfOk (From x) a → OfOk (UseHits x K) a
        by (placed at s) (Ok y) name from = λ q. expression_form_hits s y K q from name
        by (placed at s) (Err f) name from = tt

    pub args_hit : (xs : Expressions) (ps : List Parameter) (m : ℕ) (K : Name → Bool) → ArgsHave c scope ps m xs
        → UsesOnce scope xs K → OfOk (ArgsHit xs K) (values_by fs e xs)
    args_hit no_expressions ps m K has once = λ q. none_used (λ i. false) K q
    args_hit (expression x xs) ps m K has once =
        let here = use_hits x has.0.0 (λ i. or (among i xs) (K i)) has.0.1 once.0 in
        let later = args_hit xs ps (m + 1) K has.1 once.1 in
        then_ok (UseHits x (λ i. or (among i xs) (K i))) (ArgsHit (expression x xs) K) (value_by fs e x)
        (λ y. and_then (values_by fs e xs) (λ ys. Ok (y ∷ ys))) here
        (λ y first. then_ok (ArgsHit xs K) (ArgsHit (expression x xs) K) (values_by fs e xs) (λ ys. Ok (y ∷ ys)) later
        (λ ys rest q.
        sums (hit y q) (hits ys q) (n.count K es q) (n.count (λ i. or (among i xs) (K i)) es q)
        (n.count (λ i. or (names_it i x) (or (among i xs) (K i))) es q)
        (n.count (λ i. or (or (names_it i x) (among i xs)) (K i)) es q) (rest q) (first q)
        (count_sub (λ i. or (names_it i x) (or (among i xs) (K i))) (λ i. or (or (names_it i x) (among i xs)) (K i)) es
        q (λ i j. joined (names_it i x) (among i xs) (K i) j))))
      where
        sums : (a b d f g h : ℕ) → b + d ≤ f → a + f ≤ g → g ≤ h → (a + b) + d ≤ h
        sums a b d f g h p r s = omega (arith, p, r, s)

        joined : (i j f : Bool) → or i (or j f) ≡ true → or (or i j) f ≡ true
        joined true j f h = refl
        joined false j f h = h
