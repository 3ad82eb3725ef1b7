-- The value of an expression has the kind that the typing rules give it.
use Rattle.std.proofs.Common.{◌≡◌, ◌∙◌, ℕ, suc, ◌+◌, ◌<◌, ℤ, pos, negsuc, Bool, true, false, cond, ◌&&◌, IsTrue, List, [], ◌∷◌, ◌++◌, length, Option, Some, None, Result, Ok, Err, refl, sym, ap, subst, arith, true≢false}
use Rattle.std.specs.Prelude.{nat_le, nat_lt, if◌then◌else◌, slice_get, ◌==◌}
use Rattle.std.proofs.lemmas.Bool.{ltb-true, eqb-true}
use Rattle.rev_num.specs.declared.value.Value.{Value}
use Rattle.rev_num.specs.declared.value.Value.TheVariants as v
use Rattle.rev_num.specs.declared.value.ValueKind.{ValueKind}
use Rattle.rev_num.specs.declared.value.ValueKind.TheVariants as k
use Rattle.rev_num.specs.declared.value.NumFault.{NumFault}
use Rattle.rev_num.specs.declared.value.NumFault.TheVariants as fault
use Rattle.rev_num.specs.declared.outcome.Cause.TheVariants as cause
use Rattle.rev_num.specs.Arith.{sum_of, difference_of, product_of, quotient_of, remainder_of, negation_of}
use Rattle.rev_syntax.specs.Trees.{Parameter, Expression, placed, ExpressionForm, Expressions, Links, int, bool, no_rev, var, cell, apply, input, inputs, pick, unary, chain, no_expressions, expression, no_links, link}
use Rattle.rev_syntax.specs.Small.{name_formed, expression_formed, expression_form_formed, expressions_formed, links_formed, expression_small, expressions_small, strength, all_bind, is_chain}
use Rattle.rev_syntax.specs.declared.tree.UnaryOp.{UnaryOp}
use Rattle.rev_syntax.specs.declared.tree.UnaryOp.TheVariants as u
use Rattle.rev_syntax.specs.declared.tree.BinaryOp.{BinaryOp}
use Rattle.rev_syntax.specs.declared.tree.BinaryOp.TheVariants as b
use Rattle.name_tables.specs.Names.{Name}
use Rattle.name_tables.specs.Table.{find}
use Rattle.typed_programs.specs.FunRules.{Use, count, expression_uses, expression_form_uses, expressions_uses, links_uses}
use Rattle.typed_programs.specs.Value.{Answer, and_then, number_of, truth_of, number, operated, short, linked, reversed, Shared, unknown, scalar, array, Env, read_cell, taken, read_input, read, Fun, Funs, called, value_by, expression_form_value, values_by, chained}
use Rattle.typed_programs.specs.declared.names.Holder.{Holder}
use Rattle.typed_programs.specs.Kinds.{Callee, Names, Locals, operand_kind, given_kind, links_kind}
use Rattle.typed_programs.specs.Typing.{ScalarHas, ArrayHas, TakesRightSide, HasKind, ExpressionFormHas, ArgsHave, LinksHave}
use Rattle.typed_programs.proofs.Lists.{and_parts}
use Rattle.typed_programs.proofs.Uses.{OfUses, uses_parts}
use Rattle.typed_programs.proofs.Applying.{small_formed}
use Rattle.revision_calculus.specs.Kinded.{IsOf, IsSomeOf}
use Rattle.revision_calculus.proofs.Values.{OfOk, then_ok}

-- what holds of both holds of either
pub either : {A : Type 0} (P : A → Type 0) (d : Bool) (x y : A) → P x → P y → P (cond d x y)
either P true x y p q = p
either P false x y p q = q

pub and_both : (x y : Bool) → IsTrue x → IsTrue y → IsTrue (x && y)
and_both true y p q = q
and_both false y p q = absurd (true≢false (sym p))

-- the arguments of a small tree have their forms
pub expressions_small_formed : (es : Expressions) → IsTrue (expressions_small es) → IsTrue (expressions_formed es)
expressions_small_formed no_expressions h = h
expressions_small_formed (expression x xs) h =
    let both = and_parts (expression_small x) (expressions_small xs) h in
    and_both (expression_formed x) (expressions_formed xs) (small_formed x both.0) (expressions_small_formed xs both.1)

-- ---- what an expression reads

-- a shared name reads as what it is declared
abbrev pub SharedIs : Holder → Shared → Type 0
SharedIs h unknown = ⊥
SharedIs h (scalar x) = (h.array ≡ false) × IsOf h.kind x
SharedIs h (array n f) = (h.array ≡ true) × ((i : ℕ) → i < n → IsOf h.kind (f i))

-- each name in scope reads as a value of its kind, and each other name as the shared variable that it means
pub record EnvIs (c : Names) (scope : Locals) (e : Env) : Type 0 where
  pub local : (name : Name) (t : ValueKind) → find name scope ≡ Some (Some t) → IsSomeOf t (e.local name)
  pub shared : (name : Name) (h : Holder) → find name scope ≡ None → c.shared name ≡ Some h
      → (e.local name ≡ None) × SharedIs h (e.shared name)

-- the arguments are of the kinds of these parameters
abbrev pub ArgsAre : List Parameter → List Value → Type 0
ArgsAre [] [] = Unit {0}
ArgsAre [] (x ∷ xs) = ⊥
ArgsAre (p ∷ ps) [] = ⊥
ArgsAre (p ∷ ps) (x ∷ xs) = IsOf p.kind x × ArgsAre ps xs

-- it can be applied, and gives values of its result's kind for arguments of its parameters' kinds
abbrev pub FunIs : Callee → Option Fun → Type 0
FunIs f None = ⊥
FunIs f (Some g) =
    (args : List Value) → ArgsAre f.params args → (t : ValueKind) → f.result ≡ Some t → OfOk (IsOf t) (g args)

pub uses_all : (P : Use → Type 0) → ((x : Use) → P x) → (xs : List Use) → OfUses P xs
uses_all P all [] = tt
uses_all P all (x ∷ xs) = (all x, uses_all P all xs)

-- an application behind this many declarations is that of a fun which can be applied
abbrev pub CanApply : Names → Funs → ℕ → Use → Type 0
CanApply c fs n x = x.within ≡ n → (f : Callee) → c.funs x.name.text ≡ Some f → FunIs f (fs x.name.text)

-- ---- names

local_read : (t : ValueKind) (o : Option Value) (found : Shared) → IsSomeOf t o → OfOk (IsOf t) (read o found)
local_read t None found h = absurd h
local_read t (Some x) found h = h

scalar_read : (t : ValueKind) (o : Option Value) (found : Shared) (h : Holder) → o ≡ None → SharedIs h found
    → (h.array ≡ false) × (h.kind ≡ t) → OfOk (IsOf t) (read o found)
scalar_read t (Some x) found h none is has = cc
scalar_read t None unknown h none is has = absurd is
scalar_read t None (scalar x) h none is has = is.1 ∙ has.1
scalar_read t None (array n f) h none is has = absurd (true≢false (sym is.0 ∙ has.0))

cell_read : (t : ValueKind) (found : Shared) (h : Holder) → SharedIs h found → (h.array ≡ true) × (h.kind ≡ t) → (i : ℤ)
    → OfOk (IsOf t) (read_cell found i)
cell_read t unknown h is has i = absurd is
cell_read t (scalar x) h is has i = absurd (true≢false (sym has.0 ∙ is.0))
cell_read t (array n f) h is has (negsuc i) = tt
cell_read t (array n f) h is has (pos i) = by (nat_lt i n) refl
  where
    by : (x : Bool) → nat_lt i n ≡ x → OfOk (IsOf t) (cond x (Ok (f i)) (Err cause.Index))
    by true e = is.1 i (ltb-true i n e) ∙ has.1
    by false e = tt

input_read : (zs : List ℤ) (i : ℤ) → OfOk (IsOf k.Int) (read_input zs i)
input_read zs (negsuc i) = tt
input_read zs (pos i) = by (slice_get zs i)
  where
    by : (o : Option ℤ) → OfOk (IsOf k.Int) (taken o)
    by None = tt
    by (Some z) = refl

-- ---- operators

number_is : (r : Result ℤ NumFault) → OfOk (IsOf k.Int) (number r)
number_is (Ok z) = refl
number_is (Err fault.Overflow) = tt
number_is (Err fault.ZeroDivisor) = tt

-- a link gives a value of its operator's kind
link_is : (op : BinaryOp) (left t : ValueKind) (x : Value) (right : Answer) → TakesRightSide op left t
    → OfOk (IsOf t) right → OfOk (IsOf (given_kind op)) (linked op x right (short op x))
link_is b.Add left t x right takes is =
    then_ok (IsOf t) (IsOf k.Int) right (operated b.Add x) is (λ y ky. number_is (sum_of (number_of x) (number_of y)))
link_is b.Sub left t x right takes is =
    then_ok (IsOf t) (IsOf k.Int) right (operated b.Sub x) is
    (λ y ky. number_is (difference_of (number_of x) (number_of y)))
link_is b.Mul left t x right takes is =
    then_ok (IsOf t) (IsOf k.Int) right (operated b.Mul x) is
    (λ y ky. number_is (product_of (number_of x) (number_of y)))
link_is b.Div left t x right takes is =
    then_ok (IsOf t) (IsOf k.Int) right (operated b.Div x) is
    (λ y ky. number_is (quotient_of (number_of x) (number_of y)))
link_is b.Rem left t x right takes is =
    then_ok (IsOf t) (IsOf k.Int) right (operated b.Rem x) is
    (λ y ky. number_is (remainder_of (number_of x) (number_of y)))
link_is b.Eq left t x right takes is = then_ok (IsOf t) (IsOf k.Bool) right (operated b.Eq x) is (λ y ky. refl)
link_is b.Ne left t x right takes is = then_ok (IsOf t) (IsOf k.Bool) right (operated b.Ne x) is (λ y ky. refl)
link_is b.Lt left t x right takes is = then_ok (IsOf t) (IsOf k.Bool) right (operated b.Lt x) is (λ y ky. refl)
link_is b.Le left t x right takes is = then_ok (IsOf t) (IsOf k.Bool) right (operated b.Le x) is (λ y ky. refl)
link_is b.Gt left t x right takes is = then_ok (IsOf t) (IsOf k.Bool) right (operated b.Gt x) is (λ y ky. refl)
link_is b.Ge left t x right takes is = then_ok (IsOf t) (IsOf k.Bool) right (operated b.Ge x) is (λ y ky. refl)
link_is b.And left t x right takes is = by (truth_of x)
  where
    by : (d : Bool) → OfOk (IsOf k.Bool) (linked b.And x right (cond d None (Some (v.Bool false))))
    by true = then_ok (IsOf t) (IsOf k.Bool) right (operated b.And x) is (λ y ky. ky ∙ takes)
    by false = refl
link_is b.Or left t x right takes is = by (truth_of x)
  where
    by : (d : Bool) → OfOk (IsOf k.Bool) (linked b.Or x right (cond d (Some (v.Bool true)) None))
    by true = refl
    by false = then_ok (IsOf t) (IsOf k.Bool) right (operated b.Or x) is (λ y ky. ky ∙ takes)

reversed_is : (op : UnaryOp) (x : Value) → OfOk (IsOf (operand_kind op)) (reversed op x)
reversed_is u.Neg x = number_is (negation_of (number_of x))
reversed_is u.Not x = refl

-- the kind of what the operators of one rule of the grammar give
abbrev class : ℕ → ValueKind
class n = if nat_le 4 n then k.Int else k.Bool

given_class : (op : BinaryOp) → given_kind op ≡ class (strength op)
given_class b.Add = refl
given_class b.Sub = refl
given_class b.Mul = refl
given_class b.Div = refl
given_class b.Rem = refl
given_class b.Eq = refl
given_class b.Ne = refl
given_class b.Lt = refl
given_class b.Le = refl
given_class b.Gt = refl
given_class b.Ge = refl
given_class b.And = refl
given_class b.Or = refl

-- the operators of a chain bind alike
chain_binds : (op : BinaryOp) (part : Expression) (rest : Links) → IsTrue (is_chain (link op part rest))
    → IsTrue (all_bind (strength op) rest)
chain_binds op part no_links h = refl
chain_binds op part (link o x more) h = (and_parts _ (all_bind (strength op) (link o x more)) h).1

-- ---- arguments

pub args_shift : (c : Names) (scope : Locals) (p : Parameter) (ps : List Parameter) (n : ℕ) (ts : Expressions)
    → ArgsHave c scope (p ∷ ps) (suc n) ts → ArgsHave c scope ps n ts
args_shift c scope p ps n no_expressions h = tt
args_shift c scope p ps n (expression x xs) h = (
  h.0,
  args_shift c scope p ps (n + 1) xs
      (subst (λ m. ArgsHave c scope (p ∷ ps) m xs) (let e : suc n + 1 ≡ suc (n + 1) = omega arith in e) h.1),
)

called_is : (o : Option Fun) (f : Callee) (xs : List Value) (t : ValueKind) → FunIs f o → ArgsAre f.params xs
    → f.result ≡ Some t → OfOk (IsOf t) (called o xs)
called_is None f xs t h is r = absurd h
called_is (Some g) f xs t h is r = h xs is t r

-- ---- expressions

-- where names mean this, with these names in scope, under these funs and with these values
module _ (c : Names) (scope : Locals) (fs : Funs) (e : Env) (env : EnvIs c scope e) where
  var_is : (name : Name) (t : ValueKind) → ScalarHas (find name scope) (c.shared name) t
      → OfOk (IsOf t) (read (e.local name) (e.shared name))
  var_is name t has = by (find name scope) refl (c.shared name) refl has
    where
      by : (o : Option (Option ValueKind)) → find name scope ≡ o → (h : Option Holder) → c.shared name ≡ h
          → ScalarHas o h t → OfOk (IsOf t) (read (e.local name) (e.shared name))
      by (Some found) p h q has = local_read t (e.local name) (e.shared name) (env.local name t (p ∙ ap Some has))
      by None p (Some h) q has =
          let is = env.shared name h p q in scalar_read t (e.local name) (e.shared name) h is.0 is.1 has
      by None p None q has = absurd has

  array_is : (name : Name) (t : ValueKind) → ArrayHas (find name scope) (c.shared name) t → (i : ℤ)
      → OfOk (IsOf t) (read_cell (e.shared name) i)
  array_is name t has = by (find name scope) refl (c.shared name) refl has
    where
      by : (o : Option (Option ValueKind)) → find name scope ≡ o → (h : Option Holder) → c.shared name ≡ h
          → ArrayHas o h t → (i : ℤ) → OfOk (IsOf t) (read_cell (e.shared name) i)
      by (Some found) p h q has = absurd has
      by None p (Some h) q has = let is = env.shared name h p q in cell_read t (e.shared name) h is.1 has
      by None p None q has = absurd has

  mutual
    pub value_is : (n : ℕ) (x : Expression) (t : ValueKind) → OfUses (CanApply c fs n) (expression_uses n x)
        → IsTrue (expression_formed x) → HasKind c scope x t → OfOk (IsOf t) (value_by fs e x)
    value_is n (placed at s) t us ok has = expression_form_is n s t us ok has

    expression_form_is : (n : ℕ) (s : ExpressionForm) (t : ValueKind)
        → OfUses (CanApply c fs n) (expression_form_uses n s) → IsTrue (expression_form_formed s)
        → ExpressionFormHas c scope s t → OfOk (IsOf t) (expression_form_value fs e s)
    expression_form_is n (int z) t us ok has = sym has
    expression_form_is n (bool x) t us ok has = sym has
    expression_form_is n no_rev t us ok has = sym has
    expression_form_is n (var w) t us ok has = var_is w.text t has
    expression_form_is n (cell w index) t us ok has =
        let part = value_is n index k.Int us (and_parts (name_formed w) (expression_formed index) ok).1 has.1 in
        then_ok (IsOf k.Int) (IsOf t) (value_by fs e index) (λ i. read_cell (e.shared w.text) (number_of i)) part
        (λ i ki. array_is w.text t has.0 (number_of i))
    expression_form_is n (apply w args) t us ok has =
        let part =
        values_is n args has.0.params us.1 (and_parts (name_formed w) (expressions_formed args) ok).1 has.3 has.4 in
        then_ok (ArgsAre has.0.params) (IsOf t) (values_by fs e args) (called (fs w.text)) part
        (λ xs is. called_is (fs w.text) has.0 xs t (us.0 refl has.0 has.1) is has.2)
    expression_form_is n (input at index) t us ok has =
        let part = value_is n index k.Int us ok has.2 in
        subst (λ u. OfOk (IsOf u) (expression_form_value fs e (input at index))) (sym has.0)
        (then_ok (IsOf k.Int) (IsOf k.Int) (value_by fs e index) (λ i. read_input e.inputs (number_of i)) part
        (λ i ki. input_read e.inputs (number_of i)))
    expression_form_is n (inputs at) t us ok has = sym has.0
    expression_form_is n (pick test x y) t us ok has =
        let uses =
        uses_parts (CanApply c fs n) (expression_uses n test ++ expression_uses n x) (expression_uses n y) us in
        let first = uses_parts (CanApply c fs n) (expression_uses n test) (expression_uses n x) uses.0 in
        let formed = and_parts (expression_formed test && expression_formed x) (expression_formed y) ok in
        let parts = and_parts (expression_formed test) (expression_formed x) formed.0 in
        let tested = value_is n test k.Bool first.0 parts.0 has.0 in
        let p = value_is n x t first.1 parts.1 has.1 in
        let q = value_is n y t uses.1 formed.1 has.2 in
        then_ok (IsOf k.Bool) (IsOf t) (value_by fs e test)
        (λ d. if truth_of d then value_by fs e x else value_by fs e y) tested
        (λ d kd. either (OfOk (IsOf t)) (truth_of d) (value_by fs e x) (value_by fs e y) p q)
    expression_form_is n (unary op part) t us ok has =
        let is = value_is n part (operand_kind op) us ok has.1 in
        subst (λ u. OfOk (IsOf u) (expression_form_value fs e (unary op part))) (sym has.0)
        (then_ok (IsOf (operand_kind op)) (IsOf (operand_kind op)) (value_by fs e part) (reversed op) is
        (λ x kx. reversed_is op x))
    expression_form_is n (chain first rest) t us ok has =
        let both = uses_parts (CanApply c fs n) (expression_uses n first) (links_uses n rest) us in
        let formed = and_parts (is_chain rest && expression_formed first) (links_formed rest) ok in
        let parts = and_parts (is_chain rest) (expression_formed first) formed.0 in
        let is = value_is n first has.0 both.0 parts.1 has.1 in
        then_ok (IsOf has.0) (IsOf t) (value_by fs e first) (λ x. chained fs e x rest) is
        (chain_is n has.0 t rest both.1 formed.1 parts.0 has.3 has.4)

    pub values_is : (n : ℕ) (ts : Expressions) (ps : List Parameter) → OfUses (CanApply c fs n) (expressions_uses n ts)
        → IsTrue (expressions_formed ts) → count ts ≡ length ps → ArgsHave c scope ps 0 ts
        → OfOk (ArgsAre ps) (values_by fs e ts)
    values_is n no_expressions [] us ok same has = tt
    values_is n no_expressions (p ∷ ps) us ok same has = cc
    values_is n (expression x xs) [] us ok same has = absurd (omega arith)
    values_is n (expression x xs) (p ∷ ps) us ok same has =
        let both = uses_parts (CanApply c fs n) (expression_uses n x) (expressions_uses n xs) us in
        let formed = and_parts (expression_formed x) (expressions_formed xs) ok in
        let here = value_is n x has.0.0 both.0 formed.0 has.0.1 in
        let later = values_is n xs ps both.1 formed.1 (omega arith) (args_shift c scope p ps 0 xs has.1) in
        then_ok (IsOf has.0.0) (ArgsAre (p ∷ ps)) (value_by fs e x)
        (λ y. and_then (values_by fs e xs) (λ ys. Ok (y ∷ ys))) here
        (λ y ky. then_ok (ArgsAre ps) (ArgsAre (p ∷ ps)) (values_by fs e xs) (λ ys. Ok (y ∷ ys)) later
        (λ ys ks. (ky ∙ has.0.2, ks)))

    -- a whole chain behind its first operand
    chain_is : (n : ℕ) (left t : ValueKind) (ls : Links) → OfUses (CanApply c fs n) (links_uses n ls)
        → IsTrue (links_formed ls) → IsTrue (is_chain ls) → LinksHave c scope left ls → links_kind ls ≡ Some t
        → (x : Value) → IsOf left x → OfOk (IsOf t) (chained fs e x ls)
    chain_is n left t no_links us ok alike has is x kx = cc
    chain_is n left t (link op part rest) us ok alike has is x kx =
        let both = uses_parts (CanApply c fs n) (expression_uses n part) (links_uses n rest) us in
        let formed = and_parts (expression_formed part) (links_formed rest) ok in
        let here = value_is n part has.0.0 both.0 formed.0 has.0.1 in
        let gives : given_kind op ≡ t = (let same : Some (given_kind op) ≡ Some t = is in cc) in
        then_ok (IsOf t) (IsOf t) (linked op x (value_by fs e part) (short op x)) (λ z. chained fs e z rest)
        (subst (λ u. OfOk (IsOf u) (linked op x (value_by fs e part) (short op x))) gives
        (link_is op left has.0.0 x (value_by fs e part) has.0.2 here))
        (links_are n left (strength op) t rest both.1 formed.1 (sym gives ∙ given_class op)
        (chain_binds op part rest alike) has.1)

    -- further links, whose operators bind this tightly
    links_are : (n : ℕ) (left : ValueKind) (tight : ℕ) (t : ValueKind) (ls : Links)
        → OfUses (CanApply c fs n) (links_uses n ls) → IsTrue (links_formed ls) → t ≡ class tight
        → IsTrue (all_bind tight ls) → LinksHave c scope left ls
        → (x : Value) → IsOf t x → OfOk (IsOf t) (chained fs e x ls)
    links_are n left tight t no_links us ok is alike has x kx = kx
    links_are n left tight t (link op part rest) us ok is alike has x kx =
        let both = uses_parts (CanApply c fs n) (expression_uses n part) (links_uses n rest) us in
        let formed = and_parts (expression_formed part) (links_formed rest) ok in
        let bind = and_parts (strength op == tight) (all_bind tight rest) alike in
        let here = value_is n part has.0.0 both.0 formed.0 has.0.1 in
        let gives : given_kind op ≡ t = given_class op ∙ ap class (eqb-true (strength op) tight bind.0) ∙ sym is in
        then_ok (IsOf t) (IsOf t) (linked op x (value_by fs e part) (short op x)) (λ z. chained fs e z rest)
        (subst (λ u. OfOk (IsOf u) (linked op x (value_by fs e part) (short op x))) gives
        (link_is op left has.0.0 x (value_by fs e part) has.0.2 here))
        (links_are n left tight t rest both.1 formed.1 is bind.1 has.1)
