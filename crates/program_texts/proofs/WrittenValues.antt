-- The value of an expression fits, where its numbers, the inputs and all that it reads fit.
use Rattle.std.proofs.Common.{◌≡◌, ℕ, zero, suc, ℤ, pos, negsuc, Bool, true, false, cond, List, [], ◌∷◌, length, Option, Some, None, Result, Ok, Err, refl, arith}
use Rattle.std.specs.Prelude.{nat_lt, if◌then◌else◌, not, slice_get, int_lt, int_le}
use Rattle.std.specs.List.{AllByRecursion}
use Rattle.std.proofs.lemmas.Bool.Decides.{nat_tests}
use Rattle.rev_num.specs.declared.value.Value.{Value}
use Rattle.rev_num.specs.declared.value.Value.TheVariants as v
use Rattle.rev_num.specs.declared.value.NumFault.{NumFault}
use Rattle.rev_num.specs.declared.value.NumFault.TheVariants as fault
use Rattle.rev_num.specs.declared.outcome.Cause.TheVariants as cause
use Rattle.rev_num.specs.Arith.{fits_i64, sum_of, difference_of, product_of, quotient_of, remainder_of, negation_of}
use Rattle.rev_syntax.specs.Trees.{Expression, placed, ExpressionForm, Expressions, Links, int, bool, no_rev, var, cell, apply, input, inputs, pick, unary, chain, no_expressions, expression, no_links, link, Declaration, fun, merge, shared, proc, ProgramTree}
use Rattle.rev_syntax.specs.declared.tree.UnaryOp.{UnaryOp}
use Rattle.rev_syntax.specs.declared.tree.UnaryOp.TheVariants as u
use Rattle.rev_syntax.specs.declared.tree.BinaryOp.{BinaryOp}
use Rattle.rev_syntax.specs.declared.tree.BinaryOp.TheVariants as b
use Rattle.name_tables.specs.Names.{Name, same}
use Rattle.std.specs.Option.{option_or}
use Rattle.typed_programs.specs.Value.{Answer, and_then, number_of, truth_of, number, operated, short, linked, reversed, Shared, unknown, scalar, array, Env, read_cell, taken, read_input, read, Fun, Funs, called, value_by, expression_form_value, values_by, chained, FunDef, bind, bind_all, nothing, inside, fun_value, funs_of, same_value}
use Rattle.typed_programs.specs.Definitions.{fun_def, funs_after, funs_in, MergeDef, merge_def, merges_after, merges_in, merged, merged_by, merge_value_of}
use Rattle.block_run.specs.Agreement.{AreInputs}
use Rattle.block_run.proofs.Numbers.{sums, differences, products, quotients, remainders, negations}
use Rattle.revision_calculus.proofs.Values.{OfOk, then_ok}
use Rattle.trace_diagram.specs.Lines.{FitsValue}
use Rattle.program_texts.specs.Written.{ExpressionWritten, FormWritten, ExpressionsWritten, LinksWritten, DeclarationWritten, IsWritten}

-- ---- numbers

pub number_fits : (x : Value) → FitsValue x → fits_i64 (number_of x) ≡ true
number_fits (v.Int z) h = h
number_fits (v.Bool true) h = refl
number_fits (v.Bool false) h = refl
number_fits (v.Rev None) h = refl
number_fits (v.Rev (Some path)) h = refl

truth_fits : (x : Bool) → FitsValue (v.Bool x)
truth_fits true = tt
truth_fits false = tt

answer_fits : (r : Result ℤ NumFault) → ((y : ℤ) → r ≡ Ok y → fits_i64 y ≡ true) → OfOk FitsValue (number r)
answer_fits (Ok z) h = h z refl
answer_fits (Err fault.Overflow) h = tt
answer_fits (Err fault.ZeroDivisor) h = tt

-- ---- operators

operated_fits : (o : BinaryOp) (x y : Value) → FitsValue y → OfOk FitsValue (operated o x y)
operated_fits b.Add x y k =
    answer_fits (sum_of (number_of x) (number_of y)) (λ z e. sums (number_of x) (number_of y) z (number_fits y k) e)
operated_fits b.Sub x y k =
    answer_fits (difference_of (number_of x) (number_of y))
    (λ z e. differences (number_of x) (number_of y) z (number_fits y k) e)
operated_fits b.Mul x y k =
    answer_fits (product_of (number_of x) (number_of y))
    (λ z e. products (number_of x) (number_of y) z (number_fits y k) e)
operated_fits b.Div x y k =
    answer_fits (quotient_of (number_of x) (number_of y))
    (λ z e. quotients (number_of x) (number_of y) z (number_fits y k) e)
operated_fits b.Rem x y k =
    answer_fits (remainder_of (number_of x) (number_of y))
    (λ z e. remainders (number_of x) (number_of y) z (number_fits y k) e)
operated_fits b.Eq x y k = truth_fits (same_value x y)
operated_fits b.Ne x y k = truth_fits (not (same_value x y))
operated_fits b.Lt x y k = truth_fits (int_lt (number_of x) (number_of y))
operated_fits b.Le x y k = truth_fits (int_le (number_of x) (number_of y))
operated_fits b.Gt x y k = truth_fits (int_lt (number_of y) (number_of x))
operated_fits b.Ge x y k = truth_fits (int_le (number_of y) (number_of x))
operated_fits b.And x y k = k
operated_fits b.Or x y k = k

-- it fits, if there is one
abbrev pub FitsIfAny : Option Value → Type 0
FitsIfAny None = Unit {0}
FitsIfAny (Some x) = FitsValue x

cond_fits : (t : Bool) (x y : Option Value) → FitsIfAny x → FitsIfAny y → FitsIfAny (cond t x y)
cond_fits true x y p q = p
cond_fits false x y p q = q

short_fits : (o : BinaryOp) (x : Value) → FitsIfAny (short o x)
short_fits b.And x = cond_fits (truth_of x) None (Some (v.Bool false)) tt tt
short_fits b.Or x = cond_fits (truth_of x) (Some (v.Bool true)) None tt tt
short_fits b.Add x = tt
short_fits b.Sub x = tt
short_fits b.Mul x = tt
short_fits b.Div x = tt
short_fits b.Rem x = tt
short_fits b.Eq x = tt
short_fits b.Ne x = tt
short_fits b.Lt x = tt
short_fits b.Le x = tt
short_fits b.Gt x = tt
short_fits b.Ge x = tt

linked_fits : (o : BinaryOp) (x : Value) (right : Answer) (z : Option Value) → OfOk FitsValue right → FitsIfAny z
    → OfOk FitsValue (linked o x right z)
linked_fits o x right (Some z) k kz = kz
linked_fits o x right None k kz = then_ok FitsValue FitsValue right (operated o x) k (λ y. operated_fits o x y)

reversed_fits : (o : UnaryOp) (x : Value) → OfOk FitsValue (reversed o x)
reversed_fits u.Neg x = answer_fits (negation_of (number_of x)) (λ z e. negations (number_of x) z e)
reversed_fits u.Not x = truth_fits (not (truth_of x))

-- ---- what an expression reads

abbrev pub SharedFits : Shared → Type 0
SharedFits unknown = Unit {0}
SharedFits (scalar x) = FitsValue x
SharedFits (array n f) = (i : ℕ) → FitsValue (f i)

pub record EnvFits (e : Env) : Type 0 where
  pub local : (name : Name) → FitsIfAny (e.local name)
  pub shared : (name : Name) → SharedFits (e.shared name)
  pub inputs : AreInputs e.inputs

cond_answer : (t : Bool) (x y : Answer) → OfOk FitsValue x → OfOk FitsValue y → OfOk FitsValue (cond t x y)
cond_answer true x y p q = p
cond_answer false x y p q = q

read_cell_fits : (found : Shared) (i : ℤ) → SharedFits found → OfOk FitsValue (read_cell found i)
read_cell_fits unknown i k = refl
read_cell_fits (scalar x) i k = refl
read_cell_fits (array n f) (pos i) k = cond_answer (nat_lt i n) (Ok (f i)) (Err cause.Index) (k i) tt
read_cell_fits (array n f) (negsuc i) k = tt

read_input_fits : (zs : List ℤ) (i : ℤ) → AreInputs zs → OfOk FitsValue (read_input zs i)
read_input_fits zs (pos i) each = by (slice_get zs i) refl
  where
    by : (o : Option ℤ) → slice_get zs i ≡ o → OfOk FitsValue (taken o)
    by None e = tt
    by (Some z) e = each.0 i z e
read_input_fits zs (negsuc i) each = tt

read_fits : (x : Option Value) (found : Shared) → FitsIfAny x → SharedFits found → OfOk FitsValue (read x found)
read_fits (Some x) found k kf = k
read_fits None unknown k kf = refl
read_fits None (scalar x) k kf = kf
read_fits None (array n f) k kf = refl

count_fits : (zs : List ℤ) → AreInputs zs → FitsValue (v.Int (pos (length zs)))
count_fits zs each = let few = each.1 in grind (arith, nat_tests, few)

-- ---- expressions

abbrev pub FitsEach : List Value → Type 0
FitsEach xs = AllByRecursion FitsValue xs

abbrev FunFits : Option Fun → Type 0
FunFits None = Unit {0}
FunFits (Some f) = (args : List Value) → FitsEach args → OfOk FitsValue (f args)

abbrev FunsFit : Funs → Type 0
FunsFit fs = (name : Name) → FunFits (fs name)

called_fits : (o : Option Fun) (args : List Value) → FunFits o → FitsEach args → OfOk FitsValue (called o args)
called_fits None args k ks = refl
called_fits (Some f) args k ks = k args ks

abbrev AnyValue : Value → Type 0
AnyValue x = Unit {0}

any_value : (r : Answer) → OfOk AnyValue r
any_value (Ok x) = tt
any_value (Err c) = tt

module _ (fs : Funs) (e : Env) (funs : FunsFit fs) (env : EnvFits e) where
  mutual
    pub value_fits : (t : Expression) → ExpressionWritten t → OfOk FitsValue (value_by fs e t)
    value_fits (placed at form) h = form_fits form h

    form_fits : (form : ExpressionForm) → FormWritten form → OfOk FitsValue (expression_form_value fs e form)
    form_fits (int n) h = h
    form_fits (bool x) h = truth_fits x
    form_fits no_rev h = tt
    form_fits (var w) h = read_fits (e.local w.text) (e.shared w.text) (env.local w.text) (env.shared w.text)
    form_fits (cell w index) h =
        then_ok AnyValue FitsValue (value_by fs e index) (λ i. read_cell (e.shared w.text) (number_of i))
        (any_value (value_by fs e index)) (λ i any. read_cell_fits (e.shared w.text) (number_of i) (env.shared w.text))
    form_fits (apply w args) h =
        then_ok FitsEach FitsValue (values_by fs e args) (called (fs w.text)) (values_fit args h)
        (λ xs k. called_fits (fs w.text) xs (funs w.text) k)
    form_fits (input at index) h =
        then_ok AnyValue FitsValue (value_by fs e index) (λ i. read_input e.inputs (number_of i))
        (any_value (value_by fs e index)) (λ i any. read_input_fits e.inputs (number_of i) env.inputs)
    form_fits (inputs at) h = count_fits e.inputs env.inputs
    form_fits (pick test x y) h =
        then_ok AnyValue FitsValue (value_by fs e test) (λ c. if truth_of c then value_by fs e x else value_by fs e y)
        (any_value (value_by fs e test))
        (let p = value_fits x h.1 in
        let q = value_fits y h.2 in
        λ c any. cond_answer (truth_of c) (value_by fs e x) (value_by fs e y) p q)
    form_fits (unary o part) h =
        then_ok FitsValue FitsValue (value_by fs e part) (reversed o) (value_fits part h) (λ x k. reversed_fits o x)
    form_fits (chain first rest) h =
        then_ok FitsValue FitsValue (value_by fs e first) (λ x. chained fs e x rest) (value_fits first h.0)
        (chained_fits rest h.1)

    pub values_fit : (ts : Expressions) → ExpressionsWritten ts → OfOk FitsEach (values_by fs e ts)
    values_fit no_expressions h = tt
    values_fit (expression x xs) h =
        then_ok FitsValue FitsEach (value_by fs e x) (λ y. and_then (values_by fs e xs) (λ ys. Ok (y ∷ ys)))
        (value_fits x h.0)
        (let later = values_fit xs h.1 in
        λ y k. then_ok FitsEach FitsEach (values_by fs e xs) (λ ys. Ok (y ∷ ys)) later (λ ys ks. (k, ks)))

    chained_fits : (ls : Links) → LinksWritten ls → (x : Value) → FitsValue x → OfOk FitsValue (chained fs e x ls)
    chained_fits no_links h x k = k
    chained_fits (link o part rest) h x k =
        then_ok FitsValue FitsValue (linked o x (value_by fs e part) (short o x)) (λ z. chained fs e z rest)
        (linked_fits o x (value_by fs e part) (short o x) (value_fits part h.0) (short_fits o x))
        (chained_fits rest h.1)

-- ---- funs

bind_all_fits : (params : List Name) (args : List Value) (local : Name → Option Value)
    → ((name : Name) → FitsIfAny (local name)) → FitsEach args → (name : Name)
    → FitsIfAny (bind_all local params args name)
bind_all_fits [] args local k ks name = k name
bind_all_fits (p ∷ ps) [] local k ks name = k name
bind_all_fits (p ∷ ps) (x ∷ xs) local k ks name =
    bind_all_fits ps xs (bind local p x) (λ other. cond_fits (same other p) (Some x) (local other) ks.0 (k other)) ks.1
    name

no_inputs : AreInputs []
no_inputs = (λ n z e. absurd cc, omega arith)

inside_fits : (params : List Name) (args : List Value) → FitsEach args → EnvFits (inside params args)
inside_fits params args ks =
    record { local = bind_all_fits params args nothing (λ name. tt) ks; shared = λ name. tt; inputs = no_inputs }

earlier_fits : (x y : Option Fun) → FunFits x → FunFits y → FunFits (option_or x y)
earlier_fits (Some f) y k ky = k
earlier_fits None y k ky = ky

cond_fun : (t : Bool) (f : Fun) → FunFits (Some f) → FunFits (cond t (Some f) None)
cond_fun true f k = k
cond_fun false f k = tt

abbrev BodiesWritten : List FunDef → Type 0
BodiesWritten ds = AllByRecursion (λ d. ExpressionWritten d.body) ds

pub funs_fit : (ds : List FunDef) → BodiesWritten ds → FunsFit (funs_of ds)
funs_fit [] h name = tt
funs_fit (d ∷ before) h name =
    let those : FunsFit (funs_of before) = funs_fit before h.1 in
    earlier_fits (funs_of before name) (if same name d.name then Some (fun_value (funs_of before) d) else None)
    (those name)
    (cond_fun (same name d.name) (fun_value (funs_of before) d)
    (λ args ks. value_fits (funs_of before) (inside d.params args) those (inside_fits d.params args ks) d.body h.0))

funs_written : (fs : List FunDef) (es : List Declaration) → BodiesWritten fs → AllByRecursion DeclarationWritten es
    → BodiesWritten (funs_after fs es)
funs_written fs [] k h = k
funs_written fs (fun w ps r body ∷ es) k h = funs_written (fun_def w ps body ∷ fs) es (h.0, k) h.1
funs_written fs (merge w m j r body ∷ es) k h = funs_written fs es k h.1
funs_written fs (shared x ∷ es) k h = funs_written fs es k h.1
funs_written fs (proc w ps r body ∷ es) k h = funs_written fs es k h.1

pub program_funs : (p : ProgramTree) → IsWritten p → FunsFit (funs_of (funs_in p))
program_funs p h = funs_fit (funs_in p) (funs_written [] p.declarations tt h.declarations)

-- ---- merges

-- it gives a value that fits for values that fit
abbrev MergeFits : MergeDef → Type 0
MergeFits d = (m j r : Value) → FitsValue m → FitsValue j → FitsValue r → OfOk FitsValue (merged d m j r)

merges_fit : (fs : List FunDef) (es : List Declaration) → BodiesWritten fs → AllByRecursion DeclarationWritten es
    → AllByRecursion MergeFits (merges_after fs es)
merges_fit fs [] k h = tt
merges_fit fs (fun w ps r body ∷ es) k h = merges_fit (fun_def w ps body ∷ fs) es (h.0, k) h.1
merges_fit fs (merge w m j r body ∷ es) k h = (here, merges_fit fs es k h.1)
  where
    here : MergeFits (merge_def fs w m j r body)
    here x y z p q s =
        value_fits (funs_of fs) (inside (m.text ∷ j.text ∷ r.text ∷ []) (x ∷ y ∷ z ∷ [])) (funs_fit fs k)
        (inside_fits (m.text ∷ j.text ∷ r.text ∷ []) (x ∷ y ∷ z ∷ []) (p, (q, (s, tt)))) body h.0
merges_fit fs (shared x ∷ es) k h = merges_fit fs es k h.1
merges_fit fs (proc w ps r body ∷ es) k h = merges_fit fs es k h.1

chosen_fits : (ds : List MergeDef) (n : ℕ) → AllByRecursion MergeFits ds → (m j r : Value) → FitsValue m → FitsValue j
    → FitsValue r → OfOk FitsValue (merged_by (slice_get ds n) m j r)
chosen_fits [] n h m j r p q s = refl
chosen_fits (d ∷ ds) zero h m j r p q s = h.0 m j r p q s
chosen_fits (d ∷ ds) (suc n) h m j r p q s = chosen_fits ds n h.1 m j r p q s

pub merge_fits : (p : ProgramTree) → IsWritten p → (n : ℕ) (m j r : Value) → FitsValue m → FitsValue j → FitsValue r
    → OfOk FitsValue (merge_value_of p n m j r)
unfolding merge_value_of
merge_fits p h n = chosen_fits (merges_in p) n (merges_fit [] p.declarations tt h.declarations)
