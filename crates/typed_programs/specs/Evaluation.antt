-- The value of an expression, of a fun and of a merge, by the numbers of declarations.
use Rattle.std.specs.Prelude.{◌≡◌, ℕ, ℤ, pos, List, [], ◌∷◌, take, Option, Some, None, slice_get, option_and_then, Result, Ok, Err}
use Rattle.rev_num.specs.declared.value.Value.{Value}
use Rattle.rev_num.specs.declared.value.NumFault.{NumFault}
use Rattle.rev_num.specs.declared.value.NumFault.TheVariants as fault
use Rattle.rev_num.specs.declared.outcome.Cause.TheVariants as cause
use Rattle.rev_syntax.specs.Trees.{Expression, ExpressionForm, Expressions, Links, Declaration, fun, merge}
use Rattle.rev_syntax.specs.declared.tree.BinaryOp.{BinaryOp}
use Rattle.name_tables.specs.Names.{Name}
use Rattle.typed_programs.specs.Value.{Answer, Env, Funs, and_then, called, bind, bind_all, nothing, funs_of, closed, value_by, expression_form_value, values_by, chained, linked, short, some_value, number_of}
use Rattle.typed_programs.specs.Definitions.{funs_after, names_of}

-- the values of locals
abbrev pub Values : Type 0
Values = Name → Option Value

-- the funs among the first n declarations
unfoldable pub funs_before : List Declaration → ℕ → Funs
funs_before es n = funs_of (funs_after [] (take n es))

-- ---- expressions that may apply the funs among the first n declarations

unfoldable pub value_within : List Declaration → ℕ → Env → Expression → Answer
value_within es n env t = value_by (funs_before es n) env t

unfoldable pub expression_form_within : List Declaration → ℕ → Env → ExpressionForm → Answer
expression_form_within es n env s = expression_form_value (funs_before es n) env s

unfoldable pub chained_within : List Declaration → ℕ → Env → Value → Links → Answer
chained_within es n env x rest = chained (funs_before es n) env x rest

-- a link of a chain behind a left operand
unfoldable pub link_within : List Declaration → ℕ → Env → Value → BinaryOp × Expression → Answer
link_within es n env x link = linked link.0 x (value_within es n env link.1) (short link.0 x)

-- ---- the bodies of funs

-- the names of a fun's parameters
abbrev pub fun_params : Declaration → List Name
fun_params (fun w params result body) = names_of params
fun_params _ = []

abbrev pub fun_body : Declaration → Option Expression
fun_body (fun w params result body) = Some body
fun_body _ = None

abbrev pub params_in : Option Declaration → List Name
params_in (Some e) = fun_params e
params_in None = []

-- the parameters and the body of the fun that is declared at this number
unfoldable pub params_at : List Declaration → Option ℕ → List Name
params_at es None = []
params_at es (Some d) = params_in (slice_get es d)

unfoldable pub body_at : List Declaration → ℕ → Option Expression
body_at es d = option_and_then fun_body (slice_get es d)

-- the value of a body that may apply the funs among the first n declarations
abbrev pub body_within : List Declaration → ℕ → Values → Option Expression → Answer
body_within es n local (Some body) = value_within es n (closed local) body
body_within es n local None = some_value

-- the value of the body of the fun that is declared at this number
unfoldable pub value_of_body : List Declaration → Option ℕ → Values → Answer
value_of_body es None local = some_value
value_of_body es (Some d) local = body_within es d local (body_at es d)

-- the value of a fun's body, where the values of arguments are bound to these parameters behind
-- other locals
unfoldable pub applied_within
    : List Declaration → ℕ → Env → Expressions → Option ℕ → List Name → Values → Answer
applied_within es n env args f params bound =
    and_then (values_by (funs_before es n) env args)
    (λ xs. value_of_body es f (bind_all bound params xs))

-- and where this value comes before those of the arguments
unfoldable pub given_within
    : List Declaration → ℕ → Env → Value → Expressions → Option ℕ → List Name → Values → Answer
given_within es n env x args f params bound =
    and_then (values_by (funs_before es n) env args)
    (λ xs. value_of_body es f (bind_all bound params (x ∷ xs)))

-- among the first n declarations a name means the fun that is declared at this number
abbrev pub IsMeant : List Declaration → ℕ → Name → Option ℕ → Type 0
IsMeant es n name f =
    (xs : List Value)
    → called (funs_before es n name) xs ≡ value_of_body es f (bind_all nothing (params_at es f) xs)

-- ---- merges

-- the value of the merge that is declared at number n
unfoldable pub declaration_value
    : List Declaration → ℕ → Declaration → Value → Value → Value → Answer
declaration_value es n (merge w m j r body) a b c =
    value_within es n (closed (bind (bind (bind nothing m.text a) j.text b) r.text c)) body
declaration_value es n _ a b c = some_value

-- What is answered for a merge's value: the number, or the fault of arithmetic. In a program that
-- keeps the rules on kinds a merge has no other value. For another the number 0 stands.
abbrev pub merge_answer : Answer → Result ℤ NumFault
merge_answer (Ok x) = Ok (number_of x)
merge_answer (Err cause.Overflow) = Err fault.Overflow
merge_answer (Err cause.ZeroDivisor) = Err fault.ZeroDivisor
merge_answer (Err _) = Ok (pos 0)
