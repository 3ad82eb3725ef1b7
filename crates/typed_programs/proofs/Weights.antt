-- A weight that stops at one past the limit is the least of the weight and that.
use Rattle.std.proofs.Common.{◌≡◌, ◌∙◌, ℕ, ◌+◌, min, Bool, true, false, if◌then◌else◌, Option, Some, None, option_map, [], refl, sym, ap, arith}
use Rattle.rev_syntax.specs.Trees.{Expression, placed, ExpressionForm, Expressions, Links, int, bool, no_rev, var, cell, apply, input, inputs, pick, unary, chain, no_expressions, expression, no_links, link}
use Rattle.name_tables.specs.Names.{Name, same}
use Rattle.name_tables.specs.Table.{Table, find, added}
use Rattle.name_tables.proofs.Tables.{or_else, find-added}
use Rattle.rev_report.specs.declared.limit.Limit.TheVariants as limits
use Rattle.rev_report.specs.Limits.{first_past}
use Rattle.typed_programs.specs.Program as p
use Rattle.typed_programs.specs.Weights.{known_weight, expression_weight, expression_form_weight, expressions_weight, links_weight}

-- one past the limit
abbrev pub cap : ℕ → ℕ
cap n = min n (first_past limits.Weight)

cap_plus : (a b : ℕ) → cap (cap a + cap b) ≡ cap (a + b)
cap_plus a b = omega arith

plus_caps : (x y a b : ℕ) → x ≡ cap a → y ≡ cap b → p.plus x y ≡ cap (a + b)
plus_caps x y a b e f = (λ i. p.plus (e i) (f i)) ∙ cap_plus a b

plus_one : (x a : ℕ) → x ≡ cap a → p.plus 1 x ≡ cap (1 + a)
plus_one x a e = plus_caps 1 x 1 a refl e

-- a table of weights that stop
abbrev pub Caps : Table ℕ → Table ℕ → Type 0
Caps ws vs = (name : Name) → find name vs ≡ option_map cap (find name ws)

pub none_caps : Caps [] []
none_caps name = refl

added_by : (o : Option ℕ) (b : Bool) (n : ℕ)
    → or_else (option_map cap o) (if b then Some (cap n) else None)
    ≡ option_map cap (or_else o (if b then Some n else None))
added_by (Some x) b n = refl
added_by None true n = refl
added_by None false n = refl

pub added_caps : (ws vs : Table ℕ) (w : Name) (n m : ℕ) → Caps ws vs → m ≡ cap n → Caps (added ws w n) (added vs w m)
added_caps ws vs w n m c e name =
    ap (λ x. find name (added vs w x)) e ∙ find-added name w (cap n) vs
    ∙ ap (λ o. or_else o (if same name w then Some (cap n) else None)) (c name)
    ∙ added_by (find name ws) (same name w) n ∙ sym (ap (λ o. option_map cap o) (find-added name w n ws))

known_caps : (o : Option ℕ) → known_weight (option_map cap o) ≡ cap (known_weight o)
known_caps None = refl
known_caps (Some n) = refl

module _ (ws vs : Table ℕ) (c : Caps ws vs) where
  mutual
    pub expression_caps : (e : Expression) → p.weight vs e ≡ cap (expression_weight ws e)
    expression_caps (placed at s) = shape_caps s

    shape_caps : (s : ExpressionForm) → p.expression_form_weight vs s ≡ cap (expression_form_weight ws s)
    shape_caps (int n) = refl
    shape_caps (bool x) = refl
    shape_caps no_rev = refl
    shape_caps (var w) = refl
    shape_caps (inputs at) = refl
    shape_caps (cell w index) = plus_one _ _ (expression_caps index)
    shape_caps (input at index) = plus_one _ _ (expression_caps index)
    shape_caps (apply w args) =
        expressions_caps _ (1 + known_weight (find w.text ws)) args
        (plus_one _ _ (ap known_weight (c w.text) ∙ known_caps (find w.text ws)))
    shape_caps (pick x y z) =
        plus_caps _ _ (1 + expression_weight ws x + expression_weight ws y) _
        (plus_caps _ _ (1 + expression_weight ws x) _ (plus_one _ _ (expression_caps x)) (expression_caps y))
        (expression_caps z)
    shape_caps (unary op e) = plus_one _ _ (expression_caps e)
    shape_caps (chain e rest) = links_caps _ (expression_weight ws e) rest (expression_caps e)

    expressions_caps : (x n : ℕ) (ts : Expressions) → x ≡ cap n
        → p.expressions_weight vs x ts ≡ cap (n + expressions_weight ws ts)
    expressions_caps x n no_expressions h = h ∙ ap cap (let e : n ≡ n + 0 = omega arith in e)
    expressions_caps x n (expression e es) h =
        expressions_caps _ (n + expression_weight ws e) es (plus_caps _ _ n _ h (expression_caps e))
        ∙ ap cap (let d : n + expression_weight ws e + expressions_weight ws es
        ≡ n + (expression_weight ws e + expressions_weight ws es) = omega arith in
        d)

    links_caps : (x n : ℕ) (ls : Links) → x ≡ cap n → p.links_weight vs x ls ≡ cap (n + links_weight ws ls)
    links_caps x n no_links h = h ∙ ap cap (let e : n ≡ n + 0 = omega arith in e)
    links_caps x n (link op e rest) h =
        links_caps _ (n + (1 + expression_weight ws e)) rest (plus_caps _ _ n _ h (plus_one _ _ (expression_caps e)))
        ∙ ap cap (let d : n + (1 + expression_weight ws e) + links_weight ws rest
        ≡ n + (1 + expression_weight ws e + links_weight ws rest) = omega arith in
        d)
