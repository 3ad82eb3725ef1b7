-- The applications in the parts of an expression, one part after another.
use Rattle.std.proofs.Common.{◌≡◌, ◌∙◌, ℕ, List, [], ◌∷◌, ◌++◌, refl, ap, sym}
use Rattle.rev_syntax.specs.Trees as t
use Rattle.rev_syntax.specs.Trees.{PlacedName, Expression, Expressions, Links, ExpressionForm}
use Rattle.merge_decl.specs.declared.uses.Use as held
use Rattle.typed_programs.specs.FunRules.{Use, count, expression_uses, expressions_uses, links_uses, expression_form_uses}
use Rattle.merge_decl.specs.Uses.{use_of, uses_of}
use Rattle.typed_programs.proofs.Appends.{appends}

-- two parts in turn
pub two : {A : Type 0} (a b c x y : List A) → b ≡ a ++ x → c ≡ b ++ y → c ≡ a ++ (x ++ y)
two a b c x y p q = q ∙ ap (λ r. r ++ y) p ∙ appends a x y

-- ---- the parts of an expression in turn

pub chain_added : (n : ℕ) {s : ExpressionForm} {first f : Expression} {rest r : Links} (u : List Use) {u1 u2 : List Use}
    → s ≡ t.chain first rest → f ≡ first → r ≡ rest
    → u1 ≡ u ++ expression_uses n f → u2 ≡ u1 ++ links_uses n r → u2 ≡ u ++ expression_form_uses n s
chain_added n {f} {r} u {u1} {u2} h p q a b =
    two u u1 u2 (expression_uses n f) (links_uses n r) a b ∙ (λ i. u ++ (expression_uses n (p i) ++ links_uses n (q i)))
    ∙ ap (λ x. u ++ expression_form_uses n x) (sym h)

pub pick_added : (n : ℕ) {s : ExpressionForm} {x x' y y' z z' : Expression} (u : List Use) {u1 u2 u3 : List Use}
    → s ≡ t.pick x y z
    → x' ≡ x → y' ≡ y → z' ≡ z
    → u1 ≡ u ++ expression_uses n x' → u2 ≡ u1 ++ expression_uses n y' → u3 ≡ u2 ++ expression_uses n z'
    → u3 ≡ u ++ expression_form_uses n s
pick_added n {x} {x'} {y'} {z'} u {u1} {u2} {u3} h p q r a b c =
    two u u2 u3 (expression_uses n x' ++ expression_uses n y') (expression_uses n z')
    (two u u1 u2 (expression_uses n x') (expression_uses n y') a b) c
    ∙ (λ i. u ++ (expression_uses n (p i) ++ expression_uses n (q i) ++ expression_uses n (r i)))
    ∙ ap (λ x. u ++ expression_form_uses n x) (sym h)

pub apply_added :
    (n : ℕ) {s : ExpressionForm} {w : PlacedName} {args args' : Expressions} {k : ℕ} (u : List Use) {u1 u2 : List Use}
    → s ≡ t.apply w args → args' ≡ args → k ≡ count args
    → u1 ≡ u ++ record { name = w; args = k; within = n } ∷ [] → u2 ≡ u1 ++ expressions_uses n args'
    → u2 ≡ u ++ expression_form_uses n s
apply_added n {w} {args} {args'} {k} u {u1} {u2} h p q a b =
    two u u1 u2 (record { name = w; args = k; within = n } ∷ []) (expressions_uses n args') a b
    ∙ (λ i. u ++ (record { name = w; args = q i; within = n } ∷ expressions_uses n (p i)))
    ∙ ap (λ x. u ++ expression_form_uses n x) (sym h)

pub uses_of-push : (us : List held.Use) (u : held.Use) → uses_of (us ++ u ∷ []) ≡ uses_of us ++ use_of u ∷ []
uses_of-push [] u = refl
uses_of-push (x ∷ us) u = ap (λ r. use_of x ∷ r) (uses_of-push us u)
