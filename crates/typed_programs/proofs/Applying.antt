-- An expression that breaks no rule on funs applies known funs, each to as many arguments as it has
-- parameters.
use Rattle.std.proofs.Common.{◌≡◌, ◌∙◌, ℕ, ◌+◌, Bool, true, false, cond, ◌&&◌, IsTrue, nat_eq, nat_le, length, Option, Some, None, List, [], ◌∷◌, ◌++◌, refl, sym, ap, subst, true≢false}
use Rattle.rev_syntax.specs.Trees.{Parameter, Expression, placed, ExpressionForm, Expressions, Links, int, bool, no_rev, var, cell, apply, input, inputs, pick, unary, chain, no_expressions, expression, no_links, link, Declaration, fun, merge, shared, proc}
use Rattle.rev_syntax.specs.Small.{name_formed, expression_formed, expression_form_formed, expressions_formed, links_formed, is_chain, expression_small, expressions_small, nodes_around, chains_around}
use Rattle.typed_programs.specs.FunRules.{Use, count, head, later_here, broken_by, broken_in, first_fun, expression_uses, expression_form_uses, expressions_uses, links_uses}
use Rattle.name_tables.specs.Names.{Name, same}
use Rattle.typed_programs.specs.declared.expanded.FunHead.{FunHead}
use Rattle.typed_programs.specs.Kinds.{Callee, Names}
use Rattle.typed_programs.specs.KindLaws.{IsKnown, Applies, ExpressionFormApplies, ExpressionsApply, LinksApply, HasLink}
use Rattle.typed_programs.proofs.Lists.{parts, whole, held, and_parts, equal}
use Rattle.typed_programs.specs.Scopes.{fun_named}

-- ---- the funs of a program

by_head :
    (b : Bool) (d k : ℕ) (ps : List Parameter) (f : Callee) (t : Option Callee) (rest : Option FunHead) (h : FunHead)
    → length ps ≡ length f.params → IsKnown (length f.params) (Some f) → (rest ≡ Some h → IsKnown h.params t)
    → cond b (Some (head d k (length ps))) rest ≡ Some h → IsKnown h.params (cond b (Some f) t)
by_head true d k ps f t rest h e i more p =
    let q : h.params ≡ length f.params = (let r : head d k (length ps) ≡ h = cc in sym (ap (λ x. x.params) r)) ∙ e in
    (q, i.1)
by_head false d k ps f t rest h e i more p = more p

-- a fun that the rules on funs know has that many parameters, and a result
pub known_fun : (d k : ℕ) (es : List Declaration) (name : Name) (h : FunHead) → first_fun d k es name ≡ Some h
    → IsKnown h.params (fun_named es name)
known_fun d k [] name h p = cc
known_fun d k (fun w ps r body ∷ es) name h p =
    by_head (same name w.text) d k ps (record { params = ps; result = Some r }) (fun_named es name)
    (first_fun (d + 1) (k + 1) es name) h refl (refl, (r, refl))
    (known_fun (d + 1) (k + 1) es name h) p
known_fun d k (merge w m j r body ∷ es) name h p = known_fun (d + 1) k es name h p
known_fun d k (shared x ∷ es) name h p = known_fun (d + 1) k es name h p
known_fun d k (proc w ps r body ∷ es) name h p = known_fun (d + 1) k es name h p

-- ---- applications

-- an application that breaks no rule is that of a known fun, with its number of arguments
applied : (u : Use) (o : Option FunHead) → broken_by u o ≡ [] → (h : FunHead) × (o ≡ Some h) × (u.args ≡ h.params)
applied u None h = absurd (let e : broken_by u None ≡ [] = h in cc)
applied u (Some g) h = (g, refl, equal u.args g.params (held (nat_eq u.args g.params) _ (parts (later_here u g) _ h).1))

-- applications that break no rule, in their parts
pub broken_parts : (named : Name → Option FunHead) (us vs : List Use) → broken_in named (us ++ vs) ≡ []
    → (broken_in named us ≡ []) × (broken_in named vs ≡ [])
broken_parts named [] vs h = (refl, h)
broken_parts named (u ∷ us) vs h =
    let here = parts (broken_by u (named u.name.text)) (broken_in named (us ++ vs)) h in
    let rest = broken_parts named us vs here.1 in
    (whole _ _ here.0 rest.0, rest.1)

-- the expressions of a small tree have their forms
pub small_formed : (e : Expression) → IsTrue (expression_small e) → IsTrue (expression_formed e)
small_formed e f =
    (and_parts (expression_formed e) (nat_le (nodes_around e) 200)
    (and_parts (expression_formed e && nat_le (nodes_around e) 200) (nat_le (chains_around e) 1005) f).0).0

chain_linked : (ls : Links) → IsTrue (is_chain ls) → HasLink ls
chain_linked no_links h = absurd (true≢false (sym h))
chain_linked (link op x rest) h = tt

module _ (named : Name → Option FunHead) (c : Names)
    (known : (name : Name) (h : FunHead) → named name ≡ Some h → IsKnown h.params (c.funs name)) where
  mutual
    expression_applies : (n : ℕ) (e : Expression) → broken_in named (expression_uses n e) ≡ []
        → IsTrue (expression_formed e) → Applies c e
    expression_applies n (placed at s) h f = expression_form_applies n s h f

    expression_form_applies : (n : ℕ) (s : ExpressionForm) → broken_in named (expression_form_uses n s) ≡ []
        → IsTrue (expression_form_formed s) → ExpressionFormApplies c s
    expression_form_applies n (int z) h f = tt
    expression_form_applies n (bool x) h f = tt
    expression_form_applies n no_rev h f = tt
    expression_form_applies n (var w) h f = tt
    expression_form_applies n (inputs at) h f = tt
    expression_form_applies n (cell w index) h f =
        expression_applies n index h (and_parts (name_formed w) (expression_formed index) f).1
    expression_form_applies n (apply w args) h f =
        let here =
        parts (broken_by (record { name = w; args = count args; within = n }) (named w.text))
        (broken_in named (expressions_uses n args)) h in
        let g = applied (record { name = w; args = count args; within = n }) (named w.text) here.0 in (
          subst (λ k. IsKnown k (c.funs w.text)) (sym g.2) (known w.text g.0 g.1),
          expressions_apply n args here.1 (and_parts (name_formed w) (expressions_formed args) f).1,
        )
    expression_form_applies n (input at index) h f = expression_applies n index h f
    expression_form_applies n (pick x y z) h f =
        let first = broken_parts named (expression_uses n x ++ expression_uses n y) (expression_uses n z) h in
        let second = broken_parts named (expression_uses n x) (expression_uses n y) first.0 in
        let fz = and_parts (expression_formed x && expression_formed y) (expression_formed z) f in
        let fx = and_parts (expression_formed x) (expression_formed y) fz.0 in (
          expression_applies n x second.0 fx.0,
          expression_applies n y second.1 fx.1,
          expression_applies n z first.1 fz.1,
        )
    expression_form_applies n (unary op e) h f = expression_applies n e h f
    expression_form_applies n (chain e rest) h f =
        let both = broken_parts named (expression_uses n e) (links_uses n rest) h in
        let fr = and_parts (is_chain rest && expression_formed e) (links_formed rest) f in
        let fe = and_parts (is_chain rest) (expression_formed e) fr.0 in
        (expression_applies n e both.0 fe.1, chain_linked rest fe.0, links_apply n rest both.1 fr.1)

    expressions_apply : (n : ℕ) (ts : Expressions) → broken_in named (expressions_uses n ts) ≡ []
        → IsTrue (expressions_formed ts) → ExpressionsApply c ts
    expressions_apply n no_expressions h f = tt
    expressions_apply n (expression x xs) h f =
        let both = broken_parts named (expression_uses n x) (expressions_uses n xs) h in
        let fx = and_parts (expression_formed x) (expressions_formed xs) f in
        (expression_applies n x both.0 fx.0, expressions_apply n xs both.1 fx.1)

    links_apply : (n : ℕ) (ls : Links) → broken_in named (links_uses n ls) ≡ [] → IsTrue (links_formed ls)
        → LinksApply c ls
    links_apply n no_links h f = tt
    links_apply n (link op x rest) h f =
        let both = broken_parts named (expression_uses n x) (links_uses n rest) h in
        let fx = and_parts (expression_formed x) (links_formed rest) f in
        (expression_applies n x both.0 fx.0, links_apply n rest both.1 fx.1)

  -- an expression of a small tree
  pub small_applies : (n : ℕ) (e : Expression) → broken_in named (expression_uses n e) ≡ []
      → IsTrue (expression_small e) → Applies c e
  small_applies n e h f = expression_applies n e h (small_formed e f)

  -- the arguments of a `call` or an `rfork` in a small tree
  pub small_apply : (n : ℕ) (ts : Expressions) → broken_in named (expressions_uses n ts) ≡ []
      → IsTrue (expressions_small ts) → ExpressionsApply c ts
  small_apply n no_expressions h f = tt
  small_apply n (expression x xs) h f =
      let both = broken_parts named (expression_uses n x) (expressions_uses n xs) h in
      let fx = and_parts (expression_small x) (expressions_small xs) f in
      (small_applies n x both.0 fx.0, small_apply n xs both.1 fx.1)
