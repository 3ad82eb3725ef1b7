-- Which applications a body has by its list of them.
use Rattle.std.proofs.Common.{◌≡◌, ℕ, ◌++◌, Some, refl}
use Rattle.rev_syntax.specs.Trees.{Expression, placed, ExpressionForm, Expressions, Links, int, bool, no_rev, var, cell, apply, input, inputs, pick, unary, chain, no_expressions, expression, no_links, link}
use Rattle.name_tables.specs.Names.{Name}
use Rattle.typed_programs.specs.FunRules.{Use, expression_uses, expression_form_uses, expressions_uses, links_uses}
use Rattle.typed_programs.specs.Kinds.{Callee, Names}
use Rattle.typed_programs.proofs.Uses.{OfUses, uses_parts}
use Rattle.expression_meaning.specs.Applying.{AllApply, FormApplies, ArgsApply, LinksApply}

-- ---- applications

module _ (c : Names) (Can : Name → Callee → Type 0) (n : ℕ) where
  abbrev pub Use_can : Use → Type 0
  Use_can x = x.within ≡ n → (f : Callee) → c.funs x.name.text ≡ Some f → Can x.name.text f

  mutual
    pub applies : (e : Expression) → OfUses Use_can (expression_uses n e) → AllApply c Can e
    applies (placed p form) h = form_applies form h

    form_applies : (form : ExpressionForm) → OfUses Use_can (expression_form_uses n form) → FormApplies c Can form
    form_applies (int z) h = tt
    form_applies (bool z) h = tt
    form_applies no_rev h = tt
    form_applies (var w) h = tt
    form_applies (inputs p) h = tt
    form_applies (cell w index) h = applies index h
    form_applies (apply w args) h = (λ f e. h.0 refl f e, args_apply args h.1)
    form_applies (input p index) h = applies index h
    form_applies (pick test x y) h =
        let g = uses_parts Use_can (expression_uses n test ++ expression_uses n x) (expression_uses n y) h in
        let q = uses_parts Use_can (expression_uses n test) (expression_uses n x) g.0 in
        (applies test q.0, applies x q.1, applies y g.1)
    form_applies (unary op e) h = applies e h
    form_applies (chain first rest) h =
        let g = uses_parts Use_can (expression_uses n first) (links_uses n rest) h in
        (applies first g.0, links_apply rest g.1)

    args_apply : (xs : Expressions) → OfUses Use_can (expressions_uses n xs) → ArgsApply c Can xs
    args_apply no_expressions h = tt
    args_apply (expression x xs) h =
        let g = uses_parts Use_can (expression_uses n x) (expressions_uses n xs) h in (applies x g.0, args_apply xs g.1)

    links_apply : (ls : Links) → OfUses Use_can (links_uses n ls) → LinksApply c Can ls
    links_apply no_links h = tt
    links_apply (link op x rest) h =
        let g = uses_parts Use_can (expression_uses n x) (links_uses n rest) h in (applies x g.0, links_apply rest g.1)
