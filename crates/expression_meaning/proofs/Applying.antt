-- What all applications of a scope have, those of each expression have.
use Rattle.std.proofs.Common.{◌≡◌, Some}
use Rattle.rev_syntax.specs.Trees.{Expression, placed, ExpressionForm, Expressions, Links, int, bool, no_rev, var, cell, apply, input, inputs, pick, unary, chain, no_expressions, expression, no_links, link}
use Rattle.name_tables.specs.Names.{Name}
use Rattle.typed_programs.specs.Kinds.{Callee, Names}
use Rattle.expression_meaning.specs.Applying.{AllApply, FormApplies, ArgsApply, LinksApply}

module _ (c : Names) (Can : Name → Callee → Type 0)
    (all : (name : Name) (f : Callee) → c.funs name ≡ Some f → Can name f) where
  mutual
    pub all_apply : (e : Expression) → AllApply c Can e
    all_apply (placed p form) = form_applies form

    form_applies : (form : ExpressionForm) → FormApplies c Can form
    form_applies (int z) = tt
    form_applies (bool z) = tt
    form_applies no_rev = tt
    form_applies (var w) = tt
    form_applies (inputs p) = tt
    form_applies (cell w index) = all_apply index
    form_applies (apply w args) = (λ f e. all w.text f e, args_apply args)
    form_applies (input p index) = all_apply index
    form_applies (pick test x y) = (all_apply test, all_apply x, all_apply y)
    form_applies (unary op e) = all_apply e
    form_applies (chain first rest) = (all_apply first, links_apply rest)

    pub args_apply : (xs : Expressions) → ArgsApply c Can xs
    args_apply no_expressions = tt
    args_apply (expression x xs) = (all_apply x, args_apply xs)

    links_apply : (ls : Links) → LinksApply c Can ls
    links_apply no_links = tt
    links_apply (link op x rest) = (all_apply x, links_apply rest)
