-- A property of all applications in an expression.
use Rattle.std.specs.Prelude.{◌≡◌, Some}
use Rattle.rev_syntax.specs.Trees.{Expression, placed, ExpressionForm, Expressions, Links, int, bool, no_rev, var, cell, apply, input, inputs, pick, unary, chain, no_expressions, expression, no_links, link}
use Rattle.name_tables.specs.Names.{Name}
use Rattle.typed_programs.specs.Kinds.{Callee, Names}

module _ (c : Names) (Can : Name → Callee → Type 0) where
  abbrev mutual
    pub AllApply : Expression → Type 0
    AllApply (placed p form) = FormApplies form

    pub FormApplies : ExpressionForm → Type 0
    FormApplies (apply w args) = ((f : Callee) → c.funs w.text ≡ Some f → Can w.text f) × ArgsApply args
    FormApplies (int z) = Unit {0}
    FormApplies (bool x) = Unit {0}
    FormApplies no_rev = Unit {0}
    FormApplies (var w) = Unit {0}
    FormApplies (inputs p) = Unit {0}
    FormApplies (cell w index) = AllApply index
    FormApplies (input p index) = AllApply index
    FormApplies (pick test x y) = AllApply test × AllApply x × AllApply y
    FormApplies (unary op e) = AllApply e
    FormApplies (chain first rest) = AllApply first × LinksApply rest

    pub ArgsApply : Expressions → Type 0
    ArgsApply no_expressions = Unit {0}
    ArgsApply (expression e rest) = AllApply e × ArgsApply rest

    pub LinksApply : Links → Type 0
    LinksApply no_links = Unit {0}
    LinksApply (link op e rest) = AllApply e × LinksApply rest
