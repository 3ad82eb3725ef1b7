-- Expressions that keep the rules on kinds link by link, and whose applications have a property. Those that the typing
-- rules accept, of the forms that the grammar has, are such.
use Rattle.std.specs.Prelude.{◌≡◌, false, Some, List, [], ◌∷◌}
use Rattle.rev_num.specs.declared.value.ValueKind.{ValueKind}
use Rattle.rev_num.specs.declared.value.ValueKind.TheVariants as k
use Rattle.rev_syntax.specs.Trees.{Parameter, Expression, placed, ExpressionForm, Expressions, Links, int, bool, no_rev, var, cell, apply, input, inputs, pick, unary, chain, no_expressions, expression, no_links, link}
use Rattle.name_tables.specs.Names.{Name}
use Rattle.name_tables.specs.Table.{find}
use Rattle.typed_programs.specs.Kinds.{Callee, Names, Locals, operand_kind, given_kind}
use Rattle.typed_programs.specs.Typing.{ScalarHas, ArrayHas, TakesLeft, TakesRightSide}

module _ (c : Names) (l : Locals) (Can : Name → Callee → Type 0) where
  abbrev mutual
    pub Typed : Expression → ValueKind → Type 0
    Typed (placed p form) t = FormTyped form t

    pub FormTyped : ExpressionForm → ValueKind → Type 0
    FormTyped (int z) t = t ≡ k.Int
    FormTyped (bool x) t = t ≡ k.Bool
    FormTyped no_rev t = t ≡ k.Rev
    FormTyped (var w) t = ScalarHas (find w.text l) (c.shared w.text) t
    FormTyped (cell w index) t = ArrayHas (find w.text l) (c.shared w.text) t × Typed index k.Int
    FormTyped (apply w args) t =
        (f : Callee) × (c.funs w.text ≡ Some f) × (f.result ≡ Some t) × Can w.text f × ArgsTyped f.params args
    FormTyped (input p index) t = (t ≡ k.Int) × (c.inside ≡ false) × Typed index k.Int
    FormTyped (inputs p) t = (t ≡ k.Int) × (c.inside ≡ false)
    FormTyped (pick test x y) t = Typed test k.Bool × Typed x t × Typed y t
    FormTyped (unary op e) t = (t ≡ operand_kind op) × Typed e (operand_kind op)
    FormTyped (chain first rest) t = (left : ValueKind) × Typed first left × LinksTyped left rest t

    -- as many arguments as parameters, each of its kind
    pub ArgsTyped : List Parameter → Expressions → Type 0
    ArgsTyped [] no_expressions = Unit {0}
    ArgsTyped [] (expression e rest) = ⊥
    ArgsTyped (p ∷ ps) no_expressions = ⊥
    ArgsTyped (p ∷ ps) (expression e rest) = Typed e p.kind × ArgsTyped ps rest

    -- behind a left operand of the first kind, and of the second kind at the end
    pub LinksTyped : ValueKind → Links → ValueKind → Type 0
    LinksTyped left no_links t = left ≡ t
    LinksTyped left (link op e rest) t =
        (u : ValueKind) × Typed e u × TakesLeft op left × TakesRightSide op left u × LinksTyped (given_kind op) rest t
