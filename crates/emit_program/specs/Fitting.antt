-- A program whose code has numbers of the sizes that instructions hold.
use Rattle.std.specs.Prelude.{◌<◌, ◌+◌, ◌^◌, List, [], ◌∷◌, length}
use Rattle.rev_syntax.specs.Trees.{Parameter, Expression, Statements, Declaration, fun, merge, shared, proc, ProgramTree}
use Rattle.typed_programs.specs.Layout.{variables}
use Rattle.typed_programs.specs.Limits.{funs, procs, statements_lets}
use Rattle.typed_programs.specs.Scopes.{outside}
use Rattle.code_generation.specs.Numbers.{Numbers, numbers}
use Rattle.code_generation.specs.Expressions.{expression_size}
use Rattle.code_generation.specs.Sizes.{statements_size}
use Rattle.code_generation.specs.Generated.{texts_of, layouts_of}

-- the body of a fun or merge with its Return
abbrev pub ValueFits : Expression → Type 0
ValueFits body = expression_size body + 1 < 2 ^ 32

-- the locals of a body, and its instructions with those at its end
abbrev pub BodyFits : Numbers → List Parameter → Statements → Type 0
BodyFits n ps body = (length ps + statements_lets body < 2 ^ 8) × (statements_size n body + 2 < 2 ^ 32)

abbrev pub DeclarationFits : Numbers → Declaration → Type 0
DeclarationFits n (fun w ps r body) = (length ps < 2 ^ 8) × ValueFits body
DeclarationFits n (merge w m j r body) = ValueFits body
DeclarationFits n (shared x) = Unit {0}
DeclarationFits n (proc w ps r body) = BodyFits n ps body

abbrev pub DeclarationsFit : Numbers → List Declaration → Type 0
DeclarationsFit n [] = Unit {0}
DeclarationsFit n (e ∷ es) = DeclarationFits n e × DeclarationsFit n es

pub record ProgramFits (p : ProgramTree) : Type 0 where
  pub declarations : DeclarationsFit (numbers p) p.declarations
  pub main : BodyFits (numbers p) [] p.main
  pub variables : length (variables p) < 2 ^ 16
  pub blocks : funs p.declarations + procs p.declarations < 2 ^ 16
  pub texts : length (texts_of p.declarations p.main) < 2 ^ 32
  pub layouts : length (layouts_of (outside p.declarations) 0 p.declarations p.main) < 2 ^ 32
