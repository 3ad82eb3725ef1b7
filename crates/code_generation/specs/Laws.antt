-- What holds of the code of every tree, well typed or not.
--   ExpressionSizes, StatementSizes     code has as many instructions as its size says
--   LocalsAreCounted, LayoutsAreCounted so many locals and layouts come of statements as are counted
--   JumpsStayInside  a jump leads to a place of its block, and backwards only to a Charge, in a procedure or `main`
use Rattle.std.specs.Prelude.{◌≡◌, ℕ, false, length, Some, slice_get}
use Rattle.rev_syntax.specs.Trees.{Expression, Statements, ProgramTree}
use Rattle.typed_programs.specs.Kinds.{Names, Locals}
use Rattle.typed_programs.specs.Limits.{statements_lets}
use Rattle.rev_code.specs.declared.code.Instr.{Instr}
use Rattle.rev_code.specs.declared.code.CodeBlock.{CodeBlock}
use Rattle.code_rules.specs.Pass.{target, bad_jump}
use Rattle.code_generation.specs.Numbers.{Numbers, Scope}
use Rattle.code_generation.specs.Expressions.{expression_size, expression_code}
use Rattle.code_generation.specs.Sizes.{statements_size, statements_prints}
use Rattle.code_generation.specs.Statements.{Spot, statements_code}
use Rattle.code_generation.specs.Prints.{statements_kinds, statements_layouts}
use Rattle.code_generation.specs.Generated.{code_of}

abbrev pub ExpressionSizes : Type 0
ExpressionSizes = (n : Numbers) (scope : Scope) (e : Expression) (at : ℕ)
    → length (expression_code n scope e at) ≡ expression_size e

abbrev pub StatementSizes : Type 0
StatementSizes = (n : Numbers) (scope : Scope) (xs : Statements) (s : Spot)
    → length (statements_code n scope xs s) ≡ statements_size n xs

abbrev pub LocalsAreCounted : Type 0
LocalsAreCounted = (c : Names) (l : Locals) (xs : Statements) → length (statements_kinds c l xs) ≡ statements_lets xs

abbrev pub LayoutsAreCounted : Type 0
LayoutsAreCounted = (c : Names) (l : Locals) (texts : ℕ) (xs : Statements)
    → length (statements_layouts c l texts xs) ≡ statements_prints xs

abbrev pub JumpsStayInside : Type 0
JumpsStayInside = (p : ProgramTree) (n : ℕ) (b : CodeBlock) (at : ℕ) (x : Instr)
    → slice_get (code_of p).blocks n ≡ Some b → slice_get b.instrs at ≡ Some x → bad_jump b at (target x) ≡ false
