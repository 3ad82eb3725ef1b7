-- From where the code of a block stands on, the code is that of the block and then that of the
-- statements behind it.
use Rattle.std.specs.Prelude.{ℕ, ◌+◌}
use Rattle.rev_syntax.specs.Trees.{Statements}
use Rattle.typed_programs.specs.Kinds.{Locals}
use Rattle.revision_calculus.specs.Program.{Setting}
use Rattle.revision_calculus.specs.Step.{append}
use Rattle.rev_code.specs.declared.code.CodeBlock.{CodeBlock}
use Rattle.code_generation.specs.Numbers.{Scope}
use Rattle.code_generation.specs.Sizes.{statements_size}
use Rattle.code_generation.specs.Statements.{Spot}
use Rattle.expression_meaning.specs.Places.{Tables, IsWithin, BlockStands, Follows}

abbrev pub BlocksFollow : Type 0
BlocksFollow =
    (s : Setting) (g : Tables) (b : CodeBlock) (outer scope : Scope) (l : Locals) (sp : Spot)
    (text : ℕ) (xs rest : Statements)
    → BlockStands s g b scope l sp text xs → IsWithin outer scope
    → Follows s g b outer rest (sp.at + statements_size g.numbers xs)
    → Follows s g b scope (append xs rest) sp.at
