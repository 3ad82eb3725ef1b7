-- The notes of the code of a typed expression are a certificate of it.
use Rattle.std.specs.Prelude.{◌≡◌, ◌≤◌, ℕ, ◌+◌, true, List, length}
use Rattle.rev_num.specs.declared.value.ValueKind.{ValueKind}
use Rattle.rev_syntax.specs.Trees.{Expression}
use Rattle.rev_syntax.specs.Small.{expression_formed}
use Rattle.typed_programs.specs.Kinds.{Names, Locals}
use Rattle.typed_programs.specs.Typing.{HasKind}
use Rattle.rev_code.specs.declared.code.Code.{Code}
use Rattle.rev_code.specs.declared.code.CodeBlock.{CodeBlock}
use Rattle.code_rules.specs.Pass.{Note}
use Rattle.code_soundness.specs.Certificate.{Fits}
use Rattle.code_generation.specs.Numbers.{Numbers, Scope}
use Rattle.code_generation.specs.Expressions.{expression_size, expression_code}
use Rattle.code_generation.specs.Stands.{HasAt, HasItems}
use Rattle.expression_meaning.specs.Applying.{AllApply}
use Rattle.generated_certificates.specs.Items.{noted, push}
use Rattle.generated_certificates.specs.Expressions.{expression_notes, expression_depth}
use Rattle.generated_certificates.specs.Means.{FunMeans, NamesMean}
use Rattle.generated_certificates.specs.RulesKept.{IsWithin, AllKept}

-- An expression that has a kind stands in a block with its notes, above what a first note says, and
-- its value fits the note behind it; names mean there what they mean in the program, and there is
-- room for its words. Then each of its instructions keeps the rules.
abbrev pub ExpressionsAreCertified : Type 0
ExpressionsAreCertified =
    (code : Code) (k : ℕ) (b : CodeBlock) (deepest : ℕ)
    (n : Numbers) (c : Names) (l : Locals) (scope : Scope)
    → IsWithin b deepest → NamesMean code b n c l scope
    → (ns : List Note) (e : Expression) (t : ValueKind) (at : ℕ) (below : Note)
    → HasKind c l e t → expression_formed e ≡ true → AllApply c (FunMeans code k n) e
    → HasAt b.instrs at (expression_code n scope e at)
    → HasItems ns at (expression_notes c l e below)
    → length below.shape + expression_depth e ≤ deepest
    → Fits (push t below) (noted ns (at + expression_size e))
    → AllKept code k b (noted ns) deepest at (expression_code n scope e at)
