-- The verifier accepts the code of every program that the checker accepts.
use Rattle.std.specs.Prelude.{◌≡◌, [], None}
use Rattle.rev_syntax.specs.Trees.{ProgramTree}
use Rattle.rev_syntax.specs.Small.{IsSmall}
use Rattle.typed_programs.specs.FunRules.{fun_faults}
use Rattle.typed_programs.specs.Accepted.{IsWellTyped}
use Rattle.revision_calculus.specs.Kinded.{IsAccepted}
use Rattle.code_rules.specs.Pass.{blocks_fault}
use Rattle.code_rules.specs.Verdict.{first_fault}
use Rattle.code_generation.specs.Generated.{code_of}

-- no instruction of the code breaks a rule, and each fun and merge is within its limits
abbrev pub InstructionsKeepRules : Type 0
InstructionsKeepRules =
    (p : ProgramTree) → IsSmall p → fun_faults p ≡ [] → IsWellTyped p
    → blocks_fault (code_of p) [] 0 (code_of p).blocks ≡ None

abbrev pub GeneratedCodeIsAccepted : Type 0
GeneratedCodeIsAccepted = (p : ProgramTree) → IsAccepted p → first_fault (code_of p) ≡ None
