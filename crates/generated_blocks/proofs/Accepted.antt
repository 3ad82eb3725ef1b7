-- The code of a program that the checker accepts has no fault.
use Rattle.std.proofs.Common.{◌≡◌, ◌∙◌, [], None, Some, ap}
use Rattle.std.specs.Prelude.{if◌then◌else◌}
use Rattle.rev_syntax.specs.Trees.{ProgramTree}
use Rattle.typed_programs.proofs.Accepting.{kept_typed}
use Rattle.revision_calculus.specs.Kinded.{IsAccepted}
use Rattle.code_rules.specs.declared.Rule.TheVariants as rule
use Rattle.code_rules.specs.Pass.{blocks_fault}
use Rattle.code_rules.specs.Tables.{is_small}
use Rattle.code_rules.specs.Verdict.{first_fault, of_tables}
use Rattle.code_generation.specs.Generated.{code_of}
use Rattle.generated_certificates.proofs.Small.{names_are_well, code_is_small}
use Rattle.generated_blocks.proofs.Whole.{instructions_accepted}

pub code_accepted : (p : ProgramTree) → IsAccepted p → first_fault (code_of p) ≡ None
code_accepted p h =
    let well = kept_typed p h.funs h.rules h.small in
    ap (λ d. if d
    then (if is_small (code_of p) then blocks_fault (code_of p) [] 0 (code_of p).blocks
    else Some (of_tables rule.LimitOf))
    else Some (of_tables rule.BadOperand))
    (names_are_well p h.small well)
    ∙ ap (λ d. if d then blocks_fault (code_of p) [] 0 (code_of p).blocks else Some (of_tables rule.LimitOf))
    (code_is_small p h.small well)
    ∙ instructions_accepted p h.small h.funs well
