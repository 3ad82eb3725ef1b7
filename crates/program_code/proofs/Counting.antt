-- The code of a program that the checker accepts can be written as a code file.
use Rattle.rev_syntax.specs.Trees.{ProgramTree}
use Rattle.revision_calculus.specs.Kinded.{IsAccepted}
use Rattle.code_file.specs.Counts.{Counted}
use Rattle.code_file.proofs.Accepted.{accepted}
use Rattle.code_generation.specs.Generated.{code_of}
use Rattle.generated_blocks.proofs.Accepted.{code_accepted}
use Rattle.program_code.proofs.Tries.{code_tries}

pub code_counted : (p : ProgramTree) → IsAccepted p → Counted (code_of p)
code_counted p h = accepted (code_of p) (code_accepted p h) (code_tries p h.small)
