-- What the first breakage says of an example, which is an accepted program.
use Rattle.rev_syntax.specs.Trees.{ProgramTree}
use Rattle.revision_calculus.specs.Kinded.{IsAccepted}
use Rattle.revision_calculus.proofs.FunKinds.{rules_kept}
use Rattle.affine_check.specs.Laws.{Decides}
use Rattle.affine_check.specs.Places.{first_breakage}
use Rattle.affine_check.proofs.Places.{decided}

pub refused : (p : ProgramTree) → IsAccepted p → Decides p (first_breakage p)
refused p well = decided p (rules_kept p well)
