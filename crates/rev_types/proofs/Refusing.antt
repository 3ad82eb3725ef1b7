-- A program that is refused is not well typed.
use Rattle.std.proofs.Common.{subst}
use Rattle.rev_syntax.specs.Trees.{ProgramTree}
use Rattle.typed_programs.specs.Accepted.{IsNotTyped}
use Rattle.typed_programs.specs.Least.{Among}
use Rattle.typed_programs.specs.declared.fault.TypeFault.{TypeFault}
use Rattle.typed_programs.proofs.Accepting.{accepts}
use Rattle.rev_types.specs.Tables.{Refuses}

-- what breaks a rule is not well typed
pub not_typed : (p : ProgramTree) (f : TypeFault) → Refuses p f → IsNotTyped p f
not_typed p f refused other h = subst (λ fs. Among fs f) (accepts p h) (refused other).among
