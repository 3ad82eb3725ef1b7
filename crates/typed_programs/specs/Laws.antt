-- The laws between what is well typed and the list of faults that the checker goes by.
--
-- `Typed`, `Accepts`: no fault, and well typed; `LimitsAlone`: what a typed program breaks is limits;
-- `OwnLimits`: a fault of a limit has the number of that limit.
use Rattle.std.specs.Prelude.{◌≡◌, []}
use Rattle.rev_syntax.specs.Trees.{ProgramTree}
use Rattle.rev_syntax.specs.Small.{IsSmall}
use Rattle.typed_programs.specs.FunRules.{fun_faults}
use Rattle.typed_programs.specs.Least.{Among}
use Rattle.typed_programs.specs.declared.fault.TypeFault.{TypeFault}
use Rattle.typed_programs.specs.Faults.{HasLimit, IsLimit}
use Rattle.typed_programs.specs.Program.{faults}
use Rattle.typed_programs.specs.Judgement.{ProgramTyped}
use Rattle.typed_programs.specs.Accepted.{IsWellTyped}

-- a small program that breaks no rule on funs and none of the others is well typed
abbrev pub Typed : Type 0
Typed = (p : ProgramTree) → IsSmall p → fun_faults p ≡ [] → faults p ≡ [] → IsWellTyped p

-- a well-typed program breaks none of these rules, of which the rules on funs are no part
abbrev pub Accepts : Type 0
Accepts = (p : ProgramTree) → IsWellTyped p → faults p ≡ []

-- all that a typed program breaks of these rules is limits
abbrev pub LimitsAlone : Type 0
LimitsAlone = (p : ProgramTree) → ProgramTyped p → (f : TypeFault) → Among (faults p) f → IsLimit f

-- each fault of a limit has the number of that limit
abbrev pub OwnLimits : Type 0
OwnLimits = (p : ProgramTree) (f : TypeFault) → Among (faults p) f → HasLimit f
