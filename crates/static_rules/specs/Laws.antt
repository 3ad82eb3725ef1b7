-- The laws of the rules that a program breaks: the checker's list of faults has exactly them, and each
-- program has one outcome.
--
-- `Same`, `SameFuns`: the list has exactly the faults of the rules; `SameFirst`, `SameFirstFun`: and the
-- same first one; `FunsKept`: no fault of a fun; `Decided`: a program is well typed or has a first fault;
-- `TypedWhereNone`: it is well typed where it breaks none; `OneOutcome`: with the faults of funs before.
use Rattle.std.specs.Prelude.{◌≡◌, ◌↔◌, []}
use Rattle.rev_syntax.specs.Trees.{ProgramTree}
use Rattle.rev_syntax.specs.Small.{IsSmall}
use Rattle.typed_programs.specs.FunRules as funs
use Rattle.typed_programs.specs.Least.{Among, IsFirst}
use Rattle.typed_programs.specs.declared.fun_fault.MergeFault.{MergeFault}
use Rattle.typed_programs.specs.declared.fault.TypeFault.{TypeFault}
use Rattle.typed_programs.specs.Faults.{place, rank}
use Rattle.typed_programs.specs.Program.{faults}
use Rattle.typed_programs.specs.Accepted.{IsWellTyped}
use Rattle.static_rules.specs.Breaks.{Breaks, BreaksNone, IsFirstBroken}
use Rattle.static_rules.specs.Funs.{BreaksFun, IsFirstBrokenFun, KeepsFunRules}
use Rattle.static_rules.specs.Front.{IsDecided, Outcome, fault_in}

-- the checker's list has exactly the faults of these rules
abbrev pub Same : Type 0
Same = (p : ProgramTree) (f : TypeFault) → Among (faults p) f ↔ Breaks p f

-- the list of faults of funs has exactly those of the rules on funs
abbrev pub SameFuns : Type 0
SameFuns = (p : ProgramTree) (f : MergeFault) → Among (funs.fun_faults p) f ↔ BreaksFun p f

-- and the same first one
abbrev pub SameFirstFun : Type 0
SameFirstFun = (p : ProgramTree) (f : MergeFault)
    → IsFirst funs.place funs.rank (funs.fun_faults p) f ↔ IsFirstBrokenFun p f

-- it is empty exactly where the rules on funs are kept
abbrev pub FunsKept : Type 0
FunsKept = (p : ProgramTree) → (funs.fun_faults p ≡ []) ↔ KeepsFunRules p

-- each small program that keeps the rules on funs is decided
abbrev pub Decided : Type 0
Decided = (p : ProgramTree) → IsSmall p → KeepsFunRules p → IsDecided p

-- such a program is well typed exactly where it breaks no rule and no limit
abbrev pub TypedWhereNone : Type 0
TypedWhereNone = (p : ProgramTree) → IsSmall p → KeepsFunRules p → BreaksNone p ↔ IsWellTyped p

-- the checker's answer is the first rule that is broken
abbrev pub SameFirst : Type 0
SameFirst = (p : ProgramTree) (f : TypeFault) → IsFirst place rank (faults p) f ↔ IsFirstBroken p f

-- each small program has an outcome, and all its outcomes are one
pub record HasOneOutcome (p : ProgramTree) : Type 0 where
  pub outcome : Outcome p
  pub one : (a b : Outcome p) → fault_in p a ≡ fault_in p b

abbrev pub OneOutcome : Type 0
OneOutcome = (p : ProgramTree) → IsSmall p → HasOneOutcome p
