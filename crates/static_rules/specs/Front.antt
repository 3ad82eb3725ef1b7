-- What is answered for a program: it is well typed, or there is a first rule that it breaks.
--
-- `IsDecided`: one of the two, and not both; `Outcome`: with the faults of funs before. The laws of
-- these stand in Laws.
use Rattle.std.specs.Prelude.{◌≡◌, ◌⊎◌, Option, Some, None}
use Rattle.rev_syntax.specs.Trees.{ProgramTree}
use Rattle.typed_programs.specs.declared.fun_fault.MergeFault.{MergeFault}
use Rattle.typed_programs.specs.declared.fault.TypeFault.{TypeFault}
use Rattle.typed_programs.specs.Accepted.{IsWellTyped}
use Rattle.static_rules.specs.Breaks.{Breaks, IsFirstBroken}
use Rattle.static_rules.specs.Funs.{IsFirstBrokenFun, KeepsFunRules}

-- either a program is well typed, or there is one first fault
pub record IsDecided (p : ProgramTree) : Type 0 where
  pub one : IsWellTyped p ⊎ ((f : TypeFault) × IsFirstBroken p f)
  pub not_both : (f : TypeFault) → IsWellTyped p → Breaks p f → ⊥
  pub only : (f g : TypeFault) → IsFirstBroken p f → IsFirstBroken p g → f ≡ g

-- what is answered for a program: the first fault of its funs, or that it is well typed, or the first
-- of the other rules that it breaks
pub data Outcome (p : ProgramTree) : Type 0 where
  of_funs : (f : MergeFault) → IsFirstBrokenFun p f → Outcome p
  accepted : KeepsFunRules p → IsWellTyped p → Outcome p
  of_types : KeepsFunRules p → (f : TypeFault) → IsFirstBroken p f → Outcome p

abbrev pub fault_in : (p : ProgramTree) → Outcome p → Option MergeFault × Option TypeFault
fault_in p (of_funs f first) = (Some f, None)
fault_in p (accepted kept typed) = (None, None)
fault_in p (of_types kept f first) = (None, Some f)
