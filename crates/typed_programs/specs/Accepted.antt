-- What the checker accepts: the programs that are typed and within the limits.
use Rattle.std.specs.Prelude.{◌≢◌}
use Rattle.rev_syntax.specs.Trees.{ProgramTree}
use Rattle.typed_programs.specs.declared.fault.TypeFault.{TypeFault}
use Rattle.typed_programs.specs.declared.fault.TypeFault.TheVariants.{OutOfMemory}
use Rattle.typed_programs.specs.Judgement.{ProgramTyped}
use Rattle.typed_programs.specs.Limits.{IsWithinLimits}

pub record IsWellTyped (p : ProgramTree) : Type 0 where
  pub typed : ProgramTyped p
  pub within : IsWithinLimits p

-- a refused program is not well typed. Want of memory says nothing.
abbrev pub IsNotTyped : ProgramTree → TypeFault → Type 0
IsNotTyped p f = f ≢ OutOfMemory → IsWellTyped p → ⊥
