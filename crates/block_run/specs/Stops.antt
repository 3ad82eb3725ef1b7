-- What one instruction comes to, as a run of instructions answers it.
--   cause_of   the cause of a trap
--   stop_of    why a run stops whose last instruction comes to this
use Rattle.rev_num.specs.declared.outcome.Cause.{Cause}
use Rattle.rev_num.specs.declared.outcome.Cause.TheVariants as cause
use Rattle.block_run.specs.declared.registers.Act.{Act}
use Rattle.block_run.specs.declared.registers.Act.TheVariants as act
use Rattle.block_run.specs.declared.registers.BlockTrap.{BlockTrap}
use Rattle.block_run.specs.declared.registers.BlockTrap.TheVariants as fault
use Rattle.block_run.specs.declared.registers.Stop.{Stop}
use Rattle.block_run.specs.declared.registers.Stop.TheVariants as stop

abbrev pub cause_of : BlockTrap → Cause
cause_of fault.Overflow = cause.Overflow
cause_of fault.ZeroDivisor = cause.ZeroDivisor
cause_of fault.Index = cause.Index
cause_of fault.Assert = cause.Assert
cause_of fault.Spent = cause.Spent

abbrev pub stop_of : Act → Stop
stop_of act.Goes = stop.Goes
stop_of (act.Traps f) = stop.Traps (cause_of f)
stop_of act.Leaves = stop.Leaves
