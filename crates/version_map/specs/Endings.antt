-- How revisions of running code end.
--   of_join t   a join made the trap: its merges faulted, or the joined revision had trapped
use Rattle.std.specs.Prelude.{Bool, true, false, Some, None}
use Rattle.rev_num.specs.declared.outcome.Cause.{Cause}
use Rattle.rev_num.specs.declared.outcome.Cause.TheVariants as cause
use Rattle.version_map.specs.declared.end.CodeTrap.{CodeTrap}

abbrev pub of_merge : Cause → Bool
of_merge (cause.Merge location fault) = true
of_merge _ = false

abbrev pub of_join : CodeTrap → Bool
of_join t = elim t.origin [ Some n ↦ true | None ↦ of_merge t.cause ]
