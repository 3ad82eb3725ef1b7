-- What threads leave of a run.
--   IsNotRan   where segments are still in use, there is at least one
use Rattle.std.specs.Prelude.{◌<◌}
use Rattle.rev_workers.specs.declared.threads.NotRan.{NotRan}
use Rattle.rev_workers.specs.declared.threads.NotRan.TheVariants as reason

abbrev pub IsNotRan : NotRan → Type 0
IsNotRan reason.OutOfMemory = Unit {0}
IsNotRan (reason.InUse closed) = 0 < closed.live
