-- What a revision is known to leave.
--   EndsSo    the leg of the revision of this number ends it, and this is what it leaves
use Rattle.std.specs.Prelude.{ℕ, ◌≡◌, Some}
use Rattle.rev_num.specs.Path.{Path}
use Rattle.rev_code.specs.State.{State}
use Rattle.revision_machine.specs.Machine.{Plain}
use Rattle.revision_machine.specs.Numbered.{Entries, at_number}
use Rattle.version_map.specs.declared.end.EndValue.{EndValue}
use Rattle.code_machine.specs.Local.{CodeRun, Local, at_work}
use Rattle.code_world.specs.LegOutcomes.{HasEnded}

pub record EndsSo (g : CodeRun) (w : Entries (Local ℕ)) (n : ℕ) (v : EndValue) : Type 0 where
  pub path : Path
  pub state : State ℕ
  pub there : at_number w n ≡ Some (path, Plain (at_work state))
  pub ends : HasEnded g state v
