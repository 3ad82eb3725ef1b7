-- The paths that the births of revisions name.
--   forked_as    the birth of the revision of this number, if another one forked it
--   IsNumberOf   the path has this number, or is none of these
use Rattle.std.specs.Prelude.{ℕ, zero, suc, ◌≡◌, List, Option, Some, None}
use Rattle.rev_num.specs.Path.{Path}
use Rattle.revision_machine.specs.Laws.{IsIn}
use Rattle.revision_machine.specs.Numbered.{at_number}
use Rattle.code_world.specs.declared.table.Birth.{Birth}
pub use Rattle.revision_machine.specs.Numbered.{path_in}

abbrev pub forked_as : List Birth → ℕ → Option Birth
forked_as bs zero = None
forked_as bs (suc n) = at_number bs (suc n)

abbrev pub IsNumberOf : List Path → Path → Option ℕ → Type 0
IsNumberOf paths p (Some n) = at_number paths n ≡ Some p
IsNumberOf paths p None = IsIn p paths → ⊥
