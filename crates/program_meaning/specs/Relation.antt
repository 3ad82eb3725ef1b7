-- The relation between the calculus and the machine of a program's code, and what it gives.
--   IsRelated      by paths: both are the same revision, and the values of the calculus are of the
--                  kinds of the static rules
--   IsRelatedBy    by numbers that a table reads as paths
--   CodeSimulated, NumbersSimulated
--                  the calculus does what the code does, by paths and by numbers
use Rattle.std.specs.Prelude.{ℕ, List}
use Rattle.rev_num.specs.Path.{Path}
use Rattle.revision_machine.specs.Laws.{IsIn}
use Rattle.revision_machine.specs.Simulation.{Simulates}
use Rattle.revision_machine.specs.Numbered.{machine_by}
use Rattle.revision_calculus.specs.Program.{Setting}
use Rattle.revision_calculus.specs.State.{Local}
use Rattle.revision_calculus.specs.Calculus.{calculus}
use Rattle.revision_calculus.specs.Kinded.{IsAccepted, IsKinded}
use Rattle.code_machine.specs.Local as code
use Rattle.code_machine.specs.Machines.{machine, numbered}
use Rattle.code_machine.specs.Renamed.{IsNumbered}
use Rattle.program_meaning.specs.Related.{run_of, IsSame}

abbrev pub IsRelated : Setting → Path → Local → code.Local Path → Type 0
IsRelated s r l k = IsSame s r l k × IsKinded s r l

abbrev pub IsRelatedBy : Setting → List Path → Path → Local → code.Local ℕ → Type 0
IsRelatedBy s t r l k = (paths : code.Local Path) × IsRelated s r l paths × IsNumbered t r paths k

-- ---- laws

-- each leg is some steps of the same revision in the calculus, to related states
abbrev pub CodeSimulated : Type 0
CodeSimulated =
    (s : Setting) → IsAccepted s.program
    → Simulates (calculus s) (machine (run_of s)) (IsRelated s) (λ p. Unit {0})

-- by any table that has the paths of the children
abbrev pub NumbersSimulated : Type 0
NumbersSimulated =
    (s : Setting) → IsAccepted s.program → (t : List Path)
    → Simulates (calculus s) (machine_by (numbered (run_of s)) t) (IsRelatedBy s t) (λ p. IsIn p t)
