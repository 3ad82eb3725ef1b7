-- The code of every program that the checker accepts can be written as a code file.
use Rattle.rev_syntax.specs.Trees.{ProgramTree}
use Rattle.revision_calculus.specs.Kinded.{IsAccepted}
use Rattle.code_file.specs.Counts.{Counted}
use Rattle.code_generation.specs.Generated.{code_of}

-- the counts and lengths of the code have the widths of their fields
abbrev pub GeneratedCodeIsCounted : Type 0
GeneratedCodeIsCounted = (p : ProgramTree) → IsAccepted p → Counted (code_of p)
