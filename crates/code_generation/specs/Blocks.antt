-- The table of blocks keeps its rules: of every program's code the last block is the only `main`, each block fits its
-- class, and there are as many funs and merges together, and as many procedures, as the program declares.
use Rattle.std.specs.Prelude.{◌≡◌, true}
use Rattle.rev_syntax.specs.Trees.{ProgramTree}
use Rattle.typed_programs.specs.Limits.{procs, funs}
use Rattle.rev_code.specs.Step.{is_procedure}
use Rattle.code_rules.specs.Pass.{is_value_class}
use Rattle.code_rules.specs.Tables.{blocks_well, count_class}
use Rattle.code_generation.specs.Generated.{code_of}

abbrev pub BlocksAreWell : Type 0
BlocksAreWell = (p : ProgramTree) → blocks_well (code_of p) ≡ true

abbrev pub BlocksAreCounted : Type 0
BlocksAreCounted = (p : ProgramTree) → (count_class is_value_class (code_of p).blocks ≡ funs p.declarations)
    × (count_class is_procedure (code_of p).blocks ≡ procs p.declarations)
