-- The tables of generated code keep their rules.
use Rattle.std.specs.Prelude.{◌≡◌, true}
use Rattle.rev_syntax.specs.Trees.{ProgramTree}
use Rattle.rev_syntax.specs.Small.{IsSmall}
use Rattle.typed_programs.specs.Accepted.{IsWellTyped}
use Rattle.code_rules.specs.Tables.{names_well, is_small}
use Rattle.code_generation.specs.Generated.{code_of}

-- blocks, variables, texts and layouts are of the right forms
abbrev pub NamesAreWell : Type 0
NamesAreWell = (p : ProgramTree) → IsSmall p → IsWellTyped p → names_well (code_of p) ≡ true

-- the code keeps all limits on tables
abbrev pub CodeIsSmall : Type 0
CodeIsSmall = (p : ProgramTree) → IsSmall p → IsWellTyped p → is_small (code_of p) ≡ true
