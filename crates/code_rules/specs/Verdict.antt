-- The first fault of code: of its tables, and then of its instructions.
use Rattle.std.specs.Prelude.{if◌then◌else◌, [], Option, Some}
use Rattle.rev_code.specs.declared.code.Code.{Code}
use Rattle.code_rules.specs.declared.Fault.{Fault}
use Rattle.code_rules.specs.declared.Rule.{Rule}
use Rattle.code_rules.specs.declared.Rule.TheVariants as rule
use Rattle.code_rules.specs.Pass.{blocks_fault}
use Rattle.code_rules.specs.Tables.{names_well, is_small}

abbrev pub of_tables : Rule → Fault
of_tables r = record { block = 0; at = 0; rule = r }

abbrev pub first_fault : Code → Option Fault
first_fault code =
    if names_well code then (if is_small code then blocks_fault code [] 0 code.blocks
    else Some (of_tables rule.LimitOf))
    else Some (of_tables rule.BadOperand)
