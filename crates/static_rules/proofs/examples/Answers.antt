-- Answers of examples: the least fault in the checker's list is computed, and is the first that the program breaks.
use Rattle.std.proofs.Common.{◌≡◌, Some, refl}
use Rattle.rev_syntax.specs.Trees.{ProgramTree}
use Rattle.typed_programs.specs.Least.{least}
use Rattle.typed_programs.proofs.Leasts.{first_is}
use Rattle.typed_programs.specs.declared.fault.TypeFault.{TypeFault}
use Rattle.typed_programs.specs.Faults.{place, rank}
use Rattle.typed_programs.specs.Program.{faults}
use Rattle.static_rules.specs.Breaks.{IsFirstBroken}
use Rattle.static_rules.proofs.Fronts.{first_broken}
use Rattle.static_rules.proofs.examples.Goals as goal

-- the least of the checker's list, which computes
listed : (p : ProgramTree) (f : TypeFault) → least place rank (faults p) ≡ Some f → IsFirstBroken p f
listed p f e = first_broken p f (first_is place rank (faults p) f e)

pub returns : goal.returns
returns c = record {
  at_unknown_name = listed _ _ refl;
  at_unknown_merge = listed _ _ refl;
  at_second_let = listed _ _ refl;
  at_sum_with_truth = listed _ _ refl;
  at_call_of_other_kind = listed _ _ refl;
  at_call_without_result = listed _ _ refl;
  at_return_without_value = listed _ _ refl;
  at_array_without_index = listed _ _ refl;
  at_inputs_in_fun = listed _ _ refl;
  at_missing_argument = listed _ _ refl;
  at_array_without_cells = listed _ _ refl;
  at_return_in_loop = listed _ _ refl;
  at_nine_parameters = listed _ _ refl;
}
