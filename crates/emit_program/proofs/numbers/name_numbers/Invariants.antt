-- Loops of name_numbers: the numbers with the declarations left added are all, and there is room for those.
use Rattle.std.proofs.Common.{◌≡◌, drop, map}
use Rattle.rev_syntax.specs.View.{declaration}
use Rattle.emit_program.specs.Numbering.{with_declarations, var_total, value_total, proc_total, HasRoom}
use Rattle.emit_program.proofs.numbers.name_numbers.Given as goal

abbrev pub invariant-loop-d : goal.invariant-loop-d
invariant-loop-d l = record {
  comes : with_declarations l.numbers (map declaration (drop l.d-index l.d-items))
      ≡ with_declarations l.initial.numbers (map declaration l.d-items);
  room : HasRoom l.numbers (var_total (map declaration (drop l.d-index l.d-items)))
      (value_total (map declaration (drop l.d-index l.d-items)))
      (proc_total (map declaration (drop l.d-index l.d-items)));
}
