-- Loops of params_scope: numbering the parameters left from the next number on gives the scope of all.
use Rattle.std.proofs.Common.{◌≡◌, ◌<◌, ◌+◌, ◌^◌, [], drop, map, length}
use Rattle.rev_syntax.specs.View.{parameter}
use Rattle.code_generation.specs.Numbers.{with_params}
use Rattle.emit_program.proofs.params.params_scope.Given as goal

abbrev pub invariant-loop-p : goal.invariant-loop-p
invariant-loop-p l = record {
  scope :
      with_params l.scope l.next (map parameter (drop l.p-index l.params)) ≡ with_params [] 0 (map parameter l.params);
  room : l.next + length (drop l.p-index l.params) < 2 ^ 8;
}
