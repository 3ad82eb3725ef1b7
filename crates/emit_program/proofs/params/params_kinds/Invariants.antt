-- Loops of params_kinds: the kinds so far, with those of the parameters left, are the kinds of all.
use Rattle.std.proofs.Common.{◌≡◌, ◌++◌, drop, map}
use Rattle.rev_syntax.specs.View.{parameter}
use Rattle.code_generation.specs.Generated.{kinds_of}
use Rattle.emit_program.proofs.params.params_kinds.Given as goal

abbrev pub invariant-loop-p : goal.invariant-loop-p
invariant-loop-p l =
    l.kinds.items ++ kinds_of (map parameter (drop l.p-index l.params)) ≡ kinds_of (map parameter l.params)
