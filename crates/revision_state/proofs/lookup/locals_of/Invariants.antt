-- Loops of locals_of: the locals are those that the values taken so far give.
use Rattle.std.proofs.Common.{◌≡◌, map}
use Rattle.rev_syntax.specs.View.{parameter}
use Rattle.typed_programs.specs.Definitions.{names_of}
use Rattle.revision_calculus.specs.Step.{locals_of}
use Rattle.revision_state.proofs.lookup.locals_of.Given as goal

abbrev pub invariant-loop-value : goal.invariant-loop-value
invariant-loop-value l = l.locals ≡ locals_of (names_of (map parameter l.params)) l.yielded
