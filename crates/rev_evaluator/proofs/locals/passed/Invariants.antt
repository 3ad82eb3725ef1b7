-- Loops of passed: what was found, with the parameters left bound over it, is what all the parameters bind.
use Rattle.std.proofs.Common.{◌≡◌, drop, map, option_map}
use Rattle.rev_syntax.specs.View.{parameter}
use Rattle.typed_programs.specs.Definitions.{names_of}
use Rattle.rev_evaluator.specs.Seen.{seen}
use Rattle.typed_programs.specs.Value.{bind_all, nothing}
use Rattle.rev_evaluator.proofs.locals.passed.Given as goal

abbrev pub invariant-loop-i : goal.invariant-loop-i
invariant-loop-i l =
    bind_all (λ m. option_map seen l.found) (names_of (map parameter (drop l.i l.params)))
    (map seen (drop l.i l.values)) l.name
    ≡ bind_all nothing (names_of (map parameter l.params)) (map seen l.values) l.name
