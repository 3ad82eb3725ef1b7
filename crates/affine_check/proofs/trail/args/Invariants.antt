-- Loops of args: the trail so far, led on through the arguments left, is the trail through all of them.
use Rattle.std.proofs.Common.{◌≡◌, drop}
use Rattle.rev_syntax.specs.View.{expressions}
use Rattle.affine_check.specs.Walk as rule
use Rattle.affine_check.proofs.trail.args.Given as goal

abbrev pub invariant-loop-arg : goal.invariant-loop-arg
invariant-loop-arg l =
    rule.trail_args l.name l.inside l.now (expressions (drop l.arg-index l.all))
    ≡ rule.trail_args l.name l.inside l.initial.now (expressions l.all)
