-- Loops of trail: the trail so far, led on through the statements or arms left, is the trail through all of them.
use Rattle.std.proofs.Common.{◌≡◌, drop, false}
use Rattle.rev_syntax.specs.View.{arms, stmts}
use Rattle.affine_check.specs.Walk as rule
use Rattle.affine_check.proofs.trail.+trail.Given as goal

abbrev pub invariant-statements-loop-s : goal.invariant-statements-loop-s
invariant-statements-loop-s l =
    rule.trail l.name l.inside l.now (stmts (drop l.s-index l.all))
    ≡ rule.trail l.name l.inside l.initial.now (stmts l.all)

abbrev pub invariant-blocks-loop-a : goal.invariant-blocks-loop-a
invariant-blocks-loop-a l =
    rule.trail_arms l.name l.inside l.trail l.taken (arms (drop l.a-index l.all))
    ≡ rule.trail_arms l.name l.inside l.trail (rule.start false) (arms l.all)
