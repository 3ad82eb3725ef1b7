-- Loops of copies: the first copy so far, with the walk of the arguments or links left, is that of the walk of all.
use Rattle.std.proofs.Common.{◌≡◌, drop, None}
use Rattle.rev_syntax.specs.View.{expressions, links}
use Rattle.affine_check.specs.Walk as rule
use Rattle.affine_check.proofs.copies.+copies.Given as goal

abbrev pub invariant-copied_args-loop-arg : goal.invariant-copied_args-loop-arg
invariant-copied_args-loop-arg l =
    rule.copied_args l.locals l.copies l.found (expressions (drop l.arg-index l.args))
    ≡ rule.copied_args l.locals l.copies None (expressions l.args)

abbrev pub invariant-copied_links-loop-link : goal.invariant-copied_links-loop-link
invariant-copied_links-loop-link l =
    rule.copied_links l.locals l.copies l.found (links (drop l.link-index l.rest))
    ≡ rule.copied_links l.locals l.copies l.initial.found (links l.rest)
