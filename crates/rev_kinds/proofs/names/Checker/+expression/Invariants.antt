-- Loops of Checker::expression: the first fault so far, with those of the arguments or links left, is that of all.
use Rattle.std.proofs.Common.{◌≡◌, drop, map, None}
use Rattle.rev_syntax.specs.View.{expressions, links, parameter}
use Rattle.rev_kinds.specs.Walk as rule
use Rattle.rev_kinds.proofs.names.Checker.+expression.Given as goal

abbrev pub invariant-args-loop-i : goal.invariant-args-loop-i
invariant-args-loop-i l =
    rule.args_by (rule.names_of l.self) l.locals (map parameter l.params) l.i l.found (expressions (drop l.i l.args))
    ≡ rule.args_by (rule.names_of l.self) l.locals (map parameter l.params) 0 None (expressions l.args)

abbrev pub invariant-links-loop-link : goal.invariant-links-loop-link
invariant-links-loop-link l =
    rule.broken_in_links (rule.names_of l.self) l.locals l.left l.found (links (drop l.link-index l.rest))
    ≡ rule.broken_in_links (rule.names_of l.self) l.locals l.left l.initial.found (links l.rest)
