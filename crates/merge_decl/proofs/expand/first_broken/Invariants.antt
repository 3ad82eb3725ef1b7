-- Loops of first_broken: the best so far, taken with the least that the uses left break, is the least of all.
use Rattle.std.proofs.Common.{◌≡◌, drop}
use Rattle.typed_programs.specs.FunRules as rule
use Rattle.typed_programs.specs.Least.{first_of, least}
use Rattle.name_tables.specs.Table.{find}
use Rattle.merge_decl.specs.Uses.{uses_of}
use Rattle.merge_decl.proofs.expand.first_broken.Given as goal

abbrev pub invariant-loop-u : goal.invariant-loop-u
invariant-loop-u l =
    first_of rule.place rule.rank l.best
    (least rule.place rule.rank (rule.broken_in (λ name. find name l.table) (uses_of (drop l.u-index l.uses))))
    ≡ least rule.place rule.rank (rule.broken_in (λ name. find name l.table) (uses_of l.uses))
