-- Loops of numbers: the numbers so far, with those of the uses left, are the numbers of all uses.
use Rattle.std.proofs.Common.{◌≡◌, ◌++◌, drop}
use Rattle.typed_programs.specs.FunRules as rule
use Rattle.name_tables.specs.Table.{find}
use Rattle.merge_decl.specs.Uses.{uses_of}
use Rattle.merge_decl.proofs.expand.numbers.Given as goal

abbrev pub invariant-loop-u : goal.invariant-loop-u
invariant-loop-u l =
    l.all.items ++ rule.numbers_of (λ name. find name l.table) (uses_of (drop l.u-index l.uses))
    ≡ rule.numbers_of (λ name. find name l.table) (uses_of l.uses)
