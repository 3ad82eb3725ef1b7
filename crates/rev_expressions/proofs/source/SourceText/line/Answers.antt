-- Answers of Source::line: the feeds before the place are counted by a search in halves, and they are few.
use Rattle.std.proofs.Common.{◌<◌, ltb, subst, sym, ap, ◌∙◌, length, arith, rules}
use Rattle.std.specs.Prelude.{◌^◌, ◌-◌}
use Rattle.std.specs.List.Sorted.{IsNonDecreasingBy, IsPartitionedBy}
use Rattle.std.proofs.lemmas.List.Sorted.{IsPartitionPoint-from_clause, IsPartitionedBy-ltb}
use Rattle.rev_expressions.proofs.Feeds.{feeds_few, feeds_sorted, line_by_table}
use Rattle.rev_expressions.proofs.source.SourceText.line.Goals as goal

-- the table has fewer places than the text has bytes
few : (c : goal.After-partition_point-before) → c.partition_point-before.result < 2 ^ 32 - 1
few c =
    let bound = c.partition_point-before.ensures.bound in
    let table = ap length (c.deref.ensures.value ∙ c.args.self.now.fed) in
    let few_feeds = feeds_few 0 c.args.self.now.bytes.now in
    omega (arith, bound, table, few_feeds, c.args.self.now.small)

pub overflow_cast-result : goal.overflow_cast-result
overflow_cast-result c = omega (arith, few c)

pub overflow_add-result : goal.overflow_add-result
overflow_add-result c = omega (arith, few c)

pub returns : goal.returns
returns c =
    let is = c.deref.ensures.value ∙ c.args.self.now.fed in
    let parted : IsPartitionedBy (λ f. ltb f c.args.at) c.deref.result.now =
    IsPartitionedBy-ltb (λ f. f) c.deref.result.now c.args.at
    (subst (IsNonDecreasingBy (λ f. f)) (sym is) (feeds_sorted c.args.self.now.bytes.now)) in
    let point =
    IsPartitionPoint-from_clause (λ f. ltb f c.args.at) _ _ c.partition_point-before.ensures.partitioned parted
    (λ a r q k. search rules) in
    line_by_table c.args.at c.args.self.now.bytes.now c.deref.result.now c.partition_point-before.result is
    c.partition_point-before.ensures.bound point
