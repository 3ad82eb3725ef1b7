-- Answers of MergeBy::merge_eight: a merge that faults leaves no words, and any other word goes before the rest.
use Rattle.std.proofs.Common.{rules, ◌≡◌, ◌∙◌, ◌+◌, ℕ, ap, sym, true, get_or}
use Rattle.version_map.specs.Composing.{Merges}
use Rattle.version_map.specs.Eights.{merged_eight}
use Rattle.version_map.proofs.RowSteps.{row_goes_on, row_stops}
use Rattle.version_map.proofs.joining.MergeBy.merge_eight.Goals as goal

pub returns-in-Err-clause-value : goal.returns-in-Err-clause-value
returns-in-Err-clause-value g c =
    let merges : Merges ℕ = g.Self.MergeBy.merges c.args.self.now in
    let k = c.loop-k.k in let first = c.args.first in
    let yes : g.Self.MergeBy.row c.args.self.now first ≡ true = search rules in
    row_stops merges first c.args.main c.args.join c.args.root k c.loop-k.values c.in-Err.field-0 _ (search rules)
    (search rules) (search rules)
    (sym c.in-Err.is
    ∙ (c.merge.ensures.value
    ∙ ap (λ (m : Merges ℕ). m (first + k) (get_or c.args.main k 0) (get_or c.args.join k 0) (get_or c.args.root k 0))
    c.loop-k.invariant.1))
    c.loop-k.invariant.4
    ∙ ap (λ b. merged_eight b merges first c.args.main c.args.join c.args.root) (sym yes)

pub loop-k-preserved : goal.loop-k-preserved
loop-k-preserved g c =
    let merges : Merges ℕ = g.Self.MergeBy.merges c.args.self.now in
    let k = c.loop-k.k in let first = c.args.first in (
      c.merge.ensures.size ∙ c.loop-k.invariant.0,
      c.merge.ensures.merges ∙ c.loop-k.invariant.1,
      c.merge.ensures.row ∙ c.loop-k.invariant.2,
      search rules,
      row_goes_on merges first c.args.main c.args.join c.args.root k c.loop-k.values c.in-Ok.value _ (search rules)
          (search rules) (search rules) (search rules)
          (sym c.in-Ok.is
          ∙ (c.merge.ensures.value
          ∙ ap
          (λ (m : Merges ℕ). m (first + k) (get_or c.args.main k 0) (get_or c.args.join k 0) (get_or c.args.root k 0))
          c.loop-k.invariant.1))
          c.loop-k.invariant.4,
    )
