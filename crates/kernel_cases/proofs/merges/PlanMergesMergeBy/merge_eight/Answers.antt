-- Answers of PlanMerges::merge_eight: the row that was chosen merges all eight words, and else none are merged.
use Rattle.std.proofs.Common.{rules, ◌≡◌, ◌∙◌, ap, sym, length, map}
use Rattle.version_map.specs.Eights.{merged_eight}
use Rattle.merge_kernels.specs.Terms.{definition}
use Rattle.merge_kernels.specs.Words.{overlaid}
use Rattle.kernel_cases.specs.Versioned.{versioned}
use Rattle.merge_kernels.proofs.RowWords.{chosen_row}
use Rattle.kernel_cases.proofs.merges.PlanMergesMergeBy.merge_eight.Goals as goal

pub returns-in-Some-clause-value : goal.returns-in-Some-clause-value
returns-in-Some-clause-value g c =
    let plan = c.args.self.now.plan.now in
    let kernels = map (λ k. definition k.def) plan.kernels.now in
    let inner = versioned in
    let eight : length c.args.main ≡ 8 = search rules in
    c.by_row.ensures
    ∙ sym (chosen_row plan.choices.items kernels inner c.args.first _ c.args.main c.args.join c.args.root eight
    c.in-Some.ensures.row)
    ∙ ap
    (λ b. merged_eight b (overlaid plan.choices.items kernels inner) c.args.first c.args.main c.args.join c.args.root)
    c.in-Some.ensures.any

pub returns-in-None-clause-value : goal.returns-in-None-clause-value
returns-in-None-clause-value g c =
    let plan = c.args.self.now.plan.now in
    let kernels = map (λ k. definition k.def) plan.kernels.now in
    let inner = versioned in
    ap (λ b. merged_eight b (overlaid plan.choices.items kernels inner) c.args.first c.args.main c.args.join
    c.args.root)
    c.in-None.ensures.any
