-- The answers of choices_of: one row of variables after the other.
use Rattle.std.proofs.Common.{◌∙◌, ap, subst, map}
use Rattle.rev_syntax.specs.View.{program as whole}
use Rattle.typed_programs.specs.Layout.{variables}
use Rattle.revision_state.specs.Tables.{merges_in}
use Rattle.revision_state.proofs.Merges.{merges_by_row}
use Rattle.merge_kernels.specs.Terms.{definition}
use Rattle.kernel_choices.specs.Choices.{AreChoices}
use Rattle.kernel_choices.proofs.Rows.{ends}
use Rattle.kernel_choices.proofs.Rounds.{one_more}
use Rattle.kernel_choices.proofs.choosing.choices_of.Goals as goal

pub loop-info-preserved : goal.loop-info-preserved
loop-info-preserved g c =
    one_more (whole c.args.typed.now.expanded.program) (map (λ k. definition k.def) c.args.kernels.now)
    c.as_slice-rows.result.now c.loop-info.info-index _ c.in_ok-choice.choice c.loop-info.list.items _
    c.in_ok-append_copies.ensures c.in_ok-choice.ensures c.loop-info-test.true c.loop-info.invariant

pub returns : goal.returns
returns g c =
    let p = whole c.args.typed.now.expanded.program in
    let kernels = map (λ k. definition k.def) c.args.kernels.now in
    let i = c.loop-info.invariant in
    let rows = c.as_slice-rows.ensures ∙ c.args.typed.now.shared_listed in
    let all =
    ends c.as_slice-rows.result.now c.loop-info.info-index c.loop-info-test.false i.0 i.1 ∙ ap merges_in rows
    ∙ merges_by_row (variables p) in
    subst (λ ms. AreChoices p kernels ms c.loop-info.list.items) all i.2
