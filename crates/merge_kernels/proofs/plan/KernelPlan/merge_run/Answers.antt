-- Answers of KernelPlan::merge_run: the definition that was chosen for the first was chosen for the run.
use Rattle.std.proofs.Common.{◌∙◌, ap, sym, map}
use Rattle.std.specs.Prelude.{option_map}
use Rattle.std.specs.Option.{option_copied}
use Rattle.version_map.proofs.RowParts.{none_put}
use Rattle.merge_kernels.specs.Terms.{definition}
use Rattle.merge_kernels.specs.Words.{overlaid}
use Rattle.merge_kernels.proofs.RowRuns.{run_values}
use Rattle.merge_kernels.proofs.plan.KernelPlan.merge_run.Goals as goal

pub returns-in_default-clause-put : goal.returns-in_default-clause-put
returns-in_default-clause-put g c = λ inner.
    none_put _ c.args.mains.now c.args.written.now c.args.at c.args.values.now

pub returns-clause-put : goal.returns-clause-put
returns-clause-put g c = λ inner.
    let plan = c.args.self.now in
    let kernels = map (λ k. definition k.def) plan.kernels.now in
    let many = c.following-many.result in
    c.put_run.ensures.put (overlaid plan.choices.items kernels inner) _ c.following-many.ensures.run
    (run_values plan.choices.items kernels inner _ c.level_from.result many (definition c.in-Some.kernel.now.def)
    c.level_from.ensures
    (sym c.at.ensures ∙ ap (λ o. option_map (λ k. definition k.def) (option_copied o)) c.in-Some.is)
    c.following-many.ensures.most)
