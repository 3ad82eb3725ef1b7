-- Answers of KernelPlan::row: the one choice is the number of a kernel of the plan, whose definition the row has.
use Rattle.std.proofs.Common.{◌∙◌, ◌<◌, ap, sym, subst, Some, map}
use Rattle.std.specs.Prelude.{is_some}
use Rattle.std.proofs.lemmas.List.{length-map}
use Rattle.merge_kernels.specs.Terms.{definition}
use Rattle.merge_kernels.proofs.RowChoices.{within_here, none_here, no_row_told, none_told, row_same}
use Rattle.merge_kernels.proofs.plan.KernelPlan.row.Goals as goal

pub kernel_at-requires : goal.kernel_at-requires
kernel_at-requires g c =
    let kernels = map (λ k. definition k.def) c.args.self.now.kernels.now in
    subst (λ m. c.in-Some.n < m) (length-map c.args.self.now.kernels.now (λ k. definition k.def))
    (within_here c.args.self.now.choices.items kernels c.args.first c.in-Some.n (sym c.choice.ensures ∙ c.in-Some.is)
    c.args.self.now.within)

pub returns-in_default-clause-any : goal.returns-in_default-clause-any
returns-in_default-clause-any g c =
    no_row_told c.args.self.now.choices.items (map (λ k. is_some k.row) c.args.self.now.kernels.now) c.args.first
    (none_here c.args.self.now.choices.items c.args.first (sym c.choice.ensures ∙ c.in_default.is))

pub returns-in_default-row-clause-any : goal.returns-in_default-row-clause-any
returns-in_default-row-clause-any g c =
    none_told c.args.self.now.choices.items (map (λ k. is_some k.row) c.args.self.now.kernels.now) c.args.first
    c.in-Some.n
    (sym c.choice.ensures ∙ c.in-Some.is) (c.kernel_at.ensures.row ∙ ap Some (sym c.in_default-row.ensures.any))

pub returns-then-is_one_choice-clause-row : goal.returns-then-is_one_choice-clause-row
returns-then-is_one_choice-clause-row g c =
    let kernels = map (λ k. definition k.def) c.args.self.now.kernels.now in
    row_same c.args.self.now.choices.items kernels c.args.first c.in-Some.n _ _ c.in-Some-row.ensures.same
    c.if-is_one_choice.ensures c.kernel_at.ensures.def
