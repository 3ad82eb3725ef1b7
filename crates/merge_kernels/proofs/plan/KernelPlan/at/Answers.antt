-- Answers of KernelPlan::at: the choice is the number of a kernel of the plan, whose definition was chosen.
use Rattle.std.proofs.Common.{◌∙◌, ◌<◌, ap, sym, subst, map, slice_get}
use Rattle.std.specs.Prelude.{option_and_then}
use Rattle.std.proofs.lemmas.List.{length-map}
use Rattle.merge_kernels.specs.Terms.{definition}
use Rattle.merge_kernels.proofs.RowChoices.{within_here}
use Rattle.merge_kernels.proofs.plan.KernelPlan.at.Goals as goal

pub kernel_at-requires : goal.kernel_at-requires
kernel_at-requires g c =
    let kernels = map (λ k. definition k.def) c.args.self.now.kernels.now in
    subst (λ m. c.in-Some.n < m) (length-map c.args.self.now.kernels.now (λ k. definition k.def))
    (within_here c.args.self.now.choices.items kernels c.args.location c.in-Some.n
    (sym c.choice.ensures ∙ c.in-Some.is) c.args.self.now.within)

pub returns-in-Some : goal.returns-in-Some
returns-in-Some g c =
    let kernels = map (λ k. definition k.def) c.args.self.now.kernels.now in
    sym c.kernel_at.ensures.def ∙ ap (option_and_then (slice_get kernels)) (sym c.in-Some.is ∙ c.choice.ensures)
