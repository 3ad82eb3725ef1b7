-- Answers of kernel_of: a number beyond the merges has no definition, and so no kernel.
use Rattle.std.proofs.Common.{ap, arith, refl, sym, subst, length, map}
use Rattle.std.specs.Prelude.{List, None, Option}
use Rattle.rev_syntax.specs.Trees.{Expression}
use Rattle.typed_programs.specs.declared.expanded.MergeRef.{MergeRef}
use Rattle.merge_kernels.specs.Terms.{definition}
use Rattle.kernel_choices.specs.Choices.{IsPlaceOf}
use Rattle.kernel_choices.proofs.Beyond.{no_term}
use Rattle.kernel_choices.proofs.choosing.kernel_of.Goals as goal

-- a number beyond the merges
pub returns-then-merge-as_slice : goal.returns-then-merge-as_slice
returns-then-merge-as_slice g c =
    let past = c.if-merge-as_slice.true in
    let many = ap (λ (l : List MergeRef). length l) c.as_slice.ensures in
    let none = no_term c.args.typed.now.expanded c.args.merge (omega (arith, past, many)) in
    subst (λ (t : Option Expression). IsPlaceOf t (map (λ k. definition k.def) c.args.kernels.now) None) (sym none) refl
