-- Loops of choices_of: the choices so far are those of the merges so far, which with those left are all.
use Rattle.std.proofs.Common.{◌≡◌, ◌++◌, ℕ, List, Option, drop, map}
use Rattle.rev_syntax.specs.View.{program as whole}
use Rattle.revision_state.specs.Tables.{merges_in}
use Rattle.merge_kernels.specs.Terms.{definition}
use Rattle.kernel_choices.specs.Choices.{AreChoices}
use Rattle.kernel_choices.proofs.choosing.choices_of.Given as goal

-- the choices so far are those of the merges so far
abbrev pub invariant-loop-info : goal.invariant-loop-info
invariant-loop-info g l =
    (ms : List (Option ℕ)) × (ms ++ merges_in (drop l.info-index l.rows) ≡ merges_in l.rows)
    × AreChoices (whole l.typed.expanded.program) (map (λ k. definition k.def) l.kernels) ms l.list.items
