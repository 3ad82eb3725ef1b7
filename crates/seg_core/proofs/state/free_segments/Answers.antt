-- Answers of free_segments: one free segment more, with the same locations, goes behind those before.
use Rattle.std.proofs.Common.{◌≡◌, List, map, refl, ap, ◌∙◌, subst, rules, ⊎_elim}
use mathlib.Core.Option.{some}
use lib.ListN.{get_elem?}
use Rattle.atomic_table.proofs.Lists.{at_snoc}
use Rattle.version_map.specs.Deltas as deltas
use Rattle.seg_core.specs.declared.segment.Segment.{Segment}
use Rattle.seg_core.specs.Shape.{seg_of}
use Rattle.seg_core.proofs.Holds.{one_more}
use Rattle.seg_core.proofs.state.free_segments.Goals as goal

pub loop-made-preserved : goal.loop-made-preserved
loop-made-preserved c = let i = c.loop-made.invariant in let items = c.in_ok-push.ensures.items in (
  ap (map seg_of) items ∙ one_more c.loop-made.segments.items c.loop-made.made _ i.0 refl,
  (search rules),
  λ j g e. ⊎_elim (λ old. i.2 j g old)
      (λ new. subst (λ (z : Segment). deltas.locations z.delta ≡ c.args.locations) new
      c.in_ok-delta.ensures.0)
      (at_snoc c.loop-made.segments.items _ g j
      (subst (λ (l : List Segment). get_elem? l j ≡ some g) items e)),
)
