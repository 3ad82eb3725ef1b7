-- Answers of Cells::turn: the segment keeps its locations, and its words too where it was not free.
use Rattle.std.proofs.Common.{◌≡◌, sym, ap, ◌∙◌, subst, arith, ⊎_elim}
use Rattle.atomic_table.proofs.Lists.{at_set}
use Rattle.version_map.specs.Deltas as deltas
use Rattle.seg_core.specs.declared.segment.Segment.{Segment}
use Rattle.seg_core.specs.declared.segment.Stage.{Stage}
use Rattle.seg_core.specs.Shape.{shape, seg_of, delta_of}
use Rattle.seg_core.proofs.Maps.{elem_at, map_at, map_inside, segs_to, same_delta}
use mathlib.Core.Option as m
use Rattle.seg_core.proofs.cells.Cells.turn.Goals as goal

pub index_mut-requires : goal.index_mut-requires
index_mut-requires c = let h = map_inside seg_of c.args.self.now.segments.items c.args.segment _
    c.requires.2 in omega arith

pub invariant_of-self-clause-sized : goal.invariant_of-self-clause-sized
invariant_of-self-clause-sized c = λ i g e. let h =
    map_inside seg_of c.args.self.now.segments.items c.args.segment _ c.requires.2 in
    let was = elem_at c.args.self.now.segments.items c.args.segment c.index_mut.result.now
    c.index_mut.ensures.value h in ⊎_elim
    (λ (t : (i ≡ c.args.segment) × (c.turn.new.self ≡ g)).
    subst (λ (z : Segment). deltas.locations z.delta ≡ c.args.self.now.locations) t.1
    (c.turn.ensures.size ∙ c.args.self.now.sized c.args.segment c.index_mut.result.now was))
    (λ t. c.args.self.now.sized i g t.1)
    (at_set c.args.self.now.segments.items c.args.segment i c.turn.new.self g e)

pub returns-clause-words : goal.returns-clause-words
returns-clause-words c = λ x d ne at. let h = map_inside seg_of c.args.self.now.segments.items
    c.args.segment _ c.requires.2 in let g = c.index_mut.result.now in
    let was = elem_at c.args.self.now.segments.items c.args.segment g c.index_mut.ensures.value h in
    segs_to c.args.self.now.segments.items c.args.self.now.holders.items c.args.self.now.locations
    c.args.segment c.turn.new.self _
    (c.turn.ensures.here
    ∙ ap (shape c.args.stage) (same_delta g.stage x (delta_of g) d ne
    (m.some-injective (seg_of g) (shape x d)
    (sym (map_at seg_of c.args.self.now.segments.items c.args.segment g was) ∙ at))))

pub returns-clause-free : goal.returns-clause-free
returns-clause-free c = λ e. segs_to c.args.self.now.segments.items c.args.self.now.holders.items
    c.args.self.now.locations c.args.segment c.turn.new.self _ (c.turn.ensures.here
    ∙ ap (λ (s : Stage). shape s (delta_of c.index_mut.result.now)) e)
