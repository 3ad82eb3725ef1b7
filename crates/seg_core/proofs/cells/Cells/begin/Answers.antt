-- Answers of Cells::begin: the segment keeps its locations, and in the core the holder builds it without words.
use Rattle.std.proofs.Common.{◌≡◌, ◌∙◌, subst, arith, ⊎_elim}
use Rattle.atomic_table.proofs.Lists.{at_set}
use Rattle.version_map.specs.Deltas as deltas
use Rattle.seg_core.specs.declared.segment.Segment.{Segment}
use Rattle.seg_core.specs.Core.{free}
use Rattle.seg_core.specs.Shape.{seg_of}
use Rattle.seg_core.proofs.Maps.{elem_at, map_inside, segs_to}
use Rattle.seg_core.proofs.cells.Cells.begin.Goals as goal

pub index_mut-requires : goal.index_mut-requires
index_mut-requires c = let h = map_inside seg_of c.args.self.now.segments.items c.args.segment free
    c.requires in omega arith

pub invariant_of-self-clause-sized : goal.invariant_of-self-clause-sized
invariant_of-self-clause-sized c = λ i g e. let h =
    map_inside seg_of c.args.self.now.segments.items c.args.segment free c.requires in
    let was = elem_at c.args.self.now.segments.items c.args.segment c.index_mut.result.now
    c.index_mut.ensures.value h in ⊎_elim
    (λ (t : (i ≡ c.args.segment) × (c.begin.new.self ≡ g)).
    subst (λ (z : Segment). deltas.locations z.delta ≡ c.args.self.now.locations) t.1
    (c.begin.ensures.size ∙ c.args.self.now.sized c.args.segment c.index_mut.result.now was))
    (λ t. c.args.self.now.sized i g t.1)
    (at_set c.args.self.now.segments.items c.args.segment i c.begin.new.self g e)

pub returns : goal.returns
returns c = segs_to c.args.self.now.segments.items c.args.self.now.holders.items
    c.args.self.now.locations c.args.segment c.begin.new.self _ c.begin.ensures.here
