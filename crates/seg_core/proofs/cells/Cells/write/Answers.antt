-- Answers of Cells::write: the segment has the location and keeps how many it has, and the core has the word.
use Rattle.std.proofs.Common.{◌≡◌, ℕ, ◌<◌, sym, ◌∙◌, subst, arith, ⊎_elim}
use Rattle.atomic_table.proofs.Lists.{at_set}
use Rattle.version_map.specs.Deltas as deltas
use Rattle.seg_core.specs.declared.segment.Segment.{Segment}
use Rattle.seg_core.specs.Core.{building}
use Rattle.seg_core.specs.Shape.{shape, seg_of, delta_of}
use Rattle.seg_core.proofs.Maps.{elem_at, map_at, map_inside, segs_to, more_words}
use mathlib.Core.Option as m
use Rattle.seg_core.proofs.cells.Cells.write.Goals as goal

pub index_mut-requires : goal.index_mut-requires
index_mut-requires c = let h = map_inside seg_of c.args.self.now.segments.items c.args.segment _
    c.requires.built.2 in omega arith

pub invariant_of-self-clause-sized : goal.invariant_of-self-clause-sized
invariant_of-self-clause-sized c = λ i g e. let h =
    map_inside seg_of c.args.self.now.segments.items c.args.segment _ c.requires.built.2 in
    let was = elem_at c.args.self.now.segments.items c.args.segment c.index_mut.result.now
    c.index_mut.ensures.value h in ⊎_elim
    (λ (t : (i ≡ c.args.segment) × (c.write.new.self ≡ g)).
    subst (λ (z : Segment). deltas.locations z.delta ≡ c.args.self.now.locations) t.1
    (c.write.ensures.size ∙ c.args.self.now.sized c.args.segment c.index_mut.result.now was))
    (λ t. c.args.self.now.sized i g t.1)
    (at_set c.args.self.now.segments.items c.args.segment i c.write.new.self g e)

pub write-requires : goal.write-requires
write-requires c = let h = map_inside seg_of c.args.self.now.segments.items c.args.segment _
    c.requires.built.2 in let g = c.index_mut.result.now in
    let was = elem_at c.args.self.now.segments.items c.args.segment g c.index_mut.ensures.value h in
    subst (λ (n : ℕ). c.args.location < n) (sym (c.args.self.now.sized c.args.segment g was))
    c.requires.inside

pub returns : goal.returns
returns c = λ b d at. let h = map_inside seg_of c.args.self.now.segments.items c.args.segment _
    c.requires.built.2 in let g = c.index_mut.result.now in
    let was = elem_at c.args.self.now.segments.items c.args.segment g c.index_mut.ensures.value h in
    segs_to c.args.self.now.segments.items c.args.self.now.holders.items c.args.self.now.locations
    c.args.segment c.write.new.self _
    ((λ i. shape (c.write.ensures.stage i) (c.write.ensures.here i))
    ∙ more_words g.stage (delta_of g) d b c.args.location c.args.word
    (m.some-injective (seg_of g) (building b d)
    (sym (map_at seg_of c.args.self.now.segments.items c.args.segment g was) ∙ at)))
