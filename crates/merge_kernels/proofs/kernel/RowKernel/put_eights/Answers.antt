-- Answers of RowKernel::put_eights: an eight more is put, by the numbers of its words.
-- The box that is called is the one that the
-- facts are of.
use Rattle.std.proofs.Common.{rules, ◌≡◌, ◌∙◌, ◌+◌, ◌*◌, ap, sym, refl, subst, length, map, arith}
use Rattle.std.proofs.lemmas.List.{length-map}
use Rattle.rev_num.specs.Words.{int_of, word_of}
use Rattle.version_map.specs.Parts.{HasPut}
use Rattle.version_map.proofs.RowParts.{none_put}
use Rattle.merge_kernels.specs.Terms.{definition}
use Rattle.merge_kernels.proofs.RowRuns.{one_more, row_put}
use Rattle.merge_kernels.proofs.kernel.RowKernel.put_eights.Goals as goal

pub loop-eight-init : goal.loop-eight-init
loop-eight-init g c = (refl, λ m first f v. none_put m c.args.mains.now c.args.written.now c.args.at c.args.values.now)

pub loop-eight-preserved : goal.loop-eight-preserved
loop-eight-preserved g c =
    let e = definition c.args.self.now.def in
    let done = 8 * c.loop-eight.eight in
    let main = c.ints_of.result in
    let join = c.ints_of-in-loop-eight.result in
    let root = c.ints_of-in-loop-eight-2.result in
    let posted =
    subst (λ p. (g.dyn-1.0.entry p.0).1.post p.1 (main, (join, (root, tt {0}))) c.call.result)
    c.deref_box-1.ensures.1 c.call.ensures.0 in
    let is =
    c.args.self.now.answers main join root c.ints_of.ensures.lanes c.ints_of-in-loop-eight.ensures.lanes
    c.ints_of-in-loop-eight-2.ensures.lanes
    c.call.result posted in
    let eight : length c.in-Some.ints ≡ 8 = search rules in
    let row =
    row_put e c.args.mains.now c.args.written.now (c.args.at + done) c.loop-eight.values c.put_lanes.new.values
    main join root
    (c.ints_of.ensures.ints ∙ ap (map int_of) c.eight_words.ensures)
    (c.ints_of-in-loop-eight.ensures.ints ∙ ap (map int_of) c.eight_values.ensures)
    (c.ints_of-in-loop-eight-2.ensures.ints ∙ ap (map int_of) c.eight_roots.ensures)
    (c.in-Some.ints, sym is ∙ c.in-Some.is, (length-map c.in-Some.ints word_of ∙ eight, c.put_lanes.ensures.put)) in
    let next : done + 8 ≡ 8 * (c.loop-eight.eight + 1) = omega arith in (
      c.put_lanes.ensures.length ∙ c.loop-eight.invariant.0,
      λ m first f v.
          subst (λ n. HasPut m c.args.mains.now c.args.written.now c.args.at n c.args.values.now c.put_lanes.new.values)
          next
          (one_more e m c.args.mains.now c.args.written.now c.args.at first (8 * c.args.eights) done
          c.args.values.now c.loop-eight.values c.put_lanes.new.values
          c.requires.mains c.requires.inside (omega arith) f v (c.loop-eight.invariant.1 m first f v) row),
    )
