-- Answers of live_in: each segment adds at most 1, so the sum has no overflow.
use Rattle.std.proofs.Common.{arith, ◌≡◌, ℕ, ◌+◌, ◌*◌, ◌%◌, eqb, get_or, sym, ap, ◌∙◌, subst}
use Rattle.sparse_table.specs.Last.{words_of}
use Rattle.segment_store.proofs.Closes.{counts_next, live_at_most, nth_segment, one_at_most}
use Rattle.sparse_table.specs.Parts.{IsPart}
use Rattle.sparse_table.specs.declared.closed.Closed.{Closed}
use Rattle.segment_store.proofs.store.closing.live_in.Goals as goal

pub overflow_add-live : goal.overflow_add-live
overflow_add-live c = let i = c.loop-k.invariant in let i0 = i.0 in let i1 = i.1 in
    let m = live_at_most c.args.stride (words_of c.args.table.now) c.loop-k.k in
    let t = c.loop-k-test.true in let w = c.requires.wide in let few = w.1 in
    let e = c.busy-live.ensures in let o = one_at_most (eqb c.head.result 0) in
    omega arith

pub loop-k-preserved : goal.loop-k-preserved
loop-k-preserved c = let i = c.loop-k.invariant in (
  counts_next _ _ _ _ c.head.result _ i.0 (c.head.ensures.1 ∙ ap (λ (t : Closed). get_or (words_of t) ((c.loop-k.k +
      1) * c.args.stride) 0) i.2)
      c.busy-live.ensures,
  (let t = c.loop-k-test.true in omega arith),
  c.head.ensures.0 ∙ i.2,
)

pub head-requires : goal.head-requires
head-requires c = let at : ℕ = (c.loop-k.k + 1) * c.args.stride in let laid = c.requires.laid in
    let b = nth_segment c.args.table.now.len c.args.stride c.args.segments c.loop-k.k c.requires.wide.0
    laid.0 c.loop-k-test.true in
    subst (λ (t : Closed). IsPart t.len t.width at) (sym c.loop-k.invariant.2)
    (b.2, subst (λ (n : ℕ). at % n ≡ 0) (sym laid.1) b.1)
