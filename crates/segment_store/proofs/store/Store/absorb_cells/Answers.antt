-- Answers of Store::absorb_cells: a bit more that the delta lacks is taken in, and those before it keep what they had.
use Rattle.std.proofs.Common.{arith, ◌≡◌, ℕ, ◌+◌, ◌*◌, Some, ◌∙◌, subst}
use Rattle.segment_store.proofs.Missing.{Row, row_more, row_past, taken, took}
use Rattle.segment_store.proofs.store.Store.absorb_cells.Goals as goal

pub loop-k-smaller : goal.loop-k-smaller
loop-k-smaller c =
    let low = c.in-Some.ensures.found.0 in
    let high = c.in-Some.ensures.found.1 in omega (arith, low, high)

pub loop-k-preserved : goal.loop-k-preserved
loop-k-preserved c =
    let i = c.loop-k.invariant in let s = c.args.self.now in let d = c.args.into.now in
    let row = c.args.row in let k = c.in-Some.k in let from = c.loop-k.from in
    let first : ℕ = 64 * row in
    let found = c.in-Some.ensures.found in let low = found.0 in let high = found.1 in
    let wide = s.wide.0 in let inside = c.if-l-len.false in let many = c.len.ensures in
    let takes = taken s.words s.stride s.masks c.args.segment row c.args.bits c.mask_row.result c.args.seat.now d
    c.mask_row.type_inv c.mask_row.ensures c.requires.inside c.requires.bits in
    let past : Row first takes d (first + k) c.loop-k.into =
    row_past s.words s.stride s.masks c.args.segment row c.args.bits c.mask_row.result c.args.seat.now d
    c.mask_row.type_inv c.mask_row.ensures c.requires.inside c.requires.bits from k c.loop-k.into
    (i.1, omega arith, i.3, i.4, i.5) low (omega (arith, high)) c.in-Some.ensures.between in
    let more : Row first takes d (first + k + 1) c.set.new.self =
    row_more first takes d (first + k) c.loop-k.into c.set.new.self (Some c.word-word.result) past
    (took s.words s.stride s.masks c.args.segment row c.args.bits c.mask_row.result c.args.seat.now d
    c.mask_row.type_inv c.mask_row.ensures c.requires.inside c.requires.bits k c.word-word.result c.loop-k.seat high
    found.2 i.0.2 c.word-word.ensures.word (omega (arith, wide, inside, many)))
    c.set.ensures.size c.set.ensures.here c.set.ensures.others in
    let next : first + k + 1 ≡ first + (k + 1) = omega arith in
    let now : Row first takes d (first + (k + 1)) c.set.new.self =
    subst (λ (n : ℕ). Row first takes d n c.set.new.self) next more in
    let same = c.word-word.ensures.same in (
      (same.0 ∙ i.0.0, same.1 ∙ i.0.1, same.2 ∙ i.0.2),
      now.0,
      omega (arith, high),
      now.2,
      now.3,
      now.4,
    )

pub returns-then-l-len-clause-values : goal.returns-then-l-len-clause-values
returns-then-l-len-clause-values c =
    let i = c.loop-k.invariant in let s = c.args.self.now in let d = c.args.into.now in
    let k = c.in-Some.k in let found = c.in-Some.ensures.found in let high = found.1 in
    let past = row_past s.words s.stride s.masks c.args.segment c.args.row c.args.bits c.mask_row.result
    c.args.seat.now d c.mask_row.type_inv c.mask_row.ensures c.requires.inside c.requires.bits c.loop-k.from k
    c.loop-k.into (i.1, omega arith, i.3, i.4, i.5) found.0 (omega (arith, high)) c.in-Some.ensures.between in
    λ l lo hi lt.
    let end = c.if-l-len.true in let many = c.len.ensures in let size = c.requires.own.1 in
    past.4 l lo (omega (arith, lt, end, many, size))

pub returns-clause-after : goal.returns-clause-after
returns-clause-after c = λ l le. let few = c.loop-k.invariant.2 in c.loop-k.invariant.3 l (omega (arith, le, few))

pub returns-clause-values : goal.returns-clause-values
returns-clause-values c =
    let i = c.loop-k.invariant in let s = c.args.self.now in let d = c.args.into.now in
    let past = row_past s.words s.stride s.masks c.args.segment c.args.row c.args.bits c.mask_row.result
    c.args.seat.now d c.mask_row.type_inv c.mask_row.ensures c.requires.inside c.requires.bits c.loop-k.from 64
    c.loop-k.into (i.1, omega arith, i.3, i.4, i.5) i.2 (omega arith) (λ k lo hi. c.in_default.ensures.none k lo) in
    λ l lo hi lt. past.4 l lo hi
