-- Answers of Store::absorb_whole: each location of the row had no value, and has the segment's.
use Rattle.std.proofs.Common.{arith, ◌≡◌, ◌∙◌, ◌+◌, ◌-◌, ◌*◌, ◌/◌, ◌%◌, ◌<◌, ℕ, Option, Some, None, ap, sym, refl, subst}
use Rattle.std.specs.Prelude.{slice_index}
use Rattle.std.specs.Int.{bit_at}
use Rattle.std.proofs.lemmas.Nat.Bits.{bit_at_ones}
use Rattle.version_map.specs.Deltas.{at}
use Rattle.segment_store.specs.Base.{absorbed}
use Rattle.segment_store.specs.Same.{IsWord}
use Rattle.segment_store.proofs.Fills.{empty_row}
use Rattle.segment_store.proofs.Taken.{taken_some}
use Rattle.segment_store.proofs.ChainWalks.{row_of}
use Rattle.segment_store.proofs.store.Store.absorb_whole.Goals as goal

pub returns-clause-values : goal.returns-clause-values
returns-clause-values c = λ l lo hi e has seg whole.
    let s = c.args.self.now in let row = c.args.row in let segment = c.args.segment in
    let k : ℕ = l - 64 * row in
    let y = slice_index c.read_row.new.words k in
    let within : k < 64 = omega (arith, lo, hi) in
    let bits = c.requires.all.0 in
    let whole_row = c.requires.all.2 in
    let inside = whole_row.1 in let size = c.requires.own.1 in
    let w = s.wide in let w0 = w.0 in
    let at_row : row ≡ l / 64 = omega (arith, lo, hi) in
    let here : 64 * row + k ≡ l = omega (arith, lo) in
    let there : segment + (2 + s.masks + 64 * row) + k ≡ segment + (2 + s.masks + l) = omega (arith, lo) in
    let low = row_of s.masks _ l s.rowed.0 (omega (arith, hi)) in
    let old : at c.args.into.now l ≡ None = empty_row c.args.into.now row l whole_row.2 lo hi in
    let new : at c.set_row.new.self l ≡ Some y =
    subst (λ (j : ℕ). at c.set_row.new.self j ≡ Some y) here (c.set_row.ensures.here k within) in
    new
    ∙ (taken_some s.words s.stride s.masks segment l bits y c.args.seat.now c.args.seat.now e has refl seg whole
    (subst (λ (r : ℕ). IsWord c.args.seat.now (segment + (2 + r)) bits) at_row c.requires.all.1)
    (subst (λ (i : ℕ). IsWord c.args.seat.now i y) there (c.read_row.ensures.words k within))
    low (omega (arith, hi)) (ap (λ (b : ℕ). bit_at b (l % 64)) whole_row.0 ∙ bit_at_ones 64 (l % 64) (omega arith))
    ∙ ap (λ (o : Option ℕ). absorbed s.masks e o l) (sym old))
