-- Answers of Delta::set_row: the row's bits and words are set, and the bits and words of all other rows stay.
use Rattle.std.proofs.Common.{arith, ◌≡◌, ◌∙◌, ◌+◌, ◌-◌, ◌*◌, set, subst, sym, ℕ}
use Rattle.std.proofs.lemmas.List.{length-set}
use Rattle.std.proofs.lemmas.Nat.Bits.{bit_at_ones}
use Rattle.version_map.specs.Deltas.{mask_of}
use Rattle.version_map.specs.Masks.{IsSummary}
use Rattle.version_map.proofs.Bits.{has_row}
use Rattle.version_map.proofs.Summaries.{summary_after, both_set}
use Rattle.version_map.proofs.WholeRows.{part_is, row_here, row_bit, row_else, row_mask, ones}
use Rattle.version_map.proofs.delta.Delta.set_row.Goals as goal

pub returns-clause-here : goal.returns-clause-here
returns-clause-here c = λ j lt.
    let d = c.args.self.now in let s = d.sized in let row = c.args.row in
    let k : ℕ = 64 * row + 64 - 64 * row in
    let wide : k ≡ 64 = omega arith in let many = c.requires.words ∙ sym wide in
    let long = sym d.cells.ok.0 in
    let kept = length-set d.cells.items (d.count + row) ones in
    row_here d.count row k d.cells.items c.args.words.now _ c.requires.row (omega arith) many wide
    (part_is d.cells.len (64 * row) k (set d.cells.items (d.count + row) ones) _ c.args.words.now _
    c.deref_mut.ensures.value c.copy_from_slice.ensures.after many (omega arith) (kept ∙ long)) j lt

pub returns-clause-before : goal.returns-clause-before
returns-clause-before c = λ l lt.
    let d = c.args.self.now in let s = d.sized in let row = c.args.row in
    let k : ℕ = 64 * row + 64 - 64 * row in
    let wide : k ≡ 64 = omega arith in let many = c.requires.words ∙ sym wide in
    let long = sym d.cells.ok.0 in
    let kept = length-set d.cells.items (d.count + row) ones in
    row_else d.count row k d.cells.items c.args.words.now _ c.requires.row (omega arith) many wide
    (part_is d.cells.len (64 * row) k (set d.cells.items (d.count + row) ones) _ c.args.words.now _
    c.deref_mut.ensures.value c.copy_from_slice.ensures.after many (omega arith) (kept ∙ long))
    d.clean l (λ e. omega arith)

pub returns-clause-after : goal.returns-clause-after
returns-clause-after c = λ l le.
    let d = c.args.self.now in let s = d.sized in let row = c.args.row in
    let k : ℕ = 64 * row + 64 - 64 * row in
    let wide : k ≡ 64 = omega arith in let many = c.requires.words ∙ sym wide in
    let long = sym d.cells.ok.0 in
    let kept = length-set d.cells.items (d.count + row) ones in
    row_else d.count row k d.cells.items c.args.words.now _ c.requires.row (omega arith) many wide
    (part_is d.cells.len (64 * row) k (set d.cells.items (d.count + row) ones) _ c.args.words.now _
    c.deref_mut.ensures.value c.copy_from_slice.ensures.after many (omega arith) (kept ∙ long))
    d.clean l (λ e. omega arith)

pub invariant_of-self-clause-clean : goal.invariant_of-self-clause-clean
invariant_of-self-clause-clean c = λ l le.
    let d = c.args.self.now in let s = d.sized in let row = c.args.row in
    let k : ℕ = 64 * row + 64 - 64 * row in
    let wide : k ≡ 64 = omega arith in let many = c.requires.words ∙ sym wide in
    let long = sym d.cells.ok.0 in
    let kept = length-set d.cells.items (d.count + row) ones in
    row_bit d.count row k d.cells.items c.args.words.now _ c.requires.row (omega arith) many wide
    (part_is d.cells.len (64 * row) k (set d.cells.items (d.count + row) ones) _ c.args.words.now _
    c.deref_mut.ensures.value c.copy_from_slice.ensures.after many (omega arith) (kept ∙ long))
    l (λ e. omega arith) ∙ d.clean l le

pub invariant_of-self-clause-summed : goal.invariant_of-self-clause-summed
invariant_of-self-clause-summed c =
    let d = c.args.self.now in let s = d.sized in let row = c.args.row in
    let k : ℕ = 64 * row + 64 - 64 * row in
    let wide : k ≡ 64 = omega arith in let many = c.requires.words ∙ sym wide in
    let long = sym d.cells.ok.0 in
    let kept = length-set d.cells.items (d.count + row) ones in
    let summary = c.with_bit-self.result in
    subst (IsSummary summary)
    (sym
    (row_mask d.count row k d.cells.items c.args.words.now _ c.requires.row (omega arith) many wide
    (part_is d.cells.len (64 * row) k (set d.cells.items (d.count + row) ones) _ c.args.words.now _
    c.deref_mut.ensures.value c.copy_from_slice.ensures.after many (omega arith) (kept ∙ long))))
    (summary_after (mask_of d) d.summary summary row ones (has_row d.count row d.cells.items (omega arith))
    (λ lt. both_set summary row ones 0 (c.with_bit-self.ensures.here lt) (bit_at_ones 64 0 (omega arith)))
    c.with_bit-self.ensures.others d.summed)
