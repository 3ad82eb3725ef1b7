-- Answers of Delta::set: the location's bit and word are set, and the bits and words of all other locations stay.
use Rattle.std.proofs.Common.{arith, rules, ◌+◌, ◌-◌, ◌%◌, ◌/◌, ◌∙◌, ap, sym, subst, drop}
use Rattle.std.proofs.Common.{get_or-set_same}
use Rattle.std.specs.Int.{bit_at, w64}
use Rattle.std.proofs.lemmas.List.{get_or_read_under}
use Rattle.std.proofs.lemmas.Nat.Bits.{bit_at_set_same, bit_at_set_other}
use mathlib.Core.Logic.{dite}
use native.Mathlib.Decide.{ℕ_discrete}
use Rattle.version_map.specs.Deltas.{mask_of}
use Rattle.version_map.specs.Masks.{IsSummary, bit_in, chosen}
use Rattle.version_map.proofs.Bits.{rows_over, bit_set, chosen_one, mask_after, has_row}
use Rattle.version_map.proofs.Bits.{bit_else_after, word_else_after, chosen_zero}
use Rattle.version_map.proofs.Summaries.{summary_after, both_set}
use Rattle.version_map.proofs.delta.Delta.set.Goals as goal

pub returns-clause-here : goal.returns-clause-here
returns-clause-here c = let l = c.args.location in let d = c.args.self.now in let s = d.sized in
    let over = rows_over _ l c.requires in
    chosen_one _ _ _ (ap (λ m. bit_in m l) (mask_after d.count d.cells.items l (l / 64) _ _ c.requires)
    ∙ (bit_set (drop d.count d.cells.items) l _ (has_row d.count (l / 64) d.cells.items (omega arith))
    ∙ bit_at_set_same w64 _ (l % 64) (omega arith)))
    (get_or-set_same _ l _ 0 (search rules))

pub returns-clause-others : goal.returns-clause-others
returns-clause-others c = λ k ne. let l = c.args.location in let d = c.args.self.now in
    let s = d.sized in let over = rows_over _ l c.requires in
    let was = get_or_read_under d.cells.items (d.count + l / 64) d.cells.len
    c.index_mut.result.now 0 c.index_mut.ensures.value (omega arith) (search rules) in
    let p = bit_else_after d.count d.cells.items l k _ c.args.word c.requires (omega arith) ne
    (λ i apart. bit_at_set_other w64 c.index_mut.result.now (l % 64) (omega arith) i apart
    ∙ ap (λ z. bit_at z i) was) in
    dite (ℕ_discrete (d.count - k) 0)
    (λ above. let none = d.clean k (omega arith) in
    chosen_zero _ _ (p ∙ none) ∙ sym (chosen_zero _ _ none))
    (λ below. let q = word_else_after d.count d.cells.items l k (l / 64) _ c.args.word (omega arith) ne in
    (λ i. chosen (p i) (q i)))

pub invariant_of-self-clause-clean : goal.invariant_of-self-clause-clean
invariant_of-self-clause-clean c = λ k above. let l = c.args.location in let d = c.args.self.now in
    let s = d.sized in let over = rows_over _ l c.requires in
    let was = get_or_read_under d.cells.items (d.count + l / 64) d.cells.len
    c.index_mut.result.now 0 c.index_mut.ensures.value (omega arith) (search rules) in
    bit_else_after d.count d.cells.items l k _ c.args.word c.requires (omega arith) (λ e. omega arith)
    (λ i apart. bit_at_set_other w64 c.index_mut.result.now (l % 64) (omega arith) i apart
    ∙ ap (λ z. bit_at z i) was) ∙ d.clean k above

pub invariant_of-self-clause-summed : goal.invariant_of-self-clause-summed
invariant_of-self-clause-summed c = let l = c.args.location in let d = c.args.self.now in
    let s = d.sized in let over = rows_over _ l c.requires in
    let summary = c.with_bit-self.result in
    subst (IsSummary summary) (sym (mask_after d.count d.cells.items l (l / 64) _ c.args.word c.requires))
    (summary_after (mask_of d) d.summary summary (l / 64) _ (has_row d.count (l / 64) d.cells.items (omega arith))
    (λ lt. both_set summary (l / 64) _ (l % 64) (c.with_bit-self.ensures.here lt)
    (bit_at_set_same w64 _ (l % 64) (omega arith)))
    c.with_bit-self.ensures.others d.summed)
