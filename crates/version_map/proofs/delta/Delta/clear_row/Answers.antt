-- Answers of Delta::clear_row: the row is 0, and so is its bit in the summary; all other rows stay.
use Rattle.std.proofs.Common.{arith, ◌∙◌, ap, sym, subst, refl, get_or, get_or-set_same, get_or-set_other}
use Rattle.std.proofs.lemmas.List.{drop-set-add}
use Rattle.version_map.specs.Deltas.{mask_of}
use Rattle.version_map.specs.Masks.{IsSummary, bit_in}
use Rattle.version_map.proofs.Bits.{has_row}
use Rattle.version_map.proofs.Summaries.{summary_after, still_unset}
use Rattle.version_map.proofs.delta.Delta.clear_row.Goals as goal

pub returns-clause-here : goal.returns-clause-here
returns-clause-here c = let d = c.args.self.now in let row = c.args.row in
    let long = d.cells.ok.0 in let s = d.sized.0 in let lt = c.requires in
    ap (λ xs. get_or xs row 0) (drop-set-add d.count d.cells.items row 0)
    ∙ get_or-set_same (mask_of d) row 0 0 (has_row d.count row d.cells.items (omega (arith, long, s, lt)))

pub returns-clause-others : goal.returns-clause-others
returns-clause-others c = λ r ne. let d = c.args.self.now in let row = c.args.row in
    ap (λ xs. get_or xs r 0) (drop-set-add d.count d.cells.items row 0)
    ∙ get_or-set_other (mask_of d) row r 0 0 ne

pub invariant_of-self-clause-clean : goal.invariant_of-self-clause-clean
invariant_of-self-clause-clean c = λ l le. let d = c.args.self.now in let row = c.args.row in
    let long = d.cells.ok.0 in let s = d.sized.0 in let lt = c.requires in
    ap (λ m. bit_in m l) (drop-set-add d.count d.cells.items row 0)
    ∙ still_unset (mask_of d) row l (has_row d.count row d.cells.items (omega (arith, long, s, lt))) (d.clean l le)

pub invariant_of-self-clause-summed : goal.invariant_of-self-clause-summed
invariant_of-self-clause-summed c = let d = c.args.self.now in let row = c.args.row in
    let long = d.cells.ok.0 in let s = d.sized.0 in let lt = c.requires in
    let summary = c.without_bit-self.result in
    subst (IsSummary summary) (sym (drop-set-add d.count d.cells.items row 0))
    (summary_after (mask_of d) d.summary summary row 0 (has_row d.count row d.cells.items (omega (arith, long, s, lt)))
    (λ low. (λ none. refl, λ none. c.without_bit-self.ensures.here low)) c.without_bit-self.ensures.others d.summed)
