-- Answers of Delta::row_words: the words of the row stand in the cells from its first location on.
use Rattle.std.proofs.Common.{arith, ◌∙◌, ◌+◌, ◌-◌, ◌*◌, ap, sym, drop, get_or}
use Rattle.std.proofs.lemmas.List.{get_or-drop, get_or-take, length-take}
use Rattle.version_map.specs.Masks.{bit_in, chosen}
use Rattle.version_map.specs.Deltas.{mask_of}
use Rattle.version_map.proofs.delta.Delta.row_words.Goals as goal

pub returns-clause-words : goal.returns-clause-words
returns-clause-words c = λ k lt.
    let d = c.args.self.now in let first = 64 * c.args.row in
    let rest = drop first c.deref.result.now in let many = c.min-end.result - first in
    let within = length-take many rest in
    ap (chosen (bit_in (mask_of d) (first + k)))
    (ap (λ xs. get_or xs (first + k) 0) (sym c.deref.ensures.value)
    ∙ (sym (get_or-drop first c.deref.result.now k 0)
    ∙ sym (get_or-take many rest k 0 (omega (arith, lt, within)))))
