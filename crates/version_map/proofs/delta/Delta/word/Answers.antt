-- Answers of Delta::word: where there is a value, it is the word of the cell.
use Rattle.std.proofs.Common.{arith, ◌∙◌, Some, ap, sym, get_or}
use Rattle.std.proofs.lemmas.List.{get_or_read_under}
use Rattle.version_map.specs.Deltas.{mask_of}
use Rattle.version_map.specs.Masks.{bit_in}
use Rattle.version_map.proofs.Bits.{chosen_some}
use Rattle.version_map.proofs.delta.Delta.word.Goals as goal

pub returns : goal.returns
returns c =
    let d = c.args.self.now in let l = c.args.location in
    let sized = d.sized.0 in let lt = c.requires.inside in
    chosen_some (bit_in (mask_of d) l) (get_or d.cells.items l 0) c.requires.some
    ∙ ap Some (sym (get_or_read_under d.cells.items l d.cells.len _ 0 c.index.ensures (omega (arith, sized, lt))
    d.cells.ok.0))
