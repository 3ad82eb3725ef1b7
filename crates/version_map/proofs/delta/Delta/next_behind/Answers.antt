-- Answers of Delta::next_behind: the least bit of the next row that is not 0, which has one.
use Rattle.std.proofs.Common.{arith, ◌+◌, ◌*◌, ◌∙◌, sym}
use Rattle.version_map.specs.Masks.{rows}
use Rattle.version_map.specs.Deltas.{locations}
use Rattle.version_map.proofs.Nexts.{next_in_row, none_behind, some_in_row}
use Rattle.version_map.proofs.delta.Delta.next_behind.Goals as goal

pub returns-in_default : goal.returns-in_default
returns-in_default c =
    let d = c.args.self.now in
    none_behind d (c.args.row + 1) (rows (locations d)) (64 * (c.args.row + 1)) (locations d) c.in_default.ensures
    (omega arith) (omega arith)

pub returns-in_default-next_bit : goal.returns-in_default-next_bit
returns-in_default-next_bit c =
    absurd
    (some_in_row c.mask_row.result c.mask_row.type_inv (λ none. c.in-Some.ensures.2 (sym c.mask_row.ensures ∙ none))
    c.in_default-next_bit.ensures.none)

pub overflow_cast-result : goal.overflow_cast-result
overflow_cast-result c =
    let d = c.args.self.now in let f = c.in-Some-next_bit.ensures.found in let n = c.in-Some.ensures in
    let next = next_in_row d (c.args.row + 1) c.in-Some.next c.mask_row.result c.in-Some-next_bit.k n.0 n.3
    c.mask_row.ensures f.1
    f.2 c.in-Some-next_bit.ensures.between in
    let within = next.1 in let few = d.sized.1 in omega (arith, within, few)

pub returns : goal.returns
returns c =
    let d = c.args.self.now in let f = c.in-Some-next_bit.ensures.found in let n = c.in-Some.ensures in
    next_in_row d (c.args.row + 1) c.in-Some.next c.mask_row.result c.in-Some-next_bit.k n.0 n.3 c.mask_row.ensures f.1
    f.2
    c.in-Some-next_bit.ensures.between
