-- Answers of Delta::has_row: the mask's word has all bits exactly where each location of the row has a value.
use Rattle.std.proofs.Common.{get_or}
use Rattle.version_map.specs.Deltas.{mask_of}
use Rattle.version_map.proofs.WholeRows.{row_told}
use Rattle.version_map.proofs.delta.Delta.has_row.Goals as goal

pub returns : goal.returns
returns c =
    let d = c.args.self.now in
    row_told (mask_of d) (λ l. get_or d.cells.items l 0) c.args.row c.mask_row.result c.mask_row.type_inv
    c.mask_row.ensures
