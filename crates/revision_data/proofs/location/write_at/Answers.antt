-- Answers of write_at: a number inside of the list has its location written, and one outside changes nothing.
use Rattle.std.proofs.Common.{◌∙◌, ap, set}
use Rattle.revision_data.proofs.Lists.{written_in, written_out}
use Rattle.revision_data.proofs.location.write_at.Goals as goal

pub returns-then-number-locations : goal.returns-then-number-locations
returns-then-number-locations c =
    ap (set c.args.locations.now c.args.number) c.write.ensures
    ∙ written_in c.args.locations.now c.args.number _ c.args.value c.if-number-locations.true

pub returns-else-number-locations : goal.returns-else-number-locations
returns-else-number-locations c =
    written_out c.args.locations.now c.args.number c.args.value c.if-number-locations.false
