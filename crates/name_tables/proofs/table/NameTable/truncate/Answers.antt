-- Answers of NameTable::truncate: while there are too many entries the last is taken out, and those kept stay.
use Rattle.std.proofs.Common.{◌∙◌, ◌<◌, length, rules}
use Rattle.name_tables.proofs.Tables.{shorter}
use Rattle.name_tables.proofs.table.NameTable.truncate.Goals as goal

pub loop-self-preserved : goal.loop-self-preserved
loop-self-preserved g c =
    let more : c.args.len < length c.loop-self.self-inside.entries.items = search rules in (
      c.last_out.ensures.indexed,
      shorter c.args.len c.loop-self.self-inside.entries.items c.last_out.new.entries.items c.last_out.ensures.rest more
          ∙ c.loop-self.invariant.1,
    )
