-- Answers of long_entered: the index with the name inserted stands for the entries with the new one behind them.
use Rattle.std.proofs.Common.{◌≡◌, ◌++◌, ◌∷◌, [], sym, subst, rules}
use Rattle.name_tables.specs.Table.{IsLongIndex, rows}
use Rattle.name_tables.proofs.Tables.{long_push, rows_push}
use Rattle.name_tables.proofs.table.long_entered.Goals as goal

pub returns-clause-indexed : goal.returns-clause-indexed
returns-clause-indexed g c =
    let whole : rows c.push.new.self.items ≡ rows c.args.entries.now.items ++ (c.args.key.items, c.args.value) ∷ [] =
    search (rules, rows_push) in
    subst (λ t. IsLongIndex c.insert.new.self t) (sym whole)
    (long_push c.args.long.now c.insert.new.self c.args.key c.args.value (rows c.args.entries.now.items)
    c.in_ok-insert.ensures.updates c.requires.indexed c.requires.absent)
