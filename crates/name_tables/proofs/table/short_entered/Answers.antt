-- Answers of short_entered: the index with the number inserted stands for the entries with the new one behind them.
use Rattle.std.proofs.Common.{◌≡◌, ◌++◌, ◌∷◌, [], sym, subst, rules}
use Rattle.name_tables.specs.Table.{IsShortIndex, rows}
use Rattle.name_tables.proofs.Tables.{short_push, rows_push}
use Rattle.name_tables.proofs.table.short_entered.Goals as goal

pub returns-clause-indexed : goal.returns-clause-indexed
returns-clause-indexed g c =
    let whole : rows c.push.new.self.items ≡ rows c.args.entries.now.items ++ (c.args.key.items, c.args.value) ∷ [] =
    search (rules, rows_push) in
    subst (λ t. IsShortIndex c.insert.new.self t) (sym whole)
    (short_push c.args.short.now c.insert.new.self c.args.key.items c.args.at c.args.value
    (rows c.args.entries.now.items) c.requires.bytes c.requires.number
    c.in_ok-insert.ensures.updates c.requires.indexed c.requires.absent)
