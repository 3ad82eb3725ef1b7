-- Answers of NameTable::add: a name that is not there goes last, and into the map for names of its length.
use Rattle.std.proofs.Common.{◌≡◌, ◌<◌, ◌≤◌, List, None, ℕ, length, rules, subst, sym}
use Rattle.name_tables.specs.Table.{find, rows}
use Rattle.name_tables.proofs.Tables.{long_entered, short_entered}
use Rattle.name_tables.proofs.table.NameTable.add.Goals as goal

pub invariant_of-self : goal.invariant_of-self
invariant_of-self g c =
    let absent : find c.in_ok-key.key.items (rows c.self.inside.entries.items) ≡ None = search rules in
    short_entered c.short_entered.result c.self.inside.short c.short_entered.new.short c.self.inside.long
    c.in_ok-key.key.items c.args.value c.self.inside.entries.items c.short_entered.new.entries.items
    (subst (λ (w : List ℕ). length w ≤ 7) (sym c.in_ok-key.ensures.items) c.in-Some.ensures.short.0) c.self.invariant
    absent c.short_entered.ensures.ok c.short_entered.ensures.err c.short_entered.ensures.indexed

pub invariant_of-self-in-None : goal.invariant_of-self-in-None
invariant_of-self-in-None g c =
    let absent : find c.in_ok-key.key.items (rows c.self.inside.entries.items) ≡ None = search rules in
    long_entered c.long_entered.result c.self.inside.short c.self.inside.long c.long_entered.new.long
    c.in_ok-key.key.items c.args.value c.self.inside.entries.items c.long_entered.new.entries.items
    (subst (λ (w : List ℕ). 7 < length w) (sym c.in_ok-key.ensures.items) c.in-None.ensures.long) c.self.invariant
    absent c.long_entered.ensures.ok c.long_entered.ensures.err c.long_entered.ensures.indexed
