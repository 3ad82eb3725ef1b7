-- Answers of Table::close: the words that lie there are those of a state that meets the rule.
use Rattle.std.proofs.Common.{ℕ, List, sym, ◌∙◌}
use Rattle.sparse_table.proofs.Ends.{ending_at, long_at, last_at}
use Rattle.sparse_table.proofs.table.Table.close.Goals as goal

pub invariant_of-result : goal.invariant_of-result
invariant_of-result g c = let t = c.args.self in let k = t.words.key in let ns : List ℕ = c.gather.result.items in
    let e = c.gather.ensures in let z = t.sized in let o = t.owed in record {
      owed = (o.0, o.1 ∙ sym e.0, o.2, e.1 ∙ t.keyed.3);
      sized = (z.0, z.1, z.2, z.3, z.4, z.5, t.keyed.4);
      ended = ending_at (g.P.PartRule.holds k.about) g.P.PartRule.makes g.P.PartRule.needs k.words k.width k.shift t.len
          t.width t.shift t.keyed.0 t.keyed.1 t.keyed.2 ns t.total t.keyed.4 e.2;
    }

pub returns-clause-last : goal.returns-clause-last
returns-clause-last g c = let t = c.args.self in let k = t.words.key in let ns : List ℕ = c.gather.result.items in
    let e = c.gather.ensures in last_at (g.P.PartRule.holds k.about) g.P.PartRule.makes g.P.PartRule.needs k.words
    k.width k.shift t.len t.width t.shift t.keyed.0 t.keyed.1 t.keyed.2 ns e.2

pub returns-clause-long : goal.returns-clause-long
returns-clause-long g c = let t = c.args.self in let k = t.words.key in let ns : List ℕ = c.gather.result.items in
    let e = c.gather.ensures in long_at (g.P.PartRule.holds k.about) g.P.PartRule.makes g.P.PartRule.needs k.words
    k.width k.shift t.len t.width t.shift t.keyed.0 t.keyed.1 t.keyed.2 ns e.2
