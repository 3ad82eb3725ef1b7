-- Answers of Table::close_with: the words that lie there are those of a state that meets the rule.
use Rattle.std.proofs.Common.{ℕ, List, sym, ◌∙◌}
use Rattle.sparse_table.proofs.Ends.{ending_at, long_at, plain, last_seen_at}
use Rattle.sparse_table.proofs.table.Table.close_with.Goals as goal

pub gather_with-requires : goal.gather_with-requires
gather_with-requires g c = c.requires.own.0

pub invariant_of-result : goal.invariant_of-result
invariant_of-result g c = let t = c.args.self in let k = t.words.key in
    let ns : List ℕ = c.gather_with.result.items in let e = c.gather_with.ensures in let z = t.sized in
    let o = t.owed in record {
      owed = (o.0, o.1 ∙ sym e.0, o.2, e.1 ∙ t.keyed.3);
      sized = (z.0, z.1, z.2, z.3, z.4, z.5, t.keyed.4);
      ended = ending_at (g.P.PartRule.holds k.about) g.P.PartRule.makes g.P.PartRule.needs k.words k.width k.shift t.len
          t.width t.shift t.keyed.0 t.keyed.1 t.keyed.2 ns t.total t.keyed.4 (plain (g.P.PartRule.holds k.about)
          g.P.PartRule.makes g.P.PartRule.needs k.words k.width k.shift t.len t.width t.shift t.keyed.0 t.keyed.1
          t.keyed.2 ns c.args.seat.pass.id c.args.seat.pass.view e.2);
    }

pub returns-clause-last : goal.returns-clause-last
returns-clause-last g c = let t = c.args.self in let k = t.words.key in
    let ns : List ℕ = c.gather_with.result.items in let e = c.gather_with.ensures in last_seen_at
    (g.P.PartRule.holds k.about) g.P.PartRule.makes g.P.PartRule.needs k.words k.width k.shift t.len t.width t.shift
    t.keyed.0 t.keyed.1 t.keyed.2 ns c.args.seat.pass.id c.args.seat.pass.view e.2

pub returns-clause-long : goal.returns-clause-long
returns-clause-long g c = let t = c.args.self in let k = t.words.key in
    let ns : List ℕ = c.gather_with.result.items in let e = c.gather_with.ensures in
    long_at (g.P.PartRule.holds k.about) g.P.PartRule.makes g.P.PartRule.needs k.words k.width k.shift t.len t.width
    t.shift t.keyed.0 t.keyed.1 t.keyed.2 ns (plain (g.P.PartRule.holds k.about) g.P.PartRule.makes
    g.P.PartRule.needs k.words k.width k.shift t.len t.width t.shift t.keyed.0 t.keyed.1 t.keyed.2 ns
    c.args.seat.pass.id c.args.seat.pass.view e.2)
