-- Answers of Table::join_seat: the words allow the join where the user's rule does.
use Rattle.std.proofs.Common.{arith}
use Rattle.sparse_table.proofs.Cuts.{joins}
use Rattle.sparse_table.proofs.table.Table.join_seat.Goals as goal

pub join_seat-requires : goal.join_seat-requires
join_seat-requires g c = let t = c.args.self.now.keyed in let z = c.args.self.now.sized in
    let own = c.requires.own in let k = c.args.self.now.words.key in let d = c.args.seat.now.pass.view in
    let e = c.args.other.pass.view in (
      own.0.0,
      own.1.0,
      (let a = t.3 in let b = t.4 in let p = z.0 in omega arith),
      joins (g.P.PartRule.holds k.about) g.P.PartRule.makes g.P.PartRule.needs k.words k.width k.shift
          c.args.seat.now.pass.id d c.args.other.pass.id e (g.M.Join.both d.client e.client) g.M.Join.spent
          c.args.seat.now.rests c.args.other.rests c.requires.joins,
    )
