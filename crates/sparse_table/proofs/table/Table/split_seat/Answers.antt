-- Answers of Table::split_seat: the words allow the cut where the user's rule does.
use Rattle.std.proofs.Common.{arith}
use Rattle.sparse_table.proofs.Cuts.{splits}
use Rattle.sparse_table.proofs.table.Table.split_seat.Goals as goal

pub split_seat-pass-requires : goal.split_seat-pass-requires
split_seat-pass-requires g c = let t = c.args.self.now.keyed in let z = c.args.self.now.sized in
    let own = c.requires.own in let k = c.args.self.now.words.key in let d = c.args.seat.now.pass.view in (
      own.0,
      (let a = t.3 in let b = t.4 in let p = z.0 in omega arith),
      splits (g.P.PartRule.holds k.about) g.P.PartRule.makes g.P.PartRule.needs k.words k.width k.shift
          c.args.seat.now.pass.id d (g.M.Split.left d.client) (g.M.Split.right d.client) c.args.seat.now.rests
          c.requires.splits,
    )
