-- Answers of Table::add_head: the words allow the step where the user's rule does.
use Rattle.std.proofs.Common.{ℕ, ◌+◌, ◌%◌, ◌^◌, arith}
use Rattle.sparse_table.proofs.Fields.{small_sum}
use Rattle.sparse_table.proofs.Steps.{head_told_at, part_at, told_rests, told_trail, told_user}
use Rattle.sparse_table.proofs.table.Table.add_head.Goals as goal

pub fetch_add-requires : goal.fetch_add-requires
fetch_add-requires g c = let t = c.args.self.now.keyed in let z = c.args.self.now.sized in
    let own = c.requires.own in let h = c.head-at.ensures in let k = c.args.self.now.words.key in (
      own.0.0,
      (let few = t.3 in let near = h.1 in omega arith),
      head_told_at (g.P.PartRule.holds k.about) g.P.PartRule.makes g.P.PartRule.needs k.words k.width k.shift
          c.args.self.now.len c.args.self.now.width c.args.self.now.shift t.0 t.1 t.2 z.3 z.4
          c.args.seat.now.pass.id c.args.seat.now.pass.view own.0.1 own.0.2 own.0.3 c.args.seat.now.rests g.M.Play.then
          c.args.k 0 (λ (n : ℕ). n) (λ (n : ℕ). (n + c.args.k) % 2 ^ 64) (λ n l. small_sum n c.args.k)
          c.args.part c.head-at.result h.0 own.1 c.requires.allowed c.requires.backed,
    )

pub invariant_of-seat : goal.invariant_of-seat
invariant_of-seat g c = let d = c.args.seat.now.pass.view in let own = c.requires.own in record {
  rests = told_rests g.M.Play.then _ _ _ _ d _ (c.fetch_add.ensures.2 c.args.part
      (part_at d c.args.self.now.len c.args.self.now.width c.args.self.now.shift own.0.1 own.0.2 own.0.3 c.args.part
      c.head-at.result c.head-at.ensures.0 own.1)) c.args.seat.now.rests;
}

pub returns-clause-own : goal.returns-clause-own
returns-clause-own g c = let d = c.args.seat.now.pass.view in let own = c.requires.own in
    let e = c.fetch_add.ensures in (
      e.0,
      e.1,
      told_trail g.M.Play.then _ _ _ _ d _ (e.2 c.args.part
          (part_at d c.args.self.now.len c.args.self.now.width c.args.self.now.shift own.0.1 own.0.2 own.0.3
          c.args.part c.head-at.result c.head-at.ensures.0 own.1)),
    )

pub returns-clause-told : goal.returns-clause-told
returns-clause-told g c = let d = c.args.seat.now.pass.view in let own = c.requires.own in
    told_user g.M.Play.then _ _ _ _ d _ (c.fetch_add.ensures.2 c.args.part
    (part_at d c.args.self.now.len c.args.self.now.width c.args.self.now.shift own.0.1 own.0.2 own.0.3
    c.args.part c.head-at.result c.head-at.ensures.0 own.1))
