-- Answers of Table::sub_head: what is taken off is added as its complement.
use Rattle.std.proofs.Common.{◌≡◌, ℕ, ◌+◌, ◌-◌, ◌%◌, ◌^◌, ◌<◌, subst, arith, rules}
use mathlib.Core.Option as maybe
use Rattle.atomic_table.specs.Table as table
use Rattle.sparse_table.specs.Words as raw
use Rattle.sparse_table.proofs.Fields.{small_sum}
use Rattle.sparse_table.specs.Parts.{Rules, head_at}
use Rattle.sparse_table.specs.Plays.{PartAt, mine, told_at}
use Rattle.sparse_table.proofs.Steps.{head_told_at, part_at, told_rests, told_trail, told_user}
use Rattle.sparse_table.proofs.table.Table.sub_head.Goals as goal

pub fetch_add-requires : goal.fetch_add-requires
fetch_add-requires g c = let t = c.args.self.now.keyed in let z = c.args.self.now.sized in
    let own = c.requires.own in let h = c.head-at.ensures in let k = c.args.self.now.words.key in
    let d = c.args.seat.now.pass.view in let n : ℕ = c.args.k in let x : ℕ = 18446744073709551615 - n + 1 in
    let pos = own.2 in let low : n < 2 ^ 64 = search rules in
    let e : 2 ^ 64 - n ≡ x = omega arith in let back : n ≡ 2 ^ 64 - x = omega arith in (
      own.0.0,
      (let few = t.3 in let near = h.1 in omega arith),
      subst (λ (y : ℕ × ℕ). raw.Allows (Rules (g.P.PartRule.holds k.about) g.P.PartRule.makes g.P.PartRule.needs
          k.words k.width k.shift) c.args.seat.now.pass.id d c.head-at.result (λ m. (m + y.0) % 2 ^ 64)
          (λ m u. (p : ℕ) → PartAt head_at d c.head-at.result p → told_at g.M.Play.then p y.1 0 d m u))
          (λ i. (e i, back i))
          (head_told_at (g.P.PartRule.holds k.about) g.P.PartRule.makes g.P.PartRule.needs k.words k.width k.shift
          c.args.self.now.len c.args.self.now.width c.args.self.now.shift t.0 t.1 t.2 z.3 z.4
          c.args.seat.now.pass.id d own.0.1 own.0.2 own.0.3 c.args.seat.now.rests g.M.Play.then n 0 (λ (m : ℕ). m)
          (λ (m : ℕ). (m + (2 ^ 64 - n)) % 2 ^ 64) (λ m l. small_sum m (2 ^ 64 - n))
          c.args.part c.head-at.result h.0 own.1 c.requires.allowed c.requires.backed),
    )

pub invariant_of-seat : goal.invariant_of-seat
invariant_of-seat g c = let d = c.args.seat.now.pass.view in let own = c.requires.own in record {
  rests = told_rests g.M.Play.then _ _ _ _ d _ (c.fetch_add.ensures.2 c.args.part
      (part_at d c.args.self.now.len c.args.self.now.width c.args.self.now.shift own.0.1 own.0.2 own.0.3 c.args.part
      c.head-at.result c.head-at.ensures.0 own.1)) c.args.seat.now.rests;
}

pub returns-clause-own : goal.returns-clause-own
returns-clause-own g c = let d = c.args.seat.now.pass.view in let own = c.requires.own in
    let e = c.fetch_add.ensures in (
      e.0,
      e.1,
      told_trail g.M.Play.then _ _ _ _ d _ (e.2 c.args.part
          (part_at d c.args.self.now.len c.args.self.now.width c.args.self.now.shift own.0.1 own.0.2 own.0.3
          c.args.part c.head-at.result c.head-at.ensures.0 own.1)),
    )

pub returns-clause-told : goal.returns-clause-told
returns-clause-told g c = let d = c.args.seat.now.pass.view in let own = c.requires.own in let pos = own.2 in
    let n : ℕ = c.args.k in let low : n < 2 ^ 64 = search rules in
    let back : 2 ^ 64 - (18446744073709551615 - n + 1) ≡ n = omega arith in
    subst (λ (y : ℕ). g.M.Play.then (table.step 0 c.args.part y 0 maybe.none) (mine d) c.fetch_add.result
    (mine c.fetch_add.new.seat.view)) back
    (told_user g.M.Play.then _ _ _ _ d _ (c.fetch_add.ensures.2 c.args.part
    (part_at d c.args.self.now.len c.args.self.now.width c.args.self.now.shift own.0.1 own.0.2 own.0.3
    c.args.part c.head-at.result c.head-at.ensures.0 own.1)))
