-- Answers of Table::attach: the three steps by which the memory of a part is written.
use Rattle.std.proofs.Common.{◌≡◌, ℕ, ◌+◌, ◌-◌, List, length, sym, ap, ◌∙◌, subst, arith, rules}
use Rattle.std.specs.Prelude.{replicate}
use lib.ListN.{length-replicate}
use Rattle.sparse_table.specs.Words as raw
use Rattle.sparse_table.specs.declared.rule.Doing.{Doing}
use Rattle.sparse_table.specs.Parts.{Rules, aimed}
use Rattle.sparse_table.specs.Plays.{entered}
use Rattle.sparse_table.proofs.Spots.{part_in}
use Rattle.sparse_table.proofs.Laid.{laid_all}
use Rattle.sparse_table.proofs.Makes.{begins_at, takes_at, lays_at, flag_part, still_sole}
use Rattle.sparse_table.proofs.table.Table.attach.Goals as goal

pub load-requires : goal.load-requires
load-requires g c = let t = c.args.self.now in let s = c.args.seat.now.pass in let own = c.requires.own in
    let h = c.head-flag.ensures in let k = t.words.key in let z = t.sized in (
      own.0.0,
      (let few = t.keyed.3 in let near = h.1 in omega arith),
      begins_at (g.P.PartRule.holds k.about) g.P.PartRule.makes g.P.PartRule.needs k.words k.width k.shift
          t.len t.width t.shift t.keyed.0 t.keyed.1 t.keyed.2 z.3 z.4 s.id s.view c.args.part c.head-flag.result h.0
          own.1 c.requires.sole c.args.seat.now.rests own.0.1 own.0.2 own.0.3,
    )

pub take-span-requires : goal.take-span-requires
take-span-requires g c = let t = c.args.self.now in let s = c.args.seat.now.pass in let own = c.requires.own in
    let h = c.head-flag.ensures in let k = t.words.key in let z = t.sized in let e = c.load.ensures in
    let p : ℕ = c.args.part in let at : ℕ = c.head-flag.result in let u = c.load.new.seat in
    let none : c.load.result ≡ 0 = search rules in
    let is : u.view ≡ aimed s.view 1 p =
    (e.2 p (flag_part s.view t.len t.width t.shift own.0.1 own.0.2 own.0.3 p at h.0 own.1)).0 none in
    let room = part_in t.len t.width t.shift z.3 z.4 p z.2 own.1 in (
      e.0 ∙ own.0.0,
      (let few = t.keyed.3 in let near = h.1 in omega arith),
      (let few = t.keyed.3 in let all = t.keyed.4 in let one = z.3 in omega arith),
      takes_at (g.P.PartRule.holds k.about) g.P.PartRule.makes g.P.PartRule.needs k.words k.width k.shift
          t.len t.width t.shift t.keyed.0 t.keyed.1 t.keyed.2 z.3 z.4 u.id u.view p at h.0 own.1
          (still_sole (g.P.PartRule.holds k.about) g.P.PartRule.makes s.id u.id s.view.client u.view.client p e.1
          (ap (λ (x : Doing g.row.V.Denot). x.client) is) c.requires.sole)
          (ap (λ (x : Doing g.row.V.Denot). x.trail.stage) is) (ap (λ (x : Doing g.row.V.Denot). x.trail.part) is),
    )

pub lay-requires : goal.lay-requires
lay-requires g c = let t = c.args.self.now in let s = c.args.seat.now.pass in let own = c.requires.own in
    let h = c.head-flag.ensures in let k = t.words.key in let z = t.sized in let e = c.load.ensures in
    let p : ℕ = c.args.part in let at : ℕ = c.head-flag.result in let u = c.take-span.new.seat in
    let none : c.load.result ≡ 0 = search rules in
    let first : c.load.new.seat.view ≡ aimed s.view 1 p =
    (e.2 p (flag_part s.view t.len t.width t.shift own.0.1 own.0.2 own.0.3 p at h.0 own.1)).0 none in
    let took = c.take-span.ensures.seat in
    let is : u.view ≡ aimed s.view 2 p =
    took.2 ∙ ap (λ (x : Doing g.row.V.Denot). aimed x 2 x.trail.part) first in
    let room = part_in t.len t.width t.shift z.3 z.4 p z.2 own.1 in let m : ℕ = t.width - 1 in
    let items : c.write_zeros.new.span.items ≡ replicate m 0 = c.write_zeros.ensures.1
    ∙ (ap (λ (xs : List ℕ). raw.laid xs 0 (replicate m 0)) c.take-span.ensures.span.1 ∙ laid_all m 0 raw.blank) in (
      took.0 ∙ (e.0 ∙ own.0.0),
      (let few = t.keyed.3 in let near = h.1 in omega arith),
      c.write_zeros.ensures.0 ∙ c.take-span.ensures.span.0,
      (let few = t.keyed.3 in let all = t.keyed.4 in let one = z.3 in
          let long = ap length items ∙ length-replicate m 0 in omega arith),
      subst (λ (xs : List ℕ). raw.Lays (Rules (g.P.PartRule.holds k.about) g.P.PartRule.makes g.P.PartRule.needs
          k.words k.width k.shift) u.id u.view (at + 1) 1 (p + 1) xs (entered (raw.step (at + 1) 1 0) u.view 1))
          (sym items)
          (lays_at (g.P.PartRule.holds k.about) g.P.PartRule.makes g.P.PartRule.needs k.words k.width k.shift
          t.len t.width t.shift t.keyed.0 t.keyed.1 t.keyed.2 z.3 z.4 u.id u.view p at h.0 own.1
          (still_sole (g.P.PartRule.holds k.about) g.P.PartRule.makes s.id u.id s.view.client u.view.client p
          (took.1 ∙ e.1) (ap (λ (x : Doing g.row.V.Denot). x.client) is) c.requires.sole)
          (ap (λ (x : Doing g.row.V.Denot). x.trail.stage) is) (ap (λ (x : Doing g.row.V.Denot). x.trail.part) is)),
    )
