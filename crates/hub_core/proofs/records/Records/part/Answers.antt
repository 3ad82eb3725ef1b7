-- Answers of Records::part: the next record leaves what it leaves, and behind the last number there is none.
use Rattle.std.proofs.Common.{rules, ◌≡◌, ◌+◌, ◌-◌, ◌≤◌, ◌++◌, ℕ, zero, suc, List, Option, None, vec_len, append-nil, sym, ap, ◌∙◌, arith}
use Rattle.std.specs.Vec.Iter.{into_iter_items}
use Rattle.hub_core.specs.declared.kept.Kept.{Kept}
use Rattle.hub_core.specs.declared.status.Status.{Status}
use Rattle.hub_core.specs.Tally.{record_at}
use Rattle.hub_core.specs.Ordered.{ends_of, kept_in}
use Rattle.hub_core.proofs.Partings.{kept_none}
use Rattle.hub_core.proofs.records.Records.part.Goals as goal

pub loop-init : goal.loop-init
loop-init g c =
    let all = c.into_iter-rest.ensures.rest in
    let long = c.into_iter-rest.ensures.len in
    let room = c.args.self.kept_room in
    let most = room.1 in
    let none : vec_len c.args.ends ≡ 0 = search rules in
    let few : vec_len c.args.self.kept ≡ 0 = search rules in
    let z : c.args.born - 0 ≡ c.args.born = omega arith in (
      ap (λ (z : List (Option g.row.E.Denot) × ℕ × List (Option (Status g.row.R.Denot g.row.A.Denot g.row.E.Denot))).
          z.0 ++ ends_of z.1 z.2)
          (λ i. (c.requires.ends.0 i, z i, all i)),
      ap (λ (z : List (Kept g.row.R.Denot g.row.A.Denot)
          × List (Option (Status g.row.R.Denot g.row.A.Denot g.row.E.Denot))). z.0 ++ kept_in z.1)
          (λ i. (room.0 i, all i)),
      (λ j h. ap (λ l. record_at l j) all ∙ c.requires.none j (omega arith)),
      omega arith,
      none,
      c.requires.ends.1,
      omega arith,
    )

pub loop-preserved : goal.loop-preserved
loop-preserved g c =
    let i = c.loop.invariant in
    let within = c.loop-test.true in
    let room = c.take_record.ensures.room in
    let a = room.0 in
    let b = room.1 in
    let d = room.2 in
    let e = i.4 in
    let f = i.5 in
    let z : suc (c.args.born - (c.loop.counter + 1)) ≡ c.args.born - c.loop.counter = omega arith in (
      c.take_record.ensures.ends (c.args.born - (c.loop.counter + 1))
          ∙ (ap (λ n. c.loop.ends.items ++ ends_of n (into_iter_items c.loop.rest)) z ∙ i.0),
      c.take_record.ensures.kept ∙ i.1,
      (λ j h. c.take_record.ensures.next j ∙ i.2 (suc j) (omega arith)),
      omega arith,
      omega arith,
      omega arith,
      d,
    )

pub returns-clause-ends : goal.returns-clause-ends
returns-clause-ends g c =
    let over : c.args.born ≤ c.loop.counter = search rules in
    let z : zero ≡ c.args.born - c.loop.counter = omega arith in
    sym (append-nil c.loop.ends.items)
    ∙ (ap (λ n. c.loop.ends.items ++ ends_of n (into_iter_items c.loop.rest)) z ∙ c.loop.invariant.0)

pub returns-clause-kept : goal.returns-clause-kept
returns-clause-kept g c =
    let over : c.args.born ≤ c.loop.counter = search rules in
    let none : (j : ℕ) → record_at (into_iter_items c.loop.rest) j ≡ None =
    λ j. c.loop.invariant.2 j (omega arith) in
    sym (append-nil c.loop.kept.items)
    ∙ (ap (λ l. c.loop.kept.items ++ l) (sym (kept_none (into_iter_items c.loop.rest) none)) ∙ c.loop.invariant.1)
