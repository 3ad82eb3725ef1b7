-- Answers of Memory::list_written: a written location adds its word, and those that are passed over add nothing.
use Rattle.std.proofs.Common.{◌≡◌, ◌∙◌, ℕ, zero, suc, ◌+◌, ◌-◌, ◌<◌, ◌≤◌, ◌++◌, Option, None, ap, arith, sym, subst, append-nil, length, vec_capacity}
use Rattle.version_map.specs.Deltas.{at}
use Rattle.version_map.specs.Overlay.{under}
use Rattle.block_run.specs.Remembering.{written_below, written_there}
use Rattle.version_map.specs.Ascending.{IsAscending}
use Rattle.block_run.proofs.Ascending.{ascends}
use Rattle.block_run.proofs.Rooms.{room_for_one}
use Rattle.block_run.proofs.Turning.{kept_on}
use Rattle.block_run.proofs.memory.Memory.list_written.Goals as goal

one_more : (seen : ℕ → ℕ) (root : ℕ → Option ℕ) (n : ℕ)
    → written_below seen root n ++ written_there n (seen n) (root n) ≡ written_below seen root (n + 1)
one_more seen root n = let e : suc n ≡ n + 1 = omega arith in ap (written_below seen root) e

-- a location that was not written adds nothing
none_more : (seen : ℕ → ℕ) (root : ℕ → Option ℕ) (l n : ℕ) → ((k : ℕ) → l ≤ k → k < l + n → root k ≡ None)
    → written_below seen root (l + n) ≡ written_below seen root l
none_more seen root l zero none = let e : l + zero ≡ l = omega arith in ap (written_below seen root) e
none_more seen root l (suc n) none = let e : l + suc n ≡ suc (l + n) = omega arith in ap (written_below seen root) e
    ∙ (ap (λ r. written_below seen root (l + n) ++ written_there (l + n) (seen (l + n)) r)
    (none (l + n) (omega arith) (omega arith))
    ∙ (append-nil (written_below seen root (l + n)) ∙ none_more seen root l n (λ k low high. none k low (omega arith))))

same_there : (l : ℕ) (w w' : ℕ) (r r' : Option ℕ) → w ≡ w' → r ≡ r' → written_there l w r ≡ written_there l w' r'
same_there l w w' r r' e f = λ j. written_there l (e j) (f j)

pub loop-location-smaller : goal.loop-location-smaller
loop-location-smaller g c =
    let inv = c.loop-location.invariant in
    let next = c.in-Some.ensures in
    let low = next.0 in let within = next.1 in
    let sized = c.loop-location.self.roots in let size = inv.size in omega (arith, low, within, sized, size)

pub overflow_add-from : goal.overflow_add-from
overflow_add-from g c =
    let within = c.in-Some.ensures.1 in
    let few = c.loop-location.self.first.roots.sized.1 in omega (arith, within, few)

pub written_at-requires : goal.written_at-requires
written_at-requires g c = record {
  inside = let within = c.in-Some.ensures.1 in let sized = c.loop-location.self.roots in omega (arith, within, sized);
  some = c.in-Some.ensures.2;
}

pub loop-location-preserved : goal.loop-location-preserved
loop-location-preserved g c =
    let inv = c.loop-location.invariant in
    let l = c.in-Some.location in let from = c.loop-location.from in
    let next = c.in-Some.ensures in
    let low = next.0 in let within = next.1 in
    let sized = c.loop-location.self.roots in let size = inv.size in
    let small : l < g.P.Snapshot.size c.args.self.now.snapshot = omega (arith, within, sized, size) in
    let seen = under c.args.self.now.delta (g.P.Snapshot.base c.args.self.now.snapshot) in
    let root = at c.args.self.now.first.roots in
    let there =
    c.written_at.ensures.value ∙ same_there l _ _ _ _ (inv.kept.words l small) (inv.kept.roots l small) in
    let n : ℕ = l - from in
    let e : from + n ≡ l = omega (arith, low) in
    let past : written_below seen root (from + n) ≡ written_below seen root from = none_more seen root from n
    (λ k lo hi. sym (inv.kept.roots k (omega (arith, hi, e, small))) ∙ next.3 k lo (omega (arith, hi, e))) in
    let before : c.loop-location.written.items ≡ written_below seen root l =
    inv.written ∙ (sym past ∙ ap (written_below seen root) e) in
    record {
      within = omega (arith, small);
      written = c.push_reserved.ensures.items ∙ (λ j. before j ++ there j) ∙ one_more seen root l;
      kept = kept_on inv.size inv.kept c.written_at.ensures.kept;
      room = c.push_reserved.ensures.capacity ∙ inv.room;
      size = c.written_at.ensures.size ∙ inv.size;
      group = c.written_at.ensures.group ∙ inv.group;
      answered = λ a h. c.written_at.ensures.answered a (inv.answered a h);
    }

pub push_reserved-requires : goal.push_reserved-requires
push_reserved-requires g c =
    let inv = c.loop-location.invariant in
    let l = c.in-Some.location in let from = c.loop-location.from in
    let next = c.in-Some.ensures in
    let low = next.0 in let within = next.1 in
    let sized = c.loop-location.self.roots in let size = inv.size in
    let small : l < g.P.Snapshot.size c.args.self.now.snapshot = omega (arith, within, sized, size) in
    let seen = under c.args.self.now.delta (g.P.Snapshot.base c.args.self.now.snapshot) in
    let root = at c.args.self.now.first.roots in
    let there = ap length
    (c.written_at.ensures.value ∙ same_there l _ _ _ _ (inv.kept.words l small) (inv.kept.roots l small)) in
    let n : ℕ = l - from in
    let e : from + n ≡ l = omega (arith, low) in
    let past : written_below seen root (from + n) ≡ written_below seen root from = none_more seen root from n
    (λ k lo hi. sym (inv.kept.roots k (omega (arith, hi, e, small))) ∙ next.3 k lo (omega (arith, hi, e))) in
    let many = c.loop-location.written.ok.0 in
    let listed = ap length (inv.written ∙ (sym past ∙ ap (written_below seen root) e)) in
    let same = inv.room in
    let one =
    room_for_one seen root l (g.P.Snapshot.size c.args.self.now.snapshot) (vec_capacity c.args.room) small
    c.requires.1 in
    omega (arith, there, many, listed, same, one)

pub returns-clause-written : goal.returns-clause-written
returns-clause-written g c =
    let inv = c.loop-location.invariant in
    let from = c.loop-location.from in
    let sized = c.loop-location.self.roots in let size = inv.size in let within = inv.within in
    let seen = under c.args.self.now.delta (g.P.Snapshot.base c.args.self.now.snapshot) in
    let root = at c.args.self.now.first.roots in
    let all = g.P.Snapshot.size c.args.self.now.snapshot in
    let n : ℕ = all - from in
    let e : from + n ≡ all = omega (arith, within) in
    inv.written ∙ (sym (none_more seen root from n
    (λ k lo hi. sym (inv.kept.roots k (omega (arith, hi, e)))
    ∙ c.in_default.ensures k lo (omega (arith, hi, e, sized, size))))
    ∙ ap (written_below seen root) e)

pub returns-clause-order : goal.returns-clause-order
returns-clause-order g c =
    subst IsAscending (sym c.loop-location.invariant.written) (ascends _ _ c.loop-location.from)
