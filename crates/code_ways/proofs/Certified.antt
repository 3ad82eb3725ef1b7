-- A block with a certificate breaks no rule in words, and so the pass accepts it.
use Rattle.std.proofs.Common.{◌≡◌, ◌∙◌, ◌⊎◌, inl, inr, ℕ, zero, suc, ◌<◌, ◌≤◌, Bool, true, false, not, ◌&&◌, ◌||◌, List, [], ◌∷◌, length, take, Some, refl, sym, ap, subst, arith, true≢false}
use Rattle.std.specs.Prelude.{slice_get, nat_lt, Ok}
use Rattle.std.proofs.lemmas.Bool.Decides.{nat_tests}
use Rattle.rev_num.specs.Value.{same_kind}
use Rattle.rev_code.specs.declared.code.Code.{Code}
use Rattle.rev_code.specs.declared.code.CodeBlock.{CodeBlock}
use Rattle.rev_code.specs.declared.code.Instr.{Instr}
use Rattle.code_rules.specs.declared.Cost.{Cost}
use Rattle.code_rules.specs.declared.Rule.TheVariants as rule
use Rattle.code_rules.specs.Shapes.{Shape, takes, begins, shape_after}
use Rattle.code_rules.specs.Pass.{Note, entry, bad_jump, block_fault, costs_too_much, is_charge, is_value_class, paid_after, most_need, most_count}
use Rattle.code_soundness.specs.Certificate.{Fits, IsJumped, IsNoted, IsCertified}
use Rattle.code_soundness.proofs.Basics.{and_parts}
use Rattle.code_ways.specs.Ways.{IsStart, first, behind, Arrives, starts, falls_on, jumps_on, Way, begins as begins_way, goes_on, jumps}
use Rattle.code_ways.specs.Breaks.{BreaksShape, differ, too_few, too_many, unpaid, clash, back, BreaksLimit, need_of_applied, total_count, cost_upto}
use Rattle.code_ways.specs.First.{KeepsAll}
use Rattle.code_ways.specs.Certified.{BeginsAnew, IsCheap}
use Rattle.code_ways.proofs.Knowing.{after_paid, or_true}
use Rattle.code_ways.proofs.Testing.{no_charge}
use Rattle.code_ways.proofs.Exact.{passes}

begins_length : (xs ys : Shape) → begins xs ys ≡ true → length xs ≤ length ys
begins_length [] ys h = omega arith
begins_length (x ∷ xs) [] h = absurd (true≢false (sym h))
begins_length (x ∷ xs) (y ∷ ys) h =
    let r = begins_length xs ys (and_parts (same_kind x y) (begins xs ys) h).1 in omega (arith, r)

pub need_take : (costs : List Cost) (m : ℕ) (xs : List Instr)
    → need_of_applied costs (take m xs) ≤ need_of_applied costs xs
need_take costs zero xs = omega arith
need_take costs (suc m) [] = omega arith
need_take costs (suc m) (x ∷ xs) = let r = need_take costs m xs in omega (arith, r)

pub count_take : (costs : List Cost) (m : ℕ) (xs : List Instr) → total_count costs (take m xs) ≤ total_count costs xs
count_take costs zero xs = omega arith
count_take costs (suc m) [] = omega arith
count_take costs (suc m) (x ∷ xs) = let r = count_take costs m xs in omega (arith, r)

cheaper : (c d : Cost) → c.need ≤ d.need → c.count ≤ d.count → costs_too_much d ≡ false → costs_too_much c ≡ true → ⊥
cheaper c d need count h g = by (nat_lt most_need c.need) refl (nat_lt most_count c.count) refl
  where
    by : (p : Bool) → nat_lt most_need c.need ≡ p → (q : Bool) → nat_lt most_count c.count ≡ q → ⊥
    by true p q' q = more (nat_lt most_need d.need) refl
      where
        more : (u : Bool) → nat_lt most_need d.need ≡ u → ⊥
        more true u = true≢false (sym (ap (λ z. z || nat_lt most_count d.count) u) ∙ h)
        more false u = grind (arith, nat_tests, p, u, need)
    by false p true q = more (nat_lt most_need d.need) refl (nat_lt most_count d.count) refl
      where
        more : (u : Bool) → nat_lt most_need d.need ≡ u → (v : Bool) → nat_lt most_count d.count ≡ v → ⊥
        more true u v' v = true≢false (sym (ap (λ z. z || nat_lt most_count d.count) u) ∙ h)
        more false u true v = true≢false (sym (λ j. u j || v j) ∙ h)
        more false u false v = grind (arith, nat_tests, q, v, count)
    by false p false q = true≢false (sym g ∙ (λ j. p j || q j))

module _ (code : Code) (costs : List Cost) (n : ℕ) (b : CodeBlock) (notes : ℕ → Note) (h : IsCertified code n b notes)
    (anew : BeginsAnew b notes) where
  start_fits : (at : ℕ) → IsStart b at → Fits entry (notes at)
  start_fits _ first = h.start
  start_fits _ (behind p x is f none) = by (anew p x is f)
    where
      by : Fits entry (notes (suc p)) ⊎ IsJumped b (suc p) → Fits entry (notes (suc p))
      by (inl g) = g
      by (inr j) = absurd (none j)

  pub shapes : (at : ℕ) (s : Shape) → Arrives code b at s → s ≡ (notes at).shape
  shapes _ _ (starts at st) = (start_fits at st).shape
  shapes _ _ (falls_on p s x w is f) = ap (λ z. shape_after code b z x) (shapes p s w) ∙ ((h.each p x is).on f).shape
  shapes _ _ (jumps_on p to s x w is tg less) =
      ap (λ z. shape_after code b z x) (shapes p s w) ∙ ((h.each p x is).jump to tg less).shape

  paid : (at : ℕ) (d : Bool) → Way b at d → at < length b.instrs → is_charge (slice_get b.instrs at) ≡ false
      → (notes at).paid ≡ true → d ≡ true
  paid _ _ (begins_way at st) inside ch e = (start_fits at st).paid e
  paid _ _ (goes_on p d x w is f) inside ch e =
      after_paid x (notes p).paid d (λ z q. paid p d w (omega (arith, inside)) (ap is_charge is ∙ z) q)
      (((h.each p x is).on f).paid e)
  paid _ _ (jumps p to d x w is tg ok) inside ch e =
      by (λ l y q. paid p d w l (ap is_charge is ∙ y) q) (nat_lt p to) refl
    where
      by : (p < length b.instrs → is_charge (Some x) ≡ false → (notes p).paid ≡ true → d ≡ true) → (z : Bool)
          → nat_lt p to ≡ z → paid_after d x ≡ true
      by rec true z =
          let less : p < to = grind (arith, nat_tests, z) in
          after_paid x (notes p).paid d (rec (omega (arith, less, inside))) (((h.each p x is).jump to tg less).paid e)
      by rec false z = absurd (
          let bad : bad_jump b p (Some to) ≡ false = ap (bad_jump b p) (sym tg) ∙ ok in
          let y : nat_lt to (length b.instrs) ≡ true = grind (arith, nat_tests, inside) in
          let c : (not (nat_lt to (length b.instrs))
          || (not (nat_lt p to) && (is_value_class b.class || not (is_charge (slice_get b.instrs to)))))
          ≡ (is_value_class b.class || true) =
          (λ j. not (y j) || (not (z j) && (is_value_class b.class || not (ch j)))) in
          true≢false (sym (or_true (is_value_class b.class)) ∙ sym c ∙ bad))

  module _ (cheap : is_value_class b.class ≡ true → IsCheap code costs b notes) (at : ℕ) (x : Instr)
      (here : slice_get b.instrs at ≡ Some x) where
    q : IsNoted code n b notes at x
    q = h.each at x here

    inside : at < length b.instrs
    inside = Rattle.code_soundness.proofs.Basics.some_within b.instrs at x here

    shape_kept : BreaksShape code b at x → ⊥
    shape_kept (differ s t u v apart) = apart (shapes at s u ∙ sym (shapes at t v))
    shape_kept (too_few s u less) =
        let z = shapes at s u in
        let l = begins_length (takes code b s x) s (subst (λ y. begins (takes code b y x) y ≡ true) (sym z) q.found) in
        omega (arith, l, less)
    shape_kept (too_many s u bare less) =
        let z = shapes at s u in
        let l = subst (λ y. length y ≡ length (takes code b y x)) (sym z) (q.bare bare) in
        omega (arith, l, less)
    shape_kept (unpaid pf w) =
        true≢false (sym (paid at false w inside (ap is_charge here ∙ no_charge x pf) (q.paid pf)))
    shape_kept (clash s u to tg less j apart) =
        let e = j.earlier in
        apart (ap (λ y. shape_after code b y x) (shapes at s u) ∙ (q.jump to tg less).shape
        ∙ sym ((h.each j.from j.instr j.is).jump to j.jumps (omega (arith, e, less))).shape
        ∙ ap (λ y. shape_after code b y j.instr) (sym (shapes j.from j.shape j.arrives)))
    shape_kept (back s u to tg le words) = words (ap (λ y. shape_after code b y x) (shapes at s u) ∙ q.back to tg le)

    limit_kept : (d : Bool) → is_value_class b.class ≡ d → BreaksLimit d code costs b at x → ⊥
    limit_kept false e br =
        let l = q.small e in
        let z : length (shape_after code b br.0 x) ≡ length (shape_after code b (notes at).shape x) =
        ap (λ y. length (shape_after code b y x)) (shapes at br.0 br.1) in
        let g = br.2 in
        omega (arith, l, z, g)
    limit_kept true e br =
        let p = cheap e in
        let d = br.1.some in
        let l = p.low d.at d.instr d.is in
        let z : length (shape_after code b d.shape d.instr) ≡ length (shape_after code b (notes d.at).shape d.instr) =
        ap (λ y. length (shape_after code b y d.instr)) (shapes d.at d.shape d.arrives) in
        let w = d.words in
        let r = need_take costs (suc at) b.instrs in
        cheaper (cost_upto costs b at br.0) (Rattle.code_ways.specs.Certified.cost_at_depth costs b p.depth)
        (omega (arith, l, z, w, r)) (count_take costs (suc at) b.instrs) p.cheap br.2

    keeps : KeepsAll code costs n b at x
    keeps rule.BadJump e = true≢false (sym e ∙ q.target)
    keeps rule.BadOperand e = true≢false (sym e ∙ q.operand)
    keeps rule.StackShape br = shape_kept br
    keeps rule.WrongKind br =
        true≢false (sym (subst (λ y. begins (takes code b y x) y ≡ true) (sym (shapes at br.0 br.1)) q.found) ∙ br.2)
    keeps rule.BadLocal e = true≢false (sym e ∙ q.local)
    keeps rule.FallsOff e = true≢false (sym e ∙ q.inside)
    keeps rule.LimitOf br = limit_kept (is_value_class b.class) refl br

  pub certified_accepted : (is_value_class b.class ≡ true → IsCheap code costs b notes)
      → (cost : Cost) × (block_fault code costs n b ≡ Ok cost)
  certified_accepted cheap = passes code costs n b h.some (keeps cheap)
