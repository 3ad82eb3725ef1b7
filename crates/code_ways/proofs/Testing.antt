-- Each test of the pass says whether the instruction breaks the rule, in words.
use Rattle.std.proofs.Common.{◌≡◌, ◌∙◌, ◌⊎◌, inl, inr, ℕ, suc, ◌<◌, Bool, true, false, not, ◌&&◌, ◌||◌, List, ◌∷◌, length, Option, Some, None, refl, sym, ap, subst, arith, true≢false}
use Rattle.std.specs.Prelude.{slice_get, nat_lt, if◌then◌else◌}
use Rattle.std.proofs.lemmas.Bool.Decides.{nat_tests}
use Rattle.rev_code.specs.declared.code.Code.{Code}
use Rattle.rev_code.specs.declared.code.CodeBlock.{CodeBlock}
use Rattle.rev_code.specs.declared.code.Instr.{Instr}
use Rattle.rev_code.specs.declared.code.Instr.TheVariants as i
use Rattle.code_rules.specs.declared.Cost.{Cost}
use Rattle.code_rules.specs.Shapes.{Shape, same_shape, takes, begins, shape_after}
use Rattle.code_rules.specs.Pass.{Note, passed, before, jumped, is_other, clashes, is_bare, is_paid_for, is_charge, is_value_class, target, bad_shape, wrong_kind, over_limit, cost_of, costs_too_much, greatest_depth, most_words}
use Rattle.code_soundness.specs.Certificate.{note_at}
use Rattle.code_soundness.proofs.Basics.{or_parts, and_false, not_true, and_parts, same_is, not_false, some_within, no_length, before_next, before_length, same_self}
use Rattle.code_ways.specs.Ways.{Arrives, Way}
use Rattle.code_ways.specs.Breaks.{IsEarlierJump, BreaksShape, differ, too_few, too_many, unpaid, clash, back, IsDeepest, cost_upto, BreaksLimit}
use Rattle.code_ways.proofs.Knowing.{Good, Known, AllKnown, Led, led}
use Rattle.code_ways.proofs.Depths.{cost_before, deepest}

or_cases : (d e : Bool) → d || e ≡ true → (d ≡ true) ⊎ (e ≡ true)
or_cases true e h = inl refl
or_cases false e h = inr h

pub no_charge : (x : Instr) → is_paid_for x ≡ true → is_charge (Some x) ≡ false
no_charge (i.Charge line) e = absurd (true≢false (sym e))
no_charge _ e = refl

module _ (code : Code) (costs : List Cost) (n : ℕ) (b : CodeBlock) (at : ℕ) (x : Instr)
    (here : slice_get b.instrs at ≡ Some x) (good : Good code costs n b at) (known : AllKnown code costs n b at)
    (k : Known code costs n b at) where
  inside : at < length b.instrs
  inside = some_within b.instrs at x here

  len : length (before code b at) ≡ at
  len = before_length code b at (let h = inside in omega (arith, h))

  led_there : (to : ℕ) → at < to → Led code costs n b to at (jumped code b to (before code b at))
  led_there to less = led code costs n b to at (omega (arith, less)) (let h = inside in omega (arith, h)) good known

  -- ---- clashes

  clash_at : (to : ℕ) (d : Bool) → nat_lt at to ≡ d
      → clashes code b (before code b at) (shape_after code b (note_at code b at).shape x) (Some to)
      ≡ (if d then is_other (shape_after code b (note_at code b at).shape x) (jumped code b to (before code b at))
      else nat_lt 0 (length (shape_after code b (note_at code b at).shape x)))
  clash_at to d e =
      ap (λ m. if nat_lt m to
      then is_other (shape_after code b (note_at code b at).shape x) (jumped code b to (before code b at))
      else nat_lt 0 (length (shape_after code b (note_at code b at).shape x)))
      len
      ∙ ap (λ v.
      if v then is_other (shape_after code b (note_at code b at).shape x) (jumped code b to (before code b at))
      else nat_lt 0 (length (shape_after code b (note_at code b at).shape x)))
      e

  other_breaks : (to : ℕ) → target x ≡ Some to → at < to → (o : Option Note) → Led code costs n b to at o
      → is_other (shape_after code b (note_at code b at).shape x) o ≡ true → BreaksShape code b at x
  other_breaks to tg less None l h = absurd (true≢false (sym h))
  other_breaks to tg less (Some q) l h =
      let f = l.each l.from l.instr l.earlier l.is l.jumps in
      clash (note_at code b at).shape k.arrives to tg less
      (record {
        from = l.from;
        earlier = l.earlier;
        instr = l.instr;
        is = l.is;
        jumps = l.jumps;
        shape = (note_at code b l.from).shape;
        arrives = (known l.from l.earlier).arrives;
      })
      (λ z. true≢false (sym (same_self q.shape) ∙ sym (ap (λ s. same_shape s q.shape) (z ∙ f.shape))
      ∙ not_true (same_shape (shape_after code b (note_at code b at).shape x) q.shape) h))

  clash_breaks : (o : Option ℕ) → target x ≡ o
      → clashes code b (before code b at) (shape_after code b (note_at code b at).shape x) o ≡ true
      → BreaksShape code b at x
  clash_breaks None e h = absurd (true≢false (sym h))
  clash_breaks (Some to) e h = by (nat_lt at to) refl
    where
      by : (d : Bool) → nat_lt at to ≡ d → BreaksShape code b at x
      by true q =
          let less : at < to = grind (arith, nat_tests, q) in
          other_breaks to e less (jumped code b to (before code b at)) (led_there to less)
          (sym (clash_at to true q) ∙ h)
      by false q =
          let g : nat_lt 0 (length (shape_after code b (note_at code b at).shape x)) ≡ true =
          sym (clash_at to false q) ∙ h in
          back (note_at code b at).shape k.arrives to e (grind (arith, nat_tests, q))
          (λ z. (let y : length (shape_after code b (note_at code b at).shape x) ≡ 0 = ap length z in
          grind (arith, nat_tests, g, y)))

  same_keeps : (to : ℕ) → at < to → (j : IsEarlierJump code b at to) → (o : Option Note) → Led code costs n b to at o
      → is_other (shape_after code b (note_at code b at).shape x) o ≡ false
      → shape_after code b (note_at code b at).shape x ≡ shape_after code b j.shape j.instr
  same_keeps to less j None l h = absurd (l j.from j.instr j.earlier j.is j.jumps)
  same_keeps to less j (Some q) l h =
      let f = l.each j.from j.instr j.earlier j.is j.jumps in
      same_is (shape_after code b (note_at code b at).shape x) q.shape
      (not_false (same_shape (shape_after code b (note_at code b at).shape x) q.shape) h)
      ∙ sym f.shape ∙ ap (λ s. shape_after code b s j.instr) (sym ((known j.from j.earlier).shapes j.shape j.arrives))

  -- ---- the rule on shapes

  pub shape_breaks : bad_shape code b (before code b at) (passed code b (before code b at) x) ≡ true
      → BreaksShape code b at x
  shape_breaks h =
      by1 (or_cases (nat_lt (length (note_at code b at).shape) (length (takes code b (note_at code b at).shape x))
      || (is_bare x && nat_lt (length (takes code b (note_at code b at).shape x)) (length (note_at code b at).shape))
      || (is_paid_for x && not (note_at code b at).paid))
      (clashes code b (before code b at) (shape_after code b (note_at code b at).shape x) (target x)) h)
    where
      by3 : (nat_lt (length (note_at code b at).shape) (length (takes code b (note_at code b at).shape x)) ≡ true)
          ⊎ ((is_bare x
          && nat_lt (length (takes code b (note_at code b at).shape x)) (length (note_at code b at).shape))
          ≡ true)
          → BreaksShape code b at x
      by3 (inl e) = too_few (note_at code b at).shape k.arrives (grind (arith, nat_tests, e))
      by3 (inr e) =
          let q = and_parts (is_bare x)
          (nat_lt (length (takes code b (note_at code b at).shape x)) (length (note_at code b at).shape)) e in
          let g = q.1 in
          too_many (note_at code b at).shape k.arrives q.0 (grind (arith, nat_tests, g))

      by2 : ((nat_lt (length (note_at code b at).shape) (length (takes code b (note_at code b at).shape x))
          || (is_bare x
          && nat_lt (length (takes code b (note_at code b at).shape x)) (length (note_at code b at).shape)))
          ≡ true)
          ⊎ ((is_paid_for x && not (note_at code b at).paid) ≡ true)
          → BreaksShape code b at x
      by2 (inl e) =
          by3 (or_cases (nat_lt (length (note_at code b at).shape) (length (takes code b (note_at code b at).shape x)))
          (is_bare x && nat_lt (length (takes code b (note_at code b at).shape x)) (length (note_at code b at).shape))
          e)
      by2 (inr e) =
          let q = and_parts (is_paid_for x) (not (note_at code b at).paid) e in
          unpaid q.0 (subst (Way b at) (not_true (note_at code b at).paid q.1) k.way)

      by1 : ((nat_lt (length (note_at code b at).shape) (length (takes code b (note_at code b at).shape x))
          || (is_bare x
          && nat_lt (length (takes code b (note_at code b at).shape x)) (length (note_at code b at).shape))
          || (is_paid_for x && not (note_at code b at).paid))
          ≡ true)
          ⊎ (clashes code b (before code b at) (shape_after code b (note_at code b at).shape x) (target x) ≡ true)
          → BreaksShape code b at x
      by1 (inl e) =
          by2 (or_cases (nat_lt (length (note_at code b at).shape) (length (takes code b (note_at code b at).shape x))
          || (is_bare x
          && nat_lt (length (takes code b (note_at code b at).shape x)) (length (note_at code b at).shape)))
          (is_paid_for x && not (note_at code b at).paid) e)
      by1 (inr e) = clash_breaks (target x) refl e

  pub shape_keeps : bad_shape code b (before code b at) (passed code b (before code b at) x) ≡ false
      → BreaksShape code b at x → ⊥
  shape_keeps h br = by br
    where
      q1 : ((nat_lt (length (note_at code b at).shape) (length (takes code b (note_at code b at).shape x))
          || (is_bare x
          && nat_lt (length (takes code b (note_at code b at).shape x)) (length (note_at code b at).shape))
          || (is_paid_for x && not (note_at code b at).paid))
          ≡ false)
          × (clashes code b (before code b at) (shape_after code b (note_at code b at).shape x) (target x) ≡ false)
      q1 = or_parts (nat_lt (length (note_at code b at).shape) (length (takes code b (note_at code b at).shape x))
          || (is_bare x
          && nat_lt (length (takes code b (note_at code b at).shape x)) (length (note_at code b at).shape))
          || (is_paid_for x && not (note_at code b at).paid))
          (clashes code b (before code b at) (shape_after code b (note_at code b at).shape x) (target x)) h

      q2 : ((nat_lt (length (note_at code b at).shape) (length (takes code b (note_at code b at).shape x))
          || (is_bare x
          && nat_lt (length (takes code b (note_at code b at).shape x)) (length (note_at code b at).shape)))
          ≡ false)
          × ((is_paid_for x && not (note_at code b at).paid) ≡ false)
      q2 = or_parts (nat_lt (length (note_at code b at).shape) (length (takes code b (note_at code b at).shape x))
          || (is_bare x
          && nat_lt (length (takes code b (note_at code b at).shape x)) (length (note_at code b at).shape)))
          (is_paid_for x && not (note_at code b at).paid) q1.0

      q3 : (nat_lt (length (note_at code b at).shape) (length (takes code b (note_at code b at).shape x)) ≡ false)
          × ((is_bare x
          && nat_lt (length (takes code b (note_at code b at).shape x)) (length (note_at code b at).shape))
          ≡ false)
      q3 = or_parts (nat_lt (length (note_at code b at).shape) (length (takes code b (note_at code b at).shape x)))
          (is_bare x && nat_lt (length (takes code b (note_at code b at).shape x)) (length (note_at code b at).shape))
          q2.0

      by : BreaksShape code b at x → ⊥
      by (differ s t u v apart) = apart (k.shapes s u ∙ sym (k.shapes t v))
      by (too_few s u less) =
          let z = k.shapes s u in
          let a : length s ≡ length (note_at code b at).shape = ap length z in
          let c : length (takes code b s x) ≡ length (takes code b (note_at code b at).shape x) =
          ap (λ y. length (takes code b y x)) z in
          let e = q3.0 in
          grind (arith, nat_tests, e, a, c, less)
      by (too_many s u bare less) =
          let z = k.shapes s u in
          let a : length s ≡ length (note_at code b at).shape = ap length z in
          let c : length (takes code b s x) ≡ length (takes code b (note_at code b at).shape x) =
          ap (λ y. length (takes code b y x)) z in
          let e = and_false (is_bare x)
          (nat_lt (length (takes code b (note_at code b at).shape x)) (length (note_at code b at).shape)) q3.1 bare in
          grind (arith, nat_tests, e, a, c, less)
      by (unpaid pf w) =
          let e = not_false (note_at code b at).paid
          (and_false (is_paid_for x) (not (note_at code b at).paid) q2.1 pf) in
          true≢false (sym (k.paid (ap is_charge here ∙ no_charge x pf) false w e))
      by (clash s u to tg less j apart) =
          let e : nat_lt at to ≡ true = grind (arith, nat_tests, less) in
          let g :
          is_other (shape_after code b (note_at code b at).shape x) (jumped code b to (before code b at)) ≡ false =
          sym (clash_at to true e)
          ∙ ap (clashes code b (before code b at) (shape_after code b (note_at code b at).shape x)) (sym tg) ∙ q1.1 in
          apart (ap (λ y. shape_after code b y x) (k.shapes s u)
          ∙ same_keeps to less j (jumped code b to (before code b at)) (led_there to less) g)
      by (back s u to tg le words) =
          let e : nat_lt at to ≡ false = grind (arith, nat_tests, le) in
          let g : nat_lt 0 (length (shape_after code b (note_at code b at).shape x)) ≡ false =
          sym (clash_at to false e)
          ∙ ap (clashes code b (before code b at) (shape_after code b (note_at code b at).shape x)) (sym tg) ∙ q1.1 in
          words (ap (λ y. shape_after code b y x) (k.shapes s u)
          ∙ no_length (shape_after code b (note_at code b at).shape x) g)

  -- ---- kinds

  pub kind_breaks : wrong_kind code b (passed code b (before code b at) x) ≡ true
      → (s : Shape) × Arrives code b at s × (begins (takes code b s x) s ≡ false)
  kind_breaks h = (
    (note_at code b at).shape,
    k.arrives,
    not_true (begins (takes code b (note_at code b at).shape x) (note_at code b at).shape) h,
  )

  pub kind_keeps : wrong_kind code b (passed code b (before code b at) x) ≡ false
      → (s : Shape) × Arrives code b at s × (begins (takes code b s x) s ≡ false) → ⊥
  kind_keeps h q =
      true≢false (sym (not_false (begins (takes code b (note_at code b at).shape x) (note_at code b at).shape) h)
      ∙ sym (ap (λ y. begins (takes code b y x) y) (k.shapes q.0 q.1)) ∙ q.2)

  -- ---- limits

  known_here : AllKnown code costs n b (suc at)
  known_here j less = by (nat_lt j at) refl
    where
      by : (d : Bool) → nat_lt j at ≡ d → Known code costs n b j
      by true e = known j (grind (arith, nat_tests, e))
      by false e = let z : at ≡ j = grind (arith, nat_tests, e, less) in subst (Known code costs n b) z k

  the_depth : IsDeepest code b at (greatest_depth code b (before code b (suc at)))
  the_depth = deepest code costs n b at x here (let h = inside in omega (arith, h)) known_here

  the_cost : cost_of code costs b (passed code b (before code b at) x ∷ before code b at)
      ≡ cost_upto costs b at (greatest_depth code b (before code b (suc at)))
  the_cost = ap (cost_of code costs b) (sym (before_next code b at x here))
      ∙ cost_before code costs b at (let h = inside in omega (arith, h))

  pub limit_breaks : over_limit code costs b (before code b at) (passed code b (before code b at) x) ≡ true
      → BreaksLimit (is_value_class b.class) code costs b at x
  limit_breaks h = by (is_value_class b.class) h
    where
      by : (d : Bool)
          → (if d
          then costs_too_much (cost_of code costs b (record { instr = x; note = note_at code b at } ∷ before code b at))
          else nat_lt most_words (length (shape_after code b (note_at code b at).shape x)))
          ≡ true
          → BreaksLimit d code costs b at x
      by true e = (greatest_depth code b (before code b (suc at)), the_depth, sym (ap costs_too_much the_cost) ∙ e)
      by false e = ((note_at code b at).shape, k.arrives, grind (arith, nat_tests, e))

  pub limit_keeps : over_limit code costs b (before code b at) (passed code b (before code b at) x) ≡ false
      → BreaksLimit (is_value_class b.class) code costs b at x → ⊥
  limit_keeps h = by (is_value_class b.class) h
    where
      by : (d : Bool)
          → (if d
          then costs_too_much (cost_of code costs b (record { instr = x; note = note_at code b at } ∷ before code b at))
          else nat_lt most_words (length (shape_after code b (note_at code b at).shape x)))
          ≡ false
          → BreaksLimit d code costs b at x → ⊥
      by true e q =
          let t = the_depth in
          let l = t.most q.0 q.1.some in
          let m = q.1.most (greatest_depth code b (before code b (suc at))) t.some in
          let z : q.0 ≡ greatest_depth code b (before code b (suc at)) = omega (arith, l, m) in
          true≢false
          (sym q.2 ∙ ap (λ d. costs_too_much (cost_upto costs b at d)) z ∙ sym (ap costs_too_much the_cost) ∙ e)
      by false e q =
          let a : length (shape_after code b q.0 x) ≡ length (shape_after code b (note_at code b at).shape x) =
          ap (λ y. length (shape_after code b y x)) (k.shapes q.0 q.1) in
          let g = q.2 in
          grind (arith, nat_tests, e, a, g)
