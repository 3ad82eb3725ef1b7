-- What places of certified code cost.
use Rattle.std.proofs.Common.{◌≡◌, ◌∙◌, ℕ, suc, ◌+◌, ◌<◌, ◌≤◌, Bool, true, false, cond, not, ◌&&◌, ◌||◌, length, Option, Some, None, refl, sym, ap, subst, arith, true≢false}
use Rattle.std.specs.Prelude.{slice_get, nat_lt, nat_eq}
use Rattle.std.proofs.lemmas.Bool.Decides.{nat_tests}
use Rattle.std.proofs.lemmas.Option.{slice_get_within}
use Rattle.rev_code.specs.declared.code.Code.{Code}
use Rattle.rev_code.specs.declared.code.CodeBlock.{CodeBlock}
use Rattle.rev_code.specs.declared.code.Instr.{Instr}
use Rattle.rev_code.specs.declared.code.Instr.TheVariants as i
use Rattle.code_rules.specs.Pass.{Note, paid_after, target, falls, is_charge, is_paid_for, is_value_class, bad_jump}
use Rattle.code_soundness.specs.Certificate.{IsNoted}
use Rattle.code_soundness.specs.Prices.{AllCertified, Prices, Bears, block_length, instr_in, place_price, place}

-- by the rule on jumps one that does not lead on leads to a Charge
pub back_at_charge : (within less value charge : Bool) → (not within || (not less && (value || not charge))) ≡ false
    → less ≡ false → charge ≡ true
back_at_charge within true value charge h e = absurd (true≢false e)
back_at_charge false false value charge h e = absurd (true≢false h)
back_at_charge true false true charge h e = absurd (true≢false h)
back_at_charge true false false false h e = absurd (true≢false h)
back_at_charge true false false true h e = refl

module _ (code : Code) (notes : ℕ → ℕ → Note) (certified : AllCertified code notes) (p : Prices) (most : ℕ)
    (bears : Bears p most)
    (short : (n : ℕ) (b : CodeBlock) → slice_get code.blocks n ≡ Some b → length b.instrs ≤ most) where
  -- a note that is paid only where another is
  price_less : (o : Option Instr) (d e : Bool) → (d ≡ true → e ≡ true) → place_price p o d ≤ p.other + cond e p.paid 0
  price_less (Some (i.Charge line)) d e h = omega arith
  price_less None true e h =
      let z = h refl in subst (λ y. p.other + p.paid ≤ p.other + cond y p.paid 0) (sym z) (omega arith)
  price_less None false e h = omega arith
  price_less (Some _) true e h =
      let z = h refl in subst (λ y. p.other + p.paid ≤ p.other + cond y p.paid 0) (sym z) (omega arith)
  price_less (Some _) false e h = omega arith

  price_most : (o : Option Instr) (d : Bool) → place_price p o d ≤ p.other + p.paid
  price_most o true = price_less o true true (λ e. e)
  price_most o false = let z = price_less o false false (λ e. e) in omega (arith, z)

  module _ (n : ℕ) (b : CodeBlock) (is : slice_get code.blocks n ≡ Some b) where
    at_place : (at : ℕ)
        → place code notes p n at
        ≡ p.left (length b.instrs) at + place_price p (slice_get b.instrs at) (notes n at).paid
    at_place at = (λ j. p.left (block_length (is j)) at + place_price p (instr_in (is j) at) (notes n at).paid)

    noted : (at : ℕ) (x : Instr) → slice_get b.instrs at ≡ Some x → IsNoted code n b (notes n) at x
    noted = (certified n b is).each

    inside : (at : ℕ) (x : Instr) → slice_get b.instrs at ≡ Some x → at < length b.instrs
    inside at x here = slice_get_within b.instrs at x here

    -- the next place is in the block
    next_inside : (at : ℕ) (x : Instr) → slice_get b.instrs at ≡ Some x → falls x ≡ true → suc at < length b.instrs
    next_inside at x here f =
        let a = inside at x here in
        let z : nat_eq (suc at) (length b.instrs) ≡ false =
        sym (ap (λ d. d && nat_eq (suc at) (length b.instrs)) f) ∙ (noted at x here).inside in
        grind (arith, nat_tests, a, z)

    -- an instruction that is no Charge and needs no payment
    abbrev pub Plain : Instr → Type 0
    Plain x = ((d : Bool) → paid_after d x ≡ d) × ((d : Bool) → place_price p (Some x) d ≡ p.other + cond d p.paid 0)

    -- the next instruction
    pub on : (at : ℕ) (x : Instr) → slice_get b.instrs at ≡ Some x → Plain x → falls x ≡ true
        → place code notes p n (suc at) + p.each ≤ place code notes p n at
    on at x here pl f =
        let q = noted at x here in
        let d : (notes n (suc at)).paid ≡ true → (notes n at).paid ≡ true =
        (λ e. sym (pl.0 (notes n at).paid) ∙ (q.on f).paid e) in
        let a = price_less (slice_get b.instrs (suc at)) (notes n (suc at)).paid (notes n at).paid d in
        let e : place_price p (slice_get b.instrs at) (notes n at).paid ≡ p.other + cond (notes n at).paid p.paid 0 =
        ap (λ o. place_price p o (notes n at).paid) here ∙ pl.1 (notes n at).paid in
        let l = bears.on (length b.instrs) at (suc at) (omega arith)
        (let z = next_inside at x here f in omega (arith, z)) (short n b is) in
        let e1 = at_place at in
        let e2 = at_place (suc at) in
        omega (arith, a, e, l, e1, e2)

    charge_price : (o : Option Instr) (d : Bool) → is_charge o ≡ true → place_price p o d ≡ 0
    charge_price (Some (i.Charge line)) d h = refl
    charge_price None d h = absurd (true≢false (sym h))
    charge_price (Some _) d h = absurd (true≢false (sym h))

    -- a jump, forward or back
    pub leap : (at to : ℕ) (x : Instr) → slice_get b.instrs at ≡ Some x → Plain x → target x ≡ Some to
        → place code notes p n to + p.each ≤ place code notes p n at
    leap at to x here pl tg = by (nat_lt at to) refl
      where
        q : IsNoted code n b (notes n) at x
        q = noted at x here

        e : place_price p (slice_get b.instrs at) (notes n at).paid ≡ p.other + cond (notes n at).paid p.paid 0
        e = ap (λ o. place_price p o (notes n at).paid) here ∙ pl.1 (notes n at).paid

        bad : (not (nat_lt to (length b.instrs))
            || (not (nat_lt at to) && (is_value_class b.class || not (is_charge (slice_get b.instrs to)))))
            ≡ false
        bad = ap (bad_jump b at) (sym tg) ∙ q.target

        within : to < length b.instrs
        within = go (nat_lt to (length b.instrs)) refl
          where
            go : (d : Bool) → nat_lt to (length b.instrs) ≡ d → to < length b.instrs
            go true z = grind (arith, nat_tests, z)
            go false z = absurd (true≢false
                (sym (ap (λ d.
                not d || (not (nat_lt at to) && (is_value_class b.class || not (is_charge (slice_get b.instrs to)))))
                z)
                ∙ bad))

        by : (d : Bool) → nat_lt at to ≡ d → place code notes p n to + p.each ≤ place code notes p n at
        by true z =
            let less : at < to = grind (arith, nat_tests, z) in
            let d : (notes n to).paid ≡ true → (notes n at).paid ≡ true =
            (λ y. sym (pl.0 (notes n at).paid) ∙ (q.jump to tg less).paid y) in
            let a = price_less (slice_get b.instrs to) (notes n to).paid (notes n at).paid d in
            let l = bears.on (length b.instrs) at to less (omega (arith, within)) (short n b is) in
            let e0 = e in
            let e1 = at_place at in
            let e2 = at_place to in
            omega (arith, a, e0, l, e1, e2)
        by false z =
            let ch = back_at_charge (nat_lt to (length b.instrs)) (nat_lt at to) (is_value_class b.class)
            (is_charge (slice_get b.instrs to)) bad z in
            let c0 = charge_price (slice_get b.instrs to) (notes n to).paid ch in
            let l = bears.back (length b.instrs) at to (inside at x here) (short n b is) in
            let e0 = e in
            let e1 = at_place at in
            let e2 = at_place to in
            omega (arith, c0, e0, l, e1, e2)

    -- a Charge
    pub charged : (at line : ℕ) → slice_get b.instrs at ≡ Some (i.Charge line)
        → place code notes p n (suc at) + p.each ≤ place code notes p n at + p.fuel
    charged at line here =
        let a = price_most (slice_get b.instrs (suc at)) (notes n (suc at)).paid in
        let l = bears.on (length b.instrs) at (suc at) (omega arith)
        (let z = next_inside at (i.Charge line) here refl in omega (arith, z)) (short n b is) in
        let e1 = at_place at in
        let e2 = at_place (suc at) in
        let f = bears.charge in
        omega (arith, a, l, e1, e2, f)

    -- a Call or a Fork: its payment is used up
    pub spent : (at : ℕ) (x : Instr) → slice_get b.instrs at ≡ Some x → is_paid_for x ≡ true → falls x ≡ true
        → ((d : Bool) → paid_after d x ≡ false) → ((d : Bool) → place_price p (Some x) d ≡ p.other + cond d p.paid 0)
        → place code notes p n (suc at) + p.paid + p.each ≤ place code notes p n at
    spent at x here pf f no_more price =
        let q = noted at x here in
        let d : (notes n (suc at)).paid ≡ true → false ≡ true =
        (λ e. sym (no_more (notes n at).paid) ∙ (q.on f).paid e) in
        let a = price_less (slice_get b.instrs (suc at)) (notes n (suc at)).paid false d in
        let e : place_price p (slice_get b.instrs at) (notes n at).paid ≡ p.other + p.paid =
        ap (λ o. place_price p o (notes n at).paid) here ∙ price (notes n at).paid
        ∙ ap (λ y. p.other + cond y p.paid 0) (q.paid pf) in
        let l = bears.on (length b.instrs) at (suc at) (omega arith)
        (let z = next_inside at x here f in omega (arith, z)) (short n b is) in
        let e1 = at_place at in
        let e2 = at_place (suc at) in
        omega (arith, a, e, l, e1, e2)

    -- the start of a block is not paid
    pub begun : place code notes p n 0 ≤ p.left (length b.instrs) 0 + p.other
    begun =
        let d : (notes n 0).paid ≡ true → false ≡ true = (λ e. (certified n b is).start.paid e) in
        let a = price_less (slice_get b.instrs 0) (notes n 0).paid false d in
        let e1 = at_place 0 in
        omega (arith, a, e1)

    -- an instruction is before the end of its block
    pub some_left : (at : ℕ) (x : Instr) → slice_get b.instrs at ≡ Some x → p.each ≤ place code notes p n at
    some_left at x here =
        let l = bears.on (length b.instrs) at (length b.instrs) (inside at x here) (omega arith) (short n b is) in
        let e1 = at_place at in
        omega (arith, l, e1)
