-- A block in which the pass finds no fault has a certificate.
use Rattle.std.proofs.Common.{◌≡◌, ◌∙◌, ℕ, zero, suc, ◌+◌, ◌-◌, ◌<◌, ◌≤◌, Bool, true, false, not, ◌&&◌, ◌||◌, List, [], ◌∷◌, length, Option, Some, None, refl, sym, ap, subst, arith, true≢false, take}
use Rattle.std.specs.Prelude.{slice_get, nat_lt, nat_eq, if◌then◌else◌, Result, Ok, Err}
use Rattle.std.proofs.lemmas.Bool.Decides.{nat_tests}
use Rattle.rev_code.specs.declared.code.Code.{Code}
use Rattle.rev_code.specs.declared.code.CodeBlock.{CodeBlock}
use Rattle.rev_code.specs.declared.code.Instr.{Instr}
use Rattle.code_rules.specs.declared.Cost.{Cost}
use Rattle.code_rules.specs.declared.Rule.{Rule}
use Rattle.code_rules.specs.declared.Rule.TheVariants as rule
use Rattle.code_rules.specs.Shapes.{same_shape, takes, begins, shape_after}
use Rattle.code_rules.specs.Pass as pass
use Rattle.code_rules.specs.Pass.{Note, Passed, known, arrival, before, gone, passed, fallen, jumped, joined, leads_to, meet, is_other, clashes, bad_jump, bad_operand, bad_local, falls_off, is_bare, is_paid_for, is_value_class, falls, target, bad_shape, wrong_kind, over_limit, broken, or_fault, scan, block_fault, most_words}
use Rattle.code_soundness.proofs.Basics.{and_parts, same_is, not_false, if_none, parts, no_length, some_within, within_some, before_next, before_length}
use Rattle.code_soundness.proofs.ShapesOnArrival.{meet_now, meet_mark, fits_on, joined_fits, leads_self, leads_is}
use Rattle.code_soundness.specs.Certificate.{Fits, leaves, IsNoted, IsCertified, note_at}

-- ---- no rule is broken anywhere

pub or_none : {A : Type 0} (at : ℕ) (o : Option Rule) (r : Result A (ℕ × Rule)) (c : A) → or_fault at o r ≡ Ok c
    → (o ≡ None) × (r ≡ Ok c)
or_none at None r c h = (refl, h)
or_none at (Some w) r c h = absurd (let z : Err (at, w) ≡ Ok c = h in cc)

module _ (code : Code) (costs : List Cost) (n : ℕ) (b : CodeBlock) (cost : Cost) where
  all_whole : (xs : List Instr) (done : List Passed) → scan code costs n b done xs ≡ Ok cost → (i : ℕ) (x : Instr)
      → slice_get xs i ≡ Some x
      → broken code costs n b (gone code b done (take i xs)) x (arrival code b (gone code b done (take i xs))) ≡ None
  all_whole [] done h i x e = absurd (let z : None ≡ Some x = e in cc)
  all_whole (y ∷ xs) done h zero x e =
      let p = or_none (length done) (broken code costs n b done y (arrival code b done))
      (scan code costs n b (passed code b done y ∷ done) xs) cost h in
      let z : y ≡ x = cc in
      ap (λ w. broken code costs n b done w (arrival code b done)) (sym z) ∙ p.0
  all_whole (y ∷ xs) done h (suc i) x e =
      let p = or_none (length done) (broken code costs n b done y (arrival code b done))
      (scan code costs n b (passed code b done y ∷ done) xs) cost h in
      all_whole xs (passed code b done y ∷ done) p.1 i x e

  -- no rule is broken at a place: what the tests of the pass say
  pub record Whole (at : ℕ) (x : Instr) : Type 0 where
    pub arrives : arrival code b (before code b at) ≡ Some (note_at code b at)
    pub jump : bad_jump b at (target x) ≡ false
    pub operand : bad_operand code n b x ≡ false
    pub few : nat_lt (length (note_at code b at).shape) (length (takes code b (note_at code b at).shape x)) ≡ false
    pub many : (is_bare x
        && nat_lt (length (takes code b (note_at code b at).shape x)) (length (note_at code b at).shape))
        ≡ false
    pub unpaid : (is_paid_for x && not (note_at code b at).paid) ≡ false
    pub clash : clashes code b (before code b at) (shape_after code b (note_at code b at).shape x) (target x) ≡ false
    pub found : begins (takes code b (note_at code b at).shape x) (note_at code b at).shape ≡ true
    pub local : bad_local b x ≡ false
    pub inside : falls_off b at x ≡ false
    pub small : over_limit code costs b (before code b at) (record { instr = x; note = note_at code b at }) ≡ false

  pub whole_with : (at : ℕ) (x : Instr) → at ≤ length b.instrs → (o : Option Note)
      → arrival code b (before code b at) ≡ o
      → broken code costs n b (before code b at) x (arrival code b (before code b at)) ≡ None → Whole at x
  whole_with at x le None e h = absurd (
      let h' : broken code costs n b (before code b at) x None ≡ None =
      ap (broken code costs n b (before code b at) x) (sym e) ∙ h in
      let a = if_none (bad_jump b (length (before code b at)) (target x)) rule.BadJump _ h' in
      let a2 = if_none (bad_operand code n b x) rule.BadOperand _ a.1 in
      let z : Some rule.StackShape ≡ None = a2.1 in cc)
  whole_with at x le (Some m) e h =
      let is_m : note_at code b at ≡ m = ap known e in
      let len = before_length code b at le in
      let some : arrival code b (before code b at) ≡ Some (note_at code b at) = e ∙ ap Some (sym is_m) in
      let h' : broken code costs n b (before code b at) x (Some (note_at code b at)) ≡ None =
      ap (broken code costs n b (before code b at) x) (sym some) ∙ h in
      let a = if_none (bad_jump b (length (before code b at)) (target x)) rule.BadJump _ h' in
      let a2 = if_none (bad_operand code n b x) rule.BadOperand _ a.1 in
      let a3 = if_none (bad_shape code b (before code b at) (record { instr = x; note = note_at code b at }))
      rule.StackShape _ a2.1 in
      let a4 = if_none (wrong_kind code b (record { instr = x; note = note_at code b at })) rule.WrongKind _ a3.1 in
      let a5 = if_none (bad_local b x) rule.BadLocal _ a4.1 in
      let a6 = if_none (falls_off b (length (before code b at)) x) rule.FallsOff _ a5.1 in
      let a7 = if_none (over_limit code costs b (before code b at) (record { instr = x; note = note_at code b at }))
      rule.LimitOf None a6.1 in
      let ps = parts (nat_lt (length (note_at code b at).shape) (length (takes code b (note_at code b at).shape x)))
      (is_bare x && nat_lt (length (takes code b (note_at code b at).shape x)) (length (note_at code b at).shape))
      (is_paid_for x && not (note_at code b at).paid)
      (clashes code b (before code b at) (shape_after code b (note_at code b at).shape x) (target x)) a3.0 in
      record {
        arrives = some;
        jump = ap (λ y. bad_jump b y (target x)) (sym len) ∙ a.0;
        operand = a2.0;
        few = ps.0;
        many = ps.1;
        unpaid = ps.2;
        clash = ps.3;
        found = not_false _ a4.0;
        local = a5.0;
        inside = ap (λ y. falls_off b y x) (sym len) ∙ a6.0;
        small = a7.0;
      }

  module _ (fine : scan code costs n b [] b.instrs ≡ Ok cost) where
    whole : (at : ℕ) (x : Instr) → slice_get b.instrs at ≡ Some x → Whole at x
    whole at x h =
        whole_with at x (let w = some_within b.instrs at x h in omega (arith, w)) (arrival code b (before code b at))
        refl (all_whole b.instrs [] fine at x h)

    arrives_at : (at : ℕ) → at < length b.instrs → arrival code b (before code b at) ≡ Some (note_at code b at)
    arrives_at at h = let x = within_some b.instrs at h in (whole at x.0 x.1).arrives

    -- what a jump brings is kept up to its target
    record Kept (found : Note) (to k' : ℕ) : Type 0 where
      mark : Note
      there : jumped code b to (before code b k') ≡ Some mark
      fits : Fits found mark

    at_jump : (at to : ℕ) (x : Instr) → slice_get b.instrs at ≡ Some x → target x ≡ Some to
        → Kept (leaves code b (note_at code b at) x) to (suc at)
    at_jump at to x h tg =
        let l : leads_to to (target x) ≡ true = ap (leads_to to) tg ∙ leads_self to in
        record {
          mark = joined (jumped code b to (before code b at)) (leaves code b (note_at code b at) x);
          there =
              ap (jumped code b to) (before_next code b at x h)
              ∙ ap (λ d.
              if d then Some (joined (jumped code b to (before code b at)) (leaves code b (note_at code b at) x))
              else jumped code b to (before code b at))
              l;
          fits = joined_fits (jumped code b to (before code b at)) (leaves code b (note_at code b at) x);
        }

    past : (found : Note) (to k' : ℕ) → suc k' ≤ to → k' < length b.instrs → Kept found to k' → Kept found to (suc k')
    past found to k' le inside kp = by (leads_to to (target y.0)) refl
      where
        y : (x : Instr) × (slice_get b.instrs k' ≡ Some x)
        y = within_some b.instrs k' inside

        next : jumped code b to (before code b (suc k'))
            ≡ (if leads_to to (target y.0)
            then Some (joined (jumped code b to (before code b k')) (leaves code b (note_at code b k') y.0))
            else jumped code b to (before code b k'))
        next = ap (jumped code b to) (before_next code b k' y.0 y.1)

        by : (d : Bool) → leads_to to (target y.0) ≡ d → Kept found to (suc k')
        by false q = record {
          mark = kp.mark;
          there = next
              ∙ ap (λ d.
              if d then Some (joined (jumped code b to (before code b k')) (leaves code b (note_at code b k') y.0))
              else jumped code b to (before code b k'))
              q
              ∙ kp.there;
          fits = kp.fits;
        }
        by true q =
            let w = whole k' y.0 y.1 in
            let tg = leads_is to (target y.0) q in
            let len = before_length code b k' (omega (arith, inside)) in
            let lt : nat_lt (length (before code b k')) to ≡ true = grind (arith, nat_tests, len, le) in
            let c :
            clashes code b (before code b k') (shape_after code b (note_at code b k').shape y.0) (Some to) ≡ false =
            ap (clashes code b (before code b k') (shape_after code b (note_at code b k').shape y.0)) (sym tg)
            ∙ w.clash in
            let o :
            is_other (shape_after code b (note_at code b k').shape y.0) (jumped code b to (before code b k')) ≡ false =
            sym (ap (λ d.
            if d then is_other (shape_after code b (note_at code b k').shape y.0) (jumped code b to (before code b k'))
            else nat_lt 0 (length (shape_after code b (note_at code b k').shape y.0)))
            lt)
            ∙ c in
            let s : same_shape (shape_after code b (note_at code b k').shape y.0) kp.mark.shape ≡ true =
            not_false _ (ap (is_other (shape_after code b (note_at code b k').shape y.0)) (sym kp.there) ∙ o) in
            let f = kp.fits in
            record {
              mark = record {
                shape = shape_after code b (note_at code b k').shape y.0;
                paid = kp.mark.paid && (leaves code b (note_at code b k') y.0).paid;
              };
              there = next
                  ∙ ap (λ d.
                  if d then Some (joined (jumped code b to (before code b k')) (leaves code b (note_at code b k') y.0))
                  else jumped code b to (before code b k'))
                  q
                  ∙ ap (λ z. Some (joined z (leaves code b (note_at code b k') y.0))) kp.there;
              fits = record {
                shape = f.shape ∙ sym (same_is _ _ s);
                paid = λ h. f.paid (and_parts kp.mark.paid _ h).0;
              };
            }

    up_to : (found : Note) (to at d : ℕ) → suc at + d ≤ to → to < length b.instrs → Kept found to (suc at)
        → Kept found to (suc at + d)
    up_to found to at zero le inside kp = let z : suc at ≡ suc at + 0 = omega arith in subst (Kept found to) z kp
    up_to found to at (suc d) le inside kp =
        let z : suc (suc at + d) ≡ suc at + suc d = omega arith in
        subst (Kept found to) z (past found to (suc at + d) (omega (arith, le)) (omega (arith, le, inside))
        (up_to found to at d (omega (arith, le)) inside kp))

    target_inside : (at : ℕ) (to : Option ℕ) → bad_jump b at to ≡ false → (t : ℕ) → to ≡ Some t → t < length b.instrs
    target_inside at None h t e = absurd (let z : None ≡ Some t = e in cc)
    target_inside at (Some u) h t e = by (nat_lt u (length b.instrs)) refl h
      where
        by : (d : Bool) → nat_lt u (length b.instrs) ≡ d
            → (not d || (not (nat_lt at u) && (is_value_class b.class || not (pass.is_charge (slice_get b.instrs u)))))
            ≡ false
            → t < length b.instrs
        by true q g = (let ut : u ≡ t = cc in grind (arith, nat_tests, q, ut))
        by false q g = absurd (true≢false g)

    noted : (at : ℕ) (x : Instr) → slice_get b.instrs at ≡ Some x → IsNoted code n b (note_at code b) at x
    noted at x here = record {
      target = w.jump;
      operand = w.operand;
      found = w.found;
      bare = λ e. bare_by (is_bare x) (length (takes code b (note_at code b at).shape x))
          (length (note_at code b at).shape) w.few w.many e;
      paid = λ e. paid_by (is_paid_for x) (note_at code b at).paid w.unpaid e;
      local = w.local;
      inside = w.inside;
      small = λ e. small_by (is_value_class b.class) e w.small;
      on = λ f. on_by f;
      jump = λ to tg less. jump_by to tg less;
      back = λ to tg le. back_by to tg le;
    }
      where
        w : Whole at x
        w = whole at x here

        in_block : at < length b.instrs
        in_block = some_within b.instrs at x here

        bare_by : (d : Bool) (m u : ℕ) → nat_lt u m ≡ false → d && nat_lt m u ≡ false → d ≡ true → u ≡ m
        bare_by true m u h g e = grind (arith, nat_tests, h, g)
        bare_by false m u h g e = absurd (true≢false (sym e))

        paid_by : (d p : Bool) → d && not p ≡ false → d ≡ true → p ≡ true
        paid_by true p h e = not_false p h
        paid_by false p h e = absurd (true≢false (sym e))

        small_by : (d : Bool) → d ≡ false
            → (if d
            then pass.costs_too_much
            (pass.cost_of code costs b (record { instr = x; note = note_at code b at } ∷ before code b at))
            else nat_lt most_words (length (shape_after code b (note_at code b at).shape x)))
            ≡ false
            → length (shape_after code b (note_at code b at).shape x) ≤ most_words
        small_by false e h = grind (arith, nat_tests, h)
        small_by true e h = absurd (true≢false e)

        on_by : falls x ≡ true → Fits (leaves code b (note_at code b at) x) (note_at code b (suc at))
        on_by f =
            let i = in_block in
            let z : nat_eq (suc at) (length b.instrs) ≡ false =
            sym (ap (λ d. d && nat_eq (suc at) (length b.instrs)) f) ∙ w.inside in
            let lt : suc at < length b.instrs = grind (arith, nat_tests, i, z) in
            let fl : fallen code b (before code b (suc at)) ≡ Some (leaves code b (note_at code b at) x) =
            ap (fallen code b) (before_next code b at x here)
            ∙ ap (λ d. if d then Some (leaves code b (note_at code b at) x) else None) f in
            meet_now (leaves code b (note_at code b at) x)
            (jumped code b (length (before code b (suc at))) (before code b (suc at))) (note_at code b (suc at))
            (ap (λ o. meet o (jumped code b (length (before code b (suc at))) (before code b (suc at)))) (sym fl)
            ∙ arrives_at (suc at) lt)

        jump_by : (to : ℕ) → target x ≡ Some to → at < to
            → Fits (leaves code b (note_at code b at) x) (note_at code b to)
        jump_by to tg less =
            let inside = target_inside at (target x) w.jump to tg in
            let e : suc at + (to - suc at) ≡ to = omega (arith, less) in
            let kp = subst (Kept (leaves code b (note_at code b at) x) to) e
            (up_to (leaves code b (note_at code b at) x) to at (to - suc at) (omega (arith, less)) inside
            (at_jump at to x here tg)) in
            let len = before_length code b to (omega (arith, inside)) in
            fits_on _ kp.mark _ kp.fits
            (meet_mark (fallen code b (before code b to)) kp.mark (note_at code b to)
            (ap (meet (fallen code b (before code b to)))
            (sym (ap (λ y. jumped code b y (before code b to)) len ∙ kp.there))
            ∙ arrives_at to inside))

        back_by : (to : ℕ) → target x ≡ Some to → to ≤ at → shape_after code b (note_at code b at).shape x ≡ []
        back_by to tg le =
            let i = in_block in
            let len = before_length code b at (omega (arith, i)) in
            let ge : nat_lt (length (before code b at)) to ≡ false = grind (arith, nat_tests, len, le) in
            no_length _ (sym (ap (λ d.
            if d then is_other (shape_after code b (note_at code b at).shape x) (jumped code b to (before code b at))
            else nat_lt 0 (length (shape_after code b (note_at code b at).shape x)))
            ge)
            ∙ ap (clashes code b (before code b at) (shape_after code b (note_at code b at).shape x)) (sym tg)
            ∙ w.clash)

pub accepted : (code : Code) (costs : List Cost) (n : ℕ) (b : CodeBlock) (cost : Cost)
    → block_fault code costs n b ≡ Ok cost → IsCertified code n b (note_at code b)
accepted code costs n b cost h = by (nat_eq (length b.instrs) 0) refl h
  where
    by : (d : Bool) → nat_eq (length b.instrs) 0 ≡ d
        → (if d then Err (0, rule.FallsOff) else scan code costs n b [] b.instrs) ≡ Ok cost
        → IsCertified code n b (note_at code b)
    by true e g = absurd (let z : Err (0, rule.FallsOff) ≡ Ok cost = g in cc)
    by false e g = record {
      some = grind (arith, nat_tests, e);
      start = record { shape = refl; paid = λ p. p };
      each = noted code costs n b cost g;
    }
