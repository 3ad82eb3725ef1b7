-- Code in which the verifier finds no fault has certificates, and its blocks cost no more than the limits.
use Rattle.std.proofs.Common.{◌≡◌, ◌∙◌, ℕ, zero, suc, ◌+◌, ◌<◌, ◌≤◌, Bool, true, false, List, [], ◌∷◌, ◌++◌, length, take, Option, Some, None, refl, sym, ap, subst, arith}
use Rattle.std.specs.Prelude.{slice_get, nat_lt, nat_eq, if◌then◌else◌, Result, Ok, Err}
use Rattle.std.proofs.lemmas.Bool.Decides.{nat_tests}
use Rattle.std.proofs.lemmas.List.{append-nil, append_assoc}
use Rattle.rev_code.specs.declared.code.Code.{Code}
use Rattle.rev_code.specs.declared.code.CodeBlock.{CodeBlock}
use Rattle.rev_code.specs.declared.code.Instr.{Instr}
use Rattle.code_rules.specs.declared.Cost.{Cost}
use Rattle.code_rules.specs.declared.Rule.{Rule}
use Rattle.code_rules.specs.declared.Rule.TheVariants as rule
use Rattle.code_rules.specs.Pass.{Note, Passed, arrival, passed, target, bad_jump, bad_operand, bad_shape, wrong_kind, bad_local, falls_off, over_limit, broken, is_value_class, no_cost, cost_of, block_cost, costs_too_much, scan, block_fault, fault_or, blocks_fault, most_need, most_count, most_words, after, applied, greatest_depth, greatest_need}
use Rattle.code_rules.specs.Tables.{names_well, is_small}
use Rattle.code_rules.specs.Verdict.{first_fault, of_tables}
use Rattle.code_soundness.specs.Certificate.{note_at, IsCertified}
use Rattle.code_soundness.proofs.Accepted.{accepted, or_none}
use Rattle.code_soundness.proofs.Basics.{if_none}
use Rattle.code_soundness.proofs.Costs.{ok_eq, block_costs}
use Rattle.code_soundness.specs.AcceptedCode.{IsAccepted, AreCosts, notes_in, notes_of, all_passed}
use Rattle.code_soundness.proofs.Rooms.{place_room}
use Rattle.code_soundness.proofs.Lists.{none_some, some_eq, or_parts}

-- ---- what a block costs

module _ (code : Code) (costs : List Cost) (n : ℕ) (b : CodeBlock) where
  within : (done : List Passed) (x : Instr) (o : Option Note) → arrival code b done ≡ o
      → broken code costs n b done x o ≡ None → over_limit code costs b done (passed code b done x) ≡ false
  within done x None e h = absurd (
      let a = if_none (bad_jump b (length done) (target x)) rule.BadJump _ h in
      let a2 = if_none (bad_operand code n b x) rule.BadOperand _ a.1 in none_some (sym a2.1))
  within done x (Some m) e h =
      let p : Passed = record { instr = x; note = m } in
      let a = if_none (bad_jump b (length done) (target x)) rule.BadJump _ h in
      let a2 = if_none (bad_operand code n b x) rule.BadOperand _ a.1 in
      let a3 = if_none (bad_shape code b done p) rule.StackShape _ a2.1 in
      let a4 = if_none (wrong_kind code b p) rule.WrongKind _ a3.1 in
      let a5 = if_none (bad_local b x) rule.BadLocal _ a4.1 in
      let a6 = if_none (falls_off b (length done) x) rule.FallsOff _ a5.1 in
      let a7 = if_none (over_limit code costs b done p) rule.LimitOf None a6.1 in
      let z : passed code b done x ≡ p =
      ap (λ o. record { instr = x; note = Rattle.code_rules.specs.Pass.known o }) e in
      ap (over_limit code costs b done) z ∙ a7.0

  cheap : (done : List Passed) (p : Passed) → over_limit code costs b done p ≡ false
      → costs_too_much (block_cost code costs b (p ∷ done)) ≡ false
  cheap done p h = by (is_value_class b.class) h
    where
      by : (d : Bool)
          → (if d then costs_too_much (cost_of code costs b (p ∷ done))
          else nat_lt most_words (length (after code b p).shape))
          ≡ false
          → costs_too_much (if d then cost_of code costs b (p ∷ done) else no_cost) ≡ false
      by true g = g
      by false g = refl

  scan_cheap : (xs : List Instr) (done : List Passed) (c : Cost) → costs_too_much (block_cost code costs b done) ≡ false
      → scan code costs n b done xs ≡ Ok c → costs_too_much c ≡ false
  scan_cheap [] done c g h =
      ap costs_too_much (ok_eq (Ok (block_cost code costs b done)) c (block_cost code costs b done) h refl) ∙ g
  scan_cheap (x ∷ xs) done c g h =
      let p = or_none (length done) (broken code costs n b done x (arrival code b done))
      (scan code costs n b (passed code b done x ∷ done) xs) c h in
      scan_cheap xs (passed code b done x ∷ done) c
      (cheap done (passed code b done x) (within done x (arrival code b done) refl p.0)) p.1

  -- a block has an instruction, so that its limits were looked at
  block_scan : (c : Cost) → block_fault code costs n b ≡ Ok c → costs_too_much c ≡ false
  block_scan c h = by (nat_eq (length b.instrs) 0) refl h
    where
      some : (xs : List Instr) → 0 < length xs → scan code costs n b [] xs ≡ Ok c → costs_too_much c ≡ false
      some [] l g = absurd (omega (arith, l))
      some (x ∷ xs) l g =
          let p = or_none 0 (broken code costs n b [] x (arrival code b []))
          (scan code costs n b (passed code b [] x ∷ []) xs) c g in
          scan_cheap xs (passed code b [] x ∷ []) c
          (cheap [] (passed code b [] x) (within [] x (arrival code b []) refl p.0)) p.1

      by : (d : Bool) → nat_eq (length b.instrs) 0 ≡ d
          → (if d then Err (0, rule.FallsOff) else scan code costs n b [] b.instrs) ≡ Ok c → costs_too_much c ≡ false
      by true e g = absurd (let z : Err (0, rule.FallsOff) ≡ Ok c = g in cc)
      by false e g = some b.instrs (grind (arith, nat_tests, e)) g

-- ---- all blocks

-- what these blocks cost, behind blocks of these costs
record Found (code : Code) (costs : List Cost) (n : ℕ) (bs : List CodeBlock) : Type 0 where
  more : List Cost
  same : length more ≡ length bs
  each : (j : ℕ) (b : CodeBlock) → slice_get bs j ≡ Some b
      → (c : Cost) × (slice_get more j ≡ Some c) × (block_fault code (costs ++ take j more) (n + j) b ≡ Ok c)

found : (code : Code) (bs : List CodeBlock) (costs : List Cost) (n : ℕ) → blocks_fault code costs n bs ≡ None
    → Found code costs n bs
found code [] costs n h = record { more = []; same = refl; each = λ j b e. absurd (none_some e) }
found code (b ∷ bs) costs n h = by (block_fault code costs n b) refl h (λ c. found code bs (costs ++ c ∷ []) (suc n))
  where
    by : (o : Result Cost (ℕ × Rule)) → block_fault code costs n b ≡ o
        → fault_or n o (λ cost. blocks_fault code (costs ++ cost ∷ []) (suc n) bs) ≡ None
        → ((c : Cost) → blocks_fault code (costs ++ c ∷ []) (suc n) bs ≡ None → Found code (costs ++ c ∷ []) (suc n) bs)
        → Found code costs n (b ∷ bs)
    by (Err f) e g rest = absurd (none_some (sym g))
    by (Ok c) e g rest =
        let r = rest c g in
        record { more = c ∷ r.more; same = ap suc r.same; each = at c e r }
      where
        at : (c : Cost) → block_fault code costs n b ≡ Ok c → (r : Found code (costs ++ c ∷ []) (suc n) bs)
            → (j : ℕ) (b' : CodeBlock) → slice_get (b ∷ bs) j ≡ Some b'
            → (c' : Cost) × (slice_get (c ∷ r.more) j ≡ Some c')
            × (block_fault code (costs ++ take j (c ∷ r.more)) (n + j) b' ≡ Ok c')
        at c e r zero b' here =
            let z : n + 0 ≡ n = omega arith in (
              c,
              refl,
              ap (λ l. block_fault code l (n + 0) b') (append-nil costs) ∙ ap (λ m. block_fault code costs m b') z
                  ∙ ap (block_fault code costs n) (sym (some_eq here)) ∙ e,
            )
        at c e r (suc j) b' here =
            let q = r.each j b' here in
            let z : n + suc j ≡ suc n + j = omega arith in (
              q.0,
              q.1,
              ap (λ l. block_fault code l (n + suc j) b') (sym (append_assoc costs (c ∷ []) (take j r.more)))
                  ∙ ap (λ m. block_fault code (costs ++ c ∷ [] ++ take j r.more) m b') z ∙ q.2,
            )

-- what no fault says
record NoFault (code : Code) : Type 0 where
  named : names_well code ≡ true
  small : is_small code ≡ true
  found : Found code [] 0 code.blocks

no_fault : (code : Code) → first_fault code ≡ None → NoFault code
no_fault code h = by (names_well code) refl (is_small code) refl h
  where
    by : (d : Bool) → names_well code ≡ d → (e : Bool) → is_small code ≡ e
        → (if d then (if e then blocks_fault code [] 0 code.blocks else Some (of_tables rule.LimitOf))
        else Some (of_tables rule.BadOperand))
        ≡ None
        → NoFault code
    by true p true q g = record { named = p; small = q; found = found code code.blocks [] 0 g }
    by true p false q g = absurd (none_some (sym g))
    by false p e q g = absurd (none_some (sym g))

pub no_fault_accepted : (code : Code) → first_fault code ≡ None → IsAccepted code (notes_of code)
no_fault_accepted code h =
    let f = no_fault code h in
    record {
      certified = λ n b is.
          let q = f.found.each n b is in
          let z : 0 + n ≡ n = omega arith in
          subst (λ o. IsCertified code n b (notes_in code o)) (sym is)
          (accepted code ([] ++ take n f.found.more) n b q.0
          (ap (λ m. block_fault code ([] ++ take n f.found.more) m b) (sym z) ∙ q.2));
      named = f.named;
      small = f.small;
    }

not_less : (m n : ℕ) → nat_lt m n ≡ false → n ≤ m
not_less m n h = grind (arith, nat_tests, h)

pub no_fault_costs : (code : Code) → first_fault code ≡ None → (costs : List Cost) × AreCosts code costs
no_fault_costs code h = (
  f.found.more,
  record {
    each = λ n b is.
        let q = f.found.each n b is in q.1 ∙ ap Some (block_costs code (take n f.found.more) n b q.0 (fault n b is));
    need = λ n c is.
        not_less most_need c.need (or_parts (nat_lt most_need c.need) (nat_lt most_count c.count) (cheap_at n c is)).0;
    count = λ n c is.
        not_less most_count c.count
        (or_parts (nat_lt most_need c.need) (nat_lt most_count c.count) (cheap_at n c is)).1;
    room = λ n b c is is_c value at x here. room_at n b c is is_c value at x here;
  },
)
  where
    f : NoFault code
    f = no_fault code h

    fault : (n : ℕ) (b : CodeBlock) (is : slice_get code.blocks n ≡ Some b)
        → block_fault code (take n f.found.more) n b ≡ Ok (f.found.each n b is).0
    fault n b is =
        let z : 0 + n ≡ n = omega arith in
        ap (λ m. block_fault code (take n f.found.more) m b) (sym z) ∙ (f.found.each n b is).2

    block_there : (n : ℕ) (c : Cost) → slice_get f.found.more n ≡ Some c
        → (b : CodeBlock) × (slice_get code.blocks n ≡ Some b)
    block_there n c is =
        let i = Rattle.code_soundness.proofs.Lists.some_within f.found.more n c is in
        let s = f.found.same in
        Rattle.code_soundness.proofs.Lists.within_some code.blocks n (omega (arith, i, s))

    cheap_at : (n : ℕ) (c : Cost) → slice_get f.found.more n ≡ Some c → costs_too_much c ≡ false
    cheap_at n c is =
        let b = block_there n c is in
        let q = f.found.each n b.0 b.1 in
        ap costs_too_much (some_eq (sym is ∙ q.1)) ∙ block_scan code (take n f.found.more) n b.0 q.0 (fault n b.0 b.1)

    room_at : (n : ℕ) (b : CodeBlock) (c : Cost) → slice_get code.blocks n ≡ Some b → slice_get f.found.more n ≡ Some c
        → is_value_class b.class ≡ true → (at : ℕ) (x : Instr) → slice_get b.instrs at ≡ Some x
        → length b.locals + length (notes_of code n at).shape + (applied (take n f.found.more) x).need ≤ c.need
    room_at n b c is is_c value at x here =
        let q = f.found.each n b is in
        let z : c ≡ block_cost code (take n f.found.more) b (all_passed code b) =
        some_eq (sym is_c ∙ q.1) ∙ block_costs code (take n f.found.more) n b q.0 (fault n b is) in
        let y : c ≡ cost_of code (take n f.found.more) b (all_passed code b) =
        z ∙ ap (λ d. if d then cost_of code (take n f.found.more) b (all_passed code b) else no_cost) value in
        let w : c.need
        ≡ length b.locals + greatest_depth code b (all_passed code b)
        + greatest_need (take n f.found.more) (all_passed code b) = ap (λ u. u.need) y in
        let s : length (notes_of code n at).shape ≡ length (note_at code b at).shape =
        ap (λ o. length (notes_in code o at).shape) is in
        let r = place_room code b (take n f.found.more) at x here in
        omega (arith, w, s, r)
