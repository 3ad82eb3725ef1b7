-- The pass refuses a block exactly at its first fault, and accepts it exactly where each instruction keeps all rules.
use Rattle.std.proofs.Common.{◌≡◌, ◌∙◌, ℕ, zero, suc, ◌+◌, ◌<◌, ◌≤◌, Bool, true, false, List, [], ◌∷◌, length, take, Option, Some, None, refl, sym, ap, subst, arith, true≢false}
use Rattle.std.specs.Prelude.{slice_get, nat_lt, nat_eq, if◌then◌else◌, Result, Ok, Err}
use Rattle.std.proofs.lemmas.Bool.Decides.{nat_tests}
use Rattle.rev_code.specs.declared.code.Code.{Code}
use Rattle.rev_code.specs.declared.code.CodeBlock.{CodeBlock}
use Rattle.rev_code.specs.declared.code.Instr.{Instr}
use Rattle.code_rules.specs.declared.Cost.{Cost}
use Rattle.code_rules.specs.declared.Rule.{Rule}
use Rattle.code_rules.specs.declared.Rule.TheVariants as rule
use Rattle.code_rules.specs.Pass.{Note, Passed, arrival, before, passed, gone, known, target, bad_jump, bad_operand, bad_shape, wrong_kind, bad_local, falls_off, over_limit, broken, broken_with, broken_on_arrival, or_fault, scan, block_cost, block_fault, no_cost}
use Rattle.code_soundness.proofs.Basics.{some_eq, none_some, some_within, before_length}
use Rattle.code_soundness.proofs.Accepted.{whole_with}
use Rattle.code_ways.specs.Breaks.{Breaks, differ}
use Rattle.code_ways.specs.First.{rule_number, KeepsAll, BreaksFirst, IsFirstFault, AllKeep}
use Rattle.code_ways.proofs.Knowing.{Good, Known, AllKnown, all_known, known_at, differ_at}
use Rattle.code_ways.proofs.Testing as test

-- ---- the order of rules

rule_at : ℕ → Rule
rule_at zero = rule.LimitOf
rule_at (suc zero) = rule.BadJump
rule_at (suc (suc zero)) = rule.BadOperand
rule_at (suc (suc (suc zero))) = rule.StackShape
rule_at (suc (suc (suc (suc zero)))) = rule.WrongKind
rule_at (suc (suc (suc (suc (suc zero))))) = rule.BadLocal
rule_at (suc (suc (suc (suc (suc (suc zero)))))) = rule.FallsOff
rule_at _ = rule.LimitOf

at_number : (r : Rule) → rule_at (rule_number r) ≡ r
unfolding rule_at
at_number rule.BadJump = refl
at_number rule.BadOperand = refl
at_number rule.StackShape = refl
at_number rule.WrongKind = refl
at_number rule.BadLocal = refl
at_number rule.FallsOff = refl
at_number rule.LimitOf = refl

same_rule : (q r : Rule) → rule_number q ≡ rule_number r → q ≡ r
same_rule q r e = sym (at_number q) ∙ ap rule_at e ∙ at_number r

few_rules : (r : Rule) → rule_number r < 8
few_rules rule.BadJump = omega arith
few_rules rule.BadOperand = omega arith
few_rules rule.StackShape = omega arith
few_rules rule.WrongKind = omega arith
few_rules rule.BadLocal = omega arith
few_rules rule.FallsOff = omega arith
few_rules rule.LimitOf = omega arith

some_rule : (r : Rule) → 0 < rule_number r
some_rule rule.BadJump = omega arith
some_rule rule.BadOperand = omega arith
some_rule rule.StackShape = omega arith
some_rule rule.WrongKind = omega arith
some_rule rule.BadLocal = omega arith
some_rule rule.FallsOff = omega arith
some_rule rule.LimitOf = omega arith

-- ---- results

pub err_eq : (o : Result Cost (ℕ × Rule)) (p q : ℕ × Rule) → o ≡ Err p → o ≡ Err q → p ≡ q
err_eq o p q h g = cc

pub ok_err : (o : Result Cost (ℕ × Rule)) (c : Cost) (p : ℕ × Rule) → o ≡ Ok c → o ≡ Err p → ⊥
ok_err o c p h g = let z : Ok c ≡ Err p = sym h ∙ g in cc

module _ (code : Code) (costs : List Cost) (n : ℕ) (b : CodeBlock) where
  -- ---- one instruction

  module _ (at : ℕ) (x : Instr) where
    abbrev B : Rule → Type 0
    B r = Breaks code costs n b at x r

    -- the rules before this number are kept
    abbrev Kept : ℕ → Type 0
    Kept m = (q : Rule) → rule_number q < m → B q → ⊥

    abbrev pub Answers : Option Rule → Type 0
    Answers None = KeepsAll code costs n b at x
    Answers (Some r) = BreaksFirst code costs n b at x r

    one_kept : (r : Rule) → (B r → ⊥) → Kept (rule_number r) → Kept (suc (rule_number r))
    one_kept r h kept q less br = by (nat_lt (rule_number q) (rule_number r)) refl
      where
        by : (d : Bool) → nat_lt (rule_number q) (rule_number r) ≡ d → ⊥
        by true e = kept q (grind (arith, nat_tests, e)) br
        by false e = h (subst B (same_rule q r (grind (arith, nat_tests, e, less))) br)

    -- a test, and the tests behind it
    test_rule : (r : Rule) (d : Bool) (rest : Option Rule) → (d ≡ true → B r) → (d ≡ false → B r → ⊥)
        → Kept (rule_number r) → (Kept (suc (rule_number r)) → Answers rest) → Answers (if d then Some r else rest)
    test_rule r true rest breaks keeps kept next = record { breaks = breaks refl; first = kept }
    test_rule r false rest breaks keeps kept next = next (one_kept r (keeps refl) kept)

    none_kept : Kept 1
    none_kept q less br = let s = some_rule q in omega (arith, s, less)

    all_kept : Kept 8 → KeepsAll code costs n b at x
    all_kept kept q br = kept q (few_rules q) br

    falsely : (d : Bool) → d ≡ false → d ≡ true → ⊥
    falsely d e h = true≢false (sym h ∙ e)

    module _ (here : slice_get b.instrs at ≡ Some x) (good : Good code costs n b at) where
      inside : at < length b.instrs
      inside = some_within b.instrs at x here

      places : AllKnown code costs n b at
      places = all_known code costs n b at (let h = inside in omega (arith, h)) good

      len : length (before code b at) ≡ at
      len = before_length code b at (let h = inside in omega (arith, h))

      with_note : (o : Option Note) → arrival code b (before code b at) ≡ o → Kept 3
          → Answers (broken_with code costs b (before code b at) x o)
      with_note None e kept =
          (let d = differ_at code costs n b at inside good places e in
          record { breaks = differ d.one d.other d.arrives_one d.arrives_other d.apart; first = kept })
      with_note (Some m) e kept =
          subst (λ z. Answers (broken_on_arrival code costs b (before code b at) (record { instr = x; note = z })))
          (ap known e)
          (test_rule rule.StackShape (bad_shape code b (before code b at) (passed code b (before code b at) x)) _
          (test.shape_breaks code costs n b at x here good places k)
          (test.shape_keeps code costs n b at x here good places k) kept (λ k4.
          test_rule rule.WrongKind (wrong_kind code b (passed code b (before code b at) x)) _
          (test.kind_breaks code costs n b at x here good places k)
          (test.kind_keeps code costs n b at x here good places k) k4 (λ k5.
          test_rule rule.BadLocal (bad_local b x) _ (λ h. h) (falsely (bad_local b x)) k5 (λ k6.
          test_rule rule.FallsOff (falls_off b (length (before code b at)) x) _
          (λ h. ap (λ y. falls_off b y x) (sym len) ∙ h)
          (λ h g. true≢false (sym g ∙ ap (λ y. falls_off b y x) (sym len) ∙ h)) k6 (λ k7.
          test_rule rule.LimitOf (over_limit code costs b (before code b at) (passed code b (before code b at) x)) None
          (test.limit_breaks code costs n b at x here good places k)
          (test.limit_keeps code costs n b at x here good places k) k7 all_kept)))))
        where
          k : Known code costs n b at
          k = known_at code costs n b at inside good places (e ∙ ap Some (sym (ap known e)))

      pub answers : Answers (broken code costs n b (before code b at) x (arrival code b (before code b at)))
      answers =
          test_rule rule.BadJump (bad_jump b (length (before code b at)) (target x)) _
          (λ h. ap (λ y. bad_jump b y (target x)) (sym len) ∙ h)
          (λ h g. true≢false (sym g ∙ ap (λ y. bad_jump b y (target x)) (sym len) ∙ h)) none_kept (λ k2.
          test_rule rule.BadOperand (bad_operand code n b x) _ (λ h. h) (falsely (bad_operand code n b x)) k2
          (with_note (arrival code b (before code b at)) refl))

  -- ---- all instructions

  -- the pass breaks off at the first of these instructions where a rule is broken
  record Stops (done : List Passed) (xs : List Instr) (at : ℕ) (r : Rule) : Type 0 where
    off : ℕ
    is_at : at ≡ length done + off
    instr : Instr
    here : slice_get xs off ≡ Some instr
    fault : broken code costs n b (gone code b done (take off xs)) instr
        (arrival code b (gone code b done (take off xs)))
        ≡ Some r
    earlier : (j : ℕ) (x : Instr) → j < off → slice_get xs j ≡ Some x
        → broken code costs n b (gone code b done (take j xs)) x (arrival code b (gone code b done (take j xs))) ≡ None

  scan_stops : (xs : List Instr) (done : List Passed) (at : ℕ) (r : Rule) → scan code costs n b done xs ≡ Err (at, r)
      → Stops done xs at r
  scan_stops [] done at r h =
      absurd (ok_err (Ok (block_cost code costs b done)) (block_cost code costs b done) (at, r) refl h)
  scan_stops (x ∷ xs) done at r h =
      by (broken code costs n b done x (arrival code b done)) refl h (scan_stops xs (passed code b done x ∷ done) at r)
    where
      by : (o : Option Rule) → broken code costs n b done x (arrival code b done) ≡ o
          → or_fault (length done) o (scan code costs n b (passed code b done x ∷ done) xs) ≡ Err (at, r)
          → (scan code costs n b (passed code b done x ∷ done) xs ≡ Err (at, r)
          → Stops (passed code b done x ∷ done) xs at r)
          → Stops done (x ∷ xs) at r
      by (Some q) e g rest =
          let w = err_eq (Err (length done, q)) (length done, q) (at, r) refl g in
          let z : length done ≡ at = ap (λ u. u.0) w in
          let y : q ≡ r = ap (λ u. u.1) w in
          record {
            off = 0;
            is_at = omega (arith, z);
            instr = x;
            here = refl;
            fault = e ∙ ap Some y;
            earlier = λ j u less is. absurd (omega (arith, less));
          }
      by None e g rest =
          let t = rest g in
          record {
            off = suc t.off;
            is_at = (let z = t.is_at in omega (arith, z));
            instr = t.instr;
            here = t.here;
            fault = t.fault;
            earlier = first e t;
          }
        where
          first : broken code costs n b done x (arrival code b done) ≡ None
              → (t : Stops (passed code b done x ∷ done) xs at r) → (j : ℕ) (u : Instr) → j < suc t.off
              → slice_get (x ∷ xs) j ≡ Some u
              → broken code costs n b (gone code b done (take j (x ∷ xs))) u
              (arrival code b (gone code b done (take j (x ∷ xs))))
              ≡ None
          first e t zero u less is = ap (λ z. broken code costs n b done z (arrival code b done)) (sym (some_eq is)) ∙ e
          first e t (suc j) u less is = t.earlier j u (omega (arith, less)) is

  scan_whole : (xs : List Instr) (done : List Passed) (cost : Cost) → scan code costs n b done xs ≡ Ok cost
      → (j : ℕ) (x : Instr) → slice_get xs j ≡ Some x
      → broken code costs n b (gone code b done (take j xs)) x (arrival code b (gone code b done (take j xs))) ≡ None
  scan_whole [] done cost h j x is = absurd (none_some is)
  scan_whole (y ∷ xs) done cost h j x is =
      by (broken code costs n b done y (arrival code b done)) refl h (scan_whole xs (passed code b done y ∷ done) cost)
      j x is
    where
      by : (o : Option Rule) → broken code costs n b done y (arrival code b done) ≡ o
          → or_fault (length done) o (scan code costs n b (passed code b done y ∷ done) xs) ≡ Ok cost
          → (scan code costs n b (passed code b done y ∷ done) xs ≡ Ok cost → (j : ℕ) (x : Instr)
          → slice_get xs j ≡ Some x
          → broken code costs n b (gone code b (passed code b done y ∷ done) (take j xs)) x
          (arrival code b (gone code b (passed code b done y ∷ done) (take j xs)))
          ≡ None)
          → (j : ℕ) (x : Instr) → slice_get (y ∷ xs) j ≡ Some x
          → broken code costs n b (gone code b done (take j (y ∷ xs))) x
          (arrival code b (gone code b done (take j (y ∷ xs))))
          ≡ None
      by (Some q) e g rest j x is = absurd (ok_err (Err (length done, q)) cost (length done, q) g refl)
      by None e g rest zero x is = ap (λ z. broken code costs n b done z (arrival code b done)) (sym (some_eq is)) ∙ e
      by None e g rest (suc j) x is = rest g j x is

  -- no rule is broken before a place
  good_to : (at : ℕ)
      → ((j : ℕ) (x : Instr) → j < at → slice_get b.instrs j ≡ Some x
      → broken code costs n b (before code b j) x (arrival code b (before code b j)) ≡ None)
      → Good code costs n b at
  good_to at h j x less is =
      whole_with code costs n b no_cost j x (let w = some_within b.instrs j x is in omega (arith, w))
      (arrival code b (before code b j)) refl (h j x less is)

  keeps_to : (at : ℕ)
      → ((j : ℕ) (x : Instr) → j < at → slice_get b.instrs j ≡ Some x
      → broken code costs n b (before code b j) x (arrival code b (before code b j)) ≡ None)
      → (j : ℕ) (x : Instr) → j < at → slice_get b.instrs j ≡ Some x → KeepsAll code costs n b j x
  keeps_to at h j x less is =
      subst (Answers j x) (h j x less is) (answers j x is (good_to j (λ m y l e. h m y (omega (arith, l, less)) e)))

  -- the ways to all places of a block that is accepted
  pub known_whole : (cost : Cost) → block_fault code costs n b ≡ Ok cost → (at : ℕ) → at ≤ length b.instrs
      → AllKnown code costs n b at
  known_whole cost h at le =
      by (nat_eq (length b.instrs) 0) h
    where
      by : (d : Bool) → (if d then Err (0, rule.FallsOff) else scan code costs n b [] b.instrs) ≡ Ok cost
          → AllKnown code costs n b at
      by true g = absurd (ok_err (Err (0, rule.FallsOff)) cost (0, rule.FallsOff) g refl)
      by false g = all_known code costs n b at le (good_to at (λ m y l e. scan_whole b.instrs [] cost g m y e))

  module _ (some : 0 < length b.instrs) where
    no_empty : nat_eq (length b.instrs) 0 ≡ false
    no_empty = by (nat_eq (length b.instrs) 0) refl
      where
        by : (d : Bool) → nat_eq (length b.instrs) 0 ≡ d → d ≡ false
        by false e = refl
        by true e = absurd (let z : length b.instrs ≡ 0 = grind (arith, nat_tests, e) in omega (arith, z, some))

    is_scan : block_fault code costs n b ≡ scan code costs n b [] b.instrs
    is_scan = ap (λ d. if d then Err (0, rule.FallsOff) else scan code costs n b [] b.instrs) no_empty

    pub finds : (at : ℕ) (r : Rule) → block_fault code costs n b ≡ Err (at, r) → IsFirstFault code costs n b at r
    finds at r h =
        let t = scan_stops b.instrs [] at r (sym is_scan ∙ h) in
        let z : t.off ≡ at = (let y = t.is_at in omega (arith, y)) in
        subst (λ m. IsFirstFault code costs n b m r) z
        (record {
          instr = t.instr;
          is = t.here;
          breaks = subst (Answers t.off t.instr) t.fault (answers t.off t.instr t.here (good_to t.off t.earlier));
          before = keeps_to t.off t.earlier;
        })

    pub accepts : (cost : Cost) → block_fault code costs n b ≡ Ok cost → AllKeep code costs n b
    accepts cost h j x is =
        keeps_to (suc j) (λ m y l e. scan_whole b.instrs [] cost (sym is_scan ∙ h) m y e) j x (omega arith) is

    -- two first faults are one
    pub same_fault : (at at' : ℕ) (r r' : Rule) → IsFirstFault code costs n b at r → IsFirstFault code costs n b at' r'
        → (at ≡ at') × (r ≡ r')
    same_fault at at' r r' f g = by (nat_lt at at') refl (nat_lt at' at) refl
      where
        there : at ≡ at' → r ≡ r'
        there z = go (nat_lt (rule_number r) (rule_number r')) refl (nat_lt (rule_number r') (rule_number r)) refl
          where
            one : f.instr ≡ g.instr
            one = some_eq (sym f.is ∙ ap (slice_get b.instrs) z ∙ g.is)

            go : (d : Bool) → nat_lt (rule_number r) (rule_number r') ≡ d → (e : Bool)
                → nat_lt (rule_number r') (rule_number r) ≡ e → r ≡ r'
            go true p e q =
                absurd (g.breaks.first r (grind (arith, nat_tests, p))
                (subst (λ m. Breaks code costs n b m g.instr r) z
                (subst (λ y. Breaks code costs n b at y r) one f.breaks.breaks)))
            go false p true q =
                absurd (f.breaks.first r' (grind (arith, nat_tests, q))
                (subst (λ m. Breaks code costs n b m f.instr r') (sym z)
                (subst (λ y. Breaks code costs n b at' y r') (sym one) g.breaks.breaks)))
            go false p false q = same_rule r r' (grind (arith, nat_tests, p, q))

        by : (d : Bool) → nat_lt at at' ≡ d → (e : Bool) → nat_lt at' at ≡ e → (at ≡ at') × (r ≡ r')
        by true p e q = absurd (g.before at f.instr (grind (arith, nat_tests, p)) f.is r f.breaks.breaks)
        by false p true q = absurd (f.before at' g.instr (grind (arith, nat_tests, q)) g.is r' g.breaks.breaks)
        by false p false q = (let z : at ≡ at' = grind (arith, nat_tests, p, q) in (z, there z))

    pub refuses : (at : ℕ) (r : Rule) → IsFirstFault code costs n b at r → block_fault code costs n b ≡ Err (at, r)
    refuses at r f = by (block_fault code costs n b) refl
      where
        by : (o : Result Cost (ℕ × Rule)) → block_fault code costs n b ≡ o → block_fault code costs n b ≡ Err (at, r)
        by (Ok cost) e = absurd (accepts cost e at f.instr f.is r f.breaks.breaks)
        by (Err q) e = (let z = same_fault q.0 at q.1 r (finds q.0 q.1 e) f in e ∙ (λ j. Err (z.0 j, z.1 j)))

    pub passes : AllKeep code costs n b → (cost : Cost) × (block_fault code costs n b ≡ Ok cost)
    passes all = by (block_fault code costs n b) refl
      where
        by : (o : Result Cost (ℕ × Rule)) → block_fault code costs n b ≡ o
            → (cost : Cost) × (block_fault code costs n b ≡ Ok cost)
        by (Ok cost) e = (cost, e)
        by (Err q) e = absurd (let f = finds q.0 q.1 e in all q.0 f.instr f.is q.1 f.breaks.breaks)
