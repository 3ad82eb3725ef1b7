-- What the evaluation of a fun or merge uses is within what it costs.
use Rattle.std.proofs.Common.{◌≡◌, ◌∙◌, ℕ, zero, suc, ◌+◌, ◌<◌, ◌≤◌, Bool, true, false, List, [], ◌∷◌, ◌++◌, length, take, drop, reverse, Option, Some, None, refl, sym, ap, subst, arith, true≢false}
use Rattle.std.specs.Prelude.{slice_get, nat_lt, if◌then◌else◌}
use Rattle.std.proofs.lemmas.Bool.Decides.{nat_tests}
use Rattle.rev_num.specs.declared.value.ValueKind.{ValueKind}
use Rattle.rev_num.specs.Value.{same_kind}
use Rattle.rev_num.proofs.SameKinds.{same_kind_is}
use Rattle.rev_code.specs.declared.code.Code.{Code}
use Rattle.rev_code.specs.declared.code.CodeBlock.{CodeBlock}
use Rattle.rev_code.specs.declared.code.Instr.{Instr}
use Rattle.rev_code.specs.declared.code.Instr.TheVariants as i
use Rattle.rev_code.specs.Words.{Word, fits, kind_of}
use Rattle.rev_code.specs.State.{Setting, State}
use Rattle.rev_code.specs.Step.{Comes, goes, traps, forks, joins, ends, stuck, step, params, is_fun}
use Rattle.rev_code.specs.Funs.{fun_start, setting_of_fun, values}
use Rattle.code_rules.specs.declared.Cost.{Cost}
use Rattle.code_rules.specs.Pass.{Passed, passed, gone, names, has_class, applied, cost_at, count_of, cost_of, no_cost, is_value_class}
use Rattle.code_rules.specs.Verdict.{first_fault}
use Rattle.code_soundness.proofs.Basics.{take_whole, take_front, get_last}
use Rattle.code_soundness.specs.Typed.{kinds_of, IsTyped}
use Rattle.code_soundness.specs.AcceptedCode.{IsAccepted, AreCosts, all_passed, notes_of}
use Rattle.code_soundness.specs.Funs.{IsFunStep}
use Rattle.code_soundness.specs.Uses.{Use, UseOf, use_for, arguments_for, applied_use, step_use, onward_use, run_use, use_of, uses_from, uses, block_use, IsWithin, limits}
use Rattle.code_soundness.proofs.Lists.{append_length, and_parts, some_eq, none_some, within_some, kinds_length}
use Rattle.code_soundness.proofs.Accepting.{no_fault_accepted, no_fault_costs}
use Rattle.code_soundness.proofs.Cases.{fun_evaluates}
use Rattle.code_soundness.proofs.Evaluating.{take_less, get_take, fun_starts, fun_step}
use Rattle.code_soundness.proofs.Places.{operand_good}

-- ---- uses by blocks

module _ {H : Type 0} (code : Code) where
  abbrev here : List (UseOf H) → ℕ → CodeBlock → UseOf H
  here before n b = use_of code (take n (values code)) before n b

  long_more : (before : List (UseOf H)) (n : ℕ) (v : UseOf H) → length before ≡ n → length (before ++ v ∷ []) ≡ suc n
  long_more before n v h = let l = append_length before (v ∷ []) in omega (arith, l, h)

  kept_front : (bs : List CodeBlock) (before : List (UseOf H)) (n : ℕ) → length before ≡ n
      → take n (uses_from code before n bs) ≡ before
  kept_front [] before n h = take_whole before n h
  kept_front (b ∷ bs) before n h =
      let r = kept_front bs (before ++ here before n b ∷ []) (suc n) (long_more before n (here before n b) h) in
      sym (take_less (uses_from code (before ++ here before n b ∷ []) (suc n) bs) n) ∙ ap (take n) r
      ∙ take_front before (here before n b ∷ []) n h

  by_blocks : (bs : List CodeBlock) (before : List (UseOf H)) (n : ℕ) → length before ≡ n → (j : ℕ) (b : CodeBlock)
      → slice_get bs j ≡ Some b
      → slice_get (uses_from code before n bs) (n + j)
      ≡ Some (here (take (n + j) (uses_from code before n bs)) (n + j) b)
  by_blocks [] before n h j b e = absurd (none_some e)
  by_blocks (y ∷ bs) before n h zero b e =
      let z : n + 0 ≡ n = omega arith in
      let f = kept_front bs (before ++ here before n y ∷ []) (suc n) (long_more before n (here before n y) h) in
      let g = kept_front (y ∷ bs) before n h in
      let there : slice_get (uses_from code before n (y ∷ bs)) n ≡ Some (here before n y) =
      sym (get_take (uses_from code before n (y ∷ bs)) n (suc n) (omega arith)) ∙ ap (λ l. slice_get l n) f
      ∙ get_last before (here before n y) n h in
      let same :
      slice_get (uses_from code before n (y ∷ bs)) n ≡ Some (here (take n (uses_from code before n (y ∷ bs))) n b) =
      there ∙ (λ j. Some (here (sym g j) n (some_eq e j))) in
      subst (λ m.
      slice_get (uses_from code before n (y ∷ bs)) m ≡ Some (here (take m (uses_from code before n (y ∷ bs))) m b))
      (sym z) same
  by_blocks (y ∷ bs) before n h (suc j) b e =
      let z : suc n + j ≡ n + suc j = omega arith in
      let r = by_blocks bs (before ++ here before n y ∷ []) (suc n) (long_more before n (here before n y) h) j b e in
      subst (λ m.
      slice_get (uses_from code before n (y ∷ bs)) m ≡ Some (here (take m (uses_from code before n (y ∷ bs))) m b))
      z r

  pub uses_by_blocks : (n : ℕ) (b : CodeBlock) → slice_get code.blocks n ≡ Some b
      → slice_get (uses {H = H} code) n ≡ Some (block_use code n b)
  uses_by_blocks n b e =
      let z : 0 + n ≡ n = omega arith in
      subst (λ m. slice_get (uses {H = H} code) m ≡ Some (block_use code m b)) z (by_blocks code.blocks [] 0 refl n b e)

-- ---- counts

module _ (costs : List Cost) where
  abbrev sum_count : List Instr → ℕ
  sum_count [] = 0
  sum_count (x ∷ xs) = suc (applied costs x).count + sum_count xs

  count_gone : (code : Code) (b : CodeBlock) (done : List Passed) (xs : List Instr)
      → count_of costs (gone code b done xs) ≡ count_of costs done + sum_count xs
  count_gone code b done [] = omega arith
  count_gone code b done (x ∷ xs) = let r = count_gone code b (passed code b done x ∷ done) xs in omega (arith, r)

  drop_count : (xs : List Instr) (n : ℕ) → sum_count (drop n xs) ≤ sum_count xs
  drop_count xs zero = omega arith
  drop_count [] (suc n) = omega arith
  drop_count (x ∷ xs) (suc n) = let r = drop_count xs n in omega (arith, r)

  later_count : (xs : List Instr) (m n : ℕ) → m ≤ n → sum_count (drop n xs) ≤ sum_count (drop m xs)
  later_count xs zero n h = drop_count xs n
  later_count xs (suc m) zero h = absurd (omega (arith, h))
  later_count [] (suc m) (suc n) h = omega arith
  later_count (x ∷ xs) (suc m) (suc n) h = later_count xs m n (omega (arith, h))

  here_count : (xs : List Instr) (at : ℕ) (x : Instr) → slice_get xs at ≡ Some x
      → sum_count (drop at xs) ≡ suc (applied costs x).count + sum_count (drop (suc at) xs)
  here_count [] at x h = absurd (none_some h)
  here_count (y ∷ xs) zero x h = ap (λ u. suc (applied costs u).count + sum_count xs) (some_eq h)
  here_count (y ∷ xs) (suc at) x h = here_count xs at x h

-- ---- arguments

fitting : {H : Type 0} (kinds : List ValueKind) (ws : List (Word H)) → fits kinds ws ≡ true → kinds_of ws ≡ kinds
fitting [] [] h = refl
fitting [] (w ∷ ws) h = absurd (true≢false (sym h))
fitting (x ∷ kinds) [] h = absurd (true≢false (sym h))
fitting (x ∷ kinds) (w ∷ ws) h =
    let p = and_parts (same_kind x (kind_of w)) (fits kinds ws) h in
    let a = same_kind_is x (kind_of w) p.0 in
    let r = fitting kinds ws p.1 in λ j. sym a j ∷ r j

-- ---- one block

module _ (H : Type 0) (code : Code) (fault : first_fault code ≡ None) (costs : List Cost)
    (priced : AreCosts code costs) where
  ok : IsAccepted code (notes_of code)
  ok = no_fault_accepted code fault

  abbrev Keeps : ℕ → Type 0
  Keeps n =
      (b : CodeBlock) → slice_get code.blocks n ≡ Some b → is_value_class b.class ≡ true → (c : Cost)
      → slice_get costs n ≡ Some c
      → (args : List (Word H)) → kinds_of args ≡ params b → IsWithin (block_use code n b args) c

  module _ (n : ℕ) (b : CodeBlock) (is : slice_get code.blocks n ≡ Some b) (value : is_value_class b.class ≡ true)
      (c : Cost) (is_c : slice_get costs n ≡ Some c) (earlier : (m : ℕ) → m < n → Keeps m) where
    abbrev before : List (UseOf H)
    before = take n (uses code)

    abbrev S : Setting H
    S = setting_of_fun code (take n (values code))

    -- ---- the fun that is applied

    fun_within : (f : ℕ) (y : CodeBlock) → f < n → slice_get code.blocks f ≡ Some y → is_fun y.class ≡ true
        → (o : Option (List (Word H))) → ((args : List (Word H)) → o ≡ Some args → kinds_of args ≡ params y)
        → IsWithin (use_for (slice_get before f) o) (cost_at (take n costs) f)
    fun_within f y less there fun None same = by (slice_get before f)
      where
        by : (o : Option (UseOf H)) → IsWithin (use_for o None) (cost_at (take n costs) f)
        by None = record { count = omega arith; need = omega arith }
        by (Some u) = record { count = omega arith; need = omega arith }
    fun_within f y less there fun (Some args) same =
        let used = get_take (uses {H = H} code) f n less ∙ uses_by_blocks code f y there in
        let cost = priced.each f y there in
        let front = get_take costs f n less ∙ cost in
        let r = earlier f less y there (fun_evaluates y.class fun) _ cost args (same args refl) in
        subst (λ o. IsWithin (use_for o (Some args)) (cost_at (take n costs) f)) (sym used)
        (subst (λ o. IsWithin (block_use code f y args) (elim o [ None ↦ no_cost | Some k ↦ k ])) (sym front) r)

    applied_within : (x : Instr) → names code n x ≡ true → (stack : List (Word H))
        → IsWithin (applied_use code before (Some x) stack) (applied (take n costs) x)
    applied_within (i.Apply f) h stack =
        let p = and_parts (nat_lt f n) (has_class is_fun (slice_get code.blocks f)) h in
        let l = p.0 in
        by (slice_get code.blocks f) refl (grind (arith, nat_tests, l)) p.1
      where
        by : (o : Option CodeBlock) → slice_get code.blocks f ≡ o → f < n → has_class is_fun o ≡ true
            → IsWithin (use_for (slice_get before f) (arguments_for o stack)) (cost_at (take n costs) f)
        by None e l g = absurd (true≢false (sym g))
        by (Some y) e l g =
            fun_within f y l e g (arguments_for (Some y) stack)
            (λ args q. taken (fits (params y) (reverse (take (length (params y)) stack))) refl args q)
          where
            taken : (d : Bool) → fits (params y) (reverse (take (length (params y)) stack)) ≡ d → (args : List (Word H))
                → (if d then Some (reverse (take (length (params y)) stack)) else None) ≡ Some args
                → kinds_of args ≡ params y
            taken true z args q =
                ap kinds_of (sym (some_eq q)) ∙ fitting (params y) (reverse (take (length (params y)) stack)) z
            taken false z args q = absurd (none_some q)
    applied_within _ h stack = record { count = omega arith; need = omega arith }

    -- ---- a step

    abbrev Bound : Use → ℕ → Type 0
    Bound u at = (u.count ≤ sum_count (take n costs) (drop at b.instrs)) × (u.need ≤ c.need)

    module _ (st : State H) (t : IsTyped code (notes_of code) st) (e : st.block ≡ n) where
      same_body : t.frame.body ≡ b
      same_body = some_eq (sym t.frame.is ∙ ap (slice_get code.blocks) e ∙ is)

      instr : (x : Instr) × (slice_get b.instrs st.at ≡ Some x)
      instr = within_some b.instrs st.at (subst (λ y. st.at < length y.instrs) same_body t.frame.inside)

      named : names code n instr.0 ≡ true
      named = (operand_good code n b instr.0 ((ok.certified n b is).each st.at instr.0 instr.1).operand).0

      locals_long : length st.locals ≡ length b.locals
      locals_long = sym (kinds_length st.locals) ∙ ap length (t.frame.kinds ∙ ap (λ y. y.locals) same_body)

      stack_long : length st.stack ≡ length (notes_of code n st.at).shape
      stack_long = sym (kinds_length st.stack) ∙ ap length (t.stack ∙ ap (λ m. (notes_of code m st.at).shape) e)

      step_within : ((step_use code before b st).count ≤ suc (applied (take n costs) instr.0).count)
          × ((step_use code before b st).need ≤ c.need)
      step_within =
          let w = subst (λ o. IsWithin (applied_use code before o st.stack) (applied (take n costs) instr.0))
          (sym instr.1) (applied_within instr.0 named st.stack) in
          let r = priced.room n b c is is_c value st.at instr.0 instr.1 in
          let w0 = w.count in
          let w1 = w.need in
          let l = locals_long in
          let k = stack_long in
          (omega (arith, w0), omega (arith, w1, r, l, k))

      count_here : sum_count (take n costs) (drop st.at b.instrs)
          ≡ suc (applied (take n costs) instr.0).count + sum_count (take n costs) (drop (suc st.at) b.instrs)
      count_here = here_count (take n costs) b.instrs st.at instr.0 instr.1

    -- what comes of a step, where further runs are within the cost
    onward_within : (left : ℕ) (st : State H) → st.block ≡ n
        → ((st' : State H) → IsTyped code (notes_of code) st' → st'.block ≡ n
        → Bound (run_use S before b left st') st'.at)
        → (o : Comes H) → IsFunStep code (notes_of code) b st o
        → Bound (onward_use (λ c'. run_use S before b left c') o) (suc st.at)
    onward_within left st e next (goes c') w =
        let r = next c' w.typed (w.block ∙ e) in
        let r0 = r.0 in
        let m = later_count (take n costs) b.instrs (suc st.at) c'.at w.later in
        (omega (arith, r0, m), r.1)
    onward_within left st e next (traps c' x) w = (omega arith, omega arith)
    onward_within left st e next (ends c' v) w = (omega arith, omega arith)
    onward_within left st e next (forks c' m args) w = absurd w
    onward_within left st e next (joins c' try h) w = absurd w
    onward_within left st e next stuck w = absurd w

    runs : (left : ℕ) (st : State H) → IsTyped code (notes_of code) st → st.block ≡ n
        → Bound (run_use S before b left st) st.at
    runs zero st t e =
        let w = step_within st t e in
        let w0 = w.0 in
        let q = count_here st t e in
        (omega (arith, w0, q), w.1)
    runs (suc left) st t e =
        let w = step_within st t e in
        let w0 = w.0 in
        let w1 = w.1 in
        let q = count_here st t e in
        let r = onward_within left st e (λ st' t' e'. runs left st' t' e') (step S st)
        (fun_step code (notes_of code) ok n b is value st t e) in
        let r0 = r.0 in
        let r1 = r.1 in
        (omega (arith, w0, q, r0), omega (arith, w1, r1))

    c_count : c.count ≡ sum_count (take n costs) b.instrs
    c_count =
        let z : c ≡ cost_of code (take n costs) b (all_passed code b) =
        some_eq (sym is_c ∙ priced.each n b is)
        ∙ ap (λ d. if d then cost_of code (take n costs) b (all_passed code b) else no_cost) value in
        let k : c.count ≡ count_of (take n costs) (all_passed code b) = ap (λ u. u.count) z in
        let g = count_gone (take n costs) code b [] b.instrs in
        omega (arith, k, g)

    keeps : (args : List (Word H)) → kinds_of args ≡ params b → IsWithin (block_use code n b args) c
    keeps args e =
        let r = runs (length b.instrs) (fun_start n b args) (fun_starts code (notes_of code) ok n b is args e) refl in
        let r0 = r.0 in
        let k = c_count in
        record { count = omega (arith, r0, k); need = r.1 }

  -- ---- all blocks

  all_keep : (upto n : ℕ) → n < upto → Keeps n
  all_keep zero n l = absurd (omega (arith, l))
  all_keep (suc upto) n l =
      λ b is value c is_c args e. keeps n b is value c is_c (λ m less. all_keep upto m (omega (arith, less, l))) args e

  pub funs_keep : (n : ℕ) → Keeps n
  funs_keep n = all_keep (suc n) n (omega arith)

pub funs_limited : (H : Type 0) (code : Code) → first_fault code ≡ None → (n : ℕ) (b : CodeBlock)
    → slice_get code.blocks n ≡ Some b → is_value_class b.class ≡ true
    → (args : List (Word H)) → kinds_of args ≡ params b → IsWithin (block_use code n b args) limits
funs_limited H code fault n b is value args e =
    let p = no_fault_costs code fault in
    let cost = p.1.each n b is in
    let w = funs_keep H code fault p.0 p.1 n b is value _ cost args e in
    let w0 = w.count in
    let w1 = w.need in
    let m = p.1.count n _ cost in
    let k = p.1.need n _ cost in
    record { count = omega (arith, w0, m); need = omega (arith, w1, k) }
