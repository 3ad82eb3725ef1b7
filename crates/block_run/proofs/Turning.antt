-- One round of the loop over the instructions of a block.
use Rattle.std.proofs.Common.{◌≡◌, ◌≢◌, ◌∙◌, ℕ, suc, ◌+◌, ◌-◌, ◌<◌, ◌≤◌, ◌^◌, Bool, true, false, ℤ, List, ◌∷◌, length, take, Option, Some, None, refl, sym, ap, subst, arith, ◌⊎◌, inl, inr, true≢false}
use Rattle.std.specs.Prelude.{slice_get, nat_lt, not}
use Rattle.std.proofs.lemmas.Bool.Decides.{nat_tests}
use Rattle.rev_num.specs.declared.outcome.Cause.{Cause}
use Rattle.rev_code.specs.declared.code.Code.{Code}
use Rattle.rev_code.specs.declared.code.CodeBlock.{CodeBlock}
use Rattle.rev_code.specs.declared.code.Instr.{Instr}
use Rattle.rev_code.specs.declared.code.Instr.TheVariants as i
use Rattle.rev_code.specs.Words.{Word}
use Rattle.rev_code.specs.State.{Setting, State}
use Rattle.rev_code.specs.Step as s
use Rattle.rev_code.specs.Step.{goes, stuck, act, act_in, act_at, step, Steps}
use Rattle.rev_code.specs.Funs.{setting_of_fun, values}
use Rattle.code_rules.specs.Pass.{target, is_charge, is_value_class, is_pure, bad_jump}
use Rattle.code_soundness.proofs.Basics.{or_parts, not_false, and_false, some_eq, some_within}
use Rattle.code_soundness.specs.Typed.{IsTyped}
use Rattle.code_soundness.specs.Funs.{IsFunStep}
use Rattle.code_soundness.proofs.Evaluating.{fun_step}
use Rattle.code_soundness.specs.AcceptedCode.{IsAccepted, notes_of}
use Rattle.code_soundness.proofs.Lists.{kinds_length}
use Rattle.code_soundness.proofs.Places.{operand_good}
use Rattle.code_soundness.proofs.Reaching.{has_step, is_safe}
use Rattle.block_run.specs.Plain.{Run, Plain, moves, writes, faults, leaves, lacks, plain}
use Rattle.block_run.specs.Agreement.{IsRun, Agrees, AreInputs, PushesInt}
use Rattle.block_run.proofs.Rows.{rows}
use Rattle.block_run.specs.declared.registers.Registers.{Registers}
use Rattle.block_run.specs.declared.registers.Stop.{Stop}
use Rattle.block_run.specs.declared.registers.Stop.TheVariants as stop
use Rattle.block_run.specs.Area.{stack_of, low, run_of, taken, pushes, count, IsOperand, IsPlaced, StaysIn, Does, Ran}
use Rattle.block_run.specs.Remembering.{Kept, Wrote}
use Rattle.block_run.specs.Standing.{Mode, program, value, setting_in, IsGood, AreSeen, Here, SameElse, IsRoomy, leaves_block, Ahead, IsTrapped, Ends, weight}
use Rattle.block_run.proofs.WordsFound.{found, operand, pushed}
use Rattle.block_run.proofs.NextPlaces.{Goes, Leads, leads, less}
use Rattle.block_run.proofs.Onward.{words_length, stack_length, reads_seen, kept_seen, wrote_seen, written_length, Gone, gone, halted}

-- ---- what runs

module _ (code : Code) (ok : IsAccepted code (notes_of code)) (inputs : List ℤ) where
  pub good_typed : (m : Mode) (c : State ℕ) → IsGood code m c → IsTyped code (notes_of code) c
  good_typed (program share) c g = g.typed
  good_typed (value n) c g = g.0

  value_step : (n : ℕ) (c : State ℕ) (g : IsGood code (value n) c)
      → IsFunStep code (notes_of code) g.2.0 c (step (setting_of_fun code (take n (values code))) c)
  value_step n c g = fun_step code (notes_of code) ok n g.2.0 g.2.1 g.2.2 c g.0 g.1

  pub good_event : (m : Mode) (c : State ℕ) → IsGood code m c → step (setting_in code inputs m) c ≢ stuck
  good_event (program share) c g e = (has_step ℕ code (notes_of code) ok inputs share c g).event e
  good_event (value n) c g e = subst (IsFunStep code (notes_of code) g.2.0 c) e (value_step n c g)

  pub good_next : (m : Mode) (c c' : State ℕ) → IsGood code m c → step (setting_in code inputs m) c ≡ goes c'
      → IsGood code m c'
  good_next (program share) c c' g e = (is_safe ℕ code (notes_of code) ok inputs share c g).goes c' e
  good_next (value n) c c' g e =
      let l = subst (IsFunStep code (notes_of code) g.2.0 c) e (value_step n c g) in
      (l.typed, l.block ∙ g.1, g.2)

  pub code_in : (m : Mode) → (setting_in code inputs m).code ≡ code
  code_in (program share) = refl
  code_in (value n) = refl

-- ---- steps, one behind another

pub one_more_step : (t : Setting ℕ) (c c' c'' : State ℕ) → Steps t c c' → step t c' ≡ goes c'' → Steps t c c''
one_more_step t c c' c'' s.none e = s.more e s.none
one_more_step t c c' c'' (s.more f rest) e = s.more f (one_more_step t _ c' c'' rest e)

pub same_still : (c c' c'' : State ℕ) → SameElse c c' → SameElse c' c'' → SameElse c c''
same_still c c' c'' a b = record {
  block = b.block ∙ a.block;
  below = b.below ∙ a.below;
  forks = b.forks ∙ a.forks;
  listed = b.listed ∙ a.listed;
  text = b.text ∙ a.text;
}

pub all_same : (c : State ℕ) → SameElse c c
all_same c = record { block = refl; below = refl; forks = refl; listed = refl; text = refl }

pub inside_now : (code : Code) (ok : IsAccepted code (notes_of code)) (inputs : List ℤ) (m : Mode) (b : CodeBlock)
    (c : State ℕ) (ws : List ℕ) (r : Registers) (sees : ℕ → ℕ) (root : ℕ → Option ℕ)
    → Here code inputs m b c ws r sees root
    → slice_get code.blocks r.block ≡ Some b → (instrs : List Instr) → instrs ≡ b.instrs → r.at < length instrs
inside_now code ok inputs m b c ws r sees root here is instrs e =
    let f = (good_typed code ok inputs m c here.good).frame in
    let same : f.body ≡ b = some_eq (sym f.is ∙ (ap (slice_get code.blocks) here.block ∙ is)) in
    let h : c.at < length b.instrs = subst (λ (y : CodeBlock). c.at < length y.instrs) same f.inside in
    let g : length instrs ≡ length b.instrs = ap length e in
    let k = here.run.at in omega (arith, h, g, k)

-- ---- jumps

charge_jumps_not : (x : Instr) → is_charge (Some x) ≡ true → target x ≡ None
charge_jumps_not (i.Charge line) h = refl
charge_jumps_not _ h = absurd (true≢false (sym h))

module _ (b : CodeBlock) (at to : ℕ) where
  way_back : bad_jump b at (Some to) ≡ false → (at < to) ⊎ (is_charge (slice_get b.instrs to) ≡ true)
  way_back h = by (nat_lt at to) refl
    where
      by : (d : Bool) → nat_lt at to ≡ d → (at < to) ⊎ (is_charge (slice_get b.instrs to) ≡ true)
      by true e = inl (grind (arith, nat_tests, e))
      by false e = (let q = (or_parts _ _ h).1 in
          let r = and_false (not (nat_lt at to)) _ q (ap not e) in
          inr (not_false (is_charge (slice_get b.instrs to)) (or_parts _ _ r).1))

module _ (code : Code) (ok : IsAccepted code (notes_of code)) (inputs : List ℤ) (fits : AreInputs inputs) (m : Mode)
    (b : CodeBlock) (c : State ℕ)
    (ws : List ℕ) (r : Registers) (sees : ℕ → ℕ) (root : ℕ → Option ℕ) (here : Here code inputs m b c ws r sees root)
    (is : slice_get code.blocks r.block ≡ Some b)
    (x : Instr) (at : slice_get b.instrs r.at ≡ Some x) where
  abbrev t : Setting ℕ
  t = setting_in code inputs m

  typed : IsTyped code (notes_of code) c
  typed = good_typed code ok inputs m c here.good

  block_is : slice_get code.blocks c.block ≡ Some b
  block_is = ap (slice_get code.blocks) here.block ∙ is

  instr_is : slice_get b.instrs c.at ≡ Some x
  instr_is = ap (slice_get b.instrs) (sym here.run.at) ∙ at

  step_is : step (setting_in code inputs m) c ≡ act (setting_in code inputs m) b c x
  step_is = ap (λ (k : Code). act_in (setting_in code inputs m) c (slice_get k.blocks c.block))
      (code_in code ok inputs m)
      ∙ ap (act_in (setting_in code inputs m) c) block_is ∙ ap (act_at (setting_in code inputs m) b c) instr_is

  has : act (setting_in code inputs m) b c x ≢ stuck
  has e = good_event code ok inputs m c here.good (step_is ∙ e)

  locals_same : length c.locals ≡ length b.locals
  locals_same =
      let f = typed.frame in
      let same : f.body ≡ b = some_eq (sym f.is ∙ block_is) in
      sym (kinds_length c.locals) ∙ ap length f.kinds ∙ ap (λ (y : CodeBlock). length y.locals) same

  height : length c.stack ≡ r.top - low b r
  height = words_length c.stack (stack_of ws (low b r) (r.top - low b r)) here.run.stack
      ∙ stack_length ws (low b r) (r.top - low b r)

  few_still : (n k size : ℕ) → n ≡ k → k ≤ size → n ≤ size
  few_still n k size e h = omega (arith, e, h)

  pub found_operand : IsOperand code.vars b x
  found_operand =
      subst (λ (k : Code). IsOperand k.vars b x) (code_in code ok inputs m)
      (operand c (setting_in code inputs m) b x locals_same has)

  deep : (c' : State ℕ) → IsTyped code (notes_of code) c' → c'.block ≡ c.block
      → length c'.stack ≡ length (notes_of code r.block c'.at).shape
  deep c' k e =
      sym (kinds_length c'.stack) ∙ ap length k.stack ∙ ap (λ n. length (notes_of code n c'.at).shape) (e ∙ here.block)

  inside_at : (c' : State ℕ) → IsTyped code (notes_of code) c' → c'.block ≡ c.block → c'.at < length b.instrs
  inside_at c' k e =
      let same : k.frame.body ≡ b = some_eq (sym k.frame.is ∙ (ap (slice_get code.blocks) e ∙ block_is)) in
      subst (λ (y : CodeBlock). c'.at < length y.instrs) same k.frame.inside

  module _ (roomy : IsRoomy code b r (length ws)) (few : length b.instrs < 2 ^ 32) where
    pub placed : IsPlaced b r (length ws) (taken x)
    placed =
        let a = found c (setting_in code inputs m) b x has in
        let h = height in
        let d = deep c typed refl in
        let u = roomy c.at (inside_at c typed refl) in
        let o = here.top in
        let inside = some_within b.instrs r.at x at in
        record { found = omega (arith, a, h, o); within = omega (arith, h, d, o, u); at = omega (arith, inside, few) }

    pub room : r.top + pushes x ≤ length ws
    room = by (pushed c (setting_in code inputs m) b x has)
      where
        by : ((pushes x ≡ 0)
            ⊎ ((w : Word ℕ) × (act (setting_in code inputs m) b c x ≡ s.on c (w ∷ c.stack)) × (pushes x ≡ 1)))
            → r.top + pushes x ≤ length ws
        by (inl e) = (let h = height in
            let d = deep c typed refl in
            let u = roomy c.at (inside_at c typed refl) in
            let o = here.top in
            omega (arith, h, d, o, u, e))
        by (inr q) = (let h = height in let o = here.top in
            let k = good_typed code ok inputs m _ (good_next code ok inputs m c _ here.good (step_is ∙ q.1)) in
            let d = deep _ k refl in let u = roomy (suc c.at) (inside_at _ k refl) in
            let e = q.2 in omega (arith, h, o, d, u, e))

  agrees : PushesInt x → Agrees c (act (setting_in code inputs m) b c x) (plain code.vars inputs sees (run_of b ws r) x)
  agrees small =
      subst (λ k. Agrees c (act (setting_in code inputs m) b c x) (plain code.vars k sees (run_of b ws r) x))
      here.inputs_are
      (subst (λ (k : Code).
      Agrees c (act (setting_in code inputs m) b c x)
      (plain k.vars (setting_in code inputs m).inputs sees (run_of b ws r) x))
      (code_in code ok inputs m)
      (rows c (run_of b ws r) sees
      (record { run = here.run; locations = reads_seen c.locations sees root here.locations })
      (setting_in code inputs m) b (subst AreInputs (sym here.inputs_are) fits) x small))

  module _ (ws' : List ℕ) (r' : Registers) (sees' : ℕ → ℕ) (root' : ℕ → Option ℕ) (size : ℕ)
      (sized : length c.locations ≤ size) (small : PushesInt x) where
    abbrev D : Stop → Type 0
    D v = Does (plain code.vars inputs sees (run_of b ws r) x) (run_of b ws r) (run_of b ws' r') v
        (Kept size sees sees' root root') (Wrote size sees sees' root root')

    abbrev R : Plain → Type 0
    R o = Ran o (run_of b ws' r') (Kept size sees sees' root root') (Wrote size sees sees' root root')

    leaving_goes : (y : Instr) → leaves_block y ≡ true
        → Ran (plain code.vars inputs sees (run_of b ws r) y) (run_of b ws' r') (Kept size sees sees' root root')
        (Wrote size sees sees' root root')
        → ⊥
    leaving_goes (i.Apply n) e h = h
    leaving_goes (i.Call n) e h = h
    leaving_goes (i.Fork n) e h = h
    leaving_goes i.Join e h = h
    leaving_goes (i.Print n) e h = h
    leaving_goes i.Return e h = h
    leaving_goes i.TryJoin e h = h
    leaving_goes _ e h = absurd (true≢false (sym e))

    module _ (d : D stop.Goes) (stays : StaysIn b ws ws' r r') where
      pub went : Gone c (act (setting_in code inputs m) b c x) (run_of b ws' r') (Kept size sees sees' root root')
          (Wrote size sees sees' root root')
      went = gone c _ has _ (agrees small) (run_of b ws' r') _ _ d

      abbrev next_state : State ℕ
      next_state = went.next

      locations_on : (AreSeen went.next.locations sees' root') × (length went.next.locations ≤ count code.vars)
      locations_on = elim went.locations [
        | inl k ↦ (
          subst (λ ls. AreSeen ls sees' root') (sym k.1)
              (kept_seen c.locations sees sees' root root' here.locations size sized k.0),
          few_still _ _ _ (ap length k.1) here.many,
        )
        | inr q ↦ (
          subst (λ ls. AreSeen ls sees' root') (sym q.5)
              (wrote_seen c.locations sees sees' root root' here.locations size sized q.0 q.1 q.2 q.3 q.4),
          few_still _ _ _ (ap length q.5 ∙ written_length c.locations q.0 q.2) here.many,
        )
      ]

      goes_to : step (setting_in code inputs m) c ≡ goes went.next
      goes_to = step_is ∙ went.is

      pub here_next : Here code inputs m b went.next ws' r' sees' root'
      here_next = record {
        good = good_next code ok inputs m c went.next here.good goes_to;
        inputs_are = here.inputs_are;
        block = went.same.block ∙ here.block ∙ sym stays.block;
        run = went.run;
        top = (let e = stays.base in let f = stays.top in omega (arith, e, f));
        locations = locations_on.0;
        many = locations_on.1;
      }

      -- onward from where a run began
      pub onward : (c0 : State ℕ) → Steps (setting_in code inputs m) c0 c → SameElse c0 c
          → Ahead code inputs m b c0 ws' r' sees' root'
      onward c0 steps same = record {
        now = went.next;
        steps = one_more_step (setting_in code inputs m) c0 c went.next steps goes_to;
        here = here_next;
        same = same_still c0 c went.next same went.same;
      }

      way : (o : Plain) → Leads x (run_of b ws r) o
          → Ran o (run_of b ws' r') (Kept size sees sees' root root') (Wrote size sees sees' root root')
          → Goes x (run_of b ws r) (run_of b ws' r')
      way (moves q) l k = subst (Goes x (run_of b ws r)) k.0 l
      way (writes q n w) l k = subst (Goes x (run_of b ws r)) k.0 l.0
      way (faults q e) l k = absurd k
      way leaves l k = absurd k
      way lacks l k = absurd k

      stays_here : (d : Bool) → leaves_block x ≡ d → Goes x (run_of b ws r) (run_of b ws' r')
      stays_here false e = way _ (leads code.vars inputs sees (run_of b ws r) x e) d
      stays_here true e = absurd (leaving_goes x e d)

      goes_on : Goes x (run_of b ws r) (run_of b ws' r')
      goes_on = stays_here (leaves_block x) refl

      inside : r'.at < length b.instrs
      inside =
          let h = inside_at went.next (good_typed code ok inputs m went.next here_next.good) went.same.block in
          let e = went.run.at in omega (arith, h, e)

      back : (r.at < r'.at) ⊎ (is_charge (slice_get b.instrs r'.at) ≡ true)
      back = elim goes_on.0 [
        | inl e ↦ inl (omega (arith, e))
        | inr e ↦ (let certified = ((ok.certified c.block b block_is).each c.at x instr_is).target in
            way_back b r.at r'.at (subst (λ n. bad_jump b n (Some r'.at) ≡ false) (sym here.run.at)
            (subst (λ o. bad_jump b c.at o ≡ false) e certified)))
      ]

      charged : is_charge (Some x) ≡ true → r'.at ≡ suc r.at
      charged h = elim goes_on.0 [
        | inl e ↦ e
        | inr e ↦ absurd (some_no (sym e ∙ charge_jumps_not x h))
      ]
        where
          some_no : {n : ℕ} → Some n ≡ None → ⊥
          some_no h = cc

      pub smaller : weight b.instrs r'.at r'.fuel < weight b.instrs r.at r.fuel
      smaller = less b.instrs r.at r'.at r.fuel r'.fuel x at (some_within b.instrs r.at x at) goes_on.1 charged
          (record { inside = inside; back = back })

    -- what a fun or merge does leaves all locations as they were
    pure_here : is_value_class b.class ≡ true → is_pure x ≡ false → ⊥
    pure_here v e =
        let certified = ((ok.certified c.block b block_is).each c.at x instr_is).operand in
        true≢false (sym v ∙ (operand_good code c.block b x certified).1 e)

    no_write : is_value_class b.class ≡ true → (o : Plain) → (leaves_block x ≡ false → Leads x (run_of b ws r) o)
        → leaves_block x ≡ false
        → Ran o (run_of b ws' r') (Kept size sees sees' root root') (Wrote size sees sees' root root')
        → Kept size sees sees' root root'
    no_write v (moves q) l e k = k.1
    no_write v (writes q n w) l e k = absurd (pure_here v (l e).1)
    no_write v (faults q e') l e k = absurd k
    no_write v leaves l e k = absurd k
    no_write v lacks l e k = absurd k

    pub quiet : is_value_class b.class ≡ true → (w : Stop) → D w → StaysIn b ws ws' r r'
        → Kept size sees sees' root root'
    quiet v stop.Goes d stays = by (leaves_block x) refl
      where
        by : (e : Bool) → leaves_block x ≡ e → Kept size sees sees' root root'
        by false e = no_write v _ (leads code.vars inputs sees (run_of b ws r) x) e d
        by true e = absurd (leaving_goes x e d)
    quiet v (stop.Traps e) d stays = d.1
    quiet v stop.Leaves d stays = d.2

    pub trapped : (e : Cause) → D (stop.Traps e) → (c0 : State ℕ) → Steps (setting_in code inputs m) c0 c
        → SameElse c0 c
        → IsTrapped code inputs m b c0 e ws' r' sees' root'
    trapped e d c0 steps same =
        let a = subst (Agrees c (act (setting_in code inputs m) b c x)) d.0 (agrees small) in
        let h = halted c (act (setting_in code inputs m) b c x) has (run_of b ws' r') e a in
        record {
          before = c;
          steps = steps;
          trapped = h.next;
          trap = step_is ∙ h.is;
          run = h.run;
          locations = subst (λ ls. AreSeen ls sees' root') (sym h.locations)
              (kept_seen c.locations sees sees' root root' here.locations size sized d.1);
          same = same_still c0 c h.next same h.same;
        }

    leaving_is : (d : Bool) → leaves_block x ≡ d → plain code.vars inputs sees (run_of b ws r) x ≡ leaves
        → leaves_block x ≡ true
    leaving_is true e h = e
    leaving_is false e h = absurd (subst (Leads x (run_of b ws r)) h (leads code.vars inputs sees (run_of b ws r) x e))

    pub leaving : D stop.Leaves → leaves_block x ≡ true
    leaving d = leaving_is (leaves_block x) refl d.0

    -- at an instruction that leaves the block, nothing has changed
    pub still_here : (same : run_of b ws' r' ≡ run_of b ws r) → StaysIn b ws ws' r r' → Kept size sees sees' root root'
        → Here code inputs m b c ws' r' sees' root'
    still_here same stays k = record {
      good = here.good;
      inputs_are = here.inputs_are;
      block = here.block ∙ sym stays.block;
      run = subst (IsRun c) (sym same) here.run;
      top = (let e = stays.base in let f = stays.top in omega (arith, e, f));
      locations = kept_seen c.locations sees sees' root root' here.locations size sized k;
      many = here.many;
    }

    pub ended : (v : Stop) → D v → StaysIn b ws ws' r r' → v ≢ stop.Goes → (c0 : State ℕ)
        → Steps (setting_in code inputs m) c0 c → SameElse c0 c
        → Ends code inputs m b c0 v ws' r' sees' root'
    ended stop.Goes d stays other c0 steps same = absurd (other refl)
    ended (stop.Traps e) d stays other c0 steps same = trapped e d c0 steps same
    ended stop.Leaves d stays other c0 steps same = record {
      ahead = record { now = c; steps = steps; here = still_here d.1 stays d.2; same = same };
      instr = x;
      at = ap (λ (q : Run). slice_get b.instrs q.at) d.1 ∙ at;
      leaves = leaving d;
    }

pub below_still : {base base' : ℕ} (ws ws' ws'' : List ℕ) → base' ≡ base → take base' ws'' ≡ take base' ws'
    → take base ws' ≡ take base ws → take base ws'' ≡ take base ws
below_still ws ws' ws'' e f g = subst (λ n. take n ws'' ≡ take n ws') e f ∙ g

pub kept_on : {size size' : ℕ} {sees sees' sees'' : ℕ → ℕ} {root root' root'' : ℕ → Option ℕ} → size' ≡ size
    → Kept size sees sees' root root' → Kept size' sees' sees'' root' root'' → Kept size sees sees'' root root''
kept_on e f g = record {
  words = λ l h. (g.words l (subst (λ n. l < n) (sym e) h) ∙ f.words l h);
  roots = λ l h. (g.roots l (subst (λ n. l < n) (sym e) h) ∙ f.roots l h);
}
