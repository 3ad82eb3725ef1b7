-- Words above and below a write, and what a write does to what an instruction works on.
use Rattle.std.proofs.Common.{◌≡◌, ◌≢◌, ℕ, zero, suc, ◌+◌, ◌-◌, ◌<◌, ◌≤◌, List, ◌∷◌, take, drop, length, set, get_or, refl, ap, sym, ◌∙◌, arith, subst, get_or-set_other, get_or-set_same}
use Rattle.std.proofs.lemmas.List.{take-set-le, drop-set-add}
use Rattle.std.proofs.Math.Seq.{take-set-lt}
use Rattle.rev_code.specs.declared.code.CodeBlock.{CodeBlock}
use Rattle.block_run.specs.Plain.{Run, moves}
use Rattle.block_run.specs.Plain as p
use Rattle.block_run.specs.declared.registers.Registers.{Registers}
use Rattle.block_run.specs.declared.registers.Stop.TheVariants as stop
use Rattle.block_run.specs.Area.{stack_of, low, run_of, IsAct}

-- a write at or above the stack leaves it
pub stack_below : (ws : List ℕ) (low k j : ℕ) (w : ℕ) → low + k ≤ j → stack_of (set ws j w) low k ≡ stack_of ws low k
stack_below ws low zero j w h = refl
stack_below ws low (suc k) j w h =
    let ne : low + k ≢ j = omega arith in
    let le : low + k ≤ j = omega arith in
    ap (λ x. x ∷ stack_of (set ws j w) low k) (get_or-set_other ws j (low + k) w 0 ne)
    ∙ ap (λ s. get_or ws (low + k) 0 ∷ s) (stack_below ws low k j w le)

-- a write just above the stack is a push
pub stack_push : (ws : List ℕ) (low k j m : ℕ) (w : ℕ) → j ≡ low + k → m ≡ suc k → j < length ws
    → stack_of (set ws j w) low m ≡ w ∷ stack_of ws low k
stack_push ws low k j m w e f h =
    let P : ℕ → Type 0 = λ j. j < length ws → stack_of (set ws j w) low (suc k) ≡ w ∷ stack_of ws low k in
    let Q : ℕ → Type 0 = λ m. stack_of (set ws j w) low m ≡ w ∷ stack_of ws low k in
    let at_top : P (low + k) = λ h.
    ap (λ x. x ∷ stack_of (set ws (low + k) w) low k) (get_or-set_same ws (low + k) w 0 h)
    ∙ ap (λ s. w ∷ s) (stack_below ws low k (low + k) w (omega arith)) in
    subst Q (sym f) (subst P (sym e) at_top h)

-- a write at or above the locals leaves them
pub locals_below : (ws : List ℕ) (base n j : ℕ) (w : ℕ) → base + n ≤ j
    → take n (drop base (set ws j w)) ≡ take n (drop base ws)
locals_below ws base n j w h =
    let P : ℕ → Type 0 = λ i. take n (drop base (set ws i w)) ≡ take n (drop base ws) in
    let e : base + (j - base) ≡ j = omega arith in
    let le : n ≤ j - base = omega arith in
    subst P e (ap (take n) (drop-set-add base ws (j - base) w) ∙ take-set-le n (drop base ws) (j - base) w le)

-- the word on top, and what lies below it
pub stack_top : (ws : List ℕ) (low m k j : ℕ) → m ≡ suc k → j ≡ low + k
    → stack_of ws low m ≡ get_or ws j 0 ∷ stack_of ws low k
stack_top ws low m k j e f =
    let P : ℕ → Type 0 = λ j. stack_of ws low (suc k) ≡ get_or ws j 0 ∷ stack_of ws low k in
    let Q : ℕ → Type 0 = λ m. stack_of ws low m ≡ get_or ws j 0 ∷ stack_of ws low k in
    subst Q (sym e) (subst P (sym f) refl)

pub stack_drop : (ws : List ℕ) (low m k : ℕ) → m ≡ suc (suc k) → drop 2 (stack_of ws low m) ≡ stack_of ws low k
stack_drop ws low m k e =
    let P : ℕ → Type 0 = λ m. drop 2 (stack_of ws low m) ≡ stack_of ws low k in subst P (sym e) refl

pub stack_drop_one : (ws : List ℕ) (low m k : ℕ) → m ≡ suc k → drop 1 (stack_of ws low m) ≡ stack_of ws low k
stack_drop_one ws low m k e =
    let P : ℕ → Type 0 = λ m. drop 1 (stack_of ws low m) ≡ stack_of ws low k in subst P (sym e) refl

-- a write below the stack leaves it
pub stack_above : (ws : List ℕ) (low k j : ℕ) (w : ℕ) → j < low → stack_of (set ws j w) low k ≡ stack_of ws low k
stack_above ws low zero j w h = refl
stack_above ws low (suc k) j w h =
    let ne : low + k ≢ j = omega arith in
    ap (λ x. x ∷ stack_of (set ws j w) low k) (get_or-set_other ws j (low + k) w 0 ne)
    ∙ ap (λ s. get_or ws (low + k) 0 ∷ s) (stack_above ws low k j w h)

-- a write to a local
pub locals_set : (ws : List ℕ) (base n i : ℕ) (w : ℕ) → i < n
    → take n (drop base (set ws (base + i) w)) ≡ set (take n (drop base ws)) i w
locals_set ws base n i w h = ap (take n) (drop-set-add base ws i w) ∙ take-set-lt n (drop base ws) i w h

-- ---- instructions

pub same_run : {at at' fuel line : ℕ} {l l' s s' : List ℕ} → at ≡ at' → l ≡ l' → s ≡ s'
    → moves (record { at = at; locals = l; stack = s; fuel = fuel; line = line })
    ≡ moves (record { at = at'; locals = l'; stack = s'; fuel = fuel; line = line })
same_run {fuel = fuel} {line = line} g e f =
    (λ j. moves (record { at = g j; locals = e j; stack = f j; fuel = fuel; line = line }))

abbrev pub with_parts : (at fuel line : ℕ) (l s : List ℕ) → Run
with_parts at fuel line l s = record { at = at; locals = l; stack = s; fuel = fuel; line = line }

pub run_is : {at at' fuel line : ℕ} {l s s' : List ℕ} → at ≡ at' → s ≡ s'
    → with_parts at fuel line l s ≡ with_parts at' fuel line l s'
run_is {fuel = fuel} {line = line} {l = l} g f = λ j. with_parts (g j) fuel line l (f j)

pub one_more : (n : ℕ) → suc n ≡ n + 1
one_more n = omega arith

module _ (b : CodeBlock) (ws : List ℕ) (r : Registers) where
  -- a word onto the stack
  pub pushed : (w : ℕ) → low b r ≤ r.top → r.top < length ws
      → IsAct (p.on (run_of b ws r) (w ∷ (run_of b ws r).stack)) b ws (set ws r.top w) r
      (record r { at = r.at + 1; top = r.top + 1 }) stop.Goes
  pushed w over room =
      let at : r.top ≡ low b r + (r.top - low b r) = omega (arith, over) in
      let more : r.top + 1 - low b r ≡ suc (r.top - low b r) = omega (arith, over) in
      record {
        steps = same_run (one_more r.at) (sym (locals_below ws r.base (length b.locals) r.top w over))
            (sym (stack_push ws (low b r) (r.top - low b r) r.top _ w at more room));
        stays = record {
          block = refl;
          base = refl;
          top = omega (arith, over);
          below = take-set-le r.base ws r.top w (omega (arith, over));
        };
      }

  -- a word in place of the one on top
  pub put_once : (w : ℕ) → low b r + 1 ≤ r.top → r.top ≤ length ws
      → IsAct (p.on (run_of b ws r) (w ∷ drop 1 (run_of b ws r).stack)) b ws (set ws (r.top - 1) w) r
      (record r { at = r.at + 1 }) stop.Goes
  put_once w found within =
      let height : r.top - low b r ≡ suc (r.top - 1 - low b r) = omega (arith, found) in
      let at : r.top - 1 ≡ low b r + (r.top - 1 - low b r) = omega (arith, found) in
      let over : low b r ≤ r.top - 1 = omega (arith, found) in
      let in_range : r.top - 1 < length ws = omega (arith, found, within) in
      record {
        steps = same_run (one_more r.at)
            (sym (locals_below ws r.base (length b.locals) (r.top - 1) w over))
            (ap (λ s. w ∷ s) (stack_drop_one ws (low b r) _ _ height)
            ∙ sym (stack_push ws (low b r) (r.top - 1 - low b r) (r.top - 1) _ w at height in_range));
        stays = record {
          block = refl;
          base = refl;
          top = omega (arith, found);
          below = take-set-le r.base ws (r.top - 1) w (omega (arith, over));
        };
      }

  -- a word in place of the two on top
  pub put_twice : (w : ℕ) → low b r + 2 ≤ r.top → r.top ≤ length ws
      → IsAct (p.on (run_of b ws r) (w ∷ drop 2 (run_of b ws r).stack)) b ws (set ws (r.top - 2) w) r
      (record r { at = r.at + 1; top = r.top - 1 }) stop.Goes
  put_twice w found within =
      let height : r.top - low b r ≡ suc (suc (r.top - 2 - low b r)) = omega (arith, found) in
      let at : r.top - 2 ≡ low b r + (r.top - 2 - low b r) = omega (arith, found) in
      let more : r.top - 1 - low b r ≡ suc (r.top - 2 - low b r) = omega (arith, found) in
      let over : low b r ≤ r.top - 2 = omega (arith, found) in
      let in_range : r.top - 2 < length ws = omega (arith, found, within) in
      record {
        steps = same_run (one_more r.at)
            (sym (locals_below ws r.base (length b.locals) (r.top - 2) w over))
            (ap (λ s. w ∷ s) (stack_drop ws (low b r) _ _ height)
            ∙ sym (stack_push ws (low b r) (r.top - 2 - low b r) (r.top - 2) _ w at more in_range));
        stays = record {
          block = refl;
          base = refl;
          top = omega (arith, found);
          below = take-set-le r.base ws (r.top - 2) w (omega (arith, over));
        };
      }

  -- what is left without the words on top
  pub popped : (to : ℕ) → low b r + 1 ≤ r.top
      → moves (record (run_of b ws r) { at = to; stack = drop 1 (run_of b ws r).stack })
      ≡ moves (run_of b ws (record r { at = to; top = r.top - 1 }))
  popped to found =
      let height : r.top - low b r ≡ suc (r.top - 1 - low b r) = omega (arith, found) in
      same_run refl refl (stack_drop_one ws (low b r) _ _ height)

  pub run_popped : low b r + 1 ≤ r.top
      → with_parts (suc r.at) r.fuel r.line (run_of b ws r).locals (drop 1 (run_of b ws r).stack)
      ≡ run_of b ws (record r { at = r.at + 1; top = r.top - 1 })
  run_popped found =
      let height : r.top - low b r ≡ suc (r.top - 1 - low b r) = omega (arith, found) in
      run_is (one_more r.at) (stack_drop_one ws (low b r) _ _ height)

  pub run_popped_twice : low b r + 2 ≤ r.top
      → with_parts (suc r.at) r.fuel r.line (run_of b ws r).locals (drop 2 (run_of b ws r).stack)
      ≡ run_of b ws (record r { at = r.at + 1; top = r.top - 1 - 1 })
  run_popped_twice found =
      let height : r.top - low b r ≡ suc (suc (r.top - 1 - 1 - low b r)) = omega (arith, found) in
      run_is (one_more r.at) (stack_drop ws (low b r) _ _ height)

  -- the word on top into a local
  pub stored : (n : ℕ) → n < length b.locals → low b r + 1 ≤ r.top
      → IsAct (p.into_local (run_of b ws r) n (run_of b ws r).stack) b ws
      (set ws (r.base + n) (get_or ws (r.top - 1) 0)) r (record r { at = r.at + 1; top = r.top - 1 }) stop.Goes
  stored n small found =
      let height : r.top - low b r ≡ suc (r.top - 1 - low b r) = omega (arith, found) in
      let at : r.top - 1 ≡ low b r + (r.top - 1 - low b r) = omega (arith, found) in
      let below_stack : r.base + n < low b r = omega (arith, small) in
      let w = get_or ws (r.top - 1) 0 in
      record {
        steps = ap (p.into_local (run_of b ws r) n) (stack_top ws (low b r) _ _ (r.top - 1) height at)
            ∙ same_run (one_more r.at) (sym (locals_set ws r.base (length b.locals) n w small))
            (sym (stack_above ws (low b r) _ (r.base + n) w below_stack));
        stays = record {
          block = refl;
          base = refl;
          top = omega (arith, found);
          below = take-set-le r.base ws (r.base + n) w (omega arith);
        };
      }

-- ---- what an instruction reads

pub upper : (b : CodeBlock) (ws : List ℕ) (r : Registers) → low b r + 1 ≤ r.top
    → (run_of b ws r).stack ≡ get_or ws (r.top - 1) 0 ∷ drop 1 (run_of b ws r).stack
upper b ws r found =
    let height : r.top - low b r ≡ suc (r.top - 1 - low b r) = omega (arith, found) in
    let at : r.top - 1 ≡ low b r + (r.top - 1 - low b r) = omega (arith, found) in
    stack_top ws (low b r) _ _ (r.top - 1) height at
    ∙ ap (λ s. get_or ws (r.top - 1) 0 ∷ s) (sym (stack_drop_one ws (low b r) _ _ height))

pub both : (b : CodeBlock) (ws : List ℕ) (r : Registers) → low b r + 2 ≤ r.top
    → (run_of b ws r).stack ≡ get_or ws (r.top - 1) 0 ∷ get_or ws (r.top - 2) 0 ∷ drop 2 (run_of b ws r).stack
both b ws r found =
    let height : r.top - low b r ≡ suc (r.top - 1 - low b r) = omega (arith, found) in
    let below : r.top - 1 - low b r ≡ suc (r.top - 2 - low b r) = omega (arith, found) in
    let two : r.top - low b r ≡ suc (suc (r.top - 2 - low b r)) = omega (arith, found) in
    let at : r.top - 1 ≡ low b r + (r.top - 1 - low b r) = omega (arith, found) in
    let at' : r.top - 2 ≡ low b r + (r.top - 2 - low b r) = omega (arith, found) in
    stack_top ws (low b r) _ _ (r.top - 1) height at
    ∙ ap (λ s. get_or ws (r.top - 1) 0 ∷ s)
    (stack_top ws (low b r) _ _ (r.top - 2) below at'
    ∙ ap (λ s. get_or ws (r.top - 2) 0 ∷ s) (sym (stack_drop ws (low b r) _ _ two)))
