-- The evaluation of a fun or merge on the area of words.
use Rattle.std.proofs.Common.{◌≡◌, ◌≢◌, ◌∙◌, ℕ, zero, suc, ◌+◌, ◌-◌, ◌<◌, ◌≤◌, ◌^◌, true, List, [], ◌∷◌, ◌++◌, length, take, drop, reverse, map, set, get_or, Option, Some, None, refl, sym, ap, subst, arith, ◌⊎◌, inl, inr, get_or-take, get_or-set_same}
use Rattle.std.specs.Prelude.{slice_get, Result, Ok, Err}
use Rattle.code_rules.specs.Tables as rules
use Rattle.code_rules.proofs.Limits.{small_block, small_parts}
use Rattle.code_soundness.proofs.Lists.{all_at}
use Rattle.std.proofs.lemmas.List.{drop-take, length-drop, take-set-le}
use Rattle.rev_num.specs.declared.value.NumFault.{NumFault}
use Rattle.rev_num.specs.declared.value.ValueKind.{ValueKind}
use Rattle.rev_num.specs.declared.value.ValueKind.TheVariants as k
use Rattle.rev_num.specs.declared.outcome.Cause.{Cause}
use Rattle.rev_code.specs.declared.code.Code.{Code}
use Rattle.rev_code.specs.declared.code.CodeBlock.{CodeBlock}
use Rattle.rev_code.specs.declared.code.Instr.{Instr}
use Rattle.rev_code.specs.declared.code.Instr.TheVariants as i
use Rattle.rev_code.specs.Words.{Word, zero_word}
use Rattle.rev_code.specs.State.{Location, Setting, State}
use Rattle.rev_code.specs.Step as s
use Rattle.rev_code.specs.Step.{ends, step, params, value_at, cause_of, first_locals, Steps}
use Rattle.rev_code.specs.Funs.{fun_start, values, answer}
use Rattle.code_rules.specs.Pass.{is_value_class}
use Rattle.code_rules.specs.declared.Cost.{Cost}
use Rattle.code_soundness.proofs.Basics.{some_eq, within_some}
use Rattle.code_soundness.specs.Typed.{kinds_of}
use Rattle.code_soundness.specs.AcceptedCode.{IsAccepted, notes_of}
use Rattle.code_soundness.specs.Funs.{HasValue, IsArithmetic}
use Rattle.code_soundness.proofs.Lists.{kinds_length}
use Rattle.block_run.specs.Agreement.{IsWord, AreWords}
use Rattle.block_run.specs.declared.registers.Registers.{Registers}
use Rattle.block_run.specs.declared.registers.Stop.{Stop}
use Rattle.block_run.specs.declared.registers.Stop.TheVariants as stop
use Rattle.block_run.specs.Area.{count, low, run_of, stack_of}
use Rattle.block_run.specs.Standing.{Ahead, Ends, IsGood, IsLeaving, IsOfValue, IsRoomy, IsTrapped, leaves_block, setting_in, value}
use Rattle.block_run.proofs.Stacks.{upper}
use Rattle.block_run.proofs.Onward.{kept_seen, words_length, stack_length}
use Rattle.block_run.specs.Remembering.{Kept}
use Rattle.block_run.proofs.Turning.{all_same, good_next, good_typed, one_more_step, same_still}
use Rattle.fun_run.specs.Values.{HasRoom, IsArgs, IsValue}
use Rattle.fun_run.proofs.Slices.{zeros, stack_slice, take_shorter, words_append, words_drop, words_reverse, words_take}
use Rattle.fun_run.proofs.Calls.{IsEvent, Application, application, has_value, not_earlier, returned, start_good, trap_arithmetic, turn_here, value_is}

pub class_of : (code : Code) (n : ℕ) (b : CodeBlock) → slice_get code.blocks n ≡ Some b → IsOfValue code n
    → is_value_class b.class ≡ true
class_of code n b is v =
    let e : v.0 ≡ b = some_eq (sym v.1 ∙ is) in sym (ap (λ (y : CodeBlock). is_value_class y.class) e) ∙ v.2

-- ---- values

pub fault_is : (o : Option (Result (Word ℕ) Cause)) (f : NumFault) → IsValue o (Err f)
    → (e : Cause) × (o ≡ Some (Err e)) × (e ≡ cause_of f)
fault_is None f h = absurd h
fault_is (Some (Ok x)) f h = absurd h
fault_is (Some (Err e)) f h = (e, refl, h)

pub word_is : (o : Option (Result (Word ℕ) Cause)) (v : ℕ) → IsValue o (Ok v)
    → (x : Word ℕ) × (o ≡ Some (Ok x)) × IsWord x v
word_is None v h = absurd h
word_is (Some (Ok x)) v h = (x, refl, h)
word_is (Some (Err e)) v h = absurd h

pub got_cost : (xs : List Cost) (n j : ℕ) → j < n → slice_get (take n xs) j ≡ slice_get xs j
got_cost xs zero j h = absurd (omega (arith, h))
got_cost [] (suc n) j h = refl
got_cost (x ∷ xs) (suc n) zero h = refl
got_cost (x ∷ xs) (suc n) (suc j) h = got_cost xs n j (omega (arith, h))

abbrev cost_or : Option Cost → Cost
cost_or o = elim o [ None ↦ Rattle.code_rules.specs.Pass.no_cost | Some k ↦ k ]

-- words below a place
pub stack_same : (ws ws' : List ℕ) (l m base : ℕ) → take base ws ≡ take base ws' → l + m ≤ base
    → stack_of ws l m ≡ stack_of ws' l m
stack_same ws ws' l zero base e h = refl
stack_same ws ws' l (suc m) base e h =
    let x : get_or ws (l + m) 0 ≡ get_or ws' (l + m) 0 =
    sym (get_or-take base ws (l + m) 0 (omega (arith, h))) ∙ ap (λ xs. get_or xs (l + m) 0) e
    ∙ get_or-take base ws' (l + m) 0 (omega (arith, h)) in
    let r = stack_same ws ws' l m base e (omega (arith, h)) in λ k. x k ∷ r k

pub stack_dropped : (ws : List ℕ) (l m p d : ℕ) → m ≡ p + d → drop p (stack_of ws l m) ≡ stack_of ws l d
stack_dropped ws l m zero d e = ap (stack_of ws l) (omega (arith, e))
stack_dropped ws l zero (suc p) d e = absurd (omega (arith, e))
stack_dropped ws l (suc m) (suc p) d e = stack_dropped ws l m p d (omega (arith, e))

-- ---- the start

pub zero_words : (kinds : List ValueKind) → AreWords (map (zero_word {H = ℕ}) kinds) (zeros (length kinds))
zero_words [] = tt
zero_words (k.Int ∷ kinds) = ((omega arith, refl), zero_words kinds)
zero_words (k.Bool ∷ kinds) = (refl, zero_words kinds)
zero_words (k.Rev ∷ kinds) = (refl, zero_words kinds)

no_location : (l : ℕ) (x : Location ℕ) → slice_get [] l ≡ Some x → ⊥
no_location l x h = cc

-- a block has fewer instructions than a place can name
pub block_short : (code : Code) → IsAccepted code (notes_of code) → (n : ℕ) (b : CodeBlock)
    → slice_get code.blocks n ≡ Some b → length b.instrs < 2 ^ 32
block_short code ok n b is =
    let r : length b.instrs ≤ 4294967295 =
    (small_block b (all_at rules.is_small_block code.blocks n b (small_parts code ok.small).each_block is)).1 in
    omega (arith, r)

module _ (code : Code) (ok : IsAccepted code (notes_of code)) (n : ℕ) (b : CodeBlock)
    (is : slice_get code.blocks n ≡ Some b) (class : is_value_class b.class ≡ true) where
  module _ (args : List (Word ℕ)) (ws0 : List ℕ) (at : ℕ) (given : IsArgs code n args ws0 at) where
    pub args_kinds : kinds_of args ≡ params b
    args_kinds = let e : given.body ≡ b = some_eq (sym given.is ∙ is) in given.kinds ∙ ap params e

    many : length args ≡ length (params b)
    many = sym (kinds_length args) ∙ ap length args_kinds

    pub starts : (ws : List ℕ) (r : Registers) (sees : ℕ → ℕ) (root : ℕ → Option ℕ)
        → r ≡ record { block = n; at = 0; base = at; top = at + length b.locals; fuel = 0; line = 0 }
        → take (length b.locals) (drop at ws)
        ≡ take (length (params b)) (drop at ws0) ++ zeros (length b.locals - length (params b))
        → Ahead code [] (value n) b (fun_start n b args) ws r sees root
    starts ws r sees root e f =
        subst (λ r. Ahead code [] (value n) b (fun_start n b args) ws r sees root) (sym e) (record {
          now = fun_start n b args;
          steps = s.none;
          here = record {
            good = start_good code ok n b is class args args_kinds;
            inputs_are = refl;
            block = refl;
            run = record {
              at = refl;
              locals = subst (AreWords (first_locals b args)) (sym f)
                  (words_append args (map zero_word (drop (length args) b.locals))
                  (take (length (params b)) (drop at ws0))
                  (zeros (length b.locals - length (params b)))
                  (subst (λ m. AreWords args (take m (drop at ws0))) many given.words)
                  (subst (λ m. AreWords (map zero_word (drop (length args) b.locals)) (zeros m))
                  (length-drop (length args) b.locals ∙ ap (λ m. length b.locals - m) many)
                  (zero_words (drop (length args) b.locals))));
              stack = (let z : at + length b.locals - (at + length b.locals) ≡ 0 = omega arith in
                  subst (λ m. AreWords [] (stack_of ws (at + length b.locals) m)) (sym z) tt);
              fuel = refl;
              line = refl;
            };
            top = omega arith;
            locations = λ l x h. absurd (no_location l x h);
            many = omega arith;
          };
          same = all_same (fun_start n b args);
        })

  -- ---- room

  pub frame_room : (at size : ℕ) → HasRoom code n at size → at + length b.locals ≤ size
  frame_room at size h =
      let x = within_some b.instrs 0 (ok.certified n b is).some in
      let d = h.are.room n b h.cost is h.is class 0 x.0 x.1 in
      let g = h.room in omega (arith, d, g)

  pub short : length b.instrs < 2 ^ 32
  short = block_short code ok n b is

  pub roomy : (at size : ℕ) → HasRoom code n at size → (r : Registers) → r.block ≡ n → r.base ≡ at
      → IsRoomy code b r size
  roomy at size h r e f place inside =
      let x = within_some b.instrs place inside in
      let d = h.are.room n b h.cost is h.is class place x.0 x.1 in
      let g = h.room in
      let q : length (notes_of code r.block place).shape ≡ length (notes_of code n place).shape =
      ap (λ m. length (notes_of code m place).shape) e in
      omega (arith, d, g, f, q)

  steps_good : (c c' : State ℕ) → IsGood code (value n) c → Steps (setting_in code [] (value n)) c c'
      → IsGood code (value n) c'
  steps_good c _ g s.none = g
  steps_good c c' g (s.more {c' = d} e rest) = steps_good d c' (good_next code ok [] (value n) c d g e) rest

  inside_of : (c : State ℕ) → IsGood code (value n) c → c.at ≤ length b.instrs
  inside_of c g =
      let t = good_typed code ok [] (value n) c g in
      let e : t.frame.body ≡ b = some_eq (sym t.frame.is ∙ ap (slice_get code.blocks) g.1 ∙ is) in
      let h : c.at < length b.instrs = subst (λ (y : CodeBlock). c.at < length y.instrs) e t.frame.inside in
      omega (arith, h)

  pub arithmetic : (args : List (Word ℕ)) → kinds_of args ≡ params b
      → (e : Cause) (ws : List ℕ) (r : Registers) (sees : ℕ → ℕ) (root : ℕ → Option ℕ)
      → IsTrapped code [] (value n) b (fun_start n b args) e ws r sees root → IsArithmetic e
  arithmetic args kinds e ws r sees root h =
      trap_arithmetic code ok n h.before h.trapped e
      (steps_good (fun_start n b args) h.before (start_good code ok n b is class args kinds) h.steps) h.trap

  module _ (args : List (Word ℕ)) (kinds : kinds_of args ≡ params b) (ws : List ℕ) (r : Registers) (sees : ℕ → ℕ)
      (root : ℕ → Option ℕ) where
    -- ---- a trap

    pub faults : (e : Cause) (f : NumFault) → IsTrapped code [] (value n) b (fun_start n b args) e ws r sees root
        → e ≡ cause_of f → IsValue (value_at (slice_get (values code) n) args) (Err f)
    faults e f h is_f =
        let g = steps_good (fun_start n b args) h.before (start_good code ok n b is class args kinds) h.steps in
        let v = value_is code ok n b is class args kinds h.before h.steps (subst (λ o. IsEvent o) (sym h.trap) tt)
        (inside_of h.before g) in
        subst (λ o. IsValue o (Err f)) (sym (v ∙ ap answer h.trap)) is_f

    module _ (a : Ahead code [] (value n) b (fun_start n b args) ws r sees root) where
      inside : a.now.at ≤ length b.instrs
      inside = inside_of a.now a.here.good

      pub height : length a.now.stack ≡ r.top - low b r
      height = words_length a.now.stack (stack_of ws (low b r) (r.top - low b r)) a.here.run.stack
          ∙ stack_length ws (low b r) (r.top - low b r)

      pub within : (size : ℕ) → IsRoomy code b r size → r.top ≤ size
      within size h =
          let t = good_typed code ok [] (value n) a.now a.here.good in
          let e : t.frame.body ≡ b = some_eq (sym t.frame.is ∙ ap (slice_get code.blocks) a.here.good.1 ∙ is) in
          let i : a.now.at < length b.instrs = subst (λ (y : CodeBlock). a.now.at < length y.instrs) e t.frame.inside in
          let d = h a.now.at i in
          let g = height in
          let k : length a.now.stack ≡ length (notes_of code r.block a.now.at).shape =
          sym (kinds_length a.now.stack) ∙ ap length t.stack
          ∙ ap (λ m. length (notes_of code m a.now.at).shape) a.here.block in
          let o = a.here.top in omega (arith, d, g, k, o)

      pub stands_inside : r.at < length b.instrs
      stands_inside =
          let t = good_typed code ok [] (value n) a.now a.here.good in
          let e : t.frame.body ≡ b = some_eq (sym t.frame.is ∙ ap (slice_get code.blocks) a.here.good.1 ∙ is) in
          let i : a.now.at < length b.instrs = subst (λ (y : CodeBlock). a.now.at < length y.instrs) e t.frame.inside in
          let k = a.here.run.at in omega (arith, i, k)

      -- ---- Return

      here_at : (x : Instr) → slice_get b.instrs r.at ≡ Some x → slice_get b.instrs a.now.at ≡ Some x
      here_at x e = ap (slice_get b.instrs) (sym a.here.run.at) ∙ e

      abbrev pub Answered : Type 0
      Answered = (w : Word ℕ) × (rest : List (Word ℕ)) × (a.now.stack ≡ w ∷ rest)
          × (value_at (slice_get (values code) n) args ≡ Some (Ok w))

      unvalued : HasValue {H = ℕ} b.result None → ⊥
      unvalued h = h

      pub result : slice_get b.instrs r.at ≡ Some i.Return → Answered
      result e =
          let q = returned code ok n b a.now a.here.good is (here_at i.Return e) (a.same.below) in
          let v = value_is code ok n b is class args kinds a.now a.steps (subst (λ o. IsEvent o) (sym q.ending) tt)
          inside in
          elim q.top [
            | inl o ↦ absurd (unvalued
                (subst (HasValue b.result) (v ∙ ap answer q.ending ∙ ap (λ o. answer (ends a.now o)) o)
                (has_value code ok n b is class args kinds)))
            | inr w ↦ (w.0, w.1, w.2, v ∙ ap answer q.ending ∙ ap (λ o. answer (ends a.now o)) w.3)
          ]

      pub found : slice_get b.instrs r.at ≡ Some i.Return → low b r + 1 ≤ r.top
      found e =
          let q = result e in let h = height in let l = ap length q.2 in let t = a.here.top in
          omega (arith, h, l, t)

      pub gives : slice_get b.instrs r.at ≡ Some i.Return
          → IsValue (value_at (slice_get (values code) n) args) (Ok (get_or ws (r.top - 1) 0))
      gives e =
          let q = result e in
          let top = upper b ws r (found e) in
          let h = subst (λ xs. AreWords xs (run_of b ws r).stack) q.2 a.here.run.stack in
          let k = subst (AreWords (q.0 ∷ q.1)) top h in
          subst (λ o. IsValue o (Ok (get_or ws (r.top - 1) 0))) (sym q.3) k.0

      -- ---- which instruction

      pub turn : (x : Instr) → slice_get b.instrs r.at ≡ Some x → leaves_block x ≡ true
          → (slice_get b.instrs r.at ≡ Some i.Return) ⊎ ((j : ℕ) × (slice_get b.instrs r.at ≡ Some (i.Apply j)))
      turn x e h = subst
          (λ m. (slice_get b.instrs m ≡ Some i.Return) ⊎ ((j : ℕ) × (slice_get b.instrs m ≡ Some (i.Apply j))))
          (sym a.here.run.at)
          (turn_here code ok n b a.now a.here.good is x (here_at x e) h)

      -- ---- Apply

      pub applied_block : (j : ℕ) → slice_get b.instrs r.at ≡ Some (i.Apply j)
          → (y : CodeBlock) × (slice_get code.blocks j ≡ Some y)
      applied_block j e =
          let q = application code ok n b a.now a.here.good is j (here_at (i.Apply j) e) in (q.body, q.named)

      module _ (j : ℕ) (e : slice_get b.instrs r.at ≡ Some (i.Apply j)) (y : CodeBlock)
          (named : slice_get code.blocks j ≡ Some y) where
        q : Application code ok n b a.now a.here.good is j
        q = application code ok n b a.now a.here.good is j (here_at (i.Apply j) e)

        same : q.body ≡ y
        same = some_eq (sym q.named ∙ named)

        abbrev args_there : List (Word ℕ)
        args_there = reverse (take (length (params y)) a.now.stack)

        many_there : length (reverse (take (length (params y)) a.now.stack)) ≡ length (params y)
        many_there = subst
            (λ (z : CodeBlock). length (reverse (take (length (params z)) a.now.stack)) ≡ length (params z)) same q.many

        enough : length (params y) ≤ length a.now.stack
        enough = subst (λ (z : CodeBlock). length (params z) ≤ length a.now.stack) same q.enough

        comes : step (setting_in code [] (value n)) a.now
            ≡ s.value_or_trap a.now (drop (length (reverse (take (length (params y)) a.now.stack))) a.now.stack)
            (value_at (slice_get (values code) j) (reverse (take (length (params y)) a.now.stack)))
        comes = subst (λ (z : CodeBlock). step (setting_in code [] (value n)) a.now
            ≡ s.value_or_trap a.now (drop (length (reverse (take (length (params z)) a.now.stack))) a.now.stack)
            (value_at (slice_get (values code) j) (reverse (take (length (params z)) a.now.stack))))
            same q.comes

        pub of_value : IsOfValue code j
        of_value = (q.body, q.named, q.of_value)

        pub less : j < n
        less = q.less

        pub above : low b r + length (params y) ≤ r.top
        above = let h = height in let m = enough in let t = a.here.top in omega (arith, h, m, t)

        pub given_there : r.top ≤ length ws
            → IsArgs code j (reverse (take (length (params y)) a.now.stack)) ws (r.top - length (params y))
        given_there within = record {
          body = y;
          is = named;
          kinds = subst (λ (z : CodeBlock). kinds_of (reverse (take (length (params z)) a.now.stack)) ≡ params z) same
              q.kinds;
          words = (let h = above in let t = a.here.top in
              let p : length (params y) ≤ r.top - low b r = omega (arith, h) in
              let u : low b r + (r.top - low b r) ≤ length ws = omega (arith, t, within) in
              let v : low b r + (r.top - low b r) - length (params y) ≡ r.top - length (params y) = omega (arith, t) in
              let g = stack_slice ws (low b r) (r.top - low b r) (length (params y)) p u in
              let w = words_reverse (take (length (params y)) a.now.stack)
              (take (length (params y)) (run_of b ws r).stack)
              (words_take (length (params y)) a.now.stack (run_of b ws r).stack a.here.run.stack) in
              subst (λ m.
              AreWords (reverse (take (length (params y)) a.now.stack)) (take m (drop (r.top - length (params y)) ws)))
              (sym many_there)
              (subst
              (λ m. AreWords (reverse (take (length (params y)) a.now.stack)) (take (length (params y)) (drop m ws))) v
              (subst (AreWords (reverse (take (length (params y)) a.now.stack))) g w)));
        }

        pub room_there : (at size : ℕ) → HasRoom code n at size → r.base ≡ at
            → HasRoom code j (r.top - length (params y)) size
        room_there at size h f =
            let c = h.are.each j y named in
            let d = h.are.room n b h.cost is h.is class r.at (i.Apply j) e in
            let z = ap cost_or (got_cost h.costs n j less ∙ c) in
            let w = ap (λ (k : Cost). k.need) z in
            let g = h.room in
            let deep : r.top - low b r ≡ length (notes_of code n r.at).shape =
            sym height ∙ sym (kinds_length a.now.stack)
            ∙ ap length (good_typed code ok [] (value n) a.now a.here.good).stack
            ∙ ap (λ m. length (notes_of code m a.now.at).shape) a.here.good.1
            ∙ ap (λ m. length (notes_of code n m).shape) (sym a.here.run.at) in
            let t = a.here.top in
            record { costs = h.costs; are = h.are; cost = _; is = c; room = omega (arith, d, w, g, deep, t, f) }

        -- ---- behind it

        pub fault_there : (f : NumFault)
            → IsValue (value_at (slice_get (values code) j) (reverse (take (length (params y)) a.now.stack))) (Err f)
            → IsValue (value_at (slice_get (values code) n) args) (Err f)
        fault_there f h =
            let x = fault_is (value_at (slice_get (values code) j) (reverse (take (length (params y)) a.now.stack))) f
            h in
            let st = comes
            ∙ ap (s.value_or_trap a.now (drop (length (reverse (take (length (params y)) a.now.stack))) a.now.stack))
            x.1 in
            let v = value_is code ok n b is class args kinds a.now a.steps (subst (λ o. IsEvent o) (sym st) tt)
            inside in
            subst (λ o. IsValue o (Err f)) (sym (v ∙ ap answer st)) x.2

        pub fits_there : (v size : ℕ)
            → IsValue (value_at (slice_get (values code) j) (reverse (take (length (params y)) a.now.stack))) (Ok v)
            → IsRoomy code b r size
            → r.top - length (params y) < size
        fits_there v size h wide =
            let x = word_is (value_at (slice_get (values code) j) (reverse (take (length (params y)) a.now.stack))) v
            h in
            let rest = drop (length (reverse (take (length (params y)) a.now.stack))) a.now.stack in
            let st : step (setting_in code [] (value n)) a.now ≡ s.on a.now (x.0 ∷ rest) =
            comes ∙ ap (s.value_or_trap a.now rest) x.1 in
            let next = record a.now { at = suc a.now.at; stack = x.0 ∷ rest } in
            let g = good_next code ok [] (value n) a.now next a.here.good st in
            let t = good_typed code ok [] (value n) next g in
            let f : t.frame.body ≡ b = some_eq (sym t.frame.is ∙ ap (slice_get code.blocks) g.1 ∙ is) in
            let i : suc a.now.at < length b.instrs =
            subst (λ (z : CodeBlock). suc a.now.at < length z.instrs) f t.frame.inside in
            let d = wide (suc a.now.at) i in
            let k : length (x.0 ∷ rest) ≡ length (notes_of code r.block (suc a.now.at)).shape =
            sym (kinds_length (x.0 ∷ rest)) ∙ ap length t.stack
            ∙ ap (λ m. length (notes_of code m (suc a.now.at)).shape) a.here.block in
            let l : length rest ≡ length a.now.stack - length (params y) =
            length-drop (length (reverse (take (length (params y)) a.now.stack))) a.now.stack
            ∙ ap (λ m. length a.now.stack - m) many_there in
            let m : length (x.0 ∷ rest) ≡ suc (length rest) = refl in
            let u = height in let o = a.here.top in let w = enough in omega (arith, d, k, l, m, u, o, w)

        pub value_there : (v size : ℕ) (ws1 : List ℕ) (sees' : ℕ → ℕ) (root' : ℕ → Option ℕ)
            → IsValue (value_at (slice_get (values code) j) (reverse (take (length (params y)) a.now.stack))) (Ok v)
            → size ≡ count code.vars → Kept size sees sees' root root'
            → take (r.top - length (params y)) ws1 ≡ take (r.top - length (params y)) ws
            → r.top - length (params y) < length ws1
            → Ahead code [] (value n) b (fun_start n b args) (set ws1 (r.top - length (params y)) v)
            (record r { at = r.at + 1; top = r.top - length (params y) + 1 }) sees' root'
        value_there v size ws1 sees' root' h few kept e short =
            let base = r.top - length (params y) in
            let x = word_is (value_at (slice_get (values code) j) (reverse (take (length (params y)) a.now.stack))) v
            h in
            let st : step (setting_in code [] (value n)) a.now
            ≡ s.on a.now (x.0 ∷ drop (length (reverse (take (length (params y)) a.now.stack))) a.now.stack) =
            comes
            ∙ ap (s.value_or_trap a.now (drop (length (reverse (take (length (params y)) a.now.stack))) a.now.stack))
            x.1 in
            let next = record a.now {
              at = suc a.now.at;
              stack = x.0 ∷ drop (length (reverse (take (length (params y)) a.now.stack))) a.now.stack;
            } in
            let ws2 = set ws1 base v in
            let up = above in
            let below : take base ws2 ≡ take base ws = take-set-le base ws1 base v (omega arith) ∙ e in
            let locals : take (length b.locals) (drop r.base ws2) ≡ take (length b.locals) (drop r.base ws) =
            sym (drop-take r.base (length b.locals) ws2)
            ∙ ap (drop r.base) (take_shorter ws2 ws base (r.base + length b.locals) (omega (arith, up)) below)
            ∙ drop-take r.base (length b.locals) ws in
            let one : base + 1 - low b r ≡ suc (base - low b r) = omega (arith, up) in
            let there : low b r + (base - low b r) ≡ base = omega (arith, up) in
            let split : r.top - low b r ≡ length (params y) + (base - low b r) = omega (arith, up) in
            let rest : stack_of ws2 (low b r) (base - low b r)
            ≡ drop (length (params y)) (stack_of ws (low b r) (r.top - low b r)) =
            stack_same ws2 ws (low b r) (base - low b r) base below (omega (arith, there))
            ∙ sym (stack_dropped ws (low b r) (r.top - low b r) (length (params y)) (base - low b r) split) in
            let top : get_or ws2 (low b r + (base - low b r)) 0 ≡ v =
            ap (λ m. get_or ws2 m 0) there ∙ get_or-set_same ws1 base v 0 short in
            let stack : AreWords (x.0 ∷ drop (length (reverse (take (length (params y)) a.now.stack))) a.now.stack)
            (stack_of ws2 (low b r) (base + 1 - low b r)) =
            subst (λ m.
            AreWords (x.0 ∷ drop (length (reverse (take (length (params y)) a.now.stack))) a.now.stack)
            (stack_of ws2 (low b r) m))
            (sym one) (
              subst (IsWord x.0) (sym top) x.2,
              subst (λ m. AreWords (drop m a.now.stack) (stack_of ws2 (low b r) (base - low b r))) (sym many_there)
                  (subst (AreWords (drop (length (params y)) a.now.stack)) (sym rest)
                  (words_drop (length (params y)) a.now.stack (run_of b ws r).stack a.here.run.stack)),
            ) in
            record {
              now = next;
              steps = one_more_step (setting_in code [] (value n)) (fun_start n b args) a.now next a.steps st;
              here = record {
                good = good_next code ok [] (value n) a.now next a.here.good st;
                inputs_are = refl;
                block = a.here.block;
                run = record {
                  at = (let k = a.here.run.at in omega (arith, k));
                  locals = subst (AreWords a.now.locals) (sym locals) a.here.run.locals;
                  stack = stack;
                  fuel = a.here.run.fuel;
                  line = a.here.run.line;
                };
                top = omega (arith, up);
                locations = kept_seen a.now.locations sees sees' root root' a.here.locations size
                    (let k = a.here.many in omega (arith, k, few)) kept;
                many = a.here.many;
              };
              same = same_still (fun_start n b args) a.now next a.same
                  (record { block = refl; below = refl; forks = refl; listed = refl; text = refl });
            }

-- ---- one run behind another

pub steps_on : (t : Setting ℕ) (c c' c'' : State ℕ) → Steps t c c' → Steps t c' c'' → Steps t c c''
steps_on t c _ c'' s.none k = k
steps_on t c c' c'' (s.more {c' = d} e rest) k = s.more e (steps_on t d c' c'' rest k)

module _ (code : Code) (n : ℕ) (b : CodeBlock) (c0 : State ℕ) (ws ws' : List ℕ) (r r' : Registers) (sees sees' : ℕ → ℕ)
    (root root' : ℕ → Option ℕ) (a : Ahead code [] (value n) b c0 ws r sees root) where
  pub trap_from : (e : Cause) → IsTrapped code [] (value n) b a.now e ws' r' sees' root'
      → IsTrapped code [] (value n) b c0 e ws' r' sees' root'
  trap_from e h = record {
    before = h.before;
    steps = steps_on (setting_in code [] (value n)) c0 a.now h.before a.steps h.steps;
    trapped = h.trapped;
    trap = h.trap;
    run = h.run;
    locations = h.locations;
    same = same_still c0 a.now h.trapped a.same h.same;
  }

  pub on_from : Ahead code [] (value n) b a.now ws' r' sees' root' → Ahead code [] (value n) b c0 ws' r' sees' root'
  on_from h = record {
    now = h.now;
    steps = steps_on (setting_in code [] (value n)) c0 a.now h.now a.steps h.steps;
    here = h.here;
    same = same_still c0 a.now h.now a.same h.same;
  }

  pub leaving_of : (v : Stop) → Ends code [] (value n) b a.now v ws' r' sees' root' → ((e : Cause) → v ≢ stop.Traps e)
      → IsLeaving code [] (value n) b a.now ws' r' sees' root'
  leaving_of stop.Goes h k = absurd h
  leaving_of (stop.Traps e) h k = absurd (k e refl)
  leaving_of stop.Leaves h k = h

  pub not_before : (ok : IsAccepted code (notes_of code)) → (h : Ahead code [] (value n) b a.now ws' r' sees' root')
      → r.at ≤ r'.at
  not_before ok h =
      let d = not_earlier code ok n a.now h.now a.here.good h.steps in
      let e = a.here.run.at in let f = h.here.run.at in omega (arith, d, e, f)
