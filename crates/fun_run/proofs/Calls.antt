-- What a fun or merge comes to while it is evaluated.
use Rattle.std.proofs.Common.{◌≡◌, ◌≢◌, ◌∙◌, ℕ, zero, suc, ◌+◌, ◌<◌, ◌≤◌, Bool, true, false, List, [], ◌∷◌, length, take, drop, reverse, Option, Some, None, refl, sym, ap, subst, arith, ◌⊎◌, inl, inr, true≢false}
use Rattle.std.specs.Prelude.{slice_get, if◌then◌else◌, nat_lt}
use Rattle.std.proofs.lemmas.Bool.Decides.{nat_tests}
use Rattle.rev_num.specs.declared.value.ValueKind.{ValueKind}
use Rattle.rev_num.specs.declared.outcome.Cause.{Cause}
use Rattle.rev_num.specs.Value.{same_kind}
use Rattle.rev_num.proofs.SameKinds.{same_kind_is}
use Rattle.rev_code.specs.declared.code.Code.{Code}
use Rattle.rev_code.specs.declared.code.CodeBlock.{CodeBlock}
use Rattle.rev_code.specs.declared.code.Instr.{Instr}
use Rattle.rev_code.specs.declared.code.Instr.TheVariants as i
use Rattle.rev_code.specs.Words.{Word, kind_of, fits}
use Rattle.rev_code.specs.State.{Frame, Fun, Setting, State}
use Rattle.rev_code.specs.Step as s
use Rattle.rev_code.specs.Step.{Comes, goes, traps, forks, joins, ends, stuck, act, act_in, act_at, step, reach, params, value_at, is_fun, only, Steps}
use Rattle.rev_code.specs.Funs.{fun_start, setting_of_fun, values, answer}
use Rattle.code_rules.specs.Pass.{has_class, is_value_class, is_pure}
use Rattle.code_soundness.proofs.Basics.{and_parts, some_eq}
use Rattle.code_soundness.specs.Typed.{kinds_of}
use Rattle.code_soundness.specs.AcceptedCode.{IsAccepted, notes_of}
use Rattle.code_soundness.specs.Funs.{IsFunStep, IsArithmetic, HasValue}
use Rattle.code_soundness.proofs.Lists.{fits_kinds, kinds_length, reverse_length}
use Rattle.code_soundness.proofs.Cases.{fun_evaluates}
use Rattle.code_soundness.proofs.Evaluating.{fun_step, fun_starts, fun_value, values_by_blocks}
use Rattle.code_soundness.proofs.Places.{operand_good}
use Rattle.block_run.specs.Standing.{value, setting_in, IsGood, leaves_block}
use Rattle.block_run.proofs.Turning.{good_event, good_next}

-- ---- lists

fits_same : (kinds : List ValueKind) (ws : List (Word ℕ)) → fits kinds ws ≡ true → kinds_of ws ≡ kinds
fits_same [] [] h = refl
fits_same [] (w ∷ ws) h = absurd (true≢false (sym h))
fits_same (x ∷ kinds) [] h = absurd (true≢false (sym h))
fits_same (x ∷ kinds) (w ∷ ws) h =
    let p = and_parts (same_kind x (kind_of w)) (fits kinds ws) h in
    let a = same_kind_is x (kind_of w) p.0 in let b = fits_same kinds ws p.1 in λ j. sym a j ∷ b j

pub taken_enough : (m : ℕ) (xs : List (Word ℕ)) → length (take m xs) ≡ m → m ≤ length xs
taken_enough zero xs h = omega arith
taken_enough (suc m) [] h = absurd (omega (arith, h))
taken_enough (suc m) (x ∷ xs) h = let r = taken_enough m xs (omega (arith, h)) in omega (arith, r)

got_front : (xs : List (Fun ℕ)) (n j : ℕ) → j < n → slice_get (take n xs) j ≡ slice_get xs j
got_front xs zero j h = absurd (omega (arith, h))
got_front [] (suc n) j h = refl
got_front (x ∷ xs) (suc n) zero h = refl
got_front (x ∷ xs) (suc n) (suc j) h = got_front xs n j (omega (arith, h))

-- ---- events

abbrev pub IsEvent : Comes ℕ → Type 0
IsEvent (goes c) = ⊥
IsEvent _ = Unit {0}

module _ (code : Code) (ok : IsAccepted code (notes_of code)) (n : ℕ) where
  abbrev t : Setting ℕ
  t = setting_in code [] (value n)

  later : (c c' : State ℕ) → IsGood code (value n) c → step (setting_in code [] (value n)) c ≡ goes c' → c.at < c'.at
  later c c' g e =
      (subst (IsFunStep code (notes_of code) g.2.0 c) e
      (fun_step code (notes_of code) ok n g.2.0 g.2.1 g.2.2 c g.0 g.1)).later

  pub not_earlier : (c c' : State ℕ) → IsGood code (value n) c → Steps (setting_in code [] (value n)) c c'
      → c.at ≤ c'.at
  not_earlier c _ g s.none = omega arith
  not_earlier c c' g (s.more {c' = d} e rest) =
      let a = later c d g e in
      let r = not_earlier d c' (good_next code ok [] (value n) c d g e) rest in
      omega (arith, a, r)

  pub trap_arithmetic : (c c' : State ℕ) (e : Cause) → IsGood code (value n) c
      → step (setting_in code [] (value n)) c ≡ traps c' e → IsArithmetic e
  trap_arithmetic c c' e g h =
      subst (IsFunStep code (notes_of code) g.2.0 c) h (fun_step code (notes_of code) ok n g.2.0 g.2.1 g.2.2 c g.0 g.1)

  onward_event : (f : State ℕ → Comes ℕ) (o : Comes ℕ) → IsEvent o → s.onward f o ≡ o
  onward_event f (goes c) h = absurd h
  onward_event f (traps c e) h = refl
  onward_event f (forks c m args) h = refl
  onward_event f (joins c try j) h = refl
  onward_event f (ends c w) h = refl
  onward_event f stuck h = refl

  reach_event : (m : ℕ) (c : State ℕ) → IsEvent (step (setting_in code [] (value n)) c)
      → reach (setting_in code [] (value n)) m c ≡ step (setting_in code [] (value n)) c
  reach_event zero c h = refl
  reach_event (suc m) c h =
      onward_event (λ d. reach (setting_in code [] (value n)) m d) (step (setting_in code [] (value n)) c) h

  reach_is : (c c' : State ℕ) → IsGood code (value n) c → Steps (setting_in code [] (value n)) c c'
      → IsEvent (step (setting_in code [] (value n)) c')
      → (m : ℕ) → c'.at ≤ c.at + m → reach (setting_in code [] (value n)) m c ≡ step (setting_in code [] (value n)) c'
  reach_is c _ g s.none ev m h = reach_event m c ev
  reach_is c c' g (s.more {c' = d} e rest) ev zero h =
      let a = later c d g e in
      let r = not_earlier d c' (good_next code ok [] (value n) c d g e) rest in
      absurd (omega (arith, a, r, h))
  reach_is c c' g (s.more {c' = d} e rest) ev (suc m) h =
      let a = later c d g e in
      ap (s.onward (λ x. reach (setting_in code [] (value n)) m x)) e
      ∙ reach_is d c' (good_next code ok [] (value n) c d g e) rest ev m (omega (arith, a, h))

  module _ (b : CodeBlock) (is : slice_get code.blocks n ≡ Some b) (class : is_value_class b.class ≡ true)
      (args : List (Word ℕ)) (kinds : kinds_of args ≡ params b) where
    pub start_good : IsGood code (value n) (fun_start n b args)
    start_good = (fun_starts code (notes_of code) ok n b is args kinds, refl, (b, is, class))

    -- the value is the answer of the event at which the evaluation arrives
    pub value_is : (c : State ℕ) → Steps (setting_in code [] (value n)) (fun_start n b args) c
        → IsEvent (step (setting_in code [] (value n)) c) → c.at ≤ length b.instrs
        → value_at (slice_get (values code) n) args ≡ answer (step (setting_in code [] (value n)) c)
    value_is c steps ev inside =
        let v = values_by_blocks code n b is in
        let f = fits_kinds (params b) args kinds in
        let r = reach_is (fun_start n b args) c start_good steps ev (length b.instrs) (omega (arith, inside)) in
        ap (λ o. value_at o args) v
        ∙ ap (λ d.
        if d then answer (reach (setting_of_fun code (take n (values code))) (length b.instrs) (fun_start n b args))
        else None)
        f
        ∙ ap answer r

    pub has_value : HasValue b.result (value_at (slice_get (values code) n) args)
    has_value = fun_value code (notes_of code) ok n b is class args kinds

  -- ---- instructions that leave the block

  module _ (b : CodeBlock) (c : State ℕ) (good : IsGood code (value n) c) (is : slice_get code.blocks n ≡ Some b) where
    block_is : slice_get code.blocks c.block ≡ Some b
    block_is = ap (slice_get code.blocks) good.1 ∙ is

    class_is : is_value_class b.class ≡ true
    class_is =
        let e : good.2.0 ≡ b = some_eq (sym good.2.1 ∙ is) in
        sym (ap (λ (y : CodeBlock). is_value_class y.class) e) ∙ good.2.2

    act_is : (x : Instr) → slice_get b.instrs c.at ≡ Some x
        → step (setting_in code [] (value n)) c ≡ act (setting_in code [] (value n)) b c x
    act_is x at =
        ap (act_in (setting_in code [] (value n)) c) block_is ∙ ap (act_at (setting_in code [] (value n)) b c) at

    has : (x : Instr) → slice_get b.instrs c.at ≡ Some x → act (setting_in code [] (value n)) b c x ≢ stuck
    has x at e = good_event code ok [] (value n) c good (act_is x at ∙ e)

    operand_of : (x : Instr) → slice_get b.instrs c.at ≡ Some x
        → Rattle.code_rules.specs.Pass.bad_operand code c.block b x ≡ false
    operand_of x at = ((ok.certified c.block b block_is).each c.at x at).operand

    pure_only : (x : Instr) → slice_get b.instrs c.at ≡ Some x → is_pure x ≡ false → ⊥
    pure_only x at e = true≢false (sym class_is ∙ (operand_good code c.block b x (operand_of x at)).1 e)

    abbrev IsTurn : Instr → Type 0
    IsTurn x = (x ≡ i.Return) ⊎ ((j : ℕ) × (x ≡ i.Apply j))

    turns : (x : Instr) → (is_pure x ≡ false → ⊥) → leaves_block x ≡ true → IsTurn x
    turns (i.Apply j) p h = inr (j, refl)
    turns i.Return p h = inl refl
    turns (i.Call j) p h = absurd (p refl)
    turns (i.Fork j) p h = absurd (p refl)
    turns i.Join p h = absurd (p refl)
    turns (i.Print j) p h = absurd (p refl)
    turns i.TryJoin p h = absurd (p refl)
    turns _ p h = absurd (true≢false (sym h))

    pub turn_here : (x : Instr) → slice_get b.instrs c.at ≡ Some x → leaves_block x ≡ true
        → (slice_get b.instrs c.at ≡ Some i.Return) ⊎ ((j : ℕ) × (slice_get b.instrs c.at ≡ Some (i.Apply j)))
    turn_here x at h = elim (turns x (pure_only x at) h) [
      | inl e ↦ inl (at ∙ ap Some e)
      | inr e ↦ inr (e.0, at ∙ ap Some e.1)
    ]

    -- ---- Return

    pub record Returned : Type 0 where
      pub result : Option (Word ℕ)
      pub ending : step (setting_in code [] (value n)) c ≡ ends c result
      pub top : (result ≡ None) ⊎ ((w : Word ℕ) × (rest : List (Word ℕ)) × (c.stack ≡ w ∷ rest) × (result ≡ Some w))

    abbrev Gives : Comes ℕ → Type 0
    Gives o = (result : Option (Word ℕ)) × (o ≡ ends c result)
        × ((result ≡ None) ⊎ ((w : Word ℕ) × (rest : List (Word ℕ)) × (c.stack ≡ w ∷ rest) × (result ≡ Some w)))

    gives_if : (d : Bool) (w : Word ℕ) (rest : List (Word ℕ)) → c.stack ≡ w ∷ rest → (fs : List (Frame ℕ)) → fs ≡ []
        → (if d then s.leave c fs (Some w) else stuck) ≢ stuck → Gives (if d then s.leave c fs (Some w) else stuck)
    gives_if true w rest e [] f h = (Some w, refl, inr (w, rest, e, refl))
    gives_if true w rest e (g ∷ fs) f h = absurd (cons_no f)
      where
        cons_no : g ∷ fs ≡ [] → ⊥
        cons_no h = cc
    gives_if false w rest e fs f h = absurd (h refl)

    gives_none : (fs : List (Frame ℕ)) → fs ≡ [] → Gives (s.leave c fs None)
    gives_none [] f = (None, refl, inl refl)
    gives_none (g ∷ fs) f = absurd (cons_no f)
      where
        cons_no : g ∷ fs ≡ [] → ⊥
        cons_no h = cc

    gives : (o : Option ValueKind) (ws : List (Word ℕ)) → c.stack ≡ ws → c.below ≡ [] → s.return c o ws ≢ stuck
        → Gives (s.return c o ws)
    gives None ws e f h = gives_none c.below f
    gives (Some x) [] e f h = absurd (h refl)
    gives (Some x) (w ∷ rest) e f h = gives_if (same_kind x (kind_of w)) w rest e c.below f h

    pub returned : slice_get b.instrs c.at ≡ Some i.Return → c.below ≡ [] → Returned
    returned at f =
        let q = gives b.result c.stack refl f (has i.Return at) in
        record { result = q.0; ending = act_is i.Return at ∙ q.1; top = q.2 }

    -- ---- Apply

    pub record Application (j : ℕ) : Type 0 where
      pub body : CodeBlock
      pub named : slice_get code.blocks j ≡ Some body
      pub of_value : is_value_class body.class ≡ true
      pub less : j < n
      pub enough : length (params body) ≤ length c.stack
      pub kinds : kinds_of (reverse (take (length (params body)) c.stack)) ≡ params body
      pub many : length (reverse (take (length (params body)) c.stack)) ≡ length (params body)
      pub comes : step (setting_in code [] (value n)) c
          ≡ s.value_or_trap c (drop (length (reverse (take (length (params body)) c.stack))) c.stack)
          (value_at (slice_get (values code) j) (reverse (take (length (params body)) c.stack)))

    abbrev args_of : CodeBlock → List (Word ℕ)
    args_of y = reverse (take (length (params y)) c.stack)

    abbrev Applies : ℕ → Comes ℕ → Type 0
    Applies j o =
        (body : CodeBlock) × (slice_get code.blocks j ≡ Some body) × (is_fun body.class ≡ true)
        × (fits (params body) (args_of body) ≡ true)
        × (o
        ≡ s.value_or_trap c (drop (length (args_of body)) c.stack)
        (value_at (slice_get (take n (values code)) j) (args_of body)))

    with_args : (j : ℕ) (y : CodeBlock) (f : Option (Fun ℕ)) → f ≡ slice_get (take n (values code)) j
        → slice_get code.blocks j ≡ Some y → is_fun y.class ≡ true → (d : Bool) → fits (params y) (args_of y) ≡ d
        → s.apply_to c f (if d then Some (args_of y) else None) ≢ stuck
        → Applies j (s.apply_to c f (if d then Some (args_of y) else None))
    with_args j y f e is cl true g h =
        (y, is, cl, g, ap (λ z. s.value_or_trap c (drop (length (args_of y)) c.stack) (value_at z (args_of y))) e)
    with_args j y f e is cl false g h = absurd (h refl)

    with_fun : (j : ℕ) (y : CodeBlock) → slice_get code.blocks j ≡ Some y → (d : Bool) → is_fun y.class ≡ d
        → s.apply c (if d then Some y else None) (slice_get (take n (values code)) j) ≢ stuck
        → Applies j (s.apply c (if d then Some y else None) (slice_get (take n (values code)) j))
    with_fun j y is true g h =
        with_args j y (slice_get (take n (values code)) j) refl is g (fits (params y) (args_of y)) refl h
    with_fun j y is false g h = absurd (h refl)

    with_block : (j : ℕ) (o : Option CodeBlock) → slice_get code.blocks j ≡ o
        → s.apply c (only is_fun o) (slice_get (take n (values code)) j) ≢ stuck
        → Applies j (s.apply c (only is_fun o) (slice_get (take n (values code)) j))
    with_block j None is h = absurd (h refl)
    with_block j (Some y) is h = with_fun j y is (is_fun y.class) refl h

    pub application : (j : ℕ) → slice_get b.instrs c.at ≡ Some (i.Apply j) → Application j
    application j at =
        let q = with_block j (slice_get code.blocks j) refl (has (i.Apply j) at) in
        let y = q.0 in
        let names = (operand_good code c.block b (i.Apply j) (operand_of (i.Apply j) at)).0 in
        let p = (and_parts (nat_lt j c.block) (has_class is_fun (slice_get code.blocks j)) names).0 in
        let e = good.1 in
        let less : j < n = grind (arith, nat_tests, p, e) in
        let kinds = fits_same (params y) (args_of y) q.3 in
        let many = sym (kinds_length (args_of y)) ∙ ap length kinds in
        let taken = sym (reverse_length (take (length (params y)) c.stack)) ∙ many in
        record {
          body = y;
          named = q.1;
          of_value = fun_evaluates y.class q.2;
          less = less;
          enough = taken_enough (length (params y)) c.stack taken;
          kinds = kinds;
          many = many;
          comes = act_is (i.Apply j) at ∙ q.4
              ∙ ap (λ z. s.value_or_trap c (drop (length (args_of y)) c.stack) (value_at z (args_of y)))
              (got_front (values code) n j less);
        }
