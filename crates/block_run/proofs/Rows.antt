-- The table of instructions on words, row by row beside that on words of a kind.
use Rattle.std.proofs.Common.{◌≡◌, ◌∙◌, ℕ, zero, suc, Bool, true, false, not, ℤ, pos, negsuc, List, [], ◌∷◌, length, Option, Some, None, refl, sym, ap, subst, arith}
use Rattle.std.specs.Prelude.{if◌then◌else◌, nat_eq, int_lt, int_le, Ok, Err, Result, slice_get, slice_set}
use Rattle.std.proofs.lemmas.Bool.Decides.{nat_tests}
use Rattle.rev_num.specs.declared.value.NumFault.{NumFault}
use Rattle.rev_num.specs.declared.value.ValueKind.{ValueKind}
use Rattle.rev_num.specs.declared.outcome.Cause.{Cause}
use Rattle.rev_num.specs.declared.outcome.Cause.TheVariants as cause
use Rattle.rev_num.specs.Arith.{fits_i64, sum_of, difference_of, product_of, quotient_of, remainder_of, negation_of}
use Rattle.rev_num.specs.Words.{int_of, word_of}
use Rattle.rev_num.specs.Value.{same_kind, same_number, same_truth}
use Rattle.rev_code.specs.declared.code.CodeBlock.{CodeBlock}
use Rattle.rev_code.specs.declared.code.Instr.{Instr}
use Rattle.rev_code.specs.declared.code.Instr.TheVariants as i
use Rattle.rev_code.specs.Words.{Word, int, bool, rev, kind_of}
use Rattle.rev_code.specs.State.{Setting, State, seen_at}
use Rattle.rev_code.specs.Variables.{Place, scalar, array, cell_at}
use Rattle.rev_code.specs.Step as s
use Rattle.rev_code.specs.Step.{Comes, goes, traps, forks, joins, ends, stuck, act, input_at}
use Rattle.block_run.specs.Plain as p
use Rattle.block_run.specs.Plain.{Run, Plain, moves, faults, leaves, flag, plain}
use Rattle.block_run.specs.Agreement.{IsWord, AreWords, IsRun, Stands, Agrees, AreInputs, PushesInt}
use Rattle.block_run.proofs.Numbers.{Fit, word_small, word_back, sums, differences, products, quotients, remainders, negations, int_fits, same_words, same_flags, not_flag}

-- ---- words

pub word_at : (xs : List (Word ℕ)) (ws : List ℕ) → AreWords xs ws → (n : ℕ) (x : Word ℕ) → slice_get xs n ≡ Some x
    → (w : ℕ) × (slice_get ws n ≡ Some w) × IsWord x w
word_at [] ws h n x e = absurd (none_no e)
  where
    none_no : {x : Word ℕ} → None ≡ Some x → ⊥
    none_no h = cc
word_at (y ∷ xs) [] h n x e = absurd h
word_at (y ∷ xs) (w ∷ ws) h zero x e = (w, refl, subst (λ z. IsWord z w) (some_is e) h.0)
  where
    some_is : {y x : Word ℕ} → Some y ≡ Some x → y ≡ x
    some_is h = cc
word_at (y ∷ xs) (w ∷ ws) h (suc n) x e = word_at xs ws h.1 n x e

pub words_set : (xs : List (Word ℕ)) (ws : List ℕ) → AreWords xs ws → (n : ℕ) (x : Word ℕ) (w : ℕ) → IsWord x w
    → AreWords (slice_set xs n x) (slice_set ws n w)
words_set [] [] h n x w k = tt
words_set [] (w' ∷ ws) h n x w k = absurd h
words_set (y ∷ xs) [] h n x w k = absurd h
words_set (y ∷ xs) (w' ∷ ws) h zero x w k = (k, h.1)
words_set (y ∷ xs) (w' ∷ ws) h (suc n) x w k = (h.0, words_set xs ws h.1 n x w k)

pub int_word : (z : ℤ) → fits_i64 z ≡ true → IsWord (int z) (word_of z)
int_word z h = (word_small z h, word_back z h)

module _ (c : State ℕ) (r : Run) (read : ℕ → ℕ) (st : Stands c r read) where
  abbrev A : Comes ℕ → Plain → Type 0
  A o q = Agrees c o q

  abbrev run : IsRun c r
  run = st.run

  -- the next instruction, with this stack
  on_case : (ws : List (Word ℕ)) (vs : List ℕ) → AreWords ws vs → A (s.on c ws) (p.on r vs)
  on_case ws vs h = record {
    run = record { at = ap suc run.at; locals = run.locals; stack = h; fuel = run.fuel; line = run.line };
    others = refl;
  }

  fault_case : (e : Cause) → A (traps c e) (faults r e)
  fault_case e = (refl, record { run = run; others = refl })

  number_case : (ws : List (Word ℕ)) (vs : List ℕ) → AreWords ws vs → (v : Result ℤ NumFault)
      → ((z : ℤ) → v ≡ Ok z → fits_i64 z ≡ true) → A (s.number c ws v) (p.number r vs v)
  number_case ws vs h (Ok z) fits = on_case (int z ∷ ws) (word_of z ∷ vs) (int_word z (fits z refl), h)
  number_case ws vs h (Err f) fits = fault_case (s.cause_of f)

  ints_case : (f : ℤ → ℤ → Result ℤ NumFault) → Fit f → (ws : List (Word ℕ)) (vs : List ℕ) → AreWords ws vs
      → A (s.of_ints f c ws) (p.of_ints f r vs)
  ints_case f fits (int y ∷ int x ∷ ws) (v ∷ u ∷ vs) h =
      let e = h.0.1 in let g = h.1.0.1 in
      let same : f x y ≡ f (int_of u) (int_of v) = (λ j. f (g j) (e j)) in
      subst (λ o. A (s.number c ws o) (p.number r vs (f (int_of u) (int_of v)))) (sym same)
      (number_case ws vs h.1.1 (f (int_of u) (int_of v)) (λ z k. fits (int_of u) (int_of v) z (int_fits v h.0.0) k))
  ints_case f fits (int y ∷ int x ∷ ws) (v ∷ []) h = absurd h.1
  ints_case f fits (int y ∷ int x ∷ ws) [] h = absurd h
  ints_case f fits _ vs h = tt

  int_case : (f : ℤ → Result ℤ NumFault) → ((a z : ℤ) → f a ≡ Ok z → fits_i64 z ≡ true)
      → (ws : List (Word ℕ)) (vs : List ℕ) → AreWords ws vs → A (s.of_int f c ws) (p.of_int f r vs)
  int_case f fits (int x ∷ ws) (u ∷ vs) h =
      subst (λ o. A (s.number c ws o) (p.number r vs (f (int_of u)))) (ap f (sym h.0.1))
      (number_case ws vs h.1 (f (int_of u)) (λ z k. fits (int_of u) z k))
  int_case f fits (int x ∷ ws) [] h = absurd h
  int_case f fits _ vs h = tt

  not_case : (ws : List (Word ℕ)) (vs : List ℕ) → AreWords ws vs → A (s.of_bool c ws) (p.of_bool r vs)
  not_case (bool b ∷ ws) (v ∷ vs) h =
      on_case (bool (not b) ∷ ws) (flag (nat_eq v 0) ∷ vs) (ap flag (ap (λ z. nat_eq z 0) h.0 ∙ sym (not_flag b)), h.1)
  not_case (bool b ∷ ws) [] h = absurd h
  not_case _ vs h = tt

  equality_case : (turned : Bool → Bool) (ws : List (Word ℕ)) (vs : List ℕ) → AreWords ws vs
      → A (s.equality turned c ws) (p.equality turned r vs)
  equality_case turned (int y ∷ int x ∷ ws) (v ∷ u ∷ vs) h =
      let e = h.0.1 in let g = h.1.0.1 in
      let same : nat_eq u v ≡ same_number x y = sym ((λ j. same_number (g j) (e j)) ∙ same_words u v h.1.0.0 h.0.0) in
      on_case (bool (turned (same_number x y)) ∷ ws) (flag (turned (nat_eq u v)) ∷ vs)
      (ap (λ d. flag (turned d)) same, h.1.1)
  equality_case turned (bool y ∷ bool x ∷ ws) (v ∷ u ∷ vs) h =
      let e = h.0 in let g = h.1.0 in
      let same : nat_eq u v ≡ same_truth x y = (λ j. nat_eq (g j) (e j)) ∙ sym (same_flags x y) in
      on_case (bool (turned (same_truth x y)) ∷ ws) (flag (turned (nat_eq u v)) ∷ vs)
      (ap (λ d. flag (turned d)) same, h.1.1)
  equality_case turned (int y ∷ int x ∷ ws) (v ∷ []) h = absurd h.1
  equality_case turned (int y ∷ int x ∷ ws) [] h = absurd h
  equality_case turned (bool y ∷ bool x ∷ ws) (v ∷ []) h = absurd h.1
  equality_case turned (bool y ∷ bool x ∷ ws) [] h = absurd h
  equality_case turned _ vs h = tt

  order_case : (f : ℤ → ℤ → Bool) (ws : List (Word ℕ)) (vs : List ℕ) → AreWords ws vs
      → A (s.order f c ws) (p.order f r vs)
  order_case f (int y ∷ int x ∷ ws) (v ∷ u ∷ vs) h =
      let e = h.0.1 in let g = h.1.0.1 in
      on_case (bool (f x y) ∷ ws) (flag (f (int_of u) (int_of v)) ∷ vs) (sym (λ j. flag (f (g j) (e j))), h.1.1)
  order_case f (int y ∷ int x ∷ ws) (v ∷ []) h = absurd h.1
  order_case f (int y ∷ int x ∷ ws) [] h = absurd h
  order_case f _ vs h = tt

  -- ---- locals and locations

  load_case : (n : ℕ) → A (s.pushes c c.stack (slice_get c.locals n)) (p.pushes r r.stack (slice_get r.locals n))
  load_case n = by (slice_get c.locals n) refl
    where
      by : (o : Option (Word ℕ)) → slice_get c.locals n ≡ o
          → A (s.pushes c c.stack o) (p.pushes r r.stack (slice_get r.locals n))
      by None e = tt
      by (Some x) e = (let q = word_at c.locals r.locals run.locals n x e in
          subst (λ o. A (s.pushes c c.stack (Some x)) (p.pushes r r.stack o)) (sym q.1)
          (on_case (x ∷ c.stack) (q.0 ∷ r.stack) (q.2, run.stack)))

  if_stuck : (d : Bool) (o : Comes ℕ) (q : Plain) → A o q → A (if d then o else stuck) q
  if_stuck true o q h = h
  if_stuck false o q h = tt

  store_case : (n : ℕ) (o : Option ValueKind) (ws : List (Word ℕ)) (vs : List ℕ) → AreWords ws vs
      → A (s.into_local c n o ws) (p.into_local r n vs)
  store_case n None ws vs h = tt
  store_case n (Some k) [] vs h = tt
  store_case n (Some k) (w ∷ ws) [] h = absurd h
  store_case n (Some k) (w ∷ ws) (v ∷ vs) h =
      if_stuck (same_kind k (kind_of w))
      (goes (record c { at = suc c.at; stack = ws; locals = slice_set c.locals n w })) _
      (record {
        run = record {
          at = ap suc run.at;
          locals = words_set c.locals r.locals run.locals n w v h.0;
          stack = h.1;
          fuel = run.fuel;
          line = run.line;
        };
        others = refl;
      })

  write_case : (ws : List (Word ℕ)) (vs : List ℕ) → AreWords ws vs → (l : ℕ) (x : Word ℕ) (w : ℕ) → IsWord x w
      → A (s.after_write c ws l x) (p.after_write r vs l w)
  write_case ws vs h l x w k = (
    x,
    k,
    record {
      run = record { at = ap suc run.at; locals = run.locals; stack = h; fuel = run.fuel; line = run.line };
      others = refl;
    },
  )

  seen_case : (ws : List (Word ℕ)) (vs : List ℕ) → AreWords ws vs → (l : ℕ)
      → A (s.pushes c ws (seen_at c.locations l)) (p.on r (read l ∷ vs))
  seen_case ws vs h l = by (seen_at c.locations l) refl
    where
      by : (o : Option (Word ℕ)) → seen_at c.locations l ≡ o → A (s.pushes c ws o) (p.on r (read l ∷ vs))
      by None e = tt
      by (Some x) e = on_case (x ∷ ws) (read l ∷ vs) (st.locations l x e, h)

  from_scalar_case : (o : Option Place) → A (s.from_scalar c o) (p.from_scalar read r o)
  from_scalar_case None = tt
  from_scalar_case (Some q) = seen_case c.stack r.stack run.stack q.first

  into_scalar_case : (o : Option Place) (ws : List (Word ℕ)) (vs : List ℕ) → AreWords ws vs
      → A (s.into_scalar c o ws) (p.into_scalar r o vs)
  into_scalar_case None ws vs h = tt
  into_scalar_case (Some q) [] vs h = tt
  into_scalar_case (Some q) (w ∷ ws) [] h = absurd h
  into_scalar_case (Some q) (w ∷ ws) (v ∷ vs) h =
      if_stuck (same_kind q.var.kind (kind_of w)) (s.after_write c ws q.first w) _
      (write_case ws vs h.1 q.first w v h.0)

  read_case : (ws : List (Word ℕ)) (vs : List ℕ) → AreWords ws vs → (o : Option ℕ)
      → A (s.read_cell c ws o) (p.read_cell read r vs o)
  read_case ws vs h None = fault_case cause.Index
  read_case ws vs h (Some l) = seen_case ws vs h l

  from_cell_case : (o : Option Place) (ws : List (Word ℕ)) (vs : List ℕ) → AreWords ws vs
      → A (s.from_cell c o ws) (p.from_cell read r o vs)
  from_cell_case (Some q) (int n ∷ ws) (v ∷ vs) h =
      subst (λ z. A (s.read_cell c ws (cell_at q z)) (p.read_cell read r vs (cell_at q (int_of v)))) (sym h.0.1)
      (read_case ws vs h.1 (cell_at q (int_of v)))
  from_cell_case (Some q) (int n ∷ ws) [] h = absurd h
  from_cell_case _ ws vs h = tt

  put_case : (ws : List (Word ℕ)) (vs : List ℕ) → AreWords ws vs → (x : Word ℕ) (w : ℕ) → IsWord x w → (o : Option ℕ)
      → A (s.write_cell c ws x o) (p.write_cell r vs w o)
  put_case ws vs h x w k None = fault_case cause.Index
  put_case ws vs h x w k (Some l) = write_case ws vs h l x w k

  into_cell_case : (o : Option Place) (ws : List (Word ℕ)) (vs : List ℕ) → AreWords ws vs
      → A (s.into_cell c o ws) (p.into_cell r o vs)
  into_cell_case (Some q) (w ∷ int n ∷ ws) (v ∷ u ∷ vs) h =
      if_stuck (same_kind q.var.kind (kind_of w)) (s.write_cell c ws w (cell_at q n)) _
      (subst (λ z. A (s.write_cell c ws w (cell_at q z)) (p.write_cell r vs v (cell_at q (int_of u)))) (sym h.1.0.1)
      (put_case ws vs h.1.1 w v h.0 (cell_at q (int_of u))))
  into_cell_case (Some q) (w ∷ int n ∷ ws) (v ∷ []) h = absurd h.1
  into_cell_case (Some q) (w ∷ int n ∷ ws) [] h = absurd h
  into_cell_case _ ws vs h = tt

  test_case : (o : Option ℕ) → A (s.test_cell c o) (p.test_cell r o)
  test_case None = fault_case cause.Index
  test_case (Some l) = on_case c.stack r.stack run.stack

  over_cell_case : (o : Option Place) (ws : List (Word ℕ)) (vs : List ℕ) → AreWords ws vs
      → A (s.over_cell c o ws) (p.over_cell r o vs)
  over_cell_case (Some q) (int n ∷ ws) (v ∷ vs) h =
      subst (λ z. A (s.test_cell c (cell_at q z)) (p.test_cell r (cell_at q (int_of v)))) (sym h.0.1)
      (test_case (cell_at q (int_of v)))
  over_cell_case (Some q) (int n ∷ ws) [] h = absurd h
  over_cell_case _ ws vs h = tt

  -- ---- input

  input_case : (ws : List (Word ℕ)) (vs : List ℕ) → AreWords ws vs → (o : Option ℤ)
      → ((z : ℤ) → o ≡ Some z → fits_i64 z ≡ true) → A (s.read_input c ws o) (p.read_input r vs o)
  input_case ws vs h None fits = fault_case cause.Index
  input_case ws vs h (Some z) fits = on_case (int z ∷ ws) (word_of z ∷ vs) (int_word z (fits z refl), h)

  at_fits : (inputs : List ℤ) → AreInputs inputs → (n z : ℤ) → input_at inputs n ≡ Some z → fits_i64 z ≡ true
  at_fits inputs ok (pos n) z e = ok.0 n z e
  at_fits inputs ok (negsuc n) z e = absurd (none_no e)
    where
      none_no : {x : ℤ} → None ≡ Some x → ⊥
      none_no h = cc

  from_input_case : (inputs : List ℤ) → AreInputs inputs → (ws : List (Word ℕ)) (vs : List ℕ) → AreWords ws vs
      → A (s.from_input inputs c ws) (p.from_input inputs r vs)
  from_input_case inputs ok (int n ∷ ws) (v ∷ vs) h =
      subst (λ z. A (s.read_input c ws (input_at inputs z)) (p.read_input r vs (input_at inputs (int_of v))))
      (sym h.0.1)
      (input_case ws vs h.1 (input_at inputs (int_of v)) (at_fits inputs ok (int_of v)))
  from_input_case inputs ok (int n ∷ ws) [] h = absurd h
  from_input_case inputs ok _ vs h = tt

  -- ---- jumps and payment

  leap : (at at' : ℕ) → at' ≡ at → (ws : List (Word ℕ)) (vs : List ℕ) → AreWords ws vs
      → A (goes (record c { at = at; stack = ws })) (moves (record r { at = at'; stack = vs }))
  leap at at' e ws vs h = record {
    run = record { at = e; locals = run.locals; stack = h; fuel = run.fuel; line = run.line };
    others = refl;
  }

  ways : (b : Bool) (v : ℕ) → v ≡ flag b → (x x' y y' : ℕ) → x ≡ x' → y ≡ y'
      → (if nat_eq v 0 then x else y) ≡ (if b then y' else x')
  ways true v e x x' y y' g h = ap (λ z. if nat_eq z 0 then x else y) e ∙ h
  ways false v e x x' y y' g h = ap (λ z. if nat_eq z 0 then x else y) e ∙ g

  jump_case : (wanted : Bool) (to : ℕ) (ws : List (Word ℕ)) (vs : List ℕ) → AreWords ws vs
      → A (s.jump_if wanted to c ws) (p.jump_if wanted to r vs)
  jump_case true to (bool b ∷ ws) (v ∷ vs) h =
      leap (if b then to else suc c.at) (if nat_eq v 0 then suc r.at else to)
      (ways b v h.0 (suc r.at) (suc c.at) to to (ap suc run.at) refl) ws vs h.1
  jump_case false to (bool b ∷ ws) (v ∷ vs) h =
      leap (if b then suc c.at else to) (if nat_eq v 0 then to else suc r.at)
      (ways b v h.0 to to (suc r.at) (suc c.at) refl (ap suc run.at)) ws vs h.1
  jump_case true to (bool b ∷ ws) [] h = absurd h
  jump_case false to (bool b ∷ ws) [] h = absurd h
  jump_case true to [] vs h = tt
  jump_case true to (int n ∷ ws) vs h = tt
  jump_case true to (rev n ∷ ws) vs h = tt
  jump_case false to [] vs h = tt
  jump_case false to (int n ∷ ws) vs h = tt
  jump_case false to (rev n ∷ ws) vs h = tt

  charge_case : (line fuel fuel' : ℕ) → fuel' ≡ fuel → A (s.charge c line fuel) (p.charge r line fuel')
  charge_case line zero zero e = (
    refl,
    record {
      run = record { at = run.at; locals = run.locals; stack = run.stack; fuel = run.fuel; line = refl };
      others = refl;
    },
  )
  charge_case line (suc f) (suc f') e = record {
    run = record { at = ap suc run.at; locals = run.locals; stack = run.stack; fuel = omega (arith, e); line = refl };
    others = refl;
  }
  charge_case line zero (suc f) e = absurd (omega (arith, e))
  charge_case line (suc f) zero e = absurd (omega (arith, e))

  -- ---- the others

  assert_if : (b : Bool) (v : ℕ) → v ≡ flag b → (ws : List (Word ℕ)) (vs : List ℕ) → AreWords ws vs
      → A (if b then s.on c ws else traps c cause.Assert) (if nat_eq v 0 then faults r cause.Assert else p.on r vs)
  assert_if true v e ws vs h =
      subst (λ z. A (s.on c ws) (if nat_eq z 0 then faults r cause.Assert else p.on r vs)) (sym e) (on_case ws vs h)
  assert_if false v e ws vs h =
      subst (λ z. A (traps c cause.Assert) (if nat_eq z 0 then faults r cause.Assert else p.on r vs)) (sym e)
      (fault_case cause.Assert)

  assert_case : (ws : List (Word ℕ)) (vs : List ℕ) → AreWords ws vs → A (s.assert c ws) (p.assert r vs)
  assert_case (bool b ∷ ws) (v ∷ vs) h = assert_if b v h.0 ws vs h.1
  assert_case (bool b ∷ ws) [] h = absurd h
  assert_case _ vs h = tt

  pop_case : (ws : List (Word ℕ)) (vs : List ℕ) → AreWords ws vs → A (s.pop c ws) (p.pop r vs)
  pop_case (w ∷ ws) (v ∷ vs) h = on_case ws vs h.1
  pop_case (w ∷ ws) [] h = absurd h
  pop_case [] vs h = tt

  -- ---- the table

  leaving : (o : Comes ℕ) → A o leaves
  leaving (goes c') = tt
  leaving (traps c' e) = tt
  leaving (forks c' n args) = tt
  leaving (joins c' try h) = tt
  leaving (ends c' w) = tt
  leaving stuck = tt

  count_case : (inputs : List ℤ) → AreInputs inputs
      → A (s.on c (int (pos (length inputs)) ∷ c.stack)) (p.on r (length inputs ∷ r.stack))
  count_case inputs ok =
      let few = ok.1 in
      let fits : fits_i64 (pos (length inputs)) ≡ true = grind (arith, nat_tests, few) in
      on_case (int (pos (length inputs)) ∷ c.stack) (length inputs ∷ r.stack)
      (int_word (pos (length inputs)) fits, run.stack)

  pub rows : (t : Setting ℕ) (b : CodeBlock) → AreInputs t.inputs → (x : Instr) → PushesInt x
      → A (act t b c x) (plain t.code.vars t.inputs read r x)
  rows t b ok (i.PushInt n) h = on_case (int n ∷ c.stack) (word_of n ∷ r.stack) (int_word n h, run.stack)
  rows t b ok (i.PushBool v) h = on_case (bool v ∷ c.stack) (flag v ∷ r.stack) (refl, run.stack)
  rows t b ok i.PushNone h = on_case (rev None ∷ c.stack) (0 ∷ r.stack) (refl, run.stack)
  rows t b ok (i.LoadLocal n) h = load_case n
  rows t b ok (i.StoreLocal n) h = store_case n (slice_get b.locals n) c.stack r.stack run.stack
  rows t b ok (i.LoadShared v) h = from_scalar_case (scalar t.code.vars v)
  rows t b ok (i.StoreShared v) h = into_scalar_case (scalar t.code.vars v) c.stack r.stack run.stack
  rows t b ok (i.LoadCell v) h = from_cell_case (array t.code.vars v) c.stack r.stack run.stack
  rows t b ok (i.StoreCell v) h = into_cell_case (array t.code.vars v) c.stack r.stack run.stack
  rows t b ok (i.CheckCell v) h = over_cell_case (array t.code.vars v) c.stack r.stack run.stack
  rows t b ok i.LoadInput h = from_input_case t.inputs ok c.stack r.stack run.stack
  rows t b ok i.CountInput h = count_case t.inputs ok
  rows t b ok i.Add h = ints_case sum_of sums c.stack r.stack run.stack
  rows t b ok i.Sub h = ints_case difference_of differences c.stack r.stack run.stack
  rows t b ok i.Mul h = ints_case product_of products c.stack r.stack run.stack
  rows t b ok i.Div h = ints_case quotient_of quotients c.stack r.stack run.stack
  rows t b ok i.Rem h = ints_case remainder_of remainders c.stack r.stack run.stack
  rows t b ok i.Neg h = int_case negation_of negations c.stack r.stack run.stack
  rows t b ok i.Not h = not_case c.stack r.stack run.stack
  rows t b ok i.Eq h = equality_case (λ same. same) c.stack r.stack run.stack
  rows t b ok i.Ne h = equality_case not c.stack r.stack run.stack
  rows t b ok i.Lt h = order_case int_lt c.stack r.stack run.stack
  rows t b ok i.Le h = order_case int_le c.stack r.stack run.stack
  rows t b ok i.Gt h = order_case (λ x y. int_lt y x) c.stack r.stack run.stack
  rows t b ok i.Ge h = order_case (λ x y. int_le y x) c.stack r.stack run.stack
  rows t b ok (i.Jump to) h = record {
    run = record { at = refl; locals = run.locals; stack = run.stack; fuel = run.fuel; line = run.line };
    others = refl;
  }
  rows t b ok (i.JumpIfFalse to) h = jump_case false to c.stack r.stack run.stack
  rows t b ok (i.JumpIfTrue to) h = jump_case true to c.stack r.stack run.stack
  rows t b ok (i.Apply n) h = leaving _
  rows t b ok (i.Charge line) h = charge_case line c.fuel r.fuel run.fuel
  rows t b ok (i.Call n) h = leaving _
  rows t b ok (i.Fork n) h = leaving _
  rows t b ok i.Join h = leaving _
  rows t b ok (i.Print n) h = leaving _
  rows t b ok i.Assert h = assert_case c.stack r.stack run.stack
  rows t b ok i.Return h = leaving _
  rows t b ok i.Pop h = pop_case c.stack r.stack run.stack
  rows t b ok i.TryJoin h = leaving _
