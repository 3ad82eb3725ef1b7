-- What an instruction has found where it has a step.
use Rattle.std.proofs.Common.{◌≡◌, ◌≢◌, ℕ, ◌<◌, ◌≤◌, Bool, true, false, not, ℤ, List, [], ◌∷◌, length, Option, Some, None, refl, arith, ◌⊎◌, inl, inr}
use Rattle.std.specs.Prelude.{slice_get, int_lt, int_le, Result}
use Rattle.rev_num.specs.declared.value.ValueKind.{ValueKind}
use Rattle.rev_num.specs.declared.value.NumFault.{NumFault}
use Rattle.rev_num.specs.Arith.{sum_of, difference_of, product_of, quotient_of, remainder_of, negation_of}
use Rattle.rev_code.specs.declared.code.CodeBlock.{CodeBlock}
use Rattle.rev_code.specs.declared.code.Instr.{Instr}
use Rattle.rev_code.specs.declared.code.Instr.TheVariants as i
use Rattle.rev_code.specs.Words.{Word, int, bool, rev}
use Rattle.rev_code.specs.State.{Setting, State, seen_at}
use Rattle.rev_code.specs.Variables.{Place, scalar, array}
use Rattle.rev_code.specs.Step as s
use Rattle.rev_code.specs.Step.{Comes, stuck, act}
use Rattle.block_run.specs.Area.{taken, pushes, IsOperand}
use Rattle.code_soundness.proofs.Basics.{some_within}

-- an instruction with a step found the words that it takes
module _ (c : State ℕ) where
  abbrev Found : ℕ → List (Word ℕ) → Comes ℕ → Type 0
  Found n ws o = o ≢ stuck → n ≤ length ws

  ints : (f : ℤ → ℤ → Result ℤ NumFault) (ws : List (Word ℕ)) → Found 2 ws (s.of_ints f c ws)
  ints f (int y ∷ int x ∷ rest) h = omega arith
  ints f _ h = absurd (h refl)

  one_int : (f : ℤ → Result ℤ NumFault) (ws : List (Word ℕ)) → Found 1 ws (s.of_int f c ws)
  one_int f (int x ∷ rest) h = omega arith
  one_int f _ h = absurd (h refl)

  a_bool : (ws : List (Word ℕ)) → Found 1 ws (s.of_bool c ws)
  a_bool (bool x ∷ rest) h = omega arith
  a_bool _ h = absurd (h refl)

  equals : (turned : Bool → Bool) (ws : List (Word ℕ)) → Found 2 ws (s.equality turned c ws)
  equals turned (int y ∷ int x ∷ rest) h = omega arith
  equals turned (bool y ∷ bool x ∷ rest) h = omega arith
  equals turned _ h = absurd (h refl)

  orders : (f : ℤ → ℤ → Bool) (ws : List (Word ℕ)) → Found 2 ws (s.order f c ws)
  orders f (int y ∷ int x ∷ rest) h = omega arith
  orders f _ h = absurd (h refl)

  stores : (n : ℕ) (o : Option ValueKind) (ws : List (Word ℕ)) → Found 1 ws (s.into_local c n o ws)
  stores n (Some k) (w ∷ rest) h = omega arith
  stores n _ _ h = absurd (h refl)

  scalars : (o : Option Place) (ws : List (Word ℕ)) → Found 1 ws (s.into_scalar c o ws)
  scalars (Some p) (w ∷ rest) h = omega arith
  scalars _ _ h = absurd (h refl)

  cells : (o : Option Place) (ws : List (Word ℕ)) → Found 1 ws (s.from_cell c o ws)
  cells (Some p) (int n ∷ rest) h = omega arith
  cells _ _ h = absurd (h refl)

  into_cells : (o : Option Place) (ws : List (Word ℕ)) → Found 2 ws (s.into_cell c o ws)
  into_cells (Some p) (w ∷ int n ∷ rest) h = omega arith
  into_cells _ _ h = absurd (h refl)

  checks : (o : Option Place) (ws : List (Word ℕ)) → Found 1 ws (s.over_cell c o ws)
  checks (Some p) (int n ∷ rest) h = omega arith
  checks _ _ h = absurd (h refl)

  reads : (inputs : List ℤ) (ws : List (Word ℕ)) → Found 1 ws (s.from_input inputs c ws)
  reads inputs (int n ∷ rest) h = omega arith
  reads inputs _ h = absurd (h refl)

  jumps : (wanted : Bool) (to : ℕ) (ws : List (Word ℕ)) → Found 1 ws (s.jump_if wanted to c ws)
  jumps true to (bool b ∷ rest) h = omega arith
  jumps false to (bool b ∷ rest) h = omega arith
  jumps true to [] h = absurd (h refl)
  jumps true to (int n ∷ rest) h = absurd (h refl)
  jumps true to (rev n ∷ rest) h = absurd (h refl)
  jumps false to [] h = absurd (h refl)
  jumps false to (int n ∷ rest) h = absurd (h refl)
  jumps false to (rev n ∷ rest) h = absurd (h refl)

  asserts : (ws : List (Word ℕ)) → Found 1 ws (s.assert c ws)
  asserts (bool b ∷ rest) h = omega arith
  asserts _ h = absurd (h refl)

  pops : (ws : List (Word ℕ)) → Found 1 ws (s.pop c ws)
  pops (w ∷ rest) h = omega arith
  pops [] h = absurd (h refl)

  nothing_taken : (ws : List (Word ℕ)) → 0 ≤ length ws
  nothing_taken ws = omega arith

  pub found : (t : Setting ℕ) (b : CodeBlock) (x : Instr) → act t b c x ≢ stuck → taken x ≤ length c.stack
  found t b (i.PushInt n) h = nothing_taken c.stack
  found t b (i.PushBool v) h = nothing_taken c.stack
  found t b i.PushNone h = nothing_taken c.stack
  found t b (i.LoadLocal n) h = nothing_taken c.stack
  found t b (i.StoreLocal n) h = stores n (slice_get b.locals n) c.stack h
  found t b (i.LoadShared v) h = nothing_taken c.stack
  found t b (i.StoreShared v) h = scalars (scalar t.code.vars v) c.stack h
  found t b (i.LoadCell v) h = cells (array t.code.vars v) c.stack h
  found t b (i.StoreCell v) h = into_cells (array t.code.vars v) c.stack h
  found t b (i.CheckCell v) h = checks (array t.code.vars v) c.stack h
  found t b i.LoadInput h = reads t.inputs c.stack h
  found t b i.CountInput h = nothing_taken c.stack
  found t b i.Add h = ints sum_of c.stack h
  found t b i.Sub h = ints difference_of c.stack h
  found t b i.Mul h = ints product_of c.stack h
  found t b i.Div h = ints quotient_of c.stack h
  found t b i.Rem h = ints remainder_of c.stack h
  found t b i.Neg h = one_int negation_of c.stack h
  found t b i.Not h = a_bool c.stack h
  found t b i.Eq h = equals (λ same. same) c.stack h
  found t b i.Ne h = equals not c.stack h
  found t b i.Lt h = orders int_lt c.stack h
  found t b i.Le h = orders int_le c.stack h
  found t b i.Gt h = orders (λ x y. int_lt y x) c.stack h
  found t b i.Ge h = orders (λ x y. int_le y x) c.stack h
  found t b (i.Jump to) h = nothing_taken c.stack
  found t b (i.JumpIfFalse to) h = jumps false to c.stack h
  found t b (i.JumpIfTrue to) h = jumps true to c.stack h
  found t b (i.Apply n) h = nothing_taken c.stack
  found t b (i.Charge line) h = nothing_taken c.stack
  found t b (i.Call n) h = nothing_taken c.stack
  found t b (i.Fork n) h = nothing_taken c.stack
  found t b i.Join h = nothing_taken c.stack
  found t b (i.Print n) h = nothing_taken c.stack
  found t b i.Assert h = asserts c.stack h
  found t b i.Return h = nothing_taken c.stack
  found t b i.Pop h = pops c.stack h
  found t b i.TryJoin h = nothing_taken c.stack

  -- ---- and what its operand names

  a_local : (n : ℕ) (o : Option (Word ℕ)) → slice_get c.locals n ≡ o → s.pushes c c.stack o ≢ stuck
      → n < length c.locals
  a_local n None e h = absurd (h refl)
  a_local n (Some w) e h = some_within c.locals n w e

  kept_local : (b : CodeBlock) (n : ℕ) (o : Option ValueKind) → slice_get b.locals n ≡ o
      → s.into_local c n o c.stack ≢ stuck → n < length b.locals
  kept_local b n None e h = absurd (h refl)
  kept_local b n (Some k) e h = some_within b.locals n k e

  from_a_scalar : (o : Option Place) → s.from_scalar c o ≢ stuck → (p : Place) × (o ≡ Some p)
  from_a_scalar None h = absurd (h refl)
  from_a_scalar (Some p) h = (p, refl)

  into_a_scalar : (o : Option Place) → s.into_scalar c o c.stack ≢ stuck → (p : Place) × (o ≡ Some p)
  into_a_scalar None h = absurd (h refl)
  into_a_scalar (Some p) h = (p, refl)

  from_an_array : (o : Option Place) → s.from_cell c o c.stack ≢ stuck → (p : Place) × (o ≡ Some p)
  from_an_array None h = absurd (h refl)
  from_an_array (Some p) h = (p, refl)

  into_an_array : (o : Option Place) → s.into_cell c o c.stack ≢ stuck → (p : Place) × (o ≡ Some p)
  into_an_array None h = absurd (h refl)
  into_an_array (Some p) h = (p, refl)

  over_an_array : (o : Option Place) → s.over_cell c o c.stack ≢ stuck → (p : Place) × (o ≡ Some p)
  over_an_array None h = absurd (h refl)
  over_an_array (Some p) h = (p, refl)

  pub operand : (t : Setting ℕ) (b : CodeBlock) (x : Instr) → length c.locals ≡ length b.locals → act t b c x ≢ stuck
      → IsOperand t.code.vars b x
  operand t b (i.LoadLocal n) same h = let k = a_local n (slice_get c.locals n) refl h in omega (arith, k, same)
  operand t b (i.StoreLocal n) same h = kept_local b n (slice_get b.locals n) refl h
  operand t b (i.LoadShared v) same h = from_a_scalar (scalar t.code.vars v) h
  operand t b (i.StoreShared v) same h = into_a_scalar (scalar t.code.vars v) h
  operand t b (i.LoadCell v) same h = from_an_array (array t.code.vars v) h
  operand t b (i.StoreCell v) same h = into_an_array (array t.code.vars v) h
  operand t b (i.CheckCell v) same h = over_an_array (array t.code.vars v) h
  operand t b (i.PushInt n) same h = tt
  operand t b (i.PushBool v) same h = tt
  operand t b i.PushNone same h = tt
  operand t b i.LoadInput same h = tt
  operand t b i.CountInput same h = tt
  operand t b i.Add same h = tt
  operand t b i.Sub same h = tt
  operand t b i.Mul same h = tt
  operand t b i.Div same h = tt
  operand t b i.Rem same h = tt
  operand t b i.Neg same h = tt
  operand t b i.Not same h = tt
  operand t b i.Eq same h = tt
  operand t b i.Ne same h = tt
  operand t b i.Lt same h = tt
  operand t b i.Le same h = tt
  operand t b i.Gt same h = tt
  operand t b i.Ge same h = tt
  operand t b (i.Jump to) same h = tt
  operand t b (i.JumpIfFalse to) same h = tt
  operand t b (i.JumpIfTrue to) same h = tt
  operand t b (i.Apply n) same h = tt
  operand t b (i.Charge line) same h = tt
  operand t b (i.Call n) same h = tt
  operand t b (i.Fork n) same h = tt
  operand t b i.Join same h = tt
  operand t b (i.Print n) same h = tt
  operand t b i.Assert same h = tt
  operand t b i.Return same h = tt
  operand t b i.Pop same h = tt
  operand t b i.TryJoin same h = tt

  -- ---- a further word of the area is a word of the stack behind it

  pushing : (o : Option (Word ℕ)) → s.pushes c c.stack o ≢ stuck
      → (w : Word ℕ) × (s.pushes c c.stack o ≡ s.on c (w ∷ c.stack))
  pushing None h = absurd (h refl)
  pushing (Some w) h = (w, refl)

  scalar_pushed : (o : Option Place) → s.from_scalar c o ≢ stuck
      → (w : Word ℕ) × (s.from_scalar c o ≡ s.on c (w ∷ c.stack))
  scalar_pushed None h = absurd (h refl)
  scalar_pushed (Some p) h = pushing (seen_at c.locations p.first) h

  pub pushed : (t : Setting ℕ) (b : CodeBlock) (x : Instr) → act t b c x ≢ stuck
      → (pushes x ≡ 0) ⊎ ((w : Word ℕ) × (act t b c x ≡ s.on c (w ∷ c.stack)) × (pushes x ≡ 1))
  pushed t b (i.PushInt n) h = inr (int n, refl, refl)
  pushed t b (i.PushBool v) h = inr (bool v, refl, refl)
  pushed t b i.PushNone h = inr (rev None, refl, refl)
  pushed t b (i.LoadLocal n) h = let q = pushing (slice_get c.locals n) h in inr (q.0, q.1, refl)
  pushed t b (i.LoadShared v) h = let q = scalar_pushed (scalar t.code.vars v) h in inr (q.0, q.1, refl)
  pushed t b i.CountInput h = inr (_, refl, refl)
  pushed t b (i.StoreLocal n) h = inl refl
  pushed t b (i.StoreShared v) h = inl refl
  pushed t b (i.LoadCell v) h = inl refl
  pushed t b (i.StoreCell v) h = inl refl
  pushed t b (i.CheckCell v) h = inl refl
  pushed t b i.LoadInput h = inl refl
  pushed t b i.Add h = inl refl
  pushed t b i.Sub h = inl refl
  pushed t b i.Mul h = inl refl
  pushed t b i.Div h = inl refl
  pushed t b i.Rem h = inl refl
  pushed t b i.Neg h = inl refl
  pushed t b i.Not h = inl refl
  pushed t b i.Eq h = inl refl
  pushed t b i.Ne h = inl refl
  pushed t b i.Lt h = inl refl
  pushed t b i.Le h = inl refl
  pushed t b i.Gt h = inl refl
  pushed t b i.Ge h = inl refl
  pushed t b (i.Jump to) h = inl refl
  pushed t b (i.JumpIfFalse to) h = inl refl
  pushed t b (i.JumpIfTrue to) h = inl refl
  pushed t b (i.Apply n) h = inl refl
  pushed t b (i.Charge line) h = inl refl
  pushed t b (i.Call n) h = inl refl
  pushed t b (i.Fork n) h = inl refl
  pushed t b i.Join h = inl refl
  pushed t b (i.Print n) h = inl refl
  pushed t b i.Assert h = inl refl
  pushed t b i.Return h = inl refl
  pushed t b i.Pop h = inl refl
  pushed t b i.TryJoin h = inl refl
