-- Where an instruction of a block goes on, and that what is yet to do gets less.
use Rattle.std.proofs.Common.{◌≡◌, ℕ, zero, suc, ◌+◌, ◌-◌, ◌*◌, ◌<◌, ◌≤◌, Bool, true, false, not, ℤ, List, [], ◌∷◌, length, Option, Some, None, refl, sym, ap, subst, arith, ◌⊎◌, inl, inr, true≢false}
use Rattle.std.specs.Prelude.{slice_get, if◌then◌else◌, int_lt, int_le, nat_eq, Result, Ok, Err}
use Rattle.rev_num.specs.declared.value.NumFault.{NumFault}
use Rattle.rev_num.specs.Arith.{sum_of, difference_of, product_of, quotient_of, remainder_of, negation_of}
use Rattle.rev_num.specs.Words.{int_of}
use Rattle.rev_code.specs.declared.code.CodeVar.{CodeVar}
use Rattle.rev_code.specs.declared.code.Instr.{Instr}
use Rattle.rev_code.specs.declared.code.Instr.TheVariants as i
use Rattle.rev_code.specs.Variables.{Place, scalar, array, cell_at}
use Rattle.rev_code.specs.Step.{input_at}
use Rattle.code_rules.specs.Pass.{target, is_charge, is_pure}
use Rattle.block_run.specs.Plain as p
use Rattle.block_run.specs.Plain.{Run, Plain, moves, writes, faults, leaves, lacks, plain, flag}
use Rattle.block_run.specs.Standing.{leaves_block, weight, unless}

abbrev pub Goes : Instr → Run → Run → Type 0
Goes x q q' = ((q'.at ≡ suc q.at) ⊎ (target x ≡ Some q'.at)) × (q'.fuel + flag (is_charge (Some x)) ≡ q.fuel)

abbrev pub Leads : Instr → Run → Plain → Type 0
Leads x q (moves q') = Goes x q q'
Leads x q (writes q' l w) = Goes x q q' × (is_pure x ≡ false)
Leads x q (faults q' e) = Unit {0}
Leads x q lacks = Unit {0}
Leads x q leaves = ⊥

module _ (x : Instr) (q : Run) (unpaid : q.fuel + flag (is_charge (Some x)) ≡ q.fuel) where
  abbrev L : Plain → Type 0
  L o = Leads x q o

  on_leads : (ws : List ℕ) → L (p.on q ws)
  on_leads ws = (inl refl, unpaid)

  number_leads : (ws : List ℕ) (v : Result ℤ NumFault) → L (p.number q ws v)
  number_leads ws (Ok z) = (inl refl, unpaid)
  number_leads ws (Err f) = tt

  ints_lead : (f : ℤ → ℤ → Result ℤ NumFault) (ws : List ℕ) → L (p.of_ints f q ws)
  ints_lead f (v ∷ u ∷ ws) = number_leads ws (f (int_of u) (int_of v))
  ints_lead f (v ∷ []) = tt
  ints_lead f [] = tt

  int_leads : (f : ℤ → Result ℤ NumFault) (ws : List ℕ) → L (p.of_int f q ws)
  int_leads f (u ∷ ws) = number_leads ws (f (int_of u))
  int_leads f [] = tt

  bool_leads : (ws : List ℕ) → L (p.of_bool q ws)
  bool_leads (v ∷ ws) = (inl refl, unpaid)
  bool_leads [] = tt

  equality_leads : (turned : Bool → Bool) (ws : List ℕ) → L (p.equality turned q ws)
  equality_leads turned (v ∷ u ∷ ws) = (inl refl, unpaid)
  equality_leads turned (v ∷ []) = tt
  equality_leads turned [] = tt

  order_leads : (f : ℤ → ℤ → Bool) (ws : List ℕ) → L (p.order f q ws)
  order_leads f (v ∷ u ∷ ws) = (inl refl, unpaid)
  order_leads f (v ∷ []) = tt
  order_leads f [] = tt

  push_leads : (ws : List ℕ) (o : Option ℕ) → L (p.pushes q ws o)
  push_leads ws None = tt
  push_leads ws (Some w) = (inl refl, unpaid)

  store_leads : (n : ℕ) (ws : List ℕ) → L (p.into_local q n ws)
  store_leads n (w ∷ ws) = (inl refl, unpaid)
  store_leads n [] = tt

  from_scalar_leads : (read : ℕ → ℕ) (o : Option Place) → L (p.from_scalar read q o)
  from_scalar_leads read None = tt
  from_scalar_leads read (Some d) = (inl refl, unpaid)

  into_scalar_leads : is_pure x ≡ false → (o : Option Place) (ws : List ℕ) → L (p.into_scalar q o ws)
  into_scalar_leads i (Some d) (w ∷ ws) = ((inl refl, unpaid), i)
  into_scalar_leads i (Some d) [] = tt
  into_scalar_leads i None ws = tt

  read_leads : (read : ℕ → ℕ) (ws : List ℕ) (o : Option ℕ) → L (p.read_cell read q ws o)
  read_leads read ws None = tt
  read_leads read ws (Some l) = (inl refl, unpaid)

  from_cell_leads : (read : ℕ → ℕ) (o : Option Place) (ws : List ℕ) → L (p.from_cell read q o ws)
  from_cell_leads read (Some d) (w ∷ ws) = read_leads read ws (cell_at d (int_of w))
  from_cell_leads read (Some d) [] = tt
  from_cell_leads read None ws = tt

  write_leads : is_pure x ≡ false → (ws : List ℕ) (w : ℕ) (o : Option ℕ) → L (p.write_cell q ws w o)
  write_leads i ws w None = tt
  write_leads i ws w (Some l) = ((inl refl, unpaid), i)

  into_cell_leads : is_pure x ≡ false → (o : Option Place) (ws : List ℕ) → L (p.into_cell q o ws)
  into_cell_leads i (Some d) (w ∷ n ∷ ws) = write_leads i ws w (cell_at d (int_of n))
  into_cell_leads i (Some d) (w ∷ []) = tt
  into_cell_leads i (Some d) [] = tt
  into_cell_leads i None ws = tt

  test_leads : (o : Option ℕ) → L (p.test_cell q o)
  test_leads None = tt
  test_leads (Some l) = (inl refl, unpaid)

  over_cell_leads : (o : Option Place) (ws : List ℕ) → L (p.over_cell q o ws)
  over_cell_leads (Some d) (w ∷ ws) = test_leads (cell_at d (int_of w))
  over_cell_leads (Some d) [] = tt
  over_cell_leads None ws = tt

  input_leads : (ws : List ℕ) (o : Option ℤ) → L (p.read_input q ws o)
  input_leads ws None = tt
  input_leads ws (Some z) = (inl refl, unpaid)

  from_input_leads : (inputs : List ℤ) (ws : List ℕ) → L (p.from_input inputs q ws)
  from_input_leads inputs (w ∷ ws) = input_leads ws (input_at inputs (int_of w))
  from_input_leads inputs [] = tt

  either : (d : Bool) (u v : ℕ) → ((u ≡ suc q.at) ⊎ (target x ≡ Some u)) → ((v ≡ suc q.at) ⊎ (target x ≡ Some v))
      → (((if d then u else v) ≡ suc q.at) ⊎ (target x ≡ Some (if d then u else v)))
  either true u v g h = g
  either false u v g h = h

  jump_leads : (wanted : Bool) (to : ℕ) → target x ≡ Some to → (ws : List ℕ) → L (p.jump_if wanted to q ws)
  jump_leads true to e (w ∷ ws) = (either (nat_eq w 0) (suc q.at) to (inl refl) (inr e), unpaid)
  jump_leads false to e (w ∷ ws) = (either (nat_eq w 0) to (suc q.at) (inr e) (inl refl), unpaid)
  jump_leads true to e [] = tt
  jump_leads false to e [] = tt

  assert_if : (d : Bool) (ws : List ℕ) (e : Rattle.rev_num.specs.declared.outcome.Cause.Cause)
      → L (if d then faults q e else p.on q ws)
  assert_if true ws e = tt
  assert_if false ws e = on_leads ws

  assert_leads : (ws : List ℕ) → L (p.assert q ws)
  assert_leads (w ∷ ws) = assert_if (nat_eq w 0) ws _
  assert_leads [] = tt

  pop_leads : (ws : List ℕ) → L (p.pop q ws)
  pop_leads (w ∷ ws) = on_leads ws
  pop_leads [] = tt

charge_leads : (line : ℕ) (q : Run) (fuel : ℕ) → q.fuel ≡ fuel → Leads (i.Charge line) q (p.charge q line fuel)
charge_leads line q zero e = tt
charge_leads line q (suc f) e = (inl refl, omega (arith, e))

same_fuel : (n : ℕ) → n + 0 ≡ n
same_fuel n = omega arith

no_leaving : true ≡ false → ⊥
no_leaving h = true≢false h

pub leads : (vars : List CodeVar) (inputs : List ℤ) (read : ℕ → ℕ) (q : Run) (x : Instr) → leaves_block x ≡ false
    → Leads x q (plain vars inputs read q x)
leads vars inputs read q (i.PushInt n) h = (inl refl, same_fuel q.fuel)
leads vars inputs read q (i.PushBool v) h = (inl refl, same_fuel q.fuel)
leads vars inputs read q i.PushNone h = (inl refl, same_fuel q.fuel)
leads vars inputs read q (i.LoadLocal n) h =
    push_leads (i.LoadLocal n) q (same_fuel q.fuel) q.stack (slice_get q.locals n)
leads vars inputs read q (i.StoreLocal n) h = store_leads (i.StoreLocal n) q (same_fuel q.fuel) n q.stack
leads vars inputs read q (i.LoadShared v) h =
    from_scalar_leads (i.LoadShared v) q (same_fuel q.fuel) read (scalar vars v)
leads vars inputs read q (i.StoreShared v) h =
    into_scalar_leads (i.StoreShared v) q (same_fuel q.fuel) refl (scalar vars v) q.stack
leads vars inputs read q (i.LoadCell v) h =
    from_cell_leads (i.LoadCell v) q (same_fuel q.fuel) read (array vars v) q.stack
leads vars inputs read q (i.StoreCell v) h =
    into_cell_leads (i.StoreCell v) q (same_fuel q.fuel) refl (array vars v) q.stack
leads vars inputs read q (i.CheckCell v) h = over_cell_leads (i.CheckCell v) q (same_fuel q.fuel) (array vars v) q.stack
leads vars inputs read q i.LoadInput h = from_input_leads i.LoadInput q (same_fuel q.fuel) inputs q.stack
leads vars inputs read q i.CountInput h = (inl refl, same_fuel q.fuel)
leads vars inputs read q i.Add h = ints_lead i.Add q (same_fuel q.fuel) sum_of q.stack
leads vars inputs read q i.Sub h = ints_lead i.Sub q (same_fuel q.fuel) difference_of q.stack
leads vars inputs read q i.Mul h = ints_lead i.Mul q (same_fuel q.fuel) product_of q.stack
leads vars inputs read q i.Div h = ints_lead i.Div q (same_fuel q.fuel) quotient_of q.stack
leads vars inputs read q i.Rem h = ints_lead i.Rem q (same_fuel q.fuel) remainder_of q.stack
leads vars inputs read q i.Neg h = int_leads i.Neg q (same_fuel q.fuel) negation_of q.stack
leads vars inputs read q i.Not h = bool_leads i.Not q (same_fuel q.fuel) q.stack
leads vars inputs read q i.Eq h = equality_leads i.Eq q (same_fuel q.fuel) (λ same. same) q.stack
leads vars inputs read q i.Ne h = equality_leads i.Ne q (same_fuel q.fuel) not q.stack
leads vars inputs read q i.Lt h = order_leads i.Lt q (same_fuel q.fuel) int_lt q.stack
leads vars inputs read q i.Le h = order_leads i.Le q (same_fuel q.fuel) int_le q.stack
leads vars inputs read q i.Gt h = order_leads i.Gt q (same_fuel q.fuel) (λ x y. int_lt y x) q.stack
leads vars inputs read q i.Ge h = order_leads i.Ge q (same_fuel q.fuel) (λ x y. int_le y x) q.stack
leads vars inputs read q (i.Jump to) h = (inr refl, (same_fuel q.fuel))
leads vars inputs read q (i.JumpIfFalse to) h = jump_leads (i.JumpIfFalse to) q (same_fuel q.fuel) false to refl q.stack
leads vars inputs read q (i.JumpIfTrue to) h = jump_leads (i.JumpIfTrue to) q (same_fuel q.fuel) true to refl q.stack
leads vars inputs read q (i.Charge line) h = charge_leads line q q.fuel refl
leads vars inputs read q i.Assert h = assert_leads i.Assert q (same_fuel q.fuel) q.stack
leads vars inputs read q i.Pop h = pop_leads i.Pop q (same_fuel q.fuel) q.stack
leads vars inputs read q (i.Apply n) h = absurd (no_leaving h)
leads vars inputs read q (i.Call n) h = absurd (no_leaving h)
leads vars inputs read q (i.Fork n) h = absurd (no_leaving h)
leads vars inputs read q i.Join h = absurd (no_leaving h)
leads vars inputs read q (i.Print n) h = absurd (no_leaving h)
leads vars inputs read q i.Return h = absurd (no_leaving h)
leads vars inputs read q i.TryJoin h = absurd (no_leaving h)

-- ---- what is yet to do

-- it goes on inside, and backward only to a Charge
pub record IsWay (xs : List Instr) (at at' : ℕ) : Type 0 where
  pub inside : at' < length xs
  pub back : (at < at') ⊎ (is_charge (slice_get xs at') ≡ true)

at_most : (d : Bool) (n : ℕ) → unless d n ≤ n
at_most true n = omega arith
at_most false n = omega arith

once_more : (f m : ℕ) → suc f * m ≡ f * m + m
once_more f m = omega arith

paid_less : (xs : List Instr) (at fuel fuel' : ℕ) → fuel' + 1 ≡ fuel → at < length xs
    → weight xs (suc at) fuel' < fuel * (2 * length xs + 2) + (length xs - at) + 0
paid_less xs at fuel fuel' e h =
    let m = 2 * length xs + 2 in
    let g : suc fuel' ≡ fuel = omega (arith, e) in
    let k : fuel * m ≡ fuel' * m + m = subst (λ f. f * m ≡ fuel' * m + m) g (once_more fuel' m) in
    let l = at_most (is_charge (slice_get xs (suc at))) (length xs + 1) in
    let total : fuel' * m + (length xs - suc at) + unless (is_charge (slice_get xs (suc at))) (length xs + 1)
    < fuel' * m + m + (length xs - at) = omega (arith, l, h) in
    omega (arith, total, k)

on_less : (xs : List Instr) (at at' fuel : ℕ) → at < length xs → IsWay xs at at'
    → weight xs at' fuel < fuel * (2 * length xs + 2) + (length xs - at) + (length xs + 1)
on_less xs at at' fuel h w = elim w.back [
  | inl l ↦ (let k = at_most (is_charge (slice_get xs at')) (length xs + 1) in
      let n = w.inside in
      omega (arith, k, l, n, h))
  | inr c ↦ (let k : unless (is_charge (slice_get xs at')) (length xs + 1) ≡ 0 = ap (λ d. unless d (length xs + 1)) c in
      omega (arith, k, h))
]

pub less : (xs : List Instr) (at at' fuel fuel' : ℕ) (x : Instr) → slice_get xs at ≡ Some x → at < length xs
    → fuel' + flag (is_charge (Some x)) ≡ fuel
    → (is_charge (Some x) ≡ true → at' ≡ suc at) → IsWay xs at at' → weight xs at' fuel' < weight xs at fuel
less xs at at' fuel fuel' x e h f charged w =
    subst
    (λ o. weight xs at' fuel' < fuel * (2 * length xs + 2) + (length xs - at) + unless (is_charge o) (length xs + 1))
    (sym e) (by (is_charge (Some x)) f charged)
  where
    by : (d : Bool) → fuel' + flag d ≡ fuel → (d ≡ true → at' ≡ suc at)
        → weight xs at' fuel' < fuel * (2 * length xs + 2) + (length xs - at) + unless d (length xs + 1)
    by true f g =
        subst (λ a. weight xs a fuel' < fuel * (2 * length xs + 2) + (length xs - at) + 0) (sym (g refl))
        (paid_less xs at fuel fuel' f h)
    by false f g =
        (let s : fuel ≡ fuel' = omega (arith, f) in
        subst (λ z. weight xs at' z < fuel * (2 * length xs + 2) + (length xs - at) + (length xs + 1)) s
        (on_less xs at at' fuel h w))
