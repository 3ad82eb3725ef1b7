-- Every instruction at a typed state, and so every step.
use Rattle.std.proofs.Common.{◌≡◌, ◌∙◌, ℕ, suc, true, false, not, ◌&&◌, List, [], ◌∷◌, Some, None, refl, sym, ap, subst}
use Rattle.std.specs.Prelude.{slice_get, slice_set, nat_lt, int_lt, int_le}
use Rattle.std.proofs.Common.{arith, length, pos}
use Rattle.std.proofs.lemmas.Bool.Decides.{nat_tests}
use Rattle.rev_num.specs.declared.value.ValueKind.{ValueKind}
use Rattle.rev_num.specs.declared.value.ValueKind.TheVariants as k
use Rattle.rev_num.specs.Arith.{sum_of, difference_of, product_of, quotient_of, remainder_of, negation_of}
use Rattle.rev_code.specs.declared.code.CodeBlock.{CodeBlock}
use Rattle.rev_code.specs.declared.code.CodeVar.{CodeVar}
use Rattle.rev_code.specs.declared.code.Instr.{Instr}
use Rattle.rev_code.specs.declared.code.Instr.TheVariants as i
use Rattle.rev_code.specs.Words.{Word, int, bool, rev}
use Rattle.rev_code.specs.State.{Setting, State, written_at}
use Rattle.rev_code.specs.Variables.{scalar, array}
use Rattle.rev_code.specs.Step as r
use Rattle.rev_code.specs.Step.{act, is_fun}
use Rattle.code_rules.specs.Shapes.{begins, kind_or_int, kind_or_any, var_kind}
use Rattle.code_rules.specs.Pass.{Note, falls, has_class, is_value_class}
use Rattle.code_rules.specs.Tables.{is_var, blocks_well, lines_well}
use Rattle.code_soundness.specs.Typed.{kinds_of, location_kinds}
use Rattle.code_soundness.specs.AcceptedCode.{IsAccepted}
use Rattle.code_soundness.proofs.Lists.{and_parts, not_false, all_at, within_some, kinds_set, word_at}
use Rattle.code_soundness.proofs.Variables.{IsScalarAt, IsArrayAt, scalar_at, array_at, seen_there, written_there}
use Rattle.code_soundness.proofs.Well.{Stands, Well, GoesWell, Known}
use Rattle.code_soundness.proofs.Cases as case
use Rattle.code_soundness.proofs.Places as place
use Rattle.code_soundness.proofs.Frames as frame

module _ {H : Type 0} (s : Setting H) (notes : ℕ → ℕ → Note) (ok : IsAccepted s.code notes) (c : State H)
    (b : CodeBlock) (known : Known s notes c.block) where
  abbrev S : Instr → Type 0
  S x = Stands s notes c b x

  found : (x : Instr) (a : S x)
      → begins (Rattle.code_rules.specs.Shapes.takes s.code b (kinds_of c.stack) x) (kinds_of c.stack) ≡ true
  found x a = place.found s notes ok c b x a

  named : (x : Instr) (a : S x) → Rattle.code_rules.specs.Pass.names s.code c.block x ≡ true
  named x a = place.named s notes ok c b x a

  impure : (x : Instr) (a : S x) → Rattle.code_rules.specs.Pass.is_pure x ≡ false → is_value_class b.class ≡ false
  impure x a e = place.impure s notes ok c b x a e

  next : (x : Instr) (a : S x) → falls x ≡ true → (stack : List (Word H))
      → kinds_of stack ≡ Rattle.code_rules.specs.Shapes.shape_after s.code b (kinds_of c.stack) x
      → GoesWell s notes c b (record c { at = suc c.at; stack = stack })
  next x a f = place.next s notes ok c b x a f

  well_vars : (v : ℕ) (u : CodeVar) → slice_get s.code.vars v ≡ Some u → is_var s.code u ≡ true
  well_vars v u e =
      let p = and_parts (blocks_well s.code && Rattle.std.specs.List.list_all (is_var s.code) s.code.vars)
      (lines_well s.code) ok.named in
      all_at (is_var s.code) s.code.vars v u
      (and_parts (blocks_well s.code) (Rattle.std.specs.List.list_all (is_var s.code) s.code.vars) p.0).1 e

  the_scalar : (v : ℕ) → Rattle.code_rules.specs.Pass.is_scalar (slice_get s.code.vars v) ≡ true
      → IsScalarAt s.code.vars v
  the_scalar v h = scalar_at s.code s.code.vars v (well_vars v) h

  the_array : (v : ℕ) → Rattle.code_rules.specs.Pass.is_array (slice_get s.code.vars v) ≡ true → IsArrayAt s.code.vars v
  the_array v h = array_at s.code s.code.vars v h

  -- ---- locals

  local_there : (n : ℕ) → Rattle.code_rules.specs.Pass.bad_local b (i.LoadLocal n) ≡ false
      → (x : ValueKind) × (slice_get b.locals n ≡ Some x)
  local_there n h =
      within_some b.locals n (let e = not_false (nat_lt n (length b.locals)) h in grind (arith, nat_tests, e))

  load_local : (n : ℕ) (a : S (i.LoadLocal n)) → Well s notes c b (r.pushes c c.stack (slice_get c.locals n))
  load_local n a =
      let x = local_there n ((ok.certified c.block b a.is).each c.at (i.LoadLocal n) a.here).local in
      let w = word_at c.locals n b.locals x.0 a.locals x.1 in
      case.push_case s notes c b c.stack (slice_get c.locals n) w.0 w.1
      (next (i.LoadLocal n) a refl (w.0 ∷ c.stack) (ap (λ z. z ∷ kinds_of c.stack) (w.2 ∙ ap kind_or_int (sym x.1))))

  store_local : (n : ℕ) (a : S (i.StoreLocal n)) → Well s notes c b (r.into_local c n (slice_get b.locals n) c.stack)
  store_local n a =
      let x = local_there n ((ok.certified c.block b a.is).each c.at (i.StoreLocal n) a.here).local in
      subst (λ o. Well s notes c b (r.into_local c n o c.stack)) (sym x.1)
      (case.local_case s notes c b n x.0 c.stack
      (subst (λ o. begins (kind_or_any o (kinds_of c.stack) ∷ []) (kinds_of c.stack) ≡ true) x.1
      (found (i.StoreLocal n) a))
      (λ w rest e h.
      place.onto s notes ok c b (i.StoreLocal n) a refl (slice_set c.locals n w) rest c.locations c.fuel c.forks
      c.listed c.text c.line
      (kinds_set c.locals n w b.locals a.locals (x.1 ∙ ap Some (sym e))) h (λ p. (a.program p).locations)))

  -- ---- locations

  load_shared : (v : ℕ) (a : S (i.LoadShared v)) → Well s notes c b (r.from_scalar c (scalar s.code.vars v))
  load_shared v a =
      let q = the_scalar v (named (i.LoadShared v) a) in
      let p = impure (i.LoadShared v) a refl in
      let w = seen_there (location_kinds s.code.vars) c.locations q.first q.var.kind (a.program p).locations q.kind in
      subst (λ o. Well s notes c b (r.from_scalar c o)) (sym q.is)
      (case.push_case s notes c b c.stack _ w.0 w.1
      (next (i.LoadShared v) a refl (w.0 ∷ c.stack)
      (ap (λ z. z ∷ kinds_of c.stack) (w.2 ∙ ap var_kind (sym q.is_var)))))

  store_shared : (v : ℕ) (a : S (i.StoreShared v)) → Well s notes c b (r.into_scalar c (scalar s.code.vars v) c.stack)
  store_shared v a =
      let q = the_scalar v (named (i.StoreShared v) a) in
      let p = impure (i.StoreShared v) a refl in
      subst (λ o. Well s notes c b (r.into_scalar c o c.stack)) (sym q.is)
      (case.into_scalar_case s notes c b (record { var = q.var; first = q.first }) c.stack
      (subst (λ o. begins (var_kind o ∷ []) (kinds_of c.stack) ≡ true) q.is_var (found (i.StoreShared v) a))
      (λ w rest e h.
      place.onto s notes ok c b (i.StoreShared v) a refl c.locals rest (written_at c.locations q.first w) c.fuel c.forks
      c.listed c.text c.line a.locals h
      (λ p. written_there (location_kinds s.code.vars) c.locations q.first w (a.program p).locations
      (q.kind ∙ ap Some (sym e)))))

  load_cell : (v : ℕ) (a : S (i.LoadCell v)) → Well s notes c b (r.from_cell c (array s.code.vars v) c.stack)
  load_cell v a =
      let q = the_array v (named (i.LoadCell v) a) in
      let p = impure (i.LoadCell v) a refl in
      subst (λ o. Well s notes c b (r.from_cell c o c.stack)) (sym q.is)
      (case.from_cell_case s notes c b p q.place c.stack (found (i.LoadCell v) a)
      (λ n rest l is h.
      let w = seen_there (location_kinds s.code.vars) c.locations l q.var.kind (a.program p).locations
      (q.kind n l is) in
      (w.0, w.1, next (i.LoadCell v) a refl (w.0 ∷ rest) (let e = w.2 ∙ ap var_kind (sym q.is_var) in λ j. e j ∷ h j))))

  store_cell : (v : ℕ) (a : S (i.StoreCell v)) → Well s notes c b (r.into_cell c (array s.code.vars v) c.stack)
  store_cell v a =
      let q = the_array v (named (i.StoreCell v) a) in
      let p = impure (i.StoreCell v) a refl in
      subst (λ o. Well s notes c b (r.into_cell c o c.stack)) (sym q.is)
      (case.into_cell_case s notes c b p q.place c.stack
      (subst (λ z. begins (z ∷ k.Int ∷ []) (kinds_of c.stack) ≡ true)
      (ap var_kind q.is_var ∙ ap (λ u. u.kind) (sym q.same)) (found (i.StoreCell v) a))
      (λ n l is w rest e h.
      place.onto s notes ok c b (i.StoreCell v) a refl c.locals rest (written_at c.locations l w) c.fuel c.forks
      c.listed c.text c.line a.locals h
      (λ p. written_there (location_kinds s.code.vars) c.locations l w (a.program p).locations
      (q.kind n l is ∙ ap (λ u. Some u.kind) (sym q.same) ∙ ap Some (sym e)))))

  check_cell : (v : ℕ) (a : S (i.CheckCell v)) → Well s notes c b (r.over_cell c (array s.code.vars v) c.stack)
  check_cell v a =
      let q = the_array v (named (i.CheckCell v) a) in
      let p = impure (i.CheckCell v) a refl in
      subst (λ o. Well s notes c b (r.over_cell c o c.stack)) (sym q.is)
      (case.over_cell_case s notes c b p q.place c.stack (found (i.CheckCell v) a)
      (λ e. next (i.CheckCell v) a refl c.stack (sym e)))

  -- ---- Apply

  apply_fun : (n : ℕ) (a : S (i.Apply n))
      → Well s notes c b (r.apply c (r.only is_fun (slice_get s.code.blocks n)) (slice_get s.funs n))
  apply_fun n a =
      let p = and_parts (nat_lt n c.block) (has_class is_fun (slice_get s.code.blocks n)) (named (i.Apply n) a) in
      let e = p.0 in
      case.apply_case s notes c b (slice_get s.code.blocks n) (slice_get s.funs n) p.1 (found (i.Apply n) a)
      (λ y is value args same. known n y (grind (arith, nat_tests, e)) is value args same)
      (next (i.Apply n) a refl)

  -- ---- the table

  acts : (x : Instr) → S x → Well s notes c b (act s b c x)
  acts (i.PushInt n) a = next (i.PushInt n) a refl (int n ∷ c.stack) refl
  acts (i.PushBool v) a = next (i.PushBool v) a refl (bool v ∷ c.stack) refl
  acts i.PushNone a = next i.PushNone a refl (rev None ∷ c.stack) refl
  acts (i.LoadLocal n) a = load_local n a
  acts (i.StoreLocal n) a = store_local n a
  acts (i.LoadShared v) a = load_shared v a
  acts (i.StoreShared v) a = store_shared v a
  acts (i.LoadCell v) a = load_cell v a
  acts (i.StoreCell v) a = store_cell v a
  acts (i.CheckCell v) a = check_cell v a
  acts i.LoadInput a =
      case.from_input_case s notes c b (impure i.LoadInput a refl) s.inputs c.stack (found i.LoadInput a)
      (next i.LoadInput a refl)
  acts i.CountInput a = next i.CountInput a refl (int (pos (length s.inputs)) ∷ c.stack) refl
  acts i.Add a = case.ints_case s notes c b sum_of c.stack (found i.Add a) (next i.Add a refl)
  acts i.Sub a = case.ints_case s notes c b difference_of c.stack (found i.Sub a) (next i.Sub a refl)
  acts i.Mul a = case.ints_case s notes c b product_of c.stack (found i.Mul a) (next i.Mul a refl)
  acts i.Div a = case.ints_case s notes c b quotient_of c.stack (found i.Div a) (next i.Div a refl)
  acts i.Rem a = case.ints_case s notes c b remainder_of c.stack (found i.Rem a) (next i.Rem a refl)
  acts i.Neg a = case.int_case s notes c b negation_of c.stack (found i.Neg a) (next i.Neg a refl)
  acts i.Not a = case.not_case s notes c b c.stack (found i.Not a) (next i.Not a refl)
  acts i.Eq a = case.equality_case s notes c b (λ same. same) c.stack (found i.Eq a) (next i.Eq a refl)
  acts i.Ne a = case.equality_case s notes c b not c.stack (found i.Ne a) (next i.Ne a refl)
  acts i.Lt a = case.order_case s notes c b int_lt c.stack (found i.Lt a) (next i.Lt a refl)
  acts i.Le a = case.order_case s notes c b int_le c.stack (found i.Le a) (next i.Le a refl)
  acts i.Gt a = case.order_case s notes c b (λ x y. int_lt y x) c.stack (found i.Gt a) (next i.Gt a refl)
  acts i.Ge a = case.order_case s notes c b (λ x y. int_le y x) c.stack (found i.Ge a) (next i.Ge a refl)
  acts (i.Jump to) a = place.leap s notes ok c b (i.Jump to) a to refl c.stack refl
  acts (i.JumpIfFalse to) a =
      case.jump_case s notes c b false to c.stack (found (i.JumpIfFalse to) a) (next (i.JumpIfFalse to) a refl)
      (place.leap s notes ok c b (i.JumpIfFalse to) a to refl)
  acts (i.JumpIfTrue to) a =
      case.jump_case s notes c b true to c.stack (found (i.JumpIfTrue to) a) (next (i.JumpIfTrue to) a refl)
      (place.leap s notes ok c b (i.JumpIfTrue to) a to refl)
  acts (i.Apply n) a = apply_fun n a
  acts (i.Charge line) a =
      case.charge_case s notes c b (impure (i.Charge line) a refl) line c.fuel
      (λ f. place.onto s notes ok c b (i.Charge line) a refl c.locals c.stack c.locations f c.forks c.listed c.text line
      a.locals refl (λ p. (a.program p).locations))
  acts (i.Call n) a = frame.call_case s notes ok c b n a
  acts (i.Fork n) a = frame.fork_case s notes ok c b n a
  acts i.Join a =
      frame.join_case s notes ok c b (impure i.Join a refl) false c.stack (found i.Join a)
      (frame.joins_plain s notes ok c b a)
  acts (i.Print n) a =
      case.print_case s notes c b s.code.texts (slice_get s.code.layouts n) (named (i.Print n) a) (found (i.Print n) a)
      (λ stack text h.
      place.onto s notes ok c b (i.Print n) a refl c.locals stack c.locations c.fuel c.forks c.listed text c.line
      a.locals h (λ p. (a.program p).locations))
  acts i.Assert a =
      case.assert_case s notes c b (impure i.Assert a refl) c.stack (found i.Assert a) (next i.Assert a refl)
  acts i.Return a = frame.return_case s notes ok c b a
  acts i.Pop a = case.pop_case s notes c b c.stack (found i.Pop a) (next i.Pop a refl)
  acts i.TryJoin a =
      frame.join_case s notes ok c b (impure i.TryJoin a refl) true c.stack (found i.TryJoin a)
      (frame.joins_try s notes ok c b a)

  pub step_well : (x : Instr) → S x → Well s notes c b (r.step s c)
  step_well x a =
      subst (λ o. Well s notes c b (r.act_in s c o)) (sym a.is)
      (subst (λ o. Well s notes c b (r.act_at s b c o)) (sym a.here) (acts x a))
