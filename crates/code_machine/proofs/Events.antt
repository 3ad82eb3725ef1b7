-- An event has the state in which its instruction began; a trap may have another line, and is never a merge's.
use Rattle.std.proofs.Common.{◌≡◌, ◌∙◌, ℕ, zero, suc, Bool, true, false, cond, not, ℤ, List, [], ◌∷◌, ◌++◌, length, Option, Some, None, Result, Ok, Err, refl, sym, ap}
use Rattle.std.specs.Prelude.{slice_get, slice_set, nat_lt, int_lt, int_le}
use Rattle.rev_num.specs.declared.value.ValueKind.{ValueKind}
use Rattle.rev_num.specs.declared.value.NumFault.{NumFault}
use Rattle.rev_num.specs.declared.outcome.Cause.{Cause}
use Rattle.rev_num.specs.declared.outcome.Cause.TheVariants as cause
use Rattle.rev_num.specs.declared.value.NumFault.TheVariants as fault
use Rattle.rev_num.specs.Arith.{sum_of, difference_of, product_of, quotient_of, remainder_of, negation_of}
use Rattle.rev_num.specs.Value.{same_kind}
use Rattle.rev_code.specs.declared.code.CodeBlock.{CodeBlock}
use Rattle.rev_code.specs.declared.code.LayoutItem.{LayoutItem}
use Rattle.rev_code.specs.declared.code.Instr.{Instr}
use Rattle.rev_code.specs.declared.code.Instr.TheVariants as i
use Rattle.rev_code.specs.Words.{Word, int, bool, rev, kind_of}
use Rattle.rev_code.specs.State.{State, Frame, Fun, Setting, seen_at}
use Rattle.rev_code.specs.Variables.{Place, scalar, array, cell_at}
use Rattle.rev_code.specs.Printing.{printed_kinds}
use Rattle.rev_code.specs.Step as r
use Rattle.rev_code.specs.Step.{Comes, goes, traps, forks, joins, ends, stuck, act, act_at, act_in, step, only, is_fun, is_procedure, onward, reach}
use Rattle.rev_code.specs.declared.code.Code.{Code}
use Rattle.rev_code.specs.Funs as funs
use Rattle.version_map.specs.Endings.{of_merge}
use Rattle.code_machine.specs.Local.{CodeRun, under}
use Rattle.code_machine.specs.Leg.{leg, clock}

abbrev pub IsAt : {H : Type 0} → State H → Comes H → Type 0
IsAt c (goes c') = Unit {0}
IsAt c (traps c' e) = (c' ≡ record c { line = c'.line }) × (of_merge e ≡ false)
IsAt c (forks c' n args) = c' ≡ c
IsAt c (joins c' try h) = c' ≡ c
IsAt c (ends c' w) = c' ≡ c
IsAt c stuck = Unit {0}

-- the fun never faults as a merge of a join does
abbrev Own : {H : Type 0} → Option (Fun H) → Type 0
Own {H} x = (args : List (Word H)) (e : Cause) → r.value_at x args ≡ Some (Err e) → of_merge e ≡ false

fault_own : (f : NumFault) → of_merge (r.cause_of f) ≡ false
fault_own fault.Overflow = refl
fault_own fault.ZeroDivisor = refl

module _ {H : Type 0} (s : Setting H) (own : (n : ℕ) → Own (slice_get s.funs n)) (c : State H) where
  abbrev Up : Comes H → Type 0
  Up o = IsAt c o

  e_if : (d : Bool) (x y : Comes H) → Up x → Up y → Up (cond d x y)
  e_if true x y h k = h
  e_if false x y h k = k

  e_number : (rest : List (Word H)) (v : Result ℤ NumFault) → Up (r.number c rest v)
  e_number rest (Ok z) = tt
  e_number rest (Err f) = (refl, fault_own f)

  e_ints : (f : ℤ → ℤ → Result ℤ NumFault) (ws : List (Word H)) → Up (r.of_ints f c ws)
  e_ints f (int y ∷ int x ∷ rest) = e_number rest (f x y)
  e_ints f _ = tt

  e_int : (f : ℤ → Result ℤ NumFault) (ws : List (Word H)) → Up (r.of_int f c ws)
  e_int f (int y ∷ rest) = e_number rest (f y)
  e_int f _ = tt

  e_not : (ws : List (Word H)) → Up (r.of_bool c ws)
  e_not (bool y ∷ rest) = tt
  e_not _ = tt

  e_equality : (t : Bool → Bool) (ws : List (Word H)) → Up (r.equality t c ws)
  e_equality t (int y ∷ int x ∷ rest) = tt
  e_equality t (bool y ∷ bool x ∷ rest) = tt
  e_equality t _ = tt

  e_order : (f : ℤ → ℤ → Bool) (ws : List (Word H)) → Up (r.order f c ws)
  e_order f (int y ∷ int x ∷ rest) = tt
  e_order f _ = tt

  e_pushes : (rest : List (Word H)) (o : Option (Word H)) → Up (r.pushes c rest o)
  e_pushes rest None = tt
  e_pushes rest (Some w) = tt

  e_local : (n : ℕ) (o : Option ValueKind) (ws : List (Word H)) → Up (r.into_local c n o ws)
  e_local n (Some k) (w ∷ rest) =
      e_if (same_kind k (kind_of w)) (goes (record c { at = suc c.at; stack = rest; locals = slice_set c.locals n w }))
      stuck tt tt
  e_local n (Some k) [] = tt
  e_local n None ws = tt

  e_from_scalar : (o : Option Place) → Up (r.from_scalar c o)
  e_from_scalar None = tt
  e_from_scalar (Some q) = e_pushes c.stack (seen_at c.locations q.first)

  e_into_scalar : (o : Option Place) (ws : List (Word H)) → Up (r.into_scalar c o ws)
  e_into_scalar (Some q) (w ∷ rest) =
      e_if (same_kind q.var.kind (kind_of w)) (r.after_write c rest q.first w) stuck tt tt
  e_into_scalar (Some q) [] = tt
  e_into_scalar None ws = tt

  e_read : (rest : List (Word H)) (o : Option ℕ) → Up (r.read_cell c rest o)
  e_read rest None = (refl, refl)
  e_read rest (Some l) = e_pushes rest (seen_at c.locations l)

  e_from_cell : (o : Option Place) (ws : List (Word H)) → Up (r.from_cell c o ws)
  e_from_cell (Some q) (int n ∷ rest) = e_read rest (cell_at q n)
  e_from_cell _ _ = tt

  e_write : (rest : List (Word H)) (w : Word H) (o : Option ℕ) → Up (r.write_cell c rest w o)
  e_write rest w None = (refl, refl)
  e_write rest w (Some l) = tt

  e_into_cell : (o : Option Place) (ws : List (Word H)) → Up (r.into_cell c o ws)
  e_into_cell (Some q) (w ∷ int n ∷ rest) =
      e_if (same_kind q.var.kind (kind_of w)) (r.write_cell c rest w (cell_at q n)) stuck (e_write rest w (cell_at q n))
      tt
  e_into_cell _ _ = tt

  e_test : (o : Option ℕ) → Up (r.test_cell c o)
  e_test None = (refl, refl)
  e_test (Some l) = tt

  e_over_cell : (o : Option Place) (ws : List (Word H)) → Up (r.over_cell c o ws)
  e_over_cell (Some q) (int n ∷ rest) = e_test (cell_at q n)
  e_over_cell _ _ = tt

  e_input : (rest : List (Word H)) (o : Option ℤ) → Up (r.read_input c rest o)
  e_input rest None = (refl, refl)
  e_input rest (Some z) = tt

  e_from_input : (inputs : List ℤ) (ws : List (Word H)) → Up (r.from_input inputs c ws)
  e_from_input inputs (int n ∷ rest) = e_input rest (r.input_at inputs n)
  e_from_input inputs _ = tt

  e_jump_if : (d : Bool) (to : ℕ) (ws : List (Word H)) → Up (r.jump_if d to c ws)
  e_jump_if true to (bool b ∷ rest) = tt
  e_jump_if false to (bool b ∷ rest) = tt
  e_jump_if true to [] = tt
  e_jump_if true to (int n ∷ rest) = tt
  e_jump_if true to (rev n ∷ rest) = tt
  e_jump_if false to [] = tt
  e_jump_if false to (int n ∷ rest) = tt
  e_jump_if false to (rev n ∷ rest) = tt

  e_value : (rest : List (Word H)) (o : Option (Result (Word H) Cause))
      → ((e : Cause) → o ≡ Some (Err e) → of_merge e ≡ false) → Up (r.value_or_trap c rest o)
  e_value rest None h = tt
  e_value rest (Some (Ok w)) h = tt
  e_value rest (Some (Err e)) h = (refl, h e refl)

  e_apply_to : (x : Option (Fun H)) → Own x → (o : Option (List (Word H))) → Up (r.apply_to c x o)
  e_apply_to x h None = tt
  e_apply_to x h (Some args) =
      e_value (Rattle.std.specs.Prelude.drop (length args) c.stack) (r.value_at x args) (h args)

  e_apply : (o : Option CodeBlock) (x : Option (Fun H)) → Own x → Up (r.apply c o x)
  e_apply None x h = tt
  e_apply (Some b) x h = e_apply_to x h (r.arguments (r.params b) c.stack)

  e_charge : (line fuel : ℕ) → Up (r.charge c line fuel)
  e_charge line zero = (refl, refl)
  e_charge line (suc fuel) = tt

  e_call_with : (n : ℕ) (b : CodeBlock) (o : Option (List (Word H))) → Up (r.call_with c n b o)
  e_call_with n b None = tt
  e_call_with n b (Some args) =
      e_if (nat_lt (suc (length c.below)) r.most_frames) (goes (r.enter c n b args)) (traps c cause.CallDepth) tt
      (refl, refl)

  e_call : (n : ℕ) (o : Option CodeBlock) → Up (r.call c n o)
  e_call n None = tt
  e_call n (Some b) = e_call_with n b (r.arguments (r.params b) c.stack)

  e_fork_with : (n : ℕ) (o : Option (List (Word H))) → Up (r.fork_with c n o)
  e_fork_with n None = tt
  e_fork_with n (Some args) = refl

  e_fork : (n : ℕ) (o : Option CodeBlock) → Up (r.fork c n o)
  e_fork n None = tt
  e_fork n (Some b) = e_fork_with n (r.arguments (r.params b) c.stack)

  e_join : (try : Bool) (ws : List (Word H)) → Up (r.join c try ws)
  e_join try (rev (Some h) ∷ rest) = refl
  e_join try (rev None ∷ rest) = (refl, refl)
  e_join try _ = tt

  e_leave : (fs : List (Frame H)) (w : Option (Word H)) → Up (r.leave c fs w)
  e_leave [] w = refl
  e_leave (x ∷ fs) w = tt

  e_return : (o : Option ValueKind) (ws : List (Word H)) → Up (r.return c o ws)
  e_return None ws = e_leave c.below None
  e_return (Some x) [] = tt
  e_return (Some x) (w ∷ rest) =
      e_if (same_kind x (kind_of w)) (r.leave c c.below (Some w)) stuck (e_leave c.below (Some w)) tt

  e_print_with : (texts : List (List ℕ)) (items : List LayoutItem) (o : Option (List (Word H)))
      → Up (r.print_with texts c items o)
  e_print_with texts items None = tt
  e_print_with texts items (Some ws) = tt

  e_print : (texts : List (List ℕ)) (o : Option (List LayoutItem)) → Up (r.print texts c o)
  e_print texts None = tt
  e_print texts (Some items) = e_print_with texts items (r.arguments (printed_kinds items) c.stack)

  e_assert : (ws : List (Word H)) → Up (r.assert c ws)
  e_assert (bool b ∷ rest) = e_if b (r.on c rest) (traps c cause.Assert) tt (refl, refl)
  e_assert _ = tt

  e_pop : (ws : List (Word H)) → Up (r.pop c ws)
  e_pop [] = tt
  e_pop (w ∷ rest) = tt

  e_act : (b : CodeBlock) (x : Instr) → Up (act s b c x)
  e_act b (i.PushInt n) = tt
  e_act b (i.PushBool v) = tt
  e_act b i.PushNone = tt
  e_act b (i.LoadLocal n) = e_pushes c.stack (slice_get c.locals n)
  e_act b (i.StoreLocal n) = e_local n (slice_get b.locals n) c.stack
  e_act b (i.LoadShared v) = e_from_scalar (scalar s.code.vars v)
  e_act b (i.StoreShared v) = e_into_scalar (scalar s.code.vars v) c.stack
  e_act b (i.LoadCell v) = e_from_cell (array s.code.vars v) c.stack
  e_act b (i.StoreCell v) = e_into_cell (array s.code.vars v) c.stack
  e_act b (i.CheckCell v) = e_over_cell (array s.code.vars v) c.stack
  e_act b i.LoadInput = e_from_input s.inputs c.stack
  e_act b i.CountInput = tt
  e_act b i.Add = e_ints sum_of c.stack
  e_act b i.Sub = e_ints difference_of c.stack
  e_act b i.Mul = e_ints product_of c.stack
  e_act b i.Div = e_ints quotient_of c.stack
  e_act b i.Rem = e_ints remainder_of c.stack
  e_act b i.Neg = e_int negation_of c.stack
  e_act b i.Not = e_not c.stack
  e_act b i.Eq = e_equality (λ e. e) c.stack
  e_act b i.Ne = e_equality not c.stack
  e_act b i.Lt = e_order int_lt c.stack
  e_act b i.Le = e_order int_le c.stack
  e_act b i.Gt = e_order (λ x y. int_lt y x) c.stack
  e_act b i.Ge = e_order (λ x y. int_le y x) c.stack
  e_act b (i.Jump to) = tt
  e_act b (i.JumpIfFalse to) = e_jump_if false to c.stack
  e_act b (i.JumpIfTrue to) = e_jump_if true to c.stack
  e_act b (i.Apply n) = e_apply (only is_fun (slice_get s.code.blocks n)) (slice_get s.funs n) (own n)
  e_act b (i.Charge line) = e_charge line c.fuel
  e_act b (i.Call n) = e_call n (only is_procedure (slice_get s.code.blocks n))
  e_act b (i.Fork n) = e_fork n (only is_procedure (slice_get s.code.blocks n))
  e_act b i.Join = e_join false c.stack
  e_act b (i.Print n) = e_print s.code.texts (slice_get s.code.layouts n)
  e_act b i.Assert = e_assert c.stack
  e_act b i.Return = e_return b.result c.stack
  e_act b i.Pop = e_pop c.stack
  e_act b i.TryJoin = e_join true c.stack

  e_at : (b : CodeBlock) (o : Option Instr) → Up (act_at s b c o)
  e_at b None = tt
  e_at b (Some x) = e_act b x

  e_in : (o : Option CodeBlock) → Up (act_in s c o)
  e_in None = tt
  e_in (Some b) = e_at b (slice_get b.instrs c.at)

  at_step : IsAt c (step s c)
  at_step = e_in (slice_get s.code.blocks c.block)

-- ---- the funs of code

abbrev AllOwn : {H : Type 0} → List (Fun H) → Type 0
AllOwn [] = Unit {0}
AllOwn (x ∷ xs) = Own (Some x) × AllOwn xs

module _ {H : Type 0} where
  get_own : (xs : List (Fun H)) → AllOwn xs → (n : ℕ) → Own (slice_get xs n)
  get_own [] h n args e q = absurd (let z : None ≡ Some (Err e) = q in cc)
  get_own (x ∷ xs) h zero args e q = h.0 args e q
  get_own (x ∷ xs) h (suc n) args e q = get_own xs h.1 n args e q

  append_own : (xs : List (Fun H)) (x : Fun H) → AllOwn xs → Own (Some x) → AllOwn (xs ++ x ∷ [])
  append_own [] x h o = (o, tt)
  append_own (y ∷ xs) x h o = (h.0, append_own xs x h.1 o)

  trap_own : (s : Setting H) (c : State H) (o : Comes H) → IsAt c o → (d : State H) (e : Cause) → o ≡ traps d e
      → of_merge e ≡ false
  trap_own s c (traps d' e') at d e q = (let z : e' ≡ e = cc in ap of_merge (sym z) ∙ at.1)
  trap_own s c (goes d') at d e q = absurd (let z : goes d' ≡ traps d e = q in cc)
  trap_own s c (forks d' n args) at d e q = absurd (let z : forks d' n args ≡ traps d e = q in cc)
  trap_own s c (joins d' try h) at d e q = absurd (let z : joins d' try h ≡ traps d e = q in cc)
  trap_own s c (ends d' w) at d e q = absurd (let z : ends d' w ≡ traps d e = q in cc)
  trap_own s c stuck at d e q = absurd (let z : stuck ≡ traps d e = q in cc)

  reach_own : (s : Setting H) → ((n : ℕ) → Own (slice_get s.funs n)) → (k : ℕ) (c d : State H) (e : Cause)
      → reach s k c ≡ traps d e → of_merge e ≡ false
  reach_own s own zero c d e q = trap_own s c (step s c) (at_step s own c) d e q
  reach_own s own (suc k) c d e q = by (step s c) (at_step s own c) q (λ x z. reach_own s own k x d e z)
    where
      by : (o : Comes H) → IsAt c o → onward (λ x. reach s k x) o ≡ traps d e
          → ((x : State H) → reach s k x ≡ traps d e → of_merge e ≡ false) → of_merge e ≡ false
      by (goes x) at q rec = rec x q
      by (traps x y) at q rec = trap_own s c (traps x y) at d e q
      by (forks x n args) at q rec = trap_own s c (forks x n args) at d e q
      by (joins x try h) at q rec = trap_own s c (joins x try h) at d e q
      by (ends x w) at q rec = trap_own s c (ends x w) at d e q
      by stuck at q rec = trap_own s c stuck at d e q

  answer_own : (o : Comes H) (e : Cause) → funs.answer o ≡ Some (Err e)
      → ((d : State H) → o ≡ traps d e → of_merge e ≡ false) → of_merge e ≡ false
  answer_own (traps d x) e q h =
      (let z : x ≡ e = (let y : Some (Err x) ≡ Some (Err e) = q in cc) in h d (ap (traps d) z))
  answer_own (ends d (Some w)) e q h = absurd (let y : Some (Ok w) ≡ Some (Err e) = q in cc)
  answer_own (ends d None) e q h = absurd (let y : None ≡ Some (Err e) = q in cc)
  answer_own (goes d) e q h = absurd (let y : None ≡ Some (Err e) = q in cc)
  answer_own (forks d n args) e q h = absurd (let y : None ≡ Some (Err e) = q in cc)
  answer_own (joins d try k) e q h = absurd (let y : None ≡ Some (Err e) = q in cc)
  answer_own stuck e q h = absurd (let y : None ≡ Some (Err e) = q in cc)

  value_own : (code : Code) (xs : List (Fun H)) → AllOwn xs → (n : ℕ) (b : CodeBlock)
      → Own (Some (funs.value_of code xs n b))
  value_own code xs h n b args e q = by (Rattle.rev_code.specs.Words.fits (r.params b) args) q
    where
      by : (d : Bool)
          → cond d (funs.answer (reach (funs.setting_of_fun code xs) (length b.instrs) (funs.fun_start n b args))) None
          ≡ Some (Err e)
          → of_merge e ≡ false
      by true q = answer_own (reach (funs.setting_of_fun code xs) (length b.instrs) (funs.fun_start n b args)) e q
          (λ d z. reach_own (funs.setting_of_fun code xs) (get_own xs h) (length b.instrs) (funs.fun_start n b args) d e
          z)
      by false q = absurd (let y : None ≡ Some (Err e) = q in cc)

  values_own : (code : Code) (xs : List (Fun H)) (n : ℕ) (bs : List CodeBlock) → AllOwn xs
      → AllOwn (funs.values_from code xs n bs)
  values_own code xs n [] h = h
  values_own code xs n (b ∷ bs) h =
      values_own code (xs ++ funs.value_of code xs n b ∷ []) (suc n) bs
      (append_own xs (funs.value_of code xs n b) h (value_own code xs h n b))

  funs_own : (g : CodeRun) (n : ℕ) → Own (slice_get (funs.values {H = H} g.code) n)
  funs_own g n = get_own (funs.values g.code) (values_own g.code [] 0 g.code.blocks tt) n

  pub stands : (g : CodeRun) (c : State H) → IsAt c (step (under g) c)
  stands g c = at_step (under g) (funs_own g) c

  -- the trap of a leg
  pub leg_own : (g : CodeRun) (c d : State H) (e : Cause) → leg g c ≡ traps d e → of_merge e ≡ false
  leg_own g c d e q = reach_own (under g) (funs_own g) (clock g c) c d e q
