-- Each step has a form, by the cases of the instructions; and what so holds of steps holds where they lead.
use Rattle.std.proofs.Common.{◌≡◌, ℕ, zero, suc, Bool, true, false, cond, not, ℤ, List, [], ◌∷◌, ◌++◌, drop, length, Option, Some, None, Result, Ok, Err, refl, sym, append-nil}
use Rattle.std.specs.Prelude.{slice_get, slice_set, nat_lt, int_lt, int_le}
use Rattle.rev_num.specs.declared.value.ValueKind.{ValueKind}
use Rattle.rev_num.specs.declared.value.NumFault.{NumFault}
use Rattle.rev_num.specs.declared.outcome.Cause.{Cause}
use Rattle.rev_num.specs.declared.outcome.Cause.TheVariants as cause
use Rattle.rev_num.specs.Arith.{sum_of, difference_of, product_of, quotient_of, remainder_of, negation_of}
use Rattle.rev_num.specs.Value.{same_kind}
use Rattle.rev_code.specs.declared.code.CodeBlock.{CodeBlock}
use Rattle.rev_code.specs.declared.code.LayoutItem.{LayoutItem}
use Rattle.rev_code.specs.declared.code.Instr.{Instr}
use Rattle.rev_code.specs.declared.code.Instr.TheVariants as i
use Rattle.rev_code.specs.Words.{Word, int, bool, rev, kind_of}
use Rattle.rev_code.specs.State.{State, Frame, Fun, Setting, seen_at}
use Rattle.rev_code.specs.Variables.{Place, scalar, array, cell_at}
use Rattle.rev_code.specs.Printing.{line_of, printed_kinds}
use Rattle.rev_code.specs.Step as r
use Rattle.rev_code.specs.Step.{Comes, goes, traps, forks, joins, ends, stuck, act, act_at, act_in, step, only, is_fun, is_procedure, onward, reach}
use Rattle.code_machine_laws.specs.Forms.{Grows, ComesTo, to_next, to_write, to_payment, to_trap, to_fork, to_join, to_end, to_nothing}

module _ {H : Type 0} (s : Setting H) (c : State H) where
  abbrev Up : Comes H → Type 0
  Up o = ComesTo s c o

  still : Grows c.text c.text
  still = ([], sym (append-nil c.text))

  on : (ws : List (Word H)) → Up (r.on c ws)
  on ws = to_next c.block (suc c.at) c.locals ws c.below c.text still

  fails : (e : Cause) → Up (traps c e)
  fails e = to_trap c.line e

  e_if : (d : Bool) (x y : Comes H) → Up x → Up y → Up (cond d x y)
  e_if true x y h k = h
  e_if false x y h k = k

  e_number : (rest : List (Word H)) (v : Result ℤ NumFault) → Up (r.number c rest v)
  e_number rest (Ok z) = on (int z ∷ rest)
  e_number rest (Err f) = fails (r.cause_of f)

  e_ints : (f : ℤ → ℤ → Result ℤ NumFault) (ws : List (Word H)) → Up (r.of_ints f c ws)
  e_ints f (int y ∷ int x ∷ rest) = e_number rest (f x y)
  e_ints f _ = to_nothing

  e_int : (f : ℤ → Result ℤ NumFault) (ws : List (Word H)) → Up (r.of_int f c ws)
  e_int f (int y ∷ rest) = e_number rest (f y)
  e_int f _ = to_nothing

  e_not : (ws : List (Word H)) → Up (r.of_bool c ws)
  e_not (bool y ∷ rest) = on _
  e_not _ = to_nothing

  e_equality : (t : Bool → Bool) (ws : List (Word H)) → Up (r.equality t c ws)
  e_equality t (int y ∷ int x ∷ rest) = on _
  e_equality t (bool y ∷ bool x ∷ rest) = on _
  e_equality t _ = to_nothing

  e_order : (f : ℤ → ℤ → Bool) (ws : List (Word H)) → Up (r.order f c ws)
  e_order f (int y ∷ int x ∷ rest) = on _
  e_order f _ = to_nothing

  e_pushes : (rest : List (Word H)) (o : Option (Word H)) → Up (r.pushes c rest o)
  e_pushes rest None = to_nothing
  e_pushes rest (Some w) = on _

  e_local : (n : ℕ) (o : Option ValueKind) (ws : List (Word H)) → Up (r.into_local c n o ws)
  e_local n (Some k) (w ∷ rest) =
      e_if (same_kind k (kind_of w)) (goes (record c { at = suc c.at; stack = rest; locals = slice_set c.locals n w }))
      stuck
      (to_next c.block (suc c.at) (slice_set c.locals n w) rest c.below c.text still) to_nothing
  e_local n (Some k) [] = to_nothing
  e_local n None ws = to_nothing

  e_from_scalar : (o : Option Place) → Up (r.from_scalar c o)
  e_from_scalar None = to_nothing
  e_from_scalar (Some q) = e_pushes c.stack (seen_at c.locations q.first)

  e_into_scalar : (o : Option Place) (ws : List (Word H)) → Up (r.into_scalar c o ws)
  e_into_scalar (Some q) (w ∷ rest) =
      e_if (same_kind q.var.kind (kind_of w)) (r.after_write c rest q.first w) stuck (to_write rest q.first w)
      to_nothing
  e_into_scalar (Some q) [] = to_nothing
  e_into_scalar None ws = to_nothing

  e_read : (rest : List (Word H)) (o : Option ℕ) → Up (r.read_cell c rest o)
  e_read rest None = fails cause.Index
  e_read rest (Some l) = e_pushes rest (seen_at c.locations l)

  e_from_cell : (o : Option Place) (ws : List (Word H)) → Up (r.from_cell c o ws)
  e_from_cell (Some q) (int n ∷ rest) = e_read rest (cell_at q n)
  e_from_cell _ _ = to_nothing

  e_write : (rest : List (Word H)) (w : Word H) (o : Option ℕ) → Up (r.write_cell c rest w o)
  e_write rest w None = fails cause.Index
  e_write rest w (Some l) = to_write rest l w

  e_into_cell : (o : Option Place) (ws : List (Word H)) → Up (r.into_cell c o ws)
  e_into_cell (Some q) (w ∷ int n ∷ rest) =
      e_if (same_kind q.var.kind (kind_of w)) (r.write_cell c rest w (cell_at q n)) stuck (e_write rest w (cell_at q n))
      to_nothing
  e_into_cell _ _ = to_nothing

  e_test : (o : Option ℕ) → Up (r.test_cell c o)
  e_test None = fails cause.Index
  e_test (Some l) = on c.stack

  e_over_cell : (o : Option Place) (ws : List (Word H)) → Up (r.over_cell c o ws)
  e_over_cell (Some q) (int n ∷ rest) = e_test (cell_at q n)
  e_over_cell _ _ = to_nothing

  e_input : (rest : List (Word H)) (o : Option ℤ) → Up (r.read_input c rest o)
  e_input rest None = fails cause.Index
  e_input rest (Some z) = on _

  e_from_input : (inputs : List ℤ) (ws : List (Word H)) → Up (r.from_input inputs c ws)
  e_from_input inputs (int n ∷ rest) = e_input rest (r.input_at inputs n)
  e_from_input inputs _ = to_nothing

  jumps : (to : ℕ) (ws : List (Word H)) → Up (goes (record c { at = to; stack = ws }))
  jumps to ws = to_next c.block to c.locals ws c.below c.text still

  e_jump_if : (d : Bool) (to : ℕ) (ws : List (Word H)) → Up (r.jump_if d to c ws)
  e_jump_if true to (bool b ∷ rest) = jumps (cond b to (suc c.at)) rest
  e_jump_if false to (bool b ∷ rest) = jumps (cond b (suc c.at) to) rest
  e_jump_if true to [] = to_nothing
  e_jump_if true to (int n ∷ rest) = to_nothing
  e_jump_if true to (rev n ∷ rest) = to_nothing
  e_jump_if false to [] = to_nothing
  e_jump_if false to (int n ∷ rest) = to_nothing
  e_jump_if false to (rev n ∷ rest) = to_nothing

  e_value : (rest : List (Word H)) (o : Option (Result (Word H) Cause)) → Up (r.value_or_trap c rest o)
  e_value rest None = to_nothing
  e_value rest (Some (Ok w)) = on _
  e_value rest (Some (Err e)) = fails e

  e_apply_to : (x : Option (Fun H)) (o : Option (List (Word H))) → Up (r.apply_to c x o)
  e_apply_to x None = to_nothing
  e_apply_to x (Some args) = e_value (drop (length args) c.stack) (r.value_at x args)

  e_apply : (o : Option CodeBlock) (x : Option (Fun H)) → Up (r.apply c o x)
  e_apply None x = to_nothing
  e_apply (Some b) x = e_apply_to x (r.arguments (r.params b) c.stack)

  e_charge : (line fuel : ℕ) → c.fuel ≡ fuel → Up (r.charge c line fuel)
  e_charge line zero e = to_trap line cause.Spent
  e_charge line (suc fuel) e = to_payment line fuel e

  enters : (n : ℕ) (b : CodeBlock) (args : List (Word H)) → Up (goes (r.enter c n b args))
  enters n b args =
      to_next n 0 (r.first_locals b args) (drop (length args) c.stack)
      (record { block = c.block; at = suc c.at; locals = c.locals } ∷ c.below) c.text still

  e_call_with : (n : ℕ) (b : CodeBlock) (o : Option (List (Word H))) → Up (r.call_with c n b o)
  e_call_with n b None = to_nothing
  e_call_with n b (Some args) =
      e_if (nat_lt (suc (length c.below)) r.most_frames) (goes (r.enter c n b args)) (traps c cause.CallDepth)
      (enters n b args) (fails cause.CallDepth)

  e_call : (n : ℕ) (o : Option CodeBlock) → Up (r.call c n o)
  e_call n None = to_nothing
  e_call n (Some b) = e_call_with n b (r.arguments (r.params b) c.stack)

  e_fork_with : (n : ℕ) (b : CodeBlock) → only is_procedure (slice_get s.code.blocks n) ≡ Some b
      → (o : Option (List (Word H))) → r.arguments (r.params b) c.stack ≡ o → Up (r.fork_with c n o)
  e_fork_with n b is None e = to_nothing
  e_fork_with n b is (Some args) e = to_fork n b args is e

  e_fork : (n : ℕ) (o : Option CodeBlock) → only is_procedure (slice_get s.code.blocks n) ≡ o → Up (r.fork c n o)
  e_fork n None e = to_nothing
  e_fork n (Some b) e = e_fork_with n b e (r.arguments (r.params b) c.stack) refl

  e_join : (try : Bool) (ws : List (Word H)) → c.stack ≡ ws → Up (r.join c try ws)
  e_join try (rev (Some h) ∷ rest) e = to_join try h rest e
  e_join try (rev None ∷ rest) e = fails cause.JoinNone
  e_join try [] e = to_nothing
  e_join try (int n ∷ rest) e = to_nothing
  e_join try (bool b ∷ rest) e = to_nothing

  e_leave : (fs : List (Frame H)) (w : Option (Word H)) → Up (r.leave c fs w)
  e_leave [] w = to_end w
  e_leave (x ∷ fs) w = to_next x.block x.at x.locals c.stack fs c.text still

  e_return : (o : Option ValueKind) (ws : List (Word H)) → Up (r.return c o ws)
  e_return None ws = e_leave c.below None
  e_return (Some x) [] = to_nothing
  e_return (Some x) (w ∷ rest) =
      e_if (same_kind x (kind_of w)) (r.leave c c.below (Some w)) stuck (e_leave c.below (Some w)) to_nothing

  e_print_with : (texts : List (List ℕ)) (items : List LayoutItem) (o : Option (List (Word H)))
      → Up (r.print_with texts c items o)
  e_print_with texts items None = to_nothing
  e_print_with texts items (Some ws) =
      to_next c.block (suc c.at) c.locals (drop (length ws) c.stack) c.below (c.text ++ line_of texts items ws)
      (line_of texts items ws, refl)

  e_print : (texts : List (List ℕ)) (o : Option (List LayoutItem)) → Up (r.print texts c o)
  e_print texts None = to_nothing
  e_print texts (Some items) = e_print_with texts items (r.arguments (printed_kinds items) c.stack)

  e_assert : (ws : List (Word H)) → Up (r.assert c ws)
  e_assert (bool b ∷ rest) = e_if b (r.on c rest) (traps c cause.Assert) (on rest) (fails cause.Assert)
  e_assert _ = to_nothing

  e_pop : (ws : List (Word H)) → Up (r.pop c ws)
  e_pop [] = to_nothing
  e_pop (w ∷ rest) = on rest

  e_act : (b : CodeBlock) (x : Instr) → Up (act s b c x)
  e_act b (i.PushInt n) = on _
  e_act b (i.PushBool v) = on _
  e_act b i.PushNone = on _
  e_act b (i.LoadLocal n) = e_pushes c.stack (slice_get c.locals n)
  e_act b (i.StoreLocal n) = e_local n (slice_get b.locals n) c.stack
  e_act b (i.LoadShared v) = e_from_scalar (scalar s.code.vars v)
  e_act b (i.StoreShared v) = e_into_scalar (scalar s.code.vars v) c.stack
  e_act b (i.LoadCell v) = e_from_cell (array s.code.vars v) c.stack
  e_act b (i.StoreCell v) = e_into_cell (array s.code.vars v) c.stack
  e_act b (i.CheckCell v) = e_over_cell (array s.code.vars v) c.stack
  e_act b i.LoadInput = e_from_input s.inputs c.stack
  e_act b i.CountInput = on _
  e_act b i.Add = e_ints sum_of c.stack
  e_act b i.Sub = e_ints difference_of c.stack
  e_act b i.Mul = e_ints product_of c.stack
  e_act b i.Div = e_ints quotient_of c.stack
  e_act b i.Rem = e_ints remainder_of c.stack
  e_act b i.Neg = e_int negation_of c.stack
  e_act b i.Not = e_not c.stack
  e_act b i.Eq = e_equality (λ e. e) c.stack
  e_act b i.Ne = e_equality not c.stack
  e_act b i.Lt = e_order int_lt c.stack
  e_act b i.Le = e_order int_le c.stack
  e_act b i.Gt = e_order (λ x y. int_lt y x) c.stack
  e_act b i.Ge = e_order (λ x y. int_le y x) c.stack
  e_act b (i.Jump to) = jumps to c.stack
  e_act b (i.JumpIfFalse to) = e_jump_if false to c.stack
  e_act b (i.JumpIfTrue to) = e_jump_if true to c.stack
  e_act b (i.Apply n) = e_apply (only is_fun (slice_get s.code.blocks n)) (slice_get s.funs n)
  e_act b (i.Charge line) = e_charge line c.fuel refl
  e_act b (i.Call n) = e_call n (only is_procedure (slice_get s.code.blocks n))
  e_act b (i.Fork n) = e_fork n (only is_procedure (slice_get s.code.blocks n)) refl
  e_act b i.Join = e_join false c.stack refl
  e_act b (i.Print n) = e_print s.code.texts (slice_get s.code.layouts n)
  e_act b i.Assert = e_assert c.stack
  e_act b i.Return = e_return b.result c.stack
  e_act b i.Pop = e_pop c.stack
  e_act b i.TryJoin = e_join true c.stack refl

  e_at : (b : CodeBlock) (o : Option Instr) → Up (act_at s b c o)
  e_at b None = to_nothing
  e_at b (Some x) = e_act b x

  e_in : (o : Option CodeBlock) → Up (act_in s c o)
  e_in None = to_nothing
  e_in (Some b) = e_at b (slice_get b.instrs c.at)

  pub step_form : ComesTo s c (step s c)
  step_form = e_in (slice_get s.code.blocks c.block)

-- ---- where steps lead

-- what holds of each form, and of where steps lead from a state if it holds there from the next one
module _ {H : Type 0} (s : Setting H) (P : State H → Comes H → Type 0)
    (of_form : (c : State H) (o : Comes H) → ComesTo s c o → P c o) where
  pub holds_of_reach : ((c d : State H) (o : Comes H) → P c (goes d) → P d o → P c o) → (k : ℕ) (c : State H)
      → P c (reach s k c)
  holds_of_reach then_on zero c = of_form c (step s c) (step_form s c)
  holds_of_reach then_on (suc k) c =
      by (step s c) (of_form c (step s c) (step_form s c)) (λ d. holds_of_reach then_on k d)
    where
      by : (o : Comes H) → P c o → ((d : State H) → P d (reach s k d)) → P c (onward (λ d. reach s k d) o)
      by (goes d) h later = then_on c d (reach s k d) h (later d)
      by (traps d e) h later = h
      by (forks d n args) h later = h
      by (joins d try m) h later = h
      by (ends d w) h later = h
      by stuck h later = h
