-- Where the next instruction leads: which frame goes on, at which place, over which frames below. One case analysis
-- over the table of instructions, from which follow what a step costs and where a frame gets on.
use Rattle.std.proofs.Common.{◌≡◌, ◌∙◌, ℕ, zero, suc, Bool, true, false, cond, not, ℤ, List, [], ◌∷◌, length, Option, Some, None, refl, ap}
use Rattle.std.specs.Prelude.{slice_get, nat_lt, Result, Ok, Err}
use Rattle.rev_num.specs.declared.value.ValueKind.{ValueKind}
use Rattle.rev_num.specs.declared.value.NumFault.{NumFault}
use Rattle.rev_num.specs.declared.outcome.Cause.{Cause}
use Rattle.rev_num.specs.declared.outcome.Cause.TheVariants as cause
use Rattle.rev_num.specs.Arith.{sum_of, difference_of, product_of, quotient_of, remainder_of, negation_of}
use Rattle.rev_num.specs.Value.{same_kind}
use Rattle.std.specs.Prelude.{int_lt, int_le}
use Rattle.rev_code.specs.declared.code.CodeBlock.{CodeBlock}
use Rattle.rev_code.specs.declared.code.LayoutItem.{LayoutItem}
use Rattle.rev_code.specs.declared.code.Instr.{Instr}
use Rattle.rev_code.specs.declared.code.Instr.TheVariants as i
use Rattle.rev_code.specs.Words.{Word, int, bool, rev, kind_of}
use Rattle.rev_code.specs.State.{State, Frame, Fun, Setting, seen_at}
use Rattle.rev_code.specs.Variables.{Place, scalar, array, cell_at}
use Rattle.rev_code.specs.Printing.{printed_kinds}
use Rattle.rev_code.specs.Step as r
use Rattle.rev_code.specs.Step.{Comes, goes, traps, forks, joins, ends, stuck, act, act_at, act_in, step, only, is_fun, is_procedure}
use Rattle.code_rules.specs.Pass.{falls, target, paid_after, is_charge}

-- it is no Charge, and keeps what is paid
abbrev pub IsPlain : Instr → Type 0
IsPlain x = ((d : Bool) → paid_after d x ≡ d) × (is_charge (Some x) ≡ false)

-- from c to a state with this block, place, frames below and fuel
pub data Way {H : Type 0} (s : Setting H) (c : State H) (block at : ℕ) (below : List (Frame H))
    (fuel : ℕ) : Type 0 where
  ahead : (b : CodeBlock) (x : Instr) → slice_get s.code.blocks c.block ≡ Some b → slice_get b.instrs c.at ≡ Some x
      → IsPlain x → falls x ≡ true → block ≡ c.block → at ≡ suc c.at → below ≡ c.below → fuel ≡ c.fuel
      → Way s c block at below fuel
  leapt : (b : CodeBlock) (x : Instr) → slice_get s.code.blocks c.block ≡ Some b → slice_get b.instrs c.at ≡ Some x
      → IsPlain x → target x ≡ Some at → block ≡ c.block → below ≡ c.below → fuel ≡ c.fuel → Way s c block at below fuel
  charged : (b : CodeBlock) (line : ℕ) → slice_get s.code.blocks c.block ≡ Some b
      → slice_get b.instrs c.at ≡ Some (i.Charge line)
      → block ≡ c.block → at ≡ suc c.at → below ≡ c.below → c.fuel ≡ suc fuel → Way s c block at below fuel
  called : (b : CodeBlock) (n : ℕ) (y : CodeBlock) (locals : List (Word H)) → slice_get s.code.blocks c.block ≡ Some b
      → slice_get b.instrs c.at ≡ Some (i.Call n) → slice_get s.code.blocks n ≡ Some y → block ≡ n → at ≡ 0
      → below ≡ record { block = c.block; at = suc c.at; locals = locals } ∷ c.below → fuel ≡ c.fuel
      → Way s c block at below fuel
  returned : (b : CodeBlock) (x : Instr) (f : Frame H) → slice_get s.code.blocks c.block ≡ Some b
      → slice_get b.instrs c.at ≡ Some x
      → c.below ≡ f ∷ below → block ≡ f.block → at ≡ f.at → fuel ≡ c.fuel → Way s c block at below fuel

abbrev pub WayTo : {H : Type 0} (s : Setting H) (c c' : State H) → Type 0
WayTo s c c' = Way s c c'.block c'.at c'.below c'.fuel

-- and what stands where a revision forks or joins
abbrev pub Ways : {H : Type 0} (s : Setting H) (c : State H) → Comes H → Type 0
Ways s c (goes c') = WayTo s c c'
Ways s c (forks c' n args) =
    (b : CodeBlock) × (y : CodeBlock) × (slice_get s.code.blocks c.block ≡ Some b)
    × (slice_get b.instrs c.at ≡ Some (i.Fork n)) × (slice_get s.code.blocks n ≡ Some y)
Ways s c (joins c' try h) =
    (b : CodeBlock) × (x : Instr) × (slice_get s.code.blocks c.block ≡ Some b) × (slice_get b.instrs c.at ≡ Some x)
    × IsPlain x × (falls x ≡ true)
Ways s c (traps c' e) = Unit {0}
Ways s c (ends c' w) = Unit {0}
Ways s c stuck = Unit {0}

only_some : (f : Rattle.rev_code.specs.declared.code.BlockClass.BlockClass → Bool) (o : Option CodeBlock)
    (b : CodeBlock)
    → only f o ≡ Some b → o ≡ Some b
only_some f None b h = absurd (let z : None ≡ Some b = h in cc)
only_some f (Some y) b h = by (f y.class) h
  where
    by : (d : Bool) → cond d (Some y) None ≡ Some b → Some y ≡ Some b
    by true h = h
    by false h = absurd (let z : None ≡ Some b = h in cc)

module _ {H : Type 0} (s : Setting H) where
  way_by : (c : State H) (d : Bool) (x y : Comes H) → Ways s c x → Ways s c y → Ways s c (cond d x y)
  way_by c true x y h k = h
  way_by c false x y h k = k

module _ {H : Type 0} (s : Setting H) where
  module _ (c : State H) (b : CodeBlock) (is : slice_get s.code.blocks c.block ≡ Some b) (x : Instr)
      (here : slice_get b.instrs c.at ≡ Some x) where
    abbrev Found : Comes H → Type 0
    Found o = Ways s c o

    abbrev Less : Type 0
    Less = Way s c c.block (suc c.at) c.below c.fuel

    abbrev Leap : ℕ → Type 0
    Leap to = Way s c c.block to c.below c.fuel

    -- behind an instruction
    behind : IsPlain x → falls x ≡ true → Less
    behind pl f = ahead b x is here pl f refl refl refl refl

    leap : (to : ℕ) → IsPlain x → target x ≡ Some to → Leap to
    leap to pl tg = leapt b x is here pl tg refl refl refl

    u_number : (rest : List (Word H)) (v : Result ℤ NumFault) → Less → Found (r.number c rest v)
    u_number rest (Ok z) h = h
    u_number rest (Err f) h = tt

    u_ints : (f : ℤ → ℤ → Result ℤ NumFault) (ws : List (Word H)) → Less → Found (r.of_ints f c ws)
    u_ints f (int y ∷ int x ∷ rest) h = u_number rest (f x y) h
    u_ints f _ h = tt

    u_int : (f : ℤ → Result ℤ NumFault) (ws : List (Word H)) → Less → Found (r.of_int f c ws)
    u_int f (int y ∷ rest) h = u_number rest (f y) h
    u_int f _ h = tt

    u_not : (ws : List (Word H)) → Less → Found (r.of_bool c ws)
    u_not (bool y ∷ rest) h = h
    u_not _ h = tt

    u_equality : (t : Bool → Bool) (ws : List (Word H)) → Less → Found (r.equality t c ws)
    u_equality t (int y ∷ int x ∷ rest) h = h
    u_equality t (bool y ∷ bool x ∷ rest) h = h
    u_equality t _ h = tt

    u_order : (f : ℤ → ℤ → Bool) (ws : List (Word H)) → Less → Found (r.order f c ws)
    u_order f (int y ∷ int x ∷ rest) h = h
    u_order f _ h = tt

    u_pushes : (rest : List (Word H)) (o : Option (Word H)) → Less → Found (r.pushes c rest o)
    u_pushes rest None h = tt
    u_pushes rest (Some w) h = h

    u_local : (n : ℕ) (o : Option ValueKind) (ws : List (Word H)) → Less → Found (r.into_local c n o ws)
    u_local n (Some k) (w ∷ rest) h =
        way_by s c (same_kind k (kind_of w))
        (goes (record c { at = suc c.at; stack = rest; locals = Rattle.std.specs.Prelude.slice_set c.locals n w }))
        stuck h tt
    u_local n (Some k) [] h = tt
    u_local n None ws h = tt

    u_from_scalar : (o : Option Place) → Less → Found (r.from_scalar c o)
    u_from_scalar None h = tt
    u_from_scalar (Some q) h = u_pushes c.stack (seen_at c.locations q.first) h

    u_into_scalar : (o : Option Place) (ws : List (Word H)) → Less → Found (r.into_scalar c o ws)
    u_into_scalar (Some q) (w ∷ rest) h =
        way_by s c (same_kind q.var.kind (kind_of w)) (r.after_write c rest q.first w) stuck h tt
    u_into_scalar (Some q) [] h = tt
    u_into_scalar None ws h = tt

    u_read : (rest : List (Word H)) (o : Option ℕ) → Less → Found (r.read_cell c rest o)
    u_read rest None h = tt
    u_read rest (Some l) h = u_pushes rest (seen_at c.locations l) h

    u_from_cell : (o : Option Place) (ws : List (Word H)) → Less → Found (r.from_cell c o ws)
    u_from_cell (Some q) (int n ∷ rest) h = u_read rest (cell_at q n) h
    u_from_cell _ _ h = tt

    u_write : (rest : List (Word H)) (w : Word H) (o : Option ℕ) → Less → Found (r.write_cell c rest w o)
    u_write rest w None h = tt
    u_write rest w (Some l) h = h

    u_into_cell : (o : Option Place) (ws : List (Word H)) → Less → Found (r.into_cell c o ws)
    u_into_cell (Some q) (w ∷ int n ∷ rest) h =
        way_by s c (same_kind q.var.kind (kind_of w)) (r.write_cell c rest w (cell_at q n)) stuck
        (u_write rest w (cell_at q n) h) tt
    u_into_cell _ _ h = tt

    u_test : (o : Option ℕ) → Less → Found (r.test_cell c o)
    u_test None h = tt
    u_test (Some l) h = h

    u_over_cell : (o : Option Place) (ws : List (Word H)) → Less → Found (r.over_cell c o ws)
    u_over_cell (Some q) (int n ∷ rest) h = u_test (cell_at q n) h
    u_over_cell _ _ h = tt

    u_input : (rest : List (Word H)) (o : Option ℤ) → Less → Found (r.read_input c rest o)
    u_input rest None h = tt
    u_input rest (Some z) h = h

    u_from_input : (inputs : List ℤ) (ws : List (Word H)) → Less → Found (r.from_input inputs c ws)
    u_from_input inputs (int n ∷ rest) h = u_input rest (r.input_at inputs n) h
    u_from_input inputs _ h = tt

    u_way : (d : Bool) (to : ℕ) (rest : List (Word H)) → Less → Leap to
        → (Found (goes (record c { at = cond d to (suc c.at); stack = rest })))
        × (Found (goes (record c { at = cond d (suc c.at) to; stack = rest })))
    u_way true to rest h k = (k, h)
    u_way false to rest h k = (h, k)

    u_jump_if : (d : Bool) (to : ℕ) (ws : List (Word H)) → Less → Leap to → Found (r.jump_if d to c ws)
    u_jump_if true to (bool b ∷ rest) h k = (u_way b to rest h k).0
    u_jump_if false to (bool b ∷ rest) h k = (u_way b to rest h k).1
    u_jump_if true to [] h k = tt
    u_jump_if true to (int n ∷ rest) h k = tt
    u_jump_if true to (rev n ∷ rest) h k = tt
    u_jump_if false to [] h k = tt
    u_jump_if false to (int n ∷ rest) h k = tt
    u_jump_if false to (rev n ∷ rest) h k = tt

    u_value : (rest : List (Word H)) (o : Option (Result (Word H) Cause)) → Less → Found (r.value_or_trap c rest o)
    u_value rest None h = tt
    u_value rest (Some (Ok w)) h = h
    u_value rest (Some (Err e)) h = tt

    u_apply_to : (f : Option (Fun H)) (o : Option (List (Word H))) → Less → Found (r.apply_to c f o)
    u_apply_to f None h = tt
    u_apply_to f (Some args) h = u_value (Rattle.std.specs.Prelude.drop (length args) c.stack) (r.value_at f args) h

    u_apply : (o : Option CodeBlock) (f : Option (Fun H)) → Less → Found (r.apply c o f)
    u_apply None f h = tt
    u_apply (Some y) f h = u_apply_to f (r.arguments (r.params y) c.stack) h

    u_print_with : (texts : List (List ℕ)) (items : List LayoutItem) (o : Option (List (Word H))) → Less
        → Found (r.print_with texts c items o)
    u_print_with texts items None h = tt
    u_print_with texts items (Some ws) h = h

    u_print : (texts : List (List ℕ)) (o : Option (List LayoutItem)) → Less → Found (r.print texts c o)
    u_print texts None h = tt
    u_print texts (Some items) h = u_print_with texts items (r.arguments (printed_kinds items) c.stack) h

    u_assert : (ws : List (Word H)) → Less → Found (r.assert c ws)
    u_assert (bool b ∷ rest) h = way_by s c b (r.on c rest) (traps c cause.Assert) h tt
    u_assert [] h = tt
    u_assert (int n ∷ rest) h = tt
    u_assert (rev n ∷ rest) h = tt

    u_pop : (ws : List (Word H)) → Less → Found (r.pop c ws)
    u_pop [] h = tt
    u_pop (w ∷ rest) h = h

    u_join : (d : Bool) (ws : List (Word H)) → IsPlain x → falls x ≡ true → Found (r.join c d ws)
    u_join d (rev (Some q) ∷ rest) pl f = (b, x, is, here, pl, f)
    u_join d (rev None ∷ rest) pl f = tt
    u_join d [] pl f = tt
    u_join d (int n ∷ rest) pl f = tt
    u_join d (bool n ∷ rest) pl f = tt

    u_fork_with : (n : ℕ) (y : CodeBlock) → x ≡ i.Fork n → slice_get s.code.blocks n ≡ Some y
        → (o : Option (List (Word H))) → Found (r.fork_with c n o)
    u_fork_with n y e q None = tt
    u_fork_with n y e q (Some args) = (b, y, is, here ∙ ap Some e, q)

    u_fork : (n : ℕ) → x ≡ i.Fork n → (o : Option CodeBlock)
        → ((y : CodeBlock) → o ≡ Some y → slice_get s.code.blocks n ≡ Some y) → Found (r.fork c n o)
    u_fork n e None q = tt
    u_fork n e (Some y) q = u_fork_with n y e (q y refl) (r.arguments (r.params y) c.stack)

    u_charge : (line : ℕ) → x ≡ i.Charge line → (fuel : ℕ) → c.fuel ≡ fuel → Found (r.charge c line fuel)
    u_charge line e zero f = tt
    u_charge line e (suc fuel) f = charged b line is (here ∙ ap Some e) refl refl refl f

    u_call_with : (n : ℕ) (y : CodeBlock) → x ≡ i.Call n → slice_get s.code.blocks n ≡ Some y
        → (o : Option (List (Word H))) → Found (r.call_with c n y o)
    u_call_with n y e q None = tt
    u_call_with n y e q (Some args) =
        way_by s c (nat_lt (suc (length c.below)) r.most_frames) (goes (r.enter c n y args)) (traps c cause.CallDepth)
        (called b n y c.locals is (here ∙ ap Some e) q refl refl refl refl) tt

    u_call : (n : ℕ) → x ≡ i.Call n → (o : Option CodeBlock)
        → ((y : CodeBlock) → o ≡ Some y → slice_get s.code.blocks n ≡ Some y) → Found (r.call c n o)
    u_call n e None q = tt
    u_call n e (Some y) q = u_call_with n y e (q y refl) (r.arguments (r.params y) c.stack)

    u_leave : (fs : List (Frame H)) (w : Option (Word H)) → c.below ≡ fs → Found (r.leave c fs w)
    u_leave [] w e = tt
    u_leave (f ∷ fs) w e = returned b x f is here (e) refl refl refl

    u_return : (o : Option ValueKind) (ws : List (Word H)) → Found (r.return c o ws)
    u_return None ws = u_leave c.below None refl
    u_return (Some k) [] = tt
    u_return (Some k) (w ∷ rest) =
        way_by s c (same_kind k (kind_of w)) (r.leave c c.below (Some w)) stuck (u_leave c.below (Some w) refl) tt

  module _ (c : State H) (b : CodeBlock) (is : slice_get s.code.blocks c.block ≡ Some b) where
    way_act : (x : Instr) → slice_get b.instrs c.at ≡ Some x → Ways s c (act s b c x)
    way_act (i.PushInt n) h = (behind c b is (i.PushInt n) h (λ d. refl, refl) refl)
    way_act (i.PushBool v) h = (behind c b is (i.PushBool v) h (λ d. refl, refl) refl)
    way_act i.PushNone h = (behind c b is i.PushNone h (λ d. refl, refl) refl)
    way_act (i.LoadLocal n) h =
        u_pushes c b is (i.LoadLocal n) h c.stack (slice_get c.locals n)
        (behind c b is (i.LoadLocal n) h (λ d. refl, refl) refl)
    way_act (i.StoreLocal n) h =
        u_local c b is (i.StoreLocal n) h n (slice_get b.locals n) c.stack
        (behind c b is (i.StoreLocal n) h (λ d. refl, refl) refl)
    way_act (i.LoadShared v) h =
        u_from_scalar c b is (i.LoadShared v) h (scalar s.code.vars v)
        (behind c b is (i.LoadShared v) h (λ d. refl, refl) refl)
    way_act (i.StoreShared v) h =
        u_into_scalar c b is (i.StoreShared v) h (scalar s.code.vars v) c.stack
        (behind c b is (i.StoreShared v) h (λ d. refl, refl) refl)
    way_act (i.LoadCell v) h =
        u_from_cell c b is (i.LoadCell v) h (array s.code.vars v) c.stack
        (behind c b is (i.LoadCell v) h (λ d. refl, refl) refl)
    way_act (i.StoreCell v) h =
        u_into_cell c b is (i.StoreCell v) h (array s.code.vars v) c.stack
        (behind c b is (i.StoreCell v) h (λ d. refl, refl) refl)
    way_act (i.CheckCell v) h =
        u_over_cell c b is (i.CheckCell v) h (array s.code.vars v) c.stack
        (behind c b is (i.CheckCell v) h (λ d. refl, refl) refl)
    way_act i.LoadInput h =
        u_from_input c b is i.LoadInput h s.inputs c.stack (behind c b is i.LoadInput h (λ d. refl, refl) refl)
    way_act i.CountInput h = (behind c b is i.CountInput h (λ d. refl, refl) refl)
    way_act i.Add h = u_ints c b is i.Add h sum_of c.stack (behind c b is i.Add h (λ d. refl, refl) refl)
    way_act i.Sub h = u_ints c b is i.Sub h difference_of c.stack (behind c b is i.Sub h (λ d. refl, refl) refl)
    way_act i.Mul h = u_ints c b is i.Mul h product_of c.stack (behind c b is i.Mul h (λ d. refl, refl) refl)
    way_act i.Div h = u_ints c b is i.Div h quotient_of c.stack (behind c b is i.Div h (λ d. refl, refl) refl)
    way_act i.Rem h = u_ints c b is i.Rem h remainder_of c.stack (behind c b is i.Rem h (λ d. refl, refl) refl)
    way_act i.Neg h = u_int c b is i.Neg h negation_of c.stack (behind c b is i.Neg h (λ d. refl, refl) refl)
    way_act i.Not h = u_not c b is i.Not h c.stack (behind c b is i.Not h (λ d. refl, refl) refl)
    way_act i.Eq h = u_equality c b is i.Eq h (λ same. same) c.stack (behind c b is i.Eq h (λ d. refl, refl) refl)
    way_act i.Ne h = u_equality c b is i.Ne h not c.stack (behind c b is i.Ne h (λ d. refl, refl) refl)
    way_act i.Lt h = u_order c b is i.Lt h int_lt c.stack (behind c b is i.Lt h (λ d. refl, refl) refl)
    way_act i.Le h = u_order c b is i.Le h int_le c.stack (behind c b is i.Le h (λ d. refl, refl) refl)
    way_act i.Gt h = u_order c b is i.Gt h (λ x y. int_lt y x) c.stack (behind c b is i.Gt h (λ d. refl, refl) refl)
    way_act i.Ge h = u_order c b is i.Ge h (λ x y. int_le y x) c.stack (behind c b is i.Ge h (λ d. refl, refl) refl)
    way_act (i.Jump to) h = leap c b is (i.Jump to) h to (λ d. refl, refl) refl
    way_act (i.JumpIfFalse to) h =
        u_jump_if c b is (i.JumpIfFalse to) h false to c.stack
        (behind c b is (i.JumpIfFalse to) h (λ d. refl, refl) refl)
        (leap c b is (i.JumpIfFalse to) h to (λ d. refl, refl) refl)
    way_act (i.JumpIfTrue to) h =
        u_jump_if c b is (i.JumpIfTrue to) h true to c.stack (behind c b is (i.JumpIfTrue to) h (λ d. refl, refl) refl)
        (leap c b is (i.JumpIfTrue to) h to (λ d. refl, refl) refl)
    way_act (i.Apply n) h =
        u_apply c b is (i.Apply n) h (only is_fun (slice_get s.code.blocks n)) (slice_get s.funs n)
        (behind c b is (i.Apply n) h (λ d. refl, refl) refl)
    way_act (i.Charge line) h = u_charge c b is (i.Charge line) h line refl c.fuel refl
    way_act (i.Call n) h =
        u_call c b is (i.Call n) h n refl (only is_procedure (slice_get s.code.blocks n))
        (λ y e. only_some is_procedure (slice_get s.code.blocks n) y e)
    way_act (i.Fork n) h =
        u_fork c b is (i.Fork n) h n refl (only is_procedure (slice_get s.code.blocks n))
        (λ y e. only_some is_procedure (slice_get s.code.blocks n) y e)
    way_act i.Join h = u_join c b is i.Join h false c.stack (λ d. refl, refl) refl
    way_act (i.Print n) h =
        u_print c b is (i.Print n) h s.code.texts (slice_get s.code.layouts n)
        (behind c b is (i.Print n) h (λ d. refl, refl) refl)
    way_act i.Assert h = u_assert c b is i.Assert h c.stack (behind c b is i.Assert h (λ d. refl, refl) refl)
    way_act i.Return h = u_return c b is i.Return h b.result c.stack
    way_act i.Pop h = u_pop c b is i.Pop h c.stack (behind c b is i.Pop h (λ d. refl, refl) refl)
    way_act i.TryJoin h = u_join c b is i.TryJoin h true c.stack (λ d. refl, refl) refl

  way_at : (c : State H) (b : CodeBlock) (is : slice_get s.code.blocks c.block ≡ Some b) (o : Option Instr)
      → slice_get b.instrs c.at ≡ o → Ways s c (act_at s b c o)
  way_at c b is None h = tt
  way_at c b is (Some x) h = way_act c b is x h

  way_in : (c : State H) (o : Option CodeBlock) → slice_get s.code.blocks c.block ≡ o → Ways s c (act_in s c o)
  way_in c None is = tt
  way_in c (Some b) is = way_at c b is (slice_get b.instrs c.at) refl

  pub ways : (c : State H) → Ways s c (step s c)
  ways c = way_in c (slice_get s.code.blocks c.block) refl
