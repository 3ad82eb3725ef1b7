-- What an instruction comes to over another snapshot and under another input, which agree on what it reads.
use Rattle.std.proofs.Common.{◌≡◌, ◌∙◌, ℕ, zero, suc, Bool, true, false, cond, not, ℤ, pos, List, [], ◌∷◌, ◌++◌, length, drop, Option, Some, None, Result, Ok, Err, refl, ap}
use Rattle.std.specs.Prelude.{slice_get, slice_set, nat_lt, if◌then◌else◌, int_lt, int_le}
use Rattle.rev_num.specs.declared.value.ValueKind.{ValueKind}
use Rattle.rev_num.specs.declared.value.NumFault.{NumFault}
use Rattle.rev_num.specs.declared.outcome.Cause.{Cause}
use Rattle.rev_num.specs.declared.outcome.Cause.TheVariants as cause
use Rattle.rev_num.specs.Arith.{sum_of, difference_of, product_of, quotient_of, remainder_of, negation_of}
use Rattle.rev_num.specs.Value.{same_kind}
use Rattle.rev_code.specs.declared.code.CodeBlock.{CodeBlock}
use Rattle.rev_code.specs.declared.code.Instr.{Instr}
use Rattle.rev_code.specs.declared.code.Instr.TheVariants as i
use Rattle.rev_code.specs.declared.code.LayoutItem.{LayoutItem}
use Rattle.rev_code.specs.Words.{Word, int, bool, rev, kind_of}
use Rattle.rev_code.specs.State.{Frame, Fun, State, Setting, seen_at}
use Rattle.rev_code.specs.Variables.{Place, scalar, array, cell_at}
use Rattle.rev_code.specs.Printing.{printed_kinds}
use Rattle.rev_code.specs.Step as r
use Rattle.rev_code.specs.Step.{Comes, goes, traps, forks, joins, ends, stuck, act, act_at, act_in, step, onward, reach, only, is_fun, is_procedure, arguments, value_at, params}
use Rattle.code_machine_laws.specs.Reads.{Read, count, of_place, of_scalar, of_cell, of_input, act_reads, reads_at, reads_in, step_reads, then_reads, reach_reads}
use Rattle.code_machine_laws.specs.Moved.{over, moved, moved_comes, AllAgree}
use Rattle.code_machine_laws.specs.ReadLaws.{with_inputs}
use Rattle.code_machine_laws.proofs.Snapshots.{seen_over, written_over, place_over, agree_first, agree_rest, input_too, index_too}

module _ {H : Type 0} (ys : List (Word H)) where
  abbrev cm : Comes H → Comes H
  cm o = moved_comes ys o

  n_if : (d : Bool) (x y : Comes H) → cond d (cm x) (cm y) ≡ cm (cond d x y)
  n_if true x y = refl
  n_if false x y = refl

  module _ (c : State H) where
    abbrev c' : State H
    c' = moved ys c

    n_number : (rest : List (Word H)) (v : Result ℤ NumFault) → r.number c' rest v ≡ cm (r.number c rest v)
    n_number rest (Ok z) = refl
    n_number rest (Err e) = refl

    n_ints : (g : ℤ → ℤ → Result ℤ NumFault) (ws : List (Word H)) → r.of_ints g c' ws ≡ cm (r.of_ints g c ws)
    n_ints g (int y ∷ int x ∷ rest) = n_number rest (g x y)
    n_ints g _ = refl

    n_int : (g : ℤ → Result ℤ NumFault) (ws : List (Word H)) → r.of_int g c' ws ≡ cm (r.of_int g c ws)
    n_int g (int x ∷ rest) = n_number rest (g x)
    n_int g _ = refl

    n_not : (ws : List (Word H)) → r.of_bool c' ws ≡ cm (r.of_bool c ws)
    n_not (bool b ∷ rest) = refl
    n_not _ = refl

    n_equality : (t : Bool → Bool) (ws : List (Word H)) → r.equality t c' ws ≡ cm (r.equality t c ws)
    n_equality t (int y ∷ int x ∷ rest) = refl
    n_equality t (bool y ∷ bool x ∷ rest) = refl
    n_equality t _ = refl

    n_order : (g : ℤ → ℤ → Bool) (ws : List (Word H)) → r.order g c' ws ≡ cm (r.order g c ws)
    n_order g (int y ∷ int x ∷ rest) = refl
    n_order g _ = refl

    n_pushes : (rest : List (Word H)) (o : Option (Word H)) → r.pushes c' rest o ≡ cm (r.pushes c rest o)
    n_pushes rest None = refl
    n_pushes rest (Some w) = refl

    n_local : (n : ℕ) (o : Option ValueKind) (ws : List (Word H)) → r.into_local c' n o ws ≡ cm (r.into_local c n o ws)
    n_local n (Some x) (w ∷ rest) =
        n_if (same_kind x (kind_of w))
        (goes (record c { at = suc c.at; stack = rest; locals = slice_set c.locals n w })) stuck
    n_local n (Some x) [] = refl
    n_local n None ws = refl

    n_write : (rest : List (Word H)) (l : ℕ) (w : Word H) → r.after_write c' rest l w ≡ cm (r.after_write c rest l w)
    n_write rest l w =
        let e = written_over c.locations ys l w in λ j. goes (record c { at = suc c.at; stack = rest; locations = e j })

    n_into_scalar : (o : Option Place) (ws : List (Word H)) → r.into_scalar c' o ws ≡ cm (r.into_scalar c o ws)
    n_into_scalar (Some q) (w ∷ rest) =
        let b = n_write rest q.first w in
        (λ j. if same_kind q.var.kind (kind_of w) then b j else stuck)
        ∙ n_if (same_kind q.var.kind (kind_of w)) (r.after_write c rest q.first w) stuck
    n_into_scalar (Some q) [] = refl
    n_into_scalar None ws = refl

    n_write_cell : (rest : List (Word H)) (w : Word H) (o : Option ℕ)
        → r.write_cell c' rest w o ≡ cm (r.write_cell c rest w o)
    n_write_cell rest w None = refl
    n_write_cell rest w (Some l) = n_write rest l w

    n_into_cell : (o : Option Place) (ws : List (Word H)) → r.into_cell c' o ws ≡ cm (r.into_cell c o ws)
    n_into_cell (Some q) (w ∷ int n ∷ rest) =
        let b = n_write_cell rest w (cell_at q n) in
        (λ j. if same_kind q.var.kind (kind_of w) then b j else stuck)
        ∙ n_if (same_kind q.var.kind (kind_of w)) (r.write_cell c rest w (cell_at q n)) stuck
    n_into_cell _ _ = refl

    n_test : (o : Option ℕ) → r.test_cell c' o ≡ cm (r.test_cell c o)
    n_test None = refl
    n_test (Some l) = refl

    n_over_cell : (o : Option Place) (ws : List (Word H)) → r.over_cell c' o ws ≡ cm (r.over_cell c o ws)
    n_over_cell (Some q) (int n ∷ rest) = n_test (cell_at q n)
    n_over_cell _ _ = refl

    n_input : (rest : List (Word H)) (o : Option ℤ) → r.read_input c' rest o ≡ cm (r.read_input c rest o)
    n_input rest None = refl
    n_input rest (Some z) = refl

    n_jump_if : (d : Bool) (to : ℕ) (ws : List (Word H)) → r.jump_if d to c' ws ≡ cm (r.jump_if d to c ws)
    n_jump_if true to (bool b ∷ rest) = refl
    n_jump_if false to (bool b ∷ rest) = refl
    n_jump_if true to [] = refl
    n_jump_if true to (int n ∷ rest) = refl
    n_jump_if true to (rev n ∷ rest) = refl
    n_jump_if false to [] = refl
    n_jump_if false to (int n ∷ rest) = refl
    n_jump_if false to (rev n ∷ rest) = refl

    n_value : (rest : List (Word H)) (o : Option (Result (Word H) Cause))
        → r.value_or_trap c' rest o ≡ cm (r.value_or_trap c rest o)
    n_value rest None = refl
    n_value rest (Some (Ok w)) = refl
    n_value rest (Some (Err e)) = refl

    n_apply_to : (x : Option (Fun H)) (o : Option (List (Word H))) → r.apply_to c' x o ≡ cm (r.apply_to c x o)
    n_apply_to x None = refl
    n_apply_to x (Some args) = n_value (drop (length args) c.stack) (value_at x args)

    n_apply : (o : Option CodeBlock) (x : Option (Fun H)) → r.apply c' o x ≡ cm (r.apply c o x)
    n_apply None x = refl
    n_apply (Some b) x = n_apply_to x (arguments (params b) c.stack)

    n_charge : (line fuel : ℕ) → r.charge c' line fuel ≡ cm (r.charge c line fuel)
    n_charge line zero = refl
    n_charge line (suc fuel) = refl

    n_call_with : (n : ℕ) (b : CodeBlock) (o : Option (List (Word H))) → r.call_with c' n b o ≡ cm (r.call_with c n b o)
    n_call_with n b None = refl
    n_call_with n b (Some args) =
        n_if (nat_lt (suc (length c.below)) r.most_frames) (goes (r.enter c n b args)) (traps c cause.CallDepth)

    n_call : (n : ℕ) (o : Option CodeBlock) → r.call c' n o ≡ cm (r.call c n o)
    n_call n None = refl
    n_call n (Some b) = n_call_with n b (arguments (params b) c.stack)

    n_fork_with : (n : ℕ) (o : Option (List (Word H))) → r.fork_with c' n o ≡ cm (r.fork_with c n o)
    n_fork_with n None = refl
    n_fork_with n (Some args) = refl

    n_fork : (n : ℕ) (o : Option CodeBlock) → r.fork c' n o ≡ cm (r.fork c n o)
    n_fork n None = refl
    n_fork n (Some b) = n_fork_with n (arguments (params b) c.stack)

    n_join : (try : Bool) (ws : List (Word H)) → r.join c' try ws ≡ cm (r.join c try ws)
    n_join try (rev (Some h) ∷ rest) = refl
    n_join try (rev None ∷ rest) = refl
    n_join try _ = refl

    n_leave : (fs : List (Frame H)) (w : Option (Word H)) → r.leave c' fs w ≡ cm (r.leave c fs w)
    n_leave [] w = refl
    n_leave (x ∷ fs) w = refl

    n_return : (o : Option ValueKind) (ws : List (Word H)) → r.return c' o ws ≡ cm (r.return c o ws)
    n_return None ws = n_leave c.below None
    n_return (Some x) [] = refl
    n_return (Some x) (w ∷ rest) =
        let b = n_leave c.below (Some w) in
        (λ j. if same_kind x (kind_of w) then b j else stuck)
        ∙ n_if (same_kind x (kind_of w)) (r.leave c c.below (Some w)) stuck

    n_print_with : (texts : List (List ℕ)) (items : List LayoutItem) (o : Option (List (Word H)))
        → r.print_with texts c' items o ≡ cm (r.print_with texts c items o)
    n_print_with texts items None = refl
    n_print_with texts items (Some ws) = refl

    n_print : (texts : List (List ℕ)) (o : Option (List LayoutItem)) → r.print texts c' o ≡ cm (r.print texts c o)
    n_print texts None = refl
    n_print texts (Some items) = n_print_with texts items (arguments (printed_kinds items) c.stack)

    n_assert : (ws : List (Word H)) → r.assert c' ws ≡ cm (r.assert c ws)
    n_assert (bool b ∷ rest) = n_if b (r.on c rest) (traps c cause.Assert)
    n_assert _ = refl

    n_pop : (ws : List (Word H)) → r.pop c' ws ≡ cm (r.pop c ws)
    n_pop [] = refl
    n_pop (w ∷ rest) = refl

    -- ---- those that read

    module _ (inputs inputs' : List ℤ) where
      abbrev Agree : List (Read H) → Type 0
      Agree rs = AllAgree ys inputs' rs

      n_from_scalar : (o : Option Place) → Agree (of_scalar c.locations o) → r.from_scalar c' o ≡ cm (r.from_scalar c o)
      n_from_scalar None h = refl
      n_from_scalar (Some q) h =
          ap (r.pushes c' c.stack) (seen_over c.locations ys inputs' q.first h)
          ∙ n_pushes c.stack (seen_at c.locations q.first)

      n_read : (rest : List (Word H)) (o : Option ℕ) → Agree (of_place c.locations o)
          → r.read_cell c' rest o ≡ cm (r.read_cell c rest o)
      n_read rest None h = refl
      n_read rest (Some l) h =
          ap (r.pushes c' rest) (seen_over c.locations ys inputs' l h) ∙ n_pushes rest (seen_at c.locations l)

      n_from_cell : (o : Option Place) (ws : List (Word H)) → Agree (of_cell c.locations o ws)
          → r.from_cell c' o ws ≡ cm (r.from_cell c o ws)
      n_from_cell (Some q) (int n ∷ rest) h = n_read rest (cell_at q n) h
      n_from_cell _ _ h = refl

      n_from_input : (ws : List (Word H)) → Agree (of_input inputs ws)
          → r.from_input inputs' c' ws ≡ cm (r.from_input inputs c ws)
      n_from_input (int n ∷ rest) h =
          ap (r.read_input c' rest) (input_too ys inputs inputs' n h) ∙ n_input rest (r.input_at inputs n)
      n_from_input _ h = refl

module _ {H : Type 0} (s : Setting H) (ys : List (Word H)) (inputs : List ℤ) (share : ℕ) where
  abbrev s' : Setting H
  s' = with_inputs s inputs share

  abbrev Alike : List (Read H) → Type 0
  Alike rs = AllAgree ys inputs rs

  act_same : (b : CodeBlock) (c : State H) (x : Instr) → Alike (act_reads s c x)
      → act s' b (moved ys c) x ≡ moved_comes ys (act s b c x)
  act_same b c (i.PushInt n) h = refl
  act_same b c (i.PushBool v) h = refl
  act_same b c i.PushNone h = refl
  act_same b c (i.LoadLocal n) h = n_pushes ys c c.stack (slice_get c.locals n)
  act_same b c (i.StoreLocal n) h = n_local ys c n (slice_get b.locals n) c.stack
  act_same b c (i.LoadShared v) h = n_from_scalar ys c s.inputs inputs (scalar s.code.vars v) h
  act_same b c (i.StoreShared v) h = n_into_scalar ys c (scalar s.code.vars v) c.stack
  act_same b c (i.LoadCell v) h = n_from_cell ys c s.inputs inputs (array s.code.vars v) c.stack h
  act_same b c (i.StoreCell v) h = n_into_cell ys c (array s.code.vars v) c.stack
  act_same b c (i.CheckCell v) h = n_over_cell ys c (array s.code.vars v) c.stack
  act_same b c i.LoadInput h = n_from_input ys c s.inputs inputs c.stack h
  act_same b c i.CountInput h = ap (λ n. r.on (moved ys c) (int (pos n) ∷ c.stack)) h.0
  act_same b c i.Add h = n_ints ys c sum_of c.stack
  act_same b c i.Sub h = n_ints ys c difference_of c.stack
  act_same b c i.Mul h = n_ints ys c product_of c.stack
  act_same b c i.Div h = n_ints ys c quotient_of c.stack
  act_same b c i.Rem h = n_ints ys c remainder_of c.stack
  act_same b c i.Neg h = n_int ys c negation_of c.stack
  act_same b c i.Not h = n_not ys c c.stack
  act_same b c i.Eq h = n_equality ys c (λ e. e) c.stack
  act_same b c i.Ne h = n_equality ys c not c.stack
  act_same b c i.Lt h = n_order ys c int_lt c.stack
  act_same b c i.Le h = n_order ys c int_le c.stack
  act_same b c i.Gt h = n_order ys c (λ x y. int_lt y x) c.stack
  act_same b c i.Ge h = n_order ys c (λ x y. int_le y x) c.stack
  act_same b c (i.Jump to) h = refl
  act_same b c (i.JumpIfFalse to) h = n_jump_if ys c false to c.stack
  act_same b c (i.JumpIfTrue to) h = n_jump_if ys c true to c.stack
  act_same b c (i.Apply n) h = n_apply ys c (only is_fun (slice_get s.code.blocks n)) (slice_get s.funs n)
  act_same b c (i.Charge line) h = n_charge ys c line c.fuel
  act_same b c (i.Call n) h = n_call ys c n (only is_procedure (slice_get s.code.blocks n))
  act_same b c (i.Fork n) h = n_fork ys c n (only is_procedure (slice_get s.code.blocks n))
  act_same b c i.Join h = n_join ys c false c.stack
  act_same b c (i.Print n) h = n_print ys c s.code.texts (slice_get s.code.layouts n)
  act_same b c i.Assert h = n_assert ys c c.stack
  act_same b c i.Return h = n_return ys c b.result c.stack
  act_same b c i.Pop h = n_pop ys c c.stack
  act_same b c i.TryJoin h = n_join ys c true c.stack

  at_same : (b : CodeBlock) (c : State H) (o : Option Instr) → Alike (reads_at s c o)
      → act_at s' b (moved ys c) o ≡ moved_comes ys (act_at s b c o)
  at_same b c None h = refl
  at_same b c (Some x) h = act_same b c x h

  in_same : (c : State H) (o : Option CodeBlock) → Alike (reads_in s c o)
      → act_in s' (moved ys c) o ≡ moved_comes ys (act_in s c o)
  in_same c None h = refl
  in_same c (Some b) h = at_same b c (slice_get b.instrs c.at) h

  pub step_same : (c : State H) → Alike (step_reads s c) → step s' (moved ys c) ≡ moved_comes ys (step s c)
  step_same c h = in_same c (slice_get s.code.blocks c.block) h

  -- ---- what is read

  cell_reads : (c : State H) (o : Option Place) (ws : List (Word H)) → Alike (of_cell c.locations o ws)
      → of_cell (over ys c.locations) o ws ≡ of_cell c.locations o ws
  cell_reads c (Some q) (int n ∷ rest) h = place_over c.locations ys inputs (cell_at q n) h
  cell_reads c _ _ h = refl

  scalar_reads : (c : State H) (o : Option Place) → Alike (of_scalar c.locations o)
      → of_scalar (over ys c.locations) o ≡ of_scalar c.locations o
  scalar_reads c None h = refl
  scalar_reads c (Some q) h = place_over c.locations ys inputs (Some q.first) h

  input_reads : (ws : List (Word H)) → Alike (of_input s.inputs ws) → of_input inputs ws ≡ of_input s.inputs ws
  input_reads (int n ∷ rest) h = index_too ys s.inputs inputs n h
  input_reads _ h = refl

  reads_same : (c : State H) (x : Instr) → Alike (act_reads s c x) → act_reads s' (moved ys c) x ≡ act_reads s c x
  reads_same c (i.LoadShared v) h = scalar_reads c (scalar s.code.vars v) h
  reads_same c (i.LoadCell v) h = cell_reads c (array s.code.vars v) c.stack h
  reads_same c i.LoadInput h = input_reads c.stack h
  reads_same c i.CountInput h = ap (λ k. count k ∷ []) h.0
  reads_same c _ h = refl

  reads_at_same : (c : State H) (o : Option Instr) → Alike (reads_at s c o)
      → reads_at s' (moved ys c) o ≡ reads_at s c o
  reads_at_same c None h = refl
  reads_at_same c (Some x) h = reads_same c x h

  reads_in_same : (c : State H) (o : Option CodeBlock) → Alike (reads_in s c o)
      → reads_in s' (moved ys c) o ≡ reads_in s c o
  reads_in_same c None h = refl
  reads_in_same c (Some b) h = reads_at_same c (slice_get b.instrs c.at) h

  pub step_reads_same : (c : State H) → Alike (step_reads s c) → step_reads s' (moved ys c) ≡ step_reads s c
  step_reads_same c h = reads_in_same c (slice_get s.code.blocks c.block) h

  -- ---- several steps

  abbrev Both : (k : ℕ) → State H → Type 0
  Both k c = (reach s' k (moved ys c) ≡ moved_comes ys (reach s k c))
      × (reach_reads s' k (moved ys c) ≡ reach_reads s k c)

  abbrev Onward : (k : ℕ) → Comes H → Type 0
  Onward k o =
      (onward (λ d. reach s' k d) (moved_comes ys o) ≡ moved_comes ys (onward (λ d. reach s k d) o))
      × (then_reads (λ d. reach_reads s' k d) (moved_comes ys o) ≡ then_reads (λ d. reach_reads s k d) o)

  onward_same : (k : ℕ) → ((d : State H) → Alike (reach_reads s k d) → Both k d) → (o : Comes H)
      → Alike (then_reads (λ d. reach_reads s k d) o) → Onward k o
  onward_same k rec (goes d) h = rec d h
  onward_same k rec (traps d x) h = (refl, refl)
  onward_same k rec (forks d n args) h = (refl, refl)
  onward_same k rec (joins d try m) h = (refl, refl)
  onward_same k rec (ends d w) h = (refl, refl)
  onward_same k rec stuck h = (refl, refl)

  pub reach_same : (k : ℕ) (c : State H) → Alike (reach_reads s k c) → Both k c
  reach_same zero c h = (step_same c h, step_reads_same c h)
  reach_same (suc k) c h =
      let now = agree_first ys inputs (step_reads s c) (then_reads (λ d. reach_reads s k d) (step s c)) h in
      let later = agree_rest ys inputs (step_reads s c) (then_reads (λ d. reach_reads s k d) (step s c)) h in
      let here = step_same c now in
      let read = step_reads_same c now in
      let rest = onward_same k (λ d. reach_same k d) (step s c) later in (
        ap (onward (λ d. reach s' k d)) here ∙ rest.0,
        (λ j. read j ++ then_reads (λ d. reach_reads s' k d) (here j)) ∙ ap (λ z. step_reads s c ++ z) rest.1,
      )
