-- One lemma for each form that the rows of the table of instructions have: where the words that it takes are there, it
-- comes to what its row says.
use Rattle.std.proofs.Common.{◌≡◌, ◌∙◌, ℕ, zero, suc, inl, inr, Bool, true, false, not, ℤ, List, [], ◌∷◌, ◌++◌, length, drop, reverse, Option, Some, None, refl, sym, ap, subst, true≢false}
use Rattle.std.specs.Prelude.{slice_set, if◌then◌else◌, Result, Ok, Err}
use Rattle.rev_num.specs.declared.value.ValueKind.{ValueKind}
use Rattle.rev_num.specs.declared.value.ValueKind.TheVariants as k
use Rattle.rev_num.specs.declared.value.NumFault.{NumFault}
use Rattle.rev_num.specs.declared.value.NumFault.TheVariants as fault
use Rattle.rev_num.specs.declared.outcome.Cause.{Cause}
use Rattle.rev_num.specs.declared.outcome.Cause.TheVariants as cause
use Rattle.rev_num.specs.Value.{same_kind}
use Rattle.rev_num.proofs.SameKinds.{same_kind_is}
use Rattle.rev_code.specs.declared.code.BlockClass.{BlockClass}
use Rattle.rev_code.specs.declared.code.BlockClass.TheVariants as class
use Rattle.rev_code.specs.declared.code.CodeBlock.{CodeBlock}
use Rattle.rev_code.specs.declared.code.LayoutItem.{LayoutItem}
use Rattle.rev_code.specs.Words.{Word, int, bool, rev, kind_of}
use Rattle.rev_code.specs.State.{Fun, Setting, State, seen_at}
use Rattle.rev_code.specs.Variables.{Place, cell_at}
use Rattle.rev_code.specs.Printing.{line_of, printed_kinds}
use Rattle.rev_code.specs.Step as r
use Rattle.rev_code.specs.Step.{Comes, goes, traps, stuck, on, only, is_fun, is_procedure, params, value_at}
use Rattle.code_rules.specs.Shapes.{begins, compared, any_kind, param_kinds, result_kinds, one_or_none, layout_kinds}
use Rattle.code_rules.specs.Pass.{Note, has_class, is_layout, is_value_class}
use Rattle.code_soundness.specs.Typed.{kinds_of}
use Rattle.code_soundness.specs.Funs.{HasValue}
use Rattle.code_soundness.proofs.Lists.{and_parts, Taken, taken}
use Rattle.code_soundness.proofs.Well.{Well}

pub fun_evaluates : (x : BlockClass) → is_fun x ≡ true → is_value_class x ≡ true
fun_evaluates class.Fun h = refl
fun_evaluates class.Merge h = absurd (true≢false (sym h))
fun_evaluates class.Proc h = absurd (true≢false (sym h))
fun_evaluates class.Main h = absurd (true≢false (sym h))

pub procedure_runs : (x : BlockClass) → is_procedure x ≡ true → is_value_class x ≡ false
procedure_runs class.Proc h = refl
procedure_runs class.Fun h = absurd (true≢false (sym h))
procedure_runs class.Merge h = absurd (true≢false (sym h))
procedure_runs class.Main h = absurd (true≢false (sym h))

module _ {H : Type 0} (s : Setting H) (notes : ℕ → ℕ → Note) (c : State H) (b : CodeBlock) where
  abbrev W : Comes H → Type 0
  W o = Well s notes c b o

  -- on to the next instruction, with a stack of these kinds
  abbrev Next : List ValueKind → Type 0
  Next kinds = (stack : List (Word H)) → kinds_of stack ≡ kinds → W (on c stack)

  -- a trap of an instruction that no fun has
  pub no_fun : is_value_class b.class ≡ false → (c' : State H) (e : Cause) → W (traps c' e)
  no_fun p c' e q = absurd (true≢false (sym q ∙ p))

  pub if_true : (d : Bool) (x y : Comes H) → d ≡ true → W x → W (if d then x else y)
  if_true true x y e h = h
  if_true false x y e h = absurd (true≢false (sym e))

  pub number_case : (rest : List (Word H)) (v : Result ℤ NumFault) → ((z : ℤ) → W (on c (int z ∷ rest)))
      → W (r.number c rest v)
  number_case rest (Ok z) next = next z
  number_case rest (Err fault.Overflow) next = λ q. inl refl
  number_case rest (Err fault.ZeroDivisor) next = λ q. inr refl

  pub ints_case : (f : ℤ → ℤ → Result ℤ NumFault) (ws : List (Word H))
      → begins (k.Int ∷ k.Int ∷ []) (kinds_of ws) ≡ true → Next (k.Int ∷ drop 2 (kinds_of ws)) → W (r.of_ints f c ws)
  ints_case f (int y ∷ int x ∷ rest) h next = number_case rest (f x y) (λ z. next (int z ∷ rest) refl)
  ints_case f _ h next = absurd (true≢false (sym h))

  pub int_case : (f : ℤ → Result ℤ NumFault) (ws : List (Word H)) → begins (k.Int ∷ []) (kinds_of ws) ≡ true
      → Next (k.Int ∷ drop 1 (kinds_of ws)) → W (r.of_int f c ws)
  int_case f (int x ∷ rest) h next = number_case rest (f x) (λ z. next (int z ∷ rest) refl)
  int_case f _ h next = absurd (true≢false (sym h))

  pub not_case : (ws : List (Word H)) → begins (k.Bool ∷ []) (kinds_of ws) ≡ true → Next (k.Bool ∷ drop 1 (kinds_of ws))
      → W (r.of_bool c ws)
  not_case (bool y ∷ rest) h next = next (bool (not y) ∷ rest) refl
  not_case _ h next = absurd (true≢false (sym h))

  pub equality_case : (turned : Bool → Bool) (ws : List (Word H))
      → begins (compared (kinds_of ws) ∷ compared (kinds_of ws) ∷ []) (kinds_of ws) ≡ true
      → Next (k.Bool ∷ drop 2 (kinds_of ws)) → W (r.equality turned c ws)
  equality_case turned (int y ∷ int x ∷ rest) h next = next (bool _ ∷ rest) refl
  equality_case turned (bool y ∷ bool x ∷ rest) h next = next (bool _ ∷ rest) refl
  equality_case turned _ h next = absurd (true≢false (sym h))

  pub order_case : (f : ℤ → ℤ → Bool) (ws : List (Word H)) → begins (k.Int ∷ k.Int ∷ []) (kinds_of ws) ≡ true
      → Next (k.Bool ∷ drop 2 (kinds_of ws)) → W (r.order f c ws)
  order_case f (int y ∷ int x ∷ rest) h next = next (bool (f x y) ∷ rest) refl
  order_case f _ h next = absurd (true≢false (sym h))

  -- ---- locals and locations

  pub push_case : (rest : List (Word H)) (o : Option (Word H)) (w : Word H) → o ≡ Some w → W (on c (w ∷ rest))
      → W (r.pushes c rest o)
  push_case rest o w e h = subst (λ z. W (r.pushes c rest z)) (sym e) h

  pub local_case : (n : ℕ) (x : ValueKind) (ws : List (Word H)) → begins (x ∷ []) (kinds_of ws) ≡ true
      → ((w : Word H) (rest : List (Word H)) → kind_of w ≡ x → kinds_of rest ≡ drop 1 (kinds_of ws)
      → W (goes (record c { at = suc c.at; stack = rest; locals = slice_set c.locals n w })))
      → W (r.into_local c n (Some x) ws)
  local_case n x [] h next = absurd (true≢false (sym h))
  local_case n x (w ∷ rest) h next =
      let e = (and_parts (same_kind x (kind_of w)) true h).0 in
      if_true (same_kind x (kind_of w))
      (goes (record c { at = suc c.at; stack = rest; locals = slice_set c.locals n w })) stuck e
      (next w rest (sym (same_kind_is x (kind_of w) e)) refl)

  -- what is behind a write of a word of this kind
  abbrev Writes : ℕ → ValueKind → List ValueKind → Type 0
  Writes l x kinds =
      (w : Word H) (rest : List (Word H)) → kind_of w ≡ x → kinds_of rest ≡ kinds → W (r.after_write c rest l w)

  pub into_scalar_case : (p : Place) (ws : List (Word H)) → begins (p.var.kind ∷ []) (kinds_of ws) ≡ true
      → Writes p.first p.var.kind (drop 1 (kinds_of ws)) → W (r.into_scalar c (Some p) ws)
  into_scalar_case p [] h next = absurd (true≢false (sym h))
  into_scalar_case p (w ∷ rest) h next =
      let e = (and_parts (same_kind p.var.kind (kind_of w)) true h).0 in
      if_true (same_kind p.var.kind (kind_of w)) (r.after_write c rest p.first w) stuck e
      (next w rest (sym (same_kind_is p.var.kind (kind_of w) e)) refl)

  read_case : is_value_class b.class ≡ false → (rest : List (Word H)) (o : Option ℕ)
      → ((l : ℕ) → o ≡ Some l → (w : Word H) × (seen_at c.locations l ≡ Some w) × W (on c (w ∷ rest)))
      → W (r.read_cell c rest o)
  read_case p rest None next = no_fun p c cause.Index
  read_case p rest (Some l) next = let q = next l refl in push_case rest (seen_at c.locations l) q.0 q.1 q.2

  pub from_cell_case : is_value_class b.class ≡ false → (p : Place) (ws : List (Word H))
      → begins (k.Int ∷ []) (kinds_of ws) ≡ true
      → ((i : ℤ) (rest : List (Word H)) (l : ℕ) → cell_at p i ≡ Some l → kinds_of rest ≡ drop 1 (kinds_of ws)
      → (w : Word H) × (seen_at c.locations l ≡ Some w) × W (on c (w ∷ rest)))
      → W (r.from_cell c (Some p) ws)
  from_cell_case q p (int n ∷ rest) h next = read_case q rest (cell_at p n) (λ l e. next n rest l e refl)
  from_cell_case q p _ h next = absurd (true≢false (sym h))

  write_case : is_value_class b.class ≡ false → (rest : List (Word H)) (w : Word H) (o : Option ℕ)
      → ((l : ℕ) → o ≡ Some l → W (r.after_write c rest l w)) → W (r.write_cell c rest w o)
  write_case p rest w None next = no_fun p c cause.Index
  write_case p rest w (Some l) next = next l refl

  pub into_cell_case : is_value_class b.class ≡ false → (p : Place) (ws : List (Word H))
      → begins (p.var.kind ∷ k.Int ∷ []) (kinds_of ws) ≡ true
      → ((i : ℤ) (l : ℕ) → cell_at p i ≡ Some l → Writes l p.var.kind (drop 2 (kinds_of ws)))
      → W (r.into_cell c (Some p) ws)
  into_cell_case q p (w ∷ int n ∷ rest) h next =
      let e = (and_parts (same_kind p.var.kind (kind_of w)) true h).0 in
      if_true (same_kind p.var.kind (kind_of w)) (r.write_cell c rest w (cell_at p n)) stuck e
      (write_case q rest w (cell_at p n)
      (λ l is. next n l is w rest (sym (same_kind_is p.var.kind (kind_of w) e)) refl))
  into_cell_case q p [] h next = absurd (true≢false (sym h))
  into_cell_case q p (w ∷ []) h next =
      absurd (true≢false (sym (and_parts (same_kind p.var.kind (kind_of w)) false h).1))
  into_cell_case q p (w ∷ bool v ∷ rest) h next =
      absurd (true≢false (sym (and_parts (same_kind p.var.kind (kind_of w)) false h).1))
  into_cell_case q p (w ∷ rev v ∷ rest) h next =
      absurd (true≢false (sym (and_parts (same_kind p.var.kind (kind_of w)) false h).1))

  test_case : is_value_class b.class ≡ false → (o : Option ℕ) → W (on c c.stack) → W (r.test_cell c o)
  test_case p None next = no_fun p c cause.Index
  test_case p (Some l) next = next

  pub over_cell_case : is_value_class b.class ≡ false → (p : Place) (ws : List (Word H))
      → begins (k.Int ∷ []) (kinds_of ws) ≡ true → (k.Int ∷ drop 1 (kinds_of ws) ≡ kinds_of ws → W (on c c.stack))
      → W (r.over_cell c (Some p) ws)
  over_cell_case q p (int n ∷ rest) h next = test_case q (cell_at p n) (next refl)
  over_cell_case q p _ h next = absurd (true≢false (sym h))

  input_case : is_value_class b.class ≡ false → (rest : List (Word H)) (o : Option ℤ)
      → ((z : ℤ) → W (on c (int z ∷ rest))) → W (r.read_input c rest o)
  input_case p rest None next = no_fun p c cause.Index
  input_case p rest (Some z) next = next z

  pub from_input_case : is_value_class b.class ≡ false → (inputs : List ℤ) (ws : List (Word H))
      → begins (k.Int ∷ []) (kinds_of ws) ≡ true → Next (k.Int ∷ drop 1 (kinds_of ws)) → W (r.from_input inputs c ws)
  from_input_case p inputs (int n ∷ rest) h next =
      input_case p rest (r.input_at inputs n) (λ z. next (int z ∷ rest) refl)
  from_input_case p inputs _ h next = absurd (true≢false (sym h))

  -- ---- jumps

  -- to this place, with a stack of these kinds
  abbrev Leaps : ℕ → List ValueKind → Type 0
  Leaps to kinds = (stack : List (Word H)) → kinds_of stack ≡ kinds → W (goes (record c { at = to; stack = stack }))

  way : (d : Bool) (u v : ℕ) (rest : List (Word H)) → W (goes (record c { at = u; stack = rest }))
      → W (goes (record c { at = v; stack = rest })) → W (goes (record c { at = (if d then u else v); stack = rest }))
  way true u v rest f g = f
  way false u v rest f g = g

  pub jump_case : (wanted : Bool) (to : ℕ) (ws : List (Word H)) → begins (k.Bool ∷ []) (kinds_of ws) ≡ true
      → Next (drop 1 (kinds_of ws)) → Leaps to (drop 1 (kinds_of ws)) → W (r.jump_if wanted to c ws)
  jump_case true to (bool v ∷ rest) h next leap = way v to (suc c.at) rest (leap rest refl) (next rest refl)
  jump_case false to (bool v ∷ rest) h next leap = way v (suc c.at) to rest (next rest refl) (leap rest refl)
  jump_case true to [] h next leap = absurd (true≢false (sym h))
  jump_case true to (int n ∷ rest) h next leap = absurd (true≢false (sym h))
  jump_case true to (rev n ∷ rest) h next leap = absurd (true≢false (sym h))
  jump_case false to [] h next leap = absurd (true≢false (sym h))
  jump_case false to (int n ∷ rest) h next leap = absurd (true≢false (sym h))
  jump_case false to (rev n ∷ rest) h next leap = absurd (true≢false (sym h))

  pub charge_case : is_value_class b.class ≡ false → (line fuel : ℕ)
      → ((f : ℕ) → W (goes (record c { at = suc c.at; fuel = f; line = line }))) → W (r.charge c line fuel)
  charge_case p line zero next = no_fun p (record c { line = line }) cause.Spent
  charge_case p line (suc f) next = next f

  -- ---- arguments

  value_case : (result' : Option ValueKind) (rest : List (Word H)) (o : Option (Result (Word H) Cause))
      → HasValue result' o → ((w : Word H) → result' ≡ Some (kind_of w) → W (on c (w ∷ rest)))
      → W (r.value_or_trap c rest o)
  value_case result' rest None h next = absurd h
  value_case result' rest (Some (Ok w)) h next = next w h
  value_case result' rest (Some (Err e)) h next = λ q. h

  pub apply_case : (o : Option CodeBlock) (f : Option (Fun H)) → has_class is_fun o ≡ true
      → begins (reverse (param_kinds o)) (kinds_of c.stack) ≡ true
      → ((y : CodeBlock) → o ≡ Some y → is_value_class y.class ≡ true → (args : List (Word H))
      → kinds_of args ≡ params y → HasValue y.result (value_at f args))
      → Next (result_kinds o ++ drop (length (reverse (param_kinds o))) (kinds_of c.stack))
      → W (r.apply c (only is_fun o) f)
  apply_case None f h g value next = absurd (true≢false (sym h))
  apply_case (Some y) f h g value next =
      subst (λ d. W (r.apply c (if d then Some y else None) f)) (sym h)
      (subst (λ z. W (r.apply_to c f z)) (sym t.is)
      (value_case y.result (drop (length t.args) c.stack) (value_at f t.args)
      (value y refl (fun_evaluates y.class h) t.args t.same)
      (λ w e. next (w ∷ drop (length t.args) c.stack)
      ((λ j. kind_of w ∷ t.left j)
      ∙ ap (λ z. one_or_none z ++ drop (length (reverse (params y))) (kinds_of c.stack)) (sym e)))))
    where
      t : Taken (params y) c.stack
      t = taken (params y) c.stack g

  pub print_case : (texts : List (List ℕ)) (o : Option (List LayoutItem)) → is_layout o ≡ true
      → begins (reverse (layout_kinds o)) (kinds_of c.stack) ≡ true
      → ((stack : List (Word H)) (text : List ℕ)
      → kinds_of stack ≡ drop (length (reverse (layout_kinds o))) (kinds_of c.stack)
      → W (goes (record c { at = suc c.at; stack = stack; text = text })))
      → W (r.print texts c o)
  print_case texts None h g next = absurd (true≢false (sym h))
  print_case texts (Some items) h g next =
      let t = taken (printed_kinds items) c.stack g in
      subst (λ z. W (r.print_with texts c items z)) (sym t.is)
      (next (drop (length t.args) c.stack) (c.text ++ line_of texts items t.args) t.left)

  -- ---- the others

  pub assert_case : is_value_class b.class ≡ false → (ws : List (Word H)) → begins (k.Bool ∷ []) (kinds_of ws) ≡ true
      → Next (drop 1 (kinds_of ws)) → W (r.assert c ws)
  assert_case p (bool true ∷ rest) h next = next rest refl
  assert_case p (bool false ∷ rest) h next = no_fun p c cause.Assert
  assert_case p [] h next = absurd (true≢false (sym h))
  assert_case p (int n ∷ rest) h next = absurd (true≢false (sym h))
  assert_case p (rev n ∷ rest) h next = absurd (true≢false (sym h))

  pub pop_case : (ws : List (Word H)) → begins (any_kind (kinds_of ws) ∷ []) (kinds_of ws) ≡ true
      → Next (drop 1 (kinds_of ws)) → W (r.pop c ws)
  pop_case (w ∷ rest) h next = next rest refl
  pop_case [] h next = absurd (true≢false (sym h))
