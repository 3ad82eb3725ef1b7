-- The code of an expression gives its value.
use Rattle.std.proofs.Common.{◌≡◌, ◌∙◌, ◌<◌, ℕ, suc, ◌+◌, ℤ, pos, negsuc, Bool, true, false, List, [], ◌∷◌, ◌++◌, length, map, Option, Some, None, Result, Ok, Err, refl, sym, ap, subst, arith}
use Rattle.std.specs.Prelude.{slice_get, nat_lt, if◌then◌else◌}
use Rattle.std.proofs.lemmas.Bool.Decides.{nat_tests}
use Rattle.rev_num.specs.Path.{Path}
use Rattle.rev_num.specs.declared.value.Value.{Value}
use Rattle.rev_num.specs.declared.value.Value.TheVariants as v
use Rattle.rev_num.specs.declared.value.ValueKind.{ValueKind}
use Rattle.rev_num.specs.declared.value.ValueKind.TheVariants as k
use Rattle.rev_num.specs.declared.outcome.Cause.{Cause}
use Rattle.rev_num.specs.declared.outcome.Cause.TheVariants as cause
use Rattle.rev_num.specs.Value.{kind_of}
use Rattle.rev_syntax.specs.Trees.{PlacedName, Parameter, Expression, placed, ExpressionForm, Expressions, Links, int, bool, no_rev, var, cell, apply, input, inputs, pick, unary, chain, no_expressions, expression, no_links, link}
use Rattle.rev_syntax.specs.declared.tree.BinaryOp.{BinaryOp}
use Rattle.rev_syntax.specs.declared.tree.BinaryOp.TheVariants as b
use Rattle.name_tables.specs.Names.{Name}
use Rattle.name_tables.specs.Table.{find}
use Rattle.typed_programs.specs.Value as value
use Rattle.typed_programs.specs.Value.{Answer, Env, Funs, and_then, called, value_by, values_by, expression_form_value, chained, linked, short, operated, reversed, truth_of, number_of, read}
use Rattle.typed_programs.specs.declared.names.Holder.{Holder}
use Rattle.typed_programs.specs.Kinds.{Callee, Names, Locals, operand_kind, given_kind}
use Rattle.typed_programs.specs.Typing.{ScalarHas, ArrayHas, TakesLeft, TakesRightSide}
use Rattle.rev_code.specs.declared.code.Instr.{Instr}
use Rattle.rev_code.specs.declared.code.Instr.TheVariants as i
use Rattle.rev_code.specs.declared.code.CodeBlock.{CodeBlock}
use Rattle.rev_code.specs.Words as wd
use Rattle.rev_code.specs.Words.{Word}
use Rattle.rev_code.specs.State.{State, Setting, seen_at}
use Rattle.rev_code.specs.Variables.{Place}
use Rattle.rev_code.specs.Variables as place
use Rattle.rev_code.specs.Step as r
use Rattle.rev_code.specs.Step.{Comes, goes, traps, on, act, act_at, act_in, step}
use Rattle.code_generation.specs.Numbers.{Numbers, Scope}
use Rattle.code_generation.specs.Expressions.{expression_size, form_size, expressions_size, links_size, link_size, load, unary_code, link_code, pick_yes, pick_no, pick_end, expression_code, form_code, expressions_code, links_code}
use Rattle.code_generation.specs.Stands.{HasAt}
use Rattle.code_generation.proofs.Standing.{parts_stand, around_stands}
use Rattle.code_generation.proofs.Lengths.{around, expression_length, expressions_length, link_length}
use Rattle.expression_meaning.proofs.Typed.{Typed, FormTyped, ArgsTyped, LinksTyped}
use Rattle.expression_meaning.specs.Agrees.{word, IsOfKind, coded, FunReads, Reads, at_with, Gives, Onward, pushed, GiveAll}
use Rattle.expression_meaning.specs.Agrees as g
use Rattle.expression_meaning.proofs.Words.{as_int, as_bool, came, sign, TakesBoth, operate, turn, found, left_below}

module _ (s : Setting Path) (n : Numbers) (bl : CodeBlock) (scope : Scope) (c : Names) (l : Locals) (fs : Funs)
    (e : Env) (a : State Path) (ag : Reads s n bl scope c l e a) where
  abbrev Can : Name → Callee → Type 0
  Can name f = FunReads s (n.fun name) f (fs name)

  abbrev Stack : Type 0
  Stack = List (Word Path)

  goes_on : (x y z : State Path) → Onward s x y → Onward s y z → Onward s x z
  goes_on x y z g.stay h = h
  goes_on x y z (g.move q j p) h = g.move q j (goes_on _ y z p h)

  -- the instruction at this place
  one : (at : ℕ) (ws : Stack) (x : Instr) (o : Comes Path) → slice_get bl.instrs at ≡ Some x
      → act s bl (at_with a at ws) x ≡ o → step s (at_with a at ws) ≡ o
  one at ws x o h q = ap (act_in s (at_with a at ws)) ag.is ∙ ap (act_at s bl (at_with a at ws)) h ∙ q

  -- an instruction that goes on
  on_to : (at to : ℕ) (ws new : Stack) (x : Instr) → slice_get bl.instrs at ≡ Some x
      → act s bl (at_with a at ws) x ≡ goes (at_with a to new) → at < to → Onward s (at_with a at ws) (at_with a to new)
  on_to at to ws new x h q j = g.move (one at ws x (goes (at_with a to new)) h q) j g.stay

  -- some steps, and then what gives
  after : (at m : ℕ) (ws wm : Stack) (to : ℕ) (stack : Stack) (t : ValueKind) (o : Answer)
      → Onward s (at_with a at ws) (at_with a m wm) → Gives s a m wm to stack t o → Gives s a at ws to stack t o
  after at m ws wm to stack t (Ok x) p h = (h.0, goes_on _ _ _ p h.1)
  after at m ws wm to stack t (Err x) p h = (h.0, h.1, goes_on _ _ _ p h.2, h.3)

  -- a value, and then what uses it
  bind : (at m to : ℕ) (ws under stack : Stack) (tm t : ValueKind) (o : Answer) (f : Value → Answer)
      → Gives s a at ws m under tm o → ((x : Value) → kind_of x ≡ tm → Gives s a m (word x ∷ under) to stack t (f x))
      → Gives s a at ws to stack t (and_then o f)
  bind at m to ws under stack tm t (Ok x) f h q = after at m ws (word x ∷ under) to stack t (f x) h.1 (q x h.0)
  bind at m to ws under stack tm t (Err x) f h q = h

  -- an instruction that gives an answer
  gave : (at to : ℕ) (ws rest : Stack) (t : ValueKind) (x : Instr) (o : Answer) → slice_get bl.instrs at ≡ Some x
      → act s bl (at_with a at ws) x ≡ came (at_with a at ws) rest o → to ≡ suc at → IsOfKind t o
      → Gives s a at ws to rest t o
  gave at to ws rest t x (Ok y) h q z is = (
    is,
    subst (λ m. Onward s (at_with a at ws) (at_with a m (word y ∷ rest))) (sym z)
        (on_to at (suc at) ws (word y ∷ rest) x h q (omega arith)),
  )
  gave at to ws rest t x (Err y) h q z is = (at, ws, g.stay, one at ws x (traps (at_with a at ws) y) h q)

  -- a jump behind a value
  jump_after : (at m to : ℕ) (ws stack : Stack) (t : ValueKind) (o : Answer) → slice_get bl.instrs m ≡ Some (i.Jump to)
      → m < to → Gives s a at ws m stack t o → Gives s a at ws to stack t o
  jump_after at m to ws stack t (Ok x) h j q =
      (q.0, goes_on _ _ _ q.1 (on_to m to (word x ∷ stack) (word x ∷ stack) (i.Jump to) h refl j))
  jump_after at m to ws stack t (Err x) h j q = q

  -- ---- names

  loads : (w : PlacedName) (t : ValueKind) (at : ℕ) (stack : Stack) (f : Option (Option ValueKind)) (h : Option Holder)
      → find w.text l ≡ f → c.shared w.text ≡ h → ScalarHas f h t
      → slice_get bl.instrs at ≡ Some (load n w (find w.text scope))
      → Gives s a at stack (at + 1) stack t (read (e.local w.text) (e.shared w.text))
  loads w t at stack (Some it) h p q has here =
      let d = ag.locals w.text t (p ∙ ap Some has) in
      let x : Value = d.2.0 in
      let rd : read (e.local w.text) (e.shared w.text) ≡ Ok x = ap (λ o. read o (e.shared w.text)) d.2.1 in
      subst (λ o. Gives s a at stack (at + 1) stack t o) (sym rd)
      (gave at (at + 1) stack stack t (i.LoadLocal d.0) (Ok x) (here ∙ ap (λ o. Some (load n w o)) d.1)
      (ap (r.pushes (at_with a at stack) stack) d.2.3) (omega arith) d.2.2)
  loads w t at stack None (Some h) p q has here =
      let none = ag.outside w.text h p q in
      let d = ag.scalars w.text h p q has.0 in
      let x : Value = d.1 in
      let rd : read (e.local w.text) (e.shared w.text) ≡ Ok x =
      ap (λ o. read o (e.shared w.text)) none.1 ∙ ap value.read_scalar d.3 in
      subst (λ o. Gives s a at stack (at + 1) stack t o) (sym rd)
      (gave at (at + 1) stack stack t (i.LoadShared (n.var w.text)) (Ok x) (here ∙ ap (λ o. Some (load n w o)) none.0)
      (ap (r.from_scalar (at_with a at stack)) d.2 ∙ ap (r.pushes (at_with a at stack) stack) d.5) (omega arith)
      (d.4 ∙ has.1))
  loads w t at stack None None p q has here = absurd has

  -- the cell of a place at an index
  cell_came : (at : ℕ) (stack ws : Stack) (p : Place) (cells : ℕ → Value) (t : ValueKind)
      → ((j : ℕ) → j < p.var.cells
      → (kind_of (cells j) ≡ t) × (seen_at a.locations (p.first + j) ≡ Some (word (cells j))))
      → (z : ℤ)
      → (r.read_cell (at_with a at ws) stack (place.cell_at p z)
      ≡ came (at_with a at ws) stack (value.cell_at p.var.cells cells z))
      × IsOfKind t (value.cell_at p.var.cells cells z)
  cell_came at stack ws p cells t f (negsuc j) = (refl, tt)
  cell_came at stack ws p cells t f (pos j) = by (nat_lt j p.var.cells) refl
    where
      by : (d : Bool) → nat_lt j p.var.cells ≡ d
          → (r.read_cell (at_with a at ws) stack (if d then Some (p.first + j) else None)
          ≡ came (at_with a at ws) stack (if d then Ok (cells j) else Err cause.Index))
          × IsOfKind t (if d then Ok (cells j) else Err cause.Index)
      by true q = let g = f j (grind (arith, nat_tests, q)) in (ap (r.pushes (at_with a at ws) stack) g.1, g.0)
      by false q = (refl, tt)

  cells : (w : PlacedName) (t : ValueKind) (at : ℕ) (stack : Stack) (f : Option (Option ValueKind)) (h : Option Holder)
      (x : Value)
      → find w.text l ≡ f → c.shared w.text ≡ h → ArrayHas f h t → kind_of x ≡ k.Int
      → slice_get bl.instrs at ≡ Some (i.LoadCell (n.var w.text))
      → Gives s a at (word x ∷ stack) (at + 1) stack t (value.read_cell (e.shared w.text) (number_of x))
  cells w t at stack (Some it) h x p q has kx here = absurd has
  cells w t at stack None None x p q has kx here = absurd has
  cells w t at stack None (Some h) x p q has kx here =
      let d = ag.arrays w.text h p q has.0 in
      let y = as_int x kx in
      let f : (j : ℕ) → j < d.0.var.cells
      → (kind_of (d.1 j) ≡ t) × (seen_at a.locations (d.0.first + j) ≡ Some (word (d.1 j))) =
      λ j q. (let gg = d.4 j q in (gg.0 ∙ has.1, gg.1)) in
      let came_so = cell_came at stack (wd.int y.0 ∷ stack) d.0 d.1 t f y.0 in
      subst (λ z. Gives s a at (word z ∷ stack) (at + 1) stack t (value.read_cell (e.shared w.text) (number_of z)))
      (sym y.1)
      (subst (λ z. Gives s a at (wd.int y.0 ∷ stack) (at + 1) stack t (value.read_cell z y.0)) (sym d.3)
      (gave at (at + 1) (wd.int y.0 ∷ stack) stack t (i.LoadCell (n.var w.text)) (value.cell_at d.0.var.cells d.1 y.0)
      here
      (ap (λ o. r.from_cell (at_with a at (wd.int y.0 ∷ stack)) o (wd.int y.0 ∷ stack)) d.2 ∙ came_so.0) (omega arith)
      came_so.1))

  input_came : (at : ℕ) (stack ws : Stack) (numbers : List ℤ) (z : ℤ)
      → (r.read_input (at_with a at ws) stack (r.input_at numbers z)
      ≡ came (at_with a at ws) stack (value.read_input numbers z))
      × IsOfKind k.Int (value.read_input numbers z)
  input_came at stack ws numbers (negsuc j) = (refl, tt)
  input_came at stack ws numbers (pos j) = by (slice_get numbers j)
    where
      by : (o : Option ℤ)
          → (r.read_input (at_with a at ws) stack o ≡ came (at_with a at ws) stack (value.taken o))
          × IsOfKind k.Int (value.taken o)
      by None = (refl, tt)
      by (Some z) = (refl, refl)

  reads_input : (at : ℕ) (stack : Stack) (x : Value) → kind_of x ≡ k.Int → c.inside ≡ false
      → slice_get bl.instrs at ≡ Some i.LoadInput
      → Gives s a at (word x ∷ stack) (at + 1) stack k.Int (value.read_input e.inputs (number_of x))
  reads_input at stack x kx inside here =
      let y = as_int x kx in
      let came_so = input_came at stack (wd.int y.0 ∷ stack) s.inputs y.0 in
      subst (λ z. Gives s a at (word z ∷ stack) (at + 1) stack k.Int (value.read_input e.inputs (number_of z)))
      (sym y.1)
      (subst (λ z. Gives s a at (wd.int y.0 ∷ stack) (at + 1) stack k.Int (value.read_input z y.0)) (ag.inputs inside)
      (gave at (at + 1) (wd.int y.0 ∷ stack) stack k.Int i.LoadInput (value.read_input s.inputs y.0) here came_so.0
      (omega arith) came_so.1))

  -- ---- tests

  branch : (m miss to : ℕ) (x : Value) (stack : Stack) (t : ValueKind) (o p : Answer)
      → slice_get bl.instrs m ≡ Some (i.JumpIfFalse miss) → m < miss → kind_of x ≡ k.Bool
      → Gives s a (suc m) stack to stack t o → Gives s a miss stack to stack t p
      → Gives s a m (word x ∷ stack) to stack t (if truth_of x then o else p)
  branch m miss to x stack t o p h far kx ho hp =
      let d = as_bool x kx in
      subst (λ y. Gives s a m (word y ∷ stack) to stack t (if truth_of y then o else p)) (sym d.1) (by d.0)
    where
      by : (z : Bool) → Gives s a m (wd.bool z ∷ stack) to stack t (if z then o else p)
      by true = after m (suc m) (wd.bool true ∷ stack) stack to stack t o
          (on_to m (suc m) (wd.bool true ∷ stack) stack (i.JumpIfFalse miss) h refl (omega arith)) ho
      by false = after m miss (wd.bool false ∷ stack) stack to stack t p
          (on_to m miss (wd.bool false ∷ stack) stack (i.JumpIfFalse miss) h refl far) hp

  -- ---- links

  abbrev part_code : Expression → ℕ → List Instr
  part_code part p = expression_code n scope part p

  -- what the code of an operand gives, wherever it stands
  abbrev PartRuns : Expression → ValueKind → Type 0
  PartRuns part t =
      (p : ℕ) (st : Stack) → HasAt bl.instrs p (part_code part p)
      → Gives s a p st (p + expression_size part) st t (value_by fs e part)

  two_run : (op : BinaryOp) (part : Expression) (left t : ValueKind) (x : Value) (at : ℕ) (stack : Stack) → TakesBoth op
      → TakesLeft op left → TakesRightSide op left t → kind_of x ≡ left
      → HasAt bl.instrs at (part_code part at ++ sign op ∷ []) → PartRuns part t
      → Gives s a at (word x ∷ stack) (at + (expression_size part + 1)) stack (given_kind op)
      (and_then (value_by fs e part) (operated op x))
  two_run op part left t x at stack both takes right kx here rec =
      let m : ℕ = at + expression_size part in
      let parts =
      around_stands bl.instrs (part_code part at) [] (sign op) at (expression_size part) (m + 1)
      (expression_length n scope part at) refl here in
      bind at m (at + (expression_size part + 1)) (word x ∷ stack) (word x ∷ stack) stack t (given_kind op)
      (value_by fs e part) (operated op x) (rec at (word x ∷ stack) parts.0)
      (λ y ky. let works = operate s bl (at_with a m stack) stack op left t x y both takes right kx ky in
      gave m (at + (expression_size part + 1)) (word y ∷ word x ∷ stack) stack (given_kind op) (sign op)
      (operated op x y) parts.1.0 works.0 (omega arith) works.1)

  -- the right operand of `&&` or of the two bars is evaluated, and its value stays
  carries_on : (d q : Bool) (jump : Instr) (part : Expression) (at : ℕ) (stack : Stack)
      → HasAt bl.instrs at
      (jump ∷ part_code part (at + 1) ++ i.Jump (at + expression_size part + 3) ∷ i.PushBool q ∷ [])
      → act s bl (at_with a at (wd.bool d ∷ stack)) jump ≡ goes (at_with a (suc at) stack) → PartRuns part k.Bool
      → Gives s a at (wd.bool d ∷ stack) (at + (expression_size part + 3)) stack k.Bool (value_by fs e part)
  carries_on d q jump part at stack here goes_so rec =
      let size : ℕ = expression_size part in
      let next : suc at ≡ at + 1 = omega arith in
      let parts =
      parts_stand bl.instrs (part_code part (at + 1)) (i.Jump (at + size + 3) ∷ i.PushBool q ∷ []) (suc at) size
      (expression_length n scope part (at + 1)) here.1 in
      let there : suc at + size ≡ at + 1 + size = omega arith in
      let jump_here : slice_get bl.instrs (at + 1 + size) ≡ Some (i.Jump (at + size + 3)) =
      subst (λ p. slice_get bl.instrs p ≡ Some (i.Jump (at + size + 3))) there parts.1.0 in
      let run = rec (at + 1) stack (subst (λ p. HasAt bl.instrs p (part_code part (at + 1))) next parts.0) in
      let whole =
      jump_after (at + 1) (at + 1 + size) (at + size + 3) stack stack k.Bool (value_by fs e part) jump_here
      (omega arith) run in
      subst (λ p. Gives s a at (wd.bool d ∷ stack) p stack k.Bool (value_by fs e part))
      (let z : at + size + 3 ≡ at + (size + 3) = omega arith in z)
      (after at (suc at) (wd.bool d ∷ stack) stack (at + size + 3) stack k.Bool (value_by fs e part)
      (on_to at (suc at) (wd.bool d ∷ stack) stack jump here.0 goes_so (omega arith))
      (subst (λ p. Gives s a p stack (at + size + 3) stack k.Bool (value_by fs e part)) (sym next) whole))

  -- it is left out
  cuts_off : (d q : Bool) (jump : Instr) (part : Expression) (at : ℕ) (stack : Stack)
      → HasAt bl.instrs at
      (jump ∷ part_code part (at + 1) ++ i.Jump (at + expression_size part + 3) ∷ i.PushBool q ∷ [])
      → act s bl (at_with a at (wd.bool d ∷ stack)) jump ≡ goes (at_with a (at + 1 + expression_size part + 1) stack)
      → Gives s a at (wd.bool d ∷ stack) (at + (expression_size part + 3)) stack k.Bool (Ok (v.Bool q))
  cuts_off d q jump part at stack here goes_so =
      let size : ℕ = expression_size part in
      let parts =
      parts_stand bl.instrs (part_code part (at + 1)) (i.Jump (at + size + 3) ∷ i.PushBool q ∷ []) (suc at) size
      (expression_length n scope part (at + 1)) here.1 in
      let there : suc (suc at + size) ≡ at + 1 + size + 1 = omega arith in
      let push_here : slice_get bl.instrs (at + 1 + size + 1) ≡ Some (i.PushBool q) =
      subst (λ p. slice_get bl.instrs p ≡ Some (i.PushBool q)) there parts.1.1.0 in
      after at (at + 1 + size + 1) (wd.bool d ∷ stack) stack (at + (size + 3)) stack k.Bool (Ok (v.Bool q))
      (on_to at (at + 1 + size + 1) (wd.bool d ∷ stack) stack jump here.0 goes_so (omega arith))
      (gave (at + 1 + size + 1) (at + (size + 3)) stack stack k.Bool (i.PushBool q) (Ok (v.Bool q)) push_here refl
      (omega arith) refl)

  -- the value of the right operand is that of both
  right_one : (op : BinaryOp) (x : Value) (o : Answer) → ((y : Value) → operated op x y ≡ Ok y)
      → and_then o (operated op x) ≡ o
  right_one op x (Ok y) f = f y
  right_one op x (Err y) f = refl

  link_runs : (op : BinaryOp) (part : Expression) (left t : ValueKind) (x : Value) (at : ℕ) (stack : Stack)
      → TakesLeft op left → TakesRightSide op left t → kind_of x ≡ left
      → HasAt bl.instrs at (link_code op (expression_size part) (λ p. part_code part p) at) → PartRuns part t
      → Gives s a at (word x ∷ stack) (at + link_size op (expression_size part)) stack (given_kind op)
      (linked op x (value_by fs e part) (short op x))
  link_runs b.And part left t x at stack takes right kx here rec =
      let d = as_bool x (kx ∙ takes) in
      subst (λ y.
      Gives s a at (word y ∷ stack) (at + (expression_size part + 3)) stack k.Bool
      (linked b.And y (value_by fs e part) (short b.And y)))
      (sym d.1) (by d.0)
    where
      by : (z : Bool)
          → Gives s a at (wd.bool z ∷ stack) (at + (expression_size part + 3)) stack k.Bool
          (linked b.And (v.Bool z) (value_by fs e part) (short b.And (v.Bool z)))
      by true = subst (λ o. Gives s a at (wd.bool true ∷ stack) (at + (expression_size part + 3)) stack k.Bool o)
          (sym (right_one b.And (v.Bool true) (value_by fs e part) (λ y. refl)))
          (carries_on true false (i.JumpIfFalse (at + 1 + expression_size part + 1)) part at stack here refl
          (subst (PartRuns part) right rec))
      by false = cuts_off false false (i.JumpIfFalse (at + 1 + expression_size part + 1)) part at stack here refl
  link_runs b.Or part left t x at stack takes right kx here rec =
      let d = as_bool x (kx ∙ takes) in
      subst (λ y.
      Gives s a at (word y ∷ stack) (at + (expression_size part + 3)) stack k.Bool
      (linked b.Or y (value_by fs e part) (short b.Or y)))
      (sym d.1) (by d.0)
    where
      by : (z : Bool)
          → Gives s a at (wd.bool z ∷ stack) (at + (expression_size part + 3)) stack k.Bool
          (linked b.Or (v.Bool z) (value_by fs e part) (short b.Or (v.Bool z)))
      by false = subst (λ o. Gives s a at (wd.bool false ∷ stack) (at + (expression_size part + 3)) stack k.Bool o)
          (sym (right_one b.Or (v.Bool false) (value_by fs e part) (λ y. refl)))
          (carries_on false true (i.JumpIfTrue (at + 1 + expression_size part + 1)) part at stack here refl
          (subst (PartRuns part) right rec))
      by true = cuts_off true true (i.JumpIfTrue (at + 1 + expression_size part + 1)) part at stack here refl
  link_runs b.Add part left t x at stack takes right kx here rec =
      two_run b.Add part left t x at stack tt takes right kx here rec
  link_runs b.Sub part left t x at stack takes right kx here rec =
      two_run b.Sub part left t x at stack tt takes right kx here rec
  link_runs b.Mul part left t x at stack takes right kx here rec =
      two_run b.Mul part left t x at stack tt takes right kx here rec
  link_runs b.Div part left t x at stack takes right kx here rec =
      two_run b.Div part left t x at stack tt takes right kx here rec
  link_runs b.Rem part left t x at stack takes right kx here rec =
      two_run b.Rem part left t x at stack tt takes right kx here rec
  link_runs b.Eq part left t x at stack takes right kx here rec =
      two_run b.Eq part left t x at stack tt takes right kx here rec
  link_runs b.Ne part left t x at stack takes right kx here rec =
      two_run b.Ne part left t x at stack tt takes right kx here rec
  link_runs b.Lt part left t x at stack takes right kx here rec =
      two_run b.Lt part left t x at stack tt takes right kx here rec
  link_runs b.Le part left t x at stack takes right kx here rec =
      two_run b.Le part left t x at stack tt takes right kx here rec
  link_runs b.Gt part left t x at stack takes right kx here rec =
      two_run b.Gt part left t x at stack tt takes right kx here rec
  link_runs b.Ge part left t x at stack takes right kx here rec =
      two_run b.Ge part left t x at stack tt takes right kx here rec

  -- ---- arguments and funs

  one_arg : (p : Parameter) (ps : List Parameter) (at m to : ℕ) (stack : Stack) (o : Answer)
      (os : Result (List Value) Cause)
      → Gives s a at stack m stack p.kind o → ((y : Value) → GiveAll s a m (word y ∷ stack) to (word y ∷ stack) ps os)
      → GiveAll s a at stack to stack (p ∷ ps) (and_then o (λ y. and_then os (λ ys. Ok (y ∷ ys))))
  one_arg p ps at m to stack (Ok y) (Ok ys) h q = let z = q y in ((h.0, z.0), goes_on _ _ _ h.1 z.1)
  one_arg p ps at m to stack (Ok y) (Err x) h q = let z = q y in (z.0, z.1, goes_on _ _ _ h.1 z.2, z.3)
  one_arg p ps at m to stack (Err x) os h q = h

  fun_came : (at : ℕ) (ws stack : Stack) (o : Answer)
      → r.value_or_trap (at_with a at ws) stack (Some (coded o)) ≡ came (at_with a at ws) stack o
  fun_came at ws stack (Ok x) = refl
  fun_came at ws stack (Err x) = refl

  applies : (w : PlacedName) (f : Callee) (t : ValueKind) (at m : ℕ) (stack : Stack) (o : Result (List Value) Cause)
      → f.result ≡ Some t → Can w.text f → slice_get bl.instrs m ≡ Some (i.Apply (n.fun w.text))
      → GiveAll s a at stack m stack f.params o → Gives s a at stack (m + 1) stack t (and_then o (called (fs w.text)))
  applies w f t at m stack (Err x) has can here h = h
  applies w f t at m stack (Ok xs) has can here h =
      let g = can.gives xs t h.0 has in
      let ws : Stack = pushed xs stack in
      let only_it : r.only r.is_fun (slice_get s.code.blocks (n.fun w.text)) ≡ Some can.block
      = ap (r.only r.is_fun) can.is ∙ ap (λ z. if r.is_fun z then Some can.block else None) can.class in
      let args : r.arguments (r.params can.block) ws ≡ Some (map word xs) =
      ap (λ z. r.arguments z ws) can.params ∙ found f.params xs stack h.0 in
      let there :
      act s bl (at_with a m ws) (i.Apply (n.fun w.text)) ≡ came (at_with a m ws) stack (called (fs w.text) xs)
      = ap (λ z. r.apply (at_with a m ws) z (slice_get s.funs (n.fun w.text))) only_it
      ∙ ap (r.apply_to (at_with a m ws) (slice_get s.funs (n.fun w.text))) args
      ∙ ap (λ z. r.value_or_trap (at_with a m ws) z (r.value_at (slice_get s.funs (n.fun w.text)) (map word xs)))
      (left_below xs stack)
      ∙ ap (r.value_or_trap (at_with a m ws) stack) g.0
      ∙ fun_came m ws stack (called (fs w.text) xs) in
      after at m stack ws (m + 1) stack t (called (fs w.text) xs) h.1
      (gave m (m + 1) ws stack t (i.Apply (n.fun w.text)) (called (fs w.text) xs) here there (omega arith) g.1)

  -- ---- expressions

  mutual
    pub expression_runs : (x : Expression) (t : ValueKind) (at : ℕ) (stack : Stack) → Typed c l Can x t
        → HasAt bl.instrs at (expression_code n scope x at)
        → Gives s a at stack (at + expression_size x) stack t (value_by fs e x)
    expression_runs (placed p form) t at stack ty here = form_runs form t at stack ty here

    form_runs : (x : ExpressionForm) (t : ValueKind) (at : ℕ) (stack : Stack) → FormTyped c l Can x t
        → HasAt bl.instrs at (form_code n scope x at)
        → Gives s a at stack (at + form_size x) stack t (expression_form_value fs e x)
    form_runs (int z) t at stack ty here =
        gave at (at + 1) stack stack t (i.PushInt z) (Ok (v.Int z)) here.0 refl (omega arith) (sym ty)
    form_runs (bool z) t at stack ty here =
        gave at (at + 1) stack stack t (i.PushBool z) (Ok (v.Bool z)) here.0 refl (omega arith) (sym ty)
    form_runs no_rev t at stack ty here =
        gave at (at + 1) stack stack t i.PushNone (Ok (v.Rev None)) here.0 refl (omega arith) (sym ty)
    form_runs (var w) t at stack ty here = loads w t at stack (find w.text l) (c.shared w.text) refl refl ty here.0
    form_runs (cell w index) t at stack ty here =
        let m : ℕ = at + expression_size index in
        let parts =
        around_stands bl.instrs (expression_code n scope index at) [] (i.LoadCell (n.var w.text)) at
        (expression_size index) (m + 1) (expression_length n scope index at) refl here in
        subst (λ p. Gives s a at stack p stack t (expression_form_value fs e (cell w index)))
        (let z : m + 1 ≡ at + (expression_size index + 1) = omega arith in z)
        (bind at m (m + 1) stack stack stack k.Int t (value_by fs e index)
        (λ y. value.read_cell (e.shared w.text) (number_of y)) (expression_runs index k.Int at stack ty.1 parts.0)
        (λ y ky. cells w t m stack (find w.text l) (c.shared w.text) y refl refl ty.0 ky parts.1.0))
    form_runs (apply w args) t at stack ty here =
        let m : ℕ = at + expressions_size args in
        let parts =
        around_stands bl.instrs (expressions_code n scope args at) [] (i.Apply (n.fun w.text)) at
        (expressions_size args) (m + 1) (expressions_length n scope args at) refl here in
        subst (λ p. Gives s a at stack p stack t (expression_form_value fs e (apply w args)))
        (let z : m + 1 ≡ at + (expressions_size args + 1) = omega arith in z)
        (applies w ty.0 t at m stack (values_by fs e args) ty.2 ty.3 parts.1.0
        (args_run ty.0.params args at stack ty.4 parts.0))
    form_runs (input p index) t at stack ty here =
        let m : ℕ = at + expression_size index in
        let parts =
        around_stands bl.instrs (expression_code n scope index at) [] i.LoadInput at (expression_size index) (m + 1)
        (expression_length n scope index at) refl here in
        subst (λ z.
        Gives s a at stack (at + (expression_size index + 1)) stack z (expression_form_value fs e (input p index)))
        (sym ty.0)
        (subst (λ p.
        Gives s a at stack p stack k.Int
        (and_then (value_by fs e index) (λ y. value.read_input e.inputs (number_of y))))
        (let z : m + 1 ≡ at + (expression_size index + 1) = omega arith in z)
        (bind at m (m + 1) stack stack stack k.Int k.Int (value_by fs e index)
        (λ y. value.read_input e.inputs (number_of y)) (expression_runs index k.Int at stack ty.2 parts.0)
        (λ y ky. reads_input m stack y ky ty.1 parts.1.0)))
    form_runs (inputs p) t at stack ty here =
        gave at (at + 1) stack stack t i.CountInput (Ok (v.Int (pos (length e.inputs)))) here.0
        (ap (λ zs. on (at_with a at stack) (wd.int (pos (length zs)) ∷ stack)) (ag.inputs ty.1)) (omega arith)
        (sym ty.0)
    form_runs (pick test x y) t at stack ty here =
        let m : ℕ = at + expression_size test in
        let yes_at : ℕ = pick_yes at test in
        let no_at : ℕ = pick_no at test x in
        let end : ℕ = pick_end at test x y in
        let tested : List Instr =
        expression_code n scope test at ++ i.JumpIfFalse no_at ∷ expression_code n scope x yes_at in
        let size =
        around (expression_code n scope test at) (expression_code n scope x yes_at) (i.JumpIfFalse no_at)
        (expression_size test) (expression_size x) (expression_length n scope test at)
        (expression_length n scope x yes_at) in
        let outer =
        around_stands bl.instrs tested (expression_code n scope y no_at) (i.Jump end) at
        (expression_size test + 1 + expression_size x) no_at size
        (let z : no_at ≡ at + (expression_size test + 1 + expression_size x) + 1 = omega arith in z) here in
        let inner =
        around_stands bl.instrs (expression_code n scope test at) (expression_code n scope x yes_at)
        (i.JumpIfFalse no_at) at (expression_size test) yes_at (expression_length n scope test at) refl outer.0 in
        let jump_here : slice_get bl.instrs (yes_at + expression_size x) ≡ Some (i.Jump end) =
        subst (λ p. slice_get bl.instrs p ≡ Some (i.Jump end))
        (let z : at + (expression_size test + 1 + expression_size x) ≡ yes_at + expression_size x = omega arith in z)
        outer.1.0 in
        let first =
        jump_after yes_at (yes_at + expression_size x) end stack stack t (value_by fs e x) jump_here (omega arith)
        (expression_runs x t yes_at stack ty.1 inner.1.1) in
        let second = expression_runs y t no_at stack ty.2 outer.1.1 in
        subst (λ p. Gives s a at stack p stack t (expression_form_value fs e (pick test x y)))
        (let z : end ≡ at + (expression_size test + 1 + expression_size x + 1 + expression_size y) = omega arith in z)
        (bind at m end stack stack stack k.Bool t (value_by fs e test)
        (λ z. if truth_of z then value_by fs e x else value_by fs e y)
        (expression_runs test k.Bool at stack ty.0 inner.0)
        (λ z kz. branch m no_at end z stack t (value_by fs e x) (value_by fs e y) inner.1.0 (omega arith) kz
        (subst (λ p. Gives s a p stack end stack t (value_by fs e x)) (let q : yes_at ≡ suc m = omega arith in q) first)
        second))
    form_runs (unary op x) t at stack ty here =
        let m : ℕ = at + expression_size x in
        let parts =
        around_stands bl.instrs (expression_code n scope x at) [] (unary_code op) at (expression_size x) (m + 1)
        (expression_length n scope x at) refl here in
        subst (λ z. Gives s a at stack (at + (expression_size x + 1)) stack z (expression_form_value fs e (unary op x)))
        (sym ty.0)
        (bind at m (at + (expression_size x + 1)) stack stack stack (operand_kind op) (operand_kind op)
        (value_by fs e x) (reversed op) (expression_runs x (operand_kind op) at stack ty.1 parts.0)
        (λ y ky. let works = turn s bl (at_with a m stack) stack op y ky in
        gave m (at + (expression_size x + 1)) (word y ∷ stack) stack (operand_kind op) (unary_code op) (reversed op y)
        parts.1.0 works.0 (omega arith) works.1))
    form_runs (chain first rest) t at stack ty here =
        let m : ℕ = at + expression_size first in
        let parts =
        parts_stand bl.instrs (expression_code n scope first at) (links_code n scope rest m) at (expression_size first)
        (expression_length n scope first at) here in
        subst (λ p. Gives s a at stack p stack t (expression_form_value fs e (chain first rest)))
        (let z : m + links_size rest ≡ at + (expression_size first + links_size rest) = omega arith in z)
        (bind at m (m + links_size rest) stack stack stack ty.0 t (value_by fs e first) (λ z. chained fs e z rest)
        (expression_runs first ty.0 at stack ty.1 parts.0)
        (λ y ky. links_run rest ty.0 t y m stack ty.2 ky parts.1))

    pub args_run : (ps : List Parameter) (xs : Expressions) (at : ℕ) (stack : Stack) → ArgsTyped c l Can ps xs
        → HasAt bl.instrs at (expressions_code n scope xs at)
        → GiveAll s a at stack (at + expressions_size xs) stack ps (values_by fs e xs)
    args_run [] no_expressions at stack ty here = (
      tt,
      subst (λ p. Onward s (at_with a at stack) (at_with a p stack)) (let z : at ≡ at + 0 = omega arith in z) g.stay,
    )
    args_run [] (expression x rest) at stack ty here = absurd ty
    args_run (p ∷ ps) no_expressions at stack ty here = absurd ty
    args_run (p ∷ ps) (expression x rest) at stack ty here =
        let m : ℕ = at + expression_size x in
        let parts =
        parts_stand bl.instrs (expression_code n scope x at) (expressions_code n scope rest m) at (expression_size x)
        (expression_length n scope x at) here in
        subst (λ q. GiveAll s a at stack q stack (p ∷ ps) (values_by fs e (expression x rest)))
        (let z : m + expressions_size rest ≡ at + (expression_size x + expressions_size rest) = omega arith in z)
        (one_arg p ps at m (m + expressions_size rest) stack (value_by fs e x) (values_by fs e rest)
        (expression_runs x p.kind at stack ty.0 parts.0)
        (λ y. args_run ps rest m (word y ∷ stack) ty.1 parts.1))

    links_run : (rest : Links) (left t : ValueKind) (x : Value) (at : ℕ) (stack : Stack)
        → LinksTyped c l Can left rest t → kind_of x ≡ left → HasAt bl.instrs at (links_code n scope rest at)
        → Gives s a at (word x ∷ stack) (at + links_size rest) stack t (chained fs e x rest)
    links_run no_links left t x at stack ty kx here = (
      kx ∙ ty,
      subst (λ p. Onward s (at_with a at (word x ∷ stack)) (at_with a p (word x ∷ stack)))
          (let z : at ≡ at + 0 = omega arith in z) g.stay,
    )
    links_run (link op part rest) left t x at stack ty kx here =
        let size : ℕ = link_size op (expression_size part) in
        let m : ℕ = at + size in
        let parts =
        parts_stand bl.instrs (link_code op (expression_size part) (λ p. expression_code n scope part p) at)
        (links_code n scope rest m) at size
        (link_length op (expression_size part) (λ p. expression_code n scope part p) at
        (λ p. expression_length n scope part p))
        here in
        subst (λ p. Gives s a at (word x ∷ stack) p stack t (chained fs e x (link op part rest)))
        (let z : m + links_size rest ≡ at + (size + links_size rest) = omega arith in z)
        (bind at m (m + links_size rest) (word x ∷ stack) stack stack (given_kind op) t
        (linked op x (value_by fs e part) (short op x)) (λ z. chained fs e z rest)
        (link_runs op part left ty.0 x at stack ty.2 ty.3 kx parts.0 (λ p st h. expression_runs part ty.0 p st ty.1 h))
        (λ y ky. links_run rest (given_kind op) t y m stack ty.4 ky parts.1))
