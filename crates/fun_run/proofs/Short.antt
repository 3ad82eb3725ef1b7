-- What funs and merges give for numbers of 64 bits has 64 bits, where the numbers in the code have.
--   IsShortState   all words of a state, of its frames and of its locations are short
--   step_short     so are they behind an instruction
--   values_short   and the values of funs and merges
use Rattle.std.proofs.Common.{◌≡◌, ◌∙◌, ℕ, zero, suc, ◌+◌, ◌<◌, Bool, true, false, cond, not, ℤ, pos, negsuc, List, [], ◌∷◌, ◌++◌, length, map, take, drop, reverse, Option, Some, None, Result, Ok, Err, refl, sym, ap, subst, arith}
use Rattle.std.specs.Prelude.{slice_get, slice_set, nat_lt, int_lt, int_le, if◌then◌else◌}
use Rattle.std.proofs.lemmas.Bool.Decides.{nat_tests}
use Rattle.std.proofs.lemmas.List.{reverse-append}
use Rattle.rev_num.specs.Arith.{fits_i64, sum_of, difference_of, product_of, quotient_of, remainder_of, negation_of}
use Rattle.rev_num.specs.declared.value.ValueKind.{ValueKind}
use Rattle.rev_num.specs.declared.value.ValueKind.TheVariants as k
use Rattle.rev_num.specs.declared.value.NumFault.{NumFault}
use Rattle.rev_num.specs.declared.outcome.Cause.{Cause}
use Rattle.rev_num.specs.declared.outcome.Cause.TheVariants as cause
use Rattle.rev_num.specs.Value.{same_kind, same_number, same_truth}
use Rattle.rev_code.specs.declared.code.Code.{Code}
use Rattle.rev_code.specs.declared.code.CodeBlock.{CodeBlock}
use Rattle.rev_code.specs.declared.code.Instr.{Instr}
use Rattle.rev_code.specs.declared.code.Instr.TheVariants as i
use Rattle.rev_code.specs.declared.code.LayoutItem.{LayoutItem}
use Rattle.rev_code.specs.Words.{Word, int, bool, rev, fits, kind_of, zero_word}
use Rattle.rev_code.specs.State.{State, Frame, Fun, Location, Setting, seen_at, written_at}
use Rattle.rev_code.specs.Variables.{Place, scalar, array, cell_at}
use Rattle.rev_code.specs.Printing.{printed_kinds}
use Rattle.rev_code.specs.Funs.{answer, fun_start, setting_of_fun, value_of, values, values_from}
use Rattle.rev_code.specs.Step as r
use Rattle.rev_code.specs.Step.{Comes, goes, traps, forks, joins, ends, stuck, act, act_at, act_in, step, only, is_fun, is_procedure, onward, reach}
use Rattle.code_soundness.proofs.Lists.{some_eq, none_some}
use Rattle.block_run.specs.Agreement.{IsWord, PushesInt}
use Rattle.block_run.proofs.Numbers.{Fit, sums, differences, products, quotients, remainders, negations, int_fits}
use Rattle.code_machine.specs.Joining as joining
use Rattle.code_machine.specs.Joining.{merged_by}
use Rattle.fun_run.specs.Merging.{HasShortNumbers, IsShort}

-- ---- words

abbrev pub AllShort : List (Word ℕ) → Type 0
AllShort [] = Unit {0}
AllShort (w ∷ ws) = IsShort w × AllShort ws

head_short : (w : Word ℕ) (ws : List (Word ℕ)) → AllShort (w ∷ ws) → IsShort w
head_short w ws h = h.0

tail_short : (w : Word ℕ) (ws : List (Word ℕ)) → AllShort (w ∷ ws) → AllShort ws
tail_short w ws h = h.1

more_short : (w : Word ℕ) (ws : List (Word ℕ)) → IsShort w → AllShort ws → AllShort (w ∷ ws)
more_short w ws h k = (h, k)

append_short : (xs ys : List (Word ℕ)) → AllShort xs → AllShort ys → AllShort (xs ++ ys)
append_short [] ys h k = k
append_short (x ∷ xs) ys h k = (h.0, append_short xs ys h.1 k)

take_short : (n : ℕ) (xs : List (Word ℕ)) → AllShort xs → AllShort (take n xs)
take_short zero xs h = tt
take_short (suc n) [] h = tt
take_short (suc n) (x ∷ xs) h = (h.0, take_short n xs h.1)

drop_short : (n : ℕ) (xs : List (Word ℕ)) → AllShort xs → AllShort (drop n xs)
drop_short zero xs h = h
drop_short (suc n) [] h = tt
drop_short (suc n) (x ∷ xs) h = drop_short n xs h.1

reverse_short : (xs : List (Word ℕ)) → AllShort xs → AllShort (reverse xs)
reverse_short [] h = tt
reverse_short (x ∷ xs) h =
    subst AllShort (sym (reverse-append (x ∷ []) xs))
    (append_short (reverse xs) (x ∷ []) (reverse_short xs h.1) (h.0, tt))

set_short : (xs : List (Word ℕ)) (n : ℕ) (w : Word ℕ) → IsShort w → AllShort xs → AllShort (slice_set xs n w)
set_short [] n w h k = tt
set_short (x ∷ xs) zero w h k = (h, k.1)
set_short (x ∷ xs) (suc n) w h k = (k.0, set_short xs n w h k.1)

get_short : (xs : List (Word ℕ)) (n : ℕ) (w : Word ℕ) → AllShort xs → slice_get xs n ≡ Some w → IsShort w
get_short [] n w h e = absurd (none_some e)
get_short (x ∷ xs) zero w h e = subst IsShort (some_eq e) h.0
get_short (x ∷ xs) (suc n) w h e = get_short xs n w h.1 e

zeros_short : (kinds : List ValueKind) → AllShort (map zero_word kinds)
zeros_short [] = tt
zeros_short (k.Int ∷ kinds) = (refl, zeros_short kinds)
zeros_short (k.Bool ∷ kinds) = (tt, zeros_short kinds)
zeros_short (k.Rev ∷ kinds) = (tt, zeros_short kinds)

-- ---- states and values

abbrev pub FramesShort : List (Frame ℕ) → Type 0
FramesShort [] = Unit {0}
FramesShort (f ∷ fs) = AllShort f.locals × FramesShort fs

pub record IsShortState (c : State ℕ) : Type 0 where
  pub stack : AllShort c.stack
  pub locals : AllShort c.locals
  pub below : FramesShort c.below
  pub locations : (l : ℕ) (x : Word ℕ) → seen_at c.locations l ≡ Some x → IsShort x

abbrev pub ShortValue : Option (Result (Word ℕ) Cause) → Type 0
ShortValue None = Unit {0}
ShortValue (Some (Ok w)) = IsShort w
ShortValue (Some (Err e)) = Unit {0}

abbrev pub FunsShort : List (Fun ℕ) → Type 0
FunsShort funs =
    (n : ℕ) (f : Fun ℕ) → slice_get funs n ≡ Some f → (args : List (Word ℕ)) → AllShort args → ShortValue (f args)

abbrev pub Short : Comes ℕ → Type 0
Short (goes c) = IsShortState c
Short (traps c e) = Unit {0}
Short (forks c n args) = Unit {0}
Short (joins c try h) = Unit {0}
Short (ends c None) = Unit {0}
Short (ends c (Some w)) = IsShort w
Short stuck = Unit {0}

-- ---- the table of instructions

module _ (s : Setting ℕ) (numbers : HasShortNumbers s.code) (funs : FunsShort s.funs) (inputs : s.inputs ≡ [])
    (c : State ℕ) (h : IsShortState c) where
  on_short : (ws : List (Word ℕ)) → AllShort ws → Short (r.on c ws)
  on_short ws k = record { stack = k; locals = h.locals; below = h.below; locations = h.locations }

  e_if : (d : Bool) (x y : Comes ℕ) → Short x → Short y → Short (cond d x y)
  e_if true x y a b = a
  e_if false x y a b = b

  e_number : (rest : List (Word ℕ)) → AllShort rest → (v : Result ℤ NumFault) → ((z : ℤ) → v ≡ Ok z → fits_i64 z ≡ true)
      → Short (r.number c rest v)
  e_number rest k (Ok z) f = on_short (int z ∷ rest) (more_short (int z) rest (f z refl) k)
  e_number rest k (Err x) f = tt

  e_ints : (f : ℤ → ℤ → Result ℤ NumFault) → Fit f → (ws : List (Word ℕ)) → AllShort ws → Short (r.of_ints f c ws)
  e_ints f g (int y ∷ int x ∷ rest) k =
      e_number rest (tail_short (int x) rest (tail_short (int y) (int x ∷ rest) k)) (f x y)
      (λ z e. g x y z (head_short (int y) (int x ∷ rest) k) e)
  e_ints f g _ k = tt

  e_int : (f : ℤ → Result ℤ NumFault) → ((a z : ℤ) → f a ≡ Ok z → fits_i64 z ≡ true) → (ws : List (Word ℕ))
      → AllShort ws → Short (r.of_int f c ws)
  e_int f g (int y ∷ rest) k = e_number rest (tail_short (int y) rest k) (f y) (g y)
  e_int f g _ k = tt

  e_not : (ws : List (Word ℕ)) → AllShort ws → Short (r.of_bool c ws)
  e_not (bool y ∷ rest) k =
      on_short (bool (not y) ∷ rest) (more_short (bool (not y)) rest tt (tail_short (bool y) rest k))
  e_not _ k = tt

  e_equality : (t : Bool → Bool) (ws : List (Word ℕ)) → AllShort ws → Short (r.equality t c ws)
  e_equality t (int y ∷ int x ∷ rest) k =
      on_short (bool (t (same_number x y)) ∷ rest)
      (more_short (bool (t (same_number x y))) rest tt (tail_short (int x) rest (tail_short (int y) (int x ∷ rest) k)))
  e_equality t (bool y ∷ bool x ∷ rest) k =
      on_short (bool (t (same_truth x y)) ∷ rest)
      (more_short (bool (t (same_truth x y))) rest tt
      (tail_short (bool x) rest (tail_short (bool y) (bool x ∷ rest) k)))
  e_equality t _ k = tt

  e_order : (f : ℤ → ℤ → Bool) (ws : List (Word ℕ)) → AllShort ws → Short (r.order f c ws)
  e_order f (int y ∷ int x ∷ rest) k =
      on_short (bool (f x y) ∷ rest)
      (more_short (bool (f x y)) rest tt (tail_short (int x) rest (tail_short (int y) (int x ∷ rest) k)))
  e_order f _ k = tt

  e_pushes : (rest : List (Word ℕ)) → AllShort rest → (o : Option (Word ℕ)) → ((w : Word ℕ) → o ≡ Some w → IsShort w)
      → Short (r.pushes c rest o)
  e_pushes rest k None f = tt
  e_pushes rest k (Some w) f = on_short (w ∷ rest) (more_short w rest (f w refl) k)

  e_local : (n : ℕ) (o : Option ValueKind) (ws : List (Word ℕ)) → AllShort ws → Short (r.into_local c n o ws)
  e_local n (Some x) (w ∷ rest) k =
      e_if (same_kind x (kind_of w)) (goes (record c { at = suc c.at; stack = rest; locals = slice_set c.locals n w }))
      stuck
      (record {
        stack = tail_short w rest k;
        locals = set_short c.locals n w (head_short w rest k) h.locals;
        below = h.below;
        locations = h.locations;
      }) tt
  e_local n (Some x) [] k = tt
  e_local n None ws k = tt

  written_short : (n : ℕ) (w : Word ℕ) → IsShort w → (l : ℕ) (x : Word ℕ)
      → seen_at (written_at c.locations n w) l ≡ Some x → IsShort x
  written_short n w k = by c.locations n h.locations
    where
      by : (ls : List (Location ℕ)) (n : ℕ) → ((l : ℕ) (x : Word ℕ) → seen_at ls l ≡ Some x → IsShort x)
          → (l : ℕ) (x : Word ℕ) → seen_at (written_at ls n w) l ≡ Some x → IsShort x
      by [] n f l x e = f l x e
      by (a ∷ ls) zero f zero x e = subst IsShort (some_eq e) k
      by (a ∷ ls) zero f (suc l) x e = f (suc l) x e
      by (a ∷ ls) (suc n) f zero x e = f zero x e
      by (a ∷ ls) (suc n) f (suc l) x e = by ls n (λ m y. f (suc m) y) l x e

  e_after : (rest : List (Word ℕ)) → AllShort rest → (l : ℕ) (w : Word ℕ) → IsShort w → Short (r.after_write c rest l w)
  e_after rest k l w q = record { stack = k; locals = h.locals; below = h.below; locations = written_short l w q }

  e_from_scalar : (o : Option Place) → Short (r.from_scalar c o)
  e_from_scalar None = tt
  e_from_scalar (Some q) = e_pushes c.stack h.stack (seen_at c.locations q.first) (h.locations q.first)

  e_into_scalar : (o : Option Place) (ws : List (Word ℕ)) → AllShort ws → Short (r.into_scalar c o ws)
  e_into_scalar (Some q) (w ∷ rest) k =
      e_if (same_kind q.var.kind (kind_of w)) (r.after_write c rest q.first w) stuck
      (e_after rest (tail_short w rest k) q.first w (head_short w rest k)) tt
  e_into_scalar (Some q) [] k = tt
  e_into_scalar None ws k = tt

  e_read : (rest : List (Word ℕ)) → AllShort rest → (o : Option ℕ) → Short (r.read_cell c rest o)
  e_read rest k None = tt
  e_read rest k (Some l) = e_pushes rest k (seen_at c.locations l) (h.locations l)

  e_from_cell : (o : Option Place) (ws : List (Word ℕ)) → AllShort ws → Short (r.from_cell c o ws)
  e_from_cell (Some q) (int n ∷ rest) k = e_read rest (tail_short (int n) rest k) (cell_at q n)
  e_from_cell _ _ k = tt

  e_write : (rest : List (Word ℕ)) → AllShort rest → (w : Word ℕ) → IsShort w → (o : Option ℕ)
      → Short (r.write_cell c rest w o)
  e_write rest k w q None = tt
  e_write rest k w q (Some l) = e_after rest k l w q

  e_into_cell : (o : Option Place) (ws : List (Word ℕ)) → AllShort ws → Short (r.into_cell c o ws)
  e_into_cell (Some q) (w ∷ int n ∷ rest) k =
      e_if (same_kind q.var.kind (kind_of w)) (r.write_cell c rest w (cell_at q n)) stuck
      (e_write rest (tail_short (int n) rest (tail_short w (int n ∷ rest) k)) w (head_short w (int n ∷ rest) k)
      (cell_at q n))
      tt
  e_into_cell _ _ k = tt

  e_test : (o : Option ℕ) → Short (r.test_cell c o)
  e_test None = tt
  e_test (Some l) = on_short c.stack h.stack

  e_over_cell : (o : Option Place) (ws : List (Word ℕ)) → Short (r.over_cell c o ws)
  e_over_cell (Some q) (int n ∷ rest) = e_test (cell_at q n)
  e_over_cell _ _ = tt

  e_input : (n : ℤ) (rest : List (Word ℕ)) → Short (r.read_input c rest (r.input_at [] n))
  e_input (pos n) rest = tt
  e_input (negsuc n) rest = tt

  e_from_input : (ws : List (Word ℕ)) → Short (r.from_input [] c ws)
  e_from_input (int n ∷ rest) = e_input n rest
  e_from_input _ = tt

  e_jump_if : (d : Bool) (to : ℕ) (ws : List (Word ℕ)) → AllShort ws → Short (r.jump_if d to c ws)
  e_jump_if true to (bool b ∷ rest) k =
      record { stack = tail_short (bool b) rest k; locals = h.locals; below = h.below; locations = h.locations }
  e_jump_if false to (bool b ∷ rest) k =
      record { stack = tail_short (bool b) rest k; locals = h.locals; below = h.below; locations = h.locations }
  e_jump_if true to [] k = tt
  e_jump_if true to (int n ∷ rest) k = tt
  e_jump_if true to (rev n ∷ rest) k = tt
  e_jump_if false to [] k = tt
  e_jump_if false to (int n ∷ rest) k = tt
  e_jump_if false to (rev n ∷ rest) k = tt

  arguments_short : (kinds : List ValueKind) (args : List (Word ℕ)) → r.arguments kinds c.stack ≡ Some args
      → AllShort args
  arguments_short kinds args e = by (fits kinds (reverse (take (length kinds) c.stack))) e
    where
      by : (d : Bool) → (if d then Some (reverse (take (length kinds) c.stack)) else None) ≡ Some args → AllShort args
      by true e = subst AllShort (some_eq e)
          (reverse_short (take (length kinds) c.stack) (take_short (length kinds) c.stack h.stack))
      by false e = absurd (none_some e)

  e_value : (rest : List (Word ℕ)) → AllShort rest → (o : Option (Result (Word ℕ) Cause)) → ShortValue o
      → Short (r.value_or_trap c rest o)
  e_value rest k None q = tt
  e_value rest k (Some (Ok w)) q = on_short (w ∷ rest) (more_short w rest q k)
  e_value rest k (Some (Err x)) q = tt

  value_short : (n : ℕ) (o : Option (Fun ℕ)) → slice_get s.funs n ≡ o → (args : List (Word ℕ)) → AllShort args
      → ShortValue (r.value_at o args)
  value_short n None e args k = tt
  value_short n (Some f) e args k = funs n f e args k

  e_apply_to : (n : ℕ) (x : Option (Fun ℕ)) → slice_get s.funs n ≡ x → (o : Option (List (Word ℕ)))
      → ((args : List (Word ℕ)) → o ≡ Some args → AllShort args) → Short (r.apply_to c x o)
  e_apply_to n x e None f = tt
  e_apply_to n x e (Some args) f =
      e_value (drop (length args) c.stack) (drop_short (length args) c.stack h.stack) (r.value_at x args)
      (value_short n x e args (f args refl))

  e_apply : (n : ℕ) (o : Option CodeBlock) → Short (r.apply c o (slice_get s.funs n))
  e_apply n None = tt
  e_apply n (Some b) =
      e_apply_to n (slice_get s.funs n) refl (r.arguments (r.params b) c.stack) (arguments_short (r.params b))

  e_charge : (line fuel : ℕ) → Short (r.charge c line fuel)
  e_charge line zero = tt
  e_charge line (suc fuel) = record { stack = h.stack; locals = h.locals; below = h.below; locations = h.locations }

  e_call_with : (n : ℕ) (b : CodeBlock) (o : Option (List (Word ℕ)))
      → ((args : List (Word ℕ)) → o ≡ Some args → AllShort args) → Short (r.call_with c n b o)
  e_call_with n b None f = tt
  e_call_with n b (Some args) f =
      e_if (nat_lt (suc (length c.below)) r.most_frames) (goes (r.enter c n b args)) (traps c cause.CallDepth)
      (record {
        stack = drop_short (length args) c.stack h.stack;
        locals = append_short args (map zero_word (drop (length args) b.locals)) (f args refl)
            (zeros_short (drop (length args) b.locals));
        below = (h.locals, h.below);
        locations = h.locations;
      }) tt

  e_call : (n : ℕ) (o : Option CodeBlock) → Short (r.call c n o)
  e_call n None = tt
  e_call n (Some b) = e_call_with n b (r.arguments (r.params b) c.stack) (arguments_short (r.params b))

  e_fork_with : (n : ℕ) (o : Option (List (Word ℕ))) → Short (r.fork_with c n o)
  e_fork_with n None = tt
  e_fork_with n (Some args) = tt

  e_fork : (n : ℕ) (o : Option CodeBlock) → Short (r.fork c n o)
  e_fork n None = tt
  e_fork n (Some b) = e_fork_with n (r.arguments (r.params b) c.stack)

  e_join : (try : Bool) (ws : List (Word ℕ)) → Short (r.join c try ws)
  e_join try (rev (Some q) ∷ rest) = tt
  e_join try (rev None ∷ rest) = tt
  e_join try [] = tt
  e_join try (int n ∷ rest) = tt
  e_join try (bool b ∷ rest) = tt

  e_leave : (fs : List (Frame ℕ)) → FramesShort fs → (w : Option (Word ℕ)) → ((x : Word ℕ) → w ≡ Some x → IsShort x)
      → Short (r.leave c fs w)
  e_leave [] k None f = tt
  e_leave [] k (Some w) f = f w refl
  e_leave (x ∷ fs) k w f = record { stack = h.stack; locals = k.0; below = k.1; locations = h.locations }

  e_return : (o : Option ValueKind) (ws : List (Word ℕ)) → AllShort ws → Short (r.return c o ws)
  e_return None ws k = e_leave c.below h.below None (λ x e. absurd (none_some e))
  e_return (Some x) [] k = tt
  e_return (Some x) (w ∷ rest) k =
      e_if (same_kind x (kind_of w)) (r.leave c c.below (Some w)) stuck
      (e_leave c.below h.below (Some w) (λ y e. subst IsShort (some_eq e) (head_short w rest k))) tt

  e_print_with : (texts : List (List ℕ)) (items : List LayoutItem) (o : Option (List (Word ℕ)))
      → Short (r.print_with texts c items o)
  e_print_with texts items None = tt
  e_print_with texts items (Some ws) = record {
    stack = drop_short (length ws) c.stack h.stack;
    locals = h.locals;
    below = h.below;
    locations = h.locations;
  }

  e_print : (texts : List (List ℕ)) (o : Option (List LayoutItem)) → Short (r.print texts c o)
  e_print texts None = tt
  e_print texts (Some items) = e_print_with texts items (r.arguments (printed_kinds items) c.stack)

  e_assert : (ws : List (Word ℕ)) → AllShort ws → Short (r.assert c ws)
  e_assert (bool b ∷ rest) k =
      e_if b (r.on c rest) (traps c cause.Assert) (on_short rest (tail_short (bool b) rest k)) tt
  e_assert _ k = tt

  e_pop : (ws : List (Word ℕ)) → AllShort ws → Short (r.pop c ws)
  e_pop [] k = tt
  e_pop (w ∷ rest) k = on_short rest (tail_short w rest k)

  e_act : (b : CodeBlock) → slice_get s.code.blocks c.block ≡ Some b → (x : Instr) → slice_get b.instrs c.at ≡ Some x
      → Short (act s b c x)
  e_act b is (i.PushInt n) at =
      on_short (int n ∷ c.stack) (more_short (int n) c.stack (numbers c.block b c.at (i.PushInt n) is at) h.stack)
  e_act b is (i.PushBool v) at = on_short (bool v ∷ c.stack) (more_short (bool v) c.stack tt h.stack)
  e_act b is i.PushNone at = on_short (rev None ∷ c.stack) (more_short (rev None) c.stack tt h.stack)
  e_act b is (i.LoadLocal n) at =
      e_pushes c.stack h.stack (slice_get c.locals n) (λ w e. get_short c.locals n w h.locals e)
  e_act b is (i.StoreLocal n) at = e_local n (slice_get b.locals n) c.stack h.stack
  e_act b is (i.LoadShared v) at = e_from_scalar (scalar s.code.vars v)
  e_act b is (i.StoreShared v) at = e_into_scalar (scalar s.code.vars v) c.stack h.stack
  e_act b is (i.LoadCell v) at = e_from_cell (array s.code.vars v) c.stack h.stack
  e_act b is (i.StoreCell v) at = e_into_cell (array s.code.vars v) c.stack h.stack
  e_act b is (i.CheckCell v) at = e_over_cell (array s.code.vars v) c.stack
  e_act b is i.LoadInput at = subst (λ xs. Short (r.from_input xs c c.stack)) (sym inputs) (e_from_input c.stack)
  e_act b is i.CountInput at =
      on_short (int (pos (length s.inputs)) ∷ c.stack)
      (more_short (int (pos (length s.inputs))) c.stack
      (subst (λ xs. fits_i64 (pos (length xs)) ≡ true) (sym inputs) refl) h.stack)
  e_act b is i.Add at = e_ints sum_of sums c.stack h.stack
  e_act b is i.Sub at = e_ints difference_of differences c.stack h.stack
  e_act b is i.Mul at = e_ints product_of products c.stack h.stack
  e_act b is i.Div at = e_ints quotient_of quotients c.stack h.stack
  e_act b is i.Rem at = e_ints remainder_of remainders c.stack h.stack
  e_act b is i.Neg at = e_int negation_of negations c.stack h.stack
  e_act b is i.Not at = e_not c.stack h.stack
  e_act b is i.Eq at = e_equality (λ e. e) c.stack h.stack
  e_act b is i.Ne at = e_equality not c.stack h.stack
  e_act b is i.Lt at = e_order int_lt c.stack h.stack
  e_act b is i.Le at = e_order int_le c.stack h.stack
  e_act b is i.Gt at = e_order (λ x y. int_lt y x) c.stack h.stack
  e_act b is i.Ge at = e_order (λ x y. int_le y x) c.stack h.stack
  e_act b is (i.Jump to) at = record { stack = h.stack; locals = h.locals; below = h.below; locations = h.locations }
  e_act b is (i.JumpIfFalse to) at = e_jump_if false to c.stack h.stack
  e_act b is (i.JumpIfTrue to) at = e_jump_if true to c.stack h.stack
  e_act b is (i.Apply n) at = e_apply n (only is_fun (slice_get s.code.blocks n))
  e_act b is (i.Charge line) at = e_charge line c.fuel
  e_act b is (i.Call n) at = e_call n (only is_procedure (slice_get s.code.blocks n))
  e_act b is (i.Fork n) at = e_fork n (only is_procedure (slice_get s.code.blocks n))
  e_act b is i.Join at = e_join false c.stack
  e_act b is (i.Print n) at = e_print s.code.texts (slice_get s.code.layouts n)
  e_act b is i.Assert at = e_assert c.stack h.stack
  e_act b is i.Return at = e_return b.result c.stack h.stack
  e_act b is i.Pop at = e_pop c.stack h.stack
  e_act b is i.TryJoin at = e_join true c.stack

  e_at : (b : CodeBlock) → slice_get s.code.blocks c.block ≡ Some b → (o : Option Instr) → slice_get b.instrs c.at ≡ o
      → Short (act_at s b c o)
  e_at b is None at = tt
  e_at b is (Some x) at = e_act b is x at

  e_in : (o : Option CodeBlock) → slice_get s.code.blocks c.block ≡ o → Short (act_in s c o)
  e_in None is = tt
  e_in (Some b) is = e_at b is (slice_get b.instrs c.at) refl

  pub step_short : Short (step s c)
  step_short = e_in (slice_get s.code.blocks c.block) refl

-- ---- values

module _ (s : Setting ℕ) (numbers : HasShortNumbers s.code) (funs : FunsShort s.funs) (inputs : s.inputs ≡ []) where
  then_short : (f : State ℕ → Comes ℕ) → ((c : State ℕ) → IsShortState c → Short (f c)) → (o : Comes ℕ) → Short o
      → Short (onward f o)
  then_short f rest (goes d) q = rest d q
  then_short f rest (traps d e) q = tt
  then_short f rest (forks d n args) q = tt
  then_short f rest (joins d try x) q = tt
  then_short f rest (ends d None) q = tt
  then_short f rest (ends d (Some w)) q = q
  then_short f rest stuck q = tt

  reach_short : (k : ℕ) (c : State ℕ) → IsShortState c → Short (reach s k c)
  reach_short zero c h = step_short s numbers funs inputs c h
  reach_short (suc k) c h =
      then_short (λ d. reach s k d) (reach_short k) (step s c) (step_short s numbers funs inputs c h)

answer_short : (o : Comes ℕ) → Short o → ShortValue (answer o)
answer_short (goes c) h = tt
answer_short (traps c e) h = tt
answer_short (forks c n args) h = tt
answer_short (joins c try x) h = tt
answer_short (ends c None) h = tt
answer_short (ends c (Some w)) h = h
answer_short stuck h = tt

module _ (code : Code) (numbers : HasShortNumbers code) where
  value_of_short : (before : List (Fun ℕ)) → FunsShort before → (n : ℕ) (b : CodeBlock) (args : List (Word ℕ))
      → AllShort args → ShortValue (value_of code before n b args)
  value_of_short before f n b args h = by (fits (r.params b) args)
    where
      first : IsShortState (fun_start n b args)
      first = record {
        stack = tt;
        locals = append_short args (map zero_word (drop (length args) b.locals)) h
            (zeros_short (drop (length args) b.locals));
        below = tt;
        locations = λ l x e. absurd (none_some e);
      }

      by : (d : Bool)
          → ShortValue
          (if d then answer (reach (setting_of_fun code before) (length b.instrs) (fun_start n b args)) else None)
      by true = answer_short (reach (setting_of_fun code before) (length b.instrs) (fun_start n b args))
          (reach_short (setting_of_fun code before) numbers f refl (length b.instrs) (fun_start n b args) first)
      by false = tt

  one_more : (before : List (Fun ℕ)) → FunsShort before → (g : Fun ℕ)
      → ((args : List (Word ℕ)) → AllShort args → ShortValue (g args)) → FunsShort (before ++ g ∷ [])
  one_more [] f g q zero x e args h = subst (λ (u : Fun ℕ). ShortValue (u args)) (some_eq e) (q args h)
  one_more [] f g q (suc n) x e args h = absurd (none_some e)
  one_more (y ∷ before) f g q zero x e args h = f zero x e args h
  one_more (y ∷ before) f g q (suc n) x e args h = one_more before (λ m. f (suc m)) g q n x e args h

  from_short : (bs : List CodeBlock) (before : List (Fun ℕ)) → FunsShort before → (n : ℕ)
      → FunsShort (values_from code before n bs)
  from_short [] before f n = f
  from_short (b ∷ bs) before f n =
      from_short bs (before ++ value_of code before n b ∷ [])
      (one_more before f (value_of code before n b) (value_of_short before f n b)) (suc n)

  pub values_short : FunsShort (values code)
  values_short = from_short code.blocks [] (λ n f e. absurd (none_some e)) 0

-- ---- merges

abbrev pub Fits : Result (Word ℕ) NumFault → Type 0
Fits (Ok w) = IsShort w
Fits (Err f) = Unit {0}

fits_then : (o : Option (Result (Word ℕ) Cause)) → ShortValue o → Fits (joining.word_or_fault o)
fits_then None h = tt
fits_then (Some (Ok w)) h = h
fits_then (Some (Err e)) h = tt

pub merge_fits : (code : Code) → HasShortNumbers code → (n : ℕ) (x y z : Word ℕ) → IsShort x → IsShort y → IsShort z
    → Fits (merged_by (values code) (Some n) x y z)
merge_fits code numbers n x y z a b c = by (slice_get (values code) n) refl
  where
    by : (o : Option (Fun ℕ)) → slice_get (values code) n ≡ o
        → Fits (joining.word_or_fault (r.value_at o (x ∷ y ∷ z ∷ [])))
    by None e = tt
    by (Some f) e = fits_then (f (x ∷ y ∷ z ∷ [])) (values_short code numbers n f e (x ∷ y ∷ z ∷ []) (a, (b, (c, tt))))

pub short_word : (x : Word ℕ) (u : ℕ) → IsWord x u → IsShort x
short_word (int z) u h = ap fits_i64 h.1 ∙ int_fits u h.0
short_word (bool b) u h = tt
short_word (rev q) u h = tt

-- ---- the numbers in code

pub one_number : (xs : List Instr) (n : ℕ) (y : Instr) → slice_get xs n ≡ Some y → PushesInt y
    → ((m : ℕ) (x : Instr) → m < n → slice_get xs m ≡ Some x → PushesInt x)
    → (m : ℕ) (x : Instr) → m < n + 1 → slice_get xs m ≡ Some x → PushesInt x
one_number xs n y is p before m x h e = by (nat_lt m n) refl
  where
    by : (d : Bool) → nat_lt m n ≡ d → PushesInt x
    by true d = before m x (grind (arith, nat_tests, d)) e
    by false d = (let z : n ≡ m = grind (arith, nat_tests, d, h) in
        subst PushesInt (some_eq (sym is ∙ ap (slice_get xs) z ∙ e)) p)

-- of the first n blocks
abbrev pub ShortBelow : List CodeBlock → ℕ → Type 0
ShortBelow bs n =
    (m : ℕ) (b : CodeBlock) (at : ℕ) (x : Instr) → m < n → slice_get bs m ≡ Some b → slice_get b.instrs at ≡ Some x
    → PushesInt x

pub one_block : (bs : List CodeBlock) (n : ℕ) (y : CodeBlock) → slice_get bs n ≡ Some y
    → ((at : ℕ) (x : Instr) → slice_get y.instrs at ≡ Some x → PushesInt x) → ShortBelow bs n → ShortBelow bs (n + 1)
one_block bs n y is p before m b at x h e k = by (nat_lt m n) refl
  where
    by : (d : Bool) → nat_lt m n ≡ d → PushesInt x
    by true d = before m b at x (grind (arith, nat_tests, d)) e k
    by false d = (let z : n ≡ m = grind (arith, nat_tests, d, h) in
        let w : b ≡ y = some_eq (sym e ∙ ap (slice_get bs) (sym z) ∙ is) in
        p at x (ap (λ (v : CodeBlock). slice_get v.instrs at) (sym w) ∙ k))
