-- What an instruction does to a revision that runs code. The last section is the table of instructions, one case a row;
-- what stands above it are the forms that its rows have.
--   Comes     what an instruction comes to: the next state; a trap, with the cause; a fork, with the block and the
--             arguments of the child; a join, with the handle and whether it is a TryJoin; the end, with the result. An
--             event has the state at which it comes: its place is that of the instruction, with all words on the stack
--   stuck     no step, where a row finds too few words, a word of another kind, or an operand that names nothing
--   act       the table
--   step      the next instruction of a state
use Rattle.std.specs.Prelude.{ℕ, zero, suc, Bool, true, false, not, if◌then◌else◌, ℤ, pos, negsuc, List, [], ◌∷◌, ◌++◌, length, reverse, take, drop, map, Option, Some, None, Result, Ok, Err, slice_get, slice_set, nat_lt, ◌≡◌, int_lt, int_le}
use Rattle.rev_num.specs.declared.value.ValueKind.{ValueKind}
use Rattle.rev_num.specs.declared.outcome.Cause.{Cause}
use Rattle.rev_num.specs.declared.outcome.Cause.TheVariants as cause
use Rattle.rev_num.specs.declared.value.NumFault.{NumFault}
use Rattle.rev_num.specs.declared.value.NumFault.TheVariants as fault
use Rattle.rev_num.specs.Arith.{sum_of, difference_of, product_of, quotient_of, remainder_of, negation_of}
use Rattle.rev_num.specs.Value.{same_kind, same_number, same_truth}
use Rattle.rev_code.specs.declared.code.Instr.{Instr}
use Rattle.rev_code.specs.declared.code.Instr.TheVariants as i
use Rattle.rev_code.specs.declared.code.BlockClass.{BlockClass}
use Rattle.rev_code.specs.declared.code.BlockClass.TheVariants as class
use Rattle.rev_code.specs.declared.code.CodeBlock.{CodeBlock}
use Rattle.rev_code.specs.declared.code.LayoutItem.{LayoutItem}
use Rattle.rev_code.specs.Words.{Word, int, bool, rev, kind_of, fits, zero_word}
use Rattle.rev_code.specs.State.{Frame, Fun, Setting, State, seen_at, written_at}
use Rattle.rev_code.specs.Variables.{Place, scalar, array, cell_at}
use Rattle.rev_code.specs.Printing.{line_of, printed_kinds}
pub use Rattle.rev_num.specs.Limits.{most_frames}

pub data Comes (H : Type 0) : Type 0 where
  goes : State H → Comes H
  traps : State H → Cause → Comes H
  forks : State H → (block : ℕ) → List (Word H) → Comes H
  joins : State H → (try : Bool) → H → Comes H
  ends : State H → Option (Word H) → Comes H
  stuck : Comes H

-- the next instruction, with this stack
abbrev pub on : {H : Type 0} → State H → List (Word H) → Comes H
on c stack = goes (record c { at = suc c.at; stack = stack })

-- ---- values

abbrev pub cause_of : NumFault → Cause
cause_of fault.Overflow = cause.Overflow
cause_of fault.ZeroDivisor = cause.ZeroDivisor

-- a number, or why there is none, in place of the words that were taken
abbrev pub number : {H : Type 0} → State H → List (Word H) → Result ℤ NumFault → Comes H
number c rest (Ok z) = on c (int z ∷ rest)
number c rest (Err f) = traps c (cause_of f)

-- int, int to int; the right operand is on top
abbrev pub of_ints : {H : Type 0} → (ℤ → ℤ → Result ℤ NumFault) → State H → List (Word H) → Comes H
of_ints f c (int y ∷ int x ∷ rest) = number c rest (f x y)
of_ints f c _ = stuck

-- int to int
abbrev pub of_int : {H : Type 0} → (ℤ → Result ℤ NumFault) → State H → List (Word H) → Comes H
of_int f c (int x ∷ rest) = number c rest (f x)
of_int f c _ = stuck

-- bool to bool
abbrev pub of_bool : {H : Type 0} → State H → List (Word H) → Comes H
of_bool c (bool b ∷ rest) = on c (bool (not b) ∷ rest)
of_bool c _ = stuck

-- two ints or two bools to bool: whether they are equal, which `turned` may turn round
abbrev pub equality : {H : Type 0} → (turned : Bool → Bool) → State H → List (Word H) → Comes H
equality turned c (int y ∷ int x ∷ rest) = on c (bool (turned (same_number x y)) ∷ rest)
equality turned c (bool y ∷ bool x ∷ rest) = on c (bool (turned (same_truth x y)) ∷ rest)
equality turned c _ = stuck

-- int, int to bool
abbrev pub order : {H : Type 0} → (ℤ → ℤ → Bool) → State H → List (Word H) → Comes H
order f c (int y ∷ int x ∷ rest) = on c (bool (f x y) ∷ rest)
order f c _ = stuck

-- ---- locals and locations

-- push the word, where there is one
abbrev pub pushes : {H : Type 0} → State H → List (Word H) → Option (Word H) → Comes H
pushes c rest None = stuck
pushes c rest (Some w) = on c (w ∷ rest)

-- pop into the local of this kind
abbrev pub into_local : {H : Type 0} → State H → ℕ → Option ValueKind → List (Word H) → Comes H
into_local c n (Some k) (w ∷ rest) =
    if same_kind k (kind_of w) then goes (record c { at = suc c.at; stack = rest; locals = slice_set c.locals n w })
    else stuck
into_local c n _ _ = stuck

-- the state after a write to a location
abbrev pub after_write : {H : Type 0} → State H → List (Word H) → ℕ → Word H → Comes H
after_write c rest l w = goes (record c { at = suc c.at; stack = rest; locations = written_at c.locations l w })

-- push the scalar variable
abbrev pub from_scalar : {H : Type 0} → State H → Option Place → Comes H
from_scalar c None = stuck
from_scalar c (Some p) = pushes c c.stack (seen_at c.locations p.first)

-- pop into the scalar variable
abbrev pub into_scalar : {H : Type 0} → State H → Option Place → List (Word H) → Comes H
into_scalar c (Some p) (w ∷ rest) = if same_kind p.var.kind (kind_of w) then after_write c rest p.first w else stuck
into_scalar c _ _ = stuck

abbrev pub read_cell : {H : Type 0} → State H → List (Word H) → Option ℕ → Comes H
read_cell c rest None = traps c cause.Index
read_cell c rest (Some l) = pushes c rest (seen_at c.locations l)

-- index to value
abbrev pub from_cell : {H : Type 0} → State H → Option Place → List (Word H) → Comes H
from_cell c (Some p) (int n ∷ rest) = read_cell c rest (cell_at p n)
from_cell c _ _ = stuck

abbrev pub write_cell : {H : Type 0} → State H → List (Word H) → Word H → Option ℕ → Comes H
write_cell c rest w None = traps c cause.Index
write_cell c rest w (Some l) = after_write c rest l w

-- index, value to nothing
abbrev pub into_cell : {H : Type 0} → State H → Option Place → List (Word H) → Comes H
into_cell c (Some p) (w ∷ int n ∷ rest) =
    if same_kind p.var.kind (kind_of w) then write_cell c rest w (cell_at p n) else stuck
into_cell c _ _ = stuck

abbrev pub test_cell : {H : Type 0} → State H → Option ℕ → Comes H
test_cell c None = traps c cause.Index
test_cell c (Some l) = on c c.stack

-- an index stays
abbrev pub over_cell : {H : Type 0} → State H → Option Place → List (Word H) → Comes H
over_cell c (Some p) (int n ∷ rest) = test_cell c (cell_at p n)
over_cell c _ _ = stuck

-- ---- input

abbrev pub input_at : List ℤ → ℤ → Option ℤ
input_at inputs (pos n) = slice_get inputs n
input_at inputs (negsuc n) = None

abbrev pub read_input : {H : Type 0} → State H → List (Word H) → Option ℤ → Comes H
read_input c rest None = traps c cause.Index
read_input c rest (Some z) = on c (int z ∷ rest)

-- position to number
abbrev pub from_input : {H : Type 0} → List ℤ → State H → List (Word H) → Comes H
from_input inputs c (int n ∷ rest) = read_input c rest (input_at inputs n)
from_input inputs c _ = stuck

-- ---- jumps and payment

-- bool to nothing: to the target where it is as wanted
abbrev pub jump_if : {H : Type 0} → (wanted : Bool) → ℕ → State H → List (Word H) → Comes H
jump_if true to c (bool b ∷ rest) = goes (record c { at = (if b then to else suc c.at); stack = rest })
jump_if false to c (bool b ∷ rest) = goes (record c { at = (if b then suc c.at else to); stack = rest })
jump_if wanted to c _ = stuck

-- pay 1 and set the line; the trap has this line
abbrev pub charge : {H : Type 0} → State H → (line fuel : ℕ) → Comes H
charge c line zero = traps (record c { line = line }) cause.Spent
charge c line (suc fuel) = goes (record c { at = suc c.at; fuel = fuel; line = line })

-- ---- blocks and their arguments

-- the uppermost words, as many as these kinds and of these kinds, in the order in which they were pushed
abbrev pub arguments : {H : Type 0} → List ValueKind → List (Word H) → Option (List (Word H))
arguments kinds stack =
    let args = reverse (take (length kinds) stack) in
    if fits kinds args then Some args else None

abbrev pub params : CodeBlock → List ValueKind
params b = take b.params b.locals

abbrev pub is_procedure : BlockClass → Bool
is_procedure class.Proc = true
is_procedure class.Main = false
is_procedure class.Fun = false
is_procedure class.Merge = false

abbrev pub is_fun : BlockClass → Bool
is_fun class.Fun = true
is_fun class.Merge = false
is_fun class.Proc = false
is_fun class.Main = false

abbrev pub only : (BlockClass → Bool) → Option CodeBlock → Option CodeBlock
only wanted None = None
only wanted (Some b) = if wanted b.class then Some b else None

-- the locals of a new frame: the arguments in the parameters, the others 0, `false` or `none`
abbrev pub first_locals : {H : Type 0} → CodeBlock → List (Word H) → List (Word H)
first_locals b args = args ++ map zero_word (drop (length args) b.locals)

-- a fun's value in place of its arguments
abbrev pub value_or_trap : {H : Type 0} → State H → List (Word H) → Option (Result (Word H) Cause) → Comes H
value_or_trap c rest None = stuck
value_or_trap c rest (Some (Ok w)) = on c (w ∷ rest)
value_or_trap c rest (Some (Err e)) = traps c e

abbrev pub value_at : {H : Type 0} → Option (Fun H) → List (Word H) → Option (Result (Word H) Cause)
value_at None args = None
value_at (Some f) args = f args

abbrev pub apply_to : {H : Type 0} → State H → Option (Fun H) → Option (List (Word H)) → Comes H
apply_to c f None = stuck
apply_to c f (Some args) = value_or_trap c (drop (length args) c.stack) (value_at f args)

-- arguments to the fun's value
abbrev pub apply : {H : Type 0} → State H → Option CodeBlock → Option (Fun H) → Comes H
apply c None f = stuck
apply c (Some b) f = apply_to c f (arguments (params b) c.stack)

abbrev pub enter : {H : Type 0} → State H → ℕ → CodeBlock → List (Word H) → State H
enter c n b args = record c {
  block = n;
  at = 0;
  locals = first_locals b args;
  stack = drop (length args) c.stack;
  below = record { block = c.block; at = suc c.at; locals = c.locals } ∷ c.below;
}

abbrev pub call_with : {H : Type 0} → State H → ℕ → CodeBlock → Option (List (Word H)) → Comes H
call_with c n b None = stuck
call_with c n b (Some args) =
    if nat_lt (suc (length c.below)) most_frames then goes (enter c n b args) else traps c cause.CallDepth

-- arguments to the result, if any, which comes when the frame that is entered returns
abbrev pub call : {H : Type 0} → State H → ℕ → Option CodeBlock → Comes H
call c n None = stuck
call c n (Some b) = call_with c n b (arguments (params b) c.stack)

abbrev pub fork_with : {H : Type 0} → State H → ℕ → Option (List (Word H)) → Comes H
fork_with c n None = stuck
fork_with c n (Some args) = forks c n args

-- arguments to rev
abbrev pub fork : {H : Type 0} → State H → ℕ → Option CodeBlock → Comes H
fork c n None = stuck
fork c n (Some b) = fork_with c n (arguments (params b) c.stack)

-- rev to nothing, or to bool at a TryJoin
abbrev pub join : {H : Type 0} → State H → (try : Bool) → List (Word H) → Comes H
join c try (rev (Some h) ∷ rest) = joins c try h
join c try (rev None ∷ rest) = traps c cause.JoinNone
join c try _ = stuck

-- the frame below goes on behind its Call, where the result lies on the stack; in the first frame the revision ends
abbrev pub leave : {H : Type 0} → State H → List (Frame H) → Option (Word H) → Comes H
leave c [] result' = ends c result'
leave c (f ∷ fs) result' = goes (record c { block = f.block; at = f.at; locals = f.locals; below = fs })

-- the result, if the block has one
abbrev pub return : {H : Type 0} → State H → Option ValueKind → List (Word H) → Comes H
return c None stack = leave c c.below None
return c (Some k) [] = stuck
return c (Some k) (w ∷ rest) = if same_kind k (kind_of w) then leave c c.below (Some w) else stuck

-- ---- the others

abbrev pub print_with : {H : Type 0} → List (List ℕ) → State H → List LayoutItem → Option (List (Word H)) → Comes H
print_with texts c items None = stuck
print_with texts c items (Some ws) =
    goes (record c { at = suc c.at; stack = drop (length ws) c.stack; text = c.text ++ line_of texts items ws })

-- the layout's values to nothing
abbrev pub print : {H : Type 0} → List (List ℕ) → State H → Option (List LayoutItem) → Comes H
print texts c None = stuck
print texts c (Some items) = print_with texts c items (arguments (printed_kinds items) c.stack)

-- bool to nothing
abbrev pub assert : {H : Type 0} → State H → List (Word H) → Comes H
assert c (bool b ∷ rest) = if b then on c rest else traps c cause.Assert
assert c _ = stuck

-- any to nothing
abbrev pub pop : {H : Type 0} → State H → List (Word H) → Comes H
pop c [] = stuck
pop c (w ∷ rest) = on c rest

-- ---- the table of instructions

abbrev pub act : {H : Type 0} → Setting H → CodeBlock → State H → Instr → Comes H
act s b c (i.PushInt n) = on c (int n ∷ c.stack)
act s b c (i.PushBool v) = on c (bool v ∷ c.stack)
act s b c i.PushNone = on c (rev None ∷ c.stack)
act s b c (i.LoadLocal n) = pushes c c.stack (slice_get c.locals n)
act s b c (i.StoreLocal n) = into_local c n (slice_get b.locals n) c.stack
act s b c (i.LoadShared v) = from_scalar c (scalar s.code.vars v)
act s b c (i.StoreShared v) = into_scalar c (scalar s.code.vars v) c.stack
act s b c (i.LoadCell v) = from_cell c (array s.code.vars v) c.stack
act s b c (i.StoreCell v) = into_cell c (array s.code.vars v) c.stack
act s b c (i.CheckCell v) = over_cell c (array s.code.vars v) c.stack
act s b c i.LoadInput = from_input s.inputs c c.stack
act s b c i.CountInput = on c (int (pos (length s.inputs)) ∷ c.stack)
act s b c i.Add = of_ints sum_of c c.stack
act s b c i.Sub = of_ints difference_of c c.stack
act s b c i.Mul = of_ints product_of c c.stack
act s b c i.Div = of_ints quotient_of c c.stack
act s b c i.Rem = of_ints remainder_of c c.stack
act s b c i.Neg = of_int negation_of c c.stack
act s b c i.Not = of_bool c c.stack
act s b c i.Eq = equality (λ same. same) c c.stack
act s b c i.Ne = equality not c c.stack
act s b c i.Lt = order int_lt c c.stack
act s b c i.Le = order int_le c c.stack
act s b c i.Gt = order (λ x y. int_lt y x) c c.stack
act s b c i.Ge = order (λ x y. int_le y x) c c.stack
act s b c (i.Jump to) = goes (record c { at = to })
act s b c (i.JumpIfFalse to) = jump_if false to c c.stack
act s b c (i.JumpIfTrue to) = jump_if true to c c.stack
act s b c (i.Apply n) = apply c (only is_fun (slice_get s.code.blocks n)) (slice_get s.funs n)
act s b c (i.Charge line) = charge c line c.fuel
act s b c (i.Call n) = call c n (only is_procedure (slice_get s.code.blocks n))
act s b c (i.Fork n) = fork c n (only is_procedure (slice_get s.code.blocks n))
act s b c i.Join = join c false c.stack
act s b c (i.Print n) = print s.code.texts c (slice_get s.code.layouts n)
act s b c i.Assert = assert c c.stack
act s b c i.Return = return c b.result c.stack
act s b c i.Pop = pop c c.stack
act s b c i.TryJoin = join c true c.stack

abbrev pub act_at : {H : Type 0} → Setting H → CodeBlock → State H → Option Instr → Comes H
act_at s b c None = stuck
act_at s b c (Some x) = act s b c x

abbrev pub act_in : {H : Type 0} → Setting H → State H → Option CodeBlock → Comes H
act_in s c None = stuck
act_in s c (Some b) = act_at s b c (slice_get b.instrs c.at)

abbrev pub step : {H : Type 0} → Setting H → State H → Comes H
step s c = act_in s c (slice_get s.code.blocks c.block)

-- ---- several steps

-- from one state to another
pub data Steps {H : Type 0} (s : Setting H) : State H → State H → Type 0 where
  none : {c : State H} → Steps s c c
  more : {c c' c'' : State H} → step s c ≡ goes c' → Steps s c' c'' → Steps s c c''

abbrev pub onward : {H : Type 0} → (State H → Comes H) → Comes H → Comes H
onward f (goes c) = f c
onward f (traps c e) = traps c e
onward f (forks c n args) = forks c n args
onward f (joins c try h) = joins c try h
onward f (ends c w) = ends c w
onward f stuck = stuck

-- what comes of at most so many further instructions: the first event, or the state where they lead
abbrev pub reach : {H : Type 0} → Setting H → ℕ → State H → Comes H
reach s zero c = step s c
reach s (suc k) c = onward (λ c'. reach s k c') (step s c)
