-- What instructions do on words without a kind: numbers below 2 ^ 64, as a machine keeps them. An int is its 64 bits, a
-- bool 1 or 0, and a handle 0 for `none` and otherwise the revision's number and 1.
--   Run      what an instruction works on that neither leaves its block nor meets another revision
--   Plain    what it comes to
--   plain    the table of instructions, over the words that locations have
use Rattle.std.specs.Prelude.{ℕ, zero, suc, Bool, true, false, not, if◌then◌else◌, ℤ, List, [], ◌∷◌, length, Option, Some, None, Result, Ok, Err, slice_get, slice_set, nat_eq, int_lt, int_le}
use Rattle.rev_num.specs.declared.outcome.Cause.{Cause}
use Rattle.rev_num.specs.declared.outcome.Cause.TheVariants as cause
use Rattle.rev_num.specs.declared.value.NumFault.{NumFault}
use Rattle.rev_num.specs.Arith.{sum_of, difference_of, product_of, quotient_of, remainder_of, negation_of}
use Rattle.rev_num.specs.Words.{int_of, word_of}
use Rattle.rev_code.specs.declared.code.CodeVar.{CodeVar}
use Rattle.rev_code.specs.declared.code.Instr.{Instr}
use Rattle.rev_code.specs.declared.code.Instr.TheVariants as i
use Rattle.rev_code.specs.Variables.{Place, scalar, array, cell_at}
use Rattle.rev_code.specs.Step.{cause_of, input_at}

pub record Run : Type 0 where
  pub at : ℕ
  pub locals : List ℕ
  -- the top first
  pub stack : List ℕ
  pub fuel : ℕ
  pub line : ℕ

pub data Plain : Type 0 where
  moves : Run → Plain
  -- and the location has this word
  writes : Run → (location word : ℕ) → Plain
  faults : Run → Cause → Plain
  -- an instruction that applies a fun, calls, returns, prints, or meets another revision
  leaves : Plain
  -- no step
  lacks : Plain

abbrev pub flag : Bool → ℕ
flag true = 1
flag false = 0

abbrev pub on : Run → List ℕ → Plain
on r stack = moves (record r { at = suc r.at; stack = stack })

-- ---- values

abbrev pub number : Run → List ℕ → Result ℤ NumFault → Plain
number r rest (Ok z) = on r (word_of z ∷ rest)
number r rest (Err f) = faults r (cause_of f)

abbrev pub of_ints : (ℤ → ℤ → Result ℤ NumFault) → Run → List ℕ → Plain
of_ints f r (y ∷ x ∷ rest) = number r rest (f (int_of x) (int_of y))
of_ints f r _ = lacks

abbrev pub of_int : (ℤ → Result ℤ NumFault) → Run → List ℕ → Plain
of_int f r (x ∷ rest) = number r rest (f (int_of x))
of_int f r [] = lacks

abbrev pub of_bool : Run → List ℕ → Plain
of_bool r (w ∷ rest) = on r (flag (nat_eq w 0) ∷ rest)
of_bool r [] = lacks

-- whether two words are equal, which `turned` may turn round
abbrev pub equality : (turned : Bool → Bool) → Run → List ℕ → Plain
equality turned r (y ∷ x ∷ rest) = on r (flag (turned (nat_eq x y)) ∷ rest)
equality turned r _ = lacks

abbrev pub order : (ℤ → ℤ → Bool) → Run → List ℕ → Plain
order f r (y ∷ x ∷ rest) = on r (flag (f (int_of x) (int_of y)) ∷ rest)
order f r _ = lacks

-- ---- locals and locations

abbrev pub pushes : Run → List ℕ → Option ℕ → Plain
pushes r rest None = lacks
pushes r rest (Some w) = on r (w ∷ rest)

abbrev pub into_local : Run → ℕ → List ℕ → Plain
into_local r n (w ∷ rest) = moves (record r { at = suc r.at; stack = rest; locals = slice_set r.locals n w })
into_local r n [] = lacks

abbrev pub after_write : Run → List ℕ → ℕ → ℕ → Plain
after_write r rest l w = writes (record r { at = suc r.at; stack = rest }) l w

abbrev pub from_scalar : (ℕ → ℕ) → Run → Option Place → Plain
from_scalar read r None = lacks
from_scalar read r (Some p) = on r (read p.first ∷ r.stack)

abbrev pub into_scalar : Run → Option Place → List ℕ → Plain
into_scalar r (Some p) (w ∷ rest) = after_write r rest p.first w
into_scalar r _ _ = lacks

abbrev pub read_cell : (ℕ → ℕ) → Run → List ℕ → Option ℕ → Plain
read_cell read r rest None = faults r cause.Index
read_cell read r rest (Some l) = on r (read l ∷ rest)

abbrev pub from_cell : (ℕ → ℕ) → Run → Option Place → List ℕ → Plain
from_cell read r (Some p) (w ∷ rest) = read_cell read r rest (cell_at p (int_of w))
from_cell read r _ _ = lacks

abbrev pub write_cell : Run → List ℕ → ℕ → Option ℕ → Plain
write_cell r rest w None = faults r cause.Index
write_cell r rest w (Some l) = after_write r rest l w

abbrev pub into_cell : Run → Option Place → List ℕ → Plain
into_cell r (Some p) (w ∷ n ∷ rest) = write_cell r rest w (cell_at p (int_of n))
into_cell r _ _ = lacks

abbrev pub test_cell : Run → Option ℕ → Plain
test_cell r None = faults r cause.Index
test_cell r (Some l) = on r r.stack

abbrev pub over_cell : Run → Option Place → List ℕ → Plain
over_cell r (Some p) (w ∷ rest) = test_cell r (cell_at p (int_of w))
over_cell r _ _ = lacks

-- ---- input

abbrev pub read_input : Run → List ℕ → Option ℤ → Plain
read_input r rest None = faults r cause.Index
read_input r rest (Some z) = on r (word_of z ∷ rest)

abbrev pub from_input : List ℤ → Run → List ℕ → Plain
from_input inputs r (w ∷ rest) = read_input r rest (input_at inputs (int_of w))
from_input inputs r [] = lacks

-- ---- jumps and payment

abbrev pub jump_if : (wanted : Bool) → ℕ → Run → List ℕ → Plain
jump_if true to r (w ∷ rest) = moves (record r { at = (if nat_eq w 0 then suc r.at else to); stack = rest })
jump_if false to r (w ∷ rest) = moves (record r { at = (if nat_eq w 0 then to else suc r.at); stack = rest })
jump_if wanted to r [] = lacks

abbrev pub charge : Run → (line fuel : ℕ) → Plain
charge r line zero = faults (record r { line = line }) cause.Spent
charge r line (suc fuel) = moves (record r { at = suc r.at; fuel = fuel; line = line })

-- ---- the others

abbrev pub assert : Run → List ℕ → Plain
assert r (w ∷ rest) = if nat_eq w 0 then faults r cause.Assert else on r rest
assert r [] = lacks

abbrev pub pop : Run → List ℕ → Plain
pop r (w ∷ rest) = on r rest
pop r [] = lacks

-- ---- the table of instructions

abbrev pub plain : List CodeVar → List ℤ → (read : ℕ → ℕ) → Run → Instr → Plain
plain vars inputs read r (i.PushInt n) = on r (word_of n ∷ r.stack)
plain vars inputs read r (i.PushBool v) = on r (flag v ∷ r.stack)
plain vars inputs read r i.PushNone = on r (0 ∷ r.stack)
plain vars inputs read r (i.LoadLocal n) = pushes r r.stack (slice_get r.locals n)
plain vars inputs read r (i.StoreLocal n) = into_local r n r.stack
plain vars inputs read r (i.LoadShared v) = from_scalar read r (scalar vars v)
plain vars inputs read r (i.StoreShared v) = into_scalar r (scalar vars v) r.stack
plain vars inputs read r (i.LoadCell v) = from_cell read r (array vars v) r.stack
plain vars inputs read r (i.StoreCell v) = into_cell r (array vars v) r.stack
plain vars inputs read r (i.CheckCell v) = over_cell r (array vars v) r.stack
plain vars inputs read r i.LoadInput = from_input inputs r r.stack
plain vars inputs read r i.CountInput = on r (length inputs ∷ r.stack)
plain vars inputs read r i.Add = of_ints sum_of r r.stack
plain vars inputs read r i.Sub = of_ints difference_of r r.stack
plain vars inputs read r i.Mul = of_ints product_of r r.stack
plain vars inputs read r i.Div = of_ints quotient_of r r.stack
plain vars inputs read r i.Rem = of_ints remainder_of r r.stack
plain vars inputs read r i.Neg = of_int negation_of r r.stack
plain vars inputs read r i.Not = of_bool r r.stack
plain vars inputs read r i.Eq = equality (λ same. same) r r.stack
plain vars inputs read r i.Ne = equality not r r.stack
plain vars inputs read r i.Lt = order int_lt r r.stack
plain vars inputs read r i.Le = order int_le r r.stack
plain vars inputs read r i.Gt = order (λ x y. int_lt y x) r r.stack
plain vars inputs read r i.Ge = order (λ x y. int_le y x) r r.stack
plain vars inputs read r (i.Jump to) = moves (record r { at = to })
plain vars inputs read r (i.JumpIfFalse to) = jump_if false to r r.stack
plain vars inputs read r (i.JumpIfTrue to) = jump_if true to r r.stack
plain vars inputs read r (i.Apply n) = leaves
plain vars inputs read r (i.Charge line) = charge r line r.fuel
plain vars inputs read r (i.Call n) = leaves
plain vars inputs read r (i.Fork n) = leaves
plain vars inputs read r i.Join = leaves
plain vars inputs read r (i.Print n) = leaves
plain vars inputs read r i.Assert = assert r r.stack
plain vars inputs read r i.Return = leaves
plain vars inputs read r i.Pop = pop r r.stack
plain vars inputs read r i.TryJoin = leaves
