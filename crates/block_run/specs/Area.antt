-- What the area of words and the registers stand for.
--   stack_of     words from a place on, the last first
--   run_of       what an instruction of a block works on
--   IsPlaced     so many words stand on the stack
--   IsAct        what an instruction of a block came to, where it neither reads nor writes a location
--   Does         what any instruction came to
use Rattle.std.specs.Prelude.{ℕ, zero, suc, ◌+◌, ◌-◌, ◌^◌, ◌<◌, ◌≤◌, ◌≡◌, List, [], ◌∷◌, length, take, drop, slice_index_or, Option, Some, slice_get}
use Rattle.rev_code.specs.declared.code.CodeBlock.{CodeBlock}
use Rattle.rev_code.specs.declared.code.CodeVar.{CodeVar}
use Rattle.rev_code.specs.declared.code.Instr.{Instr}
use Rattle.rev_code.specs.declared.code.Instr.TheVariants as i
use Rattle.rev_code.specs.Variables.{Place, scalar, array}
use Rattle.block_run.specs.Plain.{Run, Plain, moves, writes, faults, leaves, lacks}
use Rattle.block_run.specs.declared.registers.Registers.{Registers}
use Rattle.block_run.specs.declared.registers.Stop.{Stop}
use Rattle.block_run.specs.declared.registers.Stop.TheVariants as stop
use Rattle.block_run.specs.declared.registers.Variable.{Variable}

-- the k words from low on, the last first
abbrev pub stack_of : List ℕ → ℕ → ℕ → List ℕ
stack_of ws low zero = []
stack_of ws low (suc k) = slice_index_or ws (low + k) 0 ∷ stack_of ws low k

-- where the stack of a frame begins
abbrev pub low : CodeBlock → Registers → ℕ
low b r = r.base + length b.locals

abbrev pub run_of : CodeBlock → List ℕ → Registers → Run
run_of b ws r = record {
  at = r.at;
  locals = take (length b.locals) (drop r.base ws);
  stack = stack_of ws (low b r) (r.top - low b r);
  fuel = r.fuel;
  line = r.line;
}

-- so many words stand on the stack, in an area of so many words
pub record IsPlaced (b : CodeBlock) (r : Registers) (n taken : ℕ) : Type 0 where
  pub found : low b r + taken ≤ r.top
  pub within : r.top ≤ n
  pub at : r.at + 1 < 2 ^ 32

abbrev pub Steps : Plain → Run → Run → Stop → Type 0
Steps p q q' stop.Goes = p ≡ moves q'
Steps p q q' (stop.Traps cause) = p ≡ faults q' cause
Steps p q q' stop.Leaves = (p ≡ leaves) × (q' ≡ q)

-- the frame, with the words below it as they were
pub record StaysIn (b : CodeBlock) (ws ws' : List ℕ) (r r' : Registers) : Type 0 where
  pub block : r'.block ≡ r.block
  pub base : r'.base ≡ r.base
  pub top : low b r ≤ r'.top
  pub below : take r.base ws' ≡ take r.base ws

pub record IsAct (p : Plain) (b : CodeBlock) (ws ws' : List ℕ) (r r' : Registers) (s : Stop) : Type 0 where
  pub steps : Steps p (run_of b ws r) (run_of b ws' r') s
  pub stays : StaysIn b ws ws' r r'

-- ---- any instruction, which leaves the locations as they were, or writes one

abbrev pub Ran : Plain → Run → (kept : Type 0) → (wrote : ℕ → ℕ → Type 0) → Type 0
Ran (moves q) q' kept wrote = (q ≡ q') × kept
Ran (writes q l w) q' kept wrote = (q ≡ q') × wrote l w
Ran (faults q e) q' kept wrote = ⊥
Ran leaves q' kept wrote = ⊥
Ran lacks q' kept wrote = ⊥

abbrev pub Does : Plain → Run → Run → Stop → (kept : Type 0) → (wrote : ℕ → ℕ → Type 0) → Type 0
Does p q q' stop.Goes kept wrote = Ran p q' kept wrote
Does p q q' (stop.Traps cause) kept wrote = (p ≡ faults q' cause) × kept
Does p q q' stop.Leaves kept wrote = (p ≡ leaves) × (q' ≡ q) × kept

-- ---- what an instruction takes from the stack and leaves there, as numbers of words

abbrev pub taken : Instr → ℕ
taken (i.PushInt n) = 0
taken (i.PushBool v) = 0
taken i.PushNone = 0
taken (i.LoadLocal n) = 0
taken (i.StoreLocal n) = 1
taken (i.LoadShared v) = 0
taken (i.StoreShared v) = 1
taken (i.LoadCell v) = 1
taken (i.StoreCell v) = 2
taken (i.CheckCell v) = 1
taken i.LoadInput = 1
taken i.CountInput = 0
taken i.Add = 2
taken i.Sub = 2
taken i.Mul = 2
taken i.Div = 2
taken i.Rem = 2
taken i.Neg = 1
taken i.Not = 1
taken i.Eq = 2
taken i.Ne = 2
taken i.Lt = 2
taken i.Le = 2
taken i.Gt = 2
taken i.Ge = 2
taken (i.Jump to) = 0
taken (i.JumpIfFalse to) = 1
taken (i.JumpIfTrue to) = 1
taken (i.Apply n) = 0
taken (i.Charge line) = 0
taken (i.Call n) = 0
taken (i.Fork n) = 0
taken i.Join = 0
taken (i.Print n) = 0
taken i.Assert = 1
taken i.Return = 0
taken i.Pop = 1
taken i.TryJoin = 0

-- the instruction needs a further word of the area
abbrev pub pushes : Instr → ℕ
pushes (i.PushInt n) = 1
pushes (i.PushBool v) = 1
pushes i.PushNone = 1
pushes (i.LoadLocal n) = 1
pushes (i.LoadShared v) = 1
pushes i.CountInput = 1
pushes _ = 0

-- ---- what operands name

-- how many locations these variables have
abbrev pub count : List CodeVar → ℕ
count [] = 0
count (v ∷ vs) = v.cells + count vs

-- where the variable at this place lies, as the table has it
pub record IsVariable (at : Option Place) (t : Variable) (size : ℕ) : Type 0 where
  pub place : Place
  pub is : at ≡ Some place
  pub first : place.first ≡ t.first
  pub cells : place.var.cells ≡ t.cells
  pub within : t.first + t.cells ≤ size
  pub some : 0 < t.cells

pub record IsListed (at : Option Place) (table : List Variable) (v size : ℕ) : Type 0 where
  pub variable : Variable
  pub is : slice_get table v ≡ Some variable
  pub lies : IsVariable at variable size

-- the table has each variable
pub record IsTable (vars : List CodeVar) (table : List Variable) : Type 0 where
  pub scalars : (v : ℕ) (p : Place) → scalar vars v ≡ Some p → IsListed (scalar vars v) table v (count vars)
  pub arrays : (v : ℕ) (p : Place) → array vars v ≡ Some p → IsListed (array vars v) table v (count vars)
  pub few : count vars < 2 ^ 32

abbrev pub IsOperand : List CodeVar → CodeBlock → Instr → Type 0
IsOperand vars b (i.LoadLocal n) = n < length b.locals
IsOperand vars b (i.StoreLocal n) = n < length b.locals
IsOperand vars b (i.LoadShared v) = (p : Place) × (scalar vars v ≡ Some p)
IsOperand vars b (i.StoreShared v) = (p : Place) × (scalar vars v ≡ Some p)
IsOperand vars b (i.LoadCell v) = (p : Place) × (array vars v ≡ Some p)
IsOperand vars b (i.StoreCell v) = (p : Place) × (array vars v ≡ Some p)
IsOperand vars b (i.CheckCell v) = (p : Place) × (array vars v ≡ Some p)
IsOperand vars b _ = Unit {0}

-- the table of these variables, of which the first begins at this location
abbrev pub table_from : ℕ → List CodeVar → List Variable
table_from first [] = []
table_from first (v ∷ vs) = record { first = first; cells = v.cells } ∷ table_from (first + v.cells) vs
