-- Which state a revision on the area of words is in.
--   Mode              what runs: a program, or the block of a fun or merge
--   IsSeen, AreSeen   the words of a memory stand for what a state has in its locations
--   Here              the area, the registers and the memory stand for a state of accepted code
--   SameElse          what no instruction of a block touches
--   Ahead             steps within a block
--   Ends              why they end: a trap, or an instruction that leaves the block or meets another revision
use Rattle.std.specs.Prelude.{ℕ, ◌≡◌, ◌<◌, ◌≤◌, ◌+◌, ◌*◌, ◌-◌, Bool, true, false, ℤ, List, length, take, Option, Some, None, slice_get}
use Rattle.rev_num.specs.declared.outcome.Cause.{Cause}
use Rattle.rev_code.specs.declared.code.Code.{Code}
use Rattle.rev_code.specs.declared.code.CodeBlock.{CodeBlock}
use Rattle.rev_code.specs.declared.code.Instr.{Instr}
use Rattle.rev_code.specs.declared.code.Instr.TheVariants as i
use Rattle.rev_code.specs.Words.{Word}
use Rattle.rev_code.specs.State.{Location, Setting, State}
use Rattle.rev_code.specs.Step.{traps, step, Steps}
use Rattle.rev_code.specs.Funs.{setting, setting_of_fun, values}
use Rattle.code_rules.specs.Pass.{is_charge, is_value_class}
use Rattle.code_soundness.specs.Typed.{IsRevision, IsTyped}
use Rattle.code_soundness.specs.AcceptedCode.{notes_of}
use Rattle.block_run.specs.Agreement.{IsWord, IsRun}
use Rattle.block_run.specs.declared.registers.Registers.{Registers}
use Rattle.block_run.specs.declared.registers.Stop.{Stop}
use Rattle.block_run.specs.declared.registers.Stop.TheVariants as stop
use Rattle.block_run.specs.Area.{count, low, run_of}

-- ---- locations

-- by the word that the memory sees there, and the word at the fork where the revision has written
abbrev pub IsSeen : Location ℕ → ℕ → Option ℕ → Type 0
IsSeen x w None = (x.written ≡ None) × IsWord x.snapshot w
IsSeen x w (Some root) = (y : Word ℕ) × (x.written ≡ Some y) × IsWord y w × IsWord x.snapshot root

abbrev pub AreSeen : List (Location ℕ) → (seen : ℕ → ℕ) → (root : ℕ → Option ℕ) → Type 0
AreSeen xs seen root = (l : ℕ) (x : Location ℕ) → slice_get xs l ≡ Some x → IsSeen x (seen l) (root l)

-- ---- what runs

pub data Mode : Type 0 where
  program : (share : ℕ) → Mode
  -- the block of this number, which is a fun or merge, is evaluated
  value : (n : ℕ) → Mode

abbrev pub setting_in : Code → List ℤ → Mode → Setting ℕ
setting_in code inputs (program share) = setting code inputs share
setting_in code inputs (value n) = setting_of_fun code (take n (values code))

abbrev pub IsOfValue : Code → ℕ → Type 0
IsOfValue code n = (b : CodeBlock) × (slice_get code.blocks n ≡ Some b) × (is_value_class b.class ≡ true)

-- the states in which nothing goes wrong
abbrev pub IsGood : Code → Mode → State ℕ → Type 0
IsGood code (program share) c = IsRevision code (notes_of code) c
IsGood code (value n) c = IsTyped code (notes_of code) c × (c.block ≡ n) × IsOfValue code n

-- ---- states

pub record Here (code : Code) (inputs : List ℤ) (m : Mode) (b : CodeBlock) (c : State ℕ) (ws : List ℕ) (r : Registers)
    (seen : ℕ → ℕ) (root : ℕ → Option ℕ) : Type 0 where
  pub good : IsGood code m c
  pub inputs_are : (setting_in code inputs m).inputs ≡ inputs
  pub block : c.block ≡ r.block
  pub run : IsRun c (run_of b ws r)
  pub top : low b r ≤ r.top
  pub locations : AreSeen c.locations seen root
  pub many : length c.locations ≤ count code.vars

pub record SameElse (c c' : State ℕ) : Type 0 where
  pub block : c'.block ≡ c.block
  pub below : c'.below ≡ c.below
  pub forks : c'.forks ≡ c.forks
  pub listed : c'.listed ≡ c.listed
  pub text : c'.text ≡ c.text

-- room for the stack at each place
abbrev pub IsRoomy : Code → CodeBlock → Registers → (size : ℕ) → Type 0
IsRoomy code b r size = (at : ℕ) → at < length b.instrs → low b r + length (notes_of code r.block at).shape ≤ size

-- the instruction leaves the block, or meets another revision
abbrev pub leaves_block : Instr → Bool
leaves_block (i.Apply n) = true
leaves_block (i.Call n) = true
leaves_block (i.Fork n) = true
leaves_block i.Join = true
leaves_block (i.Print n) = true
leaves_block i.Return = true
leaves_block i.TryJoin = true
leaves_block _ = false

-- ---- runs

pub record Ahead (code : Code) (inputs : List ℤ) (m : Mode) (b : CodeBlock) (c : State ℕ) (ws : List ℕ) (r : Registers)
    (seen : ℕ → ℕ) (root : ℕ → Option ℕ) : Type 0 where
  pub now : State ℕ
  pub steps : Steps (setting_in code inputs m) c now
  pub here : Here code inputs m b now ws r seen root
  pub same : SameElse c now

-- a trap, with the line, the fuel and the locations there
pub record IsTrapped (code : Code) (inputs : List ℤ) (m : Mode) (b : CodeBlock) (c : State ℕ) (e : Cause) (ws : List ℕ)
    (r : Registers) (seen : ℕ → ℕ) (root : ℕ → Option ℕ) : Type 0 where
  pub before : State ℕ
  pub steps : Steps (setting_in code inputs m) c before
  pub trapped : State ℕ
  pub trap : step (setting_in code inputs m) before ≡ traps trapped e
  pub run : IsRun trapped (run_of b ws r)
  pub locations : AreSeen trapped.locations seen root
  pub same : SameElse c trapped

-- at an instruction that leaves the block
pub record IsLeaving (code : Code) (inputs : List ℤ) (m : Mode) (b : CodeBlock) (c : State ℕ) (ws : List ℕ)
    (r : Registers) (seen : ℕ → ℕ) (root : ℕ → Option ℕ) : Type 0 where
  pub ahead : Ahead code inputs m b c ws r seen root
  pub instr : Instr
  pub at : slice_get b.instrs r.at ≡ Some instr
  pub leaves : leaves_block instr ≡ true

abbrev pub Ends : (code : Code) (inputs : List ℤ) (m : Mode) (b : CodeBlock) (c : State ℕ) → Stop → List ℕ
    → Registers → (ℕ → ℕ) → (ℕ → Option ℕ) → Type 0
Ends code inputs m b c stop.Goes ws r seen root = ⊥
Ends code inputs m b c (stop.Traps e) ws r seen root = IsTrapped code inputs m b c e ws r seen root
Ends code inputs m b c stop.Leaves ws r seen root = IsLeaving code inputs m b c ws r seen root

-- ---- what is yet to do in a block: a Charge lowers it by the fuel, and every other instruction by the place

abbrev pub unless : Bool → ℕ → ℕ
unless true n = 0
unless false n = n

abbrev pub weight : List Instr → (at fuel : ℕ) → ℕ
weight xs at fuel = fuel * (2 * length xs + 2) + (length xs - at) + unless (is_charge (slice_get xs at)) (length xs + 1)
