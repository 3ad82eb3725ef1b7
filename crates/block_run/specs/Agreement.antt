-- Words without a kind that stand for words of a kind, and the law that both step alike.
--   IsWord      a word stands for a word of a kind
--   AreWords    words, one by one
--   Stands      what an instruction works on stands for a state, and what locations have for what the state sees there
--   IsMoved     the state behind an instruction, and what stands for it
--   Agrees      what an instruction comes to on words stands for what it comes to on words of a kind,
--               where that has a step
--               and this does not leave
use Rattle.std.specs.Prelude.{ℕ, suc, ◌≡◌, ◌<◌, ◌^◌, true, ℤ, List, [], ◌∷◌, length, Option, Some, None, slice_get}
use Rattle.rev_num.specs.Arith.{fits_i64}
use Rattle.rev_num.specs.Words.{int_of}
use Rattle.rev_code.specs.declared.code.CodeBlock.{CodeBlock}
use Rattle.rev_code.specs.declared.code.Instr.{Instr}
use Rattle.rev_code.specs.declared.code.Instr.TheVariants as i
use Rattle.rev_code.specs.Words.{Word, int, bool, rev}
use Rattle.rev_code.specs.State.{Location, Setting, State, seen_at, written_at}
use Rattle.rev_code.specs.Step.{Comes, goes, traps, stuck, act}
use Rattle.block_run.specs.Plain.{Run, Plain, moves, writes, faults, leaves, flag, plain}

abbrev pub handle : Option ℕ → ℕ
handle None = 0
handle (Some n) = suc n

abbrev pub IsWord : Word ℕ → ℕ → Type 0
IsWord (int z) w = (w < 2 ^ 64) × (z ≡ int_of w)
IsWord (bool b) w = w ≡ flag b
IsWord (rev h) w = w ≡ handle h

abbrev pub AreWords : List (Word ℕ) → List ℕ → Type 0
AreWords [] [] = Unit {0}
AreWords (x ∷ xs) (w ∷ ws) = IsWord x w × AreWords xs ws
AreWords [] (w ∷ ws) = ⊥
AreWords (x ∷ xs) [] = ⊥

pub record IsRun (c : State ℕ) (r : Run) : Type 0 where
  pub at : r.at ≡ c.at
  pub locals : AreWords c.locals r.locals
  pub stack : AreWords c.stack r.stack
  pub fuel : r.fuel ≡ c.fuel
  pub line : r.line ≡ c.line

pub record Stands (c : State ℕ) (r : Run) (read : ℕ → ℕ) : Type 0 where
  pub run : IsRun c r
  pub locations : (l : ℕ) (x : Word ℕ) → seen_at c.locations l ≡ Some x → IsWord x (read l)

-- an instruction of a block leaves all else, but for a location that it may write
pub record IsMoved (c c' : State ℕ) (r : Run) (locations : List (Location ℕ)) : Type 0 where
  pub run : IsRun c' r
  pub others : c' ≡ record c
      { at = c'.at; locals = c'.locals; stack = c'.stack; fuel = c'.fuel; line = c'.line; locations = locations }

abbrev pub Agrees : State ℕ → Comes ℕ → Plain → Type 0
Agrees c stuck p = Unit {0}
Agrees c o leaves = Unit {0}
Agrees c (goes c') (moves r) = IsMoved c c' r c.locations
Agrees c (goes c') (writes r l w) = (x : Word ℕ) × IsWord x w × IsMoved c c' r (written_at c.locations l x)
Agrees c (traps c' e) (faults r e') = (e ≡ e') × IsMoved c c' r c.locations
Agrees c _ _ = ⊥

-- inputs are numbers of 64 bits, and fewer than 2 ^ 63
abbrev pub AreInputs : List ℤ → Type 0
AreInputs inputs = ((n : ℕ) (z : ℤ) → slice_get inputs n ≡ Some z → fits_i64 z ≡ true) × (length inputs < 2 ^ 63)

abbrev pub PushesInt : Instr → Type 0
PushesInt (i.PushInt n) = fits_i64 n ≡ true
PushesInt _ = Unit {0}

abbrev pub PlainStepsAgree : Type 0
PlainStepsAgree =
    (s : Setting ℕ) (b : CodeBlock) (c : State ℕ) (r : Run) (read : ℕ → ℕ) → AreInputs s.inputs → Stands c r read
    → (x : Instr) → PushesInt x → Agrees c (act s b c x) (plain s.code.vars s.inputs read r x)
