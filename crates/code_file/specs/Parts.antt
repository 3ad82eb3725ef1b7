-- The values that fields of a file can have, each as the number or the bytes that stand for it.
use Rattle.std.specs.Prelude.{ℕ, ◌+◌, Bool, true, false, not, ◌&&◌, ◌||◌, if◌then◌else◌, List, [], ◌∷◌, Option, Some, None, slice_get, nat_eq, nat_le}
use Rattle.std.specs.List.{list_all, sum_by}
use Rattle.rev_num.specs.declared.value.ValueKind.{ValueKind}
use Rattle.rev_num.specs.declared.value.ValueKind.TheVariants as kind
use Rattle.rev_num.specs.Words.{int_of}
use Rattle.rev_code.specs.declared.code.BlockClass.{BlockClass}
use Rattle.rev_code.specs.declared.code.BlockClass.TheVariants as class
use Rattle.rev_code.specs.declared.code.CodeBlock.{CodeBlock}
use Rattle.rev_code.specs.declared.code.Instr.{Instr}
use Rattle.rev_code.specs.declared.code.Instr.TheVariants as i
use Rattle.code_rules.specs.Tables.{has_cells, no_merge, is_text_byte}
use Rattle.code_file.specs.declared.version.Version.{Version}
use Rattle.code_file.specs.declared.version.Version.TheVariants as version

-- the value itself, if it passes
abbrev pub only : {A : Type 0} → (A → Bool) → A → Option A
only test a = if test a then Some a else None

-- nothing, if the value passes
abbrev pub when : {A : Type 0} → (A → Bool) → A → Option (Unit {0})
when test a = if test a then Some tt else None

abbrev pub flag_of : ℕ → Option Bool
flag_of n = if nat_eq n 0 then Some false else if nat_eq n 1 then Some true else None

abbrev pub kind_of : ℕ → Option ValueKind
kind_of n = if nat_eq n 0 then Some kind.Int else if nat_eq n 1 then Some kind.Bool else if nat_eq n 2
    then Some kind.Rev else None

-- the kind of a result, or 3 for none
abbrev pub result_of : ℕ → Option (Option ValueKind)
result_of n =
    if nat_eq n 0 then Some (Some kind.Int)
    else if nat_eq n 1 then Some (Some kind.Bool)
    else if nat_eq n 2 then Some (Some kind.Rev)
    else if nat_eq n 3 then Some None
    else None

abbrev pub class_of : ℕ → Option BlockClass
class_of n =
    if nat_eq n 0 then Some class.Fun
    else if nat_eq n 1 then Some class.Merge
    else if nat_eq n 2 then Some class.Proc
    else if nat_eq n 3 then Some class.Main
    else None

abbrev pub version_of : ℕ → Option Version
version_of n =
    if nat_eq n 1 then Some version.One
    else if nat_eq n 2 then Some version.Two
    else if nat_eq n 3 then Some version.Three
    else None

-- ---- what a version has

-- the only one for more than 64 locations
abbrev pub is_wide : Version → Bool
is_wide version.Three = true
is_wide _ = false

-- whether code of this version can have a `TryJoin`
abbrev pub has_tries : Version → Bool
has_tries version.One = false
has_tries _ = true

-- ---- variables

-- the cells of a variable, of so many locations before it
abbrev pub are_cells : (wide array : Bool) → (before : ℕ) → ℕ → Bool
are_cells wide array before cells = has_cells array cells && (wide || nat_le (before + cells) 64)

-- a merge block of a cumulative variable, or 65,535
abbrev pub is_merge : (cumulative : Bool) → ℕ → Bool
is_merge true merge = not (nat_eq merge no_merge)
is_merge false merge = nat_eq merge no_merge

abbrev pub is_text : List ℕ → Bool
is_text text = list_all is_text_byte text

-- ---- instructions

-- what stands behind the code byte of an instruction
pub data Operand : Type 0 where
  Plain : Instr → Operand
  Truth : (Bool → Instr) → Operand
  Byte : (ℕ → Instr) → Operand
  Short : (ℕ → Instr) → Operand
  Long : (ℕ → Instr) → Operand
  Word : (ℕ → Instr) → Operand

-- by the code byte, from 0 to 36
abbrev pub operands : List Operand
operands =
    Word (λ w. i.PushInt (int_of w)) ∷ Truth (λ b. i.PushBool b) ∷ Plain i.PushNone
    ∷ Byte (λ n. i.LoadLocal n) ∷ Byte (λ n. i.StoreLocal n)
    ∷ Short (λ n. i.LoadShared n) ∷ Short (λ n. i.StoreShared n)
    ∷ Short (λ n. i.LoadCell n) ∷ Short (λ n. i.StoreCell n) ∷ Short (λ n. i.CheckCell n)
    ∷ Plain i.LoadInput ∷ Plain i.CountInput
    ∷ Plain i.Add ∷ Plain i.Sub ∷ Plain i.Mul ∷ Plain i.Div ∷ Plain i.Rem ∷ Plain i.Neg ∷ Plain i.Not
    ∷ Plain i.Eq ∷ Plain i.Ne ∷ Plain i.Lt ∷ Plain i.Le ∷ Plain i.Gt ∷ Plain i.Ge
    ∷ Long (λ n. i.Jump n) ∷ Long (λ n. i.JumpIfFalse n) ∷ Long (λ n. i.JumpIfTrue n)
    ∷ Short (λ n. i.Apply n) ∷ Long (λ n. i.Charge n) ∷ Short (λ n. i.Call n) ∷ Short (λ n. i.Fork n)
    ∷ Plain i.Join ∷ Long (λ n. i.Print n) ∷ Plain i.Assert ∷ Plain i.Return ∷ Plain i.Pop
    ∷ []

-- byte 37 is `TryJoin` where the version has it
abbrev pub operand_of : (tries : Bool) → ℕ → Option Operand
operand_of tries' n = if nat_eq n 37 then (if tries' then Some (Plain i.TryJoin) else None) else slice_get operands n

-- ---- counts

abbrev pub try_count : Instr → ℕ
try_count i.TryJoin = 1
try_count _ = 0

-- how many instructions are a `TryJoin`
abbrev pub tries_in : List Instr → ℕ
tries_in instrs = sum_by try_count instrs

abbrev pub tries : List CodeBlock → ℕ
tries blocks = sum_by (λ b. tries_in b.instrs) blocks
