-- Which code has a file, and the laws of files.
use Rattle.std.specs.Prelude.{◌≡◌, ◌≢◌, ◌⊎◌, ℕ, ◌<◌, ◌≤◌, true, List, [], ◌∷◌, ◌++◌, length, take, All, get_or}
use Rattle.rev_num.specs.Arith.{fits_i64}
use Rattle.rev_code.specs.declared.code.Code.{Code}
use Rattle.rev_code.specs.declared.code.CodeVar.{CodeVar}
use Rattle.rev_code.specs.declared.code.CodeBlock.{CodeBlock}
use Rattle.rev_code.specs.declared.code.LayoutItem.{LayoutItem}
use Rattle.rev_code.specs.declared.code.LayoutItem.TheVariants as item
use Rattle.rev_code.specs.declared.code.Instr.{Instr}
use Rattle.rev_code.specs.declared.code.Instr.TheVariants as i
use Rattle.code_rules.specs.Tables.{has_cells, is_name, is_start}
use Rattle.code_file.specs.declared.fault.ReadFault.{ReadFault}
use Rattle.code_file.specs.declared.fault.ReadFault.TheVariants as fault
use Rattle.code_rules.specs.Verdict.{first_fault}
use Rattle.code_file.specs.Counts.{Counted}
use Rattle.std.specs.Prelude.{None}
use Rattle.code_file.specs.Parts.{tries}
use Rattle.code_file.specs.Fields.{Got, Failed}
use Rattle.code_file.specs.Files.{file_of}
use Rattle.code_file.specs.Parts.{is_merge, is_text}
use Rattle.code_file.specs.Reads.{reading}

-- bytes
abbrev pub AreBytes : List ℕ → Type 0
AreBytes bytes = (i : ℕ) → get_or bytes i 0 < 256

-- numbers of so many bits
abbrev pub Is8 : ℕ → Type 0
Is8 n = n < 256

abbrev pub Is16 : ℕ → Type 0
Is16 n = n < 65536

abbrev pub Is32 : ℕ → Type 0
Is32 n = n < 4294967296

abbrev pub Is64 : ℕ → Type 0
Is64 n = n < 18446744073709551616

-- what each field of a variable can have
pub record IsVar (v : CodeVar) : Type 0 where
  pub name : is_name v.name ≡ true
  pub cells : has_cells v.array v.cells ≡ true
  pub cells_fit : Is32 v.cells
  pub start : is_start v.kind v.start ≡ true
  pub start_fits : Is64 v.start
  pub merge : is_merge v.cumulative v.merge ≡ true
  pub merge_fits : Is16 v.merge

abbrev pub IsText : List ℕ → Type 0
IsText text = is_text text ≡ true

abbrev pub IsItem : LayoutItem → Type 0
IsItem (item.Text n) = Is32 n
IsItem _ = Unit {0}

-- the operand has the width of its field
abbrev pub IsInstr : Instr → Type 0
IsInstr (i.PushInt n) = fits_i64 n ≡ true
IsInstr (i.LoadLocal n) = Is8 n
IsInstr (i.StoreLocal n) = Is8 n
IsInstr (i.LoadShared v) = Is16 v
IsInstr (i.StoreShared v) = Is16 v
IsInstr (i.LoadCell v) = Is16 v
IsInstr (i.StoreCell v) = Is16 v
IsInstr (i.CheckCell v) = Is16 v
IsInstr (i.Jump to) = Is32 to
IsInstr (i.JumpIfFalse to) = Is32 to
IsInstr (i.JumpIfTrue to) = Is32 to
IsInstr (i.Apply b) = Is16 b
IsInstr (i.Charge line) = Is32 line
IsInstr (i.Call b) = Is16 b
IsInstr (i.Fork b) = Is16 b
IsInstr (i.Print l) = Is32 l
IsInstr _ = Unit {0}

pub record IsBlock (b : CodeBlock) : Type 0 where
  pub params : Is8 b.params
  pub instrs : All IsInstr b.instrs

-- each number of a variable, and of code, has the width of its field
pub record VarFits (v : CodeVar) : Type 0 where
  pub cells : Is32 v.cells
  pub start : Is64 v.start
  pub merge : Is16 v.merge

pub record NumbersFit (code : Code) : Type 0 where
  pub vars : All VarFits code.vars
  pub items : All (All IsItem) code.layouts
  pub blocks : All IsBlock code.blocks

-- code has a file where each count and each field can hold what it has to
pub record HasFile (code : Code) : Type 0 where
  pub counted : Counted code
  pub vars : All IsVar code.vars
  pub texts : All IsText code.texts
  pub items : All (All IsItem) code.layouts
  pub blocks : All IsBlock code.blocks

-- the bytes are the file of the code
pub record IsFile (code : Code) (bytes : List ℕ) : Type 0 where
  pub has : HasFile code
  pub spelled : bytes ≡ file_of code

-- what was written is read again as the same code
abbrev pub ReadsBack : Type 0
ReadsBack = (code : Code) → HasFile code → reading (file_of code) ≡ Got code []

-- two codes with one file are the same
abbrev pub OneCode : Type 0
OneCode = (code code' : Code) (bytes : List ℕ) → IsFile code bytes → IsFile code' bytes → code ≡ code'

-- what is read as code is the file of that code
abbrev pub ReadIsFile : Type 0
ReadIsFile = (bytes : List ℕ) (code : Code) → AreBytes bytes → reading bytes ≡ Got code [] → IsFile code bytes

-- the bytes are the file of no code, and this is their first fault
abbrev pub IsFirstFault : List ℕ → ReadFault → Type 0
IsFirstFault bytes f = reading bytes ≡ Failed f

-- whatever the bytes are, they are read as code with nothing behind it, or have a first fault
abbrev pub EachIsRead : Type 0
EachIsRead = (bytes : List ℕ) → ((code : Code) × (reading bytes ≡ Got code []))
    ⊎ ((f : ReadFault) × (reading bytes ≡ Failed f) × (f ≢ fault.OutOfMemory))

-- what has a first fault is the file of no code
abbrev pub FaultsHaveNoCode : Type 0
FaultsHaveNoCode = (bytes : List ℕ) (f : ReadFault) (code : Code) → IsFirstFault bytes f → IsFile code bytes → ⊥

-- the verifier bounds each count of a file but that of `TryJoin`
abbrev pub AcceptedIsCounted : Type 0
AcceptedIsCounted = (code : Code) → first_fault code ≡ None → tries code.blocks < 4294967296 → Counted code

-- ---- the first fault

-- a file that is cut short is Truncated where it was cut
abbrev pub CutIsTruncated : Type 0
CutIsTruncated = (code : Code) (n : ℕ) → HasFile code → n < length (file_of code)
    → reading (take n (file_of code)) ≡ Failed (fault.Truncated n)

-- a file with a byte or more behind it is Trailing where the file ends
abbrev pub MoreIsTrailing : Type 0
MoreIsTrailing = (code : Code) (b : ℕ) (rest : List ℕ) → HasFile code
    → reading (file_of code ++ b ∷ rest) ≡ Failed (fault.Trailing (length (file_of code)))

-- the first bad field of these bytes stands at `at`, and they are known to be bad with the byte before `end`
pub record IsBadField (bytes : List ℕ) (at end : ℕ) : Type 0 where
  pub starts : at ≤ end
  pub within : end ≤ length bytes
  -- with fewer bytes there is no fault but that they are cut short
  pub short : (n : ℕ) → n < end → reading (take n bytes) ≡ Failed (fault.Truncated n)
  -- with these bytes there is this fault, whatever stands behind them
  pub same : (rest : List ℕ) → reading (take end bytes ++ rest) ≡ Failed (fault.BadField at)
  -- and no file begins with them
  pub none : (code : Code) (rest : List ℕ) → HasFile code → file_of code ≡ take end bytes ++ rest → ⊥

abbrev pub BadFieldIsFirst : Type 0
BadFieldIsFirst = (bytes : List ℕ) (at : ℕ) → IsFirstFault bytes (fault.BadField at) → (end : ℕ)
    × IsBadField bytes at end
