-- The file of code: the table of its fields, one after another. Numbers are big-endian.
use Rattle.std.specs.Prelude.{ℕ, Bool, true, false, if◌then◌else◌, List, [], ◌∷◌, ◌++◌, length, map, codes, nat_lt, Option, Some, None}
use Rattle.std.specs.Int.{w16, w32, w64, to_be_bytes}
use Rattle.std.specs.List.{flat_map}
use Rattle.rev_num.specs.declared.value.ValueKind.{ValueKind}
use Rattle.rev_num.specs.declared.value.ValueKind.TheVariants as kind
use Rattle.rev_num.specs.Words.{word_of}
use Rattle.rev_code.specs.declared.code.Code.{Code}
use Rattle.rev_code.specs.declared.code.CodeVar.{CodeVar}
use Rattle.rev_code.specs.declared.code.CodeBlock.{CodeBlock}
use Rattle.rev_code.specs.declared.code.BlockClass.{BlockClass}
use Rattle.rev_code.specs.declared.code.BlockClass.TheVariants as class
use Rattle.rev_code.specs.declared.code.LayoutItem.{LayoutItem}
use Rattle.rev_code.specs.declared.code.LayoutItem.TheVariants as item
use Rattle.rev_code.specs.declared.code.Instr.{Instr}
use Rattle.rev_code.specs.declared.code.Instr.TheVariants as i
use Rattle.code_rules.specs.Tables.{locations}
use Rattle.code_file.specs.declared.version.Version.{Version}
use Rattle.code_file.specs.declared.version.Version.TheVariants as version
use Rattle.code_file.specs.Parts.{is_wide, has_tries, tries}

-- ---- single bytes

abbrev pub flag_byte : Bool → ℕ
flag_byte false = 0
flag_byte true = 1

abbrev pub kind_byte : ValueKind → ℕ
kind_byte kind.Int = 0
kind_byte kind.Bool = 1
kind_byte kind.Rev = 2

abbrev pub result_byte : Option ValueKind → ℕ
result_byte (Some k) = kind_byte k
result_byte None = 3

abbrev pub class_byte : BlockClass → ℕ
class_byte class.Fun = 0
class_byte class.Merge = 1
class_byte class.Proc = 2
class_byte class.Main = 3

-- ---- variables, texts, layouts

-- parts behind their number
abbrev pub counted_16 : {A : Type 0} → (A → List ℕ) → List A → List ℕ
counted_16 bytes parts = to_be_bytes w16 (length parts) ++ flat_map bytes parts

abbrev pub counted_32 : {A : Type 0} → (A → List ℕ) → List A → List ℕ
counted_32 bytes parts = to_be_bytes w32 (length parts) ++ flat_map bytes parts

-- the bytes of a name or a text, behind their number
unfoldable pub text_bytes : List ℕ → List ℕ
text_bytes text = to_be_bytes w32 (length text) ++ text

unfoldable pub var_bytes : CodeVar → List ℕ
var_bytes v =
    text_bytes v.name
    ++ ((flag_byte v.cumulative ∷ kind_byte v.kind ∷ flag_byte v.array ∷ [])
    ++ (to_be_bytes w32 v.cells
    ++ (to_be_bytes w64 v.start
    ++ to_be_bytes w16 v.merge)))

abbrev pub item_bytes : LayoutItem → List ℕ
item_bytes item.Int = 0 ∷ []
item_bytes item.Bool = 1 ∷ []
item_bytes (item.Text n) = 2 ∷ to_be_bytes w32 n

unfoldable pub layout_bytes : List LayoutItem → List ℕ
layout_bytes items = length items ∷ flat_map item_bytes items

-- ---- instructions: the code byte, and then the operand

abbrev pub instr_bytes : Instr → List ℕ
instr_bytes (i.PushInt n) = 0 ∷ to_be_bytes w64 (word_of n)
instr_bytes (i.PushBool b) = 1 ∷ flag_byte b ∷ []
instr_bytes i.PushNone = 2 ∷ []
instr_bytes (i.LoadLocal n) = 3 ∷ n ∷ []
instr_bytes (i.StoreLocal n) = 4 ∷ n ∷ []
instr_bytes (i.LoadShared v) = 5 ∷ to_be_bytes w16 v
instr_bytes (i.StoreShared v) = 6 ∷ to_be_bytes w16 v
instr_bytes (i.LoadCell v) = 7 ∷ to_be_bytes w16 v
instr_bytes (i.StoreCell v) = 8 ∷ to_be_bytes w16 v
instr_bytes (i.CheckCell v) = 9 ∷ to_be_bytes w16 v
instr_bytes i.LoadInput = 10 ∷ []
instr_bytes i.CountInput = 11 ∷ []
instr_bytes i.Add = 12 ∷ []
instr_bytes i.Sub = 13 ∷ []
instr_bytes i.Mul = 14 ∷ []
instr_bytes i.Div = 15 ∷ []
instr_bytes i.Rem = 16 ∷ []
instr_bytes i.Neg = 17 ∷ []
instr_bytes i.Not = 18 ∷ []
instr_bytes i.Eq = 19 ∷ []
instr_bytes i.Ne = 20 ∷ []
instr_bytes i.Lt = 21 ∷ []
instr_bytes i.Le = 22 ∷ []
instr_bytes i.Gt = 23 ∷ []
instr_bytes i.Ge = 24 ∷ []
instr_bytes (i.Jump to) = 25 ∷ to_be_bytes w32 to
instr_bytes (i.JumpIfFalse to) = 26 ∷ to_be_bytes w32 to
instr_bytes (i.JumpIfTrue to) = 27 ∷ to_be_bytes w32 to
instr_bytes (i.Apply b) = 28 ∷ to_be_bytes w16 b
instr_bytes (i.Charge line) = 29 ∷ to_be_bytes w32 line
instr_bytes (i.Call b) = 30 ∷ to_be_bytes w16 b
instr_bytes (i.Fork b) = 31 ∷ to_be_bytes w16 b
instr_bytes i.Join = 32 ∷ []
instr_bytes (i.Print l) = 33 ∷ to_be_bytes w32 l
instr_bytes i.Assert = 34 ∷ []
instr_bytes i.Return = 35 ∷ []
instr_bytes i.Pop = 36 ∷ []
instr_bytes i.TryJoin = 37 ∷ []

-- ---- blocks

unfoldable pub block_bytes : CodeBlock → List ℕ
block_bytes b =
    class_byte b.class ∷ b.params ∷ result_byte b.result
    ∷ length b.locals ∷ (map kind_byte b.locals
    ++ counted_32 instr_bytes b.instrs)

-- ---- the file

-- the code fixes it
abbrev pub version_for : Code → Version
version_for code =
    if nat_lt 64 (locations code.vars) then version.Three
    else if nat_lt 0 (tries code.blocks) then version.Two
    else version.One

abbrev pub version_number : Version → ℕ
version_number version.One = 1
version_number version.Two = 2
version_number version.Three = 3

-- the number of locations, in version 3
abbrev pub location_bytes : (wide : Bool) → ℕ → List ℕ
location_bytes true sum = to_be_bytes w32 sum
location_bytes false sum = []

-- the number of `TryJoin`, in versions 2 and 3
abbrev pub try_bytes : (tries : Bool) → ℕ → List ℕ
try_bytes true sum = to_be_bytes w32 sum
try_bytes false sum = []

-- what stands behind the version
unfoldable pub body_bytes : (wide tries : Bool) → Code → List ℕ
body_bytes wide tries' code =
    counted_16 var_bytes code.vars
    ++ (location_bytes wide (locations code.vars)
    ++ (counted_32 text_bytes code.texts
    ++ (counted_32 layout_bytes code.layouts
    ++ (counted_16 block_bytes code.blocks
    ++ try_bytes tries' (tries code.blocks)))))

unfoldable pub file_of : Code → List ℕ
file_of code =
    codes "REVC"
    ++ (to_be_bytes w16 (version_number (version_for code))
    ++ body_bytes (is_wide (version_for code)) (has_tries (version_for code)) code)
