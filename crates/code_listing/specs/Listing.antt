-- The text of code, line after line.
use Rattle.std.specs.Prelude.{ℕ, ◌+◌, Bool, true, false, if◌then◌else◌, List, [], ◌∷◌, ◌++◌, codes, nat_eq, Option, Some, None}
use Rattle.std.specs.Fmt.{decimal, signed_decimal}
use Rattle.std.specs.List.{flat_map}
use Rattle.rev_num.specs.declared.value.ValueKind.{ValueKind}
use Rattle.rev_num.specs.declared.value.ValueKind.TheVariants as kind
use Rattle.rev_num.specs.Words.{int_of}
use Rattle.rev_code.specs.declared.code.Code.{Code}
use Rattle.rev_code.specs.declared.code.CodeVar.{CodeVar}
use Rattle.rev_code.specs.declared.code.CodeBlock.{CodeBlock}
use Rattle.rev_code.specs.declared.code.BlockClass.{BlockClass}
use Rattle.rev_code.specs.declared.code.BlockClass.TheVariants as class
use Rattle.rev_code.specs.declared.code.LayoutItem.{LayoutItem}
use Rattle.rev_code.specs.declared.code.LayoutItem.TheVariants as item
use Rattle.rev_code.specs.declared.code.Instr.{Instr}
use Rattle.rev_code.specs.declared.code.Instr.TheVariants as i
use Rattle.code_file.specs.Files.{version_for, version_number}

-- lines of the parts of a table, each with its number
abbrev pub numbered : {A : Type 0} → (ℕ → A → List ℕ) → ℕ → List A → List ℕ
numbered lines n [] = []
numbered lines n (x ∷ xs) = lines n x ++ numbered lines (n + 1) xs

abbrev pub line_feed : List ℕ
line_feed = 10 ∷ []

abbrev pub kind_word : ValueKind → List ℕ
kind_word kind.Int = codes "int"
kind_word kind.Bool = codes "bool"
kind_word kind.Rev = codes "rev"

abbrev pub truth_word : Bool → List ℕ
truth_word true = codes "true"
truth_word false = codes "false"

-- ---- variables

-- a start value of this kind
abbrev pub start_text : ValueKind → ℕ → List ℕ
start_text kind.Int w = signed_decimal (int_of w)
start_text kind.Bool w = if nat_eq w 0 then codes "false" else codes "true"
start_text kind.Rev w = codes "none"

unfoldable pub cumulative_text : ValueKind → ℕ → List ℕ
cumulative_text k merge = codes " cumulative " ++ (kind_word k ++ (codes " by block " ++ decimal merge))

abbrev pub merge_text : (cumulative : Bool) → ValueKind → ℕ → List ℕ
merge_text true k merge = cumulative_text k merge
merge_text false k merge = codes " versioned " ++ kind_word k

abbrev pub cells_text : (array : Bool) → ℕ → List ℕ
cells_text true cells = codes " cells " ++ decimal cells
cells_text false cells = []

unfoldable pub var_head : ℕ → CodeVar → List ℕ
var_head n v = codes "var " ++ (decimal n ++ (codes " " ++ v.name))

unfoldable pub var_end : CodeVar → List ℕ
var_end v = codes " start " ++ (start_text v.kind v.start ++ line_feed)

unfoldable pub var_line : ℕ → CodeVar → List ℕ
var_line n v =
    var_head n v ++ (merge_text v.cumulative v.kind v.merge ++ (cells_text v.array v.cells ++ var_end v))

-- ---- texts and layouts

unfoldable pub text_line : ℕ → List ℕ → List ℕ
text_line n text = codes "text " ++ (decimal n ++ (codes " \"" ++ (text ++ codes "\"\n")))

abbrev pub item_text : LayoutItem → List ℕ
item_text item.Int = codes " int"
item_text item.Bool = codes " bool"
item_text (item.Text n) = codes " text " ++ decimal n

unfoldable pub layout_line : ℕ → List LayoutItem → List ℕ
layout_line n items = codes "layout " ++ (decimal n ++ (flat_map item_text items ++ line_feed))

-- ---- instructions

abbrev pub instr_name : Instr → List ℕ
instr_name (i.PushInt n) = codes "PushInt"
instr_name (i.PushBool b) = codes "PushBool"
instr_name i.PushNone = codes "PushNone"
instr_name (i.LoadLocal n) = codes "LoadLocal"
instr_name (i.StoreLocal n) = codes "StoreLocal"
instr_name (i.LoadShared v) = codes "LoadShared"
instr_name (i.StoreShared v) = codes "StoreShared"
instr_name (i.LoadCell v) = codes "LoadCell"
instr_name (i.StoreCell v) = codes "StoreCell"
instr_name (i.CheckCell v) = codes "CheckCell"
instr_name i.LoadInput = codes "LoadInput"
instr_name i.CountInput = codes "CountInput"
instr_name i.Add = codes "Add"
instr_name i.Sub = codes "Sub"
instr_name i.Mul = codes "Mul"
instr_name i.Div = codes "Div"
instr_name i.Rem = codes "Rem"
instr_name i.Neg = codes "Neg"
instr_name i.Not = codes "Not"
instr_name i.Eq = codes "Eq"
instr_name i.Ne = codes "Ne"
instr_name i.Lt = codes "Lt"
instr_name i.Le = codes "Le"
instr_name i.Gt = codes "Gt"
instr_name i.Ge = codes "Ge"
instr_name (i.Jump to) = codes "Jump"
instr_name (i.JumpIfFalse to) = codes "JumpIfFalse"
instr_name (i.JumpIfTrue to) = codes "JumpIfTrue"
instr_name (i.Apply b) = codes "Apply"
instr_name (i.Charge line) = codes "Charge"
instr_name (i.Call b) = codes "Call"
instr_name (i.Fork b) = codes "Fork"
instr_name i.Join = codes "Join"
instr_name (i.Print l) = codes "Print"
instr_name i.Assert = codes "Assert"
instr_name i.Return = codes "Return"
instr_name i.Pop = codes "Pop"
instr_name i.TryJoin = codes "TryJoin"

-- the operand, with a space in front of it
abbrev pub operand_text : Instr → List ℕ
operand_text (i.PushInt n) = codes " " ++ signed_decimal n
operand_text (i.PushBool b) = codes " " ++ truth_word b
operand_text (i.LoadLocal n) = codes " " ++ decimal n
operand_text (i.StoreLocal n) = codes " " ++ decimal n
operand_text (i.LoadShared v) = codes " " ++ decimal v
operand_text (i.StoreShared v) = codes " " ++ decimal v
operand_text (i.LoadCell v) = codes " " ++ decimal v
operand_text (i.StoreCell v) = codes " " ++ decimal v
operand_text (i.CheckCell v) = codes " " ++ decimal v
operand_text (i.Jump to) = codes " " ++ decimal to
operand_text (i.JumpIfFalse to) = codes " " ++ decimal to
operand_text (i.JumpIfTrue to) = codes " " ++ decimal to
operand_text (i.Apply b) = codes " " ++ decimal b
operand_text (i.Charge line) = codes " " ++ decimal line
operand_text (i.Call b) = codes " " ++ decimal b
operand_text (i.Fork b) = codes " " ++ decimal b
operand_text (i.Print l) = codes " " ++ decimal l
operand_text _ = []

unfoldable pub instr_line : ℕ → Instr → List ℕ
instr_line n instr = decimal n ++ (codes " " ++ (instr_name instr ++ (operand_text instr ++ line_feed)))

-- ---- blocks

abbrev pub class_word : BlockClass → List ℕ
class_word class.Fun = codes "fun"
class_word class.Merge = codes "merge"
class_word class.Proc = codes "proc"
class_word class.Main = codes "main"

abbrev pub result_word : Option ValueKind → List ℕ
result_word (Some k) = kind_word k
result_word None = codes "none"

abbrev pub local_text : ValueKind → List ℕ
local_text k = codes " " ++ kind_word k

unfoldable pub block_head : ℕ → CodeBlock → List ℕ
block_head n b = codes "block " ++ (decimal n ++ (codes " " ++ class_word b.class))

unfoldable pub block_shape : CodeBlock → List ℕ
block_shape b = codes " params " ++ (decimal b.params ++ (codes " result " ++ result_word b.result))

unfoldable pub block_line : ℕ → CodeBlock → List ℕ
block_line n b = block_head n b ++ (block_shape b ++ (codes " locals" ++ (flat_map local_text b.locals ++ line_feed)))

unfoldable pub block_lines : ℕ → CodeBlock → List ℕ
block_lines n b = block_line n b ++ numbered instr_line 0 b.instrs

-- ---- code

unfoldable pub listing : Code → List ℕ
listing code =
    codes "REVC " ++ (decimal (version_number (version_for code)) ++ (line_feed
    ++ (numbered var_line 0 code.vars
    ++ (numbered text_line 0 code.texts
    ++ (numbered layout_line 0 code.layouts
    ++ numbered block_lines 0 code.blocks)))))
