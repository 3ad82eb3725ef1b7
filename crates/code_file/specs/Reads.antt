-- A code file read from its first byte on: the code, or the first fault.
use Rattle.std.specs.Prelude.{ℕ, ◌-◌, Bool, true, false, ◌&&◌, ◌||◌, if◌then◌else◌, List, [], ◌∷◌, length, drop, codes, nat_eq, nat_lt, Option, Some, None}
use Rattle.std.specs.List.{starts_with}
use Rattle.rev_num.specs.declared.value.ValueKind.{ValueKind}
use Rattle.rev_code.specs.declared.code.Code.{Code}
use Rattle.rev_code.specs.declared.code.CodeVar.{CodeVar}
use Rattle.rev_code.specs.declared.code.CodeBlock.{CodeBlock}
use Rattle.rev_code.specs.declared.code.LayoutItem.{LayoutItem}
use Rattle.rev_code.specs.declared.code.LayoutItem.TheVariants as item
use Rattle.rev_code.specs.declared.code.Instr.{Instr}
use Rattle.code_rules.specs.Tables.{is_name, is_start, locations}
use Rattle.code_file.specs.declared.fault.ReadFault.TheVariants as fault
use Rattle.code_file.specs.declared.version.Version.{Version}
use Rattle.code_file.specs.Fields.{Reading, Got, Failed, Field, ◌>>=◌, give, bytes_of, number_8, number_16, number_32, number_64, tested, more}
use Rattle.code_file.specs.Parts.{only, when, flag_of, kind_of, result_of, class_of, version_of, are_cells, is_merge, is_text, is_wide, Operand, Plain, Truth, Byte, Short, Long, Word, has_tries, operand_of, tries}

-- ---- the head

-- where the bytes end within the magic, they are cut short
abbrev pub magic : Field (Unit {0})
magic whole bytes =
    if starts_with nat_eq bytes (codes "REVC") then Got tt (drop 4 bytes)
    else if starts_with nat_eq (codes "REVC") bytes then Failed (fault.Truncated whole)
    else Failed fault.BadMagic

abbrev pub or_bad_version : Option Version → List ℕ → Reading Version
or_bad_version (Some v) rest = Got v rest
or_bad_version None rest = Failed fault.BadVersion

abbrev pub as_version : Reading ℕ → Reading Version
as_version (Got n rest) = or_bad_version (version_of n) rest
as_version (Failed f) = Failed f

abbrev pub version : Field Version
version whole bytes = as_version (number_16 whole bytes)

-- ---- variables

unfoldable pub name : Field (List ℕ)
name = do
  count ← number_32
  tested (only is_name) (bytes_of count)

unfoldable pub var : (wide : Bool) → (before : ℕ) → Field CodeVar
var wide before = do
  name' ← name
  cumulative ← tested flag_of number_8
  kind ← tested kind_of number_8
  array ← tested flag_of number_8
  cells ← tested (only (are_cells wide array before)) number_32
  start ← tested (only (is_start kind)) number_64
  merge ← tested (only (is_merge cumulative)) number_16
  give (record {
    name = name';
    cumulative = cumulative;
    kind = kind;
    array = array;
    cells = cells;
    start = start;
    merge = merge;
  })

unfoldable pub vars : (wide : Bool) → Field (List CodeVar)
vars wide = do
  count ← number_16
  more count (λ done. var wide (locations done)) []

-- the number of locations, which version 3 alone has
unfoldable pub location_count : (wide : Bool) → ℕ → Field (Unit {0})
location_count true sum = tested (when (λ n. nat_eq n sum && nat_lt 64 n)) number_32
location_count false sum = give tt

-- ---- texts and layouts

unfoldable pub text : Field (List ℕ)
text = do
  count ← number_32
  tested (only is_text) (bytes_of count)

unfoldable pub texts : Field (List (List ℕ))
texts = do
  count ← number_32
  more count (λ _. text) []

abbrev pub item_of : ℕ → Field LayoutItem
item_of sort =
    if nat_eq sort 0 then give item.Int
    else if nat_eq sort 1 then give item.Bool
    else (number_32 >>= (λ n. give (item.Text n)))

unfoldable pub layout_item : Field LayoutItem
layout_item = do
  sort ← tested (only (λ n. nat_lt n 3)) number_8
  item_of sort

unfoldable pub layout : Field (List LayoutItem)
layout = do
  count ← number_8
  more count (λ _. layout_item) []

unfoldable pub layouts : Field (List (List LayoutItem))
layouts = do
  count ← number_32
  more count (λ _. layout) []

-- ---- blocks

abbrev pub with_operand : Operand → Field Instr
with_operand (Plain instr) = give instr
with_operand (Truth make) = tested flag_of number_8 >>= (λ b. give (make b))
with_operand (Byte make) = number_8 >>= (λ n. give (make n))
with_operand (Short make) = number_16 >>= (λ n. give (make n))
with_operand (Long make) = number_32 >>= (λ n. give (make n))
with_operand (Word make) = number_64 >>= (λ n. give (make n))

unfoldable pub instr : (tries : Bool) → Field Instr
instr tries' = do
  operand ← tested (operand_of tries') number_8
  with_operand operand

unfoldable pub instrs : (tries : Bool) → Field (List Instr)
instrs tries' = do
  count ← number_32
  more count (λ _. instr tries') []

unfoldable pub locals : Field (List ValueKind)
locals = do
  count ← number_8
  more count (λ _. tested kind_of number_8) []

unfoldable pub block : (tries : Bool) → Field CodeBlock
block tries' = do
  class ← tested class_of number_8
  params ← number_8
  result ← tested result_of number_8
  locals' ← locals
  instrs' ← instrs tries'
  give (record { class = class; params = params; result = result; locals = locals'; instrs = instrs' })

unfoldable pub blocks : (tries : Bool) → Field (List CodeBlock)
blocks tries' = do
  count ← number_16
  more count (λ _. block tries') []

-- the number of `TryJoin`, which version 1 does not have, and which is not 0 in version 2
unfoldable pub try_total : (tries wide : Bool) → ℕ → Field (Unit {0})
try_total true wide sum = tested (when (λ n. nat_eq n sum && (wide || nat_lt 0 n))) number_32
try_total false wide sum = give tt

-- ---- the file

unfoldable pub code_of : (wide tries : Bool) → Field Code
code_of wide tries' = do
  vars' ← vars wide
  _ ← location_count wide (locations vars')
  texts' ← texts
  layouts' ← layouts
  blocks' ← blocks tries'
  _ ← try_total tries' wide (tries blocks')
  give (record { vars = vars'; texts = texts'; layouts = layouts'; blocks = blocks' })

-- behind the last field nothing stands
abbrev pub at_end : Field (Unit {0})
at_end whole [] = Got tt []
at_end whole (b ∷ bytes) = Failed (fault.Trailing (whole - length (b ∷ bytes)))

unfoldable pub file : Field Code
file = do
  _ ← magic
  v ← version
  code ← code_of (is_wide v) (has_tries v)
  _ ← at_end
  give code

-- the code whose file the bytes are, or their first fault
abbrev pub reading : List ℕ → Reading Code
reading bytes = file (length bytes) bytes
