-- The rules on the tables of code. A fault of theirs comes before every fault of an instruction, and stands at
-- instruction 0 of block 0. A bad operand comes before a limit.
use Rattle.std.specs.Prelude.{ℕ, suc, Bool, true, false, ◌&&◌, ◌||◌, not, if◌then◌else◌, List, [], ◌∷◌, length, sum, map, codes, Option, Some, None, slice_get, nat_eq, nat_lt, nat_le}
use Rattle.std.specs.List.{list_all}
use Rattle.std.specs.Cmp.Lexicographic.{pointwise}
use Rattle.rev_num.specs.declared.value.ValueKind.{ValueKind}
use Rattle.rev_num.specs.declared.value.ValueKind.TheVariants as k
use Rattle.rev_num.specs.Value.{same_kind}
use Rattle.rev_code.specs.declared.code.Code.{Code}
use Rattle.rev_code.specs.declared.code.CodeBlock.{CodeBlock}
use Rattle.rev_code.specs.declared.code.CodeVar.{CodeVar}
use Rattle.rev_code.specs.declared.code.BlockClass.{BlockClass}
use Rattle.rev_code.specs.declared.code.BlockClass.TheVariants as class
use Rattle.rev_code.specs.declared.code.LayoutItem.{LayoutItem}
use Rattle.rev_code.specs.declared.code.LayoutItem.TheVariants as item
use Rattle.rev_code.specs.Step.{is_procedure}
use Rattle.code_rules.specs.Pass.{is_value_class}

abbrev pub is_main : BlockClass → Bool
is_main class.Main = true
is_main _ = false

-- ---- blocks

-- the last block is `main`, and no other
abbrev pub ends_in_main : List CodeBlock → Bool
ends_in_main [] = false
ends_in_main (b ∷ []) = is_main b.class
ends_in_main (b ∷ c ∷ bs) = not (is_main b.class) && ends_in_main (c ∷ bs)

abbrev pub has_result : CodeBlock → Bool
has_result b = elim b.result [ None ↦ false | Some x ↦ true ]

-- by its class: `main` has neither parameters nor a result, a fun or merge has a result
abbrev pub fits_class : BlockClass → (params : ℕ) → (has_result : Bool) → Bool
fits_class class.Main params' has = nat_eq params' 0 && not has
fits_class class.Fun params' has = has
fits_class class.Merge params' has = has
fits_class class.Proc params' has = true

abbrev pub is_block : CodeBlock → Bool
is_block b = fits_class b.class b.params (has_result b) && nat_le b.params (length b.locals)

-- ---- variables

-- a letter or `_`
abbrev pub is_letter : ℕ → Bool
is_letter c = (nat_le 65 c && nat_le c 90) || (nat_le 97 c && nat_le c 122) || nat_eq c 95

abbrev pub is_digit : ℕ → Bool
is_digit c = nat_le 48 c && nat_le c 57

abbrev pub spells : List ℕ → List ℕ → Bool
spells name word = pointwise nat_eq name word

abbrev pub is_reserved_1 : List ℕ → Bool
is_reserved_1 name =
    spells name (codes "fun")
    || spells name (codes "merge")
    || spells name (codes "versioned")
    || spells name (codes "cumulative")
    || spells name (codes "by")
    || spells name (codes "proc")
    || spells name (codes "main")
    || spells name (codes "int")
    || spells name (codes "bool")

abbrev pub is_reserved_2 : List ℕ → Bool
is_reserved_2 name =
    spells name (codes "rev")
    || spells name (codes "let")
    || spells name (codes "if")
    || spells name (codes "else")
    || spells name (codes "while")
    || spells name (codes "call")
    || spells name (codes "return")
    || spells name (codes "rfork")
    || spells name (codes "rjoin")

abbrev pub is_reserved_3 : List ℕ → Bool
is_reserved_3 name =
    spells name (codes "tryjoin")
    || spells name (codes "print")
    || spells name (codes "assert")
    || spells name (codes "true")
    || spells name (codes "false")
    || spells name (codes "none")
    || spells name (codes "input")
    || spells name (codes "inputs")
    || spells name (codes "pick")

-- one of the 27 words of the language
abbrev pub is_reserved : List ℕ → Bool
is_reserved name = is_reserved_1 name || is_reserved_2 name || is_reserved_3 name

abbrev pub is_name_byte : ℕ → Bool
is_name_byte c = is_letter c || is_digit c

abbrev pub is_word : List ℕ → Bool
is_word [] = false
is_word (c ∷ cs) = is_letter c && list_all is_name_byte cs

-- a letter, then letters and digits, and no reserved word
abbrev pub is_name : List ℕ → Bool
is_name name = is_word name && not (is_reserved name)

-- a scalar has one location, an array one or more
abbrev pub has_cells : (array : Bool) → ℕ → Bool
has_cells true cells = nat_lt 0 cells
has_cells false cells = nat_eq cells 1

-- the words that can stand for a start value of this kind
abbrev pub is_start : ValueKind → ℕ → Bool
is_start k.Int w = true
is_start k.Bool w = nat_le w 1
is_start k.Rev w = nat_eq w 0

-- the merge entry of a versioned variable
abbrev pub no_merge : ℕ
no_merge = 65535

abbrev pub is_merge_class : BlockClass → Bool
is_merge_class class.Merge = true
is_merge_class _ = false

abbrev pub is_int_result : Option ValueKind → Bool
is_int_result None = false
is_int_result (Some x) = same_kind x k.Int

-- whether there are three kinds or more, and the first three are int
abbrev pub are_three_ints : List ValueKind → Bool
are_three_ints [] = false
are_three_ints (a ∷ []) = false
are_three_ints (a ∷ b ∷ []) = false
are_three_ints (a ∷ b ∷ c ∷ kinds) = same_kind a k.Int && same_kind b k.Int && same_kind c k.Int

-- a merge block of three int parameters and an int result
abbrev pub is_int_merge : Option CodeBlock → Bool
is_int_merge None = false
is_int_merge (Some b) = is_merge_class b.class && nat_eq b.params 3 && are_three_ints b.locals && is_int_result b.result

abbrev pub merges_well : Code → CodeVar → Bool
merges_well code v =
    if v.cumulative then same_kind v.kind k.Int && not (nat_eq v.merge no_merge) && is_int_merge
    (slice_get code.blocks v.merge)
    else nat_eq v.merge no_merge

abbrev pub is_var : Code → CodeVar → Bool
is_var code v = is_name v.name && has_cells v.array v.cells && is_start v.kind v.start && merges_well code v

-- ---- texts and layouts

-- a byte that can stand in a text
abbrev pub is_text_byte : ℕ → Bool
is_text_byte c = nat_le 32 c && nat_le c 126 && not (nat_eq c 34)

abbrev pub is_item : (texts : ℕ) → LayoutItem → Bool
is_item texts item.Int = true
is_item texts item.Bool = true
is_item texts (item.Text n) = nat_lt n texts

-- ---- all operands

abbrev pub blocks_well : Code → Bool
blocks_well code = ends_in_main code.blocks && list_all is_block code.blocks

abbrev pub lines_well : Code → Bool
lines_well code = list_all (list_all is_text_byte) code.texts && list_all (list_all (is_item (length code.texts)))
    code.layouts

abbrev pub names_well : Code → Bool
names_well code = blocks_well code && list_all (is_var code) code.vars && lines_well code

-- ---- limits

abbrev pub most_locations : ℕ
most_locations = 4096

-- procedures beside `main`; and funs and merges together
abbrev pub most_blocks : ℕ
most_blocks = 256

abbrev pub most_params : ℕ
most_params = 8

abbrev pub most_locals : ℕ
most_locals = 64

abbrev pub most_items : ℕ
most_items = 64

abbrev pub locations : List CodeVar → ℕ
locations vars = sum (map (λ v. v.cells) vars)

abbrev pub count_class : (BlockClass → Bool) → List CodeBlock → ℕ
count_class wanted [] = 0
count_class wanted (b ∷ bs) = if wanted b.class then suc (count_class wanted bs) else count_class wanted bs

-- what a count of 32 bits can hold
abbrev pub most_u32 : ℕ
most_u32 = 4294967295

-- what a count of 16 bits can hold
abbrev pub most_u16 : ℕ
most_u16 = 65535

abbrev pub is_small_block : CodeBlock → Bool
is_small_block b = nat_le b.params most_params && nat_le (length b.locals) most_locals && nat_le (length b.instrs)
    most_u32

abbrev pub is_small_text : List ℕ → Bool
is_small_text text = nat_le (length text) most_u32

abbrev pub has_small_name : CodeVar → Bool
has_small_name v = is_small_text v.name

abbrev pub is_small_layout : List LayoutItem → Bool
is_small_layout items = nat_le (length items) most_items

-- the limits of the language, and what the counts and lengths of a code file can hold
abbrev pub is_small : Code → Bool
is_small code =
    nat_le (locations code.vars) most_locations
    && nat_le (count_class is_procedure code.blocks) most_blocks
    && nat_le (count_class is_value_class code.blocks) most_blocks
    && nat_le (length code.blocks) most_u16
    && list_all is_small_block code.blocks
    && list_all is_small_layout code.layouts
    && nat_le (length code.vars) most_u16
    && list_all has_small_name code.vars
    && nat_le (length code.texts) most_u32
    && list_all is_small_text code.texts
    && nat_le (length code.layouts) most_u32
