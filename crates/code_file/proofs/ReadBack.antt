-- What was written is read again: variables, texts, layouts, instructions, blocks, the file.
use Rattle.std.proofs.Common.{◌≡◌, ◌∙◌, ℕ, ◌+◌, ◌^◌, ◌<◌, ◌≤◌, Bool, true, false, ◌&&◌, ◌||◌, if◌then◌else◌, List, [], ◌∷◌, ◌++◌, length, map, All, Option, Some, None, refl, sym, ap, arith, nat_eq, nat_le, nat_lt, codes}
use Rattle.std.proofs.lemmas.Grind.{common_steps}
use Rattle.std.proofs.lemmas.List.{append-nil}
use Rattle.std.specs.Int.{w16, w32, w64, to_be_bytes}
use Rattle.std.specs.List.{flat_map, sum_by}
use Rattle.std.proofs.lemmas.List.Sums.{sum-map, sum_by-append, sum_by-cons}
use Rattle.std.proofs.Common.{length-append, get_or, subst}
use Rattle.rev_num.specs.declared.value.ValueKind.{ValueKind}
use Rattle.rev_num.specs.declared.value.ValueKind.TheVariants as kind
use Rattle.rev_num.specs.Laws.{WordsAndNumbersAreInverse}
use Rattle.rev_num.specs.Words.{int_of, word_of}
use Rattle.rev_code.specs.declared.code.Code.{Code}
use Rattle.rev_code.specs.declared.code.CodeVar.{CodeVar}
use Rattle.rev_code.specs.declared.code.CodeBlock.{CodeBlock}
use Rattle.rev_code.specs.declared.code.BlockClass.{BlockClass}
use Rattle.rev_code.specs.declared.code.BlockClass.TheVariants as class
use Rattle.rev_code.specs.declared.code.LayoutItem.{LayoutItem}
use Rattle.rev_code.specs.declared.code.LayoutItem.TheVariants as item
use Rattle.rev_code.specs.declared.code.Instr.{Instr}
use Rattle.rev_code.specs.declared.code.Instr.TheVariants as i
use Rattle.code_rules.specs.Tables.{is_name, is_start, locations}
use Rattle.code_file.specs.declared.version.Version.{Version}
use Rattle.code_file.specs.declared.version.Version.TheVariants as version
use Rattle.code_file.specs.Counts.{HasShortName, IsShort, IsShortLayout, IsShortBlock}
use Rattle.code_file.specs.Fields.{Got, Field, and_then, go_on, give, bytes_of, number_8, number_16, number_32, number_64, tested, more}
use Rattle.code_file.specs.Parts.{only, when, flag_of, kind_of, result_of, class_of, are_cells, is_merge, is_text, is_wide, has_tries, Operand, Plain, Truth, Byte, Short, Long, Word, operand_of, tries, try_count, tries_in}
use Rattle.code_file.specs.Files.{flag_byte, kind_byte, result_byte, class_byte, var_bytes, text_bytes, item_bytes, layout_bytes, instr_bytes, block_bytes, version_for, version_number, location_bytes, try_bytes, body_bytes, file_of, counted_16, counted_32}
use Rattle.code_file.specs.Laws.{IsVar, IsText, IsItem, IsInstr, IsBlock, HasFile}
use Rattle.code_file.specs.Reads.{magic, as_version, version as version_field, name, var, vars, location_count, text, texts, item_of, layout_item, layout, layouts, with_operand, instr, instrs, locals, block, blocks, try_total, code_of, at_end, file, reading}
use Rattle.code_file.proofs.Written.{Reads, bytes_read, read_8, read_16, read_32, read_64, give_read, tested_read, then_read, more_read}
use Rattle.code_file.proofs.FileRead.{one_byte}

-- ---- single bytes

flag_back : (b : Bool) → flag_of (flag_byte b) ≡ Some b
flag_back false = refl
flag_back true = refl

kind_back : (k : ValueKind) → kind_of (kind_byte k) ≡ Some k
kind_back kind.Int = refl
kind_back kind.Bool = refl
kind_back kind.Rev = refl

result_back : (k : Option ValueKind) → result_of (result_byte k) ≡ Some k
result_back (Some kind.Int) = refl
result_back (Some kind.Bool) = refl
result_back (Some kind.Rev) = refl
result_back None = refl

class_back : (c : BlockClass) → class_of (class_byte c) ≡ Some c
class_back class.Fun = refl
class_back class.Merge = refl
class_back class.Proc = refl
class_back class.Main = refl

only_back : {A : Type 0} (test : A → Bool) (a : A) → test a ≡ true → only test a ≡ Some a
only_back test a e = ap (λ b. if b then Some a else None) e

flag_read : (b : Bool) → Reads (tested flag_of number_8) b (flag_byte b ∷ [])
flag_read b = tested_read flag_of number_8 (flag_byte b) b (flag_byte b ∷ []) (read_8 (flag_byte b)) (flag_back b)

kind_read : (k : ValueKind) → Reads (tested kind_of number_8) k (kind_byte k ∷ [])
kind_read k = tested_read kind_of number_8 (kind_byte k) k (kind_byte k ∷ []) (read_8 (kind_byte k)) (kind_back k)

-- the last field of several, which gives a value
last_read : {A B : Type 0} (r : Field A) (k : A → Field B) (a : A) (b : B) (bytes : List ℕ) →
    Reads r a bytes → Reads (k a) b [] → Reads (and_then r k) b bytes
unfolding and_then
last_read r k a b bytes h g =
    record { back = λ whole rest. ap (λ x. go_on x k whole) (h.back whole rest) ∙ g.back whole rest }

-- ---- names, texts, variables

long_read : (test : List ℕ → Bool) (bytes : List ℕ) → test bytes ≡ true → length bytes < 4294967296 →
    Reads (and_then number_32 (λ count. tested (only test) (bytes_of count))) bytes (text_bytes bytes)
unfolding text_bytes
long_read test bytes good short =
    then_read number_32 (λ count. tested (only test) (bytes_of count)) (length bytes) bytes
    (to_be_bytes w32 (length bytes)) bytes
    (read_32 (length bytes) short)
    (tested_read (only test) (bytes_of (length bytes)) bytes bytes bytes (bytes_read bytes) (only_back test bytes good))

name_read : (bytes : List ℕ) → is_name bytes ≡ true → length bytes < 4294967296 → Reads name bytes (text_bytes bytes)
unfolding name
name_read bytes good short = long_read is_name bytes good short

text_read : (bytes : List ℕ) → is_text bytes ≡ true → length bytes < 4294967296 → Reads text bytes (text_bytes bytes)
unfolding text
text_read bytes good short = long_read is_text bytes good short

var_read : (wide : Bool) (before : ℕ) (v : CodeVar) → IsVar v → HasShortName v
    → are_cells wide v.array before v.cells ≡ true →
    Reads (var wide before) v (var_bytes v)
unfolding var var_bytes
var_read wide before v is short cells =
    then_read name _ v.name v (text_bytes v.name) _ (name_read v.name is.name short)
    (then_read (tested flag_of number_8) _ v.cumulative v (flag_byte v.cumulative ∷ []) _ (flag_read v.cumulative)
    (then_read (tested kind_of number_8) _ v.kind v (kind_byte v.kind ∷ []) _ (kind_read v.kind)
    (then_read (tested flag_of number_8) _ v.array v (flag_byte v.array ∷ []) _ (flag_read v.array)
    (then_read (tested (only (are_cells wide v.array before)) number_32) _ v.cells v (to_be_bytes w32 v.cells) _
    (tested_read (only (are_cells wide v.array before)) number_32 v.cells v.cells (to_be_bytes w32 v.cells)
    (read_32 v.cells is.cells_fit) (only_back (are_cells wide v.array before) v.cells cells))
    (then_read (tested (only (is_start v.kind)) number_64) _ v.start v (to_be_bytes w64 v.start) _
    (tested_read (only (is_start v.kind)) number_64 v.start v.start (to_be_bytes w64 v.start)
    (read_64 v.start is.start_fits) (only_back (is_start v.kind) v.start is.start))
    (last_read (tested (only (is_merge v.cumulative)) number_16) _ v.merge v (to_be_bytes w16 v.merge)
    (tested_read (only (is_merge v.cumulative)) number_16 v.merge v.merge (to_be_bytes w16 v.merge)
    (read_16 v.merge is.merge_fits) (only_back (is_merge v.cumulative) v.merge is.merge))
    (give_read v)))))))

-- ---- layouts

item_read : (item : LayoutItem) → IsItem item → Reads layout_item item (item_bytes item)
unfolding layout_item
item_read item.Int is =
    last_read (tested (only (λ n. nat_lt n 3)) number_8) item_of 0 item.Int (0 ∷ [])
    (tested_read (only (λ n. nat_lt n 3)) number_8 0 0 (0 ∷ []) (read_8 0) refl) (give_read item.Int)
item_read item.Bool is =
    last_read (tested (only (λ n. nat_lt n 3)) number_8) item_of 1 item.Bool (1 ∷ [])
    (tested_read (only (λ n. nat_lt n 3)) number_8 1 1 (1 ∷ []) (read_8 1) refl) (give_read item.Bool)
item_read (item.Text n) is =
    then_read (tested (only (λ n. nat_lt n 3)) number_8) item_of 2 (item.Text n) (2 ∷ []) (to_be_bytes w32 n)
    (tested_read (only (λ n. nat_lt n 3)) number_8 2 2 (2 ∷ []) (read_8 2) refl)
    (last_read number_32 (λ n. give (item.Text n)) n (item.Text n) (to_be_bytes w32 n) (read_32 n is)
    (give_read (item.Text n)))

at_front : {A : Type 0} (pre : List A) (x : A) (post : List A) (d : A) → get_or (pre ++ (x ∷ post)) (length pre) d ≡ x
at_front [] x post d = refl
at_front (y ∷ pre) x post d = at_front pre x post d

front_below : {A : Type 0} (pre : List A) (x : A) (post : List A) → length pre < length (pre ++ (x ∷ post))
front_below pre x post = simp length-append (omega arith)

-- an element of a list that is cut there
inside : {A : Type 0} (P : A → Type 0) (all pre : List A) (x : A) (post : List A) → All P all → all ≡ pre ++ (x ∷ post)
    → P x
inside P all pre x post each e =
    let there : All P (pre ++ (x ∷ post)) = subst (λ l. All P l) e each in
    subst P (at_front pre x post x) (there (length pre) x (front_below pre x post))

-- what is summed of an element of a list is no more than the sum
inside_sum : {A : Type 0} (f : A → ℕ) (all pre : List A) (x : A) (post : List A) → all ≡ pre ++ (x ∷ post)
    → sum_by f pre + f x ≤ sum_by f all
inside_sum f all pre x post e =
    let a : sum_by f all ≡ sum_by f (pre ++ (x ∷ post)) = ap (sum_by f) e in
    let b : sum_by f (pre ++ (x ∷ post)) ≡ sum_by f pre + sum_by f (x ∷ post) = sum_by-append f pre (x ∷ post) in
    let d : sum_by f (x ∷ post) ≡ f x + sum_by f post = sum_by-cons f x post in
    omega arith

-- parts of one form, behind their number
counted_read : {A : Type 0} (part : Field A) (bytes : A → List ℕ) (number : Field ℕ) (front : List ℕ) (xs : List A) →
    Reads number (length xs) front →
    ((pre : List A) (x : A) (post : List A) → xs ≡ pre ++ (x ∷ post) → Reads part x (bytes x)) →
    Reads (and_then number (λ count. more count (λ _. part) [])) xs (front ++ flat_map bytes xs)
counted_read part bytes number front xs head each =
    then_read number (λ count. more count (λ _. part) []) (length xs) xs front (flat_map bytes xs) head
    (more_read (λ _. part) bytes xs [] xs refl each)

layout_read : (items : List LayoutItem) → All IsItem items → IsShortLayout items
    → Reads layout items (layout_bytes items)
unfolding layout layout_bytes
layout_read items is short =
    counted_read layout_item item_bytes number_8 (length items ∷ []) items (read_8 (length items))
    (λ pre x post e. item_read x (inside IsItem items pre x post is e))

layouts_read : (xs : List (List LayoutItem)) → All (All IsItem) xs → All IsShortLayout xs → length xs < 4294967296
    → Reads layouts xs (counted_32 layout_bytes xs)
unfolding layouts
layouts_read xs is short few =
    counted_read layout layout_bytes number_32 (to_be_bytes w32 (length xs)) xs (read_32 (length xs) few)
    (λ pre x post e.
    layout_read x (inside (All IsItem) xs pre x post is e) (inside IsShortLayout xs pre x post short e))

texts_read : (xs : List (List ℕ)) → All IsText xs → All IsShort xs → length xs < 4294967296
    → Reads texts xs (counted_32 text_bytes xs)
unfolding texts
texts_read xs is short few =
    counted_read text text_bytes number_32 (to_be_bytes w32 (length xs)) xs (read_32 (length xs) few)
    (λ pre x post e. text_read x (inside IsText xs pre x post is e) (inside IsShort xs pre x post short e))

vars_read : (wide : Bool) (xs : List CodeVar) → All IsVar xs → All HasShortName xs → length xs < 65536
    → (wide ≡ false → locations xs ≤ 64) →
    Reads (vars wide) xs (counted_16 var_bytes xs)
unfolding vars
vars_read wide xs is short few small =
    then_read number_16 (λ count. more count (λ done. var wide (locations done)) []) (length xs) xs
    (to_be_bytes w16 (length xs)) (flat_map var_bytes xs) (read_16 (length xs) few)
    (more_read (λ done. var wide (locations done)) var_bytes xs [] xs refl
    (λ pre x post e.
    var_read wide (locations pre) x (inside IsVar xs pre x post is e) (inside HasShortName xs pre x post short e)
    (cells_well pre x post e)))
  where
    fits : (b : Bool) (before cells : ℕ) → (b ≡ false → before + cells ≤ 64) → (b || nat_le (before + cells) 64) ≡ true
    fits true before cells h = refl
    fits false before cells h = let g : before + cells ≤ 64 = h refl in grind (arith, common_steps)

    below : (pre : List CodeVar) (x : CodeVar) (post : List CodeVar) → xs ≡ pre ++ (x ∷ post)
        → locations pre + x.cells ≤ locations xs
    below pre x post e =
        let a = inside_sum (λ (v : CodeVar). v.cells) xs pre x post e in
        let b = sum-map (λ (v : CodeVar). v.cells) xs in
        let d = sum-map (λ (v : CodeVar). v.cells) pre in
        omega arith

    cells_well : (pre : List CodeVar) (x : CodeVar) (post : List CodeVar) → xs ≡ pre ++ (x ∷ post)
        → are_cells wide x.array (locations pre) x.cells ≡ true
    cells_well pre x post e =
        ap (λ b. b && (wide || nat_le (locations pre + x.cells) 64)) (inside IsVar xs pre x post is e).cells
        ∙ fits wide (locations pre) x.cells
        (λ no_wide. let a = below pre x post e in let b = small no_wide in omega arith)

-- ---- instructions

plain_read : (tries' : Bool) (n : ℕ) (x : Instr) → operand_of tries' n ≡ Some (Plain x)
    → Reads (instr tries') x (n ∷ [])
unfolding instr
plain_read tries' n x e =
    last_read (tested (operand_of tries') number_8) with_operand (Plain x) x (n ∷ [])
    (tested_read (operand_of tries') number_8 n (Plain x) (n ∷ []) (read_8 n) e) (give_read x)

operand_read : {A : Type 0} (tries' : Bool) (n : ℕ) (operand : Operand) (r : Field A) (make : A → Instr) (a : A)
    (bytes : List ℕ)
    →
    operand_of tries' n ≡ Some operand → with_operand operand ≡ and_then r (λ x. give (make x)) → Reads r a bytes
    → Reads (instr tries') (make a) (n ∷ bytes)
unfolding instr
operand_read tries' n operand r make a bytes e same h =
    then_read (tested (operand_of tries') number_8) with_operand operand (make a) (n ∷ []) bytes
    (tested_read (operand_of tries') number_8 n operand (n ∷ []) (read_8 n) e)
    (subst (λ f. Reads f (make a) bytes) (sym same)
    (last_read r (λ x. give (make x)) a (make a) bytes h (give_read (make a))))

instr_read : WordsAndNumbersAreInverse → (tries' : Bool) (instr' : Instr) → IsInstr instr'
    → (tries' ≡ false → try_count instr' ≡ 0) → Reads (instr tries') instr' (instr_bytes instr')
instr_read words tries' (i.PushInt n) is may =
    subst (λ m. Reads (instr tries') (i.PushInt m) (0 ∷ to_be_bytes w64 (word_of n))) (words.number n is).1
    (operand_read tries' 0 (Word (λ w. i.PushInt (int_of w))) number_64 (λ w. i.PushInt (int_of w)) (word_of n)
    (to_be_bytes w64 (word_of n)) refl refl
    (read_64 (word_of n) (let h : word_of n < 2 ^ 64 = (words.number n is).0 in omega arith)))
instr_read words tries' (i.PushBool b) is may =
    operand_read tries' 1 (Truth (λ x. i.PushBool x)) (tested flag_of number_8) (λ x. i.PushBool x) b (flag_byte b ∷ [])
    refl refl (flag_read b)
instr_read words tries' i.PushNone is may = plain_read tries' 2 i.PushNone refl
instr_read words tries' (i.LoadLocal n) is may =
    operand_read tries' 3 (Byte (λ x. i.LoadLocal x)) number_8 (λ x. i.LoadLocal x) n (n ∷ []) refl refl (read_8 n)
instr_read words tries' (i.StoreLocal n) is may =
    operand_read tries' 4 (Byte (λ x. i.StoreLocal x)) number_8 (λ x. i.StoreLocal x) n (n ∷ []) refl refl (read_8 n)
instr_read words tries' (i.LoadShared n) is may =
    operand_read tries' 5 (Short (λ x. i.LoadShared x)) number_16 (λ x. i.LoadShared x) n (to_be_bytes w16 n) refl refl
    (read_16 n is)
instr_read words tries' (i.StoreShared n) is may =
    operand_read tries' 6 (Short (λ x. i.StoreShared x)) number_16 (λ x. i.StoreShared x) n (to_be_bytes w16 n) refl
    refl (read_16 n is)
instr_read words tries' (i.LoadCell n) is may =
    operand_read tries' 7 (Short (λ x. i.LoadCell x)) number_16 (λ x. i.LoadCell x) n (to_be_bytes w16 n) refl refl
    (read_16 n is)
instr_read words tries' (i.StoreCell n) is may =
    operand_read tries' 8 (Short (λ x. i.StoreCell x)) number_16 (λ x. i.StoreCell x) n (to_be_bytes w16 n) refl refl
    (read_16 n is)
instr_read words tries' (i.CheckCell n) is may =
    operand_read tries' 9 (Short (λ x. i.CheckCell x)) number_16 (λ x. i.CheckCell x) n (to_be_bytes w16 n) refl refl
    (read_16 n is)
instr_read words tries' i.LoadInput is may = plain_read tries' 10 i.LoadInput refl
instr_read words tries' i.CountInput is may = plain_read tries' 11 i.CountInput refl
instr_read words tries' i.Add is may = plain_read tries' 12 i.Add refl
instr_read words tries' i.Sub is may = plain_read tries' 13 i.Sub refl
instr_read words tries' i.Mul is may = plain_read tries' 14 i.Mul refl
instr_read words tries' i.Div is may = plain_read tries' 15 i.Div refl
instr_read words tries' i.Rem is may = plain_read tries' 16 i.Rem refl
instr_read words tries' i.Neg is may = plain_read tries' 17 i.Neg refl
instr_read words tries' i.Not is may = plain_read tries' 18 i.Not refl
instr_read words tries' i.Eq is may = plain_read tries' 19 i.Eq refl
instr_read words tries' i.Ne is may = plain_read tries' 20 i.Ne refl
instr_read words tries' i.Lt is may = plain_read tries' 21 i.Lt refl
instr_read words tries' i.Le is may = plain_read tries' 22 i.Le refl
instr_read words tries' i.Gt is may = plain_read tries' 23 i.Gt refl
instr_read words tries' i.Ge is may = plain_read tries' 24 i.Ge refl
instr_read words tries' (i.Jump n) is may =
    operand_read tries' 25 (Long (λ x. i.Jump x)) number_32 (λ x. i.Jump x) n (to_be_bytes w32 n) refl refl
    (read_32 n is)
instr_read words tries' (i.JumpIfFalse n) is may =
    operand_read tries' 26 (Long (λ x. i.JumpIfFalse x)) number_32 (λ x. i.JumpIfFalse x) n (to_be_bytes w32 n) refl
    refl (read_32 n is)
instr_read words tries' (i.JumpIfTrue n) is may =
    operand_read tries' 27 (Long (λ x. i.JumpIfTrue x)) number_32 (λ x. i.JumpIfTrue x) n (to_be_bytes w32 n) refl refl
    (read_32 n is)
instr_read words tries' (i.Apply n) is may =
    operand_read tries' 28 (Short (λ x. i.Apply x)) number_16 (λ x. i.Apply x) n (to_be_bytes w16 n) refl refl
    (read_16 n is)
instr_read words tries' (i.Charge n) is may =
    operand_read tries' 29 (Long (λ x. i.Charge x)) number_32 (λ x. i.Charge x) n (to_be_bytes w32 n) refl refl
    (read_32 n is)
instr_read words tries' (i.Call n) is may =
    operand_read tries' 30 (Short (λ x. i.Call x)) number_16 (λ x. i.Call x) n (to_be_bytes w16 n) refl refl
    (read_16 n is)
instr_read words tries' (i.Fork n) is may =
    operand_read tries' 31 (Short (λ x. i.Fork x)) number_16 (λ x. i.Fork x) n (to_be_bytes w16 n) refl refl
    (read_16 n is)
instr_read words tries' i.Join is may = plain_read tries' 32 i.Join refl
instr_read words tries' (i.Print n) is may =
    operand_read tries' 33 (Long (λ x. i.Print x)) number_32 (λ x. i.Print x) n (to_be_bytes w32 n) refl refl
    (read_32 n is)
instr_read words tries' i.Assert is may = plain_read tries' 34 i.Assert refl
instr_read words tries' i.Return is may = plain_read tries' 35 i.Return refl
instr_read words tries' i.Pop is may = plain_read tries' 36 i.Pop refl
instr_read words true i.TryJoin is may = plain_read true 37 i.TryJoin refl
instr_read words false i.TryJoin is may = absurd (let h : 1 ≡ 0 = may refl in omega arith)

instrs_read : WordsAndNumbersAreInverse → (tries' : Bool) (xs : List Instr) → All IsInstr xs → length xs < 4294967296
    → (tries' ≡ false → tries_in xs ≡ 0) →
    Reads (instrs tries') xs (counted_32 instr_bytes xs)
unfolding instrs
instrs_read words tries' xs is few may =
    counted_read (instr tries') instr_bytes number_32 (to_be_bytes w32 (length xs)) xs (read_32 (length xs) few)
    (λ pre x post e. instr_read words tries' x (inside IsInstr xs pre x post is e)
    (λ without. let a = inside_sum try_count xs pre x post e in let b = may without in omega arith))

-- ---- blocks

locals_read : (xs : List ValueKind) → Reads locals xs (length xs ∷ map kind_byte xs)
unfolding locals
locals_read xs =
    subst (λ l. Reads (and_then number_8 (λ count. more count (λ _. tested kind_of number_8) [])) xs (length xs ∷ l))
    (one_byte xs)
    (counted_read (tested kind_of number_8) (λ k. kind_byte k ∷ []) number_8 (length xs ∷ []) xs (read_8 (length xs))
    (λ pre x post e. kind_read x))

block_read : WordsAndNumbersAreInverse → (tries' : Bool) (b : CodeBlock) → IsBlock b → IsShortBlock b
    → (tries' ≡ false → tries_in b.instrs ≡ 0) →
    Reads (block tries') b (block_bytes b)
unfolding block block_bytes
block_read words tries' b is short may =
    then_read (tested class_of number_8) _ b.class b (class_byte b.class ∷ []) _
    (tested_read class_of number_8 (class_byte b.class) b.class (class_byte b.class ∷ []) (read_8 (class_byte b.class))
    (class_back b.class))
    (then_read number_8 _ b.params b (b.params ∷ []) _ (read_8 b.params)
    (then_read (tested result_of number_8) _ b.result b (result_byte b.result ∷ []) _
    (tested_read result_of number_8 (result_byte b.result) b.result (result_byte b.result ∷ [])
    (read_8 (result_byte b.result)) (result_back b.result))
    (then_read locals _ b.locals b (length b.locals ∷ map kind_byte b.locals) _ (locals_read b.locals)
    (last_read (instrs tries') _ b.instrs b (counted_32 instr_bytes b.instrs)
    (instrs_read words tries' b.instrs is.instrs short.instrs may) (give_read b)))))

blocks_read : WordsAndNumbersAreInverse → (tries' : Bool) (xs : List CodeBlock) → All IsBlock xs → All IsShortBlock xs
    → length xs < 65536 → (tries' ≡ false → tries xs ≡ 0) →
    Reads (blocks tries') xs (counted_16 block_bytes xs)
unfolding blocks
blocks_read words tries' xs is short few may =
    counted_read (block tries') block_bytes number_16 (to_be_bytes w16 (length xs)) xs (read_16 (length xs) few)
    (λ pre x post e.
    block_read words tries' x (inside IsBlock xs pre x post is e) (inside IsShortBlock xs pre x post short e)
    (λ without.
    let a = inside_sum (λ (b : CodeBlock). tries_in b.instrs) xs pre x post e in let b = may without in omega arith))

-- ---- the file

location_read : (wide : Bool) (sum : ℕ) → (wide ≡ true → 64 < sum) → sum < 4294967296
    → Reads (location_count wide sum) tt (location_bytes wide sum)
unfolding location_count
location_read true sum many fits =
    tested_read (when (λ n. nat_eq n sum && nat_lt 64 n)) number_32 sum tt (to_be_bytes w32 sum) (read_32 sum fits)
    (let h : 64 < sum = many refl in
    let e : (nat_eq sum sum && nat_lt 64 sum) ≡ true = grind (arith, common_steps) in
    ap (λ b. if b then Some tt else None) e)
location_read false sum many fits = give_read tt

try_read : (tries' wide : Bool) (sum : ℕ) → (tries' ≡ true → wide ≡ false → 0 < sum) → sum < 4294967296
    → Reads (try_total tries' wide sum) tt (try_bytes tries' sum)
unfolding try_total
try_read true true sum some fits =
    tested_read (when (λ n. nat_eq n sum && (true || nat_lt 0 n))) number_32 sum tt (to_be_bytes w32 sum)
    (read_32 sum fits)
    (let e : (nat_eq sum sum && true) ≡ true = grind (arith, common_steps) in ap (λ b. if b then Some tt else None) e)
try_read true false sum some fits =
    tested_read (when (λ n. nat_eq n sum && (false || nat_lt 0 n))) number_32 sum tt (to_be_bytes w32 sum)
    (read_32 sum fits)
    (let h : 0 < sum = some refl refl in
    let e : (nat_eq sum sum && nat_lt 0 sum) ≡ true = grind (arith, common_steps) in
    ap (λ b. if b then Some tt else None) e)
try_read false wide sum some fits = give_read tt

body_read : WordsAndNumbersAreInverse → (wide tries' : Bool) (code : Code) → HasFile code →
    (wide ≡ false → locations code.vars ≤ 64) → (wide ≡ true → 64 < locations code.vars) →
    (tries' ≡ false → tries code.blocks ≡ 0) → (tries' ≡ true → wide ≡ false → 0 < tries code.blocks) →
    Reads (code_of wide tries') code (body_bytes wide tries' code)
unfolding code_of body_bytes
body_read words wide tries' code has small many without some =
    then_read (vars wide) _ code.vars code (counted_16 var_bytes code.vars) _
    (vars_read wide code.vars has.vars has.counted.names has.counted.vars small)
    (then_read (location_count wide (locations code.vars)) _ tt code (location_bytes wide (locations code.vars)) _
    (location_read wide (locations code.vars) many has.counted.locations)
    (then_read texts _ code.texts code (counted_32 text_bytes code.texts) _
    (texts_read code.texts has.texts has.counted.each_text has.counted.texts)
    (then_read layouts _ code.layouts code (counted_32 layout_bytes code.layouts) _
    (layouts_read code.layouts has.items has.counted.each_layout has.counted.layouts)
    (then_read (blocks tries') _ code.blocks code (counted_16 block_bytes code.blocks) _
    (blocks_read words tries' code.blocks has.blocks has.counted.each_block has.counted.blocks without)
    (last_read (try_total tries' wide (tries code.blocks)) _ tt code (try_bytes tries' (tries code.blocks))
    (try_read tries' wide (tries code.blocks) some has.counted.tries) (give_read code))))))

-- what the version says of locations and of `TryJoin`
by_version : (sum total : ℕ) → Version
by_version sum total = if nat_lt 64 sum then version.Three else if nat_lt 0 total then version.Two else version.One

not_wide : (sum total : ℕ) → is_wide (by_version sum total) ≡ false → sum ≤ 64
unfolding by_version
not_wide sum total e = grind (arith, common_steps)

wide_many : (sum total : ℕ) → is_wide (by_version sum total) ≡ true → 64 < sum
unfolding by_version
wide_many sum total e = grind (arith, common_steps)

without_tries : (sum total : ℕ) → has_tries (by_version sum total) ≡ false → total ≡ 0
unfolding by_version
without_tries sum total e = grind (arith, common_steps)

with_tries : (sum total : ℕ) → has_tries (by_version sum total) ≡ true → is_wide (by_version sum total) ≡ false
    → 0 < total
unfolding by_version
with_tries sum total e f = grind (arith, common_steps)

magic_read : Reads magic tt (codes "REVC")
magic_read = record { back = λ whole rest. refl }

number_small : (v : Version) → version_number v < 65536
number_small version.One = omega arith
number_small version.Two = omega arith
number_small version.Three = omega arith

version_back : (v : Version) (rest : List ℕ) → as_version (Got (version_number v) rest) ≡ Got v rest
version_back version.One rest = refl
version_back version.Two rest = refl
version_back version.Three rest = refl

version_read : (v : Version) → Reads version_field v (to_be_bytes w16 (version_number v))
version_read v = record {
  back = λ whole rest.
      ap as_version ((read_16 (version_number v) (number_small v)).back whole rest) ∙ version_back v rest;
}

-- behind what a field has read
step : {A B : Type 0} (r : Field A) (k : A → Field B) (a : A) (bytes rest : List ℕ) (whole : ℕ) → Reads r a bytes
    → and_then r k whole (bytes ++ rest) ≡ k a whole rest
unfolding and_then
step r k a bytes rest whole h = ap (λ x. go_on x k whole) (h.back whole rest)

last_step : (code : Code) (whole : ℕ) → and_then at_end (λ _. give code) whole [] ≡ Got code []
unfolding and_then
last_step code whole = refl

pub code_read : WordsAndNumbersAreInverse → (code : Code) → HasFile code → reading (file_of code) ≡ Got code []
unfolding file file_of by_version
code_read words code has =
    let v = version_for code in
    let sum = locations code.vars in
    let total = tries code.blocks in
    let body = body_bytes (is_wide v) (has_tries v) code in
    let whole = length (file_of code) in
    step magic _ tt (codes "REVC") (to_be_bytes w16 (version_number v) ++ body) whole magic_read
    ∙ step version_field _ v (to_be_bytes w16 (version_number v)) body whole (version_read v)
    ∙ ap (λ b. and_then (code_of (is_wide v) (has_tries v)) (λ code'. and_then at_end (λ _. give code')) whole b)
    (sym (append-nil body))
    ∙ step (code_of (is_wide v) (has_tries v)) (λ code'. and_then at_end (λ _. give code')) code body [] whole
    (body_read words (is_wide v) (has_tries v) code has (not_wide sum total) (wide_many sum total)
    (without_tries sum total) (with_tries sum total))
    ∙ last_step code whole
