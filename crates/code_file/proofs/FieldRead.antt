-- What is read is the part of a file that spells it: bytes, names, texts, variables, layouts and instructions.
use Rattle.std.proofs.Common.{◌≡◌, ◌∙◌, ℕ, zero, suc, ◌+◌, ◌^◌, ◌<◌, ◌≤◌, Bool, true, false, ◌&&◌, ◌||◌, if◌then◌else◌, List, [], ◌∷◌, ◌++◌, length, All, Option, Some, None, refl, sym, ap, arith, nat_eq, nat_le, nat_lt, slice_get}
use Rattle.std.proofs.lemmas.Grind.{common_steps}
use Rattle.std.proofs.lemmas.List.{append-nil}
use Rattle.std.specs.Int.{w16, w32, w64, to_be_bytes}
use Rattle.std.specs.List.{flat_map, sum_by}
use Rattle.std.proofs.lemmas.List.Sums.{sum_by-append, sum_by-cons}
use Rattle.std.proofs.Common.{subst}
use Rattle.rev_num.specs.declared.value.ValueKind.{ValueKind}
use Rattle.rev_num.specs.declared.value.ValueKind.TheVariants as kind
use Rattle.rev_num.specs.Laws.{WordsAndNumbersAreInverse}
use Rattle.rev_num.specs.Words.{int_of}
use Rattle.rev_code.specs.declared.code.CodeVar.{CodeVar}
use Rattle.rev_code.specs.declared.code.BlockClass.{BlockClass}
use Rattle.rev_code.specs.declared.code.BlockClass.TheVariants as class
use Rattle.rev_code.specs.declared.code.LayoutItem.{LayoutItem}
use Rattle.rev_code.specs.declared.code.LayoutItem.TheVariants as item
use Rattle.rev_code.specs.declared.code.Instr.{Instr}
use Rattle.rev_code.specs.declared.code.Instr.TheVariants as i
use Rattle.code_rules.specs.Tables.{is_name, is_start, has_cells, locations}
use Rattle.code_file.specs.declared.version.Version.{Version}
use Rattle.code_file.specs.declared.version.Version.TheVariants as version
use Rattle.code_file.specs.Counts.{HasShortName, IsShortLayout}
use Rattle.code_file.specs.Fields.{Field, and_then, give, bytes_of, number_8, number_16, number_32, number_64, tested, more}
use Rattle.code_file.specs.Parts.{only, flag_of, kind_of, result_of, class_of, version_of, are_cells, is_merge, is_text, Operand, Plain, Truth, Byte, Short, Long, Word, operand_of, try_count, tries_in}
use Rattle.code_file.specs.Files.{flag_byte, kind_byte, result_byte, class_byte, var_bytes, text_bytes, item_bytes, layout_bytes, instr_bytes, version_number}
use Rattle.code_file.specs.Laws.{Is8, Is16, Is32, Is64, IsVar, IsItem, IsInstr}
use Rattle.code_file.specs.Reads.{name, var, vars, text, texts, item_of, layout_item, layout, layouts, with_operand, instr, instrs}
use Rattle.code_file.specs.Parts.{operands}
use Rattle.code_file.proofs.Steps.{locations_push}
use Rattle.code_file.proofs.Spelled.{Takes, Spelled, Given, Part, then_takes, more_takes, tested_takes, number_8_takes, number_16_takes, number_32_takes, number_64_takes, bytes_takes, weaken, give_takes}

-- ---- single bytes

flag_forth : (n : ℕ) (b : Bool) → flag_of n ≡ Some b → n ≡ flag_byte b
flag_forth n true e = grind (arith, common_steps)
flag_forth n false e = grind (arith, common_steps)

pub kind_forth : (n : ℕ) (k : ValueKind) → kind_of n ≡ Some k → n ≡ kind_byte k
kind_forth n kind.Int e = grind (arith, common_steps)
kind_forth n kind.Bool e = grind (arith, common_steps)
kind_forth n kind.Rev e = grind (arith, common_steps)

pub result_forth : (n : ℕ) (k : Option ValueKind) → result_of n ≡ Some k → n ≡ result_byte k
result_forth n (Some kind.Int) e = grind (arith, common_steps)
result_forth n (Some kind.Bool) e = grind (arith, common_steps)
result_forth n (Some kind.Rev) e = grind (arith, common_steps)
result_forth n None e = grind (arith, common_steps)

pub class_forth : (n : ℕ) (c : BlockClass) → class_of n ≡ Some c → n ≡ class_byte c
class_forth n class.Fun e = grind (arith, common_steps)
class_forth n class.Merge e = grind (arith, common_steps)
class_forth n class.Proc e = grind (arith, common_steps)
class_forth n class.Main e = grind (arith, common_steps)

pub version_forth : (n : ℕ) (v : Version) → version_of n ≡ Some v → n ≡ version_number v
version_forth n version.One e = grind (arith, common_steps)
version_forth n version.Two e = grind (arith, common_steps)
version_forth n version.Three e = grind (arith, common_steps)

only_if : {A : Type 0} (b : Bool) (a c : A) → (if b then Some a else None) ≡ Some c → (b ≡ true) × (a ≡ c)
only_if true a c e = (refl, (cc))
only_if false a c e = absurd (cc)

only_forth : {A : Type 0} (test : A → Bool) (a c : A) → only test a ≡ Some c → (a ≡ c) × (test c ≡ true)
only_forth test a c e =
    let p = only_if (test a) a c e in
    (p.1, ap test (sym p.1) ∙ p.0)

-- a byte that stands for a value
pub byte_takes : {A : Type 0} (test : ℕ → Option A) (byte : A → ℕ) → ((n : ℕ) (a : A) → test n ≡ Some a → n ≡ byte a) →
    Takes (tested test number_8) (Spelled (λ a. byte a ∷ []) (λ _. Unit {0}))
byte_takes test byte forth =
    weaken (tested test number_8) (tested_takes test number_8 number_8_takes)
    (λ a used t. record { same = t.of_value.same ∙ ap (λ n. n ∷ []) (forth t.value a t.passes); good = tt })

-- what is good and passes a test
record And {A : Type 0} (Good : A → Type 0) (test : A → Bool) (a : A) : Type 0 where
  good : Good a
  passes : test a ≡ true

only_takes : {A : Type 0} (test : A → Bool) (r : Field A) (bytes_of' : A → List ℕ) (Good : A → Type 0)
    → Takes r (Spelled bytes_of' Good) →
    Takes (tested (only test) r) (Spelled bytes_of' (And Good test))
only_takes test r bytes_of' Good h =
    weaken (tested (only test) r) (tested_takes (only test) r h)
    (λ a used t.
    let p = only_forth test t.value a t.passes in
    record {
      same = t.of_value.same ∙ ap bytes_of' p.0;
      good = record { good = subst Good p.0 t.of_value.good; passes = p.1 };
    })

pub join : (used front behind front' behind' : List ℕ) → used ≡ front ++ behind → front ≡ front' → behind ≡ behind'
    → used ≡ front' ++ behind'
join used front behind front' behind' a b c = cc

-- ---- names, texts, variables

pub record LongText (test : List ℕ → Bool) (text' : List ℕ) : Type 0 where
  pub passes : test text' ≡ true
  pub short : length text' < 4294967296

long_takes : (test : List ℕ → Bool)
    → Takes (and_then number_32 (λ count. tested (only test) (bytes_of count))) (Spelled text_bytes (LongText test))
unfolding text_bytes
long_takes test =
    weaken (and_then number_32 (λ count. tested (only test) (bytes_of count)))
    (then_takes number_32 (λ count. tested (only test) (bytes_of count)) number_32_takes
    (λ n. only_takes test (bytes_of n) (λ x. x) (λ x. length x ≡ n) (bytes_takes n)))
    (λ t used h. record {
      same = join used h.front h.behind (to_be_bytes w32 (length t)) t h.cut
          (h.of_first.same ∙ ap (λ n. to_be_bytes w32 n) (sym h.of_rest.good.good)) h.of_rest.same;
      good = record {
        passes = h.of_rest.good.passes;
        short = subst (λ n. n < 4294967296) (sym h.of_rest.good.good) h.of_first.good;
      };
    })

name_takes : Takes name (Spelled text_bytes (LongText is_name))
unfolding name
name_takes = long_takes is_name

text_takes : Takes text (Spelled text_bytes (LongText is_text))
unfolding text
text_takes = long_takes is_text

record VarGood (wide : Bool) (before : ℕ) (v : CodeVar) : Type 0 where
  is : IsVar v
  short : HasShortName v
  room : wide ≡ false → before + v.cells ≤ 64

room_of : (wide array : Bool) (before cells : ℕ) → are_cells wide array before cells ≡ true
    → (has_cells array cells ≡ true) × (wide ≡ false → before + cells ≤ 64)
room_of wide array before cells e =
    (left (has_cells array cells) (wide || nat_le (before + cells) 64) e, λ no_wide. right wide no_wide e)
  where
    left : (a b : Bool) → (a && b) ≡ true → a ≡ true
    left true b h = refl
    left false b h = absurd (cc)

    right : (w : Bool) → w ≡ false → (has_cells array cells && (w || nat_le (before + cells) 64)) ≡ true
        → before + cells ≤ 64
    right w narrow h = grind (arith, common_steps)

var_takes : (wide : Bool) (before : ℕ) → Takes (var wide before) (Spelled var_bytes (VarGood wide before))
unfolding var var_bytes
var_takes wide before =
    weaken (var wide before)
    (then_takes name _ name_takes (λ name'.
    then_takes (tested flag_of number_8) _ (byte_takes flag_of flag_byte flag_forth) (λ cumulative.
    then_takes (tested kind_of number_8) _ (byte_takes kind_of kind_byte kind_forth) (λ kind'.
    then_takes (tested flag_of number_8) _ (byte_takes flag_of flag_byte flag_forth) (λ array.
    then_takes (tested (only (are_cells wide array before)) number_32) _
    (only_takes (are_cells wide array before) number_32 (λ x. to_be_bytes w32 x) Is32 number_32_takes) (λ cells.
    then_takes (tested (only (is_start kind')) number_64) _
    (only_takes (is_start kind') number_64 (λ x. to_be_bytes w64 x) Is64 number_64_takes) (λ start.
    then_takes (tested (only (is_merge cumulative)) number_16) _
    (only_takes (is_merge cumulative) number_16 (λ x. to_be_bytes w16 x) Is16 number_16_takes) (λ merge.
    give_takes (record {
      name = name';
      cumulative = cumulative;
      kind = kind';
      array = array;
      cells = cells;
      start = start;
      merge = merge;
    })))))))))
    (λ v used a.
    let b = a.of_rest in
    let c = b.of_rest in
    let d = c.of_rest in
    let e = d.of_rest in
    let f = e.of_rest in
    let g = f.of_rest in
    let r = room_of wide d.first before e.first e.of_first.good.passes in
    subst (λ x. Spelled var_bytes (VarGood wide before) x used) (sym g.of_rest.same)
    (record {
      same =
          join used a.front a.behind _ _ a.cut a.of_first.same
          (join a.behind b.front b.behind _ _ b.cut b.of_first.same
          (join b.behind c.front c.behind _ _ c.cut c.of_first.same
          (join c.behind d.front d.behind _ _ d.cut d.of_first.same
          (join d.behind e.front e.behind _ _ e.cut e.of_first.same
          (join e.behind f.front f.behind _ _ f.cut f.of_first.same
          (g.cut ∙ ap (λ l. g.front ++ l) g.of_rest.none ∙ append-nil g.front ∙ g.of_first.same))))));
      good = record {
        is = record {
          name = a.of_first.good.passes;
          cells = r.0;
          cells_fit = e.of_first.good.good;
          start = f.of_first.good.passes;
          start_fits = f.of_first.good.good;
          merge = g.of_first.good.passes;
          merge_fits = g.of_first.good.good;
        };
        short = a.of_first.good.short;
        room = r.1;
      };
    }))

-- ---- lists

none_kept : {A : Type 0} → List A → Type 0
none_kept done = Unit {0}

pub record Counts {A : Type 0} (number_bytes : ℕ → List ℕ) (Small : ℕ → Type 0) (bytes_of' : A → List ℕ)
    (P : A → Type 0) (Inv : List A → Type 0) (xs : List A) (used : List ℕ) : Type 0 where
  pub same : used ≡ number_bytes (length xs) ++ flat_map bytes_of' xs
  pub few : Small (length xs)
  pub good : All P xs
  pub kept : Inv xs

pub counted_takes : {A : Type 0} (number : Field ℕ) (number_bytes : ℕ → List ℕ) (Small : ℕ → Type 0)
    (bytes_of' : A → List ℕ) (P : A → Type 0) (Inv : List A → Type 0) (part : List A → Field A)
    →
    Takes number (Spelled number_bytes Small) → Inv []
    → ((pre : List A) → Inv pre → Takes (part pre) (Part bytes_of' P Inv pre)) →
    Takes (and_then number (λ count. more count part [])) (Counts number_bytes Small bytes_of' P Inv)
counted_takes number number_bytes Small bytes_of' P Inv part head kept each =
    weaken (and_then number (λ count. more count part []))
    (then_takes number (λ count. more count part []) head (λ n. more_takes bytes_of' P Inv part each n [] kept))
    (λ xs used t.
    let r = t.of_rest in
    let l : length xs ≡ t.first = ap length r.all_of ∙ r.many in
    record {
      same = join used t.front t.behind _ _ t.cut (t.of_first.same ∙ ap number_bytes (sym l))
          (r.same ∙ ap (flat_map bytes_of') (sym r.all_of));
      few = subst Small (sym l) t.of_first.good;
      good = subst (All P) (sym r.all_of) r.good;
      kept = r.kept;
    })

-- parts of one form
pub plain_takes : {A : Type 0} (number : Field ℕ) (number_bytes : ℕ → List ℕ) (Small : ℕ → Type 0)
    (bytes_of' : A → List ℕ) (P : A → Type 0) (part : Field A)
    →
    Takes number (Spelled number_bytes Small) → Takes part (Spelled bytes_of' P) →
    Takes (and_then number (λ count. more count (λ _. part) [])) (Counts number_bytes Small bytes_of' P (λ _. Unit {0}))
plain_takes number number_bytes Small bytes_of' P part head each =
    counted_takes number number_bytes Small bytes_of' P (λ _. Unit {0}) (λ _. part) head tt
    (λ pre kept. weaken part each (λ a used t. record { same = t.same; good = t.good; next = tt }))

pub texts_takes : Takes texts (Counts (λ n. to_be_bytes w32 n) Is32 text_bytes (LongText is_text) (λ _. Unit {0}))
unfolding texts
texts_takes =
    plain_takes number_32 (λ n. to_be_bytes w32 n) Is32 text_bytes (LongText is_text) text number_32_takes text_takes

unfoldable pub room_kept : (wide : Bool) → List CodeVar → Type 0
room_kept wide done = wide ≡ false → locations done ≤ 64

unfoldable pub VarParts : (wide : Bool) → List CodeVar → List ℕ → Type 0
VarParts wide = Counts (λ n. to_be_bytes w16 n) Is16 var_bytes (λ v. IsVar v × HasShortName v) (room_kept wide)

pub vars_takes : (wide : Bool) → Takes (vars wide) (VarParts wide)
unfolding vars VarParts room_kept
vars_takes wide =
    counted_takes number_16 (λ n. to_be_bytes w16 n) Is16 var_bytes (λ v. IsVar v × HasShortName v)
    (λ done. wide ≡ false → locations done ≤ 64) (λ done. var wide (locations done)) number_16_takes (λ e. omega arith)
    (λ pre kept. weaken (var wide (locations pre)) (var_takes wide (locations pre)) (λ v used t. record {
      same = t.same;
      good = (t.good.is, t.good.short);
      next = λ narrow. subst (λ n. n ≤ 64) (sym (locations_push pre v)) (t.good.room narrow);
    }))

-- ---- layouts

record ItemAt (sort : ℕ) (item' : LayoutItem) (used : List ℕ) : Type 0 where
  same : sort ∷ used ≡ item_bytes item'
  good : IsItem item'

third_sort : (k : ℕ) → item_of (suc (suc k)) ≡ and_then number_32 (λ n. give (item.Text n))
third_sort k =
    let zeroth : nat_eq (suc (suc k)) 0 ≡ false = grind (arith, common_steps) in
    let first : nat_eq (suc (suc k)) 1 ≡ false = grind (arith, common_steps) in
    ap (λ b. if b then give item.Int else if nat_eq (suc (suc k)) 1 then give item.Bool
    else and_then number_32 (λ n. give (item.Text n)))
    zeroth
    ∙ ap (λ b. if b then give item.Bool else and_then number_32 (λ n. give (item.Text n))) first

sort_takes : (sort : ℕ) → Takes (item_of sort) (λ item' used. sort < 3 → ItemAt sort item' used)
sort_takes zero = weaken (give item.Int) (give_takes item.Int) (λ a used t below.
    record { same = ap (λ l. 0 ∷ l) t.none ∙ ap item_bytes (sym t.same); good = subst IsItem (sym t.same) tt })
sort_takes (suc zero) = weaken (give item.Bool) (give_takes item.Bool) (λ a used t below.
    record { same = ap (λ l. 1 ∷ l) t.none ∙ ap item_bytes (sym t.same); good = subst IsItem (sym t.same) tt })
sort_takes (suc (suc k)) =
    subst (λ f. Takes f (λ item' used. suc (suc k) < 3 → ItemAt (suc (suc k)) item' used)) (sym (third_sort k))
    (weaken (and_then number_32 (λ n. give (item.Text n)))
    (then_takes number_32 (λ n. give (item.Text n)) number_32_takes (λ n. give_takes (item.Text n)))
    (λ a used t below. record {
      same =
          ap (λ l. suc (suc k) ∷ l)
          (t.cut ∙ ap (λ l. t.front ++ l) t.of_rest.none ∙ append-nil t.front ∙ t.of_first.same)
          ∙ ap (λ n. n ∷ to_be_bytes w32 t.first) (let two : suc (suc k) ≡ 2 = omega arith in two)
          ∙ ap item_bytes (sym t.of_rest.same);
      good = subst IsItem (sym t.of_rest.same) t.of_first.good;
    }))

item_takes : Takes layout_item (Spelled item_bytes IsItem)
unfolding layout_item
item_takes =
    weaken (and_then (tested (only (λ n. nat_lt n 3)) number_8) item_of)
    (then_takes (tested (only (λ n. nat_lt n 3)) number_8) item_of
    (only_takes (λ n. nat_lt n 3) number_8 (λ n. n ∷ []) Is8 number_8_takes) sort_takes)
    (λ a used t.
    let low : nat_lt t.first 3 ≡ true = t.of_first.good.passes in
    let at = t.of_rest (let below : t.first < 3 = grind (arith, common_steps) in below) in
    record { same = t.cut ∙ ap (λ l. l ++ t.behind) t.of_first.same ∙ at.same; good = at.good })

pub record LayoutGood (items : List LayoutItem) : Type 0 where
  pub is : All IsItem items
  pub short : IsShortLayout items

layout_takes : Takes layout (Spelled layout_bytes LayoutGood)
unfolding layout layout_bytes
layout_takes =
    weaken (and_then number_8 (λ count. more count (λ _. layout_item) []))
    (plain_takes number_8 (λ n. n ∷ []) Is8 item_bytes IsItem layout_item number_8_takes item_takes)
    (λ a used t. record { same = t.same; good = record { is = t.good; short = t.few } })

pub layouts_takes : Takes layouts (Counts (λ n. to_be_bytes w32 n) Is32 layout_bytes LayoutGood (λ _. Unit {0}))
unfolding layouts
layouts_takes =
    plain_takes number_32 (λ n. to_be_bytes w32 n) Is32 layout_bytes LayoutGood layout number_32_takes layout_takes

-- ---- instructions

record MadeOf {A : Type 0} (make : A → Instr) (bytes_of' : A → List ℕ) (Good : A → Type 0) (x : Instr)
    (used : List ℕ) : Type 0 where
  value : A
  is : x ≡ make value
  same : used ≡ bytes_of' value
  good : Good value

made_takes : {A : Type 0} (r : Field A) (make : A → Instr) (bytes_of' : A → List ℕ) (Good : A → Type 0)
    → Takes r (Spelled bytes_of' Good) →
    Takes (and_then r (λ a. give (make a))) (MadeOf make bytes_of' Good)
made_takes r make bytes_of' Good h =
    weaken (and_then r (λ a. give (make a))) (then_takes r (λ a. give (make a)) h (λ a. give_takes (make a)))
    (λ x used t. record {
      value = t.first;
      is = t.of_rest.same;
      same = t.cut ∙ ap (λ l. t.front ++ l) t.of_rest.none ∙ append-nil t.front ∙ t.of_first.same;
      good = t.of_first.good;
    })

abbrev Made : Operand → Instr → List ℕ → Type 0
Made (Plain x) = Given x
Made (Truth make) = MadeOf make (λ b. flag_byte b ∷ []) (λ _. Unit {0})
Made (Byte make) = MadeOf make (λ n. n ∷ []) Is8
Made (Short make) = MadeOf make (λ n. to_be_bytes w16 n) Is16
Made (Long make) = MadeOf make (λ n. to_be_bytes w32 n) Is32
Made (Word make) = MadeOf make (λ n. to_be_bytes w64 n) Is64

operand_takes : (o : Operand) → Takes (with_operand o) (Made o)
operand_takes (Plain x) = give_takes x
operand_takes (Truth make) =
    made_takes (tested flag_of number_8) make (λ b. flag_byte b ∷ []) (λ _. Unit {0})
    (byte_takes flag_of flag_byte flag_forth)
operand_takes (Byte make) = made_takes number_8 make (λ n. n ∷ []) Is8 number_8_takes
operand_takes (Short make) = made_takes number_16 make (λ n. to_be_bytes w16 n) Is16 number_16_takes
operand_takes (Long make) = made_takes number_32 make (λ n. to_be_bytes w32 n) Is32 number_32_takes
operand_takes (Word make) = made_takes number_64 make (λ n. to_be_bytes w64 n) Is64 number_64_takes

-- what an instruction with this code byte and this behind it is
record At (c : ℕ) (behind : List ℕ) (x : Instr) : Type 0 where
  same : c ∷ behind ≡ instr_bytes x
  is : IsInstr x
  none : try_count x ≡ 0

abbrev Row : ℕ → Operand → Type 0
Row c (Plain x) = At c [] x
Row c (Truth make) = (b : Bool) → At c (flag_byte b ∷ []) (make b)
Row c (Byte make) = (n : ℕ) → Is8 n → At c (n ∷ []) (make n)
Row c (Short make) = (n : ℕ) → Is16 n → At c (to_be_bytes w16 n) (make n)
Row c (Long make) = (n : ℕ) → Is32 n → At c (to_be_bytes w32 n) (make n)
Row c (Word make) = (n : ℕ) → Is64 n → At c (to_be_bytes w64 n) (make n)

abbrev Rows : ℕ → List Operand → Type 0
Rows c [] = Unit {0}
Rows c (o ∷ os) = Row c o × Rows (suc c) os

word_row : WordsAndNumbersAreInverse → (w : ℕ) → Is64 w → At 0 (to_be_bytes w64 w) (i.PushInt (int_of w))
word_row words w h =
    let p = words.word w (let g : w < 2 ^ 64 = omega arith in g) in
    record { same = ap (λ n. 0 ∷ to_be_bytes w64 n) (sym p.1); is = p.0; none = refl }

all_rows : WordsAndNumbersAreInverse → Rows 0 operands
all_rows words = (
  (λ w h. word_row words w h),
  (
    (λ b. record { same = refl; is = tt; none = refl }),
    (
      record { same = refl; is = tt; none = refl },
      (
        (λ n h. record { same = refl; is = h; none = refl }),
        (
          (λ n h. record { same = refl; is = h; none = refl }),
          (
            (λ n h. record { same = refl; is = h; none = refl }),
            (
              (λ n h. record { same = refl; is = h; none = refl }),
              (
                (λ n h. record { same = refl; is = h; none = refl }),
                (
                  (λ n h. record { same = refl; is = h; none = refl }),
                  (
                    (λ n h. record { same = refl; is = h; none = refl }),
                    (
                      record { same = refl; is = tt; none = refl },
                      (
                        record { same = refl; is = tt; none = refl },
                        (
                          record { same = refl; is = tt; none = refl },
                          (
                            record { same = refl; is = tt; none = refl },
                            (
                              record { same = refl; is = tt; none = refl },
                              (
                                record { same = refl; is = tt; none = refl },
                                (
                                  record { same = refl; is = tt; none = refl },
                                  (
                                    record { same = refl; is = tt; none = refl },
                                    (
                                      record { same = refl; is = tt; none = refl },
                                      (
                                        record { same = refl; is = tt; none = refl },
                                        (
                                          record { same = refl; is = tt; none = refl },
                                          (
                                            record { same = refl; is = tt; none = refl },
                                            (
                                              record { same = refl; is = tt; none = refl },
                                              (
                                                record { same = refl; is = tt; none = refl },
                                                (
                                                  record { same = refl; is = tt; none = refl },
                                                  (
                                                    (λ n h. record { same = refl; is = h; none = refl }),
                                                    (
                                                      (λ n h. record { same = refl; is = h; none = refl }),
                                                      (
                                                        (λ n h. record { same = refl; is = h; none = refl }),
                                                        (
                                                          (λ n h. record { same = refl; is = h; none = refl }),
                                                          (
                                                            (λ n h. record { same = refl; is = h; none = refl }),
                                                            (
                                                              (λ n h. record { same = refl; is = h; none = refl }),
                                                              (
                                                                (λ n h. record { same = refl; is = h; none = refl }),
                                                                (
                                                                  record { same = refl; is = tt; none = refl },
                                                                  (
                                                                    (λ n h. record {
                                                                      same = refl;
                                                                      is = h;
                                                                      none = refl;
                                                                    }),
                                                                    (
                                                                      record { same = refl; is = tt; none = refl },
                                                                      (
                                                                        record { same = refl; is = tt; none = refl },
                                                                        (
                                                                          record { same = refl; is = tt; none = refl },
                                                                          tt,
                                                                        ),
                                                                      ),
                                                                    ),
                                                                  ),
                                                                ),
                                                              ),
                                                            ),
                                                          ),
                                                        ),
                                                      ),
                                                    ),
                                                  ),
                                                ),
                                              ),
                                            ),
                                          ),
                                        ),
                                      ),
                                    ),
                                  ),
                                ),
                              ),
                            ),
                          ),
                        ),
                      ),
                    ),
                  ),
                ),
              ),
            ),
          ),
        ),
      ),
    ),
  ),
)

row_at : (c : ℕ) (os : List Operand) (n : ℕ) (o : Operand) → Rows c os → slice_get os n ≡ Some o → Row (c + n) o
row_at c [] n o rows e = absurd (cc)
row_at c (p ∷ os) zero o rows e =
    subst (λ m. Row m o) (let z : c ≡ c + 0 = omega arith in z) (subst (Row c) (let z : p ≡ o = cc in z) rows.0)
row_at c (p ∷ os) (suc n) o rows e =
    subst (λ m. Row m o) (let z : suc c + n ≡ c + suc n = omega arith in z) (row_at (suc c) os n o rows.1 e)

at_row : (c : ℕ) (o : Operand) (x : Instr) (used : List ℕ) → Row c o → Made o x used → At c used x
at_row c (Plain y) x used row made = subst (λ u. At c u x) (sym made.none) (subst (At c []) (sym made.same) row)
at_row c (Truth make) x used row made =
    subst (λ u. At c u x) (sym made.same) (subst (At c _) (sym made.is) (row made.value))
at_row c (Byte make) x used row made =
    subst (λ u. At c u x) (sym made.same) (subst (At c _) (sym made.is) (row made.value made.good))
at_row c (Short make) x used row made =
    subst (λ u. At c u x) (sym made.same) (subst (At c _) (sym made.is) (row made.value made.good))
at_row c (Long make) x used row made =
    subst (λ u. At c u x) (sym made.same) (subst (At c _) (sym made.is) (row made.value made.good))
at_row c (Word make) x used row made =
    subst (λ u. At c u x) (sym made.same) (subst (At c _) (sym made.is) (row made.value made.good))

record InstrGood (tries' : Bool) (x : Instr) : Type 0 where
  is : IsInstr x
  may : tries' ≡ false → try_count x ≡ 0

-- byte 37, and the others
instr_at : WordsAndNumbersAreInverse → (tries' : Bool) (n : ℕ) (o : Operand) (x : Instr) (used : List ℕ) (b : Bool)
    → nat_eq n 37 ≡ b → operand_of tries' n ≡ Some o →
    (if b then (if tries' then Some (Plain i.TryJoin) else None) else slice_get operands n) ≡ Some o → Made o x used
    → Spelled instr_bytes (InstrGood tries') x (n ∷ used)
instr_at words tries' n o x used false is_37 e f made =
    let at = at_row n o x used
    (subst (λ m. Row m o) (let z : 0 + n ≡ n = omega arith in z) (row_at 0 operands n o (all_rows words) f)) made in
    record { same = at.same; good = record { is = at.is; may = λ without. at.none } }
instr_at words true n o x used true is_37 e f made =
    let z : Plain i.TryJoin ≡ o = cc in
    let m : Made (Plain i.TryJoin) x used = subst (λ p. Made p x used) (sym z) made in
    let k : n ≡ 37 = grind (arith, common_steps) in
    record {
      same = ap (λ l. n ∷ l) m.none ∙ ap (λ l. l ∷ []) k ∙ ap instr_bytes (sym m.same);
      good = record { is = subst IsInstr (sym m.same) tt; may = λ without. absurd (cc) };
    }
instr_at words false n o x used true is_37 e f made = absurd (cc)

instr_takes : WordsAndNumbersAreInverse → (tries' : Bool)
    → Takes (instr tries') (Spelled instr_bytes (InstrGood tries'))
unfolding instr
instr_takes words tries' =
    weaken (and_then (tested (operand_of tries') number_8) with_operand)
    (then_takes (tested (operand_of tries') number_8) with_operand
    (tested_takes (operand_of tries') number_8 number_8_takes) operand_takes)
    (λ x used t.
    let n = t.of_first.value in
    let at = instr_at words tries' n t.first x t.behind (nat_eq n 37) refl t.of_first.passes t.of_first.passes
    t.of_rest in
    record { same = t.cut ∙ ap (λ l. l ++ t.behind) t.of_first.of_value.same ∙ at.same; good = at.good })

unfoldable pub InstrParts : (tries' : Bool) → List Instr → List ℕ → Type 0
InstrParts tries' =
    Counts (λ n. to_be_bytes w32 n) Is32 instr_bytes IsInstr (λ done. tries' ≡ false → tries_in done ≡ 0)

pub instrs_takes : WordsAndNumbersAreInverse → (tries' : Bool) → Takes (instrs tries') (InstrParts tries')
unfolding instrs InstrParts
instrs_takes words tries' =
    counted_takes number_32 (λ n. to_be_bytes w32 n) Is32 instr_bytes IsInstr
    (λ done. tries' ≡ false → tries_in done ≡ 0) (λ _. instr tries') number_32_takes (λ without. refl)
    (λ pre kept. weaken (instr tries') (instr_takes words tries') (λ x used t. record {
      same = t.same;
      good = t.good.is;
      next = λ without.
          let a = sum_by-append try_count pre (x ∷ []) in
          let b = sum_by-cons try_count x [] in
          let c : tries_in pre ≡ 0 = kept without in
          let d : try_count x ≡ 0 = t.good.may without in
          let z : sum_by try_count [] ≡ 0 = refl in
          omega arith;
    }))
