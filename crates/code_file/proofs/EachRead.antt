-- Bytes are read as code with nothing behind it, or they have a first fault, which is not want of memory.
use Rattle.std.proofs.Common.{◌≡◌, ◌≢◌, refl, sym, subst, ℕ, zero, suc, ◌-◌, ◌++◌, ◌⊎◌, inl, inr, Bool, true, false, if◌then◌else◌, List, [], ◌∷◌, length, take, drop, nat_le}
use Rattle.std.specs.Prelude.{codes, nat_eq, Option, Some, None}
use Rattle.std.specs.Int.{w16, w32, w64, from_be_bytes}
use Rattle.std.specs.List.{starts_with}
use Rattle.rev_code.specs.declared.code.Code.{Code}
use Rattle.rev_code.specs.declared.code.LayoutItem.TheVariants as item
use Rattle.code_rules.specs.Tables.{locations}
use Rattle.code_file.specs.declared.fault.ReadFault.{ReadFault}
use Rattle.code_file.specs.declared.fault.ReadFault.TheVariants as fault
use Rattle.code_file.specs.declared.version.Version.{Version}
use Rattle.code_file.specs.Fields.{Reading, Got, Failed, Field, and_then, bytes_of, give, go_on, more, number_8, number_16, number_32, number_64, or_bad, test_by, tested}
use Rattle.code_file.specs.Parts.{Operand, Plain, Truth, Byte, Short, Long, Word, has_tries, is_wide, tries, version_of}
use Rattle.code_file.specs.Reads.{as_version, at_end, block, blocks, code_of, file, instr, instrs, layout, layout_item, layouts, locals, location_count, magic, name, or_bad_version, reading, text, texts, try_total, var, vars, version as version_field, with_operand}
use Rattle.code_file.specs.Laws.{EachIsRead}

-- ---- what fails is at fault

abbrev IsTold : ReadFault → Type 0
IsTold fault.OutOfMemory = ⊥
IsTold _ = Unit {0}

not_memory : (f : ReadFault) → IsTold f → f ≢ fault.OutOfMemory
not_memory f told is = subst (λ (e : ReadFault). IsTold e) is told

abbrev Tells : {A : Type 0} → Field A → Type 0
Tells f = (whole : ℕ) (bytes : List ℕ) (e : ReadFault) → f whole bytes ≡ Failed e → IsTold e

abbrev failed : (A : Type 0) → ReadFault → Reading A
failed A f = Failed f

abbrev passed : Unit {0}
passed = tt

same_told : {A : Type 0} (f e : ReadFault) → IsTold f → failed A f ≡ failed A e → IsTold e
same_told f e told is = let same : f ≡ e = cc in subst (λ (x : ReadFault). IsTold x) same told

-- a value where the test holds, and a fault where it does not
if_tells : {A : Type 0} (b : Bool) (a : A) (rest : List ℕ) (f e : ReadFault) → IsTold f
    → (if b then Got a rest else Failed f) ≡ Failed e → IsTold e
if_tells true a rest f e told is = absurd (cc)
if_tells false a rest f e told is = same_told f e told is

give_tells : {A : Type 0} (a : A) → Tells (give a)
give_tells a whole bytes e is = absurd (cc)

bytes_tell : (n : ℕ) → Tells (bytes_of n)
bytes_tell n whole bytes e is =
    if_tells (nat_le n (length bytes)) (take n bytes) (drop n bytes) (fault.Truncated whole) e tt is

number_8_tells : Tells number_8
number_8_tells whole [] e is = same_told (fault.Truncated whole) e tt is
number_8_tells whole (b ∷ rest) e is = absurd (cc)

number_16_tells : Tells number_16
number_16_tells whole bytes e is =
    if_tells (nat_le 2 (length bytes)) (from_be_bytes w16 (take 2 bytes)) (drop 2 bytes) (fault.Truncated whole) e tt is

number_32_tells : Tells number_32
number_32_tells whole bytes e is =
    if_tells (nat_le 4 (length bytes)) (from_be_bytes w32 (take 4 bytes)) (drop 4 bytes) (fault.Truncated whole) e tt is

number_64_tells : Tells number_64
number_64_tells whole bytes e is =
    if_tells (nat_le 8 (length bytes)) (from_be_bytes w64 (take 8 bytes)) (drop 8 bytes) (fault.Truncated whole) e tt is

then_tells : {A B : Type 0} (r : Field A) (k : A → Field B) → Tells r → ((a : A) → Tells (k a)) → Tells (and_then r k)
unfolding and_then
then_tells {A = A} {B = B} r k first next whole bytes e is = go (r whole bytes) (first whole bytes) is
  where
    go : (x : Reading A) → ((e : ReadFault) → x ≡ Failed e → IsTold e) → go_on x k whole ≡ Failed e → IsTold e
    go (Got a mid) told y = next a whole mid e y
    go (Failed f) told y = same_told f e (told f refl) y

tested_tells : {A B : Type 0} (test : A → Option B) (r : Field A) → Tells r → Tells (tested test r)
unfolding tested
tested_tells {A = A} {B = B} test r first whole bytes e is = go (r whole bytes) (first whole bytes) is
  where
    of_test : (o : Option B) (rest : List ℕ) → or_bad (whole - length bytes) o rest ≡ Failed e → IsTold e
    of_test (Some b) rest y = absurd (cc)
    of_test None rest y = same_told (fault.BadField (whole - length bytes)) e tt y

    go : (x : Reading A) → ((e : ReadFault) → x ≡ Failed e → IsTold e)
        → test_by test (whole - length bytes) x ≡ Failed e → IsTold e
    go (Got a rest) told y = of_test (test a) rest y
    go (Failed f) told y = same_told f e (told f refl) y

more_tells : {A : Type 0} (n : ℕ) (part : List A → Field A) → ((done : List A) → Tells (part done)) → (done : List A)
    → Tells (more n part done)
unfolding more
more_tells {A = A} zero part tell done whole bytes e is = absurd (cc)
more_tells {A = A} (suc n) part tell done whole bytes e is =
    go (part done whole bytes) (tell done whole bytes) (λ done'. more_tells n part tell done') is
  where
    go : (x : Reading A) → ((e : ReadFault) → x ≡ Failed e → IsTold e) → ((done' : List A) → Tells (more n part done'))
        → go_on x (λ a. more n part (done ++ (a ∷ []))) whole ≡ Failed e → IsTold e
    go (Got a mid) told rest y = rest (done ++ (a ∷ [])) whole mid e y
    go (Failed f) told rest y = same_told f e (told f refl) y

-- ---- field by field

magic_tells : Tells magic
magic_tells whole bytes e is = go (starts_with nat_eq bytes (codes "REVC")) (starts_with nat_eq (codes "REVC") bytes) is
  where
    go : (a b : Bool)
        → (if a then Got passed (drop 4 bytes) else if b then Failed (fault.Truncated whole) else Failed fault.BadMagic)
        ≡ Failed e
        → IsTold e
    go true b y = absurd (cc)
    go false true y = same_told (fault.Truncated whole) e tt y
    go false false y = same_told fault.BadMagic e tt y

version_tells : Tells version_field
version_tells whole bytes e is = go (number_16 whole bytes) (number_16_tells whole bytes) is
  where
    of_number : (o : Option Version) (rest : List ℕ) → or_bad_version o rest ≡ Failed e → IsTold e
    of_number (Some v) rest y = absurd (cc)
    of_number None rest y = same_told fault.BadVersion e tt y

    go : (x : Reading ℕ) → ((e : ReadFault) → x ≡ Failed e → IsTold e) → as_version x ≡ Failed e → IsTold e
    go (Got n rest) told y = of_number (version_of n) rest y
    go (Failed f) told y = same_told f e (told f refl) y

name_tells : Tells name
unfolding name
name_tells = then_tells number_32 _ number_32_tells (λ n. tested_tells _ _ (bytes_tell n))

var_tells : (wide : Bool) (before : ℕ) → Tells (var wide before)
unfolding var
var_tells wide before =
    then_tells name _ name_tells (λ _.
    then_tells _ _ (tested_tells _ _ number_8_tells) (λ _.
    then_tells _ _ (tested_tells _ _ number_8_tells) (λ _.
    then_tells _ _ (tested_tells _ _ number_8_tells) (λ _.
    then_tells _ _ (tested_tells _ _ number_32_tells) (λ _.
    then_tells _ _ (tested_tells _ _ number_64_tells) (λ _.
    then_tells _ _ (tested_tells _ _ number_16_tells) (λ _.
    give_tells _)))))))

vars_tell : (wide : Bool) → Tells (vars wide)
unfolding vars
vars_tell wide =
    then_tells number_16 _ number_16_tells
    (λ n. more_tells n (λ done. var wide (locations done)) (λ done. var_tells wide (locations done)) [])

location_count_tells : (wide : Bool) (sum : ℕ) → Tells (location_count wide sum)
unfolding location_count
location_count_tells true sum = tested_tells _ _ number_32_tells
location_count_tells false sum = give_tells passed

text_tells : Tells text
unfolding text
text_tells = then_tells number_32 _ number_32_tells (λ n. tested_tells _ _ (bytes_tell n))

texts_tell : Tells texts
unfolding texts
texts_tell = then_tells number_32 _ number_32_tells (λ n. more_tells n (λ _. text) (λ _. text_tells) [])

layout_item_tells : Tells layout_item
unfolding layout_item
layout_item_tells = then_tells _ _ (tested_tells _ _ number_8_tells) (λ sort. go (nat_eq sort 0) (nat_eq sort 1))
  where
    go : (a b : Bool)
        → Tells
        (if a then give item.Int else if b then give item.Bool else and_then number_32 (λ n. give (item.Text n)))
    go true b = give_tells item.Int
    go false true = give_tells item.Bool
    go false false = then_tells number_32 _ number_32_tells (λ n. give_tells (item.Text n))

layout_tells : Tells layout
unfolding layout
layout_tells = then_tells number_8 _ number_8_tells (λ n. more_tells n (λ _. layout_item) (λ _. layout_item_tells) [])

layouts_tell : Tells layouts
unfolding layouts
layouts_tell = then_tells number_32 _ number_32_tells (λ n. more_tells n (λ _. layout) (λ _. layout_tells) [])

operand_tells : (o : Operand) → Tells (with_operand o)
operand_tells (Plain i) = give_tells i
operand_tells (Truth make) = then_tells _ _ (tested_tells _ _ number_8_tells) (λ b. give_tells (make b))
operand_tells (Byte make) = then_tells number_8 _ number_8_tells (λ n. give_tells (make n))
operand_tells (Short make) = then_tells number_16 _ number_16_tells (λ n. give_tells (make n))
operand_tells (Long make) = then_tells number_32 _ number_32_tells (λ n. give_tells (make n))
operand_tells (Word make) = then_tells number_64 _ number_64_tells (λ n. give_tells (make n))

instr_tells : (may_try : Bool) → Tells (instr may_try)
unfolding instr
instr_tells may_try = then_tells _ _ (tested_tells _ _ number_8_tells) operand_tells

instrs_tell : (may_try : Bool) → Tells (instrs may_try)
unfolding instrs
instrs_tell may_try =
    then_tells number_32 _ number_32_tells (λ n. more_tells n (λ _. instr may_try) (λ _. instr_tells may_try) [])

locals_tell : Tells locals
unfolding locals
locals_tell = then_tells number_8 _ number_8_tells (λ n. more_tells n _ (λ _. tested_tells _ _ number_8_tells) [])

block_tells : (may_try : Bool) → Tells (block may_try)
unfolding block
block_tells may_try =
    then_tells _ _ (tested_tells _ _ number_8_tells) (λ _.
    then_tells number_8 _ number_8_tells (λ _.
    then_tells _ _ (tested_tells _ _ number_8_tells) (λ _.
    then_tells locals _ locals_tell (λ _.
    then_tells (instrs may_try) _ (instrs_tell may_try) (λ _.
    give_tells _)))))

blocks_tell : (may_try : Bool) → Tells (blocks may_try)
unfolding blocks
blocks_tell may_try =
    then_tells number_16 _ number_16_tells (λ n. more_tells n (λ _. block may_try) (λ _. block_tells may_try) [])

try_total_tells : (may_try wide : Bool) (sum : ℕ) → Tells (try_total may_try wide sum)
unfolding try_total
try_total_tells true wide sum = tested_tells _ _ number_32_tells
try_total_tells false wide sum = give_tells passed

code_tells : (wide may_try : Bool) → Tells (code_of wide may_try)
unfolding code_of
code_tells wide may_try =
    then_tells (vars wide) _ (vars_tell wide) (λ vars'.
    then_tells (location_count wide (locations vars')) _ (location_count_tells wide (locations vars')) (λ _.
    then_tells texts _ texts_tell (λ _.
    then_tells layouts _ layouts_tell (λ _.
    then_tells (blocks may_try) _ (blocks_tell may_try) (λ blocks'.
    then_tells (try_total may_try wide (tries blocks')) _ (try_total_tells may_try wide (tries blocks')) (λ _.
    give_tells _))))))

end_tells : Tells at_end
end_tells whole [] e is = absurd (cc)
end_tells whole (b ∷ bytes) e is = same_told (fault.Trailing (whole - length (b ∷ bytes))) e tt is

file_tells : Tells file
unfolding file
file_tells =
    then_tells magic _ magic_tells (λ _.
    then_tells version_field _ version_tells (λ v.
    then_tells (code_of (is_wide v) (has_tries v)) _ (code_tells (is_wide v) (has_tries v)) (λ code'.
    then_tells at_end _ end_tells (λ _.
    give_tells code'))))

-- ---- behind what is read whole nothing is left

abbrev LeavesNone : {A : Type 0} → Field A → Type 0
LeavesNone {A = A} f = (whole : ℕ) (bytes : List ℕ) (a : A) (rest : List ℕ) → f whole bytes ≡ Got a rest → rest ≡ []

then_leaves_none : {A B : Type 0} (r : Field A) (k : A → Field B) → ((a : A) → LeavesNone (k a))
    → LeavesNone (and_then r k)
unfolding and_then
then_leaves_none {A = A} {B = B} r k next whole bytes b rest is = go (r whole bytes) is
  where
    go : (x : Reading A) → go_on x k whole ≡ Got b rest → rest ≡ []
    go (Got a mid) y = next a whole mid b rest y
    go (Failed f) y = absurd (cc)

end_leaves_none : (code : Code) → LeavesNone (and_then at_end (λ _. give code))
unfolding and_then
end_leaves_none code whole [] a rest is = let y : [] ≡ rest = cc in sym y
end_leaves_none code whole (b ∷ bytes) a rest is = absurd (cc)

file_leaves_none : LeavesNone file
unfolding file
file_leaves_none =
    then_leaves_none magic _ (λ _.
    then_leaves_none version_field _ (λ v.
    then_leaves_none (code_of (is_wide v) (has_tries v)) _ (λ code'.
    end_leaves_none code')))

pub each_read : EachIsRead
each_read bytes = go (reading bytes) refl
  where
    go : (x : Reading Code) → reading bytes ≡ x
        → ((code : Code) × (reading bytes ≡ Got code []))
        ⊎ ((f : ReadFault) × (reading bytes ≡ Failed f) × (f ≢ fault.OutOfMemory))
    go (Got code rest) is = inl (
      code,
      subst (λ (r : List ℕ). reading bytes ≡ Got code r) (file_leaves_none (length bytes) bytes code rest is) is,
    )
    go (Failed f) is = inr (f, is, not_memory f (file_tells (length bytes) bytes f is))
