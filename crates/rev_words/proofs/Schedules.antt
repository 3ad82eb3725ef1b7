-- The text of a schedule is read exactly where the grammar has it.
use Rattle.std.proofs.Common.{◌≡◌, ◌∙◌, sym, ap, subst, ℕ, ◌<◌, ◌≤◌, ◌^◌, Bool, true, false, List, [], ◌∷◌, length, map, refl, arith, rules, length-append}
use Rattle.std.specs.Prelude.{Option, Some, None, All, nat_le, nat_lt, ◌==◌, if◌then◌else◌, option_and_then, option_map}
use Rattle.std.specs.Char.{IsAsciiDigit}
use Rattle.std.specs.List.{join_with_byte, slice_split}
use Rattle.std.proofs.lemmas.List.{length-map}
use Rattle.std.proofs.lemmas.List.Elements.{All-cons, All-head, All-nil, All-tail, All-weaker}
use Rattle.std.proofs.lemmas.List.Splits.{join_with_byte-slice_split, slice_split_at, slice_split_none}
use Rattle.rev_num.specs.Decimal.{IsDigits, is_digits, spelled}
use Rattle.rev_num.proofs.Decimals.{digits_pass, digits_tested, both_guards}
use Rattle.rev_words.specs.Schedule.{IsSchedule, SchedulesAreExact, entry_in, entries_in, few_entries_in, schedule_in}

abbrev IsSmall : ℕ → Type 0
IsSmall n = n < 2 ^ 32

abbrev AreDigits : List ℕ → Type 0
AreDigits ds = IsDigits ds

-- ---- one entry

-- the digits spell the entry, which 32 bits hold
pub record IsEntry (ds : List ℕ) (n : ℕ) : Type 0 where
  pub digits : IsDigits ds
  pub value : n ≡ spelled ds
  pub small : n < 2 ^ 32

entry_is : (ds : List ℕ) (n : ℕ) → entry_in ds ≡ Some n → IsEntry ds n
entry_is ds n h =
    let guards = both_guards (is_digits ds) (nat_lt (spelled ds) (2 ^ 32)) (spelled ds) n h in
    record { digits = digits_tested ds guards.0; value = guards.2; small = grind (arith, rules, guards.1, guards.2) }

entry_read : (ds : List ℕ) → IsDigits ds → spelled ds < 2 ^ 32 → entry_in ds ≡ Some (spelled ds)
entry_read ds digits small =
    let fits : nat_lt (spelled ds) (2 ^ 32) ≡ true = grind (arith, rules) in rw (digits_pass ds digits, fits)

-- ---- the entries

pub record AreEntries (parts : List (List ℕ)) (entries : List ℕ) : Type 0 where
  pub digits : All (λ ds. IsDigits ds) parts
  pub values : entries ≡ map spelled parts
  pub small : All (λ n. n < 2 ^ 32) entries

entries_are : (parts : List (List ℕ)) (entries : List ℕ) → entries_in parts ≡ Some entries → AreEntries parts entries
entries_are [] entries h =
    let is : entries ≡ [] = grind (arith, rules) in
    record { digits = All-nil AreDigits; values = is; small = subst (All IsSmall) (sym is) (All-nil IsSmall) }
entries_are (ds ∷ parts) entries h = go (entry_in ds) refl (entries_in parts) refl (entries_are parts) h
  where
    go : (o : Option ℕ) → entry_in ds ≡ o → (r : Option (List ℕ)) → entries_in parts ≡ r
        → ((ns : List ℕ) → entries_in parts ≡ Some ns → AreEntries parts ns)
        → option_and_then (λ n. option_map (λ ns. n ∷ ns) r) o ≡ Some entries → AreEntries (ds ∷ parts) entries
    go None first r rest later is = grind (arith, rules)
    go (Some n) first None rest later is = grind (arith, rules)
    go (Some n) first (Some ns) rest later is =
        let one = entry_is ds n first in
        let more = later ns rest in
        let both : entries ≡ n ∷ ns = grind (arith, rules) in
        record {
          digits = All-cons AreDigits ds parts one.digits more.digits;
          values = both ∙ (λ i. one.value i ∷ more.values i);
          small = subst (All IsSmall) (sym both) (All-cons IsSmall n ns one.small more.small);
        }

entries_read : (parts : List (List ℕ)) → All (λ ds. IsDigits ds) parts → All (λ n. n < 2 ^ 32) (map spelled parts)
    → entries_in parts ≡ Some (map spelled parts)
entries_read [] digits small = refl
entries_read (ds ∷ parts) digits small =
    let first =
    entry_read ds (All-head AreDigits ds parts digits) (All-head IsSmall (spelled ds) (map spelled parts) small) in
    let rest =
    entries_read parts (All-tail AreDigits ds parts digits) (All-tail IsSmall (spelled ds) (map spelled parts) small) in
    rw (first, rest)

-- ---- the parts

pub no_comma : (ds : List ℕ) → IsDigits ds → All (λ b. (b == 44) ≡ false) ds
no_comma ds h = All-weaker IsAsciiDigit (λ b. (b == 44) ≡ false) (λ b digit. grind (arith, rules, digit)) ds h.each

split_join : (ds : List ℕ) (parts : List (List ℕ)) → All (λ p. IsDigits p) (ds ∷ parts)
    → slice_split (λ b. b == 44) (join_with_byte 44 (ds ∷ parts)) ≡ ds ∷ parts
split_join ds [] digits = slice_split_none (λ b. b == 44) ds (no_comma ds (All-head AreDigits ds [] digits))
split_join ds (es ∷ parts) digits =
    slice_split_at (λ b. b == 44) ds 44 (join_with_byte 44 (es ∷ parts))
    (no_comma ds (All-head AreDigits ds (es ∷ parts) digits)) refl
    ∙ ap (λ ps. ds ∷ ps) (split_join es parts (All-tail AreDigits ds (es ∷ parts) digits))

-- ---- the whole

pub few_is : {A : Type 0} (b : Bool) (o : Option A) (ns : A) → (if b then o else None) ≡ Some ns
    → (b ≡ true) × (o ≡ Some ns)
few_is true o ns h = (refl, h)
few_is false o ns h = grind (arith, rules)

pub schedule_is : (text entries : List ℕ) → schedule_in text ≡ Some entries → IsSchedule text entries
schedule_is [] entries h =
    let is : entries ≡ [] = grind (arith, rules) in
    record {
      numerals = [];
      joined = refl;
      digits = All-nil AreDigits;
      values = is;
      small = subst (All IsSmall) (sym is) (All-nil IsSmall);
      few = subst (λ ns. length ns ≤ 65536) (sym is) (omega arith);
    }
schedule_is (c ∷ cs) entries h =
    let parts = slice_split (λ b. b == 44) (c ∷ cs) in
    let few = few_is (nat_le (length parts) 65536) (entries_in parts) entries h in
    let are = entries_are parts entries few.1 in
    let bound : length parts ≤ 65536 = grind (arith, rules, few.0) in
    record {
      numerals = parts;
      joined = sym (join_with_byte-slice_split 44 (c ∷ cs));
      digits = are.digits;
      values = are.values;
      small = are.small;
      few = subst (λ ns. length ns ≤ 65536) (sym are.values) (omega (arith, length-map parts spelled, bound));
    }

pub join_some : (ds : List ℕ) (parts : List (List ℕ)) → 0 < length ds → 0 < length (join_with_byte 44 (ds ∷ parts))
join_some ds [] some = some
join_some ds (es ∷ parts) some = omega (arith, some, length-append ds (44 ∷ join_with_byte 44 (es ∷ parts)))

schedule_some : (text : List ℕ) → 0 < length text → schedule_in text ≡ few_entries_in (slice_split (λ b. b == 44) text)
schedule_some [] some = absurd (omega arith)
schedule_some (c ∷ cs) some = refl

-- what the numerals with commas between them are read as
joined_read : (numerals : List (List ℕ)) → All AreDigits numerals → All IsSmall (map spelled numerals)
    → length (map spelled numerals) ≤ 65536
    → schedule_in (join_with_byte 44 numerals) ≡ Some (map spelled numerals)
joined_read [] digits small few = refl
joined_read (ds ∷ parts) digits small few =
    let some = (All-head AreDigits ds parts digits).some in
    let bound : nat_le (length (ds ∷ parts)) 65536 ≡ true = grind (arith, rules, few, length-map parts spelled) in
    let read : few_entries_in (ds ∷ parts) ≡ Some (map spelled (ds ∷ parts)) =
    rw bound (entries_read (ds ∷ parts) digits small) in
    schedule_some (join_with_byte 44 (ds ∷ parts)) (join_some ds parts some)
    ∙ ap few_entries_in (split_join ds parts digits)
    ∙ read

schedule_read : (text entries : List ℕ) → IsSchedule text entries → schedule_in text ≡ Some entries
schedule_read text entries h =
    ap schedule_in h.joined
    ∙ joined_read h.numerals h.digits (subst (All IsSmall) h.values h.small)
    (subst (λ ns. length ns ≤ 65536) h.values h.few)
    ∙ ap Some (sym h.values)

pub exact : SchedulesAreExact
exact = λ text entries. (schedule_is text entries, schedule_read text entries)
