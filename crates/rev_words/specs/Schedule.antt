-- The text of a schedule: numbers of one or more digits with one comma between two of them.
use Rattle.std.specs.Prelude.{◌≡◌, ◌↔◌, ℕ, ◌^◌, ◌<◌, ◌≤◌, ◌&&◌, List, length, map, All, nat_lt, if◌then◌else◌, Option, Some, None}
use Rattle.std.specs.List.{join_with_byte}
use Rattle.rev_words.specs.Each.{each_said, few_said, parts_said}
use Rattle.rev_num.specs.Decimal.{IsDigits, is_digits, spelled}

-- ---- the grammar

-- the text spells these entries, and none for the empty text
pub record IsSchedule (text entries : List ℕ) : Type 0 where
  pub numerals : List (List ℕ)
  pub joined : text ≡ join_with_byte 44 numerals
  pub digits : All (λ ds. IsDigits ds) numerals
  pub values : entries ≡ map spelled numerals
  pub small : All (λ n. n < 2 ^ 32) entries
  pub few : length entries ≤ 65536

-- ---- the same as a function

-- the number that digits spell, if 32 bits hold it
abbrev pub entry_in : List ℕ → Option ℕ
entry_in ds = if is_digits ds && nat_lt (spelled ds) (2 ^ 32) then Some (spelled ds) else None

-- the entries that the parts spell, if each spells one
abbrev pub entries_in : List (List ℕ) → Option (List ℕ)
entries_in parts = each_said entry_in parts

abbrev pub few_entries_in : List (List ℕ) → Option (List ℕ)
few_entries_in parts = few_said 65536 entry_in parts

-- the entries that a text spells
abbrev pub schedule_in : List ℕ → Option (List ℕ)
schedule_in text = parts_said 65536 entry_in text

-- the function is exact for the grammar
abbrev pub SchedulesAreExact : Type 0
SchedulesAreExact = (text entries : List ℕ) → (schedule_in text ≡ Some entries) ↔ IsSchedule text entries
