-- What words say.
use Rattle.std.specs.Prelude.{ℕ, ◌≤◌, Bool, false, ◌&&◌, List, [], ◌∷◌, length, Option, Some, None, codes, if◌then◌else◌, nat_le, unwrap_or, option_and_then}
use Rattle.std.specs.List.{find}
use Rattle.std.specs.Str.{bytes_eq}
use Rattle.std.specs.Str.Parse.{digits_value, without_leading_plus}
use Rattle.clap.specs.Words.{Row, Text, all_of, fault_of, first_of, matches_of}
use Rattle.clap.specs.Walk.{is_empty}
use Rattle.clap.specs.ValueTests.{accepts}
use Rattle.clap.specs.declared.builder.ValueParser.TheVariants as vp
use Rattle.rev_num.specs.Decimal.{decimal_in}
use Rattle.rev_num.specs.Limits.{most_fuel}
use Rattle.rev_words.specs.Command.{command}
use Rattle.rev_words.specs.Each.{few_said, parts_said}
use Rattle.rev_words.specs.Schedule.{entry_in}
use Rattle.rev_words.specs.declared.Mode.{Mode}
use Rattle.rev_words.specs.declared.Mode.TheVariants as modes
use Rattle.rev_words.specs.declared.Words.{Words}

-- ---- the rules of the single values

-- the name of a mode
abbrev pub mode_name : Mode → Text
mode_name modes.Run = codes "run"
mode_name modes.Check = codes "check"
mode_name modes.Load = codes "load"
mode_name modes.Dis = codes "dis"
mode_name modes.Exec = codes "exec"
mode_name modes.Emit = codes "emit"
mode_name modes.Trace = codes "trace"
mode_name modes.Audit = codes "audit"
mode_name modes.Replay = codes "replay"
mode_name modes.Order = codes "order"
mode_name modes.Stream = codes "stream"
mode_name modes.Repeat = codes "repeat"

-- the modes that are built
abbrev pub all_modes : List Mode
all_modes =
    modes.Run ∷ modes.Check ∷ modes.Load ∷ modes.Dis ∷ modes.Exec ∷ modes.Emit ∷ modes.Trace ∷ modes.Audit ∷
    modes.Replay ∷ modes.Order ∷ modes.Stream ∷ modes.Repeat ∷ []

abbrev pub mode_named : Text → Option Mode
mode_named text = find (λ m. bytes_eq text (mode_name m)) all_modes

-- a number that the command takes for an option: digits in 64 bits, before which a plus may stand
abbrev pub natural_of : Text → Option ℕ
natural_of text = if accepts false (vp.Unsigned 0 18446744073709551615) text
    then Some (digits_value 10 (without_leading_plus text)) else None

abbrev pub within : ℕ → ℕ → ℕ → Option ℕ
within least most n = if nat_le least n && nat_le n most then Some n else None

-- the number of an option, from `least` to `most`, or its default where the option is not used
abbrev pub setting : ℕ → ℕ → ℕ → Option Text → Option ℕ
setting least most default None = Some default
setting least most default (Some text) = option_and_then (within least most) (natural_of text)

abbrev pub is_flagged : Option Text → Bool
is_flagged None = false
is_flagged (Some text) = bytes_eq text (codes "true")

-- ---- the whole

-- each step of a reading takes what the steps before it gave
infixl 10 ◌>>=◌
abbrev pub ◌>>=◌ : {A B : Type 0} → Option A → (A → Option B) → Option B
None >>= f = None
(Some x) >>= f = f x

-- what the rows that the command found say
abbrev pub said : List Row → Option Words
said rows = do
  mode ← option_and_then mode_named (first_of (codes "mode") rows)
  numbers ← few_said 1024 decimal_in (unwrap_or (all_of (codes "numbers") rows) [])
  workers ← setting 1 64 4 (first_of (codes "workers") rows)
  segments ← setting 0 65536 1024 (first_of (codes "segments") rows)
  fuel ← setting 1 most_fuel 1000000000 (first_of (codes "fuel") rows)
  share ← setting 0 most_fuel 1000000 (first_of (codes "share") rows)
  schedule ← parts_said 65536 entry_in (unwrap_or (first_of (codes "schedule") rows) [])
  before ← parts_said 1024 decimal_in (unwrap_or (first_of (codes "before") rows) [])
  seed ← setting 0 2147483647 1 (first_of (codes "seed") rows)
  size ← setting 1 500 200 (first_of (codes "size") rows)
  Some (record {
    mode = mode;
    numbers = numbers;
    workers = workers;
    segments = segments;
    fuel = fuel;
    share = share;
    values = is_flagged (first_of (codes "values") rows);
    schedule = schedule;
    before = before;
    seed = seed;
    size = size;
  })

-- the command takes the words: no step of its parse is at fault
abbrev pub is_taken : List Text → Bool
is_taken words = is_empty (fault_of command words)

-- what the words say, where the command takes them and each value keeps its rule
abbrev pub reading : List Text → Option Words
reading words = if is_taken words then said (matches_of command words) else None

-- ---- what a caller can rely on

pub record KeepsRanges (w : Words) : Type 0 where
  pub numbers : length w.numbers ≤ 1024
  pub workers : (1 ≤ w.workers) × (w.workers ≤ 64)
  pub segments : w.segments ≤ 65536
  pub fuel : (1 ≤ w.fuel) × (w.fuel ≤ most_fuel)
  pub share : w.share ≤ most_fuel
  pub schedule : length w.schedule ≤ 65536
  pub before : length w.before ≤ 1024
  pub seed : w.seed ≤ 2147483647
  pub size : (1 ≤ w.size) × (w.size ≤ 500)
