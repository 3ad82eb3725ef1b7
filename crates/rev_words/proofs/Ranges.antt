-- What is read keeps its ranges.
use Rattle.std.proofs.Common.{◌≡◌, subst, ℕ, ◌≤◌, Bool, true, false, List, [], ◌∷◌, length, refl, arith, rules}
use Rattle.std.specs.Prelude.{ℤ, Option, Some, None, Result, Ok, Err, IfOk, codes, nat_le, ◌&&◌, if◌then◌else◌, option_and_then, option_map, unwrap_or}
use Rattle.clap.specs.Words.{Row, Text, all_of, first_of, matches_of}
use Rattle.rev_num.specs.Decimal.{decimal_in}
use Rattle.rev_num.specs.Limits.{most_fuel}
use Rattle.rev_words.specs.Answer.{Gives}
use Rattle.rev_words.specs.Command.{command}
use Rattle.rev_words.specs.Each.{each_said}
use Rattle.rev_words.specs.Numbers.{few_numbers_in, list_in}
use Rattle.rev_words.specs.Reading.{◌>>=◌, KeepsRanges, is_flagged, is_taken, mode_named, natural_of, reading, said, setting, within}
use Rattle.rev_words.specs.Schedule.{schedule_in}
use Rattle.rev_words.specs.declared.Mode.{Mode}
use Rattle.rev_words.specs.declared.Words.{Words}
use Rattle.rev_words.specs.declared.fault.WordsFault.{WordsFault}
use Rattle.rev_words.specs.declared.fault.WordsFault.TheVariants as faults
use Rattle.rev_words.proofs.Lists.{numbers_are}
use Rattle.rev_words.proofs.Schedules.{schedule_is}

within_bounds : (least most m n : ℕ) → within least most m ≡ Some n → (least ≤ n) × (n ≤ most)
within_bounds least most m n h = go (nat_le least m) refl (nat_le m most) refl h
  where
    go : (a : Bool) → nat_le least m ≡ a → (b : Bool) → nat_le m most ≡ b → (if a && b then Some m else None) ≡ Some n
        → (least ≤ n) × (n ≤ most)
    go true low true high is = let same : m ≡ n = grind (arith, rules) in (grind (arith, rules), grind (arith, rules))
    go true low false high is = grind (arith, rules)
    go false low b high is = grind (arith, rules)

setting_bounds : (least most default : ℕ) (o : Option Text) (n : ℕ) → least ≤ default → default ≤ most
    → setting least most default o ≡ Some n → (least ≤ n) × (n ≤ most)
setting_bounds least most default None n low high h =
    let same : default ≡ n = grind (arith, rules) in (omega (arith, same), omega (arith, same))
setting_bounds least most default (Some text) n low high h = go (natural_of text) h
  where
    go : (o : Option ℕ) → option_and_then (within least most) o ≡ Some n → (least ≤ n) × (n ≤ most)
    go None is = grind (arith, rules)
    go (Some m) is = within_bounds least most m n is

each_length : {A B : Type 0} (f : A → Option B) (xs : List A) (ys : List B) → each_said f xs ≡ Some ys
    → length ys ≡ length xs
each_length f [] ys h = grind (arith, rules)
each_length {A} {B} f (x ∷ xs) ys h = go (f x) (each_said f xs) refl (each_length f xs) h
  where
    go : (o : Option B) (r : Option (List B)) → each_said f xs ≡ r
        → ((zs : List B) → each_said f xs ≡ Some zs → length zs ≡ length xs)
        → option_and_then (λ y. option_map (λ zs. y ∷ zs) r) o ≡ Some ys → length ys ≡ length (x ∷ xs)
    go None r rest later is = grind (arith, rules)
    go (Some y) None rest later is = grind (arith, rules)
    go (Some y) (Some zs) rest later is =
        let both : ys ≡ y ∷ zs = grind (arith, rules) in
        let same = later zs rest in rw both (omega (arith, same))

numbers_bound : (texts : List Text) (ns : List ℤ) → few_numbers_in texts ≡ Some ns → length ns ≤ 1024
numbers_bound texts ns h = go (nat_le (length texts) 1024) refl h
  where
    go : (b : Bool) → nat_le (length texts) 1024 ≡ b → (if b then each_said decimal_in texts else None) ≡ Some ns
        → length ns ≤ 1024
    go true few is = let same = each_length decimal_in texts ns is in grind (arith, rules, few, same)
    go false few is = grind (arith, rules)

schedule_bound : (o : Option Text) (ns : List ℕ) → schedule_in (unwrap_or o []) ≡ Some ns → length ns ≤ 65536
schedule_bound None ns h =
    let same : Some [] ≡ Some ns = h in let none : ns ≡ [] = grind (arith, rules) in rw none (omega arith)
schedule_bound (Some text) ns h = (schedule_is text ns h).few

before_bound : (o : Option Text) (ns : List ℤ) → list_in (unwrap_or o []) ≡ Some ns → length ns ≤ 1024
before_bound None ns h =
    let same : Some [] ≡ Some ns = h in let none : ns ≡ [] = grind (arith, rules) in rw none (omega arith)
before_bound (Some text) ns h = (numbers_are text ns h).few

-- the values of the settings, one after another
abbrev assembled : Option Mode → Option (List ℤ) → Option ℕ → Option ℕ → Option ℕ → Option ℕ → Option (List ℕ)
    → Option (List ℤ) → Option ℕ → Option ℕ → Bool → Option Words
assembled o ns ws ss fs hs es bs ds zs values = do
  mode ← o
  numbers ← ns
  workers ← ws
  segments ← ss
  fuel ← fs
  share ← hs
  schedule ← es
  before ← bs
  seed ← ds
  size ← zs
  Some (record {
    mode = mode;
    numbers = numbers;
    workers = workers;
    segments = segments;
    fuel = fuel;
    share = share;
    values = values;
    schedule = schedule;
    before = before;
    seed = seed;
    size = size;
  })

-- a value that lies within bounds where it is there
abbrev Lies : ℕ → ℕ → Option ℕ → Type 0
Lies least most o = (n : ℕ) → o ≡ Some n → (least ≤ n) × (n ≤ most)

-- where a chain of values ends with one, the first of them is there, and so does the rest
value_said : {A B : Type 0} (o : Option A) (f : A → Option B) (w : B) → o >>= f ≡ Some w
    → (x : A) × (o ≡ Some x) × (f x ≡ Some w)
value_said None f w h = absurd cc
value_said (Some x) f w h = (x, refl, h)

assembled_keeps : (o : Option Mode) (ns : Option (List ℤ)) (ws ss fs hs : Option ℕ) (es : Option (List ℕ))
    (bs : Option (List ℤ)) (ds zs : Option ℕ) (values : Bool) (w : Words)
    → ((l : List ℤ) → ns ≡ Some l → length l ≤ 1024) → Lies 1 64 ws → Lies 0 65536 ss → Lies 1 most_fuel fs
    → Lies 0 most_fuel hs
    → ((l : List ℕ) → es ≡ Some l → length l ≤ 65536) → ((l : List ℤ) → bs ≡ Some l → length l ≤ 1024)
    → Lies 0 2147483647 ds → Lies 1 500 zs
    → assembled o ns ws ss fs hs es bs ds zs values ≡ Some w → KeepsRanges w
assembled_keeps o ns ws ss fs hs es bs ds zs values w numbers_in workers_in segments_in fuel_in share_in schedule_in
    before_in seed_in size_in h =
    let mode = value_said o _ w h in
    let numbers = value_said ns _ w mode.2 in
    let workers = value_said ws _ w numbers.2 in
    let segments = value_said ss _ w workers.2 in
    let fuel = value_said fs _ w segments.2 in
    let share = value_said hs _ w fuel.2 in
    let schedule = value_said es _ w share.2 in
    let before = value_said bs _ w schedule.2 in
    let seed = value_said ds _ w before.2 in
    let size = value_said zs _ w seed.2 in
    subst (λ v. KeepsRanges v) (some_is _ _ size.2) (record {
      numbers = numbers_in numbers.0 numbers.1;
      workers = workers_in workers.0 workers.1;
      segments = (segments_in segments.0 segments.1).1;
      fuel = fuel_in fuel.0 fuel.1;
      share = (share_in share.0 share.1).1;
      schedule = schedule_in schedule.0 schedule.1;
      before = before_in before.0 before.1;
      seed = (seed_in seed.0 seed.1).1;
      size = size_in size.0 size.1;
    })
  where
    some_is : (v x : Words) → Some v ≡ Some x → v ≡ x
    some_is v x is = cc

said_keeps : (rows : List Row) (w : Words) → said rows ≡ Some w → KeepsRanges w
said_keeps rows w h =
    assembled_keeps
    (option_and_then mode_named (first_of (codes "mode") rows))
    (few_numbers_in (unwrap_or (all_of (codes "numbers") rows) []))
    (setting 1 64 4 (first_of (codes "workers") rows))
    (setting 0 65536 1024 (first_of (codes "segments") rows))
    (setting 1 most_fuel 1000000000 (first_of (codes "fuel") rows))
    (setting 0 most_fuel 1000000 (first_of (codes "share") rows))
    (schedule_in (unwrap_or (first_of (codes "schedule") rows) []))
    (list_in (unwrap_or (first_of (codes "before") rows) []))
    (setting 0 2147483647 1 (first_of (codes "seed") rows))
    (setting 1 500 200 (first_of (codes "size") rows))
    (is_flagged (first_of (codes "values") rows))
    w
    (numbers_bound (unwrap_or (all_of (codes "numbers") rows) []))
    (λ n. setting_bounds 1 64 4 (first_of (codes "workers") rows) n (omega arith) (omega arith))
    (λ n. setting_bounds 0 65536 1024 (first_of (codes "segments") rows) n (omega arith) (omega arith))
    (λ n. setting_bounds 1 most_fuel 1000000000 (first_of (codes "fuel") rows) n (omega arith) (omega arith))
    (λ n. setting_bounds 0 most_fuel 1000000 (first_of (codes "share") rows) n (omega arith) (omega arith))
    (schedule_bound (first_of (codes "schedule") rows))
    (before_bound (first_of (codes "before") rows))
    (λ n. setting_bounds 0 2147483647 1 (first_of (codes "seed") rows) n (omega arith) (omega arith))
    (λ n. setting_bounds 1 500 200 (first_of (codes "size") rows) n (omega arith) (omega arith))
    h

pub answer_keeps : (rows : List Row) (r : Result Words WordsFault) → Gives (λ w. w) r (said rows)
    → IfOk r (λ w. KeepsRanges w)
answer_keeps rows (Ok w) h = said_keeps rows w h
answer_keeps rows (Err faults.Usage) h = tt
answer_keeps rows (Err faults.OutOfMemory) h = tt

-- what words say keeps its ranges
pub reading_keeps : (texts : List Text) (w : Words) → reading texts ≡ Some w → KeepsRanges w
reading_keeps texts w h = go (is_taken texts) h
  where
    go : (b : Bool) → (if b then said (matches_of command texts) else None) ≡ Some w → KeepsRanges w
    go true is = said_keeps (matches_of command texts) w is
    go false is = cc
