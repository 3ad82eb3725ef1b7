-- Whether what was read agrees, by the machine's notes and by the words of both snapshots.
--   MarksAgree        two snapshots and inputs agree on what is noted
--   AgreesByMarks     where these have what was read, others have it exactly where they agree with
--                     these on what is noted
use Rattle.std.specs.Prelude.{◌≡◌, ◌↔◌, ℕ, ℤ, true, List, length, slice_get}
use Rattle.rev_code.specs.Words.{Word}
pub use Rattle.code_machine_laws.specs.LegReads.{leg_reads}
use Rattle.code_machine_laws.specs.Reads.{Read}
use Rattle.code_machine_laws.specs.Moved.{AllAgree}
use Rattle.block_run.specs.Marks.{Mark, has_location, has_input, has_count}
use Rattle.leg_run.specs.Marks.{marks_of}

pub record MarksAgree {H : Type 0} (xs ys : List (Word H)) (inputs inputs' : List ℤ) (ms : List Mark) : Type 0 where
  pub locations : (n : ℕ) → has_location ms n ≡ true → slice_get ys n ≡ slice_get xs n
  pub positions : (n : ℕ) → has_input ms n ≡ true → slice_get inputs' n ≡ slice_get inputs n
  pub counts : has_count ms ≡ true → length inputs' ≡ length inputs

abbrev pub AgreesByMarks : Type 0 → Type 0
AgreesByMarks H =
    (xs ys : List (Word H)) (inputs inputs' : List ℤ) (rs : List (Read H)) → AllAgree xs inputs rs
    → AllAgree ys inputs' rs ↔ MarksAgree xs ys inputs inputs' (marks_of rs)
