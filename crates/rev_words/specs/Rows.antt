-- Words with what they say, and words that say nothing.
use Rattle.std.specs.Prelude.{◌≡◌, ◌==◌, ℕ, List, [], ◌∷◌, pos, negsuc, true, false, Some, None, codes}
use Rattle.std.specs.List.{slice_split}
use Rattle.rev_words.specs.Reading.{reading}
use Rattle.rev_words.specs.declared.Mode.TheVariants as modes
use Rattle.rev_words.specs.declared.Words.{Words}

-- what `run` alone says
abbrev pub run_alone : Words
run_alone = record {
  mode = modes.Run;
  numbers = [];
  workers = 4;
  segments = 1024;
  fuel = 1000000000;
  share = 1000000;
  values = false;
  schedule = [];
  before = [];
  seed = 1;
  size = 200;
}

-- the words of a line, with a blank between two of them
abbrev pub words_in : List ℕ → List (List ℕ)
words_in line = slice_split (λ b. b == 32) line

pub record RowsAreRead : Type 0 where
  pub alone : reading (words_in (codes "run")) ≡ Some run_alone
  pub attached : reading (words_in (codes "run --fuel=7 3 --values -- -4"))
      ≡ Some (record run_alone { fuel = 7; numbers = pos 3 ∷ negsuc 3 ∷ []; values = true })
  pub plus : reading (words_in (codes "run --fuel +5")) ≡ Some (record run_alone { fuel = 5 })
  pub between_numbers : reading (words_in (codes "--seed 9 run 3 --values 4"))
      ≡ Some (record run_alone { numbers = pos 3 ∷ pos 4 ∷ []; values = true; seed = 9 })
  pub schedule : reading (words_in (codes "run --schedule 0,0,1"))
      ≡ Some (record run_alone { schedule = 0 ∷ 0 ∷ 1 ∷ [] })
  pub empty_schedule : reading (words_in (codes "run --schedule=")) ≡ Some run_alone
  pub check : reading (words_in (codes "check")) ≡ Some (record run_alone { mode = modes.Check })
  pub load : reading (words_in (codes "load --seed 9 --size 3"))
      ≡ Some (record run_alone { mode = modes.Load; seed = 9; size = 3 })
  pub dis : reading (words_in (codes "dis")) ≡ Some (record run_alone { mode = modes.Dis })
  pub exec : reading (words_in (codes "exec --values"))
      ≡ Some (record run_alone { mode = modes.Exec; values = true })
  pub emit : reading (words_in (codes "emit")) ≡ Some (record run_alone { mode = modes.Emit })
  pub trace : reading (words_in (codes "trace --share 10"))
      ≡ Some (record run_alone { mode = modes.Trace; share = 10 })
  pub audit : reading (words_in (codes "audit --fuel 100"))
      ≡ Some (record run_alone { mode = modes.Audit; fuel = 100 })
  pub replay : reading (words_in (codes "replay --schedule 0,0,2,1 --values 5"))
      ≡ Some (record run_alone {
        mode = modes.Replay;
        numbers = pos 5 ∷ [];
        values = true;
        schedule = 0 ∷ 0 ∷ 2 ∷ 1 ∷ [];
      })
  pub replay_of_nothing : reading (words_in (codes "replay --schedule="))
      ≡ Some (record run_alone { mode = modes.Replay })
  pub replay_by_default : reading (words_in (codes "replay"))
      ≡ Some (record run_alone { mode = modes.Replay })
  pub greatest_entry : reading (words_in (codes "replay --schedule=4294967295"))
      ≡ Some (record run_alone { mode = modes.Replay; schedule = 4294967295 ∷ [] })
  pub order : reading (words_in (codes "order --workers 2 --segments=0 7"))
      ≡ Some (record run_alone {
        mode = modes.Order;
        numbers = pos 7 ∷ [];
        workers = 2;
        segments = 0;
      })
  pub stream : reading (words_in (codes "stream --values 3"))
      ≡ Some (record run_alone { mode = modes.Stream; numbers = pos 3 ∷ []; values = true })
  pub repeat : reading (words_in (codes "repeat --before 3,4 3 5"))
      ≡ Some (record run_alone {
        mode = modes.Repeat;
        numbers = pos 3 ∷ pos 5 ∷ [];
        before = pos 3 ∷ pos 4 ∷ [];
      })
  pub repeat_by_default : reading (words_in (codes "repeat"))
      ≡ Some (record run_alone { mode = modes.Repeat })
  pub repeat_of_nothing : reading (words_in (codes "repeat --before= 3"))
      ≡ Some (record run_alone { mode = modes.Repeat; numbers = pos 3 ∷ [] })
  pub negative_before : reading (words_in (codes "repeat --before=-3,4 -- -3"))
      ≡ Some (record run_alone {
        mode = modes.Repeat;
        numbers = negsuc 2 ∷ [];
        before = negsuc 2 ∷ pos 4 ∷ [];
      })

pub record RowsAreUsage : Type 0 where
  pub no_words : reading [] ≡ None
  pub other_mode : reading (words_in (codes "walk")) ≡ None
  pub capital : reading (words_in (codes "Check")) ≡ None
  pub no_size : reading (words_in (codes "load --size 501")) ≡ None
  pub no_workers : reading (words_in (codes "run --workers 0")) ≡ None
  pub many_workers : reading (words_in (codes "order --workers 65")) ≡ None
  pub many_segments : reading (words_in (codes "order --segments 65537")) ≡ None
  pub no_number : reading (words_in (codes "run x")) ≡ None
  pub no_value : reading (words_in (codes "run --fuel")) ≡ None
  pub flag_twice : reading (words_in (codes "run --values --values")) ≡ None
  pub help : reading (words_in (codes "run --help")) ≡ None
  pub minus : reading (words_in (codes "run -5")) ≡ None
  pub plus_number : reading (words_in (codes "run +5")) ≡ None
  pub empty_entry : reading (words_in (codes "run --schedule 1,")) ≡ None
  pub signed_entry : reading (words_in (codes "replay --schedule=+1")) ≡ None
  pub large_entry : reading (words_in (codes "replay --schedule=4294967296")) ≡ None
  pub empty_before : reading (words_in (codes "repeat --before 1,")) ≡ None
  pub plus_before : reading (words_in (codes "repeat --before=+1")) ≡ None
  pub minus_before : reading (words_in (codes "repeat --before -3")) ≡ None
  pub large_before : reading (words_in (codes "repeat --before=9223372036854775808")) ≡ None
  pub blank_before : reading (words_in (codes "repeat --before=3,,4")) ≡ None
  pub two_schedules : reading (words_in (codes "replay --schedule=0 --schedule=1")) ≡ None
