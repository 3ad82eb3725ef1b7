-- The same local state with other handles: each handle h as f h.
use Rattle.std.specs.Prelude.{◌≡◌, ℕ, List, map, Option, Some, None}
use Rattle.rev_num.specs.Path.{Path}
use Rattle.rev_code.specs.Words.{Word, int, bool, rev}
use Rattle.rev_code.specs.State.{Location, Frame, Listed, forked, joined, State}
use Rattle.revision_machine.specs.Laws.{IsIn}
use Rattle.revision_machine.specs.Numbered.{number_of}
use Rattle.code_machine.specs.Local.{Phase, running, done, trapped, Local}
use Rattle.code_machine.specs.Machines.{Holds}

module _ {H K : Type 0} (f : H → K) where
  abbrev pub renamed_handle : Option H → Option K
  renamed_handle None = None
  renamed_handle (Some h) = Some (f h)

  abbrev pub renamed_word : Word H → Word K
  renamed_word (int n) = int n
  renamed_word (bool b) = bool b
  renamed_word (rev h) = rev (renamed_handle h)

  abbrev pub renamed_written : Option (Word H) → Option (Word K)
  renamed_written None = None
  renamed_written (Some w) = Some (renamed_word w)

  abbrev pub renamed_location : Location H → Location K
  renamed_location l =
      record { snapshot = renamed_word l.snapshot; written = renamed_written l.written }

  abbrev pub renamed_frame : Frame H → Frame K
  renamed_frame x = record { block = x.block; at = x.at; locals = map renamed_word x.locals }

  abbrev pub renamed_one : Listed H → Listed K
  renamed_one (forked h line) = forked (f h) line
  renamed_one (joined h line) = joined (f h) line

  -- with this number of forks
  abbrev pub renamed_as : ℕ → State H → State K
  renamed_as forks c = record {
    block = c.block;
    at = c.at;
    locals = map renamed_word c.locals;
    stack = map renamed_word c.stack;
    below = map renamed_frame c.below;
    locations = map renamed_location c.locations;
    fuel = c.fuel;
    forks = forks;
    listed = map renamed_one c.listed;
    text = c.text;
    line = c.line;
  }

  abbrev pub renamed_phase : Phase H → Phase K
  renamed_phase running = running
  renamed_phase done = done
  renamed_phase (trapped t) =
      trapped (record { cause = t.cause; line = t.line; origin = renamed_handle t.origin })

  abbrev pub renamed : Local H → Local K
  renamed l = record { state = renamed_as l.state.forks l.state; phase = renamed_phase l.phase }

-- b is a with numbers by the table for its handles, all of which the table has
pub record IsNumbered (t : List Path) (r : Path) (a : Local Path) (b : Local ℕ) : Type 0 where
  pub is : b ≡ renamed (number_of t) a
  pub known : (q : Path) → Holds a q → IsIn q t
