-- The local state of a revision in the machine of code, and what the machine runs.
--   CodeRun      the code, the input numbers and the share of a fork
--   Phase        a revision is running, or is done, or has trapped
--   Local        the state of its code, and its phase
--   End          what a revision leaves that has ended: its writes, text, fuel and phase
--   handles      the handles in a local state
use Rattle.std.specs.Prelude.{ℕ, suc, ℤ, ◌≡◌, List, [], ◌∷◌, ◌++◌, Option, Some, None}
use Rattle.rev_num.specs.declared.outcome.Cause.{Cause}
use Rattle.rev_code.specs.declared.code.Code.{Code}
use Rattle.rev_code.specs.Words.{Word, int, bool, rev}
use Rattle.rev_code.specs.State.{Location, Frame, Listed, forked, joined, State, Setting}
use Rattle.rev_code.specs.Funs.{setting}
use Rattle.code_soundness.specs.Safe.{first_fault}
use Rattle.version_map.specs.Composing.{Entry}

pub record CodeRun : Type 0 where
  pub code : Code
  pub inputs : List ℤ
  -- the most fuel that a child gets
  pub share : ℕ

-- the verifier finds no fault in the code
abbrev pub IsVerified : CodeRun → Type 0
IsVerified g = first_fault g.code ≡ None

abbrev pub under : {H : Type 0} → CodeRun → Setting H
under g = setting g.code g.inputs g.share

-- why a revision trapped: the cause, the line, and the revision that trapped first, which is the
-- revision itself where there is none
pub record Trap (H : Type 0) : Type 0 where
  pub cause : Cause
  pub line : ℕ
  pub origin : Option H

pub data Phase (H : Type 0) : Type 0 where
  running : Phase H
  done : Phase H
  trapped : Trap H → Phase H

pub record Local (H : Type 0) : Type 0 where
  pub state : State H
  pub phase : Phase H

abbrev pub at_work : {H : Type 0} → State H → Local H
at_work c = record { state = c; phase = running }

abbrev pub has_ended : {H : Type 0} → State H → Phase H → Local H
has_ended c phase = record { state = c; phase = phase }

-- ---- ends

-- the locations that were written, from the first of these numbers on
abbrev pub with_entry : {H : Type 0}
    → ℕ → Option (Word H) → (root : Word H) → List (Entry (Word H)) → List (Entry (Word H))
with_entry n None root es = es
with_entry n (Some w) root es = record { location = n; value = w; root = root } ∷ es

abbrev pub written_from : {H : Type 0} → ℕ → List (Location H) → List (Entry (Word H))
written_from n [] = []
written_from n (l ∷ ls) = with_entry n l.written l.snapshot (written_from (suc n) ls)

pub record End (H : Type 0) : Type 0 where
  -- with the snapshot's words, by location
  pub written : List (Entry (Word H))
  pub text : List ℕ
  pub fuel : ℕ
  pub phase : Phase H

abbrev pub end_of : {H : Type 0} → Local H → End H
end_of l = record {
  written = written_from 0 l.state.locations;
  text = l.state.text;
  fuel = l.state.fuel;
  phase = l.phase;
}

-- ---- handles

module _ {H : Type 0} where
  abbrev pub handle_in : Option H → List H
  handle_in None = []
  handle_in (Some h) = h ∷ []

  abbrev pub of_word : Word H → List H
  of_word (int n) = []
  of_word (bool b) = []
  of_word (rev h) = handle_in h

  abbrev pub of_words : List (Word H) → List H
  of_words [] = []
  of_words (w ∷ ws) = of_word w ++ of_words ws

  abbrev pub of_written : Option (Word H) → List H
  of_written None = []
  of_written (Some w) = of_word w

  abbrev pub of_locations : List (Location H) → List H
  of_locations [] = []
  of_locations (l ∷ ls) = (of_word l.snapshot ++ of_written l.written) ++ of_locations ls

  abbrev pub of_frames : List (Frame H) → List H
  of_frames [] = []
  of_frames (f ∷ fs) = of_words f.locals ++ of_frames fs

  abbrev pub of_one : Listed H → List H
  of_one (forked h line) = h ∷ []
  of_one (joined h line) = h ∷ []

  abbrev pub of_listed : List (Listed H) → List H
  of_listed [] = []
  of_listed (x ∷ xs) = of_one x ++ of_listed xs

  abbrev pub of_phase : Phase H → List H
  of_phase running = []
  of_phase done = []
  of_phase (trapped t) = handle_in t.origin

  -- on the stack and in the locals of all frames, in the snapshot and the writes, and in the list
  abbrev pub of_state : State H → List H
  of_state c =
      of_words c.stack
      ++ (of_words c.locals
      ++ (of_frames c.below ++ (of_locations c.locations ++ of_listed c.listed)))

  -- and as the origin of its trap
  abbrev pub handles : Local H → List H
  handles l = of_state l.state ++ of_phase l.phase
