-- The state of one revision that runs code, and what it runs under.
--   Location   a location as the revision sees it: the value of its snapshot, and what it has written there
--   Frame      a frame that waits for a call: its block, the place behind its Call, and its locals
--   State      block, place and locals of the frame on top, the one stack, the frames below, the locations, and the
--              fuel, forks, list of forks and joins, text and line of the revision
--   Setting    the code, the values of its funs, the input numbers and the share of a fork
-- A revision that ended or waits is no state of its own here: an event has the state at which it comes.
use Rattle.std.specs.Prelude.{ℕ, zero, suc, ℤ, List, [], ◌∷◌, Option, Some, None, Result}
use Rattle.rev_num.specs.declared.outcome.Cause.{Cause}
use Rattle.rev_code.specs.declared.code.Code.{Code}
use Rattle.rev_code.specs.Words.{Word}

pub record Location (H : Type 0) : Type 0 where
  pub snapshot : Word H
  pub written : Option (Word H)

-- the value of the revision's view
abbrev pub seen : {H : Type 0} → Location H → Word H
seen l = elim l.written [ None ↦ l.snapshot | Some w ↦ w ]

abbrev pub seen_at : {H : Type 0} → List (Location H) → ℕ → Option (Word H)
seen_at [] n = None
seen_at (l ∷ ls) zero = Some (seen l)
seen_at (l ∷ ls) (suc n) = seen_at ls n

abbrev pub written_at : {H : Type 0} → List (Location H) → ℕ → Word H → List (Location H)
written_at [] n w = []
written_at (l ∷ ls) zero w = record { snapshot = l.snapshot; written = Some w } ∷ ls
written_at (l ∷ ls) (suc n) w = l ∷ written_at ls n w

pub record Frame (H : Type 0) : Type 0 where
  pub block : ℕ
  pub at : ℕ
  pub locals : List (Word H)

-- an entry of the list of forks and joins: the revision that was forked or joined, and the line
pub data Listed (H : Type 0) : Type 0 where
  forked : H → ℕ → Listed H
  joined : H → ℕ → Listed H

pub record State (H : Type 0) : Type 0 where
  pub block : ℕ
  pub at : ℕ
  pub locals : List (Word H)
  -- the top first
  pub stack : List (Word H)
  -- the innermost first
  pub below : List (Frame H)
  pub locations : List (Location H)
  pub fuel : ℕ
  -- how many it has made
  pub forks : ℕ
  pub listed : List (Listed H)
  -- what it has printed
  pub text : List ℕ
  -- the one charged last, and 0 before the first Charge
  pub line : ℕ

-- the value of a fun or merge for its arguments, or why it faults; None where it has neither
abbrev pub Fun : Type 0 → Type 0
Fun H = List (Word H) → Option (Result (Word H) Cause)

pub record Setting (H : Type 0) : Type 0 where
  pub code : Code
  -- by the number of the block
  pub funs : List (Fun H)
  pub inputs : List ℤ
  -- the most fuel that a child gets
  pub share : ℕ
