-- The local state of a revision.
--
-- A `Location` has the snapshot's value and what the revision wrote, and `view` overlays them; `view_at` and `write_at`
-- go by the number of a location; `fresh` is a snapshot without writes. A `Frame` is a call that goes on, `Noted` an
-- entry of the list of forks and joins, `Phase` what the revision is about, and `Local` all of its state.
use Rattle.std.specs.Prelude.{ℕ, zero, suc, pos, List, [], ◌∷◌, map, Option, Some, None}
use Rattle.rev_num.specs.Path.{Path}
use Rattle.rev_num.specs.declared.value.Value.{Value}
use Rattle.rev_num.specs.declared.value.Value.TheVariants as v
use Rattle.rev_num.specs.declared.outcome.Trap.{Trap}
use Rattle.rev_syntax.specs.Trees.{Statements}
use Rattle.name_tables.specs.Names.{Name}
use Rattle.name_tables.specs.Table.{Table}

-- one location: its value in the snapshot, and the value that the revision wrote, if it wrote one
pub record Location : Type 0 where
  pub base : Value
  pub written : Option Value

-- the value of the view, which is the snapshot overlaid with the writes
abbrev pub view : Location → Value
view m = elim m.written [ None ↦ m.base | Some x ↦ x ]

-- the view of the location with this number
abbrev pub view_at : List Location → ℕ → Value
view_at [] n = v.Int (pos 0)
view_at (m ∷ ms) zero = view m
view_at (m ∷ ms) (suc n) = view_at ms n

-- the value enters the writes at the location with this number
abbrev pub write_at : List Location → ℕ → Value → List Location
write_at [] n x = []
write_at (m ∷ ms) zero x = record { base = m.base; written = Some x } ∷ ms
write_at (m ∷ ms) (suc n) x = m ∷ write_at ms n x

-- a location with this snapshot value, in which this was written
abbrev pub with_write : Value → Value → Location
with_write base x = record { base = base; written = Some x }

-- a snapshot with no writes yet
abbrev pub fresh : List Value → List Location
fresh xs = map (λ x. record { base = x; written = None }) xs

-- A call of a procedure, or the main block: its locals, the statements that remain, and the left side
-- in the calling frame that waits for the value of this one.
pub record Frame : Type 0 where
  pub locals : Table Value
  pub rest : Statements
  pub left : Option Name

-- an entry of the list of forks and joins: which revision, and the line of the statement
pub data Noted : Type 0 where
  forked : Path → ℕ → Noted
  joined : Path → ℕ → Noted

pub data Phase : Type 0 where
  running : Phase
  -- at a join of the revision at this path, with the left side that waits for the answer of a `tryjoin`
  joining : Path → Option Name → Phase
  done : Phase
  trapped : Trap → Phase

pub record Local : Type 0 where
  -- the snapshot and the writes, in the order of the locations
  pub locations : List Location
  -- the frame on top comes first
  pub frames : List Frame
  pub fuel : ℕ
  -- how many forks it made
  pub forks : ℕ
  pub noted : List Noted
  pub text : List ℕ
  -- of the statement charged last, and 0 before the first
  pub line : ℕ
  pub phase : Phase

-- a revision before its first statement, with these start values, this frame and this fuel
abbrev pub begun : List Value → Frame → ℕ → Local
begun values frame fuel = record {
  locations = fresh values;
  frames = frame ∷ [];
  fuel = fuel;
  forks = 0;
  noted = [];
  text = [];
  line = 0;
  phase = running;
}
