-- How the lines of a trace text are spelled, one case for each form of a line.
--   value_text   a value
--   event_text   a fork or a join
--   end_text     how a revision ended
--   change_text  what a revision wrote at a location
--   Fits..       what has a spelling
use Rattle.std.specs.Prelude.{◌≡◌, ℕ, ◌^◌, ◌<◌, Bool, true, false, ◌&&◌, nat_le, IsTrue, List, [], ◌++◌, Some, None, codes}
use Rattle.std.specs.Fmt.{decimal, signed_decimal}
use Rattle.std.specs.List.{AllByRecursion}
use Rattle.rev_num.specs.Arith.{fits_i64}
use Rattle.rev_num.specs.Path.{Path}
use Rattle.rev_num.specs.Text.{path_text}
pub use Rattle.rev_num.specs.Text.{cause_text, fault_text}
use Rattle.rev_num.specs.declared.outcome.Cause.{Cause}
use Rattle.rev_num.specs.declared.outcome.Cause.TheVariants as cause
use Rattle.rev_num.specs.declared.value.Value.{Value}
use Rattle.rev_num.specs.declared.value.Value.TheVariants as value
use Rattle.trace_diagram.specs.Places.{IsPlace}
use Rattle.trace_diagram.specs.declared.diagram.TraceEvent.{TraceEvent}
use Rattle.trace_diagram.specs.declared.diagram.TraceEvent.TheVariants as event
use Rattle.trace_diagram.specs.declared.diagram.PartEnd.{PartEnd}
use Rattle.trace_diagram.specs.declared.diagram.PartEnd.TheVariants as part_end
use Rattle.trace_diagram.specs.declared.diagram.Change.{Change}

-- ---- values

-- a path has an `@` in front, since a path of one number looks like an int
abbrev pub value_text : Value → List ℕ
value_text (value.Int n) = signed_decimal n
value_text (value.Bool true) = codes "true"
value_text (value.Bool false) = codes "false"
value_text (value.Rev None) = codes "none"
value_text (value.Rev (Some path)) = codes "@" ++ path_text path

-- the numbers of a path have 32 bits
abbrev pub FitsPath : Path → Type 0
FitsPath path = AllByRecursion (λ k. k < 2 ^ 32) path

abbrev pub FitsValue : Value → Type 0
FitsValue (value.Int n) = IsTrue (fits_i64 n)
FitsValue (value.Bool b) = Unit {0}
FitsValue (value.Rev None) = Unit {0}
FitsValue (value.Rev (Some path)) = FitsPath path

-- ---- forks and joins

abbrev pub event_text : TraceEvent → List ℕ
event_text (event.Forked child line) = codes "forked " ++ (path_text child ++ (codes " line " ++ decimal line))
event_text (event.Joined on line) = codes "joined " ++ (path_text on ++ (codes " line " ++ decimal line))

abbrev pub FitsEvent : TraceEvent → Type 0
FitsEvent (event.Forked child line) = FitsPath child × (line < 2 ^ 32)
FitsEvent (event.Joined on line) = FitsPath on × (line < 2 ^ 32)

-- ---- ends

-- what the end says of a trap is what a run's message says of it
abbrev pub end_text : PartEnd → List ℕ
end_text part_end.Done = codes "end done"
end_text (part_end.Trapped trap place) =
    codes "end " ++ (cause_text trap.cause place
    ++ (codes " at line " ++ (decimal trap.line ++ (codes " in revision " ++ path_text trap.origin))))

-- a merge's location has a name, and other causes have no place
abbrev pub IsPlaceOf : Cause → List ℕ → Type 0
IsPlaceOf (cause.Merge location fault) place = IsPlace place
IsPlaceOf _ place = place ≡ []

pub record FitsTrap (cause : Cause) (line : ℕ) (origin : Path) (place : List ℕ) : Type 0 where
  pub place_of : IsPlaceOf cause place
  pub small : line < 2 ^ 32
  pub path : FitsPath origin

abbrev pub FitsEnd : PartEnd → Type 0
FitsEnd part_end.Done = Unit {0}
FitsEnd (part_end.Trapped trap place) = FitsTrap trap.cause trap.line trap.origin place

-- ---- writes

abbrev pub change_text : Change → List ℕ
change_text c = codes "write "
    ++ (c.place ++ (codes " " ++ (value_text c.value ++ (codes " root " ++ value_text c.root))))

pub record FitsChange (c : Change) : Type 0 where
  pub place : IsPlace c.place
  pub value : FitsValue c.value
  pub root : FitsValue c.root

-- ---- the other lines of a part

-- with which a part begins
abbrev pub head_text : Path → List ℕ
head_text path = codes "revision " ++ path_text path

-- the fuel that was left
abbrev pub fuel_text : ℕ → List ℕ
fuel_text fuel = codes "fuel " ++ decimal fuel

-- a space to `~`
abbrev pub is_printable : ℕ → Bool
is_printable b = nat_le 32 b && nat_le b 126

-- a line that the revision printed
abbrev pub quoted : List ℕ → List ℕ
quoted line = codes "> " ++ line
