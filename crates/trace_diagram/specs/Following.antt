-- Which line may follow which, behind the first line of a trace.
--   Stage    how far the lines are: before any part, and in the part of a revision among its forks
--            and joins, behind its end, behind its fuel, and behind a line that it printed
--   Follows  the line may come at the stage, and leads to the next one
--   Goes     with these lines a trace can end from the stage on
use Rattle.std.specs.Prelude.{◌≡◌, ◌⊎◌, ℕ, ◌^◌, ◌<◌, IsTrue, List, [], ◌∷◌}
use Rattle.rev_num.specs.Path.{Path, before}
use Rattle.trace_diagram.specs.Lines.{FitsChange, FitsEnd, FitsEvent, FitsPath, change_text, end_text, event_text, fuel_text, head_text}
use Rattle.trace_diagram.specs.Reading.{IsQuote}
use Rattle.trace_diagram.specs.declared.diagram.Change.{Change}
use Rattle.trace_diagram.specs.declared.diagram.PartEnd.{PartEnd}
use Rattle.trace_diagram.specs.declared.diagram.TraceEvent.{TraceEvent}

pub data Stage : Type 0 where
  no_part : Stage
  in_events : Path → Stage
  at_fuel : Path → Stage
  in_writes : Path → Stage
  in_text : Path → Stage

-- ---- lines, each with the stage behind it

pub record BeginsPart (line : List ℕ) (next : Stage) : Type 0 where
  pub path : Path
  pub fits : FitsPath path
  pub is : head_text path ≡ line
  pub to : next ≡ in_events path

-- the part of a revision that comes later in post-order
pub record BeginsLater (r : Path) (line : List ℕ) (next : Stage) : Type 0 where
  pub part : BeginsPart line next
  pub later : IsTrue (before r part.path)

pub record ListsEvent (r : Path) (line : List ℕ) (next : Stage) : Type 0 where
  pub entry : TraceEvent
  pub fits : FitsEvent entry
  pub is : event_text entry ≡ line
  pub to : next ≡ in_events r

pub record EndsRun (r : Path) (line : List ℕ) (next : Stage) : Type 0 where
  pub end : PartEnd
  pub fits : FitsEnd end
  pub is : end_text end ≡ line
  pub to : next ≡ at_fuel r

pub record LeavesFuel (r : Path) (line : List ℕ) (next : Stage) : Type 0 where
  pub fuel : ℕ
  pub fits : fuel < 2 ^ 64
  pub is : fuel_text fuel ≡ line
  pub to : next ≡ in_writes r

pub record WritesPlace (r : Path) (line : List ℕ) (next : Stage) : Type 0 where
  pub change : Change
  pub fits : FitsChange change
  pub is : change_text change ≡ line
  pub to : next ≡ in_writes r

pub record PrintsLine (r : Path) (line : List ℕ) (next : Stage) : Type 0 where
  pub text : List ℕ
  pub quote : IsQuote line text
  pub to : next ≡ in_text r

-- ---- which may come

-- behind the writes
abbrev pub Behind : Path → List ℕ → Stage → Type 0
Behind r line next = PrintsLine r line next ⊎ BeginsLater r line next

abbrev pub Follows : Stage → List ℕ → Stage → Type 0
Follows no_part line next = BeginsPart line next
Follows (in_events r) line next = ListsEvent r line next ⊎ EndsRun r line next
Follows (at_fuel r) line next = LeavesFuel r line next
Follows (in_writes r) line next = WritesPlace r line next ⊎ Behind r line next
Follows (in_text r) line next = Behind r line next

-- no line is wanting, and the part is that of `main`
abbrev pub Stops : Stage → Type 0
Stops no_part = ⊥
Stops (in_events r) = ⊥
Stops (at_fuel r) = ⊥
Stops (in_writes r) = r ≡ []
Stops (in_text r) = r ≡ []

abbrev pub Goes : Stage → List (List ℕ) → Type 0
Goes s [] = Stops s
Goes s (line ∷ lines) = (next : Stage) × Follows s line next × Goes next lines
