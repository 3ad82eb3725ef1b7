-- What was read of a trace behind its first line: whole parts, and the part that is being read.
--   PartialTrace   these, as plain data, and partial_of the same of a reader's draft
--   partial_lines  the lines that were read, and stage_of how far they are
--   IsPartial      what was read has the form of a trace so far
--   Takes          what a draft becomes with one more line
--   Closes, Finishes
--                  what it gives at the end of a part, and of the trace
--   HasRead        how the bytes are made of what was read and the rest
use Rattle.std.specs.Prelude.{◌≡◌, ℕ, ◌^◌, ◌<◌, IsTrue, IfSome, is_some, true, List, [], ◌∷◌, ◌++◌, map, Option, Some, None, Vec}
use Rattle.std.specs.List.{flat_map, AllByRecursion}
use Rattle.rev_num.specs.Path.{Path, before}
use Rattle.trace_diagram.specs.Following.{Stage, no_part, in_events, at_fuel, in_writes, in_text, Behind, BeginsLater, Follows, Goes, Stops}
use Rattle.trace_diagram.specs.Lines.{FitsChange, FitsEnd, FitsEvent, FitsPath, change_text, end_text, event_text, fuel_text, head_text, quoted}
use Rattle.trace_diagram.specs.Traces.{IsOneLine, IsPart, IsText, IsTrace, ended, first_line, part_lines, text_lines}
use Rattle.trace_diagram.specs.declared.diagram.Change.{Change}
use Rattle.trace_diagram.specs.declared.diagram.Part.{Part}
use Rattle.trace_diagram.specs.declared.diagram.PartEnd.{PartEnd}
use Rattle.trace_diagram.specs.declared.diagram.Trace.{Trace}
use Rattle.trace_diagram.specs.declared.diagram.TraceEvent.{TraceEvent}
use Rattle.trace_diagram.specs.declared.draft.Draft.{Draft}

pub record PartialTrace : Type 0 where
  pub parts : List Part
  pub path : Path
  pub events : List TraceEvent
  pub end : Option PartEnd
  pub fuel : Option ℕ
  pub written : List Change
  pub text : List ℕ

abbrev pub partial_of : Draft → PartialTrace
partial_of d = record {
  parts = d.parts.items;
  path = d.path;
  events = d.events.items;
  end = d.end;
  fuel = d.fuel;
  written = d.written.items;
  text = d.text.items;
}

-- ---- the lines that were read

-- behind the forks and joins
abbrev pub last_lines : Option PartEnd → Option ℕ → List Change → List ℕ → List (List ℕ)
last_lines None fuel written text = []
last_lines (Some end) None written text = end_text end ∷ []
last_lines (Some end) (Some fuel) written text =
    end_text end ∷ fuel_text fuel ∷ (map change_text written ++ map quoted (text_lines text))

-- of the part that is being read
abbrev pub open_lines : PartialTrace → List (List ℕ)
open_lines p = head_text p.path ∷ (map event_text p.events ++ last_lines p.end p.fuel p.written p.text)

abbrev pub partial_lines : PartialTrace → List (List ℕ)
partial_lines p = flat_map part_lines p.parts ++ open_lines p

abbrev pub stage_at : Path → Option PartEnd → Option ℕ → List ℕ → Stage
stage_at r None fuel text = in_events r
stage_at r (Some end) None text = at_fuel r
stage_at r (Some end) (Some fuel) [] = in_writes r
stage_at r (Some end) (Some fuel) (b ∷ bs) = in_text r

abbrev pub stage_of : PartialTrace → Stage
stage_of p = stage_at p.path p.end p.fuel p.text

-- ---- its form

-- in ascending post-order, all before this path
abbrev pub Ascends : List Part → Path → Type 0
Ascends [] r = Unit {0}
Ascends (p ∷ []) r = IsTrue (before p.path r)
Ascends (p ∷ q ∷ ps) r = IsTrue (before p.path q.path) × Ascends (q ∷ ps) r

-- what comes later in a part is not there yet
abbrev pub NotYet : Option PartEnd → Option ℕ → List Change → List ℕ → Type 0
NotYet None fuel written text = (fuel ≡ None) × (written ≡ []) × (text ≡ [])
NotYet (Some end) None written text = (written ≡ []) × (text ≡ [])
NotYet (Some end) (Some fuel) written text = Unit {0}

pub record IsPartial (p : PartialTrace) : Type 0 where
  pub each : AllByRecursion IsPart p.parts
  pub order : Ascends p.parts p.path
  pub path : FitsPath p.path
  pub events : AllByRecursion FitsEvent p.events
  pub end : IfSome p.end FitsEnd
  pub fuel : IfSome p.fuel (λ n. n < 2 ^ 64)
  pub written : AllByRecursion FitsChange p.written
  pub text : IsText p.text
  pub not_yet : NotYet p.end p.fuel p.written p.text

-- no line of the part is wanting
pub record IsClosed (p : PartialTrace) : Type 0 where
  pub end : is_some p.end ≡ true
  pub fuel : is_some p.fuel ≡ true

-- ---- one more line

pub record IsLonger (line : List ℕ) (p q : PartialTrace) : Type 0 where
  pub form : IsPartial q
  pub lines : partial_lines q ≡ partial_lines p ++ line ∷ []
  pub follows : Follows (stage_of p) line (stage_of q)

-- the draft with the line, or none where the line can't come
abbrev pub Takes : List ℕ → PartialTrace → Option Draft → Type 0
Takes line p (Some d) = IsLonger line p (partial_of d)
Takes line p None = (next : Stage) → Follows (stage_of p) line next → ⊥

-- the same of a line that begins a part
abbrev pub TakesHead : List ℕ → PartialTrace → Option Draft → Type 0
TakesHead line p (Some d) = IsLonger line p (partial_of d)
TakesHead line p None = (next : Stage) → BeginsLater p.path line next → ⊥

-- or that is printed
abbrev pub TakesBehind : List ℕ → PartialTrace → Option Draft → Type 0
TakesBehind line p (Some d) = IsLonger line p (partial_of d)
TakesBehind line p None = (next : Stage) → Behind p.path line next → ⊥

-- ---- the end of a part, and of the trace

-- the parts with the last one behind them
pub record IsClosedTo (p : PartialTrace) (parts : List Part) : Type 0 where
  pub end : PartEnd
  pub fuel : ℕ
  pub ended : p.end ≡ Some end
  pub left : p.fuel ≡ Some fuel
  pub parts_are : parts ≡ p.parts ++
      record { path = p.path; events = p.events; end = end; fuel = fuel; written = p.written; text = p.text } ∷ []

-- or that a line is wanting
abbrev pub Closes : {A : Type 0} → PartialTrace → Option (Vec Part A) → Type 0
Closes p (Some parts) = IsClosedTo p parts.items
Closes p None = IsClosed p → ⊥

-- the trace whose lines these are, or that it can't end here
pub record IsFinished (p : PartialTrace) (t : Trace) : Type 0 where
  pub form : IsTrace t
  pub lines : flat_map part_lines t.parts ≡ partial_lines p

abbrev pub Finishes : PartialTrace → Option Trace → Type 0
Finishes p (Some t) = IsFinished p t
Finishes p None = Stops (stage_of p) → ⊥

-- ---- in the midst of the bytes

-- with these lines behind the first one, a trace goes on from this stage
pub record LeadsTo (lines : List (List ℕ)) (s : Stage) : Type 0 where
  pub one_line : AllByRecursion IsOneLine lines
  pub goes : (more : List (List ℕ)) → Goes no_part (lines ++ more) → Goes s more

-- the bytes are the first line, what was read, and the rest
pub record HasRead (bytes : List ℕ) (p : PartialTrace) (rest : List ℕ) : Type 0 where
  pub form : IsPartial p
  pub is : bytes ≡ flat_map ended (first_line ∷ partial_lines p) ++ rest
  pub leads : LeadsTo (partial_lines p) (stage_of p)
