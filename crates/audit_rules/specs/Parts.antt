-- The part that a revision of the calculus has in a trace, and what a joiner takes from a stated part.
use Rattle.std.specs.Prelude.{◌≡◌, ℕ, zero, suc, ◌+◌, ◌≤◌, nat_le, Bool, true, false, ◌&&◌, List, [], ◌∷◌, map, Option, Some, None, if◌then◌else◌}
use Rattle.rev_num.specs.Path.{Path}
use Rattle.rev_num.specs.Value.{kind_of, same_kind}
use Rattle.rev_num.specs.declared.value.Value.{Value}
use Rattle.rev_num.specs.declared.value.ValueKind.{ValueKind}
use Rattle.rev_num.specs.declared.outcome.Cause.{Cause}
use Rattle.rev_num.specs.declared.outcome.Cause.TheVariants as cause
use Rattle.rev_num.specs.declared.outcome.Trap.{Trap}
use Rattle.name_tables.specs.Names.{same}
use Rattle.revision_machine.specs.PathMap.{PathMap}
use Rattle.typed_programs.specs.Layout.{variables}
use Rattle.revision_calculus.specs.Program.{zero_value, Setting}
use Rattle.rev_report.specs.Outcome.{place_of}
use Rattle.revision_calculus.specs.State.{Location, Noted, forked, joined, Phase, running, joining, done, trapped, Local}
use Rattle.revision_calculus.specs.Join.{join}
use Rattle.revision_calculus.specs.Calculus.{main, calculus}
use Rattle.revision_calculus.specs.Outcome.{show_all}
use Rattle.revision_calculus.specs.KeptBySteps.{IsShaped}
use Rattle.revision_calculus.specs.Kinded.{location_kinds, IsKinded}
use Rattle.trace_diagram.specs.Shown.{shown_part}
use Rattle.trace_diagram.specs.declared.diagram.Part.{Part}
use Rattle.trace_diagram.specs.declared.diagram.Change.{Change}
use Rattle.trace_diagram.specs.declared.diagram.PartEnd.{PartEnd}
use Rattle.trace_diagram.specs.declared.diagram.PartEnd.TheVariants as part_end
use Rattle.trace_diagram.specs.declared.diagram.TraceEvent.{TraceEvent}
use Rattle.trace_diagram.specs.declared.diagram.TraceEvent.TheVariants as event
use Rattle.audit_rules.specs.Audited.{Telling, Passes, Begins}

-- ---- parts

-- the places of the locations, in their order
abbrev pub places : Setting → List (List ℕ)
places s = map (λ x. place_of x.name x.cell) (show_all (variables s.program) [])

-- ---- the part of a revision

abbrev pub change_of : List ℕ → Location → Option Value → List Change → List Change
change_of place m None rest = rest
change_of place m (Some x) rest = record { place = place; value = x; root = m.base } ∷ rest

abbrev pub changes : List (List ℕ) → List Location → List Change
changes (p ∷ ps) (m ∷ ms) = change_of p m m.written (changes ps ms)
changes [] ms = []
changes (p ∷ ps) [] = []

abbrev pub place_at : List (List ℕ) → ℕ → List ℕ
place_at [] n = []
place_at (p ∷ ps) zero = p
place_at (p ∷ ps) (suc n) = place_at ps n

abbrev pub cause_place : List (List ℕ) → Cause → List ℕ
cause_place ps (cause.Merge n f) = place_at ps n
cause_place ps _ = []

abbrev pub end_at : List (List ℕ) → Phase → PartEnd
end_at ps done = part_end.Done
end_at ps (trapped t) = part_end.Trapped t (cause_place ps t.cause)
end_at ps running = part_end.Done
end_at ps (joining q left) = part_end.Done

-- an entry of the list of forks and joins, as a trace has it
abbrev pub event_of : Noted → TraceEvent
event_of (forked q line) = event.Forked q line
event_of (joined q line) = event.Joined q line

abbrev pub part_of : Setting → Path → Local → Part
part_of s r l = record {
  path = r;
  events = map event_of l.noted;
  end = end_at (places s) l.phase;
  fuel = l.fuel;
  written = changes (places s) l.locations;
  text = l.text;
}

-- ---- what a joiner takes

abbrev pub change_at : List Change → List ℕ → Option Change
change_at [] p = None
change_at (c ∷ cs) p = if same c.place p then Some c else change_at cs p

-- a location of this kind; of one that was not written, the snapshot is not known,
-- and some value of its kind stands there
abbrev pub location_of : ValueKind → Option Change → Location
location_of t None = record { base = zero_value t; written = None }
location_of t (Some c) = record { base = c.root; written = Some c.value }

abbrev pub told_locations : List (List ℕ) → List ValueKind → List Change → List Location
told_locations [] ts cs = []
told_locations (p ∷ ps) [] cs = []
told_locations (p ∷ ps) (t ∷ ts) cs = location_of t (change_at cs p) ∷ told_locations ps ts cs

-- the number of the location with this place
abbrev pub number_of : List (List ℕ) → List ℕ → Option ℕ
number_of [] p = None
number_of (x ∷ xs) p = if same x p then Some zero else elim (number_of xs p) [ None ↦ None | Some n ↦ Some (suc n) ]

-- the cause, with the location that the place names
abbrev pub cause_from : Cause → Option ℕ → Option Cause
cause_from (cause.Merge n f) None = None
cause_from (cause.Merge n f) (Some k) = Some (cause.Merge k f)
cause_from c k = Some c

abbrev pub phase_with : Trap → Option Cause → Option Phase
phase_with t None = None
phase_with t (Some c) = Some (trapped (record t { cause = c }))

-- how the joinee ended
abbrev pub told_phase : List (List ℕ) → PartEnd → Option Phase
told_phase ps part_end.Done = Some done
told_phase ps (part_end.Trapped t p) = phase_with t (cause_from t.cause (number_of ps p))

-- an ended revision of which this part tells
abbrev pub told : Setting → Part → Phase → Local
told s p phase = record {
  locations = told_locations (places s) (location_kinds s) p.written;
  frames = [];
  fuel = p.fuel;
  forks = 0;
  noted = [];
  text = p.text;
  line = 0;
  phase = phase;
}

-- each write has a place of the program that is in no other write, and values of its kind
abbrev pub is_known : List (List ℕ) → List ℕ → Bool
is_known [] p = false
is_known (x ∷ xs) p = if same x p then true else is_known xs p

abbrev pub is_changed : List Change → List ℕ → Bool
is_changed [] p = false
is_changed (c ∷ cs) p = if same c.place p then true else is_changed cs p

abbrev pub kind_fits : List (List ℕ) → List ValueKind → Change → Bool
kind_fits (p ∷ ps) (t ∷ ts) c =
    if same p c.place then same_kind (kind_of c.value) t && same_kind (kind_of c.root) t else kind_fits ps ts c
kind_fits [] ts c = false
kind_fits (p ∷ ps) [] c = false

abbrev pub changes_fit : List (List ℕ) → List ValueKind → List Change → Bool
changes_fit ps ts [] = true
changes_fit ps ts (c ∷ cs) =
    kind_fits ps ts c && (if is_changed cs c.place then false else changes_fit ps ts cs)

-- the joiner after its join of a joinee of which this part tells
abbrev pub takes_in : Setting → Path → Local → Path → Part → Option Phase → Bool → Option Local
takes_in s r l q p (Some phase) true = Some (join s r l q (told s p phase))
takes_in s r l q p (Some phase) false = None
takes_in s r l q p None b = None

-- in a run with this fuel; none where the part can't be taken
abbrev pub takes : Setting → ℕ → Path → Local → Path → Part → Option Local
takes s fuel r l q p =
    takes_in s r l q p (told_phase (places s) p.end)
    (changes_fit (places s) (location_kinds s) p.written && nat_le (p.fuel + l.fuel + l.forks) fuel)

-- ---- the calculus

-- the revisions that were joined, in their order
abbrev pub joins_of : List TraceEvent → List Path
joins_of [] = []
joins_of (event.Forked q line ∷ es) = joins_of es
joins_of (event.Joined q line ∷ es) = q ∷ joins_of es

-- those that a local state lists
abbrev pub joined_by : List Noted → List Path
joined_by [] = []
joined_by (forked q line ∷ es) = joined_by es
joined_by (joined q line ∷ es) = q ∷ joined_by es

abbrev pub calculus_parts : (s : Setting) → ℕ → Telling (calculus s)
calculus_parts s fuel = record {
  Part = Part;
  -- parts are compared without the number of a merge's location, which a text does not have
  Text = Part;
  text = shown_part;
  part = part_of s;
  joins = λ p. joins_of p.events;
  joined = λ l. joined_by l.noted;
  takes = takes s fuel;
}

-- no two locations have one place
abbrev pub IsApart : List (List ℕ) → Type 0
IsApart [] = Unit {0}
IsApart (p ∷ ps) = (is_known ps p ≡ false) × IsApart ps

-- ---- what a revision's own run keeps

module _ (s : Setting) (fuel : ℕ) where
  -- on each state that an own run passes: its values are of their kinds,
  -- its locations and frames are as many as they should be, and its fuel and its forks are together at most
  -- the fuel of the start
  pub record OwnFits (r : Path) (l : Local) : Type 0 where
    pub kinded : IsKinded s r l
    pub shaped : IsShaped s r l
    pub room : l.fuel + l.forks ≤ fuel

  abbrev pub OwnRunsFit : Type 0
  OwnRunsFit =
      (stated : PathMap Part) (r : Path) (a l : Local)
      → Begins (calculus s) (calculus_parts s fuel) (main s fuel) stated r a
      → Passes (calculus s) (calculus_parts s fuel) stated r a l → OwnFits r l
