-- The part of a revision, by the places of the locations, and the order of parts.
use Rattle.std.specs.Prelude.{ℕ, Bool, List, map, Option, Some, None, if◌then◌else◌}
use Rattle.std.specs.declared.cmp.Ordering.{Ordering}
use Rattle.std.specs.declared.cmp.Ordering.TheVariants.{Less, Equal, Greater}
use Rattle.rev_num.specs.Path.{Path, same, before}
use Rattle.rev_num.specs.declared.outcome.Trap.{Trap}
use Rattle.revision_calculus.specs.State.{Local}
use Rattle.trace_diagram.specs.declared.diagram.Part.{Part}
use Rattle.trace_diagram.specs.declared.diagram.PartEnd.{PartEnd}
use Rattle.trace_diagram.specs.declared.diagram.PartEnd.TheVariants as part_end
use Rattle.audit_rules.specs.Parts.{cause_place, changes, end_at, event_of}

-- the part of the revision at this path, where these are the places of the locations
abbrev pub part_by : List (List ℕ) → Path → Local → Part
part_by places r l = record {
  path = r;
  events = map event_of l.noted;
  end = end_at places l.phase;
  fuel = l.fuel;
  written = changes places l.locations;
  text = l.text;
}

-- how a revision ended that has this trap, or none
abbrev pub end_by : List (List ℕ) → Option Trap → PartEnd
end_by places None = part_end.Done
end_by places (Some t) = part_end.Trapped t (cause_place places t.cause)

-- whether the first comes before the second in post-order
abbrev pub is_sooner : Part → Part → Bool
is_sooner p q = before p.path q.path

-- how the first stands to the second in post-order
abbrev pub post_order : Path → Path → Ordering
post_order p q = if before p q then Less else (if same p q then Equal else Greater)
