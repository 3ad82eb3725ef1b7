-- What a text tells of a part: all but the number of the location whose merge faulted.
use Rattle.rev_num.specs.declared.outcome.Cause.{Cause}
use Rattle.rev_num.specs.declared.outcome.Cause.TheVariants as cause
use Rattle.trace_diagram.specs.declared.diagram.Part.{Part}
use Rattle.trace_diagram.specs.declared.diagram.PartEnd.{PartEnd}
use Rattle.trace_diagram.specs.declared.diagram.PartEnd.TheVariants as part_end

-- a cause, with 0 in place of the location of its merge
abbrev pub cause_shown : Cause → Cause
cause_shown (cause.Merge n f) = cause.Merge 0 f
cause_shown c = c

abbrev pub end_shown : PartEnd → PartEnd
end_shown part_end.Done = part_end.Done
end_shown (part_end.Trapped t p) = part_end.Trapped (record t { cause = cause_shown t.cause }) p

abbrev pub shown_part : Part → Part
shown_part p = record p { end = end_shown p.end }
