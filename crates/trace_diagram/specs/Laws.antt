-- Laws of trace texts.
use Rattle.std.specs.Prelude.{◌≡◌, ◌↔◌, ℕ, List}
use Rattle.trace_diagram.specs.Traces.{IsFirstFault, IsPart, IsTextOf, IsTraceText, part_lines}
use Rattle.trace_diagram.specs.Shown.{shown_part}
use Rattle.trace_diagram.specs.declared.diagram.Part.{Part}
use Rattle.trace_diagram.specs.declared.diagram.Trace.{Trace}

-- a trace has one text
abbrev pub TracesHaveOneText : Type 0
TracesHaveOneText = (t : Trace) (a b : List ℕ) → IsTextOf a t → IsTextOf b t → a ≡ b

-- what has a first fault is no trace text
abbrev pub FaultsAreNoTexts : Type 0
FaultsAreNoTexts = (bytes : List ℕ) (at : ℕ) → IsFirstFault bytes at → IsTraceText bytes → ⊥

-- there is one first fault at most
abbrev pub FirstFaultsAreUnique : Type 0
FirstFaultsAreUnique = (bytes : List ℕ) (at at' : ℕ) → IsFirstFault bytes at → IsFirstFault bytes at' → at ≡ at'

-- parts have the same lines where they are the same but for the numbers of the locations of merges
abbrev pub PartsAreTold : Type 0
PartsAreTold =
    (p q : Part) → IsPart p → IsPart q → (part_lines p ≡ part_lines q) ↔ (shown_part p ≡ shown_part q)
