-- The trace of a program.
use Rattle.std.specs.Prelude.{◌≡◌, ℕ, Option, Some, None}
use Rattle.revision_machine.specs.Machine.{Global, Twice}
use Rattle.revision_calculus.specs.Program.{Setting}
use Rattle.revision_calculus.specs.State.{Local}
use Rattle.revision_calculus.specs.Complete.{Always}
use Rattle.trace_diagram.specs.declared.diagram.Trace.{Trace}
use Rattle.audit_rules.specs.Traces.{IsTrace}

-- this is the trace of the state, and there is none where a revision was joined twice
abbrev pub IsTraceAt : Setting → Option Trace → Global Local → Type 0
IsTraceAt s None g = g ≡ Twice
IsTraceAt s (Some t) g = IsTrace s g t.parts

-- there is a complete run of the program, and the final state of every complete run, whatever the order of its steps,
-- has this trace
abbrev pub HasTrace : Setting → ℕ → Option Trace → Type 0
HasTrace s fuel t = Always s fuel (IsTraceAt s t)
