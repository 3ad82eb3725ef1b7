-- The trace of verified code.
--   IsTraceIn     the trace of a world, and none where a revision was joined twice
--   HasTrace      that of the world after every complete schedule
--   IsNotedAfter  the notes of a world after a complete schedule
--   TracesAreOfPrograms
--                 the trace of a program's code is that of the program
use Rattle.std.specs.Prelude.{ℕ, List, Option, Some, None}
use Rattle.trace_diagram.specs.declared.diagram.Trace.{Trace}
use Rattle.revision_machine.specs.Numbered.{World, Both, Listing}
use Rattle.revision_calculus.specs.Kinded.{IsAccepted}
use Rattle.revision_calculus.specs.Program.{Setting}
use Rattle.code_machine.specs.Local.{CodeRun, Local}
use Rattle.code_machine_laws.specs.Outcomes.{IsCompleteRun}
use Rattle.code_traces.specs.Traces.{run_of}
use Rattle.audit_rules.specs.Traced as program
use Rattle.world_runs.specs.declared.noted.Noted.{Noted}
use Rattle.world_runs.specs.Notes.{NotesOf}
use Rattle.code_traces.specs.Traces.{IsTraceOf}
use Rattle.code_runs.specs.Completed.{IsAfter}
use Rattle.code_world.specs.declared.world.World as rust

abbrev pub IsTraceIn : CodeRun → World (Local ℕ) → Option Trace → Type 0
IsTraceIn g Both None = Unit {0}
IsTraceIn g Both (Some t) = ⊥
IsTraceIn g (Listing w) None = ⊥
IsTraceIn g (Listing w) (Some t) = IsTraceOf g (Listing w) t.parts

-- some schedule of `main` with this fuel is complete, and the world after each complete one has
-- this trace
pub record HasTrace (g : CodeRun) (fuel : ℕ) (t : Option Trace) : Type 0 where
  pub schedule : List ℕ
  pub world : World (Local ℕ)
  pub complete : IsCompleteRun g fuel schedule world
  pub each : (ns : List ℕ) (w : World (Local ℕ)) → IsCompleteRun g fuel ns w → IsTraceIn g w t

pub record IsNotedAfter (g : CodeRun) (fuel : ℕ) (v : rust.World) (notes : List Noted)
    : Type 0 where
  pub after : IsAfter g fuel v
  pub noted : NotesOf g after.world notes

-- ---- laws

-- of every program that the checker accepts, with every input, share and fuel
abbrev pub TracesAreOfPrograms : Type 0
TracesAreOfPrograms =
    (s : Setting) → IsAccepted s.program → (fuel : ℕ) (t : Option Trace)
    → HasTrace (run_of s) fuel t → program.HasTrace s fuel t
