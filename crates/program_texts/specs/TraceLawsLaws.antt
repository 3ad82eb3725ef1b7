-- Each list of bytes is a trace text or goes wrong somewhere first.
use Rattle.std.specs.Prelude.{◌⊎◌, ℕ, List}
use Rattle.trace_diagram.specs.Traces.{IsFirstFault, IsTraceText}

-- the bytes may be any numbers
abbrev pub EachIsReadOrFails : Type 0
EachIsReadOrFails = (bytes : List ℕ) → IsTraceText bytes ⊎ ((at : ℕ) × IsFirstFault bytes at)
