-- What is written of a refusal.
use Rattle.std.specs.Prelude.{ℕ, List, ◌++◌, codes, Result, Ok, Err}
use Rattle.std.specs.Fmt.{decimal}
use Rattle.rev_num.specs.Path.{Path}
use Rattle.rev_num.specs.Text.{path_text}
use Rattle.rev_report.specs.Status.{read_fault_status, refused_status, usage_status}
use Rattle.rev_report.specs.Lines.{with_line_feed}
use Rattle.rev_report.specs.Report.{Output, failed}
use Rattle.rev_report.specs.Faults.{name_of_fault, name_of_file_fault, name_of_instruction_fault}
pub use Rattle.rev_report.specs.Limits.{more_than}
use Rattle.rev_report.specs.declared.fault.Place.{Place}
use Rattle.rev_report.specs.declared.refusal.Refusal.{Refusal}
use Rattle.rev_report.specs.declared.refusal.Refusal.TheVariants as refusals

-- what is said of a place of the text
abbrev pub at_place : Place → List ℕ → List ℕ
at_place p what =
    codes "error: line " ++ (decimal p.line ++ (codes " column " ++ (decimal p.column ++ (codes ": " ++ what))))

-- what is said of a byte of a code file
abbrev pub at_byte : ℕ → List ℕ → List ℕ
at_byte at what = codes "error: code byte " ++ (decimal at ++ (codes ": " ++ what))

-- what is said of an instruction of code, by the numbers of its block and of itself
abbrev pub at_instruction : ℕ → ℕ → List ℕ → List ℕ
at_instruction block at what =
    codes "error: block " ++ (decimal block ++ (codes " instruction " ++ (decimal at ++ (codes ": " ++ what))))

-- what is said of the line of a trace that begins at a byte
abbrev pub malformed : ℕ → List ℕ
malformed at = codes "error: trace byte " ++ (decimal at ++ codes ": malformed")

-- what is said of an entry of a schedule, and of the revision that it names
abbrev pub cannot_step : ℕ → ℕ → List ℕ
cannot_step entry revision =
    codes "error: schedule entry "
    ++ (decimal entry ++ (codes ": revision " ++ (decimal revision ++ codes " cannot step")))

-- what is said of a revision whose part in a trace is another than it should be
abbrev pub differs : Path → List ℕ
differs revision = codes "error: revision " ++ (path_text revision ++ codes " differs")

abbrev pub message : Refusal → List ℕ
message refusals.Usage = codes "usage: revise MODE [options] [numbers]"
message refusals.ReadFault = codes "error: read fault"
message refusals.TooLong = codes "error: source too long"
message (refusals.Text place fault) = at_place place (name_of_fault fault)
message (refusals.OverLimit place limit which) = at_place place (more_than limit which)
message refusals.BadMagic = codes "error: bad magic"
message refusals.BadVersion = codes "error: bad version"
message (refusals.File at fault) = at_byte at (name_of_file_fault fault)
message (refusals.Code block at fault) = at_instruction block at (name_of_instruction_fault fault)
message (refusals.Trace at) = malformed at
message (refusals.Schedule entry revision) = cannot_step entry revision
message (refusals.Differs revision) = differs revision

abbrev pub status_of : Refusal → ℕ
status_of refusals.Usage = usage_status
status_of refusals.ReadFault = read_fault_status
status_of refusals.TooLong = refused_status
status_of (refusals.Text place fault) = refused_status
status_of (refusals.OverLimit place limit which) = refused_status
status_of refusals.BadMagic = refused_status
status_of refusals.BadVersion = refused_status
status_of (refusals.File at fault) = refused_status
status_of (refusals.Code block at fault) = refused_status
status_of (refusals.Trace at) = refused_status
status_of (refusals.Schedule entry revision) = refused_status
status_of (refusals.Differs revision) = refused_status

-- the message and a line feed on standard error
abbrev pub refused : Refusal → Output
refused f = failed (status_of f) (message f)

-- what is written of an answer: of an output itself, or of a refusal
abbrev pub shown : Result Output Refusal → Output
shown (Ok o) = o
shown (Err f) = refused f

-- the message for want of memory
abbrev pub no_memory : List ℕ
no_memory = with_line_feed (codes "error: out of memory")
