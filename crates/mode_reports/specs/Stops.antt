-- How the code answers: by a value, a refusal, or want of memory.
use Rattle.std.specs.Prelude.{ℕ, List, Option, Some, None, Result, Ok, Err, ⊤}
use Rattle.rev_io.specs.declared.ReadText.{ReadText}
use Rattle.rev_io.specs.declared.ReadText.TheVariants as text
use Rattle.rev_words.specs.declared.fault.WordsFault.{WordsFault}
use Rattle.rev_words.specs.declared.fault.WordsFault.TheVariants as words
use Rattle.rev_report.specs.declared.refusal.Refusal.{Refusal}
use Rattle.rev_report.specs.declared.refusal.Refusal.TheVariants as refusals
use Rattle.rev_parse.specs.declared.whole.SyntaxFault.{SyntaxFault}
use Rattle.rev_parse.specs.declared.whole.SyntaxFault.TheVariants as syntax
use Rattle.rev_report.specs.declared.fault.TextFault.TheVariants as fault
use Rattle.mode_reports.specs.Texts.{fault_at, unexpected_at}
use Rattle.mode_reports.specs.declared.stop.Stop.{Stop}
use Rattle.mode_reports.specs.declared.stop.Stop.TheVariants as stops

-- what is answered belongs there, unless memory runs out
abbrev pub Meets : {X Y : Type 0} → (X → Y) → Result X Stop → (Result Y Refusal → Type 0) → Type 0
Meets view (Ok x) Belongs = Belongs (Ok (view x))
Meets view (Err (stops.Refused f)) Belongs = Belongs (Err f)
Meets view (Err stops.OutOfMemory) Belongs = ⊤

-- ---- what `?` makes of the errors of the calls

abbrev pub stop_of_words : WordsFault → Stop
stop_of_words words.Usage = stops.Refused refusals.Usage
stop_of_words words.OutOfMemory = stops.OutOfMemory

abbrev pub stop_of_reading : ReadText → Stop
stop_of_reading text.Fault = stops.Refused refusals.ReadFault
stop_of_reading text.TooLong = stops.Refused refusals.TooLong
stop_of_reading text.OutOfMemory = stops.OutOfMemory

-- ---- what is made of the faults of a text

abbrev pub stop_of : Option Refusal → Stop
stop_of (Some r) = stops.Refused r
stop_of None = stops.OutOfMemory

abbrev pub report_of_syntax : List ℕ → SyntaxFault → Option Refusal
report_of_syntax text (syntax.Unexpected at) = Some (fault_at text at (unexpected_at text at))
report_of_syntax text (syntax.TooDeep at) = Some (fault_at text at fault.TooDeep)
report_of_syntax text syntax.OutOfMemory = None
