-- What bytes are as a code file: code that keeps all rules, or at fault; and how the first fault is reported.
--
-- A fault of the file comes before one of its code.
use Rattle.std.specs.Prelude.{◌≡◌, ℕ, List, [], Option, Some, None, Result, Ok, Err}
use Rattle.rev_code.specs.declared.code.Code.{Code}
use Rattle.code_file.specs.Fields.{Got}
use Rattle.code_file.specs.Laws.{IsFirstFault}
use Rattle.code_file.specs.Reads.{reading}
use Rattle.code_file.specs.declared.fault.ReadFault.{ReadFault}
use Rattle.code_file.specs.declared.fault.ReadFault.TheVariants as read
use Rattle.code_verifier.specs.Verdicts.{IsRefusal, KeepsRules}
use Rattle.code_verifier.specs.declared.fault.CodeFault.{CodeFault}
use Rattle.code_verifier.specs.declared.fault.CodeFault.TheVariants as code
use Rattle.rev_report.specs.declared.code_fault.FileFault.TheVariants as file
use Rattle.rev_report.specs.declared.code_fault.InstructionFault.TheVariants as instruction
use Rattle.rev_report.specs.declared.refusal.Refusal.{Refusal}
use Rattle.rev_report.specs.declared.refusal.Refusal.TheVariants as refusals
use Rattle.mode_reports.specs.Stages.{Reports, Then}

-- ---- how faults are reported; want of memory is no fault of a file or of code

abbrev pub report_of_file : ReadFault → Option Refusal
report_of_file read.BadMagic = Some refusals.BadMagic
report_of_file read.BadVersion = Some refusals.BadVersion
report_of_file (read.Truncated at) = Some (refusals.File at file.Truncated)
report_of_file (read.BadField at) = Some (refusals.File at file.BadField)
report_of_file (read.Trailing at) = Some (refusals.File at file.Trailing)
report_of_file read.OutOfMemory = None

abbrev pub report_of_code : CodeFault → Option Refusal
report_of_code (code.BadJump block at) = Some (refusals.Code block at instruction.BadJump)
report_of_code (code.BadOperand block at) = Some (refusals.Code block at instruction.BadOperand)
report_of_code (code.StackShape block at) = Some (refusals.Code block at instruction.StackShape)
report_of_code (code.WrongKind block at) = Some (refusals.Code block at instruction.WrongKind)
report_of_code (code.BadLocal block at) = Some (refusals.Code block at instruction.BadLocal)
report_of_code (code.FallsOff block at) = Some (refusals.Code block at instruction.FallsOff)
report_of_code (code.LimitOf block at) = Some (refusals.Code block at instruction.OverLimit)
report_of_code code.OutOfMemory = None

-- ---- the stages

-- the code that is read of the bytes, or their first fault
abbrev pub ReadsFile : List ℕ → Result Code Refusal → Type 0
ReadsFile bytes (Ok c) = reading bytes ≡ Got c []
ReadsFile bytes (Err r) = Reports (IsFirstFault bytes) report_of_file r

-- the code, where it keeps all rules, or the first fault that the verifier finds in it
abbrev pub KeepsCodeRules : Code → Result Code Refusal → Type 0
KeepsCodeRules c (Ok d) = (d ≡ c) × KeepsRules c
KeepsCodeRules c (Err r) = Reports (IsRefusal c) report_of_code r

-- the code of which the bytes are the file, where it keeps all rules, or its first fault
unfoldable pub ChecksCode : List ℕ → Result Code Refusal → Type 0
ChecksCode bytes = Then (ReadsFile bytes) KeepsCodeRules
