-- What a text is to a mode that asks for the affine rule: a program that keeps it, or at fault.
--
-- A fault of the text comes before a breach of the rule; of these the one at the least place, and
-- there the one of the least number, is reported.
use Rattle.std.specs.Prelude.{ℕ, ◌≡◌, List, Option, Some, None, Result, Ok, Err}
use Rattle.rev_syntax.specs.Trees.{ProgramTree}
use Rattle.affine_check.specs.Affine.{Breach, copied, stored, used_twice, in_loop, Breakage, IsAffine, IsFirstBroken}
use Rattle.rev_report.specs.declared.fault.TextFault.{TextFault}
use Rattle.rev_report.specs.declared.fault.TextFault.TheVariants as fault
use Rattle.rev_report.specs.declared.refusal.Refusal.{Refusal}
use Rattle.affine_check.specs.declared.fault.AffineFault.{AffineFault}
use Rattle.affine_check.specs.declared.fault.AffineFault.TheVariants as affine
use Rattle.mode_reports.specs.Stages.{Then}
use Rattle.mode_reports.specs.Texts.{Checks, fault_at}

abbrev pub breach_fault : Breach → TextFault
breach_fault copied = fault.Copied
breach_fault stored = fault.Stored
breach_fault used_twice = fault.UsedTwice
breach_fault in_loop = fault.InLoop

-- the program, where it keeps the affine rule, or its first breach
abbrev pub KeepsAffine : List ℕ → ProgramTree → Result ProgramTree Refusal → Type 0
KeepsAffine text p (Ok q) = (q ≡ p) × IsAffine p
KeepsAffine text p (Err r) =
    (f : Breakage) × IsFirstBroken p f × (r ≡ fault_at text f.at (breach_fault f.how))

-- the program that the text is, where it keeps all rules and the affine rule, or its first fault
abbrev pub ReadsAffine : List ℕ → Result ProgramTree Refusal → Type 0
ReadsAffine text = Then (Checks text) (KeepsAffine text)

-- how the checker's faults are reported
abbrev pub report_of_affine : List ℕ → AffineFault → Option Refusal
report_of_affine text (affine.Copied at) = Some (fault_at text at fault.Copied)
report_of_affine text (affine.Stored at) = Some (fault_at text at fault.Stored)
report_of_affine text (affine.UsedTwice at) = Some (fault_at text at fault.UsedTwice)
report_of_affine text (affine.InLoop at) = Some (fault_at text at fault.InLoop)
report_of_affine text affine.OutOfMemory = None
