-- What `verify` answers.
use Rattle.std.specs.Prelude.{◌≡◌, ℕ, ◌<◌, ◌≤◌, ◌^◌, List, length, slice_get, Option, Some, None}
use Rattle.rev_code.specs.declared.code.Code.{Code}
use Rattle.rev_code.specs.declared.code.CodeBlock.{CodeBlock}
use Rattle.code_rules.specs.declared.Fault.{Fault}
use Rattle.code_rules.specs.declared.Rule.{Rule}
use Rattle.code_rules.specs.declared.Rule.TheVariants as rule
use Rattle.code_rules.specs.Verdict.{first_fault}
use Rattle.code_verifier.specs.declared.fault.CodeFault.{CodeFault}
use Rattle.code_verifier.specs.declared.fault.CodeFault.TheVariants as fault

abbrev pub with_rule : Rule → ℕ → ℕ → CodeFault
with_rule rule.BadJump block at = fault.BadJump block at
with_rule rule.BadOperand block at = fault.BadOperand block at
with_rule rule.StackShape block at = fault.StackShape block at
with_rule rule.WrongKind block at = fault.WrongKind block at
with_rule rule.BadLocal block at = fault.BadLocal block at
with_rule rule.FallsOff block at = fault.FallsOff block at
with_rule rule.LimitOf block at = fault.LimitOf block at

abbrev pub fault_of : Fault → CodeFault
fault_of f = with_rule f.rule f.block f.at

-- the numbers of a place fit 32 bits
abbrev pub IsPlace : Option Fault → Type 0
IsPlace None = Unit {0}
IsPlace (Some f) = (f.block < 2 ^ 32) × (f.at < 2 ^ 32)

-- each block is as small as its counts allow
abbrev pub AllSmall : List CodeBlock → Type 0
AllSmall blocks = (n : ℕ) (b : CodeBlock) → slice_get blocks n ≡ Some b → (length b.locals ≤ 64)
    × (length b.instrs < 2 ^ 32)

-- the pass over tables and instructions finds no fault
abbrev pub KeepsRules : Code → Type 0
KeepsRules code = first_fault code ≡ None

-- refused, and not for want of memory: at the first fault of the code, by its first rule
abbrev pub IsRefusal : Code → CodeFault → Type 0
IsRefusal code fault.OutOfMemory = Unit {0}
IsRefusal code e = (f : Fault) × (first_fault code ≡ Some f) × (e ≡ fault_of f)
