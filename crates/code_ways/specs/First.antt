-- The first instruction of a block that breaks a rule, and there the first rule.
--   KeepsAll        an instruction breaks no rule
--   BreaksFirst     an instruction breaks a rule, and none of those before it
--   IsFirstFault    so does the instruction at this place, and no instruction before it breaks any
use Rattle.std.specs.Prelude.{ℕ, ◌≡◌, ◌<◌, ◌↔◌, List, length, Some, Ok, Err, slice_get}
use Rattle.rev_code.specs.declared.code.Code.{Code}
use Rattle.rev_code.specs.declared.code.CodeBlock.{CodeBlock}
use Rattle.rev_code.specs.declared.code.Instr.{Instr}
use Rattle.code_rules.specs.declared.Cost.{Cost}
use Rattle.code_rules.specs.declared.Rule.{Rule}
use Rattle.code_rules.specs.declared.Rule.TheVariants as rule
use Rattle.code_rules.specs.Pass.{block_fault}
use Rattle.code_ways.specs.Breaks.{Breaks}

-- the rules in their order
abbrev pub rule_number : Rule → ℕ
rule_number rule.BadJump = 1
rule_number rule.BadOperand = 2
rule_number rule.StackShape = 3
rule_number rule.WrongKind = 4
rule_number rule.BadLocal = 5
rule_number rule.FallsOff = 6
rule_number rule.LimitOf = 7

abbrev pub KeepsAll : Code → List Cost → ℕ → CodeBlock → ℕ → Instr → Type 0
KeepsAll code costs n b at x = (r : Rule) → Breaks code costs n b at x r → ⊥

pub record BreaksFirst (code : Code) (costs : List Cost) (n : ℕ) (b : CodeBlock) (at : ℕ) (x : Instr)
    (r : Rule) : Type 0 where
  pub breaks : Breaks code costs n b at x r
  pub first : (q : Rule) → rule_number q < rule_number r → Breaks code costs n b at x q → ⊥

pub record IsFirstFault (code : Code) (costs : List Cost) (n : ℕ) (b : CodeBlock) (at : ℕ) (r : Rule)
    : Type 0 where
  pub instr : Instr
  pub is : slice_get b.instrs at ≡ Some instr
  pub breaks : BreaksFirst code costs n b at instr r
  pub before : (j : ℕ) (x : Instr) → j < at → slice_get b.instrs j ≡ Some x → KeepsAll code costs n b j x

abbrev pub AllKeep : Code → List Cost → ℕ → CodeBlock → Type 0
AllKeep code costs n b = (j : ℕ) (x : Instr) → slice_get b.instrs j ≡ Some x → KeepsAll code costs n b j x

-- the pass refuses a block that has instructions exactly at its first fault
abbrev pub PassFindsFirst : Type 0
PassFindsFirst =
    (code : Code) (costs : List Cost) (n : ℕ) (b : CodeBlock) → 0 < length b.instrs → (at : ℕ) (r : Rule)
    → (block_fault code costs n b ≡ Err (at, r)) ↔ IsFirstFault code costs n b at r

-- and accepts it exactly where each instruction keeps all rules
abbrev pub PassAccepts : Type 0
PassAccepts =
    (code : Code) (costs : List Cost) (n : ℕ) (b : CodeBlock) → 0 < length b.instrs
    → ((cost : Cost) × (block_fault code costs n b ≡ Ok cost)) ↔ AllKeep code costs n b
