-- The first fault of code, in words: of its tables, and otherwise of its instructions.
--   IsCost         what a block costs, by the costs of the blocks before it
--   IsFine         a block keeps all rules, and costs this
--   AllFine        all blocks, each by the costs of those before it
--   IsInstrFault   the first fault of a block behind blocks that are fine
use Rattle.std.specs.Prelude.{ℕ, ◌≡◌, ◌-◌, ◌<◌, ◌⊎◌, ◌↔◌, Bool, true, false, List, length, take, Some, None, slice_get}
use Rattle.rev_code.specs.declared.code.Code.{Code}
use Rattle.rev_code.specs.declared.code.CodeBlock.{CodeBlock}
use Rattle.code_rules.specs.declared.Cost.{Cost}
use Rattle.code_rules.specs.declared.Fault.{Fault}
use Rattle.code_rules.specs.declared.Rule.{Rule}
use Rattle.code_rules.specs.declared.Rule.TheVariants as rule
use Rattle.code_rules.specs.Pass.{is_value_class, no_cost}
use Rattle.code_rules.specs.Tables.{names_well, is_small}
use Rattle.code_rules.specs.Verdict.{first_fault, of_tables}
use Rattle.code_ways.specs.Breaks.{IsDeepest, cost_upto}
use Rattle.code_ways.specs.First.{AllKeep, IsFirstFault}

-- up to its last instruction; what is no fun or merge costs nothing
abbrev pub IsCost : (is_value : Bool) → Code → List Cost → CodeBlock → Cost → Type 0
IsCost true code costs b c =
    (depth : ℕ) × IsDeepest code b (length b.instrs - 1) depth
    × (c ≡ cost_upto costs b (length b.instrs - 1) depth)
IsCost false code costs b c = c ≡ no_cost

pub record IsFine (code : Code) (costs : List Cost) (n : ℕ) (b : CodeBlock) (c : Cost) : Type 0 where
  pub some : 0 < length b.instrs
  pub keeps : AllKeep code costs n b
  pub cost : IsCost (is_value_class b.class) code costs b c

-- as many blocks as there are costs
abbrev pub AreFine : Code → List Cost → Type 0
AreFine code costs =
    (j : ℕ) (b : CodeBlock) (c : Cost) → slice_get code.blocks j ≡ Some b → slice_get costs j ≡ Some c
    → IsFine code (take j costs) j b c

pub record AllFine (code : Code) : Type 0 where
  pub costs : List Cost
  pub all : length costs ≡ length code.blocks
  pub fine : AreFine code costs

-- a block without instructions is at fault at 0
abbrev pub IsBlockFault : Code → List Cost → ℕ → CodeBlock → ℕ → Rule → Type 0
IsBlockFault code costs n b at r =
    ((length b.instrs ≡ 0) × (at ≡ 0) × (r ≡ rule.FallsOff)) ⊎ IsFirstFault code costs n b at r

pub record IsInstrFault (code : Code) (f : Fault) : Type 0 where
  pub costs : List Cost
  pub behind : length costs ≡ f.block
  pub fine : AreFine code costs
  pub body : CodeBlock
  pub is : slice_get code.blocks f.block ≡ Some body
  pub fault : IsBlockFault code costs f.block body f.at f.rule

abbrev pub IsFirst : (named small : Bool) → Code → Fault → Type 0
IsFirst false small code f = f ≡ of_tables rule.BadOperand
IsFirst true false code f = f ≡ of_tables rule.LimitOf
IsFirst true true code f = IsInstrFault code f

abbrev pub FirstFaultIsFirst : Type 0
FirstFaultIsFirst =
    (code : Code) (f : Fault)
    → (first_fault code ≡ Some f) ↔ IsFirst (names_well code) (is_small code) code f

abbrev pub NoFaultIsFine : Type 0
NoFaultIsFine =
    (code : Code)
    → (first_fault code ≡ None) ↔ ((names_well code ≡ true) × (is_small code ≡ true) × AllFine code)
