-- The value of a fun or merge, on the area of words.
--   IsArgs      the words from a place on stand for arguments of a block's kinds
--   IsValue     an answer stands for the value of a fun
--   HasRoom     the area has what the block needs, with the funs that it applies
use Rattle.std.specs.Prelude.{ℕ, ◌≡◌, ◌+◌, ◌≤◌, List, length, take, drop, Option, Some, None, Result, Ok, Err, slice_get}
use Rattle.rev_num.specs.declared.value.NumFault.{NumFault}
use Rattle.rev_num.specs.declared.outcome.Cause.{Cause}
use Rattle.rev_code.specs.declared.code.Code.{Code}
use Rattle.rev_code.specs.declared.code.CodeBlock.{CodeBlock}
use Rattle.rev_code.specs.declared.code.Instr.TheVariants as i
use Rattle.fun_run.specs.declared.evaluation.Then.{Then}
use Rattle.fun_run.specs.declared.evaluation.Then.TheVariants as turn
use Rattle.rev_code.specs.Words.{Word}
use Rattle.rev_code.specs.Step.{cause_of, params}
use Rattle.code_rules.specs.declared.Cost.{Cost}
use Rattle.code_soundness.specs.Typed.{kinds_of}
use Rattle.code_soundness.specs.AcceptedCode.{AreCosts}
use Rattle.block_run.specs.Agreement.{IsWord, AreWords}

pub record IsArgs (code : Code) (n : ℕ) (args : List (Word ℕ)) (ws : List ℕ) (low : ℕ) : Type 0 where
  pub body : CodeBlock
  pub is : slice_get code.blocks n ≡ Some body
  pub kinds : kinds_of args ≡ params body
  pub words : AreWords args (take (length args) (drop low ws))

abbrev pub IsValue : Option (Result (Word ℕ) Cause) → Result ℕ NumFault → Type 0
IsValue None v = ⊥
IsValue (Some (Ok x)) (Ok w) = IsWord x w
IsValue (Some (Ok x)) (Err f) = ⊥
IsValue (Some (Err e)) (Ok w) = ⊥
IsValue (Some (Err e)) (Err f) = e ≡ cause_of f

pub record HasRoom (code : Code) (n low size : ℕ) : Type 0 where
  pub costs : List Cost
  pub are : AreCosts code costs
  pub cost : Cost
  pub is : slice_get costs n ≡ Some cost
  pub room : low + cost.need ≤ size

-- what stands at a place of a fun or merge where an instruction leaves the block
abbrev pub IsThen : CodeBlock → ℕ → Then → Type 0
IsThen b at (turn.Applies k) = slice_get b.instrs at ≡ Some (i.Apply k)
IsThen b at turn.Gives = slice_get b.instrs at ≡ Some i.Return
