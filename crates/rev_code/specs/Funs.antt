-- The values of funs and merges. The block of a fun is run alone, in a frame of its own, under the values of the blocks
-- before it; its value is the word with which it returns, or the cause of its trap. Jumps in a fun lead forward, so a
-- run of no more instructions than the block has is a whole run.
use Rattle.std.specs.Prelude.{ℕ, suc, ℤ, if◌then◌else◌, List, [], ◌∷◌, ◌++◌, length, Option, Some, None, Result, Ok, Err}
use Rattle.rev_num.specs.declared.outcome.Cause.{Cause}
use Rattle.rev_code.specs.declared.code.Code.{Code}
use Rattle.rev_code.specs.declared.code.CodeBlock.{CodeBlock}
use Rattle.rev_code.specs.Words.{Word, fits}
use Rattle.rev_code.specs.State.{Fun, Setting, State}
use Rattle.rev_code.specs.Step.{Comes, traps, ends, first_locals, params, reach}

-- the first state of a fun or merge: a frame alone
abbrev pub fun_start : {H : Type 0} → ℕ → CodeBlock → List (Word H) → State H
fun_start n b args = record {
  block = n;
  at = 0;
  locals = first_locals b args;
  stack = [];
  below = [];
  locations = [];
  fuel = 0;
  forks = 0;
  listed = [];
  text = [];
  line = 0;
}

abbrev pub answer : {H : Type 0} → Comes H → Option (Result (Word H) Cause)
answer (ends c (Some w)) = Some (Ok w)
answer (traps c e) = Some (Err e)
answer _ = None

-- what a fun sees: the code, and the values of the blocks before it
abbrev pub setting_of_fun : {H : Type 0} → Code → List (Fun H) → Setting H
setting_of_fun code before = record { code = code; funs = before; inputs = []; share = 0 }

-- the value of block n
abbrev pub value_of : {H : Type 0} → Code → List (Fun H) → ℕ → CodeBlock → Fun H
value_of code before n b = λ args.
    if fits (params b) args then answer (reach (setting_of_fun code before) (length b.instrs) (fun_start n b args))
    else None

-- the values of blocks, of which the first has this number and these before it
abbrev pub values_from : {H : Type 0} → Code → List (Fun H) → ℕ → List CodeBlock → List (Fun H)
values_from code before n [] = before
values_from code before n (b ∷ bs) = values_from code (before ++ value_of code before n b ∷ []) (suc n) bs

abbrev pub values : {H : Type 0} → Code → List (Fun H)
values code = values_from code [] 0 code.blocks

-- what a program runs under: the code, with the values of its funs
abbrev pub setting : {H : Type 0} → Code → List ℤ → (share : ℕ) → Setting H
setting code inputs share = record { code = code; funs = values code; inputs = inputs; share = share }
