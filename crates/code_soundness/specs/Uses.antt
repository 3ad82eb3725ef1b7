-- What the evaluation of a fun or merge uses, in the form of its value (`Funs.antt` of `rev_code`).
--   Use         how many instructions are evaluated, those of applied funs among them; and how many
--               words there are at most at once: locals and stack of a frame, and those of the fun
--               that it applies
--   run_use     what a run uses
--   uses        what blocks use, each under the values and the uses of those before it
--   block_use   what the evaluation of a block uses for arguments
use Rattle.std.specs.Prelude.{ℕ, zero, suc, ◌≡◌, ◌≤◌, ◌+◌, max, true, List, [], ◌∷◌, ◌++◌, length, take, Option, Some, None, slice_get}
use Rattle.rev_code.specs.declared.code.Code.{Code}
use Rattle.rev_code.specs.declared.code.CodeBlock.{CodeBlock}
use Rattle.rev_code.specs.declared.code.Instr.{Instr}
use Rattle.rev_code.specs.declared.code.Instr.TheVariants as i
use Rattle.rev_code.specs.Words.{Word}
use Rattle.rev_code.specs.State.{Fun, Setting, State}
use Rattle.rev_code.specs.Step.{Comes, goes, traps, forks, joins, ends, stuck, step, params, arguments}
use Rattle.rev_code.specs.Funs.{fun_start, setting_of_fun, values}
use Rattle.code_rules.specs.declared.Cost.{Cost}
use Rattle.code_rules.specs.Pass.{is_value_class, most_need, most_count}
use Rattle.code_rules.specs.Verdict.{first_fault}
use Rattle.code_soundness.specs.Typed.{kinds_of}
use Rattle.code_soundness.specs.AcceptedCode.{AreCosts}

pub record Use : Type 0 where
  pub count : ℕ
  pub need : ℕ

abbrev pub no_use : Use
no_use = record { count = 0; need = 0 }

-- the one and then the other
abbrev pub and_then : Use → Use → Use
and_then u v = record { count = u.count + v.count; need = max u.need v.need }

-- for arguments
abbrev pub UseOf : Type 0 → Type 0
UseOf H = List (Word H) → Use

abbrev pub use_for : {H : Type 0} → Option (UseOf H) → Option (List (Word H)) → Use
use_for None args = no_use
use_for (Some f) None = no_use
use_for (Some f) (Some args) = f args

abbrev pub arguments_for : {H : Type 0} → Option CodeBlock → List (Word H) → Option (List (Word H))
arguments_for None stack = None
arguments_for (Some b) stack = arguments (params b) stack

-- of the fun that an instruction applies, for the arguments on the stack
abbrev pub applied_use : {H : Type 0} → Code → List (UseOf H) → Option Instr → List (Word H) → Use
applied_use code before (Some (i.Apply n)) stack =
    use_for (slice_get before n) (arguments_for (slice_get code.blocks n) stack)
applied_use code before _ stack = no_use

-- of the instruction of a block at which a state is
abbrev pub step_use : {H : Type 0} → Code → List (UseOf H) → CodeBlock → State H → Use
step_use code before b c =
    let applied = applied_use code before (slice_get b.instrs c.at) c.stack in
    record { count = suc applied.count; need = length c.locals + length c.stack + applied.need }

abbrev pub onward_use : {H : Type 0} → (State H → Use) → Comes H → Use
onward_use f (goes c) = f c
onward_use f (traps c e) = no_use
onward_use f (forks c n args) = no_use
onward_use f (joins c try h) = no_use
onward_use f (ends c w) = no_use
onward_use f stuck = no_use

-- of at most so many further instructions
abbrev pub run_use : {H : Type 0} → Setting H → List (UseOf H) → CodeBlock → ℕ → State H → Use
run_use s before b zero c = step_use s.code before b c
run_use s before b (suc k) c =
    and_then (step_use s.code before b c) (onward_use (λ c'. run_use s before b k c') (step s c))

-- of block n, where the blocks before it have these values and uses
abbrev pub use_of : {H : Type 0} → Code → List (Fun H) → List (UseOf H) → ℕ → CodeBlock → UseOf H
use_of code funs before n b =
    λ args. run_use (setting_of_fun code funs) before b (length b.instrs) (fun_start n b args)

-- of blocks, of which the first has this number and these before it
abbrev pub uses_from : {H : Type 0} → Code → List (UseOf H) → ℕ → List CodeBlock → List (UseOf H)
uses_from code before n [] = before
uses_from code before n (b ∷ bs) =
    uses_from code (before ++ use_of code (take n (values code)) before n b ∷ []) (suc n) bs

abbrev pub uses : {H : Type 0} → Code → List (UseOf H)
uses code = uses_from code [] 0 code.blocks

abbrev pub block_use : {H : Type 0} → Code → ℕ → CodeBlock → UseOf H
block_use code n b = use_of code (take n (values code)) (take n (uses code)) n b

-- ---- laws

-- a block that is applied later uses there what it uses here
abbrev pub UsesAreByBlocks : Type 0 → Type 0
UsesAreByBlocks H =
    (code : Code) (n : ℕ) (b : CodeBlock) → slice_get code.blocks n ≡ Some b
    → slice_get (uses {H = H} code) n ≡ Some (block_use code n b)

pub record IsWithin (u : Use) (c : Cost) : Type 0 where
  pub count : u.count ≤ c.count
  pub need : u.need ≤ c.need

-- the evaluation of a fun or merge uses at most what the verifier says that it costs
abbrev pub FunsKeepTheirCosts : Type 0 → Type 0
FunsKeepTheirCosts H =
    (code : Code) → first_fault code ≡ None → (costs : List Cost) → AreCosts code costs
    → (n : ℕ) (b : CodeBlock) → slice_get code.blocks n ≡ Some b → is_value_class b.class ≡ true
    → (c : Cost) → slice_get costs n ≡ Some c
    → (args : List (Word H)) → kinds_of args ≡ params b → IsWithin (block_use code n b args) c

abbrev pub limits : Cost
limits = record { need = most_need; count = most_count }

abbrev pub FunsKeepLimits : Type 0 → Type 0
FunsKeepLimits H =
    (code : Code) → first_fault code ≡ None
    → (n : ℕ) (b : CodeBlock) → slice_get code.blocks n ≡ Some b → is_value_class b.class ≡ true
    → (args : List (Word H)) → kinds_of args ≡ params b → IsWithin (block_use code n b args) limits
