-- Funs and merges have values.
--   HasValue        a value of that kind, or a fault of arithmetic
--   IsFunStep       what a step comes to while a fun is evaluated: a later place of the same frame, a
--                   fault of arithmetic, or a result of the block's kind
use Rattle.std.specs.Prelude.{ℕ, ◌≡◌, ◌<◌, ◌⊎◌, true, List, [], ◌∷◌, take, Option, Some, None, Result, Ok, Err, ℤ, slice_get}
use Rattle.rev_num.specs.declared.value.ValueKind.{ValueKind}
use Rattle.rev_num.specs.declared.value.ValueKind.TheVariants as k
use Rattle.rev_num.specs.declared.outcome.Cause.{Cause}
use Rattle.rev_num.specs.declared.outcome.Cause.TheVariants as cause
use Rattle.rev_code.specs.declared.code.Code.{Code}
use Rattle.rev_code.specs.declared.code.CodeBlock.{CodeBlock}
use Rattle.rev_code.specs.declared.code.CodeVar.{CodeVar}
use Rattle.rev_code.specs.Words.{Word, int, kind_of}
use Rattle.rev_code.specs.State.{State}
use Rattle.rev_code.specs.Step.{Comes, goes, traps, forks, joins, ends, stuck, step, params, value_at}
use Rattle.rev_code.specs.Funs.{fun_start, setting_of_fun, value_of, values}
use Rattle.code_rules.specs.Pass.{Note, is_value_class}
use Rattle.code_soundness.specs.Typed.{kinds_of, IsTyped}
use Rattle.code_soundness.specs.AcceptedCode.{IsAccepted}

abbrev pub IsArithmetic : Cause → Type 0
IsArithmetic e = (e ≡ cause.Overflow) ⊎ (e ≡ cause.ZeroDivisor)

abbrev pub HasValue : {H : Type 0} → (result : Option ValueKind) → Option (Result (Word H) Cause) → Type 0
HasValue result' None = ⊥
HasValue result' (Some (Ok w)) = result' ≡ Some (kind_of w)
HasValue result' (Some (Err e)) = IsArithmetic e

-- each fun and merge, for arguments of its parameters' kinds
abbrev pub FunsHaveValues : Type 0 → Type 0
FunsHaveValues H =
    (code : Code) (notes : ℕ → ℕ → Note) → IsAccepted code notes
    → (n : ℕ) (b : CodeBlock) → slice_get code.blocks n ≡ Some b → is_value_class b.class ≡ true
    → (args : List (Word H)) → kinds_of args ≡ params b
    → HasValue b.result (value_at (slice_get (values code) n) args)

-- what the merge of a variable gives for three ints
abbrev pub merged : (H : Type 0) → Code → CodeVar → (x y z : ℤ) → Option (Result (Word H) Cause)
merged H code v x y z = value_at (slice_get (values code) v.merge) (int x ∷ int y ∷ int z ∷ [])

-- the merge of each cumulative variable, for three ints: an int, as the variable is, or a fault of
-- arithmetic
abbrev pub MergesHaveInts : Type 0 → Type 0
MergesHaveInts H =
    (code : Code) (notes : ℕ → ℕ → Note) → IsAccepted code notes
    → (n : ℕ) (v : CodeVar) → slice_get code.vars n ≡ Some v → v.cumulative ≡ true
    → (v.kind ≡ k.Int) × ((x y z : ℤ) → HasValue (Some k.Int) (merged H code v x y z))

-- ---- how they come by their values

-- the value of a block is that of its instructions, under the values of the blocks before it
abbrev pub ValuesAreByBlocks : Type 0 → Type 0
ValuesAreByBlocks H =
    (code : Code) (n : ℕ) (b : CodeBlock) → slice_get code.blocks n ≡ Some b
    → slice_get (values {H = H} code) n ≡ Some (value_of code (take n (values code)) n b)

abbrev pub FunsStart : Type 0 → Type 0
FunsStart H =
    (code : Code) (notes : ℕ → ℕ → Note) → IsAccepted code notes
    → (n : ℕ) (b : CodeBlock) → slice_get code.blocks n ≡ Some b
    → (args : List (Word H)) → kinds_of args ≡ params b → IsTyped code notes (fun_start n b args)

abbrev pub kind_of_result : {H : Type 0} → Option (Word H) → Option ValueKind
kind_of_result None = None
kind_of_result (Some w) = Some (kind_of w)

pub record IsLater {H : Type 0} (code : Code) (notes : ℕ → ℕ → Note) (c c' : State H) : Type 0 where
  pub typed : IsTyped code notes c'
  pub block : c'.block ≡ c.block
  pub later : c.at < c'.at
  pub below : c'.below ≡ c.below

abbrev pub IsFunStep : {H : Type 0} → Code → (ℕ → ℕ → Note) → CodeBlock → State H → Comes H → Type 0
IsFunStep code notes b c (goes c') = IsLater code notes c c'
IsFunStep code notes b c (traps c' e) = IsArithmetic e
IsFunStep code notes b c (ends c' w) = kind_of_result w ≡ b.result
IsFunStep code notes b c (forks c' n args) = ⊥
IsFunStep code notes b c (joins c' try h) = ⊥
IsFunStep code notes b c stuck = ⊥

abbrev pub FunStepsAreSafe : Type 0 → Type 0
FunStepsAreSafe H =
    (code : Code) (notes : ℕ → ℕ → Note) → IsAccepted code notes
    → (n : ℕ) (b : CodeBlock) → slice_get code.blocks n ≡ Some b → is_value_class b.class ≡ true
    → (c : State H) → IsTyped code notes c → c.block ≡ n
    → IsFunStep code notes b c (step (setting_of_fun code (take n (values code))) c)
