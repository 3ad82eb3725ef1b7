-- Stages: each has a value or a refusal, and the next goes on with the value.
use Rattle.std.specs.Prelude.{◌≡◌, Option, Some, Result, Ok, Err}
use Rattle.rev_report.specs.declared.refusal.Refusal.{Refusal}

-- a value goes on, and a refusal is the answer
abbrev pub Onward : {X Y : Type 0} → (X → Result Y Refusal → Type 0) → Result X Refusal → Result Y Refusal → Type 0
Onward Says (Ok x) a = Says x a
Onward Says (Err f) a = a ≡ Err f

-- one stage, and the next with its value
abbrev pub Then : {X Y : Type 0} → (Result X Refusal → Type 0) → (X → Result Y Refusal → Type 0) → Result Y Refusal
    → Type 0
Then {X = X} Stage Says a = (found : Result X Refusal) × Stage found × Onward Says found a

-- this fault comes first, and this is how it is reported
pub record Reports {F : Type 0} (Comes : F → Type 0) (report : F → Option Refusal) (r : Refusal) : Type 0 where
  pub fault : F
  pub comes : Comes fault
  pub reported : report fault ≡ Some r
