-- What a step uses up.
use Rattle.std.specs.Prelude.{◌≡◌, ℕ, suc, ◌+◌, ◌≤◌, ◌<◌, Some, length, slice_get}
use Rattle.rev_code.specs.declared.code.Code.{Code}
use Rattle.rev_code.specs.declared.code.CodeBlock.{CodeBlock}
use Rattle.rev_code.specs.State.{State, Setting}
use Rattle.rev_code.specs.Step.{Comes, goes, traps, forks, joins, ends, stuck, step}
use Rattle.code_rules.specs.Pass.{Note}
use Rattle.code_soundness.specs.Prices.{AllCertified, Prices, Bears, place, total, leg_prices}

-- it goes on with less; a Fork uses up a payment, which covers the start of its child; a join, also a TryJoin, uses up
-- what an instruction does
abbrev pub UsesUp : {H : Type 0} → Code → (ℕ → ℕ → Note) → Prices → State H → Comes H → Type 0
UsesUp code notes p c (goes c') = total code notes p c' + p.each ≤ total code notes p c
UsesUp code notes p c (forks c' n args) =
    (place code notes p c.block (suc c.at) + p.paid + p.each ≤ place code notes p c.block c.at)
    × ((len : ℕ) × (place code notes p n 0 ≤ p.left len 0 + p.other))
UsesUp code notes p c (joins c' try h) =
    place code notes p c.block (suc c.at) + p.each ≤ place code notes p c.block c.at
UsesUp code notes p c (traps c' e) = Unit {0}
UsesUp code notes p c (ends c' w) = Unit {0}
UsesUp code notes p c stuck = Unit {0}

-- no block is longer
abbrev pub AreShort : Code → ℕ → Type 0
AreShort code most = (n : ℕ) (b : CodeBlock) → slice_get code.blocks n ≡ Some b → length b.instrs ≤ most

-- every step of certified code uses up what it costs, at all prices that bear it,
-- in every state in which handles are numbers
abbrev pub EveryNumberedStepPays : Type 0
EveryNumberedStepPays =
    (s : Setting ℕ) (notes : ℕ → ℕ → Note) → AllCertified s.code notes → (p : Prices) (most : ℕ) → Bears p most
    → AreShort s.code most
    → (c : State ℕ) → UsesUp s.code notes p c (step s c)

-- so a leg ends: each instruction uses up 1 of what the revision costs
abbrev pub LegsAreBounded : Type 0
LegsAreBounded =
    (s : Setting ℕ) (notes : ℕ → ℕ → Note) → AllCertified s.code notes → (most : ℕ) → AreShort s.code most
    → (c c' : State ℕ) → step s c ≡ goes c'
    → total s.code notes (leg_prices most) c' < total s.code notes (leg_prices most) c
