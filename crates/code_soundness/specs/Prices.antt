-- What a revision that runs code still costs: so much for each unit of fuel,
-- and for each frame by its place. A place at a
-- Charge costs least, since jumps back lead there; another has `other` more, and `paid` more where a Charge paid.
--   Prices, Bears   prices, and when they bear the instructions of blocks of a length
--   place, total    what a frame costs at a place, and a revision
--   leg_prices      every instruction uses up 1: they bound a leg
--   entry_prices    events alone use up something: they bound a schedule
use Rattle.std.specs.Prelude.{ℕ, suc, ◌+◌, ◌-◌, ◌*◌, ◌≤◌, ◌<◌, Bool, cond, Option, Some, None, List, [], ◌∷◌, length, slice_get}
use Rattle.rev_code.specs.declared.code.Code.{Code}
use Rattle.rev_code.specs.declared.code.CodeBlock.{CodeBlock}
use Rattle.rev_code.specs.declared.code.Instr.{Instr}
use Rattle.rev_code.specs.declared.code.Instr.TheVariants as i
use Rattle.rev_code.specs.State.{State, Frame}
use Rattle.code_rules.specs.Pass.{Note}
pub use Rattle.code_soundness.specs.Certificate.{AllCertified}

pub record Prices : Type 0 where
  -- of a unit of fuel
  pub fuel : ℕ
  pub paid : ℕ
  pub other : ℕ
  -- of the instructions from a place to the end of a block of this length
  pub left : ℕ → ℕ → ℕ
  -- what each instruction uses up
  pub each : ℕ

pub record Bears (p : Prices) (most : ℕ) : Type 0 where
  -- a later place of the block
  pub on : (len at to : ℕ) → at < to → to ≤ len → len ≤ most → p.left len to + p.each ≤ p.left len at
  -- an earlier place, at a Charge
  pub back : (len at to : ℕ) → at < len → len ≤ most → p.left len to + p.each ≤ p.left len at + p.other
  pub charge : p.other + p.paid ≤ p.fuel
  -- a call begins a block
  pub call : (len : ℕ) → len ≤ most → p.left len 0 + p.other ≤ p.paid

abbrev pub block_length : Option CodeBlock → ℕ
block_length None = 0
block_length (Some b) = length b.instrs

abbrev pub instr_in : Option CodeBlock → ℕ → Option Instr
instr_in None at = None
instr_in (Some b) at = slice_get b.instrs at

abbrev pub place_price : Prices → Option Instr → Bool → ℕ
place_price p (Some (i.Charge line)) paid = 0
place_price p _ paid = p.other + cond paid p.paid 0

module _ (code : Code) (notes : ℕ → ℕ → Note) (p : Prices) where
  abbrev pub place : ℕ → ℕ → ℕ
  place n at = p.left (block_length (slice_get code.blocks n)) at + place_price p
      (instr_in (slice_get code.blocks n) at) (notes n at).paid

  abbrev pub below : {H : Type 0} → List (Frame H) → ℕ
  below [] = 0
  below (f ∷ fs) = place f.block f.at + below fs

  abbrev pub total : {H : Type 0} → State H → ℕ
  total c = p.fuel * c.fuel + place c.block c.at + below c.below

abbrev pub leg_prices : ℕ → Prices
leg_prices most = record
    { fuel = 3 * suc most; paid = 2 * suc most; other = suc most; left = λ len at. len - at; each = 1 }

abbrev pub entry_prices : Prices
entry_prices = record { fuel = 3; paid = 3; other = 0; left = λ len at. 0; each = 0 }
