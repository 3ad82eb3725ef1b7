-- Between two Charges each instruction is passed at most once in a frame.
--   at_charge      a Charge stands at the place of a state
--   Within         so many steps, of which none is a Charge and none leaves the frame that has so
--                  many frames below it
--   OncePerFrame   after some of these, that frame is at a later place, unless it is at a Charge
use Rattle.std.specs.Prelude.{◌≡◌, ℕ, zero, suc, ◌<◌, ◌≤◌, Bool, false, length, slice_get}
use Rattle.rev_code.specs.State.{State, Setting}
use Rattle.rev_code.specs.Step.{goes, step}
use Rattle.code_rules.specs.Pass.{Note, is_charge}
use Rattle.code_soundness.specs.Prices.{AllCertified, instr_in}

abbrev pub at_charge : {H : Type 0} → Setting H → State H → Bool
at_charge s c = is_charge (instr_in (slice_get s.code.blocks c.block) c.at)

-- calls in between have frames above that frame, and return to it
pub data Within {H : Type 0} (s : Setting H) (deep : ℕ) : (steps : ℕ) → State H → State H → Type 0 where
  stay : {c : State H} → Within s deep zero c c
  more : {k : ℕ} {c c' c'' : State H} → at_charge s c ≡ false → step s c ≡ goes c' → deep ≤ length c'.below
      → Within s deep k c' c'' → Within s deep (suc k) c c''

-- so no way leads back to an instruction of the frame but through a Charge
abbrev pub OncePerFrame : Type 0
OncePerFrame =
    (s : Setting ℕ) (notes : ℕ → ℕ → Note) → AllCertified s.code notes
    → (k : ℕ) (c c' : State ℕ) → Within s (length c.below) (suc k) c c'
    → length c'.below ≡ length c.below → at_charge s c' ≡ false
    → (c'.block ≡ c.block) × (c.at < c'.at)
