-- Where code stands in a block, and where its jumps lead.
use Rattle.std.specs.Prelude.{◌≡◌, ◌⊎◌, ◌<◌, ◌≤◌, ℕ, suc, true, Option, Some, None, List, [], ◌∷◌, slice_get}
use Rattle.rev_code.specs.declared.code.Instr.{Instr}
use Rattle.code_rules.specs.Pass.{target, is_charge}

-- these items stand there from this place on
abbrev pub HasItems : {A : Type 0} → List A → (at : ℕ) → List A → Type 0
HasItems whole at [] = Unit {0}
HasItems whole at (x ∷ xs) = (slice_get whole at ≡ Some x) × HasItems whole (suc at) xs

-- these instructions do
abbrev pub HasAt : List Instr → (at : ℕ) → List Instr → Type 0
HasAt whole at xs = HasItems whole at xs

-- a Charge stands there
abbrev pub ChargeAt : List Instr → ℕ → Type 0
ChargeAt whole to = is_charge (slice_get whole to) ≡ true

-- a jump from this place leads forward, up to a last place, or else where a jump back may lead
abbrev pub Leads : (back : ℕ → Type 0) (last at : ℕ) → Option ℕ → Type 0
Leads back last at None = Unit {0}
Leads back last at (Some to) = ((at < to) × (to ≤ last)) ⊎ back to

-- all jumps of instructions that stand from this place on
abbrev pub AllLead : (back : ℕ → Type 0) (last at : ℕ) → List Instr → Type 0
AllLead back last at [] = Unit {0}
AllLead back last at (x ∷ xs) = Leads back last at (target x) × AllLead back last (suc at) xs
