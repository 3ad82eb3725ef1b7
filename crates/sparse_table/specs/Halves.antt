-- The rule of the tests: one seat, or two that may make half of 16 parts each.
use Rattle.std.specs.Prelude.{◌≡◌, ℕ, ◌<◌, ◌≤◌, ◌⊎◌, [], ◌∷◌}
use Rattle.atomic_table.specs.Table.{State}
use Rattle.sparse_table.specs.declared.table.Table.{Table}
use Rattle.sparse_table.specs.declared.table.Seat.{Seat}
use Rattle.sparse_table.specs.Seats.{IsOf, view}

abbrev pub Holds : State (Unit {0}) ℕ → Type 0
Holds s = (s.views ≡ 0 ∷ []) ⊎ (s.views ≡ 1 ∷ 2 ∷ [])

abbrev pub Makes : ℕ → ℕ → Type 0
Makes v c = ((v ≡ 1) × (c < 512)) ⊎ ((v ≡ 2) × (512 ≤ c))

-- the seat of the half that begins with this part
abbrev pub IsHalf : {K P : Type 0} → Table ℕ K P → Seat ℕ → ℕ → Type 0
IsHalf t s from = IsOf t s × (t.len ≡ 1024) × (t.width ≡ 64)
    × (((view s ≡ 1) × (from ≡ 0)) ⊎ ((view s ≡ 2) × (from ≡ 512)))
