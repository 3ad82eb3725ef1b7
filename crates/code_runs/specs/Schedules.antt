-- Schedules of verified code.
--   IsLegal              each entry has a leg
--   EachIsLegalOrStops   a schedule is legal, or has a first entry without a leg
--   NeverBoth            but not both
--   WorldIsOne           there is one world after it
--   StopsOnce            or one first entry without a leg
use Rattle.std.specs.Prelude.{ℕ, ◌≡◌, ◌⊎◌, List}
use Rattle.revision_machine.specs.Numbered.{World}
use Rattle.code_machine.specs.Local.{CodeRun, IsVerified, Local}
use Rattle.world_runs.specs.Replay.{Replayed, StopsAt}

abbrev pub IsLegal : CodeRun → (fuel : ℕ) → List ℕ → Type 0
IsLegal g fuel ns = (w : World (Local ℕ)) × Replayed g fuel ns w

-- ---- laws

abbrev pub EachIsLegalOrStops : Type 0
EachIsLegalOrStops =
    (g : CodeRun) → IsVerified g → (fuel : ℕ) (ns : List ℕ)
    → IsLegal g fuel ns ⊎ ((at revision : ℕ) × StopsAt g fuel ns at revision)

abbrev pub NeverBoth : Type 0
NeverBoth =
    (g : CodeRun) → IsVerified g → (fuel : ℕ) (ns : List ℕ)
    → IsLegal g fuel ns → (at revision : ℕ) → StopsAt g fuel ns at revision → ⊥

abbrev pub WorldIsOne : Type 0
WorldIsOne =
    (g : CodeRun) → IsVerified g → (fuel : ℕ) (ns : List ℕ)
    → (w v : World (Local ℕ)) → Replayed g fuel ns w → Replayed g fuel ns v → w ≡ v

abbrev pub StopsOnce : Type 0
StopsOnce =
    (g : CodeRun) → IsVerified g → (fuel : ℕ) (ns : List ℕ)
    → (at revision : ℕ) → StopsAt g fuel ns at revision
    → (place number : ℕ) → StopsAt g fuel ns place number
    → (at ≡ place) × (revision ≡ number)
