-- What the answer to a step says of the cells before and after it.
--   copies n c          n references to the segment c
--   Makes, Refuses      what Done and Refused say
use Rattle.std.specs.Prelude.{◌≡◌, ℕ, zero, suc, List, [], ◌∷◌, Option}
use Rattle.seg_core.specs.declared.cells.Cells.{Cells}
use Rattle.seg_core.specs.declared.step.Applied.{Applied}
use Rattle.seg_core.specs.declared.step.Applied.TheVariants as applied
use Rattle.seg_core.specs.Core.{building, Core, At}
use Rattle.seg_core.specs.Steps.{CoreStep, Steps}
use Rattle.seg_core.specs.Cells.{core_of}

abbrev pub copies : ℕ → ℕ → List ℕ
copies zero c = []
copies (suc n) c = c ∷ copies n c

abbrev pub Builds : Core → ℕ → ℕ → Type 0
Builds k c h = (d : ℕ → Option ℕ) × At k c (building h d)

-- the step was made
abbrev pub Makes : Cells → CoreStep → Cells → Applied → Type 0
Makes old s new answer = answer ≡ applied.Done → Steps (core_of old) s (core_of new)

-- nothing changed, and the step cannot be made
abbrev pub Refuses : Cells → CoreStep → Cells → Applied → Type 0
Refuses old s new answer = answer ≡ applied.Refused → (new ≡ old)
    × ((k : Core) → ¬ (Steps (core_of old) s k))
