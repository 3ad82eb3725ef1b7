-- The core that the cells show.
--   core_of c        the core
--   IsCounted k      Counted, with no cases, as the fact of a type needs it
use Rattle.std.specs.Prelude.{◌≡◌, ℕ, ◌<◌, Option}
use Rattle.seg_core.specs.declared.cells.Cells.{Cells}
use Rattle.seg_core.specs.Core.{free, building, live, Core, At, refs}
use Rattle.seg_core.specs.Shape.{core_in}

abbrev pub core_of : Cells → Core
core_of c = core_in c.segments.items c.holders.items c.locations

abbrev pub IsCounted : Core → Type 0
IsCounted k = ((c : ℕ) (d : ℕ → Option ℕ) (p n : ℕ) → 0 < c → At k c (live d p n) → (n ≡ refs k c)
    × (0 < n))
    × ((c : ℕ) → 0 < c → At k c free → refs k c ≡ 0)
    × ((c h : ℕ) (d : ℕ → Option ℕ) → 0 < c → At k c (building h d) → refs k c ≡ 0)
