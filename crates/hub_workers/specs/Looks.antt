-- What a scout does that has napped.
--   rings_since   how often the bell rang between two counts, which begin anew behind 2^64 - 1
--   most_rings    so often it may ring in a nap and the time that it ends late, once in three microseconds
--   look_of       by the mark before the nap and after it, whether both tell of enough,
--                 and whether the bell rang oftener
use Rattle.std.specs.Prelude.{ℕ, ◌+◌, ◌-◌, ◌/◌, ◌%◌, ◌^◌, min, Bool, true, false, not, ◌==◌, ◌||◌, cond}
use Rattle.hub_workers.specs.declared.scout.Look.{Look}
use Rattle.hub_workers.specs.declared.scout.Look.TheVariants.{Take, Again, Park}

abbrev pub rings_since : ℕ → ℕ → ℕ
rings_since before after = (after + (2 ^ 64 - before)) % 2 ^ 64

abbrev pub most_rings : ℕ → ℕ
most_rings nap = min (nap + 50) (2 ^ 64 - 1) / 3

abbrev pub goes_on : Bool → Look
goes_on true = Again
goes_on false = Park

-- it takes what is ready where that was first before too, or where there is enough, or where little happens
abbrev pub look_of : ℕ → ℕ → Bool → Bool → Look
look_of before after enough busy =
    cond (after == 0) (goes_on busy) (cond (after == before || enough || not busy) Take (goes_on busy))
