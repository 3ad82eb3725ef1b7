-- The limits on a run.
use Rattle.std.specs.Prelude.{ℕ}

-- the most fuel that a run starts with
abbrev pub most_fuel : ℕ
most_fuel = 4000000000

-- the most frames that a revision has
abbrev pub most_frames : ℕ
most_frames = 1000
