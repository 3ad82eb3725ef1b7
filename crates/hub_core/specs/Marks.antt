-- A hub's mark: how many numbers are ready, up to a limit, and the first of them, as one number.
--   counted, first_in   what a mark should tell of a list of numbers that is counted as having so many
--   mark_of             0 where none is ready, and else a multiple of 2^33, by how many are, and the first and 1
--   told_many           how many a mark tells to be ready
--   told_first          the first that it tells to be ready, if it tells of one
use Rattle.std.specs.Prelude.{ℕ, zero, suc, ◌+◌, ◌-◌, ◌*◌, ◌/◌, ◌%◌, ◌^◌, min, Option, Some, None}
use Rattle.hub_core.specs.declared.run_queue.Chain.{Chain}

-- a mark tells of so many at most
abbrev pub most_marked : ℕ
most_marked = 2 ^ 31 - 1

abbrev pub counted : Option Chain → ℕ → ℕ
counted None many = 0
counted (Some chain) many = min many most_marked

abbrev pub first_in : Option Chain → Option ℕ
first_in None = None
first_in (Some chain) = Some chain.first

-- the first and 1 is at most 2^32, and so below 2^33
abbrev pub mark_of : Option Chain → ℕ → ℕ
mark_of None many = 0
mark_of (Some chain) many = 2 ^ 33 * min many most_marked + (chain.first + 1)

abbrev pub told_many : ℕ → ℕ
told_many mark = mark / 2 ^ 33

abbrev pub one_before : ℕ → Option ℕ
one_before zero = None
one_before (suc n) = Some n

abbrev pub told_first : ℕ → Option ℕ
told_first mark = one_before (mark % 2 ^ 33)
