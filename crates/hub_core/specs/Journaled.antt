-- Room in a journal for so many entries more.
use Rattle.std.specs.Prelude.{ℕ, ◌≤◌, ◌+◌, ◌*◌, vec_len, vec_capacity}
use Rattle.hub_core.specs.declared.journal.Journal.{Journal}

abbrev pub HasRoomFor : {E : Type 0} → ℕ → Journal E → Type 0
HasRoomFor more j =
    (vec_len j.entries + more ≤ vec_capacity j.entries)
    × (3 * j.limit + vec_len j.entries + more ≤ vec_capacity j.schedule)
