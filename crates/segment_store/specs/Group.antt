-- The list of numbers that names a store. Stores of one group have one table.
--   store_group s      by its table
--   hold_group h, spent_group s, closed_group c   the group of the store that a value is of
--   IsOneTable s t     the tables of two stores have the same words, which lie in the same way
use Rattle.std.specs.Prelude.{◌≡◌, ℕ, List}
use Rattle.segment_store.specs.Places.{seat_name, table_name}
use Rattle.segment_store.specs.declared.store.Closed.{Closed}
use Rattle.segment_store.specs.declared.store.Hold.{Hold}
use Rattle.segment_store.specs.declared.store.Spent.{Spent}
use Rattle.segment_store.specs.declared.store.Store.{Store}

abbrev pub store_group : Store → List ℕ
store_group s = table_name s.table

abbrev pub hold_group : Hold → List ℕ
hold_group h = seat_name h.seat

abbrev pub spent_group : Spent → List ℕ
spent_group s = seat_name s.seat

abbrev pub closed_group : Closed → List ℕ
closed_group c = seat_name c.witness

abbrev pub IsOneTable : Store → Store → Type 0
IsOneTable s t = (s.table.words.id ≡ t.table.words.id) × (s.table.len ≡ t.table.len)
    × (s.table.width ≡ t.table.width) × (s.table.shift ≡ t.table.shift)
