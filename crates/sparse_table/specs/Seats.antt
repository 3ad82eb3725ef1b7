-- What a clause says of a table and of its seats.
use Rattle.std.specs.Prelude.{◌≡◌, ℕ, Bool, true, List, [], ◌∷◌, ◌⊎◌, slice_index}
use mathlib.Core.Option.{some}
use lib.ListN.{get_elem?}
use Rattle.atomic_table.specs.Table as table
use Rattle.sparse_table.specs.declared.table.Table.{Table}
use Rattle.sparse_table.specs.declared.table.Seat.{Seat}
use Rattle.sparse_table.specs.Parts.{Has, IsPart, IsInner}
use Rattle.sparse_table.specs.Plays.{mine}

module _ {V : Type 0} where
  -- the seat's view, and its number among all seats
  abbrev pub view : Seat V → V
  view s = s.pass.view.client

  abbrev pub number : Seat V → ℕ
  number s = s.pass.id

  -- the same in the form that a step has
  abbrev pub me_of : Seat V → table.Me (Unit {0}) V
  me_of s = mine s.pass.view

  -- the parts that the seat knows to be there
  abbrev pub known : Seat V → List ℕ
  known s = s.pass.view.trail.known

  abbrev pub seat_name : Seat V → List ℕ
  seat_name s = s.pass.view.trail.words ∷ s.pass.view.trail.width ∷ s.pass.view.trail.shift
      ∷ s.pass.words.words ∷ s.pass.words.views_name ∷ s.pass.words.atom ∷ []

  module _ {K P : Type 0} where
    abbrev pub IsOf : Table V K P → Seat V → Type 0
    IsOf t s = (s.pass.words ≡ t.words.id) × (s.pass.view.trail.words ≡ t.len)
        × (s.pass.view.trail.width ≡ t.width) × (s.pass.view.trail.shift ≡ t.shift)

    -- a table by numbers: a seat is of the table that has its name
    abbrev pub table_name : Table V K P → List ℕ
    table_name t = t.len ∷ t.width ∷ t.shift ∷ t.words.id.words ∷ t.words.id.views_name
        ∷ t.words.id.atom ∷ []

    -- a part of the table, and another word of it
    abbrev pub IsPartOf : Table V K P → ℕ → Type 0
    IsPartOf t c = IsPart t.len t.width c

    abbrev pub IsWordOf : Table V K P → ℕ → ℕ → Type 0
    IsWordOf t c i = IsPart t.len t.width c × IsInner t.width c i

  -- with all that it knows of parts
  abbrev pub IsStill : Seat V → Seat V → Type 0
  IsStill s u = (u.pass.words ≡ s.pass.words) × (u.pass.id ≡ s.pass.id)
      × (u.pass.view.trail ≡ s.pass.view.trail)

  abbrev pub IsSame : Seat V → Seat V → Type 0
  IsSame s u = (u.pass.words ≡ s.pass.words) × (u.pass.id ≡ s.pass.id)
      × (u.pass.view.trail.words ≡ s.pass.view.trail.words)
      × (u.pass.view.trail.width ≡ s.pass.view.trail.width)
      × (u.pass.view.trail.shift ≡ s.pass.view.trail.shift)

  module _ (holds : table.State (Unit {0}) V → Type 0) (needs : ℕ → ℕ → Bool) (id : ℕ) (v : V)
      (known : List ℕ) where
    -- in each state that the rule allows the first word of the part wants it to be there, or the seat
    -- knows that it is
    abbrev pub IsThere : ℕ → Type 0
    IsThere c = (s : table.State (Unit {0}) V) → holds s → get_elem? s.views id ≡ some v
        → (needs c (slice_index s.words c) ≡ true) ⊎ Has c known

    -- where the first word becomes one that wants the part, it was such a word, or the seat knows that
    -- the part is there
    abbrev pub Backed : ℕ → (ℕ → ℕ) → Type 0
    Backed c f = (s : table.State (Unit {0}) V) → holds s → get_elem? s.views id ≡ some v
        → needs c (f (slice_index s.words c)) ≡ true
        → (needs c (slice_index s.words c) ≡ true) ⊎ Has c known

  -- the seat may make the part, and in each state that the rule allows no other seat may
  abbrev pub Sole : (table.State (Unit {0}) V → Type 0) → (V → ℕ → Type 0) → ℕ → V → ℕ → Type 0
  Sole holds makes id v c = makes v c
      × ((s : table.State (Unit {0}) V) → holds s → get_elem? s.views id ≡ some v
      → (j : ℕ) (w : V) → get_elem? s.views j ≡ some w → ¬ (j ≡ id) → ¬ makes w c)
