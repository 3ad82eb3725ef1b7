-- Words as plain data, and what one step does to them.
--   blank, away    a word that was not written, and one whose memory is elsewhere
--   laid           some words are put in place of others
--   Allows         what a step on a number asks
--   Takes, Lays    the same where blank words leave, and where numbers come back
use Rattle.std.specs.Prelude.{◌≡◌, ℕ, ◌+◌, ◌<◌, List, [], ◌∷◌, ◌++◌, slice_index, slice_set, replicate}
use mathlib.Core.Option.{some}
use lib.ListN.{get_elem?}

pub record State (V : Type 0) : Type 0 where
  pub words : List ℕ
  pub views : List V

abbrev pub blank : ℕ
blank = 18446744073709551616

abbrev pub away : ℕ
away = 18446744073709551617

-- the word, and the operands
pub record Step : Type 0 where
  pub word : ℕ
  pub first : ℕ
  pub second : ℕ

abbrev pub step : ℕ → ℕ → ℕ → Step
step i a b = record { word = i; first = a; second = b }

-- the words from the i-th on become these
abbrev pub laid : List ℕ → ℕ → List ℕ → List ℕ
laid ws i [] = ws
laid ws i (x ∷ xs) = laid (slice_set ws i x) (i + 1) xs

module _ {V : Type 0} where
  abbrev pub stepped : State V → ℕ → ℕ → ℕ → V → State V
  stepped s i n id w = record { words = slice_set s.words i n; views = slice_set s.views id w }

  -- Whatever the words are when the word i becomes f of what it was, it is a number, and the seat has
  -- a new view that keeps the rule. `then` holds of the number found and of the view after
  abbrev pub Allows : (State V → Type 0) → ℕ → V → ℕ → (ℕ → ℕ) → (ℕ → V → Type 0) → Type 0
  Allows holds id v i f then = (s : State V) → holds s → get_elem? s.views id ≡ some v
      → (slice_index s.words i < blank) × (w : V) × holds (stepped s i (f (slice_index s.words i)) id w)
      × then (slice_index s.words i) w

  -- the word i becomes n, and so many blank words are away
  abbrev pub Takes : (State V → Type 0) → ℕ → V → ℕ → ℕ → ℕ → ℕ → (V → Type 0) → Type 0
  Takes holds id v i n from count then = (s : State V) → holds s → get_elem? s.views id ≡ some v
      → (slice_index s.words i < blank)
      × ((k : ℕ) → k < count → slice_index s.words (from + k) ≡ blank)
      × (w : V) × holds record {
        words = laid (slice_set s.words i n) from (replicate count away);
        views = slice_set s.views id w;
      } × then w

  -- the word i becomes n, and these are there
  abbrev pub Lays : (State V → Type 0) → ℕ → V → ℕ → ℕ → ℕ → List ℕ → (V → Type 0) → Type 0
  Lays holds id v i n from xs then = (s : State V) → holds s → get_elem? s.views id ≡ some v
      → (slice_index s.words i < blank) × (w : V) × holds record {
        words = laid (slice_set s.words i n) from xs;
        views = slice_set s.views id w;
      } × then w

  -- a seat's view is cut in two, and a new seat has the second
  abbrev pub Splits : (State V → Type 0) → ℕ → V → V → V → Type 0
  Splits holds id v left right = (s : State V) → holds s → get_elem? s.views id ≡ some v
      → (slice_index s.words 0 < blank)
      × holds record { words = s.words; views = slice_set s.views id left ++ right ∷ [] }

  -- a seat takes in another's view, and the other is spent
  abbrev pub Joins : (State V → Type 0) → ℕ → V → ℕ → V → V → V → Type 0
  Joins holds id v other w both spent =
      ((s : State V) → holds s → get_elem? s.views id ≡ some v → slice_index s.words 0 < blank)
      × ((s : State V) → holds s → get_elem? s.views id ≡ some v → ¬ (other ≡ id)
      → get_elem? (slice_set s.views id both) other ≡ some w
      → holds record { words = s.words; views = slice_set (slice_set s.views id both) other spent })

  -- at the start
  abbrev pub opening : List ℕ → V → State V
  opening ws v = record { words = ws; views = v ∷ [] }

  -- at the end
  abbrev pub Final : (State V → Type 0) → List ℕ → Type 0
  Final holds ws = (s : State V) × holds s × (s.words ≡ ws)

  -- the rule, and the seat id has the view v
  abbrev pub Seen : (State V → Type 0) → ℕ → V → State V → Type 0
  Seen holds id v s = holds s × (get_elem? s.views id ≡ some v)
