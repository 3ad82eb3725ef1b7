-- The first of faults: the one at the least place, and there the one of the least rank.
use Rattle.std.specs.Prelude.{◌≡◌, ℕ, ◌<◌, ◌≤◌, ◌⊎◌, Bool, true, false, if◌then◌else◌, nat_lt, Option, Some, None, List, [], ◌∷◌}

-- whether the pair of a place and a rank is less than another
abbrev pub is_less : ℕ → ℕ → ℕ → ℕ → Bool
is_less place rank place' rank' =
    if nat_lt place place' then true else (if nat_lt place' place then false else nat_lt rank rank')

-- what a fault shows of itself: its place, its rank among the faults at one place, and what is said of it
abbrev pub Row : Type 0
Row = ℕ × ℕ × List ℕ

-- the first is at a lesser place, or at the same and of no greater rank
abbrev pub ComesFirst : Row → Row → Type 0
ComesFirst a b = (a.0 < b.0) ⊎ ((a.0 ≡ b.0) × (a.1 ≤ b.1))

-- this fault comes, and none that comes stands before it
pub record IsFirstOf {F : Type 0} (Comes : F → Type 0) (row : F → Row) (f : F) : Type 0 where
  pub broken : Comes f
  pub first : (g : F) → Comes g → ComesFirst (row f) (row g)

-- f is an element of the list
abbrev pub Among : {F : Type 0} → List F → F → Type 0
Among [] f = ⊥
Among (g ∷ gs) f = (g ≡ f) ⊎ Among gs f

module _ {F : Type 0} (place rank : F → ℕ) where
  -- whether f is at a lesser place than g, or at the same with a lesser rank
  abbrev pub precedes : F → F → Bool
  precedes f g = is_less (place f) (rank f) (place g) (rank g)

  -- the first of two faults, either of which may be absent
  abbrev pub first_of : Option F → Option F → Option F
  first_of (Some f) (Some g) = Some (if precedes g f then g else f)
  first_of (Some f) None = Some f
  first_of None b = b

  -- the first of these faults
  abbrev pub least : List F → Option F
  least [] = None
  least (f ∷ fs) = first_of (Some f) (least fs)

  -- f is at a lesser place than g, or at the same and of no greater rank
  abbrev pub IsBefore : F → F → Type 0
  IsBefore f g = (place f < place g) ⊎ ((place f ≡ place g) × (rank f ≤ rank g))

  -- f is among the faults, and each of them is at a later place, or at the same and of no lesser
  -- rank
  pub record IsFirst (fs : List F) (f : F) : Type 0 where
    pub among : Among fs f
    pub first : (g : F) → Among fs g → IsBefore f g
