-- Where the locals of a frame stand, by the numbers that the names of its body have.
use Rattle.std.specs.Prelude.{◌≡◌, ◌<◌, ℕ, Bool, true, false, if◌then◌else◌, Option, Some, None, List, length, get_or, is_some, position, set, slice_get}
use Rattle.name_tables.specs.Names.{Name, same}
use Rattle.name_tables.specs.Table.{Table, find}

-- each name's number is below how many names there are
abbrev pub AreBelow : Table ℕ → Type 0
AreBelow numbers = (name : Name) (k : ℕ) → find name numbers ≡ Some k → k < length numbers

-- no two names have one number
abbrev pub AreApart : Table ℕ → Type 0
AreApart numbers =
    (name other : Name) (k : ℕ) → find name numbers ≡ Some k → find other numbers ≡ Some k → same name other ≡ true

-- at the number of each name stands where the first local of the name is, if there is one
abbrev pub IsPlaced : {V : Type 0} → Table ℕ → List (Option ℕ) → Table V → Type 0
IsPlaced numbers places locals =
    (name : Name) (k : ℕ) → find name numbers ≡ Some k
    → slice_get places k ≡ Some (position (λ e. same name e.0) locals)

-- where there are no others, no local has a name without a number
abbrev pub AreKnown : {V : Type 0} → Table ℕ → Bool → Table V → Type 0
AreKnown numbers others locals =
    others ≡ false → (name : Name) → find name numbers ≡ None → position (λ e. same name e.0) locals ≡ None

-- these places, after a local came at this place whose name has this number, if it has one; the first of a name stays
abbrev pub noted : List (Option ℕ) → Option ℕ → ℕ → List (Option ℕ)
noted places None at = places
noted places (Some k) at = if is_some (get_or places k None) then places else set places k (Some at)
