-- Tables from names, as lists of their entries in the order in which they came.
use Rattle.std.specs.declared.alloc.Global.{Global}
use Rattle.std.specs.Prelude.{◌≡◌, ℕ, ◌+◌, ◌*◌, ◌<◌, ◌≤◌, Vec, map, Option, Some, None, List, [], ◌∷◌, ◌++◌, if◌then◌else◌, is_some, length, slice_index}
use Rattle.std.specs.BTreeMap.{BTreeMap, get_by}
use Rattle.std.specs.declared.cmp.Ordering.{Ordering}
use Rattle.std.specs.Ordering.{nat_cmp}
use Rattle.std.specs.Cmp.Lexicographic.{slice_cmp}
use Rattle.name_tables.specs.Names.{Name, same}

abbrev pub Table : Type 0 → Type 0
Table V = List (Name × V)

-- the value of the first entry of the name
abbrev pub find : {V : Type 0} → Name → Table V → Option V
find name [] = None
find name (e ∷ es) = if same name e.0 then Some e.1 else find name es

-- the table with a further entry, unless the name has one
abbrev pub added : {V : Type 0} → Table V → Name → V → Table V
added t name x = if is_some (find name t) then t else t ++ (name, x) ∷ []

-- the entries of a map whose keys are vectors of bytes
abbrev pub rows : {V : Type 0} → List (Vec ℕ Global × V) → Table V
rows es = map (λ e. (e.0.items, e.1)) es

-- no name stands twice in the table
abbrev pub IsOnce : {V : Type 0} → Table V → Type 0
IsOnce [] = Unit {0}
IsOnce (e ∷ es) = (find e.0 es ≡ None) × IsOnce es

-- a name against a key, byte by byte
abbrev pub against : Name → Vec ℕ Global → Ordering
against name key = slice_cmp nat_cmp name key.items

-- the bytes of a name as digits of a number, the last one the highest, and 1 above them all
abbrev pub number : Name → ℕ
number [] = 1
number (b ∷ bs) = b + 256 * number bs

abbrev pub AreBytes : Name → Type 0
AreBytes name = (i : ℕ) → slice_index name i < 256

-- how many bytes a name has at most whose number is below 2 ^ 64
abbrev pub most_short : ℕ
most_short = 7

-- by their numbers the map finds what the table has at short names
pub record IsShortIndex {V : Type 0} (short : BTreeMap ℕ V) (t : Table V) : Type 0 where
  pub finds : (name : Name) → AreBytes name → length name ≤ most_short
      → get_by (nat_cmp (number name)) short ≡ find name t

-- by their bytes the map finds what the table has at the others
pub record IsLongIndex {V : Type 0} (long : BTreeMap (Vec ℕ Global) V) (t : Table V) : Type 0 where
  pub finds : (name : Name) → most_short < length name → get_by (against name) long ≡ find name t

-- the maps find what the table has, and the table has each name once
pub record IsIndexed {V : Type 0} (short : BTreeMap ℕ V) (long : BTreeMap (Vec ℕ Global) V) (t : Table V) : Type 0 where
  pub of_short : IsShortIndex short t
  pub of_long : IsLongIndex long t
  pub once : IsOnce t
