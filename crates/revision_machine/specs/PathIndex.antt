-- Where in a list of paths each of them stands.
--
-- `place_by` is what a map from paths finds; `IsIndexed` says that a map has the place of each path
-- of a list, and of no
-- other.
use Rattle.std.specs.declared.alloc.Global.{Global}
use Rattle.std.specs.Prelude.{◌≡◌, ℕ, Vec, List, Option, Some, None, slice_get}
use Rattle.std.specs.Coded.{Coded-set, coded_ℕ, coded_list, coded_option}
use Rattle.std.specs.BTreeMap.{BTreeMap, get_by}
use Rattle.std.specs.declared.cmp.Ordering.{Ordering}
use Rattle.std.specs.Ordering.{nat_cmp}
use Rattle.std.specs.Cmp.Lexicographic.{slice_cmp}
use Rattle.rev_num.specs.Path.{Path}
use Rattle.revision_machine.specs.PathMap.{PathMap, with_at}
use Rattle.revision_machine.specs.Laws.{IsIn}

-- a path against a key, number by number
abbrev pub against : Path → Vec ℕ Global → Ordering
against p key = slice_cmp nat_cmp p key.items

-- what the map has at each path
abbrev pub place_by : BTreeMap (Vec ℕ Global) ℕ → PathMap ℕ
place_by m p = get_by (against p) m

-- the new map has this place for the path, and else what the old one has
abbrev pub IsEntered : BTreeMap (Vec ℕ Global) ℕ → BTreeMap (Vec ℕ Global) ℕ → Path → ℕ → Type 0
IsEntered old new p i = place_by new ≡ with_at (place_by old) p i

-- with no place the path is not in the list, and with a place it stands there
abbrev pub IsPlace : Path → List Path → Option ℕ → Type 0
IsPlace p ps None = IsIn p ps → ⊥
IsPlace p ps (Some i) = slice_get ps i ≡ Some p

-- the map has the place of each path of the list, and of no other
abbrev pub IsIndexed : BTreeMap (Vec ℕ Global) ℕ → List Path → Type 0
IsIndexed places ps = (p : Path) → IsPlace p ps (place_by places p)

place_prop : (p : Path) (ps : List Path) (o : Option ℕ) → IsProp (IsPlace p ps o)
place_prop p ps None = λ f g i x. let e : f x ≡ g x = absurd (f x) in e i
place_prop p ps (Some k) = Coded-set (coded_option (coded_list coded_ℕ)) (slice_get ps k) (Some p)

pub indexed_prop : (places : BTreeMap (Vec ℕ Global) ℕ) (ps : List Path) → IsProp (IsIndexed places ps)
indexed_prop places ps = λ f g i p. place_prop p ps (place_by places p) (f p) (g p) i
