-- What is told of the locations of a revision that has ended, and its locations by that.
use Rattle.std.specs.Prelude.{ℕ, zero, suc, pos, nat_eq, if◌then◌else◌, List, [], ◌∷◌, Option, Some, None}
use Rattle.rev_num.specs.declared.value.Value.{Value}
use Rattle.rev_num.specs.declared.value.Value.TheVariants as v
use Rattle.revision_calculus.specs.State.{Location}
use Rattle.stated_parts.specs.declared.ends.AloneWrite.{AloneWrite}

-- the write of the location of this number, if it was written, and then the others
abbrev pub write_of : ℕ → Location → Option Value → List AloneWrite → List AloneWrite
write_of n m None others = others
write_of n m (Some x) others = record { location = n; value = x; root = m.base } ∷ others

-- the writes of these locations with the values of the snapshot, where the first location has this number
abbrev pub writes_from : ℕ → List Location → List AloneWrite
writes_from n [] = []
writes_from n (m ∷ ms) = write_of n m m.written (writes_from (suc n) ms)

-- ---- the locations of such a revision

-- a location that was not written, whose value in the snapshot is not told
abbrev pub untold : Location
untold = record { base = v.Int (pos 0); written = None }

abbrev pub told : AloneWrite → Location
told w = record { base = w.root; written = Some w.value }

-- the location of this number, by the first of these writes, if there is one
abbrev pub told_at : ℕ → List AloneWrite → Location
told_at n [] = untold
told_at n (w ∷ ws) = if nat_eq w.location n then told w else untold

-- the writes behind the location of this number
abbrev pub behind : ℕ → List AloneWrite → List AloneWrite
behind n [] = []
behind n (w ∷ ws) = if nat_eq w.location n then ws else w ∷ ws

-- so many locations, the first of which has this number, with these writes
abbrev pub told_from : ℕ → (count : ℕ) → List AloneWrite → List Location
told_from n zero ws = []
told_from n (suc count) ws = told_at n ws ∷ told_from (suc n) count (behind n ws)
