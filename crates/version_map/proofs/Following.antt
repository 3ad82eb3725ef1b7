-- Written locations that follow each other, in ascending order.
--   climbs    a location that stands n places later is n higher, or more
--   between   so many follow each other where the last of them is as far from the first as that
use Rattle.std.proofs.Common.{◌≡◌, ◌∙◌, ap, sym, ℕ, zero, suc, ◌+◌, ◌-◌, ◌<◌, ◌≤◌, List, length, drop, get_or, Some, arith}
use Rattle.std.specs.Prelude.{slice_get}
use Rattle.std.proofs.lemmas.List.{get_or-drop}
use Rattle.std.proofs.lemmas.Option.{slice_get-get_or, get_or_from_slice_get}
use Rattle.version_map.specs.declared.end.Written.{Written}
use Rattle.version_map.specs.Ascending.{IsAscending}
use Rattle.version_map.specs.Following.{Follow}

abbrev pub no_entry : Written
no_entry = record { location = 0; value = 0; root = 0 }

abbrev pub location_at : List Written → ℕ → ℕ
location_at ws i = (get_or ws i no_entry).location

pub climbs : (ws : List Written) → IsAscending ws → (i n : ℕ) → i + n < length ws
    → location_at ws i + n ≤ location_at ws (i + n)
climbs ws ascend i zero lt = let z : i + 0 ≡ i = omega arith in
    let e = ap (location_at ws) z in omega (arith, e)
climbs ws ascend i (suc n) lt =
    let before = climbs ws ascend i n (omega (arith, lt)) in
    let step =
    ascend (i + n) (i + suc n) (get_or ws (i + n) no_entry) (get_or ws (i + suc n) no_entry) (omega arith)
    (slice_get-get_or ws (i + n) no_entry (omega (arith, lt))) (slice_get-get_or ws (i + suc n) no_entry lt) in
    omega (arith, before, step)

here : (ws : List Written) (at k : ℕ) (w : Written) → slice_get (drop at ws) k ≡ Some w
    → w.location ≡ location_at ws (at + k)
here ws at k w is =
    ap (λ (u : Written). u.location)
    (sym (get_or_from_slice_get (drop at ws) k w no_entry is) ∙ get_or-drop at ws k no_entry)

pub between : (ws : List Written) (at first n : ℕ) → IsAscending ws → at + n ≤ length ws
    → location_at ws at ≡ first → location_at ws (at + n - 1) ≡ first + n - 1 → Follow (drop at ws) first n
between ws at first n ascend room low high k w lt is =
    let up = climbs ws ascend at k (omega (arith, room, lt)) in
    let down = climbs ws ascend (at + k) (n - 1 - k) (omega (arith, room, lt)) in
    let last : at + k + (n - 1 - k) ≡ at + n - 1 = omega (arith, lt) in
    let there = ap (location_at ws) last in
    let same = here ws at k w is in omega (arith, up, down, there, same, low, high, lt)
