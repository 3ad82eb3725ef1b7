-- Lists of what was written, and the room for them.
--   count_unwritten locations of which none was written are none
--   count_row       a row of locations has no more than the row of the mask has bits
--   count_more      past rows of 0, and over one row more
--   count_all       behind the last row that is not 0
--   room_kept       room for what was written is room for it in a memory that was kept
--   room_for_one    there is room for one location more
use Rattle.std.proofs.Common.{◌≡◌, ℕ, zero, suc, ◌+◌, ◌-◌, ◌*◌, ◌/◌, ◌<◌, ◌≤◌, length, Option, Some, None, refl, ap, sym, ◌∙◌, arith}
use Rattle.std.proofs.lemmas.List.{length-append}
use Rattle.std.proofs.lemmas.Nat.Bits.{bit_at_lowest, bit_at-lt, bit_at-suc}
use Rattle.std.specs.Int.{bit_at}
use Rattle.std.specs.Prelude.{Vec, count_ones, slice_index}
use lib.Count.{ones_step}
use mathlib.Core.Logic.{dite}
use native.Mathlib.Decide.{ℕ_discrete, dec_le}
use Rattle.std.specs.declared.alloc.Global.{Global}
use Rattle.version_map.proofs.Bits.{chosen_zero}
use Rattle.version_map.proofs.Nexts.{bit_in_row, none_behind}
use Rattle.version_map.specs.declared.end.Written.{Written}
use Rattle.version_map.specs.declared.delta.Delta.{Delta}
use Rattle.version_map.specs.Deltas.{at, locations, mask_of, AreEmptyRows}
use Rattle.version_map.specs.Masks.{chosen, rows}
use Rattle.block_run.specs.Remembering.{HasRoom, Kept, one_there, written_below, written_count, written_there}

length_there : (l word : ℕ) (o : Option ℕ) → length (written_there l word o) ≡ one_there o
length_there l word None = refl
length_there l word (Some root) = refl

length_below : (seen : ℕ → ℕ) (root : ℕ → Option ℕ) (n : ℕ)
    → length (written_below seen root n) ≡ written_count root n
length_below seen root zero = refl
length_below seen root (suc n) =
    let both = length-append (written_below seen root n) (written_there n (seen n) (root n)) in
    let before = length_below seen root n in
    let here = length_there n (seen n) (root n) in omega (arith, both, before, here)

count_onward : (root : ℕ → Option ℕ) (n k : ℕ) → written_count root n ≤ written_count root (n + k)
count_onward root n zero =
    let e : n + zero ≡ n = omega arith in let same = ap (written_count root) e in omega (arith, same)
count_onward root n (suc k) =
    let e : n + suc k ≡ suc (n + k) = omega arith in
    let same = ap (written_count root) e in
    let before = count_onward root n k in omega (arith, same, before)

pub count_unwritten : (root : ℕ → Option ℕ) (n k : ℕ) → ((i : ℕ) → n ≤ i → i < n + k → root i ≡ None)
    → written_count root (n + k) ≡ written_count root n
count_unwritten root n zero none = let e : n + zero ≡ n = omega arith in ap (written_count root) e
count_unwritten root n (suc k) none =
    let e : n + suc k ≡ suc (n + k) = omega arith in
    let same = ap (written_count root) e in
    let here = ap one_there (none (n + k) (omega arith) (omega arith)) in
    let before = count_unwritten root n k (λ i low high. none i low (omega (arith, high))) in
    omega (arith, same, here, before)

-- what lies at a location has a place behind what lies below it
pub room_for_one : (seen : ℕ → ℕ) (root : ℕ → Option ℕ) (l n room : ℕ) → l < n → written_count root n ≤ room
    → length (written_below seen root l) + length (written_there l (seen l) (root l)) ≤ room
room_for_one seen root l n room less enough =
    let below = length_below seen root l in
    let here = length_there l (seen l) (root l) in
    let e : suc l + (n - suc l) ≡ n = omega (arith, less) in
    let rest = count_onward root (suc l) (n - suc l) in
    let same = ap (written_count root) e in omega (arith, below, here, rest, same, enough)

-- the bits of a word, from the lowest on
one_chosen : (b w : ℕ) → b < 2 → one_there (chosen b w) ≤ b
one_chosen b w small = dite (ℕ_discrete b 1)
    (λ one. let e = ap (λ (z : ℕ). one_there (chosen z w)) one in omega (arith, e, one))
    (λ ne. let e = ap one_there (chosen_zero b w (omega (arith, small, ne))) in omega (arith, e))

count_bits : (root : ℕ → Option ℕ) (words : ℕ → ℕ) (k a n : ℕ)
    → ((i : ℕ) → i < k → root (a + i) ≡ chosen (bit_at n i) (words i))
    → written_count root (a + k) ≤ written_count root a + count_ones n
count_bits root words zero a n is =
    let e : a + zero ≡ a = omega arith in let same = ap (written_count root) e in omega (arith, same)
count_bits root words (suc k) a n is =
    let e : a + suc k ≡ suc a + k = omega arith in
    let same = ap (written_count root) e in
    let step = ones_step n in
    let low = bit_at_lowest n in
    let z : a + 0 ≡ a = omega arith in
    let here = ap one_there (ap root (sym z) ∙ is 0 (omega arith)) in
    let one = one_chosen (bit_at n 0) (words 0) (bit_at-lt n 0) in
    let rest = count_bits root (λ i. words (suc i)) k (suc a) (n / 2) (λ i lt.
    let q : suc a + i ≡ a + suc i = omega arith in
    ap root q ∙ (is (suc i) (omega (arith, lt)) ∙ ap (λ (b : ℕ). chosen b (words (suc i))) (bit_at-suc n i))) in
    omega (arith, same, step, low, here, one, rest)

pub count_row : (d : Delta) (row bits : ℕ) → bits ≡ slice_index (mask_of d) row
    → written_count (at d) (64 * row + 64) ≤ written_count (at d) (64 * row) + count_ones bits
count_row d row bits is =
    count_bits (at d) (λ i. slice_index d.cells.items (64 * row + i)) 64 (64 * row) bits
    (λ i lt. ap (λ (b : ℕ). chosen b (slice_index d.cells.items (64 * row + i)))
    (bit_in_row (mask_of d) row i lt ∙ ap (λ (z : ℕ). bit_at z i) (sym is)))

pub count_more : (d : Delta) (from row bits room : ℕ) → from ≤ row → AreEmptyRows d from row
    → bits ≡ slice_index (mask_of d) row → written_count (at d) (64 * from) ≤ room
    → written_count (at d) (64 * (row + 1)) ≤ room + count_ones bits
count_more d from row bits room le none is enough =
    let k : ℕ = 64 * row - 64 * from in
    let e : 64 * from + k ≡ 64 * row = omega (arith, le) in
    let past = count_unwritten (at d) (64 * from) k (λ l lo hi.
    none_behind d from row (64 * from) (64 * row) none (omega arith) (omega arith) l lo (omega (arith, hi, e))) in
    let same = ap (written_count (at d)) e in
    let next : 64 * row + 64 ≡ 64 * (row + 1) = omega arith in
    let there = ap (written_count (at d)) next in
    let one = count_row d row bits is in omega (arith, past, same, there, one, enough)

pub count_all : (d : Delta) (from n room : ℕ) → locations d ≡ n → AreEmptyRows d from (rows (locations d))
    → written_count (at d) (64 * from) ≤ room → written_count (at d) n ≤ room
count_all d from n room many none enough = dite (dec_le n (64 * from))
    (λ le.
    let k : ℕ = 64 * from - n in
    let e : n + k ≡ 64 * from = omega (arith, le) in
    let more = count_onward (at d) n k in
    let same = ap (written_count (at d)) e in omega (arith, more, same, enough))
    (λ gt.
    let k : ℕ = n - 64 * from in
    let e : 64 * from + k ≡ n = omega arith in
    let past = count_unwritten (at d) (64 * from) k (λ l lo hi.
    none_behind d from (rows (locations d)) (64 * from) n none (omega arith) (omega (arith, many)) l lo
    (omega (arith, hi, e))) in
    let same = ap (written_count (at d)) e in omega (arith, past, same, enough))

count_alike : (root root' : ℕ → Option ℕ) (n : ℕ) → ((l : ℕ) → l < n → root' l ≡ root l)
    → written_count root' n ≡ written_count root n
count_alike root root' zero same = refl
count_alike root root' (suc n) same =
    let before = count_alike root root' n (λ l less. same l (omega (arith, less))) in
    let here = ap one_there (same n (omega arith)) in omega (arith, before, here)

pub room_kept : (list : Vec Written Global) (n : ℕ) (seen seen' : ℕ → ℕ) (root root' : ℕ → Option ℕ)
    → Kept n seen seen' root root' → HasRoom list root n → HasRoom list root' n
room_kept list n seen seen' root root' kept room =
    let same = count_alike root root' n kept.roots in
    let enough = room.1 in (room.0, omega (arith, same, enough))
