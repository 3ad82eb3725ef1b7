-- A row of a segment's values, of which a delta takes those that it lacks.
--   Row          of the locations from `first` on, those before n are taken, and all others are as at first
--   row_more     a location more is taken
--   row_skip     past locations that keep what they had
--   skipped      a location keeps what it had where the delta does not lack the segment's value
--   row_past     of a row, past such locations
--   took         one that the delta lacks gets the segment's value
use Rattle.std.proofs.Common.{◌≡◌, ◌≢◌, ℕ, ◌+◌, ◌-◌, ◌*◌, ◌/◌, ◌%◌, ◌^◌, ◌<◌, ◌≤◌, min, Option, None, Some, ap, refl, sym, subst, ◌∙◌, arith}
use Rattle.std.specs.Prelude.{bit_and, slice_index}
use Rattle.std.specs.Int.{bit_at, bit_not, w64}
use Rattle.std.proofs.lemmas.Nat.Bits.{bit_at_and, bit_at_not, bit_at-lt}
use mathlib.Core.Logic.{dite}
use native.Mathlib.Decide.{ℕ_discrete, dec_le}
use Rattle.segment_store.specs.Places.{Place, view}
use Rattle.version_map.specs.declared.delta.Delta.{Delta}
use Rattle.version_map.specs.Deltas.{at, locations, mask_of}
use Rattle.version_map.specs.Masks.{bit_in}
use Rattle.version_map.proofs.Bits.{chosen_zero, not_chosen}
use Rattle.version_map.proofs.Nexts.{bit_in_row}
use Rattle.segment_store.specs.Base.{absorbed, IsTaken}
use Rattle.segment_store.specs.Same.{IsWord}
use Rattle.segment_store.proofs.Taken.{taken_none, taken_some}

abbrev pub Row : ℕ → (ℕ → Option ℕ → Option ℕ → Type 0) → Delta → ℕ → Delta → Type 0
Row first taken old n now = (locations now ≡ locations old) × (first ≤ n)
    × ((k : ℕ) → n ≤ k → at now k ≡ at old k) × ((k : ℕ) → k < first → at now k ≡ at old k)
    × ((k : ℕ) → first ≤ k → k < n → taken k (at old k) (at now k))

pub row_more : (first : ℕ) (taken : ℕ → Option ℕ → Option ℕ → Type 0) (old : Delta) (n : ℕ)
    (now new : Delta) (o : Option ℕ) → Row first taken old n now → taken n (at old n) o
    → locations new ≡ locations now → at new n ≡ o
    → ((k : ℕ) → k ≢ n → at new k ≡ at now k) → Row first taken old (n + 1) new
row_more first taken old n now new o i took size here others = (
  size ∙ i.0,
  (let le = i.1 in omega arith),
  λ k le. others k (λ is. omega arith) ∙ i.2 k (omega arith),
  λ k lt. others k (λ is. let le = i.1 in omega arith) ∙ i.3 k lt,
  λ k lo lt. dite (ℕ_discrete k n)
      (λ is. subst (λ (m : ℕ). taken m (at old m) (at new m)) (sym is)
      (subst (taken n (at old n)) (sym here) took))
      (λ ne. subst (taken k (at old k)) (sym (others k ne)) (i.4 k lo (omega arith))),
)

pub row_skip : (first : ℕ) (taken : ℕ → Option ℕ → Option ℕ → Type 0) (old : Delta) (n m : ℕ) (now : Delta)
    → Row first taken old n now → n ≤ m → ((k : ℕ) → n ≤ k → k < m → taken k (at old k) (at old k))
    → Row first taken old m now
row_skip first taken old n m now i le skip = (
  i.0,
  (let low = i.1 in omega arith),
  λ k high. i.2 k (omega arith),
  i.3,
  λ k lo lt. dite (dec_le n k)
      (λ ge. subst (taken k (at old k)) (sym (i.2 k ge)) (skip k ge lt))
      (λ less. i.4 k lo (omega arith)),
)

-- a bit that the segment's row has and the delta's has not
missing_bit : (bits mask i : ℕ) → mask < 2 ^ 64 → i < 64
    → bit_at (bit_and bits (bit_not w64 mask)) i ≡ min (bit_at bits i) (1 - bit_at mask i)
missing_bit bits mask i fits lt =
    bit_at_and bits (bit_not w64 mask) i ∙ ap (min (bit_at bits i)) (bit_at_not w64 mask i fits lt)

not_both : (a b c : ℕ) → c ≡ min a (1 - b) → c ≡ 0 → b ≡ 0 → a ≡ 1 → ⊥
not_both a b c is none unset set = omega arith

one_alone : (a b c : ℕ) → c ≡ min a (1 - b) → c ≡ 1 → a < 2 → b < 2 → (a ≡ 1) × (b ≡ 0)
one_alone a b c is one p q = (omega arith, omega arith)

module _ (words stride masks segment row bits mask : ℕ) (s : Place) (d : Delta)
    (fits : mask < 2 ^ 64) (is : mask ≡ slice_index (mask_of d) row) (low : row < masks)
    (word : IsWord s (segment + (2 + row)) bits) where
  -- the bit of a location of the row in the delta's mask
  bit_here : (k : ℕ) → k < 64 → bit_in (mask_of d) (64 * row + k) ≡ bit_at mask k
  bit_here k lt = bit_in_row (mask_of d) row k lt ∙ ap (λ (z : ℕ). bit_at z k) (sym is)

  row_word : (l : ℕ) → l / 64 ≡ row → IsWord s (segment + (2 + l / 64)) bits
  row_word l at_row = subst (λ (r : ℕ). IsWord s (segment + (2 + r)) bits) (sym at_row) word

  pub skipped : (k : ℕ) → k < 64 → bit_at (bit_and bits (bit_not w64 mask)) k ≡ 0
      → IsTaken words stride masks segment (64 * row + k) (view s).chain (at d (64 * row + k)) (at d (64 * row + k))
  skipped k lt none e has seg whole = by (at d (64 * row + k)) refl
    where
      by : (o : Option ℕ) → at d (64 * row + k) ≡ o → o ≡ absorbed masks e o (64 * row + k)
      by (Some w) q = refl
      by None q =
          let l : ℕ = 64 * row + k in
          let at_row : l / 64 ≡ row = omega (arith, lt) in
          let at_bit : l % 64 ≡ k = omega (arith, lt) in
          let unset : bit_at mask k ≡ 0 =
          sym (bit_here k lt) ∙ not_chosen (bit_in (mask_of d) l) (slice_index d.cells.items l)
          (bit_at-lt (slice_index (mask_of d) (l / 64)) (l % 64)) q in
          taken_none words stride masks segment l bits s e has seg whole (row_word l at_row)
          (omega (arith, at_row, low))
          (λ set. not_both (bit_at bits k) (bit_at mask k) (bit_at (bit_and bits (bit_not w64 mask)) k)
          (missing_bit bits mask k fits lt) none unset (ap (bit_at bits) (sym at_bit) ∙ set))

  abbrev pub taken : ℕ → Option ℕ → Option ℕ → Type 0
  taken j o p = IsTaken words stride masks segment j (view s).chain o p

  -- past bits that the delta does not lack
  pub row_past : (from to : ℕ) (now : Delta) → Row (64 * row) taken d (64 * row + from) now → from ≤ to → to ≤ 64
      → ((k : ℕ) → from ≤ k → k < to → bit_at (bit_and bits (bit_not w64 mask)) k ≡ 0)
      → Row (64 * row) taken d (64 * row + to) now
  row_past from to now r le few none =
      row_skip (64 * row) taken d (64 * row + from) (64 * row + to) now r (omega (arith, le))
      (λ j lo hi.
      let k : ℕ = j - 64 * row in
      let here : 64 * row + k ≡ j = omega (arith, lo) in
      subst (λ (l : ℕ). taken l (at d l) (at d l)) here
      (skipped k (omega (arith, lo, hi, few)) (none k (omega (arith, lo)) (omega (arith, lo, hi)))))

  pub took : (k y : ℕ) (t : Place) → k < 64 → bit_at (bit_and bits (bit_not w64 mask)) k ≡ 1
      → view t ≡ view s → IsWord t (segment + (2 + masks + (64 * row + k))) y → 2 + masks + (64 * row + k) < stride
      → IsTaken words stride masks segment (64 * row + k) (view s).chain (at d (64 * row + k)) (Some y)
  took k y t lt one same there inside e has seg whole =
      let l : ℕ = 64 * row + k in
      let at_row : l / 64 ≡ row = omega (arith, lt) in
      let at_bit : l % 64 ≡ k = omega (arith, lt) in
      let both = one_alone (bit_at bits k) (bit_at mask k) (bit_at (bit_and bits (bit_not w64 mask)) k)
      (missing_bit bits mask k fits lt) one (bit_at-lt bits k) (bit_at-lt mask k) in
      let none : at d l ≡ None =
      chosen_zero (bit_in (mask_of d) l) (slice_index d.cells.items l) (bit_here k lt ∙ both.1) in
      taken_some words stride masks segment l bits y s t e has same seg whole (row_word l at_row) there
      (omega (arith, at_row, low)) inside (ap (bit_at bits) at_bit ∙ both.0)
      ∙ ap (λ (o : Option ℕ). absorbed masks e o l) (sym none)
