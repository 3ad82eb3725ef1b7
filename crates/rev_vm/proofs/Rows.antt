-- Rows of 64 written locations.
--   row_between  64 places whose last location is the first and 63 more are a row
--   row_place, row_fits   where a row's locations are, and that there are so many
--   map_part     the first words, and a part behind them
--   row_seen     the words of a row that a delta has are those that are seen under it
--   seen_part    and where memory shows what it showed, those that were seen at first
--   row_on       a row that is written at once is written word by word
use Rattle.std.proofs.Common.{◌≡◌, ◌≢◌, ◌∙◌, ap, sym, refl, subst, ℕ, zero, suc, ◌+◌, ◌-◌, ◌*◌, ◌<◌, ◌≤◌, Bool, true, false, List, [], ◌∷◌, ◌++◌, length, map, take, drop, get_or, All, Option, Some, None, arith}
use Rattle.std.specs.Prelude.{nat_eq, nat_lt, cond}
use Rattle.std.proofs.lemmas.Bool.Decides.{nat_tests}
use Rattle.std.proofs.lemmas.List.{take_all, length-take, length-drop, length-map, get_or-map, get_or-take, get_or-drop}
use Rattle.std.proofs.lemmas.Grind.{same_number_lists}
use Rattle.std.proofs.lemmas.Option.{slice_get-get_or}
use Rattle.version_map.specs.declared.end.Written.{Written}
use Rattle.version_map.specs.declared.delta.Delta.{Delta}
use Rattle.version_map.specs.Ascending.{IsAscending}
use Rattle.version_map.proofs.Following.{location_at, climbs}
use Rattle.version_map.specs.Deltas.{at, mask_of}
use Rattle.version_map.specs.Masks.{bit_in, chosen}
use Rattle.version_map.specs.Overlay.{Agree, under, word_or}
use Rattle.block_run.specs.Remembering.{Kept, Wrote}
use Rattle.block_run.proofs.Onward.{kept_seen}
use Rattle.rev_vm.specs.Rows.{IsRow, WroteRow}
use Rattle.rev_vm.proofs.Writing.{IsOn, goes_on, no_entry}

-- ---- which row stands there

some_eq : {x y : Written} → Some x ≡ Some y → x ≡ y
some_eq e = cc

pub row_between : (ws : List Written) (i row : ℕ) → IsAscending ws → i + 64 ≤ length ws
    → location_at ws i ≡ 64 * row → location_at ws (i + 63) ≡ 64 * row + 63 → IsRow ws i row
row_between ws i row ascend room low high = record {
  within = room;
  location = λ k w lt is.
      let up = climbs ws ascend i k (omega arith) in
      let down = climbs ws ascend (i + k) (63 - k) (omega arith) in
      let last : i + k + (63 - k) ≡ i + 63 = omega arith in
      let there = ap (location_at ws) last in
      let found = some_eq (sym is ∙ slice_get-get_or ws (i + k) no_entry (omega arith)) in
      let same = ap (λ (u : Written). u.location) found in
      omega (arith, up, down, there, same, low, high, lt);
}

pub row_place : (ws : List Written) (i row k : ℕ) → IsRow ws i row → k < 64 → location_at ws (i + k) ≡ 64 * row + k
row_place ws i row k r lt =
    let room = r.within in
    r.location k (get_or ws (i + k) no_entry) lt (slice_get-get_or ws (i + k) no_entry (omega arith))

pub row_fits : (n : ℕ) (ws : List Written) (i row : ℕ) → IsRow ws i row → All (λ (w : Written). w.location < n) ws
    → 64 * row + 64 ≤ n
row_fits n ws i row r all =
    let room = r.within in
    let last = row_place ws i row 63 r (omega arith) in
    let small = all (i + 63) no_entry (omega (arith, room)) in
    omega (arith, last, small)

-- ---- what is read

pub map_part : (f : Written → ℕ) (ws : List Written) (i n : ℕ)
    → map f (take i ws) ++ map f (take n (drop i ws)) ≡ map f (take (i + n) ws)
map_part f ws zero n = let e : n ≡ 0 + n = omega arith in ap (λ m. map f (take m ws)) e
map_part f [] (suc i) n =
    ap (map f) (take_all n [] (omega arith) ∙ sym (take_all (suc i + n) [] (omega arith)))
map_part f (w ∷ ws) (suc i) n =
    let e : suc (i + n) ≡ suc i + n = omega arith in
    ap (λ xs. f w ∷ xs) (map_part f ws i n) ∙ ap (λ m. map f (take m (w ∷ ws))) e

word_there : (b w x : ℕ) (o : Option ℕ) → o ≡ chosen b w → o ≢ None → word_or x o ≡ w
word_there b w x o is some = by (nat_eq b 1) is
  where
    by : (t : Bool) → o ≡ cond t (Some w) None → word_or x o ≡ w
    by true e = ap (word_or x) e
    by false e = absurd (some e)

pub row_seen : (d : Delta) (base : ℕ → ℕ) (ws : List Written) (i row : ℕ) (words : List ℕ) → IsRow ws i row
    → length words ≡ 64
    → ((k : ℕ) → k < length words
    → at d (64 * row + k) ≡ chosen (bit_in (mask_of d) (64 * row + k)) (get_or words k 0))
    → ((k : ℕ) → k < 64 → at d (64 * row + k) ≢ None)
    → words ≡ map (λ w. under d base w.location) (take 64 (drop i ws))
row_seen d base ws i row words r many are some =
    same_number_lists words (map f (take 64 (drop i ws))) (many ∙ sym long) each
  where
    f : Written → ℕ
    f w = under d base w.location

    short : length (take 64 (drop i ws)) ≡ 64
    short =
        let a = length-take 64 (drop i ws) in
        let b = length-drop i ws in
        let c = r.within in omega (arith, a, b, c)

    long : length (map f (take 64 (drop i ws))) ≡ 64
    long = length-map (take 64 (drop i ws)) f ∙ short

    each : (k : ℕ) → k < length words → get_or words k 0 ≡ get_or (map f (take 64 (drop i ws))) k 0
    each k lt =
        let small : k < 64 = omega (arith, lt, many) in
        sym (get_or-map f (take 64 (drop i ws)) k no_entry 0 (omega (arith, small, short))
        ∙ (ap f (get_or-take 64 (drop i ws) k no_entry small ∙ get_or-drop i ws k no_entry)
        ∙ (ap (under d base) (row_place ws i row k r small)
        ∙ word_there (bit_in (mask_of d) (64 * row + k)) (get_or words k 0) (base (64 * row + k)) (at d (64 * row + k))
        (are k lt) (some k small))))

module _ (s s' : ℕ → ℕ) (n : ℕ) (same : Agree n s' s) where
  seen_all : (ws : List Written) → All (λ (w : Written). w.location < n) ws
      → map (λ (w : Written). s' w.location) ws ≡ map (λ (w : Written). s w.location) ws
  seen_all [] all = refl
  seen_all (w ∷ ws) all =
      let here = same w.location (all 0 w (omega arith)) in
      let rest = seen_all ws (λ j d lt. all (suc j) d (omega (arith, lt))) in (λ i. here i ∷ rest i)

  pub seen_part : (ws : List Written) (i k : ℕ) → All (λ (w : Written). w.location < n) ws
      → map (λ (w : Written). s' w.location) (take k (drop i ws))
      ≡ map (λ (w : Written). s w.location) (take k (drop i ws))
  seen_part ws i k all =
      seen_all (take k (drop i ws))
      (λ j d lt.
      let a = length-take k (drop i ws) in
      let b = length-drop i ws in
      let few : j < k = omega (arith, a, lt) in
      subst (λ (w : Written). w.location < n) (sym (get_or-take k (drop i ws) j d few ∙ get_or-drop i ws j d))
      (all (i + j) d (omega (arith, a, b, lt))))

-- ---- what is written

pub word_in_part : (xs : List ℕ) (i k : ℕ) → k < 64 → get_or (take (i + 64 - i) (drop i xs)) k 0 ≡ get_or xs (i + k) 0
word_in_part xs i k lt = get_or-take (i + 64 - i) (drop i xs) k 0 (omega (arith, lt)) ∙ get_or-drop i xs k 0

-- the words of the first m locations from f, and of the others from g
abbrev up_to : (f g : ℕ → ℕ) → ℕ → ℕ → ℕ
up_to f g m l = cond (nat_lt l m) (f l) (g l)

low : (f g : ℕ → ℕ) (m l : ℕ) → l < m → up_to f g m l ≡ f l
low f g m l lt = by (nat_lt l m) refl
  where
    by : (b : Bool) → nat_lt l m ≡ b → cond b (f l) (g l) ≡ f l
    by true e = refl
    by false e = absurd (grind (arith, nat_tests, e, lt))

high : (f g : ℕ → ℕ) (m l : ℕ) → m ≤ l → up_to f g m l ≡ g l
high f g m l le = by (nat_lt l m) refl
  where
    by : (b : Bool) → nat_lt l m ≡ b → cond b (f l) (g l) ≡ g l
    by true e = absurd (grind (arith, nat_tests, e, le))
    by false e = refl

which : (l m : ℕ) → (P : Type 0) → (l < m → P) → (m ≤ l → P) → P
which l m P a b = by (nat_lt l m) refl
  where
    by : (t : Bool) → nat_lt l m ≡ t → P
    by true e = a (grind (arith, nat_tests, e))
    by false e = b (grind (arith, nat_tests, e))

known_root : (x : ℕ) (o : Option ℕ) → o ≢ None → o ≡ Some (word_or x o)
known_root x None h = absurd (h refl)
known_root x (Some v) h = refl

module _ (size : ℕ) (written : List Written) (values : List ℕ) (i row : ℕ) (seen : ℕ → ℕ) (root : ℕ → Option ℕ)
    (seen1 seen2 : ℕ → ℕ) (root1 root2 : ℕ → Option ℕ) (r : IsRow written i row) (many : length values ≡ length written)
    (did : WroteRow size row i values seen1 seen2 root1 root2) where
  kept_on : (s s' : ℕ → ℕ) (q q' : ℕ → Option ℕ) (n : ℕ) → Kept size s s' q q'
      → IsOn size written values n seen root s q → IsOn size written values n seen root s' q'
  kept_on s s' q q' n k on = λ ls es xs short there places stand.
      let so = on ls es xs short there places stand in
      record {
        now = so.now;
        entries = so.entries;
        words = so.words;
        short = so.short;
        there = kept_seen so.now s s' q q' so.there size so.short k;
        places = so.places;
        stand = so.stand;
        same = so.same;
      }

  abbrev so_far : ℕ → ℕ → ℕ
  so_far k = up_to seen2 seen1 (64 * row + k)

  one : (k : ℕ) → k < 64 → Wrote size (so_far k) (so_far (k + 1)) root1 root1 (64 * row + k) (get_or values (i + k) 0)
  one k lt = record {
    within = (let w = did.within in omega (arith, w, lt));
    here = low seen2 seen1 (64 * row + (k + 1)) (64 * row + k) (omega arith) ∙ did.here k lt;
    others = λ l small ne.
        which l (64 * row + k) (so_far (k + 1) l ≡ so_far k l)
        (λ below.
        low seen2 seen1 (64 * row + (k + 1)) l (omega (arith, below)) ∙ sym (low seen2 seen1 (64 * row + k) l below))
        (λ above.
        high seen2 seen1 (64 * row + (k + 1)) l (omega (arith, above, ne))
        ∙ sym (high seen2 seen1 (64 * row + k) l above));
    root_here = known_root (so_far k (64 * row + k)) (root1 (64 * row + k)) (did.known k lt);
    root_others = λ l small ne. refl;
  }

  begins_so : Kept size seen1 (so_far 0) root1 root1
  begins_so = record {
    words = λ l small.
        which l (64 * row) (so_far 0 l ≡ seen1 l)
        (λ below. low seen2 seen1 (64 * row + 0) l (omega (arith, below)) ∙ did.before l below)
        (λ above. high seen2 seen1 (64 * row + 0) l (omega (arith, above)));
    roots = λ l small. refl;
  }

  ends_so : Kept size (so_far 64) seen2 root1 root2
  ends_so = record {
    words = λ l small.
        which l (64 * row + 64) (seen2 l ≡ so_far 64 l)
        (λ below. sym (low seen2 seen1 (64 * row + 64) l below))
        (λ above. did.after l above ∙ sym (high seen2 seen1 (64 * row + 64) l above));
    roots = λ l small. did.roots l;
  }

  step_on : (k : ℕ) → k < 64 → IsOn size written values (i + k) seen root (so_far k) root1
      → IsOn size written values (i + (k + 1)) seen root (so_far (k + 1)) root1
  step_on k lt on =
      let room = r.within in
      let next : i + k + 1 ≡ i + (k + 1) = omega arith in
      subst (λ n. IsOn size written values n seen root (so_far (k + 1)) root1) next
      (goes_on size written values (i + k) no_entry seen (so_far k) (so_far (k + 1)) root root1 root1
      (omega (arith, lt, room)) (omega (arith, lt, room, many)) on
      (subst (λ l. Wrote size (so_far k) (so_far (k + 1)) root1 root1 l (get_or values (i + k) 0))
      (sym (row_place written i row k r lt)) (one k lt)))

  all_so : (k : ℕ) → k ≤ 64 → IsOn size written values i seen root seen1 root1
      → IsOn size written values (i + k) seen root (so_far k) root1
  all_so zero le on =
      let z : i ≡ i + 0 = omega arith in
      subst (λ n. IsOn size written values n seen root (so_far 0) root1) z
      (kept_on seen1 (so_far 0) root1 root1 i begins_so on)
  all_so (suc k) le on =
      let e : k + 1 ≡ suc k = omega arith in
      subst (λ n. IsOn size written values (i + n) seen root (so_far n) root1) e
      (step_on k (omega (arith, le)) (all_so k (omega (arith, le)) on))

  pub row_on : IsOn size written values i seen root seen1 root1
      → IsOn size written values (i + 64) seen root seen2 root2
  row_on on = kept_on (so_far 64) seen2 root1 root2 (i + 64) ends_so (all_so 64 (omega arith) on)
