-- Words written one after another.
use Rattle.std.proofs.Common.{◌≡◌, ◌∙◌, ℕ, zero, suc, ◌+◌, ◌<◌, ◌≤◌, List, [], ◌∷◌, ◌++◌, length, map, take, drop, get_or, Option, refl, ap, subst, arith}
use Rattle.std.proofs.lemmas.List.{drop_more, drop_all}
use Rattle.rev_code.specs.Words.{Word}
use Rattle.rev_code.specs.State.{Location, written_at}
use Rattle.version_map.specs.declared.end.Written.{Written}
use Rattle.version_map.specs.Composing.{Entry}
use Rattle.block_run.specs.Agreement.{AreWords}
use Rattle.block_run.specs.Standing.{AreSeen}
use Rattle.block_run.specs.Remembering.{Wrote}
use Rattle.block_run.proofs.Onward.{wrote_seen, written_length}
use Rattle.code_machine.specs.Joining.{written_all}
use Rattle.rev_vm.specs.Writes.{AreAtEntries, HasWritten}

-- the locations now, to which the words from a place on are still to be written
pub record IsSoFar (size : ℕ) (ls : List (Location ℕ)) (es : List (Entry (Word ℕ))) (xs : List (Word ℕ))
    (written : List Written) (values : List ℕ) (seen : ℕ → ℕ) (root : ℕ → Option ℕ) : Type 0 where
  pub now : List (Location ℕ)
  pub entries : List (Entry (Word ℕ))
  pub words : List (Word ℕ)
  pub short : length now ≤ size
  pub there : AreSeen now seen root
  pub places : AreAtEntries entries written
  pub stand : AreWords words values
  pub same : written_all now entries words ≡ written_all ls es xs

abbrev pub IsOn : (size : ℕ) → List Written → List ℕ → (i : ℕ)
    → (seen : ℕ → ℕ) (root : ℕ → Option ℕ) (seen' : ℕ → ℕ) (root' : ℕ → Option ℕ) → Type 0
IsOn size written values i seen root seen' root' =
    (ls : List (Location ℕ)) (es : List (Entry (Word ℕ))) (xs : List (Word ℕ)) → length ls ≤ size → AreSeen ls seen root
    → AreAtEntries es written → AreWords xs values
    → IsSoFar size ls es xs (drop i written) (drop i values) seen' root'

pub begins : (size : ℕ) (written : List Written) (values : List ℕ) (seen : ℕ → ℕ) (root : ℕ → Option ℕ)
    → IsOn size written values 0 seen root seen root
begins size written values seen root = λ ls es xs short there places stand. record {
  now = ls;
  entries = es;
  words = xs;
  short = short;
  there = there;
  places = places;
  stand = stand;
  same = refl;
}

one : (size : ℕ) (ls : List (Location ℕ)) (es : List (Entry (Word ℕ))) (xs : List (Word ℕ)) (w : Written)
    (ws : List Written) (v : ℕ) (vs : List ℕ) (seen seen' : ℕ → ℕ) (root root' : ℕ → Option ℕ)
    → IsSoFar size ls es xs (w ∷ ws) (v ∷ vs) seen root → Wrote size seen seen' root root' w.location v
    → IsSoFar size ls es xs ws vs seen' root'
one size ls es xs w ws v vs seen seen' root root' s k = by s.entries s.words s.places s.stand s.same
  where
    by : (fs : List (Entry (Word ℕ))) (ys : List (Word ℕ)) → AreAtEntries fs (w ∷ ws) → AreWords ys (v ∷ vs)
        → written_all s.now fs ys ≡ written_all ls es xs → IsSoFar size ls es xs ws vs seen' root'
    by (f ∷ fs) (y ∷ ys) places stand same =
        let k' : Wrote size seen seen' root root' f.location v =
        subst (λ l. Wrote size seen seen' root root' l v) places.0 k in
        record {
          now = written_at s.now f.location y;
          entries = fs;
          words = ys;
          short = (let e = written_length s.now f.location y in let m = s.short in omega (arith, e, m));
          there = wrote_seen s.now seen seen' root root' s.there size s.short f.location v y stand.0 k';
          places = places.1;
          stand = stand.1;
          same = same;
        }
    by [] ys places stand same = absurd places
    by (f ∷ fs) [] places stand same = absurd stand

pub goes_on : (size : ℕ) (written : List Written) (values : List ℕ) (i : ℕ) (w0 : Written) (seen seen1 seen2 : ℕ → ℕ)
    (root root1 root2 : ℕ → Option ℕ)
    → i < length written → i < length values
    → IsOn size written values i seen root seen1 root1
    → Wrote size seen1 seen2 root1 root2 (get_or written i w0).location (get_or values i 0)
    → IsOn size written values (i + 1) seen root seen2 root2
goes_on size written values i w0 seen seen1 seen2 root root1 root2 a b on k = λ ls es xs short there places stand.
    let s = on ls es xs short there places stand in
    let s' = subst (λ ws. IsSoFar size ls es xs ws (drop i values) seen1 root1) (drop_more written i w0 a) s in
    let s'' =
    subst (λ vs. IsSoFar size ls es xs (get_or written i w0 ∷ drop (i + 1) written) vs seen1 root1)
    (drop_more values i 0 b) s' in
    one size ls es xs (get_or written i w0) (drop (i + 1) written) (get_or values i 0) (drop (i + 1) values) seen1 seen2
    root1 root2 s'' k

pub all_on : (size : ℕ) (written : List Written) (values : List ℕ) (i : ℕ) (seen seen' : ℕ → ℕ)
    (root root' : ℕ → Option ℕ)
    → length written ≤ i → IsOn size written values i seen root seen' root'
    → HasWritten size written values seen root seen' root'
all_on size written values i seen seen' root root' h on = λ ls es xs short there places stand.
    let s = on ls es xs short there places stand in
    let s' = subst (λ ws. IsSoFar size ls es xs ws (drop i values) seen' root') (drop_all i written h) s in
    by ls es xs s'
  where
    by : (ls : List (Location ℕ)) (es : List (Entry (Word ℕ))) (xs : List (Word ℕ))
        → IsSoFar size ls es xs [] (drop i values) seen' root' → AreSeen (written_all ls es xs) seen' root'
    by ls es xs s = none s.entries s.places s.same
      where
        none : (fs : List (Entry (Word ℕ))) → AreAtEntries fs [] → written_all s.now fs s.words ≡ written_all ls es xs
            → AreSeen (written_all ls es xs) seen' root'
        none [] places same = subst (λ ls. AreSeen ls seen' root') same s.there
        none (f ∷ fs) places same = absurd places

-- ---- what is read

abbrev pub no_entry : Written
no_entry = record { location = 0; value = 0; root = 0 }

pub map_more : (f : Written → ℕ) (ws : List Written) (i : ℕ) (d : Written) → i < length ws
    → map f (take i ws) ++ f (get_or ws i d) ∷ [] ≡ map f (take (i + 1) ws)
map_more f ws i d h = by ws i h ∙ (let e : suc i ≡ i + 1 = omega arith in ap (λ m. map f (take m ws)) e)
  where
    by : (ws : List Written) (i : ℕ) → i < length ws
        → map f (take i ws) ++ f (get_or ws i d) ∷ [] ≡ map f (take (suc i) ws)
    by [] i h = absurd (omega (arith, h))
    by (w ∷ ws) zero h = refl
    by (w ∷ ws) (suc i) h = ap (λ xs. f w ∷ xs) (by ws i (omega (arith, h)))
