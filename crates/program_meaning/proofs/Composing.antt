-- What the code composes at a join is what the calculus composes.
--   composed_alike     the words of the composition are those of the composition of values
--   mains_alike        the joiner's view, where the joinee wrote
--   written_alike      the joiner's locations with the new words
use Rattle.std.proofs.Common.{◌≡◌, ◌∙◌, ℕ, suc, List, [], ◌∷◌, length, map, Option, Some, None, refl, sym, ap, arith}
use Rattle.std.specs.Prelude.{Result, Ok, Err}
use Rattle.rev_num.specs.Path.{Path}
use Rattle.rev_num.specs.declared.value.Value.{Value}
use Rattle.rev_num.specs.declared.value.NumFault.{NumFault}
use Rattle.revision_calculus.specs.State.{Location, view}
use Rattle.rev_code.specs.Words.{Word}
use Rattle.rev_code.specs.State as code
use Rattle.rev_code.specs.State.{seen, seen_at, written_at}
use Rattle.version_map.specs.Composing.{Entry, Merges, Composition, and_later, composed}
use Rattle.expression_meaning.specs.Agrees.{word}
use Rattle.expression_meaning.specs.States.{written_word, location_word}
use Rattle.program_meaning.specs.Composes.{with_main, mains_of, with_new}
use Rattle.program_meaning.specs.Composes as values
use Rattle.code_machine.specs.Local.{with_entry, written_from}
use Rattle.code_machine.specs.Joining.{main_at, mains, written_all}
use Rattle.program_meaning.proofs.Merging.{coded_value, AlikeAt, Alike}

abbrev pub locations : List Location → List (code.Location Path)
locations ms = map location_word ms

abbrev pub entries : ℕ → List Location → List (Entry (Word Path))
entries n js = written_from n (map location_word js)

abbrev pub coded_all : Composition Value → Composition (Word Path)
coded_all (Ok xs) = Ok (map word xs)
coded_all (Err f) = Err f

-- ---- the composition

later_alike : (n : ℕ) (r : Result Value NumFault) (c : Composition Value)
    → and_later n (coded_value r) (coded_all c) ≡ coded_all (and_later n r c)
later_alike n (Ok x) (Ok xs) = refl
later_alike n (Ok x) (Err f) = refl
later_alike n (Err e) c = refl

module _ (words : Merges (Word Path)) (merge : Merges Value) where
  at_alike : (n : ℕ) (m j : Location) (w : Option Value) (xs : List Value) (es : List (Entry (Word Path)))
      (vs : List (Entry Value))
      → AlikeAt words merge n m j w → composed words (map word xs) es ≡ coded_all (composed merge xs vs)
      → composed words (map word (with_main w (view m) xs)) (with_entry n (written_word w) (word j.base) es)
      ≡ coded_all (composed merge (with_main w (view m) xs) (values.with_entry n w j.base vs))
  at_alike n m j None xs es vs h later = later
  at_alike n m j (Some x) xs es vs h later =
      (λ i. and_later n (h i) (later i)) ∙ later_alike n (merge n (view m) x j.base) (composed merge xs vs)

  pub composed_alike : (n : ℕ) (ms js : List Location) → Alike words merge n ms js → length ms ≡ length js
      → composed words (map word (mains_of ms js)) (written_from n (map location_word js))
      ≡ coded_all (composed merge (mains_of ms js) (values.written_from n js))
  composed_alike n [] [] h long = refl
  composed_alike n [] (j ∷ js) h long = absurd (omega arith)
  composed_alike n (m ∷ ms) [] h long = absurd (omega arith)
  composed_alike n (m ∷ ms) (j ∷ js) h long =
      at_alike n m j j.written (mains_of ms js) (written_from (suc n) (map location_word js))
      (values.written_from (suc n) js) h.0 (composed_alike (suc n) ms js h.1 (omega (arith, long)))

-- ---- the joiner's view

seen_word : (m : Location) → seen (location_word m) ≡ word (view m)
seen_word m = by m.written
  where
    by : (w : Option Value) → seen (record { snapshot = word m.base; written = written_word w })
        ≡ word (view (record { base = m.base; written = w }))
    by None = refl
    by (Some x) = refl

mains_shift : (l : code.Location Path) (ls : List (code.Location Path)) (n : ℕ) (js : List Location)
    → mains (l ∷ ls) (written_from (suc n) (map location_word js)) ≡ mains ls (written_from n (map location_word js))
mains_shift l ls n [] = refl
mains_shift l ls n (j ∷ js) = by j.written (mains_shift l ls (suc n) js)
  where
    by : (w : Option Value)
        → mains (l ∷ ls) (written_from (suc (suc n)) (map location_word js))
        ≡ mains ls (written_from (suc n) (map location_word js))
        → mains (l ∷ ls)
        (with_entry (suc n) (written_word w) (word j.base) (written_from (suc (suc n)) (map location_word js)))
        ≡ mains ls (with_entry n (written_word w) (word j.base) (written_from (suc n) (map location_word js)))
    by None h = h
    by (Some x) h = ap (λ ws. main_at (seen_at ls n) ∷ ws) h

pub mains_alike : (ms js : List Location) → length ms ≡ length js
    → mains (map location_word ms) (written_from 0 (map location_word js)) ≡ map word (mains_of ms js)
mains_alike [] [] long = refl
mains_alike [] (j ∷ js) long = absurd (omega arith)
mains_alike (m ∷ ms) [] long = absurd (omega arith)
mains_alike (m ∷ ms) (j ∷ js) long =
    by j.written (mains_shift (location_word m) (map location_word ms) 0 js ∙ mains_alike ms js (omega (arith, long)))
  where
    by : (w : Option Value)
        → mains (location_word m ∷ map location_word ms) (written_from 1 (map location_word js))
        ≡ map word (mains_of ms js)
        → mains (location_word m ∷ map location_word ms)
        (with_entry 0 (written_word w) (word j.base) (written_from 1 (map location_word js)))
        ≡ map word (with_main w (view m) (mains_of ms js))
    by None h = h
    by (Some x) h = let e = seen_word m in λ i. e i ∷ h i

-- ---- the new locations

written_shift : (l : code.Location Path) (ls : List (code.Location Path)) (n : ℕ) (js : List Location)
    (ws : List (Word Path))
    → written_all (l ∷ ls) (written_from (suc n) (map location_word js)) ws
    ≡ l ∷ written_all ls (written_from n (map location_word js)) ws
written_shift l ls n [] ws = refl
written_shift l ls n (j ∷ js) ws = by j.written ws (λ ks us. written_shift l ks (suc n) js us)
  where
    by : (w : Option Value) (ws : List (Word Path))
        → ((ks : List (code.Location Path)) (us : List (Word Path))
        → written_all (l ∷ ks) (written_from (suc (suc n)) (map location_word js)) us
        ≡ l ∷ written_all ks (written_from (suc n) (map location_word js)) us)
        → written_all (l ∷ ls)
        (with_entry (suc n) (written_word w) (word j.base) (written_from (suc (suc n)) (map location_word js))) ws
        ≡ l
        ∷ written_all ls (with_entry n (written_word w) (word j.base) (written_from (suc n) (map location_word js))) ws
    by None ws h = h ls ws
    by (Some x) [] h = refl
    by (Some x) (u ∷ us) h = h (written_at ls n u) us

unwritten : (ls : List (code.Location Path)) (es : List (Entry (Word Path))) → written_all ls es [] ≡ ls
unwritten ls [] = refl
unwritten ls (e ∷ es) = refl

pub written_alike : (ms js : List Location) (xs : List Value) → length ms ≡ length js
    → written_all (map location_word ms) (written_from 0 (map location_word js)) (map word xs)
    ≡ map location_word (with_new ms js xs)
written_alike [] [] xs long = refl
written_alike [] (j ∷ js) xs long = absurd (omega arith)
written_alike (m ∷ ms) [] xs long = absurd (omega arith)
written_alike (m ∷ ms) (j ∷ js) xs long = by j.written xs (λ ys. written_alike ms js ys (omega (arith, long)))
  where
    by : (w : Option Value) (xs : List Value)
        → ((ys : List Value)
        → written_all (map location_word ms) (written_from 0 (map location_word js)) (map word ys)
        ≡ map location_word (with_new ms js ys))
        → written_all (location_word m ∷ map location_word ms)
        (with_entry 0 (written_word w) (word j.base) (written_from 1 (map location_word js))) (map word xs)
        ≡ map location_word (values.with_new_at w m (with_new ms js) xs)
    by None xs h =
        written_shift (location_word m) (map location_word ms) 0 js (map word xs)
        ∙ ap (λ ls. location_word m ∷ ls) (h xs)
    by (Some x) [] h =
        ap (λ ls. location_word m ∷ ls)
        (sym (unwritten (map location_word ms) (written_from 0 (map location_word js))) ∙ h [])
    by (Some x) (y ∷ ys) h =
        written_shift (record { snapshot = word m.base; written = Some (word y) }) (map location_word ms) 0 js
        (map word ys)
        ∙ ap (λ ls. record { snapshot = word m.base; written = Some (word y) } ∷ ls) (h ys)
