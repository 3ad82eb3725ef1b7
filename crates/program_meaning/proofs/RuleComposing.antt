-- The calculus composes as `composed` does, location by location; words are composed as the values for which they
-- stand.
--   from              from a location on
--   composes          from the first
--   encodes           entry by entry
use Rattle.std.proofs.Common.{◌≡◌, ◌∙◌, ℕ, suc, ◌+◌, List, [], ◌∷◌, length, map, slice_get, Option, Some, None, Result, Ok, Err, ap, sym, refl, arith}
use Rattle.rev_num.specs.declared.value.Value.{Value}
use Rattle.rev_num.specs.declared.value.NumFault.{NumFault}
use Rattle.rev_syntax.specs.Trees.{ProgramTree}
use Rattle.version_map.specs.Composing.{Entry, Merges, Composition, and_later, composed}
use Rattle.revision_calculus.specs.State.{Location, view}
use Rattle.revision_calculus.specs.Join.{merged, faults, compose, new_value, join_location, overwrite}
use Rattle.revision_calculus.specs.Join as calculus
use Rattle.program_meaning.specs.Composes.{with_entry, written_from, with_main, mains_of, merge_value, merge_there, merges_in, with_new, with_new_at, as_join, Encoding, AllFit, AgreeOnMerges, entry_words, main_words, word_or_fault, words_or_fault}

-- the same by the joinee's location
abbrev skipped : (w : Option Value) (m : Location) (ms js : List Location) (c : Composition Value)
    → calculus.Composition
skipped w m ms js (Ok xs) = merged (with_new_at w m (with_new ms js) xs)
skipped w m ms js (Err f) = faults f.0 f.1

-- the value of the merge is the calculus' new value
same_value : (p : ProgramTree) (k : Option ℕ) (m j : Location) (x : Value)
    → new_value p k m j x ≡ merge_value p k (view m) x j.base
same_value p None m j x = refl
same_value p (Some k) m j x = refl

taken : (n : ℕ) (x : Value) (m : Location) (ms js : List Location) (r : Result Value NumFault) (c : Composition Value)
    → calculus.and_later n (overwrite m r) (as_join ms js c) ≡ skipped (Some x) m ms js (and_later n r c)
taken n x m ms js (Ok y) (Ok ys) = refl
taken n x m ms js (Ok y) (Err f) = refl
taken n x m ms js (Err f) c = refl

-- one location, by what the joinee wrote there
step : (p : ProgramTree) (n : ℕ) (k : Option ℕ) (at : Merges Value) (m j : Location) (ms js : List Location)
    (w : Option Value)
    (xs : List Value) (es : List (Entry Value)) → at n ≡ merge_value p k
    → calculus.and_later n (join_location p k m j w) (as_join ms js (composed at xs es))
    ≡ skipped w m ms js (composed at (with_main w (view m) xs) (with_entry n w j.base es))
step p n k at m j ms js None xs es e = passed (composed at xs es)
  where
    passed : (c : Composition Value) → calculus.and_later n (Ok m) (as_join ms js c) ≡ skipped None m ms js c
    passed (Ok ys) = refl
    passed (Err f) = refl
step p n k at m j ms js (Some x) xs es e =
    ap (λ r. calculus.and_later n (overwrite m r) (as_join ms js (composed at xs es)))
    (same_value p k m j x ∙ ap (λ (f : Value → Value → Value → Result Value NumFault). f (view m) x j.base) (sym e))
    ∙ taken n x m ms js (at n (view m) x j.base) (composed at xs es)

from : (p : ProgramTree) (all : List (Option ℕ)) (n : ℕ) (ks : List (Option ℕ)) (ms js : List Location)
    → ((i : ℕ) → slice_get ks i ≡ slice_get all (n + i)) → length ms ≡ length ks → length js ≡ length ks
    → compose p n ks ms js ≡ as_join ms js (composed (merges_in p all) (mains_of ms js) (written_from n js))
from p all n [] [] [] same h g = refl
from p all n (k ∷ ks) (m ∷ ms) (j ∷ js) same h g =
    ap (calculus.and_later n (join_location p k m j j.written))
    (from p all (suc n) ks ms js (λ i. same (suc i) ∙ ap (slice_get all) (omega arith)) (omega arith) (omega arith))
    ∙ (step p n k (merges_in p all) m j ms js j.written (mains_of ms js) (written_from (suc n) js)
    (ap (merge_there p) (sym (same 0 ∙ ap (slice_get all) (omega arith))))
    ∙ by_answer (composed (merges_in p all) (mains_of (m ∷ ms) (j ∷ js)) (written_from n (j ∷ js))))
  where
    by_answer : (c : Composition Value) → skipped j.written m ms js c ≡ as_join (m ∷ ms) (j ∷ js) c
    by_answer (Ok xs) = refl
    by_answer (Err f) = refl
from p all n [] (m ∷ ms) js same h g = absurd (omega arith)
from p all n [] [] (j ∷ js) same h g = absurd (omega arith)
from p all n (k ∷ ks) [] js same h g = absurd (omega arith)
from p all n (k ∷ ks) (m ∷ ms) [] same h g = absurd (omega arith)

pub composes : (p : ProgramTree) (ks : List (Option ℕ)) (ms js : List Location) → length ms ≡ length ks
    → length js ≡ length ks
    → compose p 0 ks ms js ≡ as_join ms js (composed (merges_in p ks) (mains_of ms js) (written_from 0 js))
composes p ks ms js h g = from p ks 0 ks ms js (λ i. ap (slice_get ks) (omega arith)) h g

-- ---- words

module _ (c : Encoding) (words : Merges ℕ) (values : Merges Value) (agree : AgreeOnMerges c words values) where
  later : (n : ℕ) (e : Entry Value) (es : List (Entry Value)) (r : Result Value NumFault) (rest : Composition Value)
      → e.location ≡ n
      → and_later n (word_or_fault c n r) (words_or_fault c es rest) ≡ words_or_fault c (e ∷ es) (and_later n r rest)
  later n e es (Err f) rest q = refl
  later n e es (Ok x) (Ok xs) q = ap (λ l. Ok (c.word l x ∷ main_words c xs es)) (sym q)
  later n e es (Ok x) (Err f) q = refl

  pub encodes : (xs : List Value) (es : List (Entry Value)) → AllFit c xs es
      → composed words (main_words c xs es) (map (entry_words c) es) ≡ words_or_fault c es (composed values xs es)
  encodes [] [] fit = refl
  encodes [] (e ∷ es) fit = refl
  encodes (x ∷ xs) [] fit = refl
  encodes (x ∷ xs) (e ∷ es) fit =
      ap (λ r. and_later e.location r (composed words (main_words c xs es) (map (entry_words c) es)))
      (agree e.location x e.value e.root fit.0.main fit.0.value fit.0.root)
      ∙ (ap (and_later e.location (word_or_fault c e.location (values e.location x e.value e.root)))
      (encodes xs es fit.1)
      ∙ later e.location e es (values e.location x e.value e.root) (composed values xs es) refl)
