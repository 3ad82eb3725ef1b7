-- The join of the calculus by `composed`, and by words.
--   written_from      what a joinee wrote, with its snapshot's values, by location from a number on
--   mains_of          the joiner's view at the locations that the joinee wrote
--   merges_in         the merges of a program, by location
--   with_new          the joiner's locations with new values where the joinee wrote
--   as_join           a composition of values as the calculus' composition of locations
--   ComposesAsJoin    the calculus composes as `composed` does
--   EncodesAlike      words that stand for values are composed as the values are
use Rattle.std.specs.Prelude.{◌≡◌, ℕ, suc, Bool, true, List, [], ◌∷◌, length, map, slice_get, Option, Some, None, Result, Ok, Err}
use Rattle.rev_num.specs.declared.value.Value.{Value}
use Rattle.rev_num.specs.declared.value.NumFault.{NumFault}
use Rattle.rev_syntax.specs.Trees.{ProgramTree}
use Rattle.typed_programs.specs.Value.{number_of}
use Rattle.version_map.specs.Composing.{Entry, Merges, Composition, composed}
use Rattle.revision_calculus.specs.State.{Location, view, with_write}
use Rattle.revision_calculus.specs.Join.{merge_of_numbers, number_value, merged, faults, compose}
use Rattle.revision_calculus.specs.Join as calculus

-- ---- values

abbrev pub with_entry : ℕ → Option Value → (root : Value) → List (Entry Value) → List (Entry Value)
with_entry n None root es = es
with_entry n (Some x) root es = record { location = n; value = x; root = root } ∷ es

abbrev pub written_from : ℕ → List Location → List (Entry Value)
written_from n [] = []
written_from n (j ∷ js) = with_entry n j.written j.base (written_from (suc n) js)

abbrev pub with_main : Option Value → (main : Value) → List Value → List Value
with_main None main xs = xs
with_main (Some x) main xs = main ∷ xs

abbrev pub mains_of : List Location → List Location → List Value
mains_of (m ∷ ms) (j ∷ js) = with_main j.written (view m) (mains_of ms js)
mains_of [] js = []
mains_of (m ∷ ms) [] = []

-- a versioned location takes the joinee's value, a cumulative one the merge of three numbers
abbrev pub merge_value : ProgramTree → Option ℕ → Value → Value → Value → Result Value NumFault
merge_value p None main join root = Ok join
merge_value p (Some k) main join root =
    number_value (merge_of_numbers p k (number_of main) (number_of join) (number_of root))

-- of the location with this number; beyond the last there is none
abbrev pub merge_there : ProgramTree → Option (Option ℕ) → Value → Value → Value → Result Value NumFault
merge_there p (Some k) main join root = merge_value p k main join root
merge_there p None main join root = Ok join

abbrev pub merges_in : ProgramTree → List (Option ℕ) → Merges Value
merges_in p ks n = merge_there p (slice_get ks n)

-- at a location in which the joinee wrote this, before the later ones
abbrev pub with_new_at : Option Value → Location → (later : List Value → List Location) → List Value → List Location
with_new_at None m later xs = m ∷ later xs
with_new_at (Some x) m later (y ∷ ys) = with_write m.base y ∷ later ys
with_new_at (Some x) m later [] = m ∷ later []

abbrev pub with_new : List Location → List Location → List Value → List Location
with_new (m ∷ ms) (j ∷ js) xs = with_new_at j.written m (with_new ms js) xs
with_new [] js xs = []
with_new (m ∷ ms) [] xs = m ∷ ms

abbrev pub as_join : List Location → List Location → Composition Value → calculus.Composition
as_join ms js (Ok xs) = merged (with_new ms js xs)
as_join ms js (Err f) = faults f.0 f.1

-- with as many locations of the joiner and of the joinee as there are merges
abbrev pub ComposesAsJoin : Type 0
ComposesAsJoin = (p : ProgramTree) (ks : List (Option ℕ)) (ms js : List Location)
    → length ms ≡ length ks → length js ≡ length ks
    → compose p 0 ks ms js ≡ as_join ms js (composed (merges_in p ks) (mains_of ms js) (written_from 0 js))

-- ---- words

-- how the values of each location are kept as words, and which values it may have
pub record Encoding : Type 0 where
  pub word : ℕ → Value → ℕ
  pub fits : ℕ → Value → Bool

module _ (c : Encoding) where
  abbrev pub entry_words : Entry Value → Entry ℕ
  entry_words e = record {
    location = e.location;
    value = c.word e.location e.value;
    root = c.word e.location e.root;
  }

  abbrev pub main_words : List Value → List (Entry Value) → List ℕ
  main_words (x ∷ xs) (e ∷ es) = c.word e.location x ∷ main_words xs es
  main_words [] es = []
  main_words (x ∷ xs) [] = []

  abbrev pub word_or_fault : ℕ → Result Value NumFault → Result ℕ NumFault
  word_or_fault n (Ok x) = Ok (c.word n x)
  word_or_fault n (Err f) = Err f

  abbrev pub words_or_fault : List (Entry Value) → Composition Value → Composition ℕ
  words_or_fault es (Ok xs) = Ok (main_words xs es)
  words_or_fault es (Err f) = Err f

  -- the values of a written location fit it
  pub record Fits (x : Value) (e : Entry Value) : Type 0 where
    pub main : c.fits e.location x ≡ true
    pub value : c.fits e.location e.value ≡ true
    pub root : c.fits e.location e.root ≡ true

  abbrev pub AllFit : List Value → List (Entry Value) → Type 0
  AllFit (x ∷ xs) (e ∷ es) = Fits x e × AllFit xs es
  AllFit [] es = Unit {0}
  AllFit (x ∷ xs) [] = Unit {0}

  -- the merge of the words of three values is the word of the merge of the values
  abbrev pub AgreeOnMerges : Merges ℕ → Merges Value → Type 0
  AgreeOnMerges words values = (n : ℕ) (x y z : Value) → c.fits n x ≡ true → c.fits n y ≡ true → c.fits n z ≡ true
      → words n (c.word n x) (c.word n y) (c.word n z) ≡ word_or_fault n (values n x y z)

abbrev pub EncodesAlike : Type 0
EncodesAlike = (c : Encoding) (words : Merges ℕ) (values : Merges Value) → AgreeOnMerges c words values
    → (xs : List Value) (es : List (Entry Value)) → AllFit c xs es
    → composed words (main_words c xs es) (map (entry_words c) es) ≡ words_or_fault c es (composed values xs es)
