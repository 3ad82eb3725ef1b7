-- Words with those that were written in their places.
use Rattle.std.proofs.Common.{◌≡◌, ◌≢◌, ◌∙◌, ℕ, zero, suc, ◌+◌, ◌<◌, ◌≤◌, List, [], ◌∷◌, ◌++◌, length, drop, get_or, replicate, Option, Some, None, refl, sym, ap, subst, arith}
use Rattle.std.specs.Prelude.{slice_get, slice_set}
use Rattle.std.proofs.lemmas.List.{drop_more, drop_all, length-set}
use Rattle.std.proofs.lemmas.Option.{slice_get-get_or, slice_get_within}
use Rattle.rev_num.specs.declared.value.ValueKind.{ValueKind}
use Rattle.rev_code.specs.declared.code.CodeVar.{CodeVar}
use Rattle.rev_code.specs.Words.{Word}
use Rattle.rev_code.specs.State.{Location}
use Rattle.code_soundness.specs.Typed.{location_kinds}
use Rattle.version_map.specs.declared.end.Written.{Written}
use Rattle.version_map.specs.Composing.{Entry}
use Rattle.code_machine.specs.Local.{written_from, with_entry}
use Rattle.fun_run.specs.Merging.{IsOfKind}
use Rattle.rev_vm.specs.Meaning.{AreWritten}
use Rattle.rev_vm.specs.Opening.{words_at_start}
use Rattle.code_runs.specs.Words.{AreInside, written_over}

-- ---- one write after another

pub inside_at : (ws : List ℕ) (written : List Written) → AreInside ws written → (n : ℕ) (d : Written)
    → n < length written → (get_or written n d).location < length ws
inside_at ws written h n d less = h n (get_or written n d) (slice_get-get_or written n d less)

pub over_more : (ws : List ℕ) (written : List Written) (n : ℕ) (d : Written) → n < length written
    → written_over (slice_set ws (get_or written n d).location (get_or written n d).value) (drop (n + 1) written)
    ≡ written_over ws (drop n written)
over_more ws written n d less = sym (ap (written_over ws) (drop_more written n d less))

pub over_all : (ws : List ℕ) (written : List Written) (n : ℕ) → length written ≤ n
    → ws ≡ written_over ws (drop n written)
over_all ws written n few = sym (ap (written_over ws) (drop_all n written few))

pub length_over : (ws : List ℕ) (written : List Written) → length (written_over ws written) ≡ length ws
length_over ws [] = refl
length_over ws (w ∷ written) = length_over (slice_set ws w.location w.value) written ∙ length-set ws w.location w.value

-- ---- where they lie

length_cells : {A : Type 0} (n : ℕ) (x : A) (xs : List A) → length (replicate n x ++ xs) ≡ n + length xs
length_cells zero x xs = let e : length xs ≡ 0 + length xs = omega arith in e
length_cells (suc n) x xs =
    ap suc (length_cells n x xs) ∙ (let e : suc (n + length xs) ≡ suc n + length xs = omega arith in e)

pub as_many : (vs : List CodeVar) → length (words_at_start vs) ≡ length (location_kinds vs)
as_many [] = refl
as_many (v ∷ vs) =
    length_cells v.cells v.start (words_at_start vs) ∙ ap (λ n. v.cells + n) (as_many vs)
    ∙ sym (length_cells v.cells v.kind (location_kinds vs))

pub all_inside : (vs : List CodeVar) (es : List (Entry (Word ℕ))) (written : List Written)
    → AreWritten (location_kinds vs) es written → AreInside (words_at_start vs) written
all_inside vs [] [] h n w at = absurd (let z : None ≡ Some w = at in cc)
all_inside vs [] (y ∷ ys) h n w at = absurd h
all_inside vs (e ∷ es) [] h n w at = absurd h
all_inside vs (e ∷ es) (y ∷ ys) h zero w at =
    let z : y ≡ w = (let k : Some y ≡ Some w = at in cc) in
    let less = slice_get_within (location_kinds vs) e.location h.0.kind h.0.there in
    let many = as_many vs in
    let place = h.0.location in
    subst (λ (v : Written). v.location < length (words_at_start vs)) z (omega (arith, less, many, place))
all_inside vs (e ∷ es) (y ∷ ys) h (suc n) w at = all_inside vs es ys h.1 n w at

-- ---- the word of one location

set_same : (ws : List ℕ) (n v : ℕ) → n < length ws → slice_get (slice_set ws n v) n ≡ Some v
set_same [] n v less = absurd (omega (arith, less))
set_same (w ∷ ws) zero v less = refl
set_same (w ∷ ws) (suc n) v less = set_same ws n v (omega (arith, less))

set_other : (ws : List ℕ) (n m v : ℕ) → m ≢ n → slice_get (slice_set ws n v) m ≡ slice_get ws m
set_other [] n m v apart = refl
set_other (w ∷ ws) zero zero v apart = absurd (apart refl)
set_other (w ∷ ws) zero (suc m) v apart = refl
set_other (w ∷ ws) (suc n) zero v apart = refl
set_other (w ∷ ws) (suc n) (suc m) v apart = set_other ws n m v (λ e. apart (ap suc e))

-- a word that was written is of the location's kind, and where none was the word is as before
abbrev pub IsThere : List ValueKind → ℕ → Option (Word ℕ) → (before after : Option ℕ) → Type 0
IsThere kinds n None before after = after ≡ before
IsThere kinds n (Some x) before after =
    (v : ℕ) × (after ≡ Some v) × (kind : ValueKind) × (slice_get kinds n ≡ Some kind) × IsOfKind kind x v

module _ (kinds : List ValueKind) where
  -- writes of later locations leave it
  below : (n : ℕ) (ls : List (Location ℕ)) (written : List Written) (ws : List ℕ) (m : ℕ)
      → AreWritten kinds (written_from n ls) written → m < n → slice_get (written_over ws written) m ≡ slice_get ws m
  below n [] [] ws m h less = refl
  below n [] (y ∷ ys) ws m h less = absurd h
  below n (l ∷ ls) written ws m h less =
      by l.written written h (λ zs us k. below (suc n) ls zs us m k (omega (arith, less)))
    where
      by : (o : Option (Word ℕ)) (ys : List Written)
          → AreWritten kinds (with_entry n o l.snapshot (written_from (suc n) ls)) ys
          → ((zs : List Written) (us : List ℕ) → AreWritten kinds (written_from (suc n) ls) zs
          → slice_get (written_over us zs) m ≡ slice_get us m)
          → slice_get (written_over ws ys) m ≡ slice_get ws m
      by None ys h rec = rec ys ws h
      by (Some x) [] h rec = absurd h
      by (Some x) (y ∷ ys) h rec =
          rec ys (slice_set ws y.location y.value) h.1
          ∙ set_other ws y.location m y.value (λ e. let place = h.0.location in omega (arith, less, e, place))

  pub word_there : (n : ℕ) (ls : List (Location ℕ)) (written : List Written) (ws : List ℕ) (j m : ℕ) (l : Location ℕ)
      → AreWritten kinds (written_from n ls) written → slice_get ls j ≡ Some l → m ≡ n + j → m < length ws
      → IsThere kinds m l.written (slice_get ws m) (slice_get (written_over ws written) m)
  word_there n [] written ws j m l h at is less = absurd (let z : None ≡ Some l = at in cc)
  word_there n (y ∷ ls) written ws zero m l h at is less =
      let e : y ≡ l = (let z : Some y ≡ Some l = at in cc) in
      let here : m ≡ n = omega (arith, is) in
      subst (λ (x : Location ℕ). IsThere kinds m x.written (slice_get ws m) (slice_get (written_over ws written) m)) e
      (by here y.written written h)
    where
      by : m ≡ n → (o : Option (Word ℕ)) (ys : List Written)
          → AreWritten kinds (with_entry n o y.snapshot (written_from (suc n) ls)) ys
          → IsThere kinds m o (slice_get ws m) (slice_get (written_over ws ys) m)
      by here None ys h = below (suc n) ls ys ws m h (omega (arith, here))
      by here (Some x) [] h = absurd h
      by here (Some x) (u ∷ ys) h =
          let place = h.0.location in
          let same : u.location ≡ m = omega (arith, place, here) in (
            u.value,
            below (suc n) ls ys (slice_set ws u.location u.value) m h.1 (omega (arith, here))
                ∙ ap (λ k. slice_get (slice_set ws k u.value) m) same ∙ set_same ws m u.value less,
            h.0.kind,
            ap (slice_get kinds) here ∙ h.0.there,
            h.0.value,
          )
  word_there n (y ∷ ls) written ws (suc j) m l h at is less =
      by y.written written h (λ zs us k few. word_there (suc n) ls zs us j m l k at (omega (arith, is)) few)
    where
      by : (o : Option (Word ℕ)) (ys : List Written)
          → AreWritten kinds (with_entry n o y.snapshot (written_from (suc n) ls)) ys
          → ((zs : List Written) (us : List ℕ) → AreWritten kinds (written_from (suc n) ls) zs → m < length us
          → IsThere kinds m l.written (slice_get us m) (slice_get (written_over us zs) m))
          → IsThere kinds m l.written (slice_get ws m) (slice_get (written_over ws ys) m)
      by None ys h rec = rec ys ws h less
      by (Some x) [] h rec = absurd h
      by (Some x) (u ∷ ys) h rec =
          let place = h.0.location in
          let many = length-set ws u.location u.value in
          subst (λ o. IsThere kinds m l.written o (slice_get (written_over (slice_set ws u.location u.value) ys) m))
          (set_other ws u.location m u.value (λ e. omega (arith, is, e, place)))
          (rec ys (slice_set ws u.location u.value) h.1 (omega (arith, many, less)))
