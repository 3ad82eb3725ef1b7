-- Others have what was read exactly where they agree on what is noted.
use Rattle.std.proofs.Common.{◌≡◌, ◌∙◌, ℕ, Bool, true, false, ℤ, List, [], ◌∷◌, length, refl, sym, subst, arith}
use Rattle.std.specs.Prelude.{slice_get, ◌||◌, nat_eq}
use Rattle.std.proofs.lemmas.Bool.Decides.{nat_tests}
use Rattle.rev_code.specs.Words.{Word}
use Rattle.code_machine_laws.specs.Reads.{Read, location, input, count}
use Rattle.code_machine_laws.specs.Moved.{AllAgree}
use Rattle.block_run.specs.Marks.{has_location, has_input, has_count}
use Rattle.leg_run.specs.Marks.{marks_of}
use Rattle.leg_run.specs.ByMarks.{MarksAgree, AgreesByMarks}

false_not : {P : Type 0} → false ≡ true → P
false_not e = absurd (let z : false ≡ true = e in cc)

or_right : (a b : Bool) → b ≡ true → (a || b) ≡ true
or_right true b h = refl
or_right false b h = h

is_same : (m : ℕ) → nat_eq m m ≡ true
is_same m = let e : m ≡ m = refl in grind (arith, nat_tests, e)

or_left : (a b : Bool) → a ≡ true → (a || b) ≡ true
or_left true b h = refl
or_left false b h = false_not h

module _ {H : Type 0} (xs ys : List (Word H)) (inputs inputs' : List ℤ) where
  -- one of them, or a later one
  here_or : (A : ℕ → Type 0) (m n : ℕ) (rest : Bool) → A m → (rest ≡ true → A n) → (nat_eq m n || rest) ≡ true → A n
  here_or A m n rest here later h = by (nat_eq m n) refl h
    where
      by : (d : Bool) → nat_eq m n ≡ d → (d || rest) ≡ true → A n
      by true e h = (let same : m ≡ n = grind (arith, nat_tests, e) in subst A same here)
      by false e h = later h

  abbrev SameLocation : ℕ → Type 0
  SameLocation n = slice_get ys n ≡ slice_get xs n

  abbrev SamePosition : ℕ → Type 0
  SamePosition n = slice_get inputs' n ≡ slice_get inputs n

  at_locations : (rs : List (Read H)) → AllAgree xs inputs rs → AllAgree ys inputs' rs → (n : ℕ)
      → has_location (marks_of rs) n ≡ true → SameLocation n
  at_locations [] h k n e = false_not e
  at_locations (location m w ∷ rs) h k n e =
      here_or SameLocation m n (has_location (marks_of rs) n) (k.0 ∙ sym h.0) (at_locations rs h.1 k.1 n) e
  at_locations (input m z ∷ rs) h k n e = at_locations rs h.1 k.1 n e
  at_locations (count m ∷ rs) h k n e = at_locations rs h.1 k.1 n e

  at_positions : (rs : List (Read H)) → AllAgree xs inputs rs → AllAgree ys inputs' rs → (n : ℕ)
      → has_input (marks_of rs) n ≡ true → SamePosition n
  at_positions [] h k n e = false_not e
  at_positions (location m w ∷ rs) h k n e = at_positions rs h.1 k.1 n e
  at_positions (input m z ∷ rs) h k n e =
      here_or SamePosition m n (has_input (marks_of rs) n) (k.0 ∙ sym h.0) (at_positions rs h.1 k.1 n) e
  at_positions (count m ∷ rs) h k n e = at_positions rs h.1 k.1 n e

  at_count : (rs : List (Read H)) → AllAgree xs inputs rs → AllAgree ys inputs' rs → has_count (marks_of rs) ≡ true
      → length inputs' ≡ length inputs
  at_count [] h k e = false_not e
  at_count (location m w ∷ rs) h k e = at_count rs h.1 k.1 e
  at_count (input m z ∷ rs) h k e = at_count rs h.1 k.1 e
  at_count (count m ∷ rs) h k e = k.0 ∙ sym h.0

  back : (rs : List (Read H)) → AllAgree xs inputs rs → MarksAgree xs ys inputs inputs' (marks_of rs)
      → AllAgree ys inputs' rs
  back [] h m = tt
  back (location n w ∷ rs) h m = (
    m.locations n (or_left (nat_eq n n) (has_location (marks_of rs) n) (is_same n)) ∙ h.0,
    back rs h.1 (record {
      locations = λ k e. m.locations k (or_right (nat_eq n k) (has_location (marks_of rs) k) e);
      positions = m.positions;
      counts = m.counts;
    }),
  )
  back (input n z ∷ rs) h m = (
    m.positions n (or_left (nat_eq n n) (has_input (marks_of rs) n) (is_same n)) ∙ h.0,
    back rs h.1 (record {
      locations = m.locations;
      positions = λ k e. m.positions k (or_right (nat_eq n k) (has_input (marks_of rs) k) e);
      counts = m.counts;
    }),
  )
  back (count k ∷ rs) h m = (
    m.counts refl ∙ h.0,
    back rs h.1 (record { locations = m.locations; positions = m.positions; counts = λ e. m.counts refl }),
  )

pub agrees_by_marks : {H : Type 0} → AgreesByMarks H
agrees_by_marks xs ys inputs inputs' rs h = (
  (λ k. record {
    locations = at_locations xs ys inputs inputs' rs h k;
    positions = at_positions xs ys inputs inputs' rs h k;
    counts = at_count xs ys inputs inputs' rs h k;
  }),
  back xs ys inputs inputs' rs h,
)
