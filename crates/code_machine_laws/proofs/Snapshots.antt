-- Locations over another snapshot, and another input, that have what is read.
use Rattle.std.proofs.Common.{◌≡◌, ◌∙◌, ℕ, zero, suc, ℤ, pos, negsuc, List, [], ◌∷◌, ◌++◌, length, Option, Some, None, refl, ap, arith}
use Rattle.std.specs.Prelude.{slice_get}
use Rattle.rev_code.specs.Words.{Word}
use Rattle.rev_code.specs.State.{Location, seen, seen_at, written_at}
use Rattle.rev_code.specs.Step as r
use Rattle.code_machine_laws.specs.Reads.{Read, location, count, if_unwritten, of_location, of_place, of_position, of_index}
use Rattle.code_machine_laws.specs.Moved.{over, AllAgree}

none_too : (inputs inputs' : List ℤ) (n : ℕ) → length inputs' ≡ length inputs → slice_get inputs n ≡ None
    → slice_get inputs' n ≡ None
none_too inputs [] n e h = refl
none_too [] (y ∷ inputs') n e h = absurd (omega (arith, e))
none_too (x ∷ inputs) (y ∷ inputs') zero e h = grind (arith, h)
none_too (x ∷ inputs) (y ∷ inputs') (suc n) e h = none_too inputs inputs' n (omega (arith, e)) h

module _ {H : Type 0} where
  -- a snapshot has this location's word, where nothing is written there
  abbrev HasUnwritten : Option (Word H) → (was now : Option (Word H)) → Type 0
  HasUnwritten None was now = now ≡ was
  HasUnwritten (Some w) was now = Unit {0}

  abbrev Has : Option (Location H) → (now : Option (Word H)) → Type 0
  Has None now = Unit {0}
  Has (Some l) now = HasUnwritten l.written (Some l.snapshot) now

  module _ (ys : List (Word H)) (inputs : List ℤ) where
    has : (n : ℕ) (o : Option (Location H)) → AllAgree ys inputs (of_location n o) → Has o (slice_get ys n)
    has n None h = tt
    has n (Some l) h = by l.written h
      where
        by : (o : Option (Word H)) → AllAgree ys inputs (if_unwritten n l.snapshot o)
            → HasUnwritten o (Some l.snapshot) (slice_get ys n)
        by None h = h.0
        by (Some w) h = tt

  seen_if : (ls : List (Location H)) (ys : List (Word H)) (n : ℕ) → Has (slice_get ls n) (slice_get ys n)
      → seen_at (over ys ls) n ≡ seen_at ls n
  seen_if [] [] n h = refl
  seen_if [] (y ∷ ys) n h = refl
  seen_if (l ∷ ls) [] n h = refl
  seen_if (l ∷ ls) (y ∷ ys) zero h = by l.written h
    where
      by : (o : Option (Word H)) → HasUnwritten o (Some l.snapshot) (Some y)
          → Some (seen (record { snapshot = y; written = o }))
          ≡ Some (seen (record { snapshot = l.snapshot; written = o }))
      by None h = h
      by (Some w) h = refl
  seen_if (l ∷ ls) (y ∷ ys) (suc n) h = seen_if ls ys n h

  pub seen_over : (ls : List (Location H)) (ys : List (Word H)) (inputs : List ℤ) (n : ℕ)
      → AllAgree ys inputs (of_place ls (Some n)) → seen_at (over ys ls) n ≡ seen_at ls n
  seen_over ls ys inputs n h = seen_if ls ys n (has ys inputs n (slice_get ls n) h)

  pub written_over : (ls : List (Location H)) (ys : List (Word H)) (n : ℕ) (w : Word H)
      → written_at (over ys ls) n w ≡ over ys (written_at ls n w)
  written_over [] [] n w = refl
  written_over [] (y ∷ ys) n w = refl
  written_over (l ∷ ls) [] n w = refl
  written_over (l ∷ ls) (y ∷ ys) zero w = refl
  written_over (l ∷ ls) (y ∷ ys) (suc n) w =
      ap (λ z. record { snapshot = y; written = l.written } ∷ z) (written_over ls ys n w)

  -- what is read is the same
  abbrev one_there : ℕ → Option (Word H) → List (Read H)
  one_there m None = []
  one_there m (Some w) = location m w ∷ []

  get_over : (m : ℕ) (ls : List (Location H)) (ys : List (Word H)) (n : ℕ) → Has (slice_get ls n) (slice_get ys n)
      → of_location m (slice_get (over ys ls) n) ≡ of_location m (slice_get ls n)
  get_over m [] [] n h = refl
  get_over m [] (y ∷ ys) n h = refl
  get_over m (l ∷ ls) [] n h = refl
  get_over m (l ∷ ls) (y ∷ ys) zero h = by l.written h
    where
      by : (o : Option (Word H)) → HasUnwritten o (Some l.snapshot) (Some y)
          → if_unwritten m y o ≡ if_unwritten m l.snapshot o
      by None h = ap (one_there m) h
      by (Some w) h = refl
  get_over m (l ∷ ls) (y ∷ ys) (suc n) h = get_over m ls ys n h

  pub place_over : (ls : List (Location H)) (ys : List (Word H)) (inputs : List ℤ) (o : Option ℕ)
      → AllAgree ys inputs (of_place ls o) → of_place (over ys ls) o ≡ of_place ls o
  place_over ls ys inputs None h = refl
  place_over ls ys inputs (Some n) h = get_over n ls ys n (has ys inputs n (slice_get ls n) h)

  -- ---- lists of reads

  module _ (ys : List (Word H)) (inputs : List ℤ) where
    pub agree_first : (rs qs : List (Read H)) → AllAgree ys inputs (rs ++ qs) → AllAgree ys inputs rs
    agree_first [] qs h = tt
    agree_first (x ∷ rs) qs h = (h.0, agree_first rs qs h.1)

    pub agree_rest : (rs qs : List (Read H)) → AllAgree ys inputs (rs ++ qs) → AllAgree ys inputs qs
    agree_rest [] qs h = h
    agree_rest (x ∷ rs) qs h = agree_rest rs qs h.1

  -- ---- inputs

  module _ (ys : List (Word H)) (inputs inputs' : List ℤ) where
    position_too : (n : ℕ) (o : Option ℤ) → slice_get inputs n ≡ o → AllAgree ys inputs' (of_position inputs n o)
        → slice_get inputs' n ≡ o
    position_too n (Some z) e h = h.0
    position_too n None e h = none_too inputs inputs' n h.0 e

    pub input_too : (z : ℤ) → AllAgree ys inputs' (of_index inputs z) → r.input_at inputs' z ≡ r.input_at inputs z
    input_too (pos n) h = position_too n (slice_get inputs n) refl h
    input_too (negsuc n) h = refl

    of_same : (n : ℕ) (o : Option ℤ) → AllAgree ys inputs' (of_position inputs n o)
        → of_position {H = H} inputs' n o ≡ of_position inputs n o
    of_same n (Some z) h = refl
    of_same n None h = ap (λ k. count k ∷ []) h.0

    pub index_too : (z : ℤ) → AllAgree ys inputs' (of_index inputs z) → of_index {H = H} inputs' z ≡ of_index inputs z
    index_too (pos n) h =
        ap (of_position inputs' n) (position_too n (slice_get inputs n) refl h) ∙ of_same n (slice_get inputs n) h
    index_too (negsuc n) h = ap (λ k. count k ∷ []) h.0
