-- Where locals stand, by the numbers of their names.
use Rattle.std.proofs.Common.{◌≡◌, ℕ, zero, suc, ◌+◌, ◌<◌, ◌≤◌, ◌≢◌, Bool, true, false, true≢false, cond, List, [], ◌∷◌, ◌++◌, length, get_or, set, slice_get, Option, Some, None, is_none, is_some, ◌||◌, refl, sym, ap, ◌∙◌, arith, if◌then◌else◌, position, length-append, Result, Ok, Err, OnOk, OnErr, IfSome, subst}
use mathlib.Core.Logic.{inl, inr}
use Rattle.std.specs.Prelude.{◌⊎◌}
use Rattle.std.specs.List.{position_from}
use Rattle.std.proofs.lemmas.List.{length-set, get_or-set_other}
use Rattle.std.proofs.lemmas.List.Quantifiers.{position-Some}
use Rattle.std.proofs.lemmas.Grind.{get_or-set_at}
use Rattle.std.proofs.lemmas.Iterator.Adapters.{position_from-zero}
use Rattle.std.proofs.lemmas.Option.{get_or_from_slice_get, slice_get-get_or, slice_get_within}
use Rattle.name_tables.specs.Names.{Name, same}
use Rattle.name_tables.specs.Table.{Table, added, find}
use Rattle.name_tables.proofs.Tables.{find-added, grown, or_else, or_else-none, same_equal}
use Rattle.revision_state.specs.LocalPlaces.{AreApart, AreBelow, AreKnown, IsPlaced, noted}

cond_none : {A : Type 0} (b : Bool) (x : A) (o : Option A) → cond b (Some x) o ≡ None → (b ≡ false) × (o ≡ None)
cond_none true x o h = cc
cond_none false x o h = (refl, h)

module _ {V : Type 0} (name : Name) where
  abbrev is_it : Name × V → Bool
  is_it e = same name e.0

  at : (es : Table V) (i : ℕ) (d : Name × V) → i < length es → is_it (get_or es i d) ≡ true
      → ((k : ℕ) → k < i → is_it (get_or es k d) ≡ false) → Some (get_or es i d).1 ≡ find name es
  at [] i d lt hit miss = absurd (omega arith)
  at (e ∷ es) zero d lt hit miss = ap (λ b. cond b (Some e.1) (find name es)) (sym hit)
  at (e ∷ es) (suc i) d lt hit miss =
      at es i d (omega arith) hit (λ k below. miss (suc k) (omega arith))
      ∙ ap (λ b. cond b (Some e.1) (find name es)) (sym (miss 0 (omega arith)))

  -- the value at the place of the first of a name
  pub found : (es : Table V) (i : ℕ) (d : Name × V) → position is_it es ≡ Some i → Some (get_or es i d).1 ≡ find name es
  found es i d place = let f = position-Some is_it es i d place in at es i d f.0 f.1 f.2

  missing : (i : ℕ) (es : Table V) → position_from is_it i es ≡ None → None ≡ find name es
  missing i [] h = refl
  missing i (e ∷ es) h =
      let parts = cond_none (same name e.0) i (position_from is_it (i + 1) es) h in
      missing (i + 1) es parts.1 ∙ ap (λ b. cond b (Some e.1) (find name es)) (sym parts.0)

  -- a name without a place has no value
  pub not_found : (es : Table V) → position is_it es ≡ None → None ≡ find name es
  not_found es h = missing 0 es (sym (position_from-zero is_it es) ∙ h)

  push_from : (i : ℕ) (es : Table V) (w : Name) (x : V)
      → position_from is_it i (es ++ (w, x) ∷ [])
      ≡ or_else (position_from is_it i es) (if same name w then Some (i + length es) else None)
  push_from i [] w x = let e : i + 0 ≡ i = omega arith in ap (λ n. if same name w then Some n else None) (sym e)
  push_from i (e ∷ es) w x = by (same name e.0) (push_from (i + 1) es w x) (omega arith)
    where
      by : (b : Bool)
          → position_from is_it (i + 1) (es ++ (w, x) ∷ [])
          ≡ or_else (position_from is_it (i + 1) es) (if same name w then Some (i + 1 + length es) else None)
          → i + 1 + length es ≡ i + suc (length es)
          → cond b (Some i) (position_from is_it (i + 1) (es ++ (w, x) ∷ []))
          ≡ or_else (cond b (Some i) (position_from is_it (i + 1) es))
          (if same name w then Some (i + suc (length es)) else None)
      by true rest n = refl
      by false rest n =
          rest ∙ ap (λ k. or_else (position_from is_it (i + 1) es) (if same name w then Some k else None)) n

  -- the place of a name after one more local
  pub pushed : (es : Table V) (w : Name) (x : V)
      → position is_it (es ++ (w, x) ∷ [])
      ≡ or_else (position is_it es) (if same name w then Some (length es) else None)
  pushed es w x =
      position_from-zero is_it (es ++ (w, x) ∷ []) ∙ push_from 0 es w x
      ∙ ap (λ o. or_else o (if same name w then Some (0 + length es) else None)) (sym (position_from-zero is_it es))
      ∙ (let e : 0 + length es ≡ length es = omega arith in
      ap (λ n. or_else (position is_it es) (if same name w then Some n else None)) e)

stays : (o : Option ℕ) (i : ℕ) (k : Option ℕ) → o ≡ Some i → o ≡ or_else o k
stays None i k h = cc
stays (Some j) i k h = refl

module _ {V : Type 0} where
  kept : (name w : Name) (es : Table V) (i : ℕ) (b : Bool) → same name w ≡ b
      → position (λ (e : Name × V). same w e.0) es ≡ Some i
      → position (λ (e : Name × V). same name e.0) es
      ≡ or_else (position (λ (e : Name × V). same name e.0) es) (if b then Some (length es) else None)
  kept name w es i true h place =
      stays (position (λ (e : Name × V). same name e.0) es) i (Some (length es))
      (ap (λ n. position (λ (e : Name × V). same n e.0) es) (same_equal name w h) ∙ place)
  kept name w es i false h place = sym (or_else-none (position (λ (e : Name × V). same name e.0) es))

-- ---- the numbers of names

length_added : (t : Table ℕ) (w : Name) (k : ℕ) → length t ≤ length (added t w k)
length_added t w k = by (is_some (find w t))
  where
    by : (b : Bool) → length t ≤ length (cond b t (t ++ (w, k) ∷ []))
    by true = omega arith
    by false = omega (arith, length-append t ((w, k) ∷ []))

module _ (t : Table ℕ) (w : Name) (k : ℕ) where
  -- a name had this number before the name w came, or it is w, which is new
  abbrev Came : Name → ℕ → Type 0
  Came n j = (find n t ≡ Some j) ⊎ ((find w t ≡ None) × ((same n w ≡ true) × (k ≡ j)))

  came : (n : Name) (j : ℕ) → find n (added t w k) ≡ Some j → Came n j
  came n j h = by (find n t) (same n w) refl refl (sym (find-added n w k t) ∙ h)
    where
      by : (o : Option ℕ) (b : Bool) → find n t ≡ o → same n w ≡ b → or_else o (if b then Some k else None) ≡ Some j
          → Came n j
      by (Some x) b p q found = inl (p ∙ found)
      by None true p q found = let e : k ≡ j = cc in inr (ap (λ m. find m t) (sym (same_equal n w q)) ∙ p, (q, e))
      by None false p q found = cc

  module _ (last : k ≡ length t) (below : AreBelow t) where
    -- one more name with the next number
    pub below_added : AreBelow (added t w k)
    below_added n j h = by (came n j h)
      where
        by : Came n j → j < length (added t w k)
        by (inl old) = let lt = below n j old in let le = length_added t w k in omega arith
        by (inr new) =
            let e = ap length (grown t w k new.0) in
            let same_number : k ≡ j = new.1.1 in
            omega (arith, length-append t ((w, k) ∷ []))

    pub apart_added : AreApart t → AreApart (added t w k)
    apart_added apart n o j hn ho = by (came n j hn) (came o j ho)
      where
        by : Came n j → Came o j → same n o ≡ true
        by (inl a) (inl b) = apart n o j a b
        by (inl a) (inr b) = let lt = below n j a in let e : k ≡ j = b.1.1 in absurd (omega arith)
        by (inr a) (inl b) = let lt = below o j b in let e : k ≡ j = a.1.1 in absurd (omega arith)
        by (inr a) (inr b) = ap (same n) (same_equal o w b.1.0) ∙ a.1.0

-- what holds of a table before a call that enters a name, and of the table with the name, holds after the call
pub either : {A E : Type 0} (P : Table ℕ → Type 0) (r : Result A E) (old more new : Table ℕ) → OnOk r (new ≡ more)
    → OnErr r (new ≡ old) → P old → P more → P new
either P (Ok x) old more new ok err before after = subst P (sym ok) after
either P (Err x) old more new ok err before after = subst P (sym err) before

-- ---- the places of locals

module _ {V : Type 0} (numbers : Table ℕ) where
  module _ (places : List (Option ℕ)) (es : Table V) where
    -- the number of a name is one of a place
    pub number_within : IsPlaced numbers places es → (w : Name) (o : Option ℕ) → o ≡ find w numbers
        → IfSome o (λ k. k < length places)
    number_within placed w None e = tt
    number_within placed w (Some k) e = slice_get_within places k _ (placed w k (sym e))

    -- a name without a number is none of one more local, whose name has one
    pub known_push : (w : Name) (x : V) (others : Bool) (o : Option ℕ) → o ≡ find w numbers → AreKnown numbers others es
        → AreKnown numbers (others || is_none o) (es ++ (w, x) ∷ [])
    known_push w x true o e known h n absent = absurd (true≢false h)
    known_push w x false None e known h n absent = absurd (true≢false h)
    known_push w x false (Some k) e known h n absent =
        pushed n es w x ∙ ap (λ p. or_else p (if same n w then Some (length es) else None)) (known refl n absent)
        ∙ by (same n w) refl
      where
        by : (b : Bool) → same n w ≡ b → or_else None (if b then Some (length es) else None) ≡ None
        by true q = let c : Some k ≡ None = e ∙ ap (λ m. find m numbers) (sym (same_equal n w q)) ∙ absent in cc
        by false q = refl

    module _ (w : Name) (x : V) (apart : AreApart numbers) (placed : IsPlaced numbers places es) where
      abbrev first : Name → Option ℕ
      first n = position (λ (e : Name × V). same n e.0) es

      -- where the first local of a name is, after one more
      abbrev then_first : Name → Bool → Option ℕ
      then_first n b = or_else (first n) (if b then Some (length es) else None)

      no_number : (n : Name) (j : ℕ) → find n numbers ≡ Some j → find w numbers ≡ None → (b : Bool) → same n w ≡ b
          → first n ≡ then_first n b
      no_number n j h e true q = let c : Some j ≡ None = sym h ∙ ap (λ m. find m numbers) (same_equal n w q) ∙ e in cc
      no_number n j h e false q = sym (or_else-none (first n))

      new_place : (n : Name) (j k : ℕ) → find n numbers ≡ Some j → find w numbers ≡ Some k → first w ≡ None → (b : Bool)
          → same n w ≡ b
          → slice_get (set places k (Some (length es))) j ≡ Some (then_first n b)
      new_place n j k h e none true q =
          let number : Some j ≡ Some k = sym h ∙ ap (λ m. find m numbers) (same_equal n w q) ∙ e in
          let same_number : j ≡ k = cc in
          let lt = slice_get_within places k (first w) (placed w k e) in
          let long = length-set places k (Some (length es)) in
          slice_get-get_or (set places k (Some (length es))) j None (omega arith)
          ∙ ap Some (get_or-set_at places k j (Some (length es)) None same_number lt)
          ∙ ap (λ o. Some (or_else o (Some (length es)))) (sym (ap (λ m. first m) (same_equal n w q) ∙ none))
      new_place n j k h e none false q =
          let lt = slice_get_within places j (first n) (placed n j h) in
          let long = length-set places k (Some (length es)) in
          let other : j ≢ k = λ p. true≢false (sym (apart n w k (h ∙ ap Some p) e) ∙ q) in
          slice_get-get_or (set places k (Some (length es))) j None (omega arith)
          ∙ ap Some (get_or-set_other places k j (Some (length es)) None other)
          ∙ sym (slice_get-get_or places j None lt) ∙ placed n j h ∙ ap Some (sym (or_else-none (first n)))

      by_number : (n : Name) (j k : ℕ) → find n numbers ≡ Some j → find w numbers ≡ Some k → (o : Option ℕ)
          → first w ≡ o
          → slice_get (if is_some o then places else set places k (Some (length es))) j ≡ Some (then_first n (same n w))
      by_number n j k h e (Some i) q = placed n j h ∙ ap Some (kept n w es i (same n w) refl q)
      by_number n j k h e None q = new_place n j k h e q (same n w) refl

      noted_place : (n : Name) (j : ℕ) → find n numbers ≡ Some j → (o : Option ℕ) → find w numbers ≡ o
          → slice_get (noted places o (length es)) j ≡ Some (then_first n (same n w))
      noted_place n j h None e = placed n j h ∙ ap Some (no_number n j h e (same n w) refl)
      noted_place n j h (Some k) e =
          ap (λ o. slice_get (if is_some o then places else set places k (Some (length es))) j)
          (get_or_from_slice_get places k (first w) None (placed w k e))
          ∙ by_number n j k h e (first w) refl

      -- one more local, whose place is noted
      pub placed_push : IsPlaced numbers (noted places (find w numbers) (length es)) (es ++ (w, x) ∷ [])
      placed_push n j h = noted_place n j h (find w numbers) refl ∙ ap Some (sym (pushed n es w x))
