-- Where the trace of a source begins.
use Rattle.std.proofs.Common.{◌≡◌, ◌∙◌, ◌⊎◌, inl, inr, refl, sym, subst, ap, List, [], ◌∷◌, ◌++◌, ℕ, ◌+◌, ◌≤◌, Bool, true, false, nat_eq, length, arith, rules, MatchBool}
use Rattle.std.specs.Prelude.{Some, None, slice_get}
use Rattle.std.proofs.lemmas.List.{append_assoc, append_cancel_left, append-nil, length-append}
use Rattle.trace_diagram.specs.Traces.{IsWholeLines, ended, first_line}
use Rattle.trace_diagram.specs.Dividing.{BeginsTrace, Divides, DividesOnce, IsCutAt, SourcesDivideOnce, with_trace, without_trace}

-- ---- a line that begins a trace

line_feed : (more : List ℕ) → ended first_line ++ more ≡ first_line ++ 10 ∷ more
line_feed more = refl

pub ends_line : (bytes more : List ℕ) → bytes ≡ first_line ++ 10 ∷ more → BeginsTrace bytes
ends_line bytes more is = inr (more, is)

-- a line goes on behind the words
goes_on : (bytes more : List ℕ) (b : ℕ) → bytes ≡ first_line ++ b ∷ more → nat_eq b 10 ≡ false → BeginsTrace bytes → ⊥
goes_on bytes more b is other (inl all) =
    let e : b ∷ more ≡ [] = append_cancel_left first_line (b ∷ more) [] (sym is ∙ all) in cc
goes_on bytes more b is other (inr h) =
    let e : b ∷ more ≡ 10 ∷ h.0 = append_cancel_left first_line (b ∷ more) (10 ∷ h.0) (sym is ∙ h.1) in
    let same : b ≡ 10 = cc in
    let d : nat_eq 10 10 ≡ false = subst (λ (n : ℕ). nat_eq n 10 ≡ false) same other in
    cc

pub begins_line : (bytes rest : List ℕ) (b : ℕ) → bytes ≡ first_line ++ rest → Some b ≡ slice_get rest 0
    → MatchBool (nat_eq b 10) (BeginsTrace bytes) (BeginsTrace bytes → ⊥)
begins_line bytes [] b is at = absurd (let e : Some b ≡ None = at in cc)
begins_line bytes (x ∷ more) b is at = go (nat_eq b 10) refl
  where
    same : x ≡ b
    same = let e : Some b ≡ Some x = at in cc

    go : (t : Bool) → nat_eq b 10 ≡ t → MatchBool t (BeginsTrace bytes) (BeginsTrace bytes → ⊥)
    go true ten =
        let n : b ≡ 10 = grind (arith, rules) in
        ends_line bytes more (is ∙ ap (λ (y : ℕ). first_line ++ y ∷ more) (same ∙ n))
    go false other = goes_on bytes more b (is ∙ ap (λ (y : ℕ). first_line ++ y ∷ more) same) other

-- ---- the first line that does

-- no trace begins behind less than so many bytes
abbrev pub NoneBefore : List ℕ → ℕ → Type 0
NoneBefore all n = (front back : List ℕ) → IsCutAt all front back → n ≤ length front

-- what stands behind so many bytes
behind_front : (all front back : List ℕ) → all ≡ front ++ back → (f b : List ℕ) → all ≡ f ++ b → length f ≡ length front
    → f ≡ front
behind_front all [] back is [] b other same = refl
behind_front all [] back is (x ∷ f) b other same = absurd (omega (arith, same))
behind_front all (y ∷ front) back is [] b other same = absurd (omega (arith, same))
behind_front all (y ∷ front) back is (x ∷ f) b other same =
    let e : x ∷ (f ++ b) ≡ y ∷ (front ++ back) = sym other ∙ is in
    let head : x ≡ y = cc in
    let tail : f ++ b ≡ front ++ back = cc in
    let rest = behind_front (front ++ back) front back refl f b (sym tail) (omega (arith, same)) in
    cc

pub one_more : (all front back : List ℕ) → all ≡ front ++ back → (IsCutAt all front back → ⊥)
    → NoneBefore all (length front) → NoneBefore all (length front + 1)
one_more all front back is none before f b cut = go (nat_eq (length f) (length front)) refl
  where
    least : length front ≤ length f
    least = before f b cut

    go : (t : Bool) → nat_eq (length f) (length front) ≡ t → length front + 1 ≤ length f
    go true same =
        let n : length f ≡ length front = grind (arith, rules) in
        let e : f ≡ front = behind_front all front back is f b cut.is n in
        let d : front ++ b ≡ front ++ back = ap (λ (x : List ℕ). x ++ b) (sym e) ∙ sym cut.is ∙ is in
        let k : b ≡ back = append_cancel_left front b back d in
        absurd (none (subst (λ (x : List ℕ). IsCutAt all front x) k (subst (λ (x : List ℕ). IsCutAt all x b) e cut)))
    go false other = let n = least in grind (arith, rules)

-- no trace begins behind all bytes
pub none_at_end : (all : List ℕ) → NoneBefore all (length all) → Divides all all []
none_at_end all before = without_trace none refl refl
  where
    empty : (front back : List ℕ) → all ≡ front ++ back → length all ≤ length front → back ≡ []
    empty front [] is long = refl
    empty front (b ∷ back) is long =
        absurd (omega (arith, long, ap (λ (x : List ℕ). length x) is ∙ length-append front (b ∷ back)))

    starts : (back : List ℕ) → back ≡ [] → BeginsTrace back → ⊥
    starts back is (inl h) = let e : first_line ≡ [] = sym h ∙ is in cc
    starts back is (inr h) = let e : ended first_line ++ h.0 ≡ [] = sym h.1 ∙ is in cc

    none : (front back : List ℕ) → IsCutAt all front back → ⊥
    none front back cut = starts back (empty front back cut.is (before front back cut)) cut.begins

-- ---- a source has one text and one trace

-- two divisions at once
module _ (all t u : List ℕ) (h : IsCutAt all t u)
    (least : (front back : List ℕ) → IsCutAt all front back → length t ≤ length front) where
  same_cut : (v w : List ℕ) → IsCutAt all v w
      → ((front back : List ℕ) → IsCutAt all front back → length v ≤ length front) → (v ≡ t) × (w ≡ u)
  same_cut v w k first =
      let n = least v w k in
      let m = first t u h in
      let e : v ≡ t = behind_front all t u h.is v w k.is (omega (arith, n, m)) in
      let d : t ++ w ≡ t ++ u = ap (λ (x : List ℕ). x ++ w) (sym e) ∙ sym k.is ∙ h.is in
      (e, append_cancel_left t w u d)

  only_cut : (v w : List ℕ) → Divides all v w → (v ≡ t) × (w ≡ u)
  only_cut v w (with_trace k first) = same_cut v w k first
  only_cut v w (without_trace none is empty) = absurd (none t u h)

only_text : (all : List ℕ) → ((front back : List ℕ) → IsCutAt all front back → ⊥) → (v w : List ℕ) → Divides all v w
    → (v ≡ all) × (w ≡ [])
only_text all none v w (with_trace k first) = absurd (none v w k)
only_text all none v w (without_trace never is empty) = (is, empty)

no_cut : (all : List ℕ) → Divides all all [] → (front back : List ℕ) → IsCutAt all front back → ⊥
no_cut all (without_trace none is empty) = none
no_cut all (with_trace cut first) = absurd (begins_none cut.begins)
  where
    begins_none : BeginsTrace [] → ⊥
    begins_none (inl e) = cc
    begins_none (inr e) = let d = e.1 in cc

-- ---- there is one

-- whether a list begins so
stripped : (p bs : List ℕ) → ((rest : List ℕ) × (bs ≡ p ++ rest)) ⊎ ((rest : List ℕ) → bs ≡ p ++ rest → ⊥)
stripped [] bs = inl (bs, refl)
stripped (x ∷ p) [] = inr (λ rest is. cc)
stripped (x ∷ p) (b ∷ bs) = go (nat_eq b x) refl (stripped p bs)
  where
    go : (t : Bool) → nat_eq b x ≡ t → ((rest : List ℕ) × (bs ≡ p ++ rest)) ⊎ ((rest : List ℕ) → bs ≡ p ++ rest → ⊥)
        → ((rest : List ℕ) × (b ∷ bs ≡ (x ∷ p) ++ rest)) ⊎ ((rest : List ℕ) → b ∷ bs ≡ (x ∷ p) ++ rest → ⊥)
    go true same (inl h) =
        let n : b ≡ x = grind (arith, rules) in
        let e = h.1 in
        inl (h.0, cc)
    go true same (inr never) = inr (λ rest is. never rest (let e = is in cc))
    go false other tail = inr (λ rest is. let e : b ≡ x = cc in grind (arith, rules))

decide_begins : (bytes : List ℕ) → BeginsTrace bytes ⊎ (BeginsTrace bytes → ⊥)
decide_begins bytes = go (stripped first_line bytes)
  where
    by : (t : Bool) → MatchBool t (BeginsTrace bytes) (BeginsTrace bytes → ⊥)
        → BeginsTrace bytes ⊎ (BeginsTrace bytes → ⊥)
    by true h = inl h
    by false h = inr h

    on : (rest : List ℕ) → bytes ≡ first_line ++ rest → BeginsTrace bytes ⊎ (BeginsTrace bytes → ⊥)
    on [] is = inl (inl is)
    on (b ∷ more) is = by (nat_eq b 10) (begins_line bytes (b ∷ more) b is refl)

    none : ((rest : List ℕ) → bytes ≡ first_line ++ rest → ⊥) → BeginsTrace bytes → ⊥
    none never (inl is) = never [] is
    none never (inr h) = never (10 ∷ h.0) h.1

    go : ((rest : List ℕ) × (bytes ≡ first_line ++ rest)) ⊎ ((rest : List ℕ) → bytes ≡ first_line ++ rest → ⊥)
        → BeginsTrace bytes ⊎ (BeginsTrace bytes → ⊥)
    go (inl h) = on h.0 h.1
    go (inr never) = inr (none never)

decide_whole : (bytes : List ℕ) → IsWholeLines bytes ⊎ (IsWholeLines bytes → ⊥)
decide_whole [] = inl (inl refl)
decide_whole (b ∷ []) = go (nat_eq b 10) refl
  where
    none : nat_eq b 10 ≡ false → IsWholeLines (b ∷ []) → ⊥
    none other (inl e) = cc
    none other (inr ([], e)) = let n : b ≡ 10 = cc in grind (arith, rules)
    none other (inr (x ∷ [], e)) = cc
    none other (inr (x ∷ y ∷ f, e)) = cc

    go : (t : Bool) → nat_eq b 10 ≡ t → IsWholeLines (b ∷ []) ⊎ (IsWholeLines (b ∷ []) → ⊥)
    go true same = let n : b ≡ 10 = grind (arith, rules) in inl (inr ([], ap (λ (x : ℕ). x ∷ []) n))
    go false other = inr (none other)
decide_whole (b ∷ c ∷ bs) = go (decide_whole (c ∷ bs))
  where
    none : (IsWholeLines (c ∷ bs) → ⊥) → IsWholeLines (b ∷ c ∷ bs) → ⊥
    none never (inl e) = cc
    none never (inr ([], e)) = cc
    none never (inr (x ∷ f, e)) = never (inr (f, (let d = e in cc)))

    go : IsWholeLines (c ∷ bs) ⊎ (IsWholeLines (c ∷ bs) → ⊥)
        → IsWholeLines (b ∷ c ∷ bs) ⊎ (IsWholeLines (b ∷ c ∷ bs) → ⊥)
    go (inl (inl e)) = absurd (let d = e in cc)
    go (inl (inr h)) = inl (inr (b ∷ h.0, ap (λ (x : List ℕ). b ∷ x) h.1))
    go (inr never) = inr (none never)

decide_cut : (all front back : List ℕ) → all ≡ front ++ back → IsCutAt all front back ⊎ (IsCutAt all front back → ⊥)
decide_cut all front back is = go (decide_whole front) (decide_begins back)
  where
    go : IsWholeLines front ⊎ (IsWholeLines front → ⊥) → BeginsTrace back ⊎ (BeginsTrace back → ⊥)
        → IsCutAt all front back ⊎ (IsCutAt all front back → ⊥)
    go (inl w) (inl b) = inl (record { is = is; whole = w; begins = b })
    go (inl w) (inr never) = inr (λ h. never h.begins)
    go (inr never) b = inr (λ h. never h.whole)

-- where no trace begins further to the front, and the rest is known where none begins here
at_place : (all front back : List ℕ) → NoneBefore all (length front) → ((IsCutAt all front back → ⊥) → DividesOnce all)
    → IsCutAt all front back ⊎ (IsCutAt all front back → ⊥) → DividesOnce all
at_place all front back before rest (inl h) =
    record { text = front; trace = back; divides = with_trace h before; only = only_cut all front back h before }
at_place all front back before rest (inr none) = rest none

at_end : (all front : List ℕ) → all ≡ front ++ [] → NoneBefore all (length front) → DividesOnce all
at_end all front is before =
    let n : length front ≡ length all = ap (λ (x : List ℕ). length x) (sym (is ∙ append-nil front)) in
    let d = none_at_end all (subst (λ (k : ℕ). NoneBefore all k) n before) in
    record { text = all; trace = []; divides = d; only = only_text all (no_cut all d) }

one_from : (all front back : List ℕ) → all ≡ front ++ back → NoneBefore all (length front) → DividesOnce all
one_from all front [] is before = at_end all front is before
one_from all front (b ∷ back) is before =
    at_place all front (b ∷ back) before
    (λ none. one_from all (front ++ b ∷ []) back (is ∙ sym (append_assoc front (b ∷ []) back))
    (subst (λ (k : ℕ). NoneBefore all k) (sym (length-append front (b ∷ [])))
    (one_more all front (b ∷ back) is none before)))
    (decide_cut all front (b ∷ back) is)

pub sources_divide_once : SourcesDivideOnce
sources_divide_once all = one_from all [] all refl (λ front back h. omega arith)
