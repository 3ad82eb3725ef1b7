-- One lane: a sum that wraps, and whether it did.
use Rattle.std.proofs.Common.{◌≡◌, ◌∙◌, refl, ap, sym, subst, ℕ, suc, ◌+◌, ◌-◌, ◌*◌, ◌%◌, ◌^◌, ◌<◌, ◌≤◌, Bool, true, false, cond, ◌||◌, not, List, [], ◌∷◌, map, length, replicate, Option, Some, None, Ok, Err, ℤ, pos, negsuc, ◌+ℤ◌, ◌-ℤ◌, w64, SFits, of_z, to_z, arith, bit_and, bit_xor, bit_or, ◌&&◌, if◌then◌else◌}
use Rattle.std.proofs.lemmas.Int.{ints, to_z-of_z}
use Rattle.std.specs.Int.Signed.{lt_z}
use lib.Signed.{mag}
use lib.Lanes.{zip2, mask_l, top, Each1}
use Rattle.std.proofs.lemmas.Simd.{Each1-from_get_or, mask_l-mod}
use Rattle.rev_num.specs.declared.value.NumFault.TheVariants.{Overflow}
use Rattle.rev_num.specs.Arith.{fits_i64, checked, difference_of}
use Rattle.merge_kernels.specs.Lanes.{and_lanes, before, lanes_answer, AreLanes}
use Rattle.merge_kernels.specs.Terms.{answer_of}
use Rattle.merge_kernels.specs.Three.{sum_expression}
use Rattle.merge_kernels.proofs.ThreeValues.{sum_answer, sum_is, then_minus}

abbrev added : ℤ → ℤ → ℤ
added m j = to_z w64 ((of_z w64 m + of_z w64 j) % 2 ^ 64)

abbrev taken : ℤ → ℤ → ℤ
taken s r = to_z w64 ((of_z w64 s + (2 ^ 64 - of_z w64 r)) % 2 ^ 64)

abbrev differ : Bool → Bool → Bool
differ true b = not b
differ false b = b

fits_yes : (z : ℤ) → mag z < 2 ^ 63 → fits_i64 z ≡ true
fits_yes (pos n) h = grind arith
fits_yes (negsuc n) h = grind arith

fits_no : (z : ℤ) → 2 ^ 63 ≤ mag z → fits_i64 z ≡ false
fits_no (pos n) h = grind arith
fits_no (negsuc n) h = grind arith

abbrev below : ℤ → Bool
below z = lt_z z (pos 0)

-- the sign of what wraps is neither that of one number nor that of the other
abbrev neither : (sign one other : Bool) → Bool
neither sign one other = differ sign one && differ sign other

sum_fits : (m j : ℤ) (s p q : Bool) → SFits w64 m → SFits w64 j → below (added m j) ≡ s → below m ≡ p → below j ≡ q
    → neither s p q ≡ false
    → (added m j ≡ m +ℤ j) × (mag (m +ℤ j) < 2 ^ 63)
sum_fits m j true true true h k a b c e = grind (arith, ints)
sum_fits m j true true false h k a b c e = grind (arith, ints)
sum_fits m j true false true h k a b c e = grind (arith, ints)
sum_fits m j true false false h k a b c e = grind (arith, ints)
sum_fits m j false true true h k a b c e = grind (arith, ints)
sum_fits m j false true false h k a b c e = grind (arith, ints)
sum_fits m j false false true h k a b c e = grind (arith, ints)
sum_fits m j false false false h k a b c e = grind (arith, ints)

sum_past : (m j : ℤ) (s p q : Bool) → SFits w64 m → SFits w64 j → below (added m j) ≡ s → below m ≡ p → below j ≡ q
    → neither s p q ≡ true → 2 ^ 63 ≤ mag (m +ℤ j)
sum_past m j true true true h k a b c e = grind (arith, ints)
sum_past m j true true false h k a b c e = grind (arith, ints)
sum_past m j true false true h k a b c e = grind (arith, ints)
sum_past m j true false false h k a b c e = grind (arith, ints)
sum_past m j false true true h k a b c e = grind (arith, ints)
sum_past m j false true false h k a b c e = grind (arith, ints)
sum_past m j false false true h k a b c e = grind (arith, ints)
sum_past m j false false false h k a b c e = grind (arith, ints)

take_fits : (s r : ℤ) (p d q : Bool) → SFits w64 s → SFits w64 r → below s ≡ p → below (taken s r) ≡ d → below r ≡ q
    → neither p d q ≡ false
    → (taken s r ≡ s -ℤ r) × (mag (s -ℤ r) < 2 ^ 63)
take_fits s r true true true h k a b c e = grind (arith, ints)
take_fits s r true true false h k a b c e = grind (arith, ints)
take_fits s r true false true h k a b c e = grind (arith, ints)
take_fits s r true false false h k a b c e = grind (arith, ints)
take_fits s r false true true h k a b c e = grind (arith, ints)
take_fits s r false true false h k a b c e = grind (arith, ints)
take_fits s r false false true h k a b c e = grind (arith, ints)
take_fits s r false false false h k a b c e = grind (arith, ints)

take_past : (s r : ℤ) (p d q : Bool) → SFits w64 s → SFits w64 r → below s ≡ p → below (taken s r) ≡ d → below r ≡ q
    → neither p d q ≡ true → 2 ^ 63 ≤ mag (s -ℤ r)
take_past s r true true true h k a b c e = grind (arith, ints)
take_past s r true true false h k a b c e = grind (arith, ints)
take_past s r true false true h k a b c e = grind (arith, ints)
take_past s r true false false h k a b c e = grind (arith, ints)
take_past s r false true true h k a b c e = grind (arith, ints)
take_past s r false true false h k a b c e = grind (arith, ints)
take_past s r false false true h k a b c e = grind (arith, ints)
take_past s r false false false h k a b c e = grind (arith, ints)

checked_yes : (z : ℤ) → mag z < 2 ^ 63 → checked z ≡ Ok z
checked_yes z h = ap (λ b. if b then Ok z else Err Overflow) (fits_yes z h)

checked_no : (z : ℤ) → 2 ^ 63 ≤ mag z → checked z ≡ Err Overflow
checked_no z h = ap (λ b. if b then Ok z else Err Overflow) (fits_no z h)

-- whether a lane is past 64 bits
abbrev sum_left : ℤ → ℤ → Bool
sum_left m j = neither (below (added m j)) (below m) (below j)

abbrev rest_left : ℤ → ℤ → Bool
rest_left s r = neither (below s) (below (taken s r)) (below r)

abbrev past : ℤ → ℤ → ℤ → Bool
past m j r = sum_left m j || rest_left (added m j) r

sum_fit : (m j : ℤ) → SFits w64 m → SFits w64 j → SFits w64 (added m j)
sum_fit m j h k = grind (arith, ints)

lane_by : (m j r : ℤ) → SFits w64 m → SFits w64 j → SFits w64 r → (a b : Bool)
    → sum_left m j ≡ a
    → rest_left (added m j) r ≡ b
    → sum_answer m j r ≡ (if a || b then Err Overflow else Ok (taken (added m j) r))
lane_by m j r h k l true b e f =
    ap (λ o. then_minus o r) (checked_no (m +ℤ j) (sum_past m j _ _ _ h k refl refl refl e))
lane_by m j r h k l false true e f =
    let s = sum_fits m j _ _ _ h k refl refl refl e in
    ap (λ o. then_minus o r) (checked_yes (m +ℤ j) s.1) ∙ ap (λ z. difference_of z r) (sym s.0)
    ∙ checked_no (added m j -ℤ r) (take_past (added m j) r _ _ _ (sum_fit m j h k) l refl refl refl f)
lane_by m j r h k l false false e f =
    let s = sum_fits m j _ _ _ h k refl refl refl e in
    let t = take_fits (added m j) r _ _ _ (sum_fit m j h k) l refl refl refl f in
    ap (λ o. then_minus o r) (checked_yes (m +ℤ j) s.1) ∙ ap (λ z. difference_of z r) (sym s.0)
    ∙ (checked_yes (added m j -ℤ r) t.1 ∙ ap Ok (sym t.0))

lane : (m j r : ℤ) → SFits w64 m → SFits w64 j → SFits w64 r → (c : Bool) → past m j r ≡ c
    → sum_answer m j r ≡ (if c then Err Overflow else Ok (taken (added m j) r))
lane m j r h k l c e =
    lane_by m j r h k l _ _ refl refl ∙ ap (λ b. if b then Err Overflow else Ok (taken (added m j) r)) e

-- ---- all lanes

abbrev pub full : Bool → ℕ
full b = cond b 18446744073709551615 0

abbrev pub LT : ℕ → ℕ → ℕ
LT a b = full (lt_z (to_z w64 a) (to_z w64 b))

abbrev pub ADD : ℕ → ℕ → ℕ
ADD a b = (a + b) % 2 ^ 64

abbrev pub SUB : ℕ → ℕ → ℕ
SUB a b = (a + (2 ^ 64 - b)) % 2 ^ 64

module _ (ms js rs : List ℤ) where
  abbrev pub M : List ℕ
  M = map (of_z w64) ms

  abbrev pub J : List ℕ
  J = map (of_z w64) js

  abbrev pub R : List ℕ
  R = map (of_z w64) rs

  abbrev pub S : List ℕ
  S = zip2 ADD M J

  abbrev pub D : List ℕ
  D = zip2 SUB S R

  abbrev pub signs : ℕ → List ℕ → List ℕ
  signs n xs = zip2 LT xs (replicate n 0)

  abbrev pub tests : ℕ → List ℕ
  tests n = zip2 bit_or (zip2 bit_and (zip2 bit_xor (signs n S) (signs n M)) (zip2 bit_xor (signs n S) (signs n J)))
      (zip2 bit_and (zip2 bit_xor (signs n S) (signs n D)) (zip2 bit_xor (signs n S) (signs n R)))

xor_full : (a b : Bool) → bit_xor (full a) (full b) ≡ full (differ a b)
xor_full true true = refl
xor_full true false = refl
xor_full false true = refl
xor_full false false = refl

and_full : (a b : Bool) → bit_and (full a) (full b) ≡ full (a && b)
and_full true true = refl
and_full true false = refl
and_full false true = refl
and_full false false = refl

or_full : (a b : Bool) → top 63 (bit_or (full a) (full b)) ≡ (a || b)
or_full true true = refl
or_full true false = refl
or_full false true = refl
or_full false false = refl

top_is : (s p q d r : Bool)
    → top 63 (bit_or (bit_and (bit_xor (full s) (full p)) (bit_xor (full s) (full q)))
    (bit_and (bit_xor (full s) (full d)) (bit_xor (full s) (full r))))
    ≡ (neither s p q || neither s d r)
top_is s p q d r =
    (λ i. top 63 (bit_or (bit_and (xor_full s p i) (xor_full s q i)) (bit_and (xor_full s d i) (xor_full s r i))))
    ∙ (λ i. top 63 (bit_or (and_full (differ s p) (differ s q) i) (and_full (differ s d) (differ s r) i)))
    ∙ or_full (neither s p q) (neither s d r)

word_back : (w : ℕ) → w < 2 ^ 64 → w ≡ of_z w64 (to_z w64 w)
word_back w h = grind (arith, ints)

word_is : (m j : ℤ) → ADD (of_z w64 m) (of_z w64 j) ≡ of_z w64 (added m j)
word_is m j = word_back ((of_z w64 m + of_z w64 j) % 2 ^ 64) (omega arith)

-- the bit of one lane
bit : (m j r : ℤ) → SFits w64 m → SFits w64 j → SFits w64 r
    → top 63 (bit_or
    (bit_and (bit_xor (LT (ADD (of_z w64 m) (of_z w64 j)) 0) (LT (of_z w64 m) 0))
    (bit_xor (LT (ADD (of_z w64 m) (of_z w64 j)) 0) (LT (of_z w64 j) 0)))
    (bit_and (bit_xor (LT (ADD (of_z w64 m) (of_z w64 j)) 0) (LT (SUB (ADD (of_z w64 m) (of_z w64 j)) (of_z w64 r)) 0))
    (bit_xor (LT (ADD (of_z w64 m) (of_z w64 j)) 0) (LT (of_z w64 r) 0))))
    ≡ past m j r
bit m j r h k l =
    let mm : to_z w64 (of_z w64 m) ≡ m = to_z-of_z w64 m h in
    let jj : to_z w64 (of_z w64 j) ≡ j = to_z-of_z w64 j k in
    let rr : to_z w64 (of_z w64 r) ≡ r = to_z-of_z w64 r l in
    (λ i. top 63 (bit_or
    (bit_and (bit_xor (full (below (added m j))) (full (below (mm i))))
    (bit_xor (full (below (added m j))) (full (below (jj i)))))
    (bit_and (bit_xor (full (below (added m j))) (full (below (to_z w64 (SUB (word_is m j i) (of_z w64 r))))))
    (bit_xor (full (below (added m j))) (full (below (rr i)))))))
    ∙ top_is (below (added m j)) (below m) (below j) (below (taken (added m j) r)) (below r)

abbrev pub Told : ℕ → List ℕ → Option (List ℤ) → Type 0
Told mask ds answer = (mask ≡ 0 → answer ≡ Some (map (to_z w64) ds)) × ((mask ≡ 0 → ⊥) → answer ≡ None)

told_by : (m j r : ℤ) → SFits w64 m → SFits w64 j → SFits w64 r → (c b : Bool) → past m j r ≡ c → b ≡ past m j r
    → (mask : ℕ) (ds : List ℕ) (answer : Option (List ℤ)) → Told mask ds answer
    → Told (cond {A = ℕ} b 1 0 + 2 * mask) (SUB (ADD (of_z w64 m) (of_z w64 j)) (of_z w64 r) ∷ ds)
    (and_lanes (sum_answer m j r) answer)
told_by m j r h k l true b e f mask ds answer so =
    let one : ◌≡◌ {A = ℕ} (cond {A = ℕ} b 1 0) 1 = ap (λ x. cond {A = ℕ} x 1 0) (f ∙ e) in
    (λ zero. absurd (omega arith), λ no. ap (λ o. and_lanes o answer) (lane m j r h k l true e))
told_by m j r h k l false b e f mask ds answer so =
    let none : ◌≡◌ {A = ℕ} (cond {A = ℕ} b 1 0) 0 = ap (λ x. cond {A = ℕ} x 1 0) (f ∙ e) in
    let now :
    and_lanes (sum_answer m j r) answer ≡ before (to_z w64 (SUB (ADD (of_z w64 m) (of_z w64 j)) (of_z w64 r))) answer =
    ap (λ o. and_lanes o answer) (lane m j r h k l false e)
    ∙ (λ i. before (to_z w64 (SUB (sym (word_is m j) i) (of_z w64 r))) answer) in (
      λ zero. now ∙ ap (before (to_z w64 (SUB (ADD (of_z w64 m) (of_z w64 j)) (of_z w64 r)))) (so.0 (omega arith)),
      λ no. now
          ∙ ap (before (to_z w64 (SUB (ADD (of_z w64 m) (of_z w64 j)) (of_z w64 r)))) (so.1 (λ is. no (omega arith))),
    )

pub lanes : (ms js rs : List ℤ) → Each1 (SFits w64) ms → Each1 (SFits w64) js → Each1 (SFits w64) rs
    → length js ≡ length ms → length rs ≡ length ms
    → Told (mask_l (map (top 63) (tests ms js rs (length ms)))) (D ms js rs) (lanes_answer sum_answer ms js rs)
    × (length (map (top 63) (tests ms js rs (length ms))) ≡ length ms)
lanes [] [] [] h k l e f = ((λ z. refl, λ no. absurd (no refl)), refl)
lanes [] (j ∷ js) rs h k l e f = absurd (omega arith)
lanes [] [] (r ∷ rs) h k l e f = absurd (omega arith)
lanes (m ∷ ms) [] rs h k l e f = absurd (omega arith)
lanes (m ∷ ms) (j ∷ js) [] h k l e f = absurd (omega arith)
lanes (m ∷ ms) (j ∷ js) (r ∷ rs) h k l e f =
    let ih = lanes ms js rs h.1 k.1 l.1 (omega arith) (omega arith) in
    (told_by m j r h.0 k.0 l.0 _ _ refl (bit m j r h.0 k.0 l.0) _ (D ms js rs) _ ih.0, ap suc ih.1)

each : (xs : List ℤ) → AreLanes xs → Each1 (SFits w64) xs
each xs h = Each1-from_get_or (SFits w64) xs (pos 0) (λ i below. h.1 i (omega (arith, h.0)))

pub eight_lanes : (ms js rs : List ℤ) → AreLanes ms → AreLanes js → AreLanes rs
    → Told (mask_l (map (top 63) (tests ms js rs 8)) % 2 ^ 64) (D ms js rs) (lanes_answer sum_answer ms js rs)
eight_lanes ms js rs h k l =
    let so = lanes ms js rs (each ms h) (each js k) (each rs l) (omega (arith, h.0, k.0)) (omega (arith, h.0, l.0)) in
    let now =
    subst (λ n.
    Told (mask_l (map (top 63) (tests ms js rs n))) (D ms js rs) (lanes_answer sum_answer ms js rs)
    × (length (map (top 63) (tests ms js rs n)) ≡ n))
    h.0
    (so.0, so.1) in
    subst (λ k. Told k (D ms js rs) (lanes_answer sum_answer ms js rs))
    (sym (mask_l-mod (map (top 63) (tests ms js rs 8)) 64 (omega (arith, now.1)))) now.0

-- the sums are the values of the definition
pub by_definition : (ms js rs : List ℤ)
    → lanes_answer sum_answer ms js rs ≡ lanes_answer (answer_of sum_expression) ms js rs
by_definition ms js rs = sym (λ i. lanes_answer (λ m j r. sum_is m j r i) ms js rs)
