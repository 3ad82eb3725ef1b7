-- Numbers that are put by twos.
--   two_more   the numbers of two words more
--   pair_put   two numbers are put behind those that are there
use Rattle.std.proofs.Common.{◌≡◌, ◌∙◌, ap, sym, refl, subst, ℕ, ℤ, zero, suc, ◌+◌, ◌≤◌, List, [], ◌∷◌, ◌++◌, length, take, drop, map, get_or, arith}
use Rattle.std.proofs.lemmas.List.{length-take, length-drop}
use Rattle.std.proofs.lemmas.Slice.{take-put_mid}
use Rattle.std.proofs.lemmas.Simd.{put_chunk_whole, length-put_chunk}
use borrow.Rule.Slice.PartMut.{put_mid, same_len_mid}
use lib.Lanes.{put_chunk}
use Rattle.rev_num.specs.Words.{int_of}

pub two_more : (words : List ℕ) (k : ℕ) → k + 2 ≤ length words
    → map int_of (take (k + 2) words)
    ≡ map int_of (take k words) ++ int_of (get_or words k 0) ∷ int_of (get_or words (k + 1) 0) ∷ []
two_more [] k h = absurd (omega arith)
two_more (w ∷ []) zero h = absurd (omega arith)
two_more (w ∷ v ∷ ws) zero h = refl
two_more (w ∷ ws) (suc k) h =
    let two : suc k + 2 ≡ suc (k + 2) = omega arith in
    let one : suc k + 1 ≡ suc (k + 1) = omega arith in
    ap (λ n. map int_of (take n (w ∷ ws))) two
    ∙ (ap (λ xs. int_of w ∷ xs) (two_more ws k (omega arith))
    ∙ ap (λ n. map int_of (take (suc k) (w ∷ ws)) ++ int_of (get_or ws k 0) ∷ int_of (get_or (w ∷ ws) n 0) ∷ [])
    (sym one))

two_put : (ints : List ℤ) (words : List ℕ) (k : ℕ) (a b x y : ℤ) → length ints ≡ 8 → length words ≡ 8 → k + 2 ≤ 8
    → a ≡ x → b ≡ y → x ≡ int_of (get_or words k 0) → y ≡ int_of (get_or words (k + 1) 0)
    → take k ints ≡ map int_of (take k words)
    → take (k + 2) (put_mid k 2 ints (put_chunk 0 (take 2 (drop k ints)) (a ∷ b ∷ [])))
    ≡ map int_of (take (k + 2) words)
two_put ints words k a b x y long many room p q e f so =
    ap (λ us. take (k + 2) (put_mid k 2 ints us))
    (put_chunk_whole (take 2 (drop k ints)) (a ∷ b ∷ [])
    (length-take 2 (drop k ints) ∙ omega (arith, length-drop k ints, long, room)))
    ∙ (take-put_mid k 2 ints (a ∷ b ∷ []) (k + 2) refl (omega (arith, long, room))
    ∙ ((λ i. so i ++ (p ∙ e) i ∷ (q ∙ f) i ∷ []) ∙ sym (two_more words k (omega (arith, many, room)))))

pub pair_put : (ints : List ℤ) (words : List ℕ) (k n m : ℕ) (a b x y : ℤ) → n ≡ 2 → k + 2 ≡ m → length ints ≡ 8
    → length words ≡ 8 → k + 2 ≤ 8
    → a ≡ x → b ≡ y → x ≡ int_of (get_or words k 0) → y ≡ int_of (get_or words (k + 1) 0)
    → take k ints ≡ map int_of (take k words)
    → (length (put_mid k n ints (put_chunk 0 (take n (drop k ints)) (a ∷ b ∷ []))) ≡ 8)
    × (take m (put_mid k n ints (put_chunk 0 (take n (drop k ints)) (a ∷ b ∷ []))) ≡ map int_of (take m words))
pair_put ints words k n m a b x y two next long many room p q e f so = (
  same_len_mid k n ints _ (length-put_chunk 0 (take n (drop k ints)) (a ∷ b ∷ [])) ∙ long,
  subst (λ j.
      take m (put_mid k j ints (put_chunk 0 (take j (drop k ints)) (a ∷ b ∷ []))) ≡ map int_of (take m words))
      (sym two)
      (subst (λ j.
      take j (put_mid k 2 ints (put_chunk 0 (take 2 (drop k ints)) (a ∷ b ∷ []))) ≡ map int_of (take j words)) next
      (two_put ints words k a b x y long many room p q e f so)),
)
