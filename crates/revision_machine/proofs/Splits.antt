-- Two elements of a list, changed in the two parts of it.
use Rattle.std.proofs.Common.{◌≡◌, ℕ, ◌-◌, ◌<◌, List, ◌++◌, length, get_or, set, take, drop, Result, Ok, Err, OnOk, sym, ap, ◌∙◌, arith, length-set, length-append}
use Rattle.std.proofs.Math.Seq.{take-append_seam}
use Rattle.std.proofs.lemmas.List.{set-append_left, set-append_right, get_or_append_left, get_or-append_right, get_or_default}

pub both_ok : {T E : Type 0} {A B C : Type 0} (r : Result T E) → (A → B → C) → OnOk r A → OnOk r B → OnOk r C
both_ok (Ok v) f a b = f a b
both_ok (Err e) f a b = tt

pub one_ok : {T E : Type 0} {A B : Type 0} (r : Result T E) → (A → B) → OnOk r A → OnOk r B
one_ok (Ok v) f a = f a
one_ok (Err e) f a = tt

module _ {A : Type 0} (s front back : List A) (n : ℕ) (value : s ≡ front ++ back) (len : length front ≡ n)
    (within : n < length s) where
  back_there : 0 < length back
  back_there =
      let e : length s ≡ length (front ++ back) = ap length value in
      let k = length-append front back in
      omega arith

  get_front : (i : ℕ) (x d : A) → i < n → get_or front i x ≡ get_or s i d
  get_front i x d lt =
      let lt' : i < length front = omega arith in
      get_or_default front i x d lt' ∙ sym (get_or_append_left front back d i lt') ∙ ap (λ v. get_or v i d) (sym value)

  get_back : (y d : A) → get_or back 0 y ≡ get_or s n d
  get_back y d =
      let z : n - n ≡ 0 = omega arith in
      get_or_default back 0 y d back_there ∙ ap (λ v. get_or back v d) (sym z)
      ∙ sym (get_or-append_right front back n n d len (omega arith)) ∙ ap (λ v. get_or v n d) (sym value)

  -- the element at n changed in the second part, for any first part of that length
  set_second : (f : List A) (y : A) → length f ≡ n → set (f ++ back) n y ≡ f ++ set back 0 y
  set_second f y e =
      let z : n - n ≡ 0 = omega arith in set-append_right f back n n y e (omega arith) ∙ ap (λ v. f ++ set back v y) z

  -- i stands in the first part
  pub set_both : (i : ℕ) → i < n → (a b : A) → set front i a ++ set back 0 b ≡ set (set s i a) n b
  set_both i lt a b =
      let lt' : i < length front = omega arith in
      let first : set s i a ≡ set front i a ++ back = ap (λ v. set v i a) value ∙ set-append_left front back i a lt' in
      sym (ap (λ v. set v n b) first ∙ set_second (set front i a) b (length-set front i a ∙ len))

  pub set_both_back : (j : ℕ) → j < n → (a b : A) → set front j b ++ set back 0 a ≡ set (set s n a) j b
  set_both_back j lt a b =
      let lt' : j < length front = omega arith in
      let first : set s n a ≡ front ++ set back 0 a = ap (λ v. set v n a) value ∙ set_second front a len in
      sym (ap (λ v. set v j b) first ∙ set-append_left front (set back 0 a) j b lt')

  module _ (f : A → A → A) (k : A → A) (d : A) where
    pub joined_first : (i : ℕ) → i < n → (x y a b : A) → a ≡ f (get_or front i x) (get_or back 0 y)
        → b ≡ k (get_or back 0 y)
        → set front i a ++ set back 0 b ≡ set (set s i (f (get_or s i d) (get_or s n d))) n (k (get_or s n d))
    joined_first i lt x y a b ea eb =
        set_both i lt a b
        ∙ ap (λ v. set (set s i v) n b)
        (ea ∙ ap (λ v. f v (get_or back 0 y)) (get_front i x d lt) ∙ ap (f (get_or s i d)) (get_back y d))
        ∙ ap (λ v. set (set s i (f (get_or s i d) (get_or s n d))) n v) (eb ∙ ap k (get_back y d))

    pub joined_second : (j : ℕ) → j < n → (x y a b : A) → a ≡ f (get_or back 0 x) (get_or front j y)
        → b ≡ k (get_or front j y)
        → set front j b ++ set back 0 a ≡ set (set s n (f (get_or s n d) (get_or s j d))) j (k (get_or s j d))
    joined_second j lt x y a b ea eb =
        set_both_back j lt a b
        ∙ ap (λ v. set (set s n v) j b)
        (ea ∙ ap (λ v. f v (get_or front j y)) (get_back x d) ∙ ap (f (get_or s n d)) (get_front j y d lt))
        ∙ ap (λ v. set (set s n (f (get_or s n d) (get_or s j d))) j v) (eb ∙ ap k (get_front j y d lt))

-- a list written through a slice of all of it
pub written_all : {A : Type 0} (old new : List A) (n : ℕ) → length new ≡ n → take n (new ++ drop (length new) old) ≡ new
written_all old new n e =
    ap (λ v. take v (new ++ drop (length new) old)) (sym e) ∙ take-append_seam new (drop (length new) old)
