-- Parts of the area of words.
use Rattle.std.proofs.Common.{◌≡◌, ◌∙◌, ℕ, zero, suc, ◌+◌, ◌-◌, ◌<◌, ◌≤◌, List, [], ◌∷◌, ◌++◌, length, take, drop, reverse, replicate, get_or, Some, None, refl, sym, ap, subst, arith}
use Rattle.std.specs.Prelude.{slice_get}
use Rattle.std.proofs.lemmas.List.{reverse-append}
use Rattle.rev_code.specs.Words.{Word}
use Rattle.block_run.specs.Agreement.{AreWords}
use Rattle.code_soundness.proofs.Basics.{some_eq}
use Rattle.block_run.specs.Area.{stack_of}

abbrev pub zeros : ℕ → List ℕ
zeros n = replicate n 0

pub replicate_more : (n : ℕ) → zeros (suc n) ≡ zeros n ++ 0 ∷ []
replicate_more zero = refl
replicate_more (suc n) = ap (λ (xs : List ℕ). 0 ∷ xs) (replicate_more n)

pub drop_front : (xs ys : List ℕ) (n : ℕ) → n ≤ length xs → drop n (xs ++ ys) ≡ drop n xs ++ ys
drop_front xs ys zero h = refl
drop_front [] ys (suc n) h = absurd (omega (arith, h))
drop_front (x ∷ xs) ys (suc n) h = drop_front xs ys n (omega (arith, h))

pub take_shorter : (xs ys : List ℕ) (m n : ℕ) → n ≤ m → take m xs ≡ take m ys → take n xs ≡ take n ys
take_shorter xs ys m zero h e = refl
take_shorter [] [] m (suc n) h e = refl
take_shorter [] (y ∷ ys) zero (suc n) h e = absurd (omega (arith, h))
take_shorter [] (y ∷ ys) (suc m) (suc n) h e = absurd (nil_no e)
  where
    nil_no : {zs : List ℕ} → [] ≡ y ∷ zs → ⊥
    nil_no h = cc
take_shorter (x ∷ xs) [] zero (suc n) h e = absurd (omega (arith, h))
take_shorter (x ∷ xs) [] (suc m) (suc n) h e = absurd (cons_no e)
  where
    cons_no : {zs : List ℕ} → x ∷ zs ≡ [] → ⊥
    cons_no h = cc
take_shorter (x ∷ xs) (y ∷ ys) zero (suc n) h e = absurd (omega (arith, h))
take_shorter (x ∷ xs) (y ∷ ys) (suc m) (suc n) h e =
    let p : x ≡ y = cc in
    let q : take m xs ≡ take m ys = cc in
    let r = take_shorter xs ys m n (omega (arith, h)) q in λ j. p j ∷ r j

-- the words on top of a stack, the lowest first
pub stack_slice : (ws : List ℕ) (low k m : ℕ) → m ≤ k → low + k ≤ length ws
    → reverse (take m (stack_of ws low k)) ≡ take m (drop (low + k - m) ws)
stack_slice ws low k zero h g = refl
stack_slice ws low zero (suc m) h g = absurd (omega (arith, h))
stack_slice ws low (suc k) (suc m) h g =
    let a = reverse-append (get_or ws (low + k) 0 ∷ []) (take m (stack_of ws low k)) in
    let b = stack_slice ws low k m (omega (arith, h)) (omega (arith, g)) in
    let e : low + suc k - suc m ≡ low + k - m = omega arith in
    let f : low + k - m + m ≡ low + k = omega (arith, h) in
    a ∙ ap (λ xs. xs ++ get_or ws (low + k) 0 ∷ []) b ∙ last_word ws (low + k - m) m (low + k) f (omega (arith, g))
    ∙ ap (λ n. take (suc m) (drop n ws)) (sym e)
  where
    last_word : (ws : List ℕ) (n m at : ℕ) → n + m ≡ at → at < length ws
        → take m (drop n ws) ++ get_or ws at 0 ∷ [] ≡ take (suc m) (drop n ws)
    last_word [] n m at e h = absurd (omega (arith, h))
    last_word (w ∷ ws) (suc n) m zero e h = absurd (omega (arith, e))
    last_word (w ∷ ws) (suc n) m (suc at) e h = last_word ws n m at (omega (arith, e)) (omega (arith, h))
    last_word (w ∷ ws) zero zero zero e h = refl
    last_word (w ∷ ws) zero zero (suc at) e h = absurd (omega (arith, e))
    last_word (w ∷ ws) zero (suc m) zero e h = absurd (omega (arith, e))
    last_word (w ∷ ws) zero (suc m) (suc at) e h =
        ap (λ xs. w ∷ xs) (last_word ws zero m at (omega (arith, e)) (omega (arith, h)))

pub words_take : (n : ℕ) (xs : List (Word ℕ)) (ws : List ℕ) → AreWords xs ws → AreWords (take n xs) (take n ws)
words_take zero xs ws h = tt
words_take (suc n) [] [] h = tt
words_take (suc n) [] (w ∷ ws) h = absurd h
words_take (suc n) (x ∷ xs) [] h = absurd h
words_take (suc n) (x ∷ xs) (w ∷ ws) h = (h.0, words_take n xs ws h.1)

pub words_drop : (n : ℕ) (xs : List (Word ℕ)) (ws : List ℕ) → AreWords xs ws → AreWords (drop n xs) (drop n ws)
words_drop zero xs ws h = h
words_drop (suc n) [] [] h = tt
words_drop (suc n) [] (w ∷ ws) h = absurd h
words_drop (suc n) (x ∷ xs) [] h = absurd h
words_drop (suc n) (x ∷ xs) (w ∷ ws) h = words_drop n xs ws h.1

pub words_append : (xs ys : List (Word ℕ)) (us vs : List ℕ) → AreWords xs us → AreWords ys vs
    → AreWords (xs ++ ys) (us ++ vs)
words_append [] ys [] vs h k = k
words_append [] ys (u ∷ us) vs h k = absurd h
words_append (x ∷ xs) ys [] vs h k = absurd h
words_append (x ∷ xs) ys (u ∷ us) vs h k = (h.0, words_append xs ys us vs h.1 k)

pub words_reverse : (xs : List (Word ℕ)) (ws : List ℕ) → AreWords xs ws → AreWords (reverse xs) (reverse ws)
words_reverse [] [] h = tt
words_reverse [] (w ∷ ws) h = absurd h
words_reverse (x ∷ xs) [] h = absurd h
words_reverse (x ∷ xs) (w ∷ ws) h =
    let e = reverse-append (x ∷ []) xs in
    let f = reverse-append (w ∷ []) ws in
    subst (λ ys. AreWords ys (reverse (w ∷ ws))) (sym e) (subst (λ us. AreWords (reverse xs ++ x ∷ []) us) (sym f)
    (words_append (reverse xs) (x ∷ []) (reverse ws) (w ∷ []) (words_reverse xs ws h.1) (h.0, tt)))

-- one item further
pub drop_at : {A : Type 0} (items : List A) (n : ℕ) (x : A) → slice_get items n ≡ Some x
    → drop n items ≡ x ∷ drop (n + 1) items
drop_at [] n x e = absurd (let clash : None ≡ Some x = e in cc)
drop_at (y ∷ items) zero x e = let z : y ≡ x = some_eq e in ap (λ v. v ∷ items) z
drop_at (y ∷ items) (suc n) x e =
    drop_at items n x e ∙ ap (λ m. x ∷ drop m (y ∷ items)) (let z : suc (n + 1) ≡ suc n + 1 = omega arith in z)
