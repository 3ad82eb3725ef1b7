-- A row is a part of a composition.
use Rattle.std.proofs.Common.{◌≡◌, ◌∙◌, ap, sym, refl, subst, Bool, true, false, ℕ, zero, suc, ◌+◌, ◌<◌, ◌≤◌, List, [], ◌∷◌, ◌++◌, length, take, drop, map, get_or, All, Option, Some, None, Result, Ok, Err, arith}
use Rattle.std.proofs.lemmas.List.{drop_all, length-drop, get_or-drop, length-append, append_assoc, append-nil}
use Rattle.std.proofs.lemmas.List.Elements.{All-get_or}
use Rattle.std.proofs.lemmas.Option.{slice_get-get_or}
use Rattle.std.specs.Prelude.{IfSome}
use Rattle.rev_num.specs.declared.value.NumFault.{NumFault}
use Rattle.version_map.specs.declared.end.Written.{Written}
use Rattle.version_map.specs.Composing.{Merges, Composition, composed, entries, and_later, before_later}
use Rattle.version_map.specs.Eights.{and_words, merged_row, merged_eight}
use Rattle.version_map.specs.Parts.{before, IsPart, HasPut}
use Rattle.version_map.specs.Following.{Follow}

pub drop_drop : {A : Type 0} (i n : ℕ) (xs : List A) → drop n (drop i xs) ≡ drop (i + n) xs
drop_drop zero n xs = let e : n ≡ 0 + n = omega arith in ap (λ k. drop k xs) e
drop_drop (suc i) n [] = drop_all n [] (omega arith) ∙ sym (drop_all (suc i + n) [] (omega arith))
drop_drop (suc i) n (x ∷ xs) =
    let e : suc (i + n) ≡ suc i + n = omega arith in drop_drop i n xs ∙ ap (λ k. drop k (x ∷ xs)) e

is_some : Option (List ℕ) → Type 0
is_some None = ⊥
is_some (Some x) = Unit {0}

no_row : {A : Type 0} (vs : List ℕ) → None ≡ Some vs → A
unfolding is_some
no_row vs e = absurd (subst is_some (sym e) tt)

or_none : Option (List ℕ) → List ℕ
or_none None = []
or_none (Some x) = x

some_is : (a b : List ℕ) → ◌≡◌ {A = Option (List ℕ)} (Some a) (Some b) → a ≡ b
unfolding or_none
some_is a b e = ap or_none e

split : (r : Result ℕ NumFault) (later : Option (List ℕ)) (vs : List ℕ) → and_words r later ≡ Some vs
    → (v : ℕ) × (rest : List ℕ) × (r ≡ Ok v) × (later ≡ Some rest) × (v ∷ rest ≡ vs)
split (Ok v) (Some rest) vs e = (v, rest, refl, refl, some_is (v ∷ rest) vs e)
split (Ok v) None vs e = no_row vs e
split (Err f) later vs e = no_row vs e

module _ (m : Merges ℕ) where
  abbrev left : (mains : List ℕ) → List Written → Composition ℕ
  left mains ws = composed m mains (entries ws)

  pub row_part : (n l : ℕ) (mains : List ℕ) (ws : List Written) (vs : List ℕ) → n ≤ length mains → n ≤ length ws
      → Follow ws l n
      → merged_row m l (take n mains) (map (λ w. w.value) (take n ws)) (map (λ w. w.root) (take n ws)) ≡ Some vs
      → (length vs ≡ n) × (left mains ws ≡ before vs (left (drop n mains) (drop n ws)))
  row_part zero l mains ws vs h k follow e =
      subst (λ us. (length us ≡ 0) × (left mains ws ≡ before us (left mains ws))) (some_is [] vs e) (refl, refl)
  row_part (suc n) l [] ws vs h k follow e = absurd (omega arith)
  row_part (suc n) l (x ∷ xs) [] vs h k follow e = absurd (omega arith)
  row_part (suc n) l (x ∷ xs) (w ∷ ws) vs h k follow e =
      let s = split (m l x w.value w.root)
      (merged_row m (l + 1) (take n xs) (map (λ w. w.value) (take n ws)) (map (λ w. w.root) (take n ws))) vs e in
      let v = s.0 in let rest = s.1 in let is = s.2 in
      let at : w.location ≡ l = (let f = follow 0 w (omega arith) refl in omega arith) in
      let ih = row_part n (l + 1) xs ws rest (omega arith) (omega arith)
      (λ i u j g. let f : u.location ≡ l + suc i = follow (suc i) u (omega arith) g in omega arith) s.3 in
      let now : left (x ∷ xs) (w ∷ ws) ≡ before_later v (left xs ws) =
      ap (λ r. and_later w.location r (left xs ws)) (ap (λ i. m i x w.value w.root) at ∙ is) in
      subst (λ us. (length us ≡ suc n) × (left (x ∷ xs) (w ∷ ws) ≡ before us (left (drop n xs) (drop n ws)))) s.4
      (ap suc ih.0, now ∙ ap (before_later v) ih.1)

  before_both : (xs ys : List ℕ) (c : Composition ℕ) → before xs (before ys c) ≡ before (xs ++ ys) c
  before_both [] ys c = refl
  before_both (x ∷ xs) ys c = ap (before_later x) (before_both xs ys c)

  -- a part more is composed
  pub part_goes_on : (mains : List ℕ) (ws : List Written) (at n : ℕ) (old new part : List ℕ) (c : Composition ℕ)
      → c ≡ before (take at old) (left (drop at mains) (drop at ws))
      → left (drop at mains) (drop at ws) ≡ before part (left (drop (at + n) mains) (drop (at + n) ws))
      → take (at + n) new ≡ take at old ++ part
      → c ≡ before (take (at + n) new) (left (drop (at + n) mains) (drop (at + n) ws))
  part_goes_on mains ws at n old new part c so is put =
      so
      ∙ (ap (before (take at old)) is
      ∙ (before_both (take at old) part _
      ∙ ap (λ us. before us (left (drop (at + n) mains) (drop (at + n) ws))) (sym put)))

-- eight locations that follow each other are a part
if_some : (o : Option (List ℕ)) (P : List ℕ → Type 0) → ((vs : List ℕ) → o ≡ Some vs → P vs) → IfSome o P
if_some (Some vs) P h = h vs refl
if_some None P h = tt

row_of : (b : Bool) (m : Merges ℕ) (first : ℕ) (xs ys zs vs : List ℕ) → merged_eight b m first xs ys zs ≡ Some vs
    → merged_row m first xs ys zs ≡ Some vs
row_of true m first xs ys zs vs e = e
row_of false m first xs ys zs vs e = no_row vs e

pub eight_part : (b : Bool) (m : Merges ℕ) (mains : List ℕ) (ws : List Written) (at first : ℕ) (xs ys zs : List ℕ)
    (o : Option (List ℕ))
    → at + 8 ≤ length mains → at + 8 ≤ length ws → Follow (drop at ws) first 8
    → xs ≡ take 8 (drop at mains) → ys ≡ map (λ w. w.value) (take 8 (drop at ws))
    → zs ≡ map (λ w. w.root) (take 8 (drop at ws))
    → o ≡ merged_eight b m first xs ys zs → IfSome o (λ vs. (at + 8 ≤ length ws) × IsPart m mains ws at 8 vs)
eight_part b m mains ws at first xs ys zs o h k follow ex ey ez e =
    if_some o (λ vs. (at + 8 ≤ length ws) × IsPart m mains ws at 8 vs)
    (λ vs g.
    let r = row_of b m first xs ys zs vs (sym e ∙ g) in
    let p = row_part m 8 first (drop at mains) (drop at ws) vs (omega (arith, length-drop at mains))
    (omega (arith, length-drop at ws)) follow
    ((λ i. merged_row m first (sym ex i) (sym ey i) (sym ez i)) ∙ r) in
    (k, (p.0, p.1 ∙ (λ i. before vs (left m (drop_drop at 8 mains i) (drop_drop at 8 ws i))))))

-- the last of eight locations is within
pub row_within : (ws : List Written) (at first size : ℕ) (z : Written) → at + 8 ≤ length ws
    → Follow (drop at ws) first 8
    → All (λ w. w.location < size) ws → first + 8 ≤ size
row_within ws at first size z k follow all =
    let w = get_or (drop at ws) 7 z in
    let here : 7 < length (drop at ws) = omega (arith, length-drop at ws) in
    let is : w.location ≡ first + 7 = follow 7 w (omega arith) (slice_get-get_or (drop at ws) 7 z here) in
    let below : (get_or ws (at + 7) z).location < size =
    All-get_or (λ w. w.location < size) ws (at + 7) z (omega arith) all in
    let there : w.location ≡ (get_or ws (at + 7) z).location =
    ap (λ (u : Written). u.location) (get_or-drop at ws 7 z) in
    omega arith

-- a part is put behind what has been put
pub put_more : (m : Merges ℕ) (mains : List ℕ) (ws : List Written) (at n k : ℕ) (old mid new part : List ℕ)
    → HasPut m mains ws at n old mid → IsPart m mains ws (at + n) k part
    → take (at + n + k) new ≡ take (at + n) mid ++ part
    → HasPut m mains ws at (n + k) old new
put_more m mains ws at n k old mid new part (known, (many, is), put) (more, next) so =
    let there : at + n + k ≡ at + (n + k) = omega arith in (
      known ++ part,
      (
        length-append known part ∙ (λ i. many i + more i),
        is ∙ (ap (before known) next ∙ before_both m known part _)
            ∙ (λ i. before (known ++ part) (left m (drop (there i) mains) (drop (there i) ws))),
      ),
      ap (λ j. take j new) (sym there) ∙ (so ∙ (ap (λ xs. xs ++ part) put ∙ append_assoc (take at old) known part)),
    )

-- nothing is put
pub none_put : (m : Merges ℕ) (mains : List ℕ) (ws : List Written) (at : ℕ) (values : List ℕ)
    → HasPut m mains ws at 0 values values
none_put m mains ws at values =
    let here : at + 0 ≡ at = omega arith in (
      [],
      (refl, λ i. left m (drop (sym here i) mains) (drop (sym here i) ws)),
      ap (λ j. take j values) here ∙ sym (append-nil (take at values)),
    )

-- what stands before the place is the same, so what is put behind it is put
pub put_behind : (m : Merges ℕ) (mains : List ℕ) (ws : List Written) (at n : ℕ) (old mid new : List ℕ)
    → HasPut m mains ws at 0 old mid → HasPut m mains ws at n mid new → HasPut m mains ws at n old new
put_behind m mains ws at n old mid new first then =
    let both = put_more m mains ws at 0 n old mid new then.0 first
    (subst (λ j. IsPart m mains ws j n then.0) (let e : at ≡ at + 0 = omega arith in e) then.1)
    (let e : at + 0 + n ≡ at + n = omega arith in let z : at ≡ at + 0 = omega arith in
    ap (λ j. take j new) e ∙ (then.2 ∙ ap (λ j. take j mid ++ then.0) z)) in
    subst (λ j. HasPut m mains ws at j old new) (let e : 0 + n ≡ n = omega arith in e) both
