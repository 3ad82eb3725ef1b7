-- Tables of places: what a map has after a new path, and what the place of a path says of a list of revisions.
use Rattle.std.proofs.Common.{◌≡◌, ◌⊎◌, inl, inr, ℕ, suc, zero, ◌+◌, ◌<◌, Bool, true, false, cond, List, [], ◌∷◌, ◌++◌, length, Option, Some, None, MatchOption, Vec, get_or, take, refl, sym, ap, ◌∙◌, subst, arith, true≢false}
use Rattle.std.proofs.lemmas.List.{take_more, length-take}
use Rattle.std.specs.List.{slice_get}
use Rattle.std.specs.declared.alloc.Global.{Global}
use Rattle.std.specs.Ordering.{nat_cmp, is_eq}
use Rattle.std.specs.BTreeMap.{BTreeMap, get_by, UpdatesBy}
use Rattle.std.specs.Map.{lookup}
use Rattle.std.specs.Cmp.Lexicographic.{slice_cmp}
use mathlib.Core.Path.{fun_ext}
use Rattle.rev_num.specs.Path.{Path, same}
use Rattle.revision_machine.specs.PathIndex.{against, place_by, IsEntered, IsPlace, IsIndexed}
use Rattle.revision_machine.specs.Laws.{IsIn}
use Rattle.revision_machine.specs.declared.state.RevisionRow.{RevisionRow}
use Rattle.revision_machine.specs.RevisionList.{paths, globe}
use Rattle.revision_machine.specs.ListStep.{IsAt}
use Rattle.rev_num.proofs.Maps.{other_found}
use Rattle.rev_num.proofs.PostOrder.{same_refl, same-eq}
use Rattle.revision_machine.proofs.RevisionList.{in-push, globe_out, paths-push, length-paths}

abbrev pub Key : Type 0
Key = Vec ℕ Global

-- ---- a map with a new path

given_by : (m n : BTreeMap Key ℕ) (key : Key) (x : ℕ) (p : Path) (b : Bool) → same key.items p ≡ b
    → UpdatesBy (λ (a b : Key). slice_cmp nat_cmp a.items b.items) (against key.items) m n (Some x)
    → place_by n p ≡ cond b (Some x) (place_by m p)
given_by m n key x p true e h = ap (λ w. get_by (against w) n) (sym (same-eq key.items p e)) ∙ h.1
given_by m n key x p false e h = other_found m n key (Some x) p e h

pub entered : (m n : BTreeMap Key ℕ) (key : Key) (x : ℕ)
    → UpdatesBy (λ (a b : Key). slice_cmp nat_cmp a.items b.items) (against key.items) m n (Some x)
    → IsEntered m n key.items x
entered m n key x h = fun_ext λ p. given_by m n key x p (same key.items p) refl h

-- ---- a list with a new path

slice_get-last : (ps : List Path) (p : Path) → slice_get (ps ++ p ∷ []) (length ps) ≡ Some p
slice_get-last [] p = refl
slice_get-last (q ∷ ps) p = slice_get-last ps p

slice_get-front : (ps : List Path) (p q : Path) (i : ℕ) → slice_get ps i ≡ Some q → slice_get (ps ++ p ∷ []) i ≡ Some q
slice_get-front [] p q i e = absurd cc
slice_get-front (r ∷ ps) p q zero e = e
slice_get-front (r ∷ ps) p q (suc i) e = slice_get-front ps p q i e

pub indexed_none : (places : BTreeMap Key ℕ) → places.entries ≡ [] → IsIndexed places []
indexed_none places none p = subst (IsPlace p []) (sym (ap (lookup (λ k. is_eq (against p k))) none)) (λ v. v)

kept : (ps : List Path) (p q : Path) (o : Option ℕ) → same p q ≡ false → IsPlace q ps o → IsPlace q (ps ++ p ∷ []) o
kept ps p q None apart out = λ is. by (in-push ps p q is)
  where
    by : IsIn q ps ⊎ (q ≡ p) → ⊥
    by (inl i) = out i
    by (inr e) = true≢false (sym (subst (λ v. same v q ≡ true) e (same_refl q)) ∙ apart)
kept ps p q (Some i) apart at = slice_get-front ps p q i at

pub indexed_push : (m n : BTreeMap Key ℕ) (ps : List Path) (p : Path) → IsIndexed m ps → IsEntered m n p (length ps)
    → IsIndexed n (ps ++ p ∷ [])
indexed_push m n ps p indexed entered q =
    subst (IsPlace q (ps ++ p ∷ [])) (sym (ap (λ f. f q) entered)) (go (same p q) refl)
  where
    go : (b : Bool) → same p q ≡ b → IsPlace q (ps ++ p ∷ []) (cond b (Some (length ps)) (place_by m q))
    go true e = slice_get-last ps p ∙ ap Some (same-eq p q e)
    go false e = kept ps p q (place_by m q) e (indexed q)

length-take_within : {A : Type 0} (i : ℕ) (xs : List A) → i < length xs → length (take i xs) ≡ i
length-take_within i xs lt = omega (arith, length-take i xs)

-- a new revision
pub indexed_forked :
    {L : Type 0} (m n : BTreeMap Key ℕ) (ss set_to : List (RevisionRow L)) (t : RevisionRow L) (p : Path) (k : ℕ)
    → paths set_to ≡ paths ss → t.path ≡ p → k ≡ length set_to → IsIndexed m (paths ss) → IsEntered m n p k
    → IsIndexed n (paths (set_to ++ t ∷ []))
indexed_forked m n ss set_to t p k same_paths tp place indexed entered =
    subst (IsIndexed n) (sym (paths-push set_to t))
    (indexed_push m n (paths set_to) t.path (subst (IsIndexed m) (sym same_paths) indexed)
    (subst (IsEntered m n t.path) (place ∙ sym (length-paths set_to))
    (subst (λ v. IsEntered m n v k) (sym tp) entered)))

-- one more revision of a list
pub indexed_more : {L : Type 0} (m n : BTreeMap Key ℕ) (ss : List (RevisionRow L)) (i : ℕ) (x : RevisionRow L)
    → i < length ss
    → x ≡ get_or ss i x
    → IsIndexed m (paths (take i ss)) → IsEntered m n x.path i → IsIndexed n (paths (take (i + 1) ss))
indexed_more m n ss i x lt r indexed entered =
    subst (λ v. IsIndexed n (paths v)) (sym (take_more ss i x lt))
    (indexed_forked m n (take i ss) (take i ss) (get_or ss i x) x.path i refl (sym (ap (λ v. v.path) r))
    (sym (length-take_within i ss lt)) indexed entered)

-- ---- the place of a path

path_at : {L : Type 0} (ss : List (RevisionRow L)) (i : ℕ) (p : Path) → slice_get (paths ss) i ≡ Some p → IsAt ss i p
path_at [] i p e = absurd cc
path_at (s ∷ ss) zero p e = record { within = omega arith; path = λ d. (let f : Some s.path ≡ Some p = e in cc) }
path_at (s ∷ ss) (suc i) p e =
    let a = path_at ss i p e in record { within = (let h = a.within in omega arith); path = λ d. a.path d }

pub found_at : {L : Type 0} (places : BTreeMap Key ℕ) (ss : List (RevisionRow L)) (p : Path) (i : ℕ)
    → IsIndexed places (paths ss) → place_by places p ≡ Some i → IsAt ss i p
found_at places ss p i indexed e = path_at ss i p (subst (IsPlace p (paths ss)) e (indexed p))

pub not_found : {L : Type 0} (places : BTreeMap Key ℕ) (ss : List (RevisionRow L)) (p : Path)
    → IsIndexed places (paths ss)
    → place_by places p ≡ None → globe ss p ≡ None
not_found places ss p indexed e = globe_out ss p (subst (IsPlace p (paths ss)) e (indexed p))

-- what a look-up says of the list
pub looked_up : {L : Type 0} (places : BTreeMap Key ℕ) (ss : List (RevisionRow L)) (p : Path)
    → IsIndexed places (paths ss)
    → (o : Option ℕ) → o ≡ place_by places p → MatchOption o (globe ss p ≡ None) (λ i. IsAt ss i p)
looked_up places ss p indexed None e = not_found places ss p indexed (sym e)
looked_up places ss p indexed (Some i) e = found_at places ss p i indexed (sym e)
