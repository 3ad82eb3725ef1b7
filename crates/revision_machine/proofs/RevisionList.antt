-- How the state of a list of revisions changes with the list.
use Rattle.std.proofs.Common.{◌≡◌, ◌≢◌, ◌⊎◌, inl, inr, ℕ, zero, suc, ◌<◌, Bool, true, false, cond, List, [], ◌∷◌, ◌++◌, length, get_or, set, Some, None, refl, sym, ap, ◌∙◌, subst, arith, length-set}
use Rattle.rev_num.specs.Path.{Path, same}
use Rattle.revision_machine.specs.PathMap.{with_at}
use Rattle.revision_machine.specs.Machine.{Entry}
use Rattle.revision_machine.specs.Laws.{IsIn, IsDistinct, Census}
use Rattle.revision_machine.proofs.Paths.{swap, overwrite, at_here, at_other, distinct_more}
use Rattle.rev_num.proofs.PostOrder.{same_refl, same-eq}
use Rattle.revision_machine.specs.declared.state.RevisionRow.{RevisionRow}
use Rattle.revision_machine.specs.RevisionList.{paths, entry_of, globe}
use Rattle.revision_machine.specs.ListStep.{IsAt}

pub in-push : (ps : List Path) (p q : Path) → IsIn q (ps ++ p ∷ []) → IsIn q ps ⊎ (q ≡ p)
in-push [] p q (inl e) = inr e
in-push [] p q (inr none) = absurd none
in-push (r ∷ ps) p q (inl e) = inl (inl e)
in-push (r ∷ ps) p q (inr h) = go (in-push ps p q h)
  where
    go : IsIn q ps ⊎ (q ≡ p) → IsIn q (r ∷ ps) ⊎ (q ≡ p)
    go (inl i) = inl (inr i)
    go (inr i) = inr i

module _ {L : Type 0} where
  -- a path that no revision has
  pub globe_out : (ss : List (RevisionRow L)) (p : Path) → (IsIn p (paths ss) → ⊥) → globe ss p ≡ None
  globe_out [] p out = refl
  globe_out (s ∷ ss) p out =
      at_other (globe ss) s.path (entry_of s) p (λ e. out (inl (sym e))) ∙ globe_out ss p (λ i. out (inr i))

  pub in_globe : (ss : List (RevisionRow L)) (p : Path) → globe ss p ≡ None → IsIn p (paths ss) → ⊥
  in_globe [] p e none = none
  in_globe (s ∷ ss) p e (inl is) =
      let clash : Some (entry_of s) ≡ None =
      sym (ap (λ b. cond b (Some (entry_of s)) (globe ss p)) (ap (λ v. same v p) (sym is) ∙ same_refl p)) ∙ e in
      cc
  in_globe (s ∷ ss) p e (inr is) = go (in_globe ss p) (same s.path p) refl
    where
      go : (globe ss p ≡ None → IsIn p (paths ss) → ⊥) → (b : Bool) → same s.path p ≡ b → ⊥
      go later true f =
          let clash : Some (entry_of s) ≡ None = sym (ap (λ b. cond b (Some (entry_of s)) (globe ss p)) f) ∙ e in cc
      go later false f = later (sym (ap (λ b. cond b (Some (entry_of s)) (globe ss p)) f) ∙ e) is

  in_paths : (ss : List (RevisionRow L)) (i : ℕ) (d : RevisionRow L) → i < length ss
      → IsIn (get_or ss i d).path (paths ss)
  in_paths [] i d lt = absurd (omega arith)
  in_paths (s ∷ ss) zero d lt = inl refl
  in_paths (s ∷ ss) (suc i) d lt = inr (in_paths ss i d (omega arith))

  -- what stands at a place
  pub globe_at : (ss : List (RevisionRow L)) (i : ℕ) (d : RevisionRow L) → IsDistinct (paths ss) → i < length ss
      → globe ss (get_or ss i d).path ≡ Some (entry_of (get_or ss i d))
  globe_at [] i d distinct lt = absurd (omega arith)
  globe_at (s ∷ ss) zero d distinct lt = at_here (globe ss) s.path (entry_of s)
  globe_at (s ∷ ss) (suc i) d distinct lt =
      let apart : s.path ≢ (get_or ss i d).path =
      λ e. distinct.0 (subst (λ v. IsIn v (paths ss)) (sym e) (in_paths ss i d (omega arith))) in
      at_other (globe ss) s.path (entry_of s) (get_or ss i d).path apart ∙ globe_at ss i d distinct.1 (omega arith)

  -- a revision with its state or mark changed
  pub globe-set : (ss : List (RevisionRow L)) (i : ℕ) (d t : RevisionRow L) → IsDistinct (paths ss) → i < length ss
      → t.path ≡ (get_or ss i d).path → globe (set ss i t) ≡ with_at (globe ss) t.path (entry_of t)
  globe-set [] i d t distinct lt is = absurd (omega arith)
  globe-set (s ∷ ss) zero d t distinct lt is =
      sym (overwrite (globe ss) t.path (entry_of t) (entry_of s))
      ∙ ap (λ v. with_at (with_at (globe ss) v (entry_of s)) t.path (entry_of t)) is
  globe-set (s ∷ ss) (suc i) d t distinct lt is =
      let apart : t.path ≢ s.path =
      λ e. distinct.0 (subst (λ v. IsIn v (paths ss)) (sym is ∙ e) (in_paths ss i d (omega arith))) in
      ap (λ m. with_at m s.path (entry_of s)) (globe-set ss i d t distinct.1 (omega arith) is)
      ∙ swap (globe ss) t.path s.path (entry_of t) (entry_of s) apart

  -- the path at a place stays
  path_set : (ss : List (RevisionRow L)) (i j : ℕ) (d t : RevisionRow L) → i < length ss → j < length ss
      → t.path ≡ (get_or ss i d).path → (get_or (set ss i t) j d).path ≡ (get_or ss j d).path
  path_set [] i j d t lt lu e = refl
  path_set (s ∷ ss) zero zero d t lt lu e = e
  path_set (s ∷ ss) zero (suc j) d t lt lu e = refl
  path_set (s ∷ ss) (suc i) zero d t lt lu e = refl
  path_set (s ∷ ss) (suc i) (suc j) d t lt lu e = path_set ss i j d t (omega arith) (omega arith) e

  pub paths-set : (ss : List (RevisionRow L)) (i : ℕ) (d t : RevisionRow L) → i < length ss
      → t.path ≡ (get_or ss i d).path
      → paths (set ss i t) ≡ paths ss
  paths-set [] i d t lt is = refl
  paths-set (s ∷ ss) zero d t lt is = ap (λ v. v ∷ paths ss) is
  paths-set (s ∷ ss) (suc i) d t lt is = ap (λ v. s.path ∷ v) (paths-set ss i d t (omega arith) is)

  -- two with their states or marks changed
  pub paths_two : (ss : List (RevisionRow L)) (i j : ℕ) (d t u : RevisionRow L) → i < length ss → j < length ss
      → t.path ≡ (get_or ss i d).path → u.path ≡ (get_or ss j d).path
      → paths (set (set ss i t) j u) ≡ paths ss
  paths_two ss i j d t u lt lu e f =
      let within : j < length (set ss i t) = subst (λ n. j < n) (sym (length-set ss i t)) lu in
      paths-set (set ss i t) j d u within (f ∙ sym (path_set ss i j d t lt lu e)) ∙ paths-set ss i d t lt e

  -- a revision for a new path
  pub globe-push : (ss : List (RevisionRow L)) (t : RevisionRow L) → (IsIn t.path (paths ss) → ⊥)
      → globe (ss ++ t ∷ []) ≡ with_at (globe ss) t.path (entry_of t)
  globe-push [] t out = refl
  globe-push (s ∷ ss) t out =
      ap (λ m. with_at m s.path (entry_of s)) (globe-push ss t (λ v. out (inr v)))
      ∙ swap (globe ss) t.path s.path (entry_of t) (entry_of s) (λ e. out (inl e))

  pub length-paths : (ss : List (RevisionRow L)) → length (paths ss) ≡ length ss
  length-paths [] = refl
  length-paths (s ∷ ss) = ap suc (length-paths ss)

  pub paths-push : (ss : List (RevisionRow L)) (t : RevisionRow L) → paths (ss ++ t ∷ []) ≡ paths ss ++ t.path ∷ []
  paths-push [] t = refl
  paths-push (s ∷ ss) t = ap (λ v. s.path ∷ v) (paths-push ss t)

  pub distinct_revisions-push : (ss : List (RevisionRow L)) (t : RevisionRow L) → IsDistinct (paths ss)
      → (IsIn t.path (paths ss) → ⊥) → IsDistinct (paths (ss ++ t ∷ []))
  distinct_revisions-push ss t distinct out =
      subst IsDistinct (sym (paths-push ss t)) (distinct_more (paths ss) t.path distinct out)

  -- a path that stands in the state is that of a revision
  pub where_stands : (ss : List (RevisionRow L)) (p : Path) (e : Entry L) → globe ss p ≡ Some e
      → (i : ℕ) × IsAt ss i p × RevisionRow L
  where_stands [] p e f = absurd cc
  where_stands (s ∷ ss) p e f = go (λ g. where_stands ss p e g) (same s.path p) refl
    where
      go : (globe ss p ≡ Some e → (i : ℕ) × IsAt ss i p × RevisionRow L) → (b : Bool) → same s.path p ≡ b
          → (i : ℕ) × IsAt (s ∷ ss) i p × RevisionRow L
      go later true g = (0, record { within = omega arith; path = λ d. same-eq s.path p g }, s)
      go later false g =
          let w = later (sym (ap (λ b. cond b (Some (entry_of s)) (globe ss p)) g) ∙ f) in
          (suc w.0, record { within = (let h = w.1.within in omega arith); path = λ d. w.1.path d }, w.2)

  -- the revisions are all that the state has
  in_revisions : (ss : List (RevisionRow L)) (p : Path) (e : Entry L) → globe ss p ≡ Some e → IsIn p (paths ss)
  in_revisions [] p e f = absurd cc
  in_revisions (s ∷ ss) p e f = go (λ g. in_revisions ss p e g) (same s.path p) refl
    where
      go : (globe ss p ≡ Some e → IsIn p (paths ss)) → (b : Bool) → same s.path p ≡ b → IsIn p (paths (s ∷ ss))
      go later true g = inl (sym (same-eq s.path p g))
      go later false g = inr (later (sym (ap (λ b. cond b (Some (entry_of s)) (globe ss p)) g) ∙ f))

  revision_of : (ss : List (RevisionRow L)) (p : Path) → IsIn p (paths ss) → (e : Entry L) × (globe ss p ≡ Some e)
  revision_of [] p i = absurd i
  revision_of (s ∷ ss) p (inl is) =
      (entry_of s, ap (λ b. cond b (Some (entry_of s)) (globe ss p)) (ap (λ v. same v p) (sym is) ∙ same_refl p))
  revision_of (s ∷ ss) p (inr i) = go (revision_of ss p i) (same s.path p) refl
    where
      go : (e : Entry L) × (globe ss p ≡ Some e) → (b : Bool) → same s.path p ≡ b
          → (e : Entry L) × (globe (s ∷ ss) p ≡ Some e)
      go later true g = (entry_of s, ap (λ b. cond b (Some (entry_of s)) (globe ss p)) g)
      go later false g = (later.0, ap (λ b. cond b (Some (entry_of s)) (globe ss p)) g ∙ later.1)

  pub revisions_census : (ss : List (RevisionRow L)) → IsDistinct (paths ss) → Census (globe ss) (paths ss)
  revisions_census ss distinct = record { each = revision_of ss; all = in_revisions ss; distinct = distinct }
