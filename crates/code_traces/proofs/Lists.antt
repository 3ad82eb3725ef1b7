-- Lists of parts in post-order: those that have the same parts are equal, and the parts of revisions with different
-- paths can be put into post-order.
use Rattle.std.proofs.Common.{◌≡◌, ◌⊎◌, inl, inr, ℕ, zero, suc, Bool, true, false, cond, List, [], ◌∷◌, Some, refl, sym, ap, ◌∙◌, subst}
use Rattle.rev_num.specs.Path.{Path, before}
use Rattle.rev_num.proofs.PostOrder.{before_trans, before_irrefl}
use Rattle.typed_programs.specs.Least.{Among}
use Rattle.revision_machine.specs.Laws.{IsIn, IsDistinct}
use Rattle.revision_machine.specs.Numbered.{at_number, paths_of}
use Rattle.revision_machine.proofs.Paths.{some_inj}
use Rattle.revision_machine.proofs.Numbers.{none_some}
use Rattle.trace_diagram.specs.declared.diagram.Part.{Part}
use Rattle.audit_rules.specs.Traces.{InPostOrder}
use Rattle.audit_rules.proofs.FinalTraces.{put, put_among, put_order}

-- ---- equal lists

abbrev pub Within : List Part → List Part → Type 0
Within ps qs = (x : Part) → Among ps x → Among qs x

-- two lists in post-order begin alike
heads : (p q : Part) (ps qs : List Part) → InPostOrder (p ∷ ps) → InPostOrder (q ∷ qs) → Among (q ∷ qs) p
    → Among (p ∷ ps) q → p ≡ q
heads p q ps qs a b (inl e) j = sym e
heads p q ps qs a b (inr i) (inl e) = e
heads p q ps qs a b (inr i) (inr j) =
    absurd (before_irrefl p.path (before_trans p.path q.path p.path (a.0 q j) (b.0 p i)))

-- and go on alike
tails : (p q : Part) (ps qs : List Part) → InPostOrder (p ∷ ps) → p ≡ q → Within (p ∷ ps) (q ∷ qs) → Within ps qs
tails p q ps qs a same f x i = by (f x (inr i))
  where
    by : Among (q ∷ qs) x → Among qs x
    by (inl e) = absurd (before_irrefl p.path (subst (λ v. before p.path v.path ≡ true) (sym (same ∙ e)) (a.0 x i)))
    by (inr j) = j

pub same_list : (ps qs : List Part) → InPostOrder ps → InPostOrder qs → Within ps qs → Within qs ps → ps ≡ qs
same_list [] [] a b f g = refl
same_list [] (q ∷ qs) a b f g = absurd (g q (inl refl))
same_list (p ∷ ps) [] a b f g = absurd (f p (inl refl))
same_list (p ∷ ps) (q ∷ qs) a b f g =
    let first : p ≡ q = heads p q ps qs a b (f p (inl refl)) (g q (inl refl)) in
    let rest = same_list ps qs a.1 b.1 (tails p q ps qs a first f) (tails q p qs ps b (sym first) g) in
    λ i. first i ∷ rest i

-- ---- parts in post-order

put_in : (p : Part) (ps : List Part) → Among (put p ps) p
put_in p [] = inl refl
put_in p (q ∷ ps) = go (before q.path p.path) (put_in p ps)
  where
    go : (b : Bool) → Among (put p ps) p → Among (cond b (q ∷ put p ps) (p ∷ q ∷ ps)) p
    go true later = inr later
    go false later = inl refl

put_keeps : (p : Part) (ps : List Part) → Within ps (put p ps)
put_keeps p [] x i = absurd i
put_keeps p (q ∷ ps) x i = go (before q.path p.path) i (put_keeps p ps x)
  where
    go : (b : Bool) → Among (q ∷ ps) x → (Among ps x → Among (put p ps) x)
        → Among (cond b (q ∷ put p ps) (p ∷ q ∷ ps)) x
    go true (inl e) later = inl e
    go true (inr j) later = inr (later j)
    go false j later = inr j

-- ---- the parts of numbered revisions

module _ {A : Type 0} (part : Path → A → Part) (has_path : (r : Path) (a : A) → (part r a).path ≡ r) where
  abbrev pub sorted : List (Path × A) → List Part
  sorted [] = []
  sorted (x ∷ w) = put (part x.0 x.1) (sorted w)

  -- p is the part of one of these
  pub record Stands (w : List (Path × A)) (p : Part) : Type 0 where
    pub number : ℕ
    pub path : Path
    pub entry : A
    pub at : at_number w number ≡ Some (path, entry)
    pub is : p ≡ part path entry

  pub sorted_only : (w : List (Path × A)) (p : Part) → Among (sorted w) p → Stands w p
  sorted_only [] p i = absurd i
  sorted_only (x ∷ w) p i = go (put_among (part x.0 x.1) (sorted w) p i) (sorted_only w p)
    where
      go : (part x.0 x.1 ≡ p) ⊎ Among (sorted w) p → (Among (sorted w) p → Stands w p) → Stands (x ∷ w) p
      go (inl e) later = record { number = 0; path = x.0; entry = x.1; at = refl; is = sym e }
      go (inr j) later =
          let h = later j in record { number = suc h.number; path = h.path; entry = h.entry; at = h.at; is = h.is }

  pub sorted_all : (w : List (Path × A)) (n : ℕ) (r : Path) (a : A) → at_number w n ≡ Some (r, a)
      → Among (sorted w) (part r a)
  sorted_all [] n r a e = none_some e
  sorted_all (x ∷ w) zero r a e =
      let same = some_inj e in
      subst (λ v. Among (sorted (x ∷ w)) (part v.0 v.1)) same (put_in (part x.0 x.1) (sorted w))
  sorted_all (x ∷ w) (suc n) r a e = put_keeps (part x.0 x.1) (sorted w) (part r a) (sorted_all w n r a e)

  -- the paths of the parts are those of the revisions
  sorted_paths : (w : List (Path × A)) (p : Part) → Among (sorted w) p → IsIn p.path (paths_of w)
  sorted_paths [] p i = absurd i
  sorted_paths (x ∷ w) p i = go (put_among (part x.0 x.1) (sorted w) p i) (sorted_paths w p)
    where
      go : (part x.0 x.1 ≡ p) ⊎ Among (sorted w) p → (Among (sorted w) p → IsIn p.path (paths_of w))
          → IsIn p.path (paths_of (x ∷ w))
      go (inl e) later = inl (ap (λ v. v.path) (sym e) ∙ has_path x.0 x.1)
      go (inr j) later = inr (later j)

  pub sorted_order : (w : List (Path × A)) → IsDistinct (paths_of w) → InPostOrder (sorted w)
  sorted_order [] d = tt
  sorted_order (x ∷ w) d =
      put_order (part x.0 x.1) (sorted w)
      (λ p i same. d.0 (subst (λ v. IsIn v (paths_of w)) (same ∙ has_path x.0 x.1) (sorted_paths w p i)))
      (sorted_order w d.1)
