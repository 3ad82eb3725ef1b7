-- Each final state that is not Twice has its trace as a list: its revisions, put into post-order.
use Rattle.std.proofs.Common.{◌≡◌, ◌≢◌, ◌⊎◌, inl, inr, ℕ, ◌+◌, Bool, true, false, cond, List, [], ◌∷◌, Option, Some, None, refl, sym, ap, ◌∙◌, subst}
use Rattle.std.proofs.lemmas.Bool.{true≢false}
use Rattle.rev_num.specs.Path.{Path, same, before}
use Rattle.typed_programs.specs.Least.{Among}
use Rattle.revision_machine.specs.PathMap.{PathMap}
use Rattle.revision_machine.specs.Machine.{Entry, Global, Twice, Live}
use Rattle.revision_machine.specs.Laws.{local_of, Census, HasAtMost, IsIn, IsDistinct}
use Rattle.revision_machine.proofs.Census.{count_law}
use Rattle.revision_machine.proofs.Paths.{apart-same, decide_in}
use Rattle.rev_num.proofs.PostOrder.{same_refl, before_irrefl}
use Rattle.rev_num.proofs.PostOrder.{before_trans}
use Rattle.rev_num.proofs.PostOrder.{before_total}
use Rattle.revision_calculus.specs.Program.{Setting}
use Rattle.revision_calculus.specs.State.{Local}
use Rattle.revision_calculus.specs.Calculus.{main, calculus}
use Rattle.revision_calculus.proofs.Meets.{counts, pays_forks}
use Rattle.trace_diagram.specs.declared.diagram.Part.{Part}
use Rattle.audit_rules.specs.Parts.{part_of}
use Rattle.audit_rules.specs.Traces.{part_at, InPostOrder, IsPartOf, IsTrace, EndHasTrace}

-- ---- parts in post-order

-- each is found at its path
pub at_own : (ps : List Part) → InPostOrder ps → (p : Part) → Among ps p → part_at ps p.path ≡ Some p
at_own [] order p i = absurd i
at_own (q ∷ ps) order p (inl e) =
    subst (λ v. part_at (q ∷ ps) v.path ≡ Some v) e (ap (λ b. cond b (Some q) (part_at ps q.path)) (same_refl q.path))
at_own (q ∷ ps) order p (inr i) =
    let apart : q.path ≢ p.path =
    λ e. before_irrefl q.path (subst (λ v. before q.path v ≡ true) (sym e) (order.0 p i)) in
    ap (λ b. cond b (Some q) (part_at ps p.path)) (apart-same q.path p.path apart) ∙ at_own ps order.1 p i

-- a part at its place among parts in post-order
abbrev pub put : Part → List Part → List Part
put p [] = p ∷ []
put p (q ∷ ps) = cond (before q.path p.path) (q ∷ put p ps) (p ∷ q ∷ ps)

pub put_among : (p : Part) (ps : List Part) (x : Part) → Among (put p ps) x → (p ≡ x) ⊎ Among ps x
put_among p [] x (inl e) = inl e
put_among p [] x (inr i) = absurd i
put_among p (q ∷ ps) x i = go (before q.path p.path) i (put_among p ps x)
  where
    go : (b : Bool) → Among (cond b (q ∷ put p ps) (p ∷ q ∷ ps)) x → (Among (put p ps) x → (p ≡ x) ⊎ Among ps x)
        → (p ≡ x) ⊎ Among (q ∷ ps) x
    go true (inl e) later = inr (inl e)
    go true (inr j) later = by (later j)
      where
        by : (p ≡ x) ⊎ Among ps x → (p ≡ x) ⊎ Among (q ∷ ps) x
        by (inl e) = inl e
        by (inr k) = inr (inr k)
    go false (inl e) later = inl e
    go false (inr j) later = inr j

abbrev pub IsNew : Part → List Part → Type 0
IsNew p ps = (x : Part) → Among ps x → x.path ≢ p.path

pub put_order : (p : Part) (ps : List Part) → IsNew p ps → InPostOrder ps → InPostOrder (put p ps)
put_order p [] new order = (λ x i. absurd i, tt)
put_order p (q ∷ ps) new order = go (before q.path p.path) refl (put_order p ps (λ x i. new x (inr i)) order.1)
  where
    go : (b : Bool) → before q.path p.path ≡ b → InPostOrder (put p ps)
        → InPostOrder (cond b (q ∷ put p ps) (p ∷ q ∷ ps))
    go true first later = (behind, later)
      where
        behind : (x : Part) → Among (put p ps) x → before q.path x.path ≡ true
        behind x i = by (put_among p ps x i)
          where
            by : (p ≡ x) ⊎ Among ps x → before q.path x.path ≡ true
            by (inl e) = subst (λ v. before q.path v.path ≡ true) e first
            by (inr j) = order.0 x j
    go false later_one rest = (behind, order)
      where
        sooner : before p.path q.path ≡ true
        sooner = by (before_total p.path q.path (λ e. new q (inl refl) (sym e)))
          where
            by : (before p.path q.path ≡ true) ⊎ (before q.path p.path ≡ true) → before p.path q.path ≡ true
            by (inl h) = h
            by (inr h) = absurd (true≢false (sym h ∙ later_one))

        behind : (x : Part) → Among (q ∷ ps) x → before p.path x.path ≡ true
        behind x (inl e) = subst (λ v. before p.path v.path ≡ true) e sooner
        behind x (inr j) = before_trans p.path q.path x.path sooner (order.0 x j)

put_here : (p : Part) (ps : List Part) → IsNew p ps → part_at (put p ps) p.path ≡ Some p
put_here p [] new = ap (λ b. cond b (Some p) None) (same_refl p.path)
put_here p (q ∷ ps) new = go (before q.path p.path) (put_here p ps (λ x i. new x (inr i)))
  where
    go : (b : Bool) → part_at (put p ps) p.path ≡ Some p → part_at (cond b (q ∷ put p ps) (p ∷ q ∷ ps)) p.path ≡ Some p
    go true later =
        ap (λ b. cond b (Some q) (part_at (put p ps) p.path)) (apart-same q.path p.path (new q (inl refl))) ∙ later
    go false later = ap (λ b. cond b (Some p) (part_at (q ∷ ps) p.path)) (same_refl p.path)

put_other : (p : Part) (ps : List Part) (r : Path) → p.path ≢ r → part_at (put p ps) r ≡ part_at ps r
put_other p [] r apart = ap (λ b. cond b (Some p) None) (apart-same p.path r apart)
put_other p (q ∷ ps) r apart = go (before q.path p.path) (put_other p ps r apart)
  where
    go : (b : Bool) → part_at (put p ps) r ≡ part_at ps r
        → part_at (cond b (q ∷ put p ps) (p ∷ q ∷ ps)) r ≡ part_at (q ∷ ps) r
    go true later = ap (λ o. cond (same q.path r) (Some q) o) later
    go false later = ap (λ b. cond b (Some p) (part_at (q ∷ ps) r)) (apart-same p.path r apart)

-- ---- the parts of revisions

module _ (s : Setting) (revs : PathMap (Entry Local)) where
  abbrev with_part : Path → Option (Entry Local) → List Part → List Part
  with_part r None ps = ps
  with_part r (Some e) ps = put (part_of s r (local_of e)) ps

  abbrev parts : List Path → List Part
  parts [] = []
  parts (r ∷ rs) = with_part r (revs r) (parts rs)

  of_part : (r : Path) (rs : List Path) (x : Part) → Among (parts rs) x → IsIn x.path rs
  of_part r [] x i = absurd i
  of_part r (q ∷ rs) x i = go (revs q) i (of_part r rs x)
    where
      go : (o : Option (Entry Local)) → Among (with_part q o (parts rs)) x → (Among (parts rs) x → IsIn x.path rs)
          → IsIn x.path (q ∷ rs)
      go None j later = inr (later j)
      go (Some e) j later = by (put_among (part_of s q (local_of e)) (parts rs) x j)
        where
          by : (part_of s q (local_of e) ≡ x) ⊎ Among (parts rs) x → IsIn x.path (q ∷ rs)
          by (inl is) = inl (sym (ap (λ v. v.path) is))
          by (inr k) = inr (later k)

  not_there : (q : Path) (rs : List Path) → (IsIn q rs → ⊥) → (e : Entry Local)
      → IsNew (part_of s q (local_of e)) (parts rs)
  not_there q rs none e x i is = none (subst (λ v. IsIn v rs) is (of_part q rs x i))

  parts_order : (rs : List Path) → IsDistinct rs → InPostOrder (parts rs)
  parts_order [] d = tt
  parts_order (q ∷ rs) d = go (revs q) (parts_order rs d.1)
    where
      go : (o : Option (Entry Local)) → InPostOrder (parts rs) → InPostOrder (with_part q o (parts rs))
      go None order = order
      go (Some e) order = put_order (part_of s q (local_of e)) (parts rs) (not_there q rs d.0 e) order

  -- the part of a revision that is listed, and none of another
  abbrev shown : Path → Option (Entry Local) → Option Part
  shown r None = None
  shown r (Some e) = Some (part_of s r (local_of e))

  parts_out : (rs : List Path) → IsDistinct rs → (r : Path) → (IsIn r rs → ⊥) → part_at (parts rs) r ≡ None
  parts_out [] d r none = refl
  parts_out (q ∷ rs) d r none = go (revs q) (parts_out rs d.1 r (λ i. none (inr i)))
    where
      go : (o : Option (Entry Local)) → part_at (parts rs) r ≡ None → part_at (with_part q o (parts rs)) r ≡ None
      go None later = later
      go (Some e) later = put_other (part_of s q (local_of e)) (parts rs) r (λ is. none (inl (sym is))) ∙ later

  parts_in : (rs : List Path) → IsDistinct rs → (r : Path) → IsIn r rs → part_at (parts rs) r ≡ shown r (revs r)
  parts_in [] d r i = absurd i
  parts_in (q ∷ rs) d r (inl is) =
      subst (λ v. part_at (parts (q ∷ rs)) v ≡ shown v (revs v)) (sym is) (go (revs q) refl)
    where
      go : (o : Option (Entry Local)) → revs q ≡ o → part_at (with_part q o (parts rs)) q ≡ shown q o
      go None here = parts_out rs d.1 q d.0
      go (Some e) here = put_here (part_of s q (local_of e)) (parts rs) (not_there q rs d.0 e)
  parts_in (q ∷ rs) d r (inr i) = go (revs q) (parts_in rs d.1 r i)
    where
      go : (o : Option (Entry Local)) → part_at (parts rs) r ≡ shown r (revs r)
          → part_at (with_part q o (parts rs)) r ≡ shown r (revs r)
      go None later = later
      go (Some e) later =
          put_other (part_of s q (local_of e)) (parts rs) r (λ is. d.0 (subst (λ v. IsIn v rs) (sym is) i)) ∙ later

  is_part : (r : Path) (o : Option (Entry Local)) → IsPartOf s r (shown r o) o
  is_part r None = tt
  is_part r (Some e) = refl

  listed : (rs : List Path) → Census revs rs → IsTrace s (Live revs) (parts rs)
  listed rs census = (parts_order rs census.distinct, λ r. each r (decide_in r rs))
    where
      gone : (r : Path) → (IsIn r rs → ⊥) → (o : Option (Entry Local)) → revs r ≡ o → o ≡ None
      gone r none None here = refl
      gone r none (Some e) here = absurd (none (census.all r e here))

      each : (r : Path) → IsIn r rs ⊎ (IsIn r rs → ⊥) → IsPartOf s r (part_at (parts rs) r) (revs r)
      each r (inl i) = subst (λ o. IsPartOf s r o (revs r)) (sym (parts_in rs census.distinct r i)) (is_part r (revs r))
      each r (inr none) =
          subst (λ o. IsPartOf s r o (revs r)) (sym (parts_out rs census.distinct r none))
          (subst (IsPartOf s r None) (sym (gone r none (revs r) refl)) tt)

-- ---- final states

pub end_has_trace : (s : Setting) (fuel : ℕ) → EndHasTrace s fuel
end_has_trace s fuel rs g complete live =
    go g live (count_law (calculus s) (main s fuel) (λ l. l.fuel) (counts s) (pays_forks s) g
    (record { by = rs; runs = complete.runs }))
  where
    go : (g : Global Local) → (g ≡ Twice → ⊥) → HasAtMost (calculus s) (1 + fuel) g → (ps : List Part) × IsTrace s g ps
    go Twice live many = absurd (live refl)
    go (Live revs) live many = (parts s revs many.0, listed s revs many.0 many.1)
