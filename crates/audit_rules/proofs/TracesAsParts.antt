-- Traces as lists of parts.
use Rattle.std.proofs.Common.{◌≡◌, ◌≢◌, ◌⊎◌, inl, inr, ℕ, ◌+◌, Bool, true, false, cond, List, [], ◌∷◌, Option, Some, None, refl, sym, ap, ◌∙◌, subst}
use Rattle.std.proofs.lemmas.Bool.{true≢false}
use Rattle.rev_num.specs.Path.{Path, same, before}
use Rattle.typed_programs.specs.Least.{Among}
use Rattle.revision_machine.specs.PathMap.{PathMap}
use Rattle.revision_machine.specs.Machine.{Entry, Global, Twice, Live}
use Rattle.revision_machine.specs.Laws.{local_of, IsIn}
use Rattle.revision_machine.proofs.Paths.{apart-same, decide_same}
use Rattle.rev_num.proofs.PostOrder.{same_refl, same-eq}
use Rattle.rev_num.proofs.PostOrder.{before_trans, before_irrefl}
use Rattle.revision_calculus.specs.Program.{Setting}
use Rattle.revision_calculus.specs.State.{Local}
use Rattle.revision_calculus.specs.Calculus.{main, calculus}
use Rattle.revision_calculus.specs.Kinded.{IsAccepted}
use Rattle.revision_calculus.specs.HandlesHeld.{weight}
use Rattle.revision_calculus.proofs.Meets.{counts, spends_weight}
use Rattle.audit_rules.specs.Audited.{Computed, IsComputed, Shows, IsTraceOf}
use Rattle.trace_diagram.specs.declared.diagram.Part.{Part}
use Rattle.trace_diagram.specs.Shown.{shown_part}
use Rattle.audit_rules.specs.Parts.{part_of, calculus_parts}
use Rattle.audit_rules.specs.Traces.{part_at, paths_of, Always, EachIsComputed, HasVerdict, InPostOrder, IsPartOf, IsTold, IsTrace, SameStated, SameTrace, TraceHasYes, VerdictIsOne, YesTells}
use Rattle.audit_rules.proofs.OneOwnRun.{none_some}
use Rattle.audit_rules.proofs.CalculusMeets.{IsFit, tells, yes_is_true, trace_is_yes, one_computed, one_verdict}
use Rattle.audit_rules.proofs.PartsExist.{computed}
use Rattle.audit_rules.proofs.Decided.{verdict}
use Rattle.audit_rules.proofs.SameParts.{same_part}

abbrev pub AllAlike : List Part → List Part → Type 0
AllAlike ps qs = (r : Path) → SameStated (part_at ps r) (part_at qs r)

at_head : (p : Part) (ps : List Part) → part_at (p ∷ ps) p.path ≡ Some p
at_head p ps = ap (λ b. cond b (Some p) (part_at ps p.path)) (same_refl p.path)

at_tail : (p : Part) (ps : List Part) (r : Path) → p.path ≢ r → part_at (p ∷ ps) r ≡ part_at ps r
at_tail p ps r apart = ap (λ b. cond b (Some p) (part_at ps r)) (apart-same p.path r apart)

-- what is found has the path, and is one of them
pub found : (ps : List Part) (r : Path) (p : Part) → part_at ps r ≡ Some p → Among ps p × (p.path ≡ r)
found [] r p e = none_some e
found (q ∷ ps) r p e = go (same q.path r) refl (λ f. found ps r p f) e
  where
    go : (b : Bool) → same q.path r ≡ b → (part_at ps r ≡ Some p → Among ps p × (p.path ≡ r))
        → cond b (Some q) (part_at ps r) ≡ Some p → Among (q ∷ ps) p × (p.path ≡ r)
    go true f later e = let is : q ≡ p = cc in (inl is, subst (λ v. v.path ≡ r) is (same-eq q.path r f))
    go false f later e = let h = later e in (inr h.0, h.1)

-- behind the first there is no part of its path
none_behind : (p : Part) (ps : List Part) → InPostOrder (p ∷ ps) → part_at ps p.path ≡ None
none_behind p ps order = go (part_at ps p.path) refl
  where
    go : (o : Option Part) → part_at ps p.path ≡ o → o ≡ None
    go None e = refl
    go (Some q) e =
        let h = found ps p.path q e in
        absurd (before_irrefl p.path (subst (λ v. before p.path v ≡ true) h.1 (order.0 q h.0)))

-- a part that the other list has behind its first comes after that first
behind : (p q : Part) (ps qs : List Part) → AllAlike (p ∷ ps) (q ∷ qs) → InPostOrder (q ∷ qs) → p.path ≢ q.path
    → before q.path p.path ≡ true
behind p q ps qs alike order apart = go (part_at qs p.path) refl
  where
    there : part_at (q ∷ qs) p.path ≡ part_at qs p.path
    there = at_tail q qs p.path (λ e. apart (sym e))

    both : SameStated (Some p) (part_at qs p.path)
    both = subst (λ v. SameStated v (part_at qs p.path)) (at_head p ps)
        (subst (SameStated (part_at (p ∷ ps) p.path)) there (alike p.path))

    go : (o : Option Part) → part_at qs p.path ≡ o → before q.path p.path ≡ true
    go None e = absurd (subst (SameStated (Some p)) e both)
    go (Some x) e = let h = found qs p.path x e in subst (λ v. before q.path v ≡ true) h.1 (order.0 x h.0)

alike_sym : (o u : Option Part) → SameStated o u → SameStated u o
alike_sym None None h = tt
alike_sym None (Some q) h = absurd h
alike_sym (Some p) None h = absurd h
alike_sym (Some p) (Some q) h = sym h

same_list : (ps qs : List Part) → InPostOrder ps → InPostOrder qs → AllAlike ps qs → SameTrace ps qs
same_list [] [] a b h = refl
same_list [] (q ∷ qs) a b h = absurd (subst (SameStated None) (at_head q qs) (h q.path))
same_list (p ∷ ps) [] a b h = absurd (subst (λ v. SameStated v None) (at_head p ps) (h p.path))
same_list (p ∷ ps) (q ∷ qs) a b h = go (λ k. same_list ps qs a.1 b.1 k) (decide_same p.path q.path)
  where
    go : (AllAlike ps qs → SameTrace ps qs) → (p.path ≡ q.path) ⊎ (p.path ≢ q.path) → SameTrace (p ∷ ps) (q ∷ qs)
    go later (inr apart) =
        let one = behind p q ps qs h b apart in
        let two =
        behind q p qs ps (λ r. alike_sym (part_at (p ∷ ps) r) (part_at (q ∷ qs) r) (h r)) a (λ e. apart (sym e)) in
        absurd (before_irrefl p.path (before_trans p.path q.path p.path two one))
    go later (inl e) =
        let here : part_at (q ∷ qs) p.path ≡ Some q = ap (part_at (q ∷ qs)) e ∙ at_head q qs in
        let first : shown_part p ≡ shown_part q =
        subst (λ v. SameStated v (Some q)) (at_head p ps)
        (subst (SameStated (part_at (p ∷ ps) p.path)) here (h p.path)) in
        let rest : SameTrace ps qs = later (λ r. tails r (decide_same p.path r)) in
        λ i. first i ∷ rest i
      where
        tails : (r : Path) → (p.path ≡ r) ⊎ (p.path ≢ r) → SameStated (part_at ps r) (part_at qs r)
        tails r (inl pr) =
            let none_p : part_at ps r ≡ None = ap (part_at ps) (sym pr) ∙ none_behind p ps a in
            let none_q : part_at qs r ≡ None = ap (part_at qs) (sym pr ∙ e) ∙ none_behind q qs b in
            subst (λ v. SameStated v (part_at qs r)) (sym none_p) (subst (SameStated None) (sym none_q) tt)
        tails r (inr apart) =
            subst (λ v. SameStated v (part_at qs r)) (at_tail p ps r apart)
            (subst (SameStated (part_at (p ∷ ps) r)) (at_tail q qs r (λ f. apart (e ∙ f))) (h r))

-- lists with one text have alike parts
pub lists_alike : (ps qs : List Part) → SameTrace ps qs → AllAlike ps qs
lists_alike [] [] e r = tt
lists_alike [] (q ∷ qs) e r = absurd cc
lists_alike (p ∷ ps) [] e r = absurd cc
lists_alike (p ∷ ps) (q ∷ qs) e r =
    go (same p.path r) (same q.path r) (ap (λ v. same v r) paths) (lists_alike ps qs rest r)
  where
    first : shown_part p ≡ shown_part q
    first = cc

    rest : SameTrace ps qs
    rest = cc

    paths : p.path ≡ q.path
    paths = ap (λ v. v.path) first

    go : (b c : Bool) → b ≡ c → SameStated (part_at ps r) (part_at qs r)
        → SameStated (cond b (Some p) (part_at ps r)) (cond c (Some q) (part_at qs r))
    go true true f later = first
    go true false f later = absurd (true≢false f)
    go false true f later = absurd (true≢false (sym f))
    go false false f later = later

module _ (s : Setting) (fuel : ℕ) where
  shows_alike : (r : Path) (o u : Option Part) (e : Option (Entry Local))
      → Shows (calculus s) (calculus_parts s fuel) (main s fuel) (λ p. None) r o e → IsPartOf s r u e → SameStated o u
  shows_alike r None None None a b = tt
  shows_alike r None (Some q) None a b = absurd b
  shows_alike r None u (Some e) a b = absurd a
  shows_alike r (Some p) u None a b = absurd a
  shows_alike r (Some p) None (Some e) a b = absurd b
  shows_alike r (Some p) (Some q) (Some e) a b = a ∙ sym (ap shown_part b)

  alike_shows : (r : Path) (o u : Option Part) (e : Option (Entry Local)) → SameStated o u → IsPartOf s r u e
      → Shows (calculus s) (calculus_parts s fuel) (main s fuel) (λ p. None) r o e
  alike_shows r None None None a b = tt
  alike_shows r None None (Some e) a b = absurd b
  alike_shows r None (Some q) e a b = absurd a
  alike_shows r (Some p) None e a b = absurd a
  alike_shows r (Some p) (Some q) None a b = absurd b
  alike_shows r (Some p) (Some q) (Some e) a b = a ∙ ap shown_part b

pub covers : (ps : List Part) (q : Path) (p : Part) → part_at ps q ≡ Some p → IsIn q (paths_of ps)
covers [] q p e = none_some e
covers (x ∷ ps) q p e = go (same x.path q) refl (λ f. covers ps q p f) e
  where
    go : (b : Bool) → same x.path q ≡ b → (part_at ps q ≡ Some p → IsIn q (paths_of ps))
        → cond b (Some x) (part_at ps q) ≡ Some p → IsIn q (paths_of (x ∷ ps))
    go true f later e = inl (sym (same-eq x.path q f))
    go false f later e = inr (later e)

total : (s : Setting) (fuel : ℕ) → IsAccepted s.program → (stated : List Part) (r : Path)
    → (c : Computed Part) × IsComputed (calculus s) (calculus_parts s fuel) (main s fuel) (part_at stated) r c
total s fuel well stated r =
    computed (calculus s) (calculus_parts s fuel) (IsFit s) (λ l. l.fuel + l.forks) fuel (counts s) (tells s fuel well)
    weight (spends_weight s) (main s fuel) (part_at stated) (paths_of stated) (covers stated) r

-- ---- the true parts of the revisions of a list

module _ (s : Setting) (revs : PathMap (Entry Local)) where
  true_in : Part → Option (Entry Local) → Part
  true_in p None = p
  true_in p (Some e) = part_of s p.path (local_of e)

  true_part : Part → Part
  true_part p = true_in p (revs p.path)

  true_parts : List Part → List Part
  true_parts [] = []
  true_parts (p ∷ ps) = true_part p ∷ true_parts ps

  true_path : (p : Part) → (true_part p).path ≡ p.path
  unfolding true_part true_in
  true_path p = go (revs p.path)
    where
      go : (o : Option (Entry Local)) → (true_in p o).path ≡ p.path
      go None = refl
      go (Some e) = refl

  abbrev true_if : Option Part → Option Part
  true_if None = None
  true_if (Some p) = Some (true_part p)

  true_at : (ps : List Part) (r : Path) → part_at (true_parts ps) r ≡ true_if (part_at ps r)
  unfolding true_parts
  true_at [] r = refl
  true_at (p ∷ ps) r =
      ap (λ v. cond (same v r) (Some (true_part p)) (part_at (true_parts ps) r)) (true_path p)
      ∙ go (same p.path r) (true_at ps r)
    where
      go : (b : Bool) → part_at (true_parts ps) r ≡ true_if (part_at ps r)
          → cond b (Some (true_part p)) (part_at (true_parts ps) r) ≡ true_if (cond b (Some p) (part_at ps r))
      go true later = refl
      go false later = later

  true_among : (ps : List Part) (x : Part) → Among (true_parts ps) x → (p : Part) × Among ps p × (true_part p ≡ x)
  unfolding true_parts
  true_among [] x i = absurd i
  true_among (p ∷ ps) x (inl e) = (p, inl refl, e)
  true_among (p ∷ ps) x (inr i) = let h = true_among ps x i in (h.0, inr h.1, h.2)

  true_order : (ps : List Part) → InPostOrder ps → InPostOrder (true_parts ps)
  unfolding true_parts
  true_order [] order = tt
  true_order (p ∷ ps) order = (behind_it, true_order ps order.1)
    where
      behind_it : (x : Part) → Among (true_parts ps) x → before (true_part p).path x.path ≡ true
      behind_it x i =
          let h = true_among ps x i in
          let xs : x.path ≡ h.0.path = ap (λ v. v.path) (sym h.2) ∙ true_path h.0 in
          ap (λ v. before v x.path) (true_path p) ∙ ap (before p.path) xs ∙ order.0 h.0 h.1

  true_here : (p : Part) {r : Path} → p.path ≡ r → (e : Entry Local) → revs r ≡ Some e
      → true_part p ≡ part_of s r (local_of e)
  unfolding true_part true_in
  true_here p path e here = ap (true_in p) (ap revs path ∙ here) ∙ ap (λ v. part_of s v (local_of e)) path

  module _ (fuel : ℕ) (ps : List Part)
      (shows : (r : Path)
      → Shows (calculus s) (calculus_parts s fuel) (main s fuel) (part_at ps) r (part_at ps r) (revs r)) where
    true_is : (r : Path) → IsPartOf s r (part_at (true_parts ps) r) (revs r)
    true_is r = subst (λ v. IsPartOf s r v (revs r)) (sym (true_at ps r))
        (go (part_at ps r) refl (revs r) refl (shows r))
      where
        go : (o : Option Part) → part_at ps r ≡ o → (e : Option (Entry Local)) → revs r ≡ e
            → Shows (calculus s) (calculus_parts s fuel) (main s fuel) (part_at ps) r o e → IsPartOf s r (true_if o) e
        go None so None here h = tt
        go None so (Some e) here h = absurd h
        go (Some p) so None here h = absurd h
        go (Some p) so (Some e) here h =
            let path = (found ps r p so).1 in
            true_here p path e here

    true_trace : InPostOrder ps → IsTrace s (Live revs) (true_parts ps)
    true_trace order = (true_order ps order, true_is)

not_twice : (s : Setting) (fuel : ℕ) (g : Global Local) (stated : List Part)
    → IsTraceOf (calculus s) (calculus_parts s fuel) (main s fuel) (part_at stated) g → g ≡ Twice → ⊥
not_twice s fuel Twice stated is e = is
not_twice s fuel (Live revs) stated is e = absurd cc

told : (s : Setting) (fuel : ℕ) (g : Global Local) (stated : List Part) → InPostOrder stated
    → IsTraceOf (calculus s) (calculus_parts s fuel) (main s fuel) (part_at stated) g → IsTold s stated g
told s fuel Twice stated order is = absurd is
told s fuel (Live revs) stated order is =
    let traced = true_trace s revs fuel stated is order in
    record {
      not_twice = not_twice s fuel (Live revs) stated is;
      trace = true_parts s revs stated;
      is_trace = traced;
      same = by (true_parts s revs stated) traced;
      only = by;
    }
  where
    by : (ps : List Part) → IsTrace s (Live revs) ps → SameTrace stated ps
    by ps traced =
        same_list stated ps order traced.0
        (λ r. shows_alike s fuel r (part_at stated r) (part_at ps r) (revs r) (is r) (traced.1 r))

shown : (s : Setting) (fuel : ℕ) (g : Global Local) (ps stated : List Part) → IsTrace s g ps → SameTrace stated ps
    → IsTraceOf (calculus s) (calculus_parts s fuel) (main s fuel) (part_at stated) g
shown s fuel Twice ps stated traced same = absurd traced
shown s fuel (Live revs) ps stated traced same =
    λ r. alike_shows s fuel r (part_at stated r) (part_at ps r) (revs r) (lists_alike stated ps same r) (traced.1 r)

pub yes_tells : Always YesTells
yes_tells s fuel well stated order says rs g complete =
    told s fuel g stated order (yes_is_true s fuel well (part_at stated) says rs g complete)

pub trace_has_yes : Always TraceHasYes
trace_has_yes s fuel well rs g ps stated complete traced same =
    trace_is_yes s fuel well (part_at stated) rs g complete (shown s fuel g ps stated traced same)

pub each_is_computed : Always EachIsComputed
each_is_computed s fuel well stated r =
    let h = total s fuel well stated r in
    record { part = h.0; is = h.1; only = λ c is. one_computed s fuel well (part_at stated) r c h.0 is h.1 }

pub verdict_is_one : Always VerdictIsOne
verdict_is_one s fuel well stated = one_verdict s fuel well (part_at stated)

pub has_verdict : Always HasVerdict
has_verdict s fuel well stated =
    verdict (calculus s) (calculus_parts s fuel) (IsFit s) (λ l. l.fuel + l.forks) fuel (counts s) (tells s fuel well)
    weight (spends_weight s) (main s fuel) (part_at stated) (paths_of stated) (covers stated) same_part
