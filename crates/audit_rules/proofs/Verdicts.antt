-- Verdicts as values.
use Rattle.std.proofs.Common.{◌≡◌, ◌⊎◌, inl, inr, true, List, [], ◌∷◌, refl, sym, ap, ◌∙◌, subst}
use Rattle.rev_num.specs.Path.{Path, before}
use Rattle.typed_programs.specs.Least.{Among}
use Rattle.rev_num.proofs.PostOrder.{before_trans}
use Rattle.trace_diagram.specs.Traces.{MainIsLast}
use Rattle.trace_diagram.specs.declared.diagram.Part.{Part}
use Rattle.trace_diagram.specs.declared.diagram.Trace.{Trace}
use Rattle.audit_rules.specs.Audited.{Computed, absent, made, joined_twice, missing}
use Rattle.audit_rules.specs.Traces.{Always, InPostOrder, SaysNo, SaysYes, part_at}
use Rattle.audit_rules.specs.Verdicts.{Audits, EachHasOne, HasOneVerdict, TraceIsYes, YesIsTrue, computed_part}
use Rattle.audit_rules.specs.declared.verdict.Computed.TheVariants as computed
use Rattle.audit_rules.specs.declared.verdict.Verdict.{Verdict}
use Rattle.audit_rules.specs.declared.verdict.Verdict.TheVariants as verdict
use Rattle.audit_rules.proofs.TracesAsParts.{has_verdict, trace_has_yes, verdict_is_one, yes_tells}

pub in_post_order : (ps : List Part) → MainIsLast ps → InPostOrder ps
in_post_order [] h = tt
in_post_order (p ∷ []) h = (λ x i. absurd i, tt)
in_post_order (p ∷ q ∷ ps) h = go (in_post_order (q ∷ ps) h.1)
  where
    go : InPostOrder (q ∷ ps) → InPostOrder (p ∷ q ∷ ps)
    go later = (behind, later)
      where
        behind : (x : Part) → Among (q ∷ ps) x → before p.path x.path ≡ true
        behind x (inl e) = subst (λ v. before p.path v.path ≡ true) e h.0
        behind x (inr i) = before_trans p.path q.path x.path h.0 (later.0 x i)

pub yes_is_true : Always YesIsTrue
yes_is_true s fuel well t form says rs g complete =
    yes_tells s fuel well t.parts (in_post_order t.parts form.order) says rs g complete

-- each computed part is that of a value
value_of : Computed Part → computed.the_data
value_of absent = computed.Absent
value_of (made p) = computed.Part p
value_of joined_twice = computed.Twice
value_of missing = computed.Missing

value_is : (c : Computed Part) → computed_part (value_of c) ≡ c
unfolding value_of
value_is absent = refl
value_is (made p) = refl
value_is joined_twice = refl
value_is missing = refl

is_value : (c : computed.the_data) → value_of (computed_part c) ≡ c
unfolding value_of
is_value computed.Absent = refl
is_value (computed.Part p) = refl
is_value computed.Twice = refl
is_value computed.Missing = refl

same_value : (c d : computed.the_data) → computed_part c ≡ computed_part d → c ≡ d
same_value c d e = sym (is_value c) ∙ ap value_of e ∙ is_value d

one : Always (λ s fuel. (t : Trace) (v w : Verdict) → Audits s fuel t v → Audits s fuel t w → v ≡ w)
one s fuel well t verdict.Yes verdict.Yes a b = refl
one s fuel well t verdict.Yes (verdict.No r p c) a b =
    absurd ((verdict_is_one s fuel well t.parts).not_both a r p (computed_part c) b)
one s fuel well t (verdict.No r p c) verdict.Yes a b =
    absurd ((verdict_is_one s fuel well t.parts).not_both b r p (computed_part c) a)
one s fuel well t (verdict.No r p c) (verdict.No q o d) a b =
    let h = (verdict_is_one s fuel well t.parts).one_no r q p o (computed_part c) (computed_part d) a b in
    let x = h.0 in
    let y = h.1 in
    let z = same_value c d h.2 in
    λ i. verdict.No (x i) (y i) (z i)

pub each_has_one : Always EachHasOne
each_has_one s fuel well t = go (has_verdict s fuel well t.parts)
  where
    go : SaysYes s fuel t.parts ⊎ ((r : Path) × (c : Computed Part) × SaysNo s fuel t.parts r (part_at t.parts r) c)
        → HasOneVerdict s fuel t
    go (inl yes_is) =
        record { verdict_is = verdict.Yes; is = yes_is; only = λ v h. one s fuel well t v verdict.Yes h yes_is }
    go (inr h) =
        let v : Verdict = verdict.No h.0 (part_at t.parts h.0) (value_of h.1) in
        let is : Audits s fuel t v = subst (SaysNo s fuel t.parts h.0 (part_at t.parts h.0)) (sym (value_is h.1)) h.2 in
        record { verdict_is = v; is = is; only = λ w k. one s fuel well t w v k is }

pub trace_is_yes : Always TraceIsYes
trace_is_yes s fuel well rs g trace t complete traced same v h =
    one s fuel well t v verdict.Yes h (trace_has_yes s fuel well rs g trace t.parts complete traced same)
