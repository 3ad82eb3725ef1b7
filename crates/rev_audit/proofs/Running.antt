-- A revision's own run, one step more.
use Rattle.std.proofs.Common.{◌≡◌, inl, ℕ, ◌+◌, ◌<◌, ◌≤◌, ◌^◌, List, [], ◌∷◌, ◌++◌, Option, Some, None, refl, sym, ◌∙◌, subst, arith}
use Rattle.rev_num.specs.Path.{Path, child}
use Rattle.rev_num.specs.Limits.{most_fuel}
use Rattle.revision_machine.specs.Machine.{Moves, Forks, Joins, Ended}
use Rattle.revision_calculus.specs.Program.{Setting}
use Rattle.revision_calculus.specs.State.{Local}
use Rattle.revision_calculus.specs.Step.{next}
use Rattle.revision_calculus.specs.Calculus.{main, calculus}
use Rattle.revision_calculus.specs.Kinded.{IsAccepted}
use Rattle.revision_calculus.specs.HandlesHeld.{weight}
use Rattle.revision_calculus.proofs.Events.{joins_phase}
use Rattle.revision_calculus.proofs.Meets.{counts, spends_weight}
use Rattle.revision_state.specs.Phases.{awaited}
use Rattle.rev_audit.specs.declared.alone.LocalState.{LocalState}
use Rattle.stated_parts.specs.declared.ends.AloneEnd.{AloneEnd}
use Rattle.rev_audit.specs.Alone.{JoinsAwaited, JoinsEnd}
use Rattle.trace_diagram.specs.declared.diagram.Part.{Part}
use Rattle.audit_rules.specs.Audited.{Computed, made, joined_twice, missing, taken}
use Rattle.audit_rules.specs.Parts.{OwnFits, calculus_parts, joined_by, part_of, places, takes}
use Rattle.audit_rules.specs.Traces.{part_at, paths_of}
use Rattle.audit_rules.proofs.CalculusMeets.{IsFit, tells}
use Rattle.audit_rules.proofs.OneOwnRun.{begins_none, begins_one, none_some}
use Rattle.audit_rules.proofs.OwnRuns.{own_runs_fit}
use Rattle.audit_rules.proofs.PartsExist.{left, left_gone}
use Rattle.audit_rules.proofs.TracesAsParts.{covers}
use Rattle.trace_parts.specs.PartOfRevision.{part_by}
use Rattle.rev_audit.specs.Own as own
use Rattle.rev_audit.specs.Own.{BeginsAt, ComesTo, IsUnderWay, JoinedBefore, Stops, TakesEnd, taken_of}
use Rattle.rev_audit.proofs.OwnRuns.{passes}

-- at an equal path, with equal children
pub under_there : (s : Setting) (fuel : ℕ) (parts : List Part) (r p : Path) (l : Local) (ks js : List LocalState)
    → p ≡ r → js ≡ ks → IsUnderWay s fuel parts r l ks → IsUnderWay s fuel parts p l js
under_there s fuel parts r p l ks js e f h =
    subst (λ q. IsUnderWay s fuel parts q l js) (sym e) (subst (IsUnderWay s fuel parts r l) (sym f) h)

module _ (s : Setting) (fuel : ℕ) (parts : List Part) (well : IsAccepted s.program) (r : Path) where
  -- one that begins has joined nothing
  pub none_joined : (a : Local) → BeginsAt s fuel parts r a → joined_by a.noted ≡ []
  none_joined a begins =
      begins_none (calculus s) (calculus_parts s fuel) (IsFit s) (λ x. x.fuel + x.forks) fuel (counts s)
      (tells s fuel well) (part_at parts) (main s fuel) refl r a begins

  pub first_under_way : (a : Local) → BeginsAt s fuel parts r a → IsUnderWay s fuel parts r a []
  first_under_way a begins = record { first = a; begins = begins; goes = own.at_first }

  module _ (l : Local) (ks : List LocalState) (h : IsUnderWay s fuel parts r l ks) where
    pub fits_there : OwnFits s fuel r l
    fits_there = own_runs_fit s well fuel (part_at parts) r h.first l h.begins
        (passes s fuel parts r h.first l ks h.goes)

    -- its fuel and forks are few
    pub few_there : fuel ≤ most_fuel → l.fuel + l.forks < 2 ^ 32
    few_there small = let fits = fits_there in let room = fits.room in omega arith

    pub on_move : (l' : Local) → Moves l' ≡ next s r l
        → IsUnderWay s fuel parts r l' ks × (joined_by l'.noted ≡ joined_by l.noted) × (weight l' + 1 ≤ weight l)
    on_move l' e = (
      record { first = h.first; begins = h.begins; goes = own.moved l l' ks h.goes (sym e) },
      (tells s fuel well).moves r l l' (sym e),
      (spends_weight s).moves r l l' (sym e),
    )

    pub on_fork : (l' : Local) (c : LocalState) → Forks l' c.local ≡ next s r l → c.path ≡ child r l.forks
        → IsUnderWay s fuel parts r l' (ks ++ c ∷ []) × (joined_by l'.noted ≡ joined_by l.noted)
        × (weight l' + 1 ≤ weight l)
    on_fork l' c e at = (
      record { first = h.first; begins = h.begins; goes = own.forked l l' c ks h.goes (sym e) at },
      (tells s fuel well).forker r l l' c.local (sym e),
      (let k = (spends_weight s).forks r l l' c.local (sym e) in omega arith),
    )

    -- which part it takes
    taken_part : (q : Path) (l' : Local) → taken_of s fuel parts r l q ≡ Some l'
        → (p : Part) × (part_at parts q ≡ Some p) × (takes s fuel r l q p ≡ Some l')
    taken_part q l' e = go (part_at parts q) refl e
      where
        go : (o : Option Part) → part_at parts q ≡ o
            → taken (calculus s) (calculus_parts s fuel) (part_at parts) r l q o ≡ Some l'
            → (p : Part) × (part_at parts q ≡ Some p) × (takes s fuel r l q p ≡ Some l')
        go None so e = none_some e
        go (Some p) so e = (p, so, e)

    pub on_join : (l' : Local) (q : Path) (e : AloneEnd) → next s r l ≡ Joins q → (JoinedBefore s fuel parts r l q → ⊥)
        → TakesEnd s fuel parts r l q e → JoinsEnd s r l q e l'
        → IsUnderWay s fuel parts r l' ks × (joined_by l'.noted ≡ joined_by l.noted ++ q ∷ [])
        × (left (paths_of parts) (joined_by l'.noted) + 1 ≤ left (paths_of parts) (joined_by l.noted))
    on_join l' q e does once takes_end joins =
        let is : taken_of s fuel parts r l q ≡ Some l' = takes_end.is l' joins in
        let p = taken_part q l' is in
        let lists : joined_by l'.noted ≡ joined_by l.noted ++ q ∷ [] =
        (tells s fuel well).takes-lists r q l l' p.0 does p.2 in
        let gone = left_gone (paths_of parts) q (joined_by l.noted) (covers parts q p.0 p.1) (λ i. once (inl i)) in (
          record { first = h.first; begins = h.begins; goes = own.joined l l' q ks h.goes does once is },
          lists,
          subst (λ js. left (paths_of parts) js + 1 ≤ left (paths_of parts) (joined_by l.noted)) (sym lists) gone,
        )

    -- the join that it waits for
    pub awaited_joins : (l' : Local) (q : Path) (e : AloneEnd) → next s r l ≡ Joins q
        → JoinsAwaited s r l (awaited l.phase) e l' → JoinsEnd s r l q e l'
    awaited_joins l' q e does joins =
        let at = joins_phase s r l q does in
        subst (λ p. JoinsAwaited s r l (awaited p) e l') at.1 joins

    -- ---- where it stops

    comes : (a : Local) (c : Computed Part) → BeginsAt s fuel parts r a → Stops s fuel parts r l c
        → ComesTo s fuel parts r a c ks
    comes a c begins stops =
        let same : h.first ≡ a =
        begins_one (calculus s) (calculus_parts s fuel) (IsFit s) (λ x. x.fuel + x.forks) fuel (counts s)
        (tells s fuel well) (part_at parts) (main s fuel) r h.first a h.begins begins in
        let run : ComesTo s fuel parts r h.first c ks = record { last = l; goes = h.goes; stops = stops } in
        subst (λ v. ComesTo s fuel parts r v c ks) same run

    pub comes_made : (a : Local) (ls : List (List ℕ)) (at : Path) (p : Part) → BeginsAt s fuel parts r a
        → next s r l ≡ Ended → ls ≡ places s → at ≡ r → p ≡ part_by ls at l → ComesTo s fuel parts r a (made p) ks
    comes_made a ls at p begins does placed path is =
        let one : p ≡ part_of s r l = is ∙ (λ i. part_by (placed i) (path i) l) in
        subst (λ v. ComesTo s fuel parts r a (made v) ks) (sym one)
        (comes a (made (part_of s r l)) begins (own.ended does))

    pub comes_twice : (a : Local) (q : Path) → BeginsAt s fuel parts r a → next s r l ≡ Joins q
        → JoinedBefore s fuel parts r l q → ComesTo s fuel parts r a joined_twice ks
    comes_twice a q begins does before_it = comes a joined_twice begins (own.twice q does before_it)

    pub comes_missing : (a : Local) (q : Path) → BeginsAt s fuel parts r a → next s r l ≡ Joins q
        → (JoinedBefore s fuel parts r l q → ⊥) → taken_of s fuel parts r l q ≡ None
        → ComesTo s fuel parts r a missing ks
    comes_missing a q begins does once none = comes a missing begins (own.wants q does once none)
