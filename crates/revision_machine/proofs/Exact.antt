-- The conditions of the answers exclude each other, so each answer comes exactly where its condition holds.
use Rattle.std.proofs.Common.{◌≡◌, ◌≢◌, ◌⊎◌, inl, inr, List, Option, Some, None, refl, sym, ap, ◌∙◌, subst}
use Rattle.rev_num.specs.Path.{Path}
use Rattle.rev_num.proofs.Options.{none_some}
use Rattle.revision_machine.specs.Machine.{Event, Moves, Forks, Joins, Ended, Machine, Entry, Plain, Joined, Global, Twice, Live, Revisions, step, step_at, happens, join_at, join_ended}
use Rattle.revision_machine.specs.declared.state.RevisionRow.{RevisionRow}
use Rattle.revision_machine.specs.declared.one_step.StepOutcome.{StepOutcome}
use Rattle.revision_machine.specs.declared.one_step.StepOutcome.TheVariants as outcome
use Rattle.revision_machine.specs.RevisionList.{globe}
use Rattle.revision_machine.specs.States.{global_after}
use Rattle.revision_machine.specs.StepOutcomes as answers
use Rattle.revision_machine.specs.StepOutcomes.{Waits, IsEndedEntry, HasEnded, IsMissing, Tells, IsOutcome}
use Rattle.revision_machine.specs.ListStep.{Does}

module _ (M : Machine) where
  -- the answer that the state gives
  abbrev of_met : Path → Event M.Local → StepOutcome
  of_met q Ended = outcome.Moved
  of_met q (Moves _) = outcome.Waits q
  of_met q (Forks _ _) = outcome.Waits q
  of_met q (Joins _) = outcome.Waits q

  abbrev of_target : Path → Option (Entry M.Local) → StepOutcome
  of_target q None = outcome.NoSuch
  of_target q (Some (Joined l)) = outcome.Twice
  of_target q (Some (Plain l)) = of_met q (M.next q l)

  abbrev of_event : Revisions M → Event M.Local → StepOutcome
  of_event revs (Moves _) = outcome.Moved
  of_event revs (Forks _ _) = outcome.Moved
  of_event revs Ended = outcome.Ended
  of_event revs (Joins q) = of_target q (revs q)

  abbrev of_entry : Revisions M → Path → Option (Entry M.Local) → StepOutcome
  of_entry revs r None = outcome.NoSuch
  of_entry revs r (Some (Joined l)) = outcome.Ended
  of_entry revs r (Some (Plain l)) = of_event revs (M.next r l)

  abbrev answer_at : Global M.Local → Path → StepOutcome
  answer_at Twice r = outcome.Twice
  answer_at (Live revs) r = of_entry revs r (revs r)

  Stepping : Global M.Local → Path → Global M.Local → Type 0
  Stepping g r k = ((answer_at g r ≡ outcome.Twice) × (k ≡ Twice)) ⊎ ((answer_at g r ≡ outcome.Moved) × (k ≢ Twice))

  live : (revs : Revisions M) (k : Global M.Local) → Some (Live revs) ≡ Some k → k ≢ Twice
  live revs k e f = let clash : Some (Live revs) ≡ Some Twice = e ∙ ap Some f in cc

  stepping : (g : Global M.Local) (r : Path) (k : Global M.Local) → step M g r ≡ Some k → Stepping g r k
  unfolding Stepping
  stepping Twice r k s = none_some s
  stepping (Live revs) r k s = by_entry (revs r) refl s
    where
      Goal : Type 0
      Goal = ((of_entry revs r (revs r) ≡ outcome.Twice) × (k ≡ Twice))
          ⊎ ((of_entry revs r (revs r) ≡ outcome.Moved) × (k ≢ Twice))

      moved : (l : M.Local) → revs r ≡ Some (Plain l) → (v : Event M.Local) → M.next r l ≡ v
          → of_event revs v ≡ outcome.Moved → k ≢ Twice → Goal
      moved l here v does e live = inr (ap (of_entry revs r) here ∙ ap (of_event revs) does ∙ e, live)

      by_met : (l : M.Local) (q : Path) (lq : M.Local) → revs r ≡ Some (Plain l) → M.next r l ≡ Joins q
          → revs q ≡ Some (Plain lq) → (v : Event M.Local) → M.next q lq ≡ v → join_ended M revs r l q lq v ≡ Some k
          → Goal
      by_met l q lq here does there Ended f s =
          moved l here (Joins q) does (ap (of_target q) there ∙ ap (of_met q) f) (live _ k s)
      by_met l q lq here does there (Moves _) f s = none_some s
      by_met l q lq here does there (Forks _ _) f s = none_some s
      by_met l q lq here does there (Joins _) f s = none_some s

      by_target : (l : M.Local) (q : Path) → revs r ≡ Some (Plain l) → M.next r l ≡ Joins q
          → (e : Option (Entry M.Local)) → revs q ≡ e → join_at M revs r l q e ≡ Some k → Goal
      by_target l q here does None there s = none_some s
      by_target l q here does (Some (Joined lq)) there s = inl (
        ap (of_entry revs r) here ∙ ap (of_event revs) does ∙ ap (of_target q) there,
        let e : Twice ≡ k = cc in sym e,
      )
      by_target l q here does (Some (Plain lq)) there s = by_met l q lq here does there (M.next q lq) refl s

      by_event : (l : M.Local) → revs r ≡ Some (Plain l) → (v : Event M.Local) → M.next r l ≡ v
          → happens M revs r l v ≡ Some k → Goal
      by_event l here (Moves l') does s = moved l here (Moves l') does refl (live _ k s)
      by_event l here (Forks l' c) does s = moved l here (Forks l' c) does refl (live _ k s)
      by_event l here (Joins q) does s = by_target l q here does (revs q) refl s
      by_event l here Ended does s = none_some s

      by_entry : (e : Option (Entry M.Local)) → revs r ≡ e → step_at M revs r e ≡ Some k → Goal
      by_entry None here s = none_some s
      by_entry (Some (Joined l)) here s = none_some s
      by_entry (Some (Plain l)) here s = by_event l here (M.next r l) refl s

  of_moves : (g : Global M.Local) (r : Path) (k : Global M.Local) → answers.Moves M g r k
      → answer_at g r ≡ outcome.Moved
  unfolding Stepping
  of_moves g r k m = go (stepping g r k m.steps)
    where
      go : Stepping g r k → answer_at g r ≡ outcome.Moved
      go (inl a) = absurd (m.live a.1)
      go (inr a) = a.0

  of_twice : (g : Global M.Local) (r : Path) → (g ≡ Twice) ⊎ (step M g r ≡ Some Twice) → answer_at g r ≡ outcome.Twice
  unfolding Stepping
  of_twice g r (inl e) = ap (λ v. answer_at v r) e
  of_twice g r (inr s) = go (stepping g r Twice s)
    where
      go : Stepping g r Twice → answer_at g r ≡ outcome.Twice
      go (inl a) = a.0
      go (inr a) = absurd (a.1 refl)

  of_waits : (g : Global M.Local) (r q : Path) → Waits M g r q → answer_at g r ≡ outcome.Waits q
  of_waits Twice r q w = absurd w
  of_waits (Live revs) r q w =
      ap (of_entry revs r) w.stands ∙ ap (of_event revs) w.joins ∙ ap (of_target q) w.target_stands
      ∙ go (M.next q w.target) w.goes_on
    where
      go : (v : Event M.Local) → v ≢ Ended → of_met q v ≡ outcome.Waits q
      go Ended n = absurd (n refl)
      go (Moves _) n = refl
      go (Forks _ _) n = refl
      go (Joins _) n = refl

  of_ended : (g : Global M.Local) (r : Path) → HasEnded M g r → answer_at g r ≡ outcome.Ended
  of_ended Twice r e = absurd e
  of_ended (Live revs) r e = go (revs r) refl e
    where
      go : (o : Option (Entry M.Local)) → revs r ≡ o → IsEndedEntry M r o → of_entry revs r (revs r) ≡ outcome.Ended
      go None here e = absurd e
      go (Some (Joined l)) here e = ap (of_entry revs r) here
      go (Some (Plain l)) here e = ap (of_entry revs r) here ∙ ap (of_event revs) e

  of_missing : (g : Global M.Local) (r : Path) → IsMissing M g r → answer_at g r ≡ outcome.NoSuch
  of_missing Twice r e = absurd e
  of_missing (Live revs) r e = ap (of_entry revs r) e

  pub exact : (a : StepOutcome) (r : Path) (g h : Global M.Local) → Tells M a r g h → IsOutcome M a r g h
  exact a r g h tells =
      record {
        tells = tells;
        moved = λ k m. same ∙ of_moves g r k m;
        waits = λ q w. same ∙ of_waits g r q w;
        ended = λ e. same ∙ of_ended g r e;
        twice = twice' a tells;
        no_such = λ e. same ∙ of_missing g r e;
      }
    where
      told : (a : StepOutcome) → Tells M a r g h → a ≡ answer_at g r
      told outcome.Moved t = sym (of_moves g r h t)
      told (outcome.Waits q) t = sym (of_waits g r q t.0)
      told outcome.Ended t = sym (of_ended g r t.0)
      told outcome.Twice t = sym (of_twice g r t.0)
      told outcome.NoSuch t = sym (of_missing g r t.0)

      same : a ≡ answer_at g r
      same = told a tells

      twice' : (a : StepOutcome) → Tells M a r g h → h ≡ Twice → a ≡ outcome.Twice
      twice' outcome.Moved t e = absurd (t.live e)
      twice' (outcome.Waits q) t e = absurd (subst (λ v. Waits M v r q) (sym t.1 ∙ e) t.0)
      twice' outcome.Ended t e = absurd (subst (λ v. HasEnded M v r) (sym t.1 ∙ e) t.0)
      twice' outcome.Twice t e = refl
      twice' outcome.NoSuch t e = absurd (subst (λ v. IsMissing M v r) (sym t.1 ∙ e) t.0)

  -- from the lists
  pub told : (a : StepOutcome) (r : Path) (old new : List (RevisionRow M.Local)) → Does M a r old new
      → Tells M a r (Live (globe old)) (global_after a new)
  told outcome.Moved r old new d = record { steps = d; live = live (globe new) (Live (globe new)) refl }
  told (outcome.Waits q) r old new d = (d.0, ap (λ v. Live (globe v)) d.1)
  told outcome.Ended r old new d = (d.0, ap (λ v. Live (globe v)) d.1)
  told outcome.Twice r old new d = (inr d, refl)
  told outcome.NoSuch r old new d = (d.0, ap (λ v. Live (globe v)) d.1)

  -- the state after an answer, from the one before
  pub after_told : (P : Global M.Local → Type 0) (a : StepOutcome) (r : Path) (g h : Global M.Local) → P g
      → ((k : Global M.Local) → step M g r ≡ Some k → P k) → Tells M a r g h → P h
  after_told P outcome.Moved r g h p steps t = steps h t.steps
  after_told P (outcome.Waits q) r g h p steps t = subst P (sym t.1) p
  after_told P outcome.Ended r g h p steps t = subst P (sym t.1) p
  after_told P outcome.Twice r g h p steps t = go t.0
    where
      go : (g ≡ Twice) ⊎ (step M g r ≡ Some Twice) → P h
      go (inl e) = subst P (e ∙ sym t.1) p
      go (inr s) = subst P (sym t.1) (steps Twice s)
  after_told P outcome.NoSuch r g h p steps t = subst P (sym t.1) p

  -- a step leads to the state that the answer tells of
  pub steps_to : (a : StepOutcome) (r : Path) (g h k : Global M.Local) → Tells M a r g h → step M g r ≡ Some k → h ≡ k
  unfolding Stepping
  steps_to a r g h k t s = go a t (stepping g r k s)
    where
      moves : answers.Moves M g r h → h ≡ k
      moves m = let e : Some h ≡ Some k = sym m.steps ∙ s in cc

      go : (a : StepOutcome) → Tells M a r g h → Stepping g r k → h ≡ k
      go outcome.Moved t w = moves t
      go (outcome.Waits q) t (inl w) =
          let clash : outcome.Waits q ≡ outcome.Twice = sym (of_waits g r q t.0) ∙ w.0 in absurd cc
      go (outcome.Waits q) t (inr w) =
          let clash : outcome.Waits q ≡ outcome.Moved = sym (of_waits g r q t.0) ∙ w.0 in absurd cc
      go outcome.Ended t (inl w) = let clash : outcome.Ended ≡ outcome.Twice = sym (of_ended g r t.0) ∙ w.0 in absurd cc
      go outcome.Ended t (inr w) = let clash : outcome.Ended ≡ outcome.Moved = sym (of_ended g r t.0) ∙ w.0 in absurd cc
      go outcome.Twice t (inl w) = t.1 ∙ sym w.1
      go outcome.Twice t (inr w) = let clash : outcome.Twice ≡ outcome.Moved = sym (of_twice g r t.0) ∙ w.0 in absurd cc
      go outcome.NoSuch t (inl w) =
          let clash : outcome.NoSuch ≡ outcome.Twice = sym (of_missing g r t.0) ∙ w.0 in absurd cc
      go outcome.NoSuch t (inr w) =
          let clash : outcome.NoSuch ≡ outcome.Moved = sym (of_missing g r t.0) ∙ w.0 in absurd cc

  -- Twice stays
  pub twice_stays : (a : StepOutcome) (r : Path) (h : Global M.Local) → Tells M a r Twice h → h ≡ Twice
  twice_stays outcome.Moved r h t = none_some t.steps
  twice_stays (outcome.Waits q) r h t = absurd t.0
  twice_stays outcome.Ended r h t = absurd t.0
  twice_stays outcome.Twice r h t = t.1
  twice_stays outcome.NoSuch r h t = absurd t.0
