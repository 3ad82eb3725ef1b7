-- Every run can be completed, since one that goes on has no more steps than its bound.
use Rattle.std.proofs.Common.{◌≡◌, ◌⊎◌, inl, inr, ℕ, zero, suc, ◌+◌, ◌*◌, ◌≤◌, List, [], ◌∷◌, ◌++◌, length, Option, Some, None, refl, ap, ◌∙◌, arith, length-append}
use Rattle.rev_num.specs.Path.{Path}
use Rattle.revision_machine.specs.Machine.{Machine, Entry, Global, Twice, Live, start, step, step_at, Runs, Final, Complete, Reached}
use Rattle.revision_machine.specs.Conditions.{Counts, Spends}
use Rattle.revision_machine.specs.Laws.{IsIn, Amounts, CompletionLaw}
use Rattle.revision_machine.proofs.Census.{spending_law, bound_law, no_cost}
use Rattle.revision_machine.proofs.SimulatedRuns.{runs_on}

module _ (M : Machine) where
  -- a revision that can step, and the state after its step
  pub record Stepper (g : Global M.Local) : Type 0 where
    pub path : Path
    pub after : Global M.Local
    pub steps : step M g path ≡ Some after

  first_of_these : (g : Global M.Local) (ps : List Path) → Stepper g ⊎ ((r : Path) → IsIn r ps → step M g r ≡ None)
  first_of_these g [] = inr (λ r none. absurd none)
  first_of_these g (p ∷ ps) = go (step M g p) refl (first_of_these g ps)
    where
      go : (o : Option (Global M.Local)) → step M g p ≡ o → Stepper g ⊎ ((r : Path) → IsIn r ps → step M g r ≡ None)
          → Stepper g ⊎ ((r : Path) → IsIn r (p ∷ ps) → step M g r ≡ None)
      go (Some h) e rest = inl (record { path = p; after = h; steps = e })
      go None e (inl found) = inl found
      go None e (inr none) = inr none'
        where
          none' : (r : Path) → IsIn r (p ∷ ps) → step M g r ≡ None
          none' r (inl is) = ap (step M g) is ∙ e
          none' r (inr i) = none r i

  -- a reached state is final, or a revision of it can step
  pub steps_or_final : (main : M.Local) → Counts M → (g : Global M.Local) → Reached M main g → Stepper g ⊎ Final M g
  steps_or_final main counts Twice reached = inr (λ r. refl)
  steps_or_final main counts (Live revs) reached = go (first_of_these (Live revs) census.1.0)
    where
      census : (n : ℕ) × Amounts M (λ l. 0) (Live revs) n × (n + length reached.by * 0 ≤ 0)
      census = spending_law M main 0 (λ l. 0) counts (no_cost M) (Live revs) reached.by reached.runs

      go : Stepper (Live revs) ⊎ ((r : Path) → IsIn r census.1.0 → step M (Live revs) r ≡ None)
          → Stepper (Live revs) ⊎ Final M (Live revs)
      go (inl found) = inl found
      go (inr none) = inr (λ r. at r (revs r) refl)
        where
          at : (r : Path) (e : Option (Entry M.Local)) → revs r ≡ e → step M (Live revs) r ≡ None
          at r None there = ap (step_at M revs r) there
          at r (Some e) there = none r (census.1.1.all r e there)

  one_more : (rs : List Path) (main : M.Local) (g : Global M.Local) → Runs M (start M main) rs g → (s : Stepper g)
      → Runs M (start M main) (rs ++ s.path ∷ []) s.after
  one_more rs main g runs s = runs_on M rs (s.path ∷ []) (start M main) g s.after runs (s.after, s.steps, refl)

  Completion : Global M.Local → Type 0
  Completion g = (ps : List Path) × (h : Global M.Local) × Complete M g ps h

  goes_on : (g : Global M.Local) (s : Stepper g) → Completion s.after → Completion g
  unfolding Completion
  goes_on g s rest = (s.path ∷ rest.0, rest.1, record { runs = (s.after, s.steps, rest.2.runs); final = rest.2.final })

  complete_from : (main : M.Local) (of : M.Local → ℕ) → Counts M → Spends M 1 of
      → (left : ℕ) (rs : List Path) (g : Global M.Local) → Runs M (start M main) rs g → of main ≤ length rs + left
      → Completion g
  unfolding Completion
  complete_from main of counts spends zero rs g runs enough =
      go (steps_or_final main counts g (record { by = rs; runs = runs }))
    where
      go : Stepper g ⊎ Final M g → Completion g
      go (inr final) = ([], g, record { runs = refl; final = final })
      go (inl s) =
          let most = bound_law M main of counts spends s.after (rs ++ s.path ∷ []) (one_more rs main g runs s) in
          let long = length-append rs (s.path ∷ []) in
          absurd (omega arith)
  complete_from main of counts spends (suc left) rs g runs enough =
      go (λ s. complete_from main of counts spends left (rs ++ s.path ∷ []) s.after (one_more rs main g runs s)
      (let long = length-append rs (s.path ∷ []) in omega arith))
      (steps_or_final main counts g (record { by = rs; runs = runs }))
    where
      go : ((s : Stepper g) → Completion s.after) → Stepper g ⊎ Final M g → Completion g
      go later (inr final) = ([], g, record { runs = refl; final = final })
      go later (inl s) = goes_on g s (later s)

  pub completion_law : (main : M.Local) (of : M.Local → ℕ) → Counts M → Spends M 1 of → CompletionLaw M main
  unfolding Completion
  completion_law main of counts spends g reached =
      complete_from main of counts spends (of main) reached.by g reached.runs (omega arith)
