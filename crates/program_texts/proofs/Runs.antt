-- What each event keeps, where an amount of the stepper is known, holds of each revision of a run.
use Rattle.std.proofs.Common.{◌≡◌, ◌≢◌, ◌⊎◌, inl, inr, ℕ, ◌≤◌, [], ◌∷◌, ◌++◌, Some, refl, sym, ap, ◌∙◌, subst, arith}
use Rattle.rev_num.specs.Path.{Path, child}
use Rattle.rev_num.proofs.Options.{none_some}
use Rattle.revision_machine.specs.Machine.{Moves, Forks, Joins, Ended, Machine, Entry, Plain, Joined, Global, Twice, Live, Revisions, start, step, Reached}
use Rattle.revision_machine.specs.Conditions.{Counts, Spends}
use Rattle.revision_machine.specs.Laws.{local_of, Everywhere}
use Rattle.revision_machine.proofs.Paths.{some_inj, decide_same}
use Rattle.revision_machine.proofs.Way.{put_two, Role, Way, writes, twice, way, Place, own, new, marks, place}
use Rattle.revision_machine.proofs.Diamond.{two_here, two_there, two_other}
use Rattle.revision_machine.proofs.Ends.{along}
use Rattle.revision_machine.proofs.SimulatedRuns.{runs_on}
use Rattle.revision_machine.proofs.Totals.{amount_one}

module _ (M : Machine) (of : M.Local → ℕ) (most : ℕ) (P : Path → M.Local → Type 0) where
  -- a fact on a path and its local state that every event of a revision with at most so much keeps
  pub record IsKeptBelow : Type 0 where
    pub moves : (r : Path) (l l' : M.Local) → P r l → of l ≤ most → M.next r l ≡ Moves l' → P r l'
    pub forker : (r : Path) (l l' c : M.Local) → P r l → of l ≤ most → M.next r l ≡ Forks l' c → P r l'
    pub forked : (r : Path) (l l' c : M.Local) → P r l → of l ≤ most → M.next r l ≡ Forks l' c
        → P (child r (M.forks l)) c
    pub joins : (r q : Path) (l lq : M.Local) → P r l → P q lq → M.next r l ≡ Joins q → M.next q lq ≡ Ended
        → P r (M.join r l q lq)

module _ (M : Machine) (counts : Counts M) (main : M.Local) (of : M.Local → ℕ) (spends : Spends M 0 of)
    (P : Path → M.Local → Type 0) (kept : IsKeptBelow M of (of main) P) (first : P [] main) where
  -- the fact, and the amount, which a revision under the mark had when it was joined
  abbrev Holds : Path → M.Local → Type 0
  Holds r l = P r l × (of l ≤ of main)

  record Sofar (g : Global M.Local) : Type 0 where
    reached : Reached M main g
    each : Everywhere M Holds g

  step_on : (g h : Global M.Local) (r : Path) → Reached M main g → step M g r ≡ Some h → Reached M main h
  step_on g h r reached s = record {
    by = reached.by ++ r ∷ [];
    runs = runs_on M reached.by (r ∷ []) (start M main) g h reached.runs (h, s, refl);
  }

  kept_step : (revs : Revisions M) → Everywhere M Holds (Live revs)
      → (s : Path) (l l' : M.Local) (o : Path) (e : Entry M.Local) → revs s ≡ Some (Plain l) → Role M revs s l l' o e
      → Reached M main (Live (put_two revs s (Plain l') o e))
      → Everywhere M Holds (Live (put_two revs s (Plain l') o e))
  kept_step revs all s l l' o e here x reached r f there = go (decide_same s r) (decide_same o r) (place M x)
    where
      here' : Holds s l
      here' = all s (Plain l) here

      room : (p : Path) (k : M.Local) → put_two revs s (Plain l') o e p ≡ Some (Plain k) → of k ≤ of main
      room p k is = amount_one M counts main of spends (put_two revs s (Plain l') o e) reached p k is

      -- what stands at a path has the fact where what was written there has
      at : (p : Path) (g : Entry M.Local) → p ≡ r → put_two revs s (Plain l') o e p ≡ Some g → Holds p (local_of g)
          → Holds r (local_of f)
      at p g pr is h =
          let same : g ≡ f = some_inj (sym is ∙ ap (put_two revs s (Plain l') o e) pr ∙ there) in
          subst (λ v. Holds r (local_of v)) same (subst (λ v. Holds v (local_of g)) pr h)

      stepper : put_two revs s (Plain l') o e s ≡ Some (Plain l')
      stepper = two_here revs s o (Plain l') e

      other : s ≢ o → put_two revs s (Plain l') o e o ≡ Some e
      other apart = two_there revs s o (Plain l') e apart

      go : (s ≡ r) ⊎ (s ≢ r) → (o ≡ r) ⊎ (o ≢ r) → Place M revs s l l' o e → Holds r (local_of f)
      go (inl sr) z (own does _ _) =
          at s (Plain l') sr stepper (kept.moves s l l' here'.0 here'.1 does, room s l' stepper)
      go (inl sr) z (new c does _ _) =
          at s (Plain l') sr stepper (kept.forker s l l' c here'.0 here'.1 does, room s l' stepper)
      go (inl sr) z (marks lq does was ended jl _) =
          at s (Plain l') sr stepper
          (subst (P s) (sym jl) (kept.joins s o l lq here'.0 (all o (Plain lq) was).0 does ended), room s l' stepper)
      go (inr sr) (inr or) p = all r f (sym (two_other revs s o (Plain l') e r sr or) ∙ there)
      go (inr sr) (inl or) (own _ a _) = absurd (sr (sym a ∙ or))
      go (inr sr) (inl or) (new c does a ee) =
          let is : put_two revs s (Plain l') o e o ≡ Some (Plain c) = other (λ v. sr (v ∙ or)) ∙ ap Some ee in
          at o (Plain c) or is (subst (λ v. P v c) (sym a) (kept.forked s l l' c here'.0 here'.1 does), room o c is)
      go (inr sr) (inl or) (marks lq does was ended jl ee) =
          at o (Joined lq) or (other (λ v. sr (v ∙ or)) ∙ ap Some ee) (all o (Plain lq) was)

  keeps : (g h : Global M.Local) (r : Path) → Sofar g → step M g r ≡ Some h → Sofar h
  keeps Twice h r so s = none_some s
  keeps (Live revs) h r so s = by h (way M revs r h s) (step_on (Live revs) h r so.reached s)
    where
      by : (h : Global M.Local) → Way M revs r h → Reached M main h → Sofar h
      by h (writes l l' o e here x) reached =
          record { reached = reached; each = kept_step revs so.each r l l' o e here x reached }
      by h (twice l q lq here does there) reached = record { reached = reached; each = tt }

  begins : Everywhere M Holds (start M main)
  begins [] e there = subst (λ v. Holds [] (local_of v)) (some_inj there) (first, omega arith)
  begins (x ∷ r) e there = none_some there

  pub kept_below : (g : Global M.Local) → Reached M main g → Everywhere M Holds g
  kept_below g reached =
      (along M Sofar keeps reached.by (start M main) g
      (record { reached = record { by = []; runs = refl }; each = begins }) reached.runs).each
