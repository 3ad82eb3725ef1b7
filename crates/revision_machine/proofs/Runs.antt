-- Steps of a list of revisions, one after another.
use Rattle.std.proofs.Common.{◌≡◌, ◌≢◌, ◌⊎◌, inl, inr, ℕ, ◌+◌, ◌*◌, ◌<◌, ◌≤◌, Bool, true, false, List, [], ◌∷◌, ◌++◌, length, get_or, Option, Some, None, refl, sym, ap, ◌∙◌, subst, arith, length-append}
use Rattle.std.proofs.lemmas.Bool.{cases_order}
use Rattle.rev_num.specs.Path.{Path}
use Rattle.revision_machine.specs.Machine.{Event, Moves, Forks, Joins, Ended, Machine, Entry, Plain, Joined, Global, Twice, Live, start, step, step_at, happens, join_at, join_ended, Runs, Final, Complete}
use Rattle.revision_machine.specs.Conditions.{Counts, Spends}
use Rattle.revision_machine.specs.Laws.{IsDistinct, total}
use Rattle.revision_machine.proofs.Ends.{unique_end}
use Rattle.revision_machine.proofs.SimulatedRuns.{runs_on}
use Rattle.revision_machine.proofs.Totals.{total_less}
use Rattle.revision_machine.specs.declared.state.RevisionRow.{RevisionRow}
use Rattle.revision_machine.specs.declared.one_step.StepOutcome.{StepOutcome}
use Rattle.revision_machine.specs.declared.one_step.StepOutcome.TheVariants as outcome
use Rattle.revision_machine.specs.declared.complete_run.Progress.{Progress}
use Rattle.revision_machine.specs.declared.complete_run.Progress.TheVariants as progress
use Rattle.revision_machine.specs.RevisionList.{paths, globe}
use Rattle.revision_machine.specs.StepOutcomes.{WaitsOn, IsEndedEntry, IsReached, IsEnd}
use Rattle.revision_machine.specs.ListStep.{Does}
use Rattle.revision_machine.specs.Progress.{Goes, GoesToTwice, Progresses, CannotStep, NoneSteps, PassSoFar, GoesOn, most_of, moved_by}
use Rattle.revision_machine.proofs.RevisionList.{where_stands, revisions_census}

module _ (M : Machine) where
  pub of_moved : (p : Path) (old new : List (RevisionRow M.Local)) → Does M outcome.Moved p old new → Goes M 1 old new
  of_moved p old new d = (p ∷ [], (Live (globe new), d, refl), omega arith)

  pub of_twice : (p : Path) (old new : List (RevisionRow M.Local)) → Does M outcome.Twice p old new → GoesToTwice M old
  of_twice p old new d = (p ∷ [], (Twice, d, refl))

  over_none : (old : List (RevisionRow M.Local)) (p : Path) → IsEndedEntry M p (globe old p)
      → step M (Live (globe old)) p ≡ None
  over_none old p e = go (globe old p) refl e
    where
      go : (o : Option (Entry M.Local)) → globe old p ≡ o → IsEndedEntry M p o → step M (Live (globe old)) p ≡ None
      go None here e = absurd e
      go (Some (Joined l)) here e = ap (step_at M (globe old) p) here
      go (Some (Plain l)) here e = ap (step_at M (globe old) p) here ∙ ap (happens M (globe old) p l) e

  waits_none : (old : List (RevisionRow M.Local)) (p q : Path) → WaitsOn M (globe old) p q
      → step M (Live (globe old)) p ≡ None
  waits_none old p q w =
      ap (step_at M (globe old) p) w.stands ∙ ap (happens M (globe old) p w.state) w.joins
      ∙ ap (join_at M (globe old) p w.state q) w.target_stands ∙ go (M.next q w.target) w.goes_on
    where
      go : (v : Event M.Local) → v ≢ Ended → join_ended M (globe old) p w.state q w.target v ≡ None
      go Ended n = absurd (n refl)
      go (Moves _) n = refl
      go (Forks _ _) n = refl
      go (Joins _) n = refl

  -- an answer that is neither Moved nor Twice
  pub of_stuck : (s : StepOutcome) (p : Path) (old new : List (RevisionRow M.Local)) → s ≢ outcome.Moved
      → s ≢ outcome.Twice → Does M s p old new → (step M (Live (globe old)) p ≡ None) × (new ≡ old)
  of_stuck outcome.Moved p old new a b d = absurd (a refl)
  of_stuck (outcome.Waits q) p old new a b d = (waits_none old p q d.0, d.1)
  of_stuck outcome.Ended p old new a b d = (over_none old p d.0, d.1)
  of_stuck outcome.Twice p old new a b d = absurd (b refl)
  of_stuck outcome.NoSuch p old new a b d = (ap (step_at M (globe old) p) d.0, d.1)

  pub moved_at : (s : StepOutcome) (i : ℕ) (old new : List (RevisionRow M.Local)) (x : RevisionRow M.Local)
      → s ≡ outcome.Moved → ((d : RevisionRow M.Local) → Does M s (get_or old i d).path old new) → Goes M 1 old new
  moved_at s i old new x e does =
      of_moved (get_or old i x).path old new (subst (λ v. Does M v (get_or old i x).path old new) e (does x))

  pub twice_at : (s : StepOutcome) (i : ℕ) (old new : List (RevisionRow M.Local)) (x : RevisionRow M.Local)
      → s ≡ outcome.Twice → ((d : RevisionRow M.Local) → Does M s (get_or old i d).path old new) → GoesToTwice M old
  twice_at s i old new x e does =
      of_twice (get_or old i x).path old new (subst (λ v. Does M v (get_or old i x).path old new) e (does x))

  pub stuck_at : (s : StepOutcome) (i : ℕ) (old new : List (RevisionRow M.Local)) (x : RevisionRow M.Local)
      → ((q : Path) × (s ≡ outcome.Waits q)) ⊎ ((s ≡ outcome.Ended) ⊎ (s ≡ outcome.NoSuch))
      → ((d : RevisionRow M.Local) → Does M s (get_or old i d).path old new) → CannotStep M old i × (new ≡ old)
  stuck_at s i old new x e does = (λ d. (each d).0, (each x).1)
    where
      none : (s ≡ outcome.Moved → ⊥) × (s ≡ outcome.Twice → ⊥)
      none = go e
        where
          go : ((q : Path) × (s ≡ outcome.Waits q)) ⊎ ((s ≡ outcome.Ended) ⊎ (s ≡ outcome.NoSuch))
              → (s ≡ outcome.Moved → ⊥) × (s ≡ outcome.Twice → ⊥)
          go (inl w) = (
            λ a. (let clash : outcome.Waits w.0 ≡ outcome.Moved = sym w.1 ∙ a in cc),
            λ a. (let clash : outcome.Waits w.0 ≡ outcome.Twice = sym w.1 ∙ a in cc),
          )
          go (inr (inl w)) = (
            λ a. (let clash : outcome.Ended ≡ outcome.Moved = sym w ∙ a in cc),
            λ a. (let clash : outcome.Ended ≡ outcome.Twice = sym w ∙ a in cc),
          )
          go (inr (inr w)) = (
            λ a. (let clash : outcome.NoSuch ≡ outcome.Moved = sym w ∙ a in cc),
            λ a. (let clash : outcome.NoSuch ≡ outcome.Twice = sym w ∙ a in cc),
          )

      each : (d : RevisionRow M.Local) → (step M (Live (globe old)) (get_or old i d).path ≡ None) × (new ≡ old)
      each d = of_stuck s (get_or old i d).path old new none.0 none.1 (does d)

  -- one after another
  pub goes_on : (m n k : ℕ) (old mid new : List (RevisionRow M.Local)) → Goes M m old mid → Goes M n mid new → k ≤ m + n
      → Goes M k old new
  goes_on m n k old mid new one two most =
      let long = length-append one.0 two.0 in
      let a = one.2 in
      let b = two.2 in (
        one.0 ++ two.0,
        runs_on M one.0 two.0 (Live (globe old)) (Live (globe mid)) (Live (globe new)) one.1 two.1,
        omega arith,
      )

  pub goes_to_twice : (m : ℕ) (old mid : List (RevisionRow M.Local)) → Goes M m old mid → GoesToTwice M mid
      → GoesToTwice M old
  goes_to_twice m old mid one two =
      (one.0 ++ two.0, runs_on M one.0 two.0 (Live (globe old)) (Live (globe mid)) Twice one.1 two.1)

  pub goes_nowhere : (old new : List (RevisionRow M.Local)) → new ≡ old → Goes M 0 old new
  goes_nowhere old new e = ([], ap (λ v. Live (globe v)) (sym e), omega arith)

  pub goes_less : (old new : List (RevisionRow M.Local)) → Goes M 1 old new → Goes M 0 old new
  goes_less old new g = (g.0, g.1, let h = g.2 in omega arith)

  -- where no revision can step, no path can
  pub final_since : (revisions : List (RevisionRow M.Local)) (n : ℕ) → n ≡ length revisions → NoneSteps M revisions n
      → Final M (Live (globe revisions))
  final_since revisions n is none r = go (globe revisions r) refl
    where
      go : (e : Option (Entry M.Local)) → globe revisions r ≡ e
          → step_at M (globe revisions) r (globe revisions r) ≡ None
      go None f = ap (step_at M (globe revisions) r) f
      go (Some e) f =
          let w = where_stands revisions r e f in
          ap (λ v. step M (Live (globe revisions)) v) (sym (w.1.path w.2))
          ∙ none w.0 (let h = w.1.within in omega arith) w.2

  pub none_more : (revisions : List (RevisionRow M.Local)) (n : ℕ) → NoneSteps M revisions n → CannotStep M revisions n
      → NoneSteps M revisions (n + 1)
  none_more revisions n none one k below = go (cases_order k n)
    where
      go : (k ≡ n) ⊎ ((k < n) ⊎ (n < k)) → CannotStep M revisions k
      go (inl is) = subst (CannotStep M revisions) (sym is) one
      go (inr (inl h)) = none k h
      go (inr (inr h)) = absurd (omega arith)

  -- the weights of all revisions together
  pub left : (M.Local → ℕ) → List (RevisionRow M.Local) → ℕ
  left weight revisions = total weight (globe revisions) (paths revisions)

  pub left_less : (holds : M.Local → Path → Type 0) (amount : M.Local → ℕ) (limit : ℕ) (weight : M.Local → ℕ) → Counts M
      → Spends M 1 weight → (old new : List (RevisionRow M.Local)) (n : ℕ)
      → IsReached M holds amount limit (Live (globe old)) → IsDistinct (paths old) → IsDistinct (paths new)
      → Goes M n old new → left weight new + n ≤ left weight old
  unfolding left
  left_less holds amount limit weight counts spends old new n is d e goes =
      let law =
      total_less M counts is.main weight spends (globe old) (globe new) goes.0 (paths old) (paths new) is.reached goes.1
      (revisions_census old d) (revisions_census new e) in
      let long = goes.2 in
      omega arith

  module _ (Still : Type 0) (old new : List (RevisionRow M.Local)) where
    -- an answer that is not Twice
    pub kept : (p : Progress) → (p ≡ progress.Moved) ⊎ (p ≡ progress.Stuck) → Progresses M Still p old new
        → Goes M 0 old new
    kept p (inl e) t = goes_less old new (subst (λ v. Progresses M Still v old new) e t)
    kept p (inr e) t = goes_nowhere old new (subst (λ v. Progresses M Still v old new) e t).1

    pub smaller : (holds : M.Local → Path → Type 0) (amount : M.Local → ℕ) (limit : ℕ) (weight : M.Local → ℕ) → Counts M
        → Spends M 1 weight → IsReached M holds amount limit (Live (globe old)) → IsDistinct (paths old)
        → IsDistinct (paths new) → (p : Progress) → (p ≡ progress.Moved) ⊎ (p ≡ progress.Stuck)
        → Progresses M Still p old new → (before popped after : ℕ) → popped + 1 ≡ before → after ≤ popped + most_of p
        → 2 * left weight new + after < 2 * left weight old + before
    unfolding left
    smaller holds amount limit weight counts spends is d e p (inl m) t before popped after pop most =
        let less =
        left_less holds amount limit weight counts spends old new 1 is d e
        (subst (λ v. Progresses M Still v old new) m t) in
        let two : most_of p ≡ 2 = ap most_of m in
        omega arith
    smaller holds amount limit weight counts spends is d e p (inr m) t before popped after pop most =
        let same : left weight new ≡ left weight old =
        ap (left weight) (subst (λ v. Progresses M Still v old new) m t).1 in
        let none : most_of p ≡ 0 = ap most_of m in
        omega arith

    -- after a first step, more steps
    pub more_after : (mid : List (RevisionRow M.Local)) → Goes M 1 old mid → (p : Progress) → GoesOn M p mid new
        → Progresses M Still p old new
    more_after mid one progress.Moved two = goes_on 1 0 1 old mid new one two (omega arith)
    more_after mid one progress.Stuck two = absurd two
    more_after mid one progress.Twice two = goes_to_twice 1 old mid one two

  -- one more place of a pass
  pub pass_on : (b : Bool) (p : Progress) (old mid new : List (RevisionRow M.Local)) (n : ℕ)
      → (p ≡ progress.Moved) ⊎ (p ≡ progress.Stuck) → PassSoFar M b old mid n
      → Progresses M (CannotStep M mid n) p mid new → PassSoFar M (moved_by b p) old new (n + 1)
  pass_on true p old mid new n (inl e) so t =
      subst (λ v. PassSoFar M (moved_by true v) old new (n + 1)) (sym e)
      (goes_on 1 1 1 old mid new so (subst (λ v. Progresses M (CannotStep M mid n) v mid new) e t) (omega arith))
  pass_on false p old mid new n (inl e) so t =
      subst (λ v. PassSoFar M (moved_by false v) old new (n + 1)) (sym e)
      (subst (λ v. Goes M 1 v new) so.0 (subst (λ v. Progresses M (CannotStep M mid n) v mid new) e t))
  pass_on true p old mid new n (inr e) so t =
      subst (λ v. PassSoFar M (moved_by true v) old new (n + 1)) (sym e)
      (subst (Goes M 1 old) (sym (subst (λ v. Progresses M (CannotStep M mid n) v mid new) e t).1) so)
  pass_on false p old mid new n (inr e) so t =
      let still = subst (λ v. Progresses M (CannotStep M mid n) v mid new) e t in
      subst (λ v. PassSoFar M (moved_by false v) old new (n + 1)) (sym e)
      (still.1 ∙ so.0, none_more old n so.1 (subst (λ v. CannotStep M v n) so.0 still.0))

  -- Twice after what has been done so far
  pub pass_to_twice : (b : Bool) (old mid : List (RevisionRow M.Local)) (n : ℕ) → PassSoFar M b old mid n
      → GoesToTwice M mid → GoesToTwice M old
  pass_to_twice true old mid n so t = goes_to_twice 1 old mid so t
  pass_to_twice false old mid n so t = subst (GoesToTwice M) so.0 t

  pub pass_stuck : (b : Bool) (old new : List (RevisionRow M.Local)) (n : ℕ) → b ≡ false → n ≡ length old
      → PassSoFar M b old new n → Final M (Live (globe old)) × (new ≡ old)
  pass_stuck b old new n e len so =
      let s = subst (λ v. PassSoFar M v old new n) e so in (final_since old n len s.1, s.0)

  -- a complete run ends where every one does
  pub is_end : (main : M.Local) → Counts M → (rs : List Path) (g : Global M.Local) → Runs M (start M main) rs g
      → Final M g → IsEnd M main g
  is_end main counts rs g runs final =
      let complete : Complete M (start M main) rs g = record { runs = runs; final = final } in
      record {
        by = rs;
        complete = complete;
        only = λ ss h other.
            unique_end M main counts (start M main) h g ss rs (record { by = []; runs = refl }) other complete;
      }

  pub end_stuck : (main : M.Local) → Counts M → (rs : List Path) (old new : List (RevisionRow M.Local))
      → Runs M (start M main) rs (Live (globe old)) → Final M (Live (globe old)) × (new ≡ old)
      → IsEnd M main (Live (globe new))
  end_stuck main counts rs old new runs still =
      subst (λ v. IsEnd M main (Live (globe v))) (sym still.1) (is_end main counts rs (Live (globe old)) runs still.0)

  pub end_twice : (main : M.Local) → Counts M → (rs : List Path) (old : List (RevisionRow M.Local))
      → Runs M (start M main) rs (Live (globe old)) → GoesToTwice M old → IsEnd M main Twice
  end_twice main counts rs old runs t =
      is_end main counts (rs ++ t.0) Twice (runs_on M rs t.0 (start M main) (Live (globe old)) Twice runs t.1)
      (λ r. refl)

  pub runs_more : (main : M.Local) (n : ℕ) (rs : List Path) (old new : List (RevisionRow M.Local))
      → Runs M (start M main) rs (Live (globe old)) → Goes M n old new
      → (ss : List Path) × Runs M (start M main) ss (Live (globe new))
  runs_more main n rs old new runs goes =
      (rs ++ goes.0, runs_on M rs goes.0 (start M main) (Live (globe old)) (Live (globe new)) runs goes.1)

pub smaller_by_one : (a b : ℕ) → a + 1 ≤ b → a < b
smaller_by_one a b h = omega arith
