-- What is known of a state that was reached within the limit.
use Rattle.std.proofs.Common.{◌≡◌, ◌≢◌, ℕ, ◌+◌, ◌≤◌, List, [], ◌∷◌, ◌++◌, Some, refl, arith}
use Rattle.rev_num.specs.Path.{Path}
use Rattle.revision_machine.specs.Machine.{Joins, Machine, Entry, Plain, Global, Live, Revisions, step, start, Runs}
use Rattle.revision_machine.specs.Conditions.{Counts, Handles, Spends}
use Rattle.revision_machine.specs.Laws.{IsForked}
use Rattle.revision_machine.proofs.Ends.{reached_forked}
use Rattle.revision_machine.proofs.Blocked.{handle_law}
use Rattle.revision_machine.proofs.Totals.{counted_spends, amount_one, amount_two}
use Rattle.revision_machine.proofs.SimulatedRuns.{runs_on}
use Rattle.revision_machine.specs.StepOutcomes.{IsReached}

module _ (M : Machine) (holds : M.Local → Path → Type 0) (weight : M.Local → ℕ) (limit : ℕ) (counts : Counts M)
    (H : Handles M holds) (spends : Spends M 1 weight) where
  pub goes_on : (rs : List Path) (g h : Global M.Local) → IsReached M holds (λ l. M.forks l + weight l) limit g
      → Runs M g rs h → IsReached M holds (λ l. M.forks l + weight l) limit h
  goes_on rs g h is runs = record {
    main = is.main;
    none = is.none;
    room = is.room;
    reached = record {
      by = is.reached.by ++ rs;
      runs = runs_on M is.reached.by rs (start M is.main) g h is.reached.runs runs;
    };
  }

  pub steps_on : (r : Path) (g h : Global M.Local) → IsReached M holds (λ l. M.forks l + weight l) limit g
      → step M g r ≡ Some h → IsReached M holds (λ l. M.forks l + weight l) limit h
  steps_on r g h is s = goes_on (r ∷ []) g h is (h, s, refl)

  module _ (revs : Revisions M) (is : IsReached M holds (λ l. M.forks l + weight l) limit (Live revs)) where
    pub is_forked : IsForked M revs
    is_forked = reached_forked M is.main counts (Live revs) is.reached

    -- what a revision joins stands in the state
    pub target_stands : (r q : Path) (l : M.Local) → revs r ≡ Some (Plain l) → M.next r l ≡ Joins q
        → (e : Entry M.Local) × (revs q ≡ Some e)
    target_stands r q l here does =
        let b = handle_law M is.main holds counts H is.none (Live revs) is.reached r q (Plain l) here
        (H.wants r q l does) in
        (b.entry, b.stands)

    pub room_one : (p : Path) (l : M.Local) → revs p ≡ Some (Plain l) → M.forks l + weight l ≤ limit
    room_one p l here =
        let most =
        amount_one M counts is.main (λ l. M.forks l + weight l) (counted_spends M counts weight spends) revs is.reached
        p l here in
        let room = is.room in
        omega arith

    pub room_two : (p q : Path) (l t : M.Local) → revs p ≡ Some (Plain l) → revs q ≡ Some (Plain t) → p ≢ q
        → M.forks l + weight l + (M.forks t + weight t) ≤ limit
    room_two p q l t here there apart =
        let most =
        amount_two M counts is.main (λ l. M.forks l + weight l) (counted_spends M counts weight spends) revs is.reached
        p q l t here there apart in
        let room = is.room in
        omega arith
