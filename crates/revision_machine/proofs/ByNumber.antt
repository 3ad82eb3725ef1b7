-- Worlds by number: how many revisions they have, and that each legal schedule can be completed.
use Rattle.std.proofs.Common.{◌≡◌, ◌⊎◌, inl, inr, ℕ, zero, suc, ◌+◌, ◌<◌, ◌≤◌, Bool, true, false, cond, List, [], ◌∷◌, ◌++◌, length, Option, Some, None, refl, sym, ap, ◌∙◌, subst, append-nil, length-append, arith}
use Rattle.std.proofs.lemmas.Bool.{cases_order}
use Rattle.rev_num.specs.Path.{Path, same}
use Rattle.revision_machine.specs.Machine.{Live, start}
use Rattle.revision_machine.specs.Conditions.{Counts, PaysForks}
use Rattle.revision_machine.specs.Laws.{IsIn, IsDistinct}
use Rattle.revision_machine.specs.Numbered.{Numbered, Entries, World, Both, Listing, leg_at, leg, begin, Replays, machine_by, paths_of, globe_of, paths_at, IsOver, WorldCount, Least, CompleteSchedule, ScheduleCompletes, LeastCompletes, ScheduleBound}
use Rattle.revision_machine.proofs.Lists.{at_none}
use Rattle.revision_machine.proofs.Numbers.{length-paths}
use Rattle.revision_machine.proofs.Replays.{replays_on}
use Rattle.revision_machine.proofs.Bearing.{runs_of}
use Rattle.revision_machine.proofs.Census.{count_law}
use Rattle.revision_machine.proofs.Totals.{no_longer}
use Rattle.revision_machine.proofs.Schedules.{schedule_law}
use Rattle.rev_num.proofs.PostOrder.{same_refl}

-- a path of the list stands in the state
in_world : {A : Type 0} (w : List (Path × A)) (p : Path) → IsIn p (paths_of w) → (e : A) × (globe_of w p ≡ Some e)
in_world [] p i = absurd i
in_world (x ∷ w) p (inl is) =
    (x.1, ap (λ b. cond b (Some x.1) (globe_of w p)) (ap (λ v. same v p) (sym is) ∙ same_refl p))
in_world {A} (x ∷ w) p (inr i) = go (in_world w p i) (same x.0 p) refl
  where
    go : (e : A) × (globe_of w p ≡ Some e) → (b : Bool) → same x.0 p ≡ b → (e : A) × (globe_of (x ∷ w) p ≡ Some e)
    go later true f = (x.1, ap (λ b. cond b (Some x.1) (globe_of w p)) f)
    go later false f = (later.0, ap (λ b. cond b (Some x.1) (globe_of w p)) f ∙ later.1)

module _ (N : Numbered) (main : N.Local) where
  -- the least number with a leg, and the world after it
  record Lowest (w : World N.Local) : Type 0 where
    number : ℕ
    after : World N.Local
    goes : leg N w number ≡ Some after
    first : (m : ℕ) → m < number → leg N w m ≡ None

  one_more : (w : World N.Local) (k : ℕ) → ((m : ℕ) → m < k → leg N w m ≡ None) → leg N w k ≡ None → (m : ℕ) → m < suc k
      → leg N w m ≡ None
  one_more w k none here m below = go (cases_order m k)
    where
      go : (m ≡ k) ⊎ ((m < k) ⊎ (k < m)) → leg N w m ≡ None
      go (inl e) = ap (leg N w) e ∙ here
      go (inr (inl h)) = none m h
      go (inr (inr h)) = absurd (omega arith)

  lowest_from : (w : Entries N.Local) (left k : ℕ) → k + left ≡ length w
      → ((m : ℕ) → m < k → leg N (Listing w) m ≡ None) → Lowest (Listing w) ⊎ IsOver N main (Listing w)
  lowest_from w zero k all none = inr over
    where
      over : (n : ℕ) → leg N (Listing w) n ≡ None
      over n = go (cases_order n k)
        where
          past : k ≤ n → leg N (Listing w) n ≡ None
          past h = ap (leg_at N w n) (at_none w n (omega arith))

          go : (n ≡ k) ⊎ ((n < k) ⊎ (k < n)) → leg N (Listing w) n ≡ None
          go (inl e) = past (omega arith)
          go (inr (inl h)) = none n h
          go (inr (inr h)) = past (omega arith)
  lowest_from w (suc left) k all none =
      go (λ e. lowest_from w left (suc k) (omega arith) (one_more (Listing w) k none e)) (leg N (Listing w) k) refl
    where
      go : (leg N (Listing w) k ≡ None → Lowest (Listing w) ⊎ IsOver N main (Listing w)) → (o : Option (World N.Local))
          → leg N (Listing w) k ≡ o → Lowest (Listing w) ⊎ IsOver N main (Listing w)
      go later None e = later e
      go later (Some u) e = inl (record { number = k; after = u; goes = e; first = none })

  lowest : (w : World N.Local) → Lowest w ⊎ IsOver N main w
  lowest Both = inr (λ n. refl)
  lowest (Listing w) = lowest_from w (length w) 0 (omega arith) (λ m below. absurd (omega arith))

  Completed : World N.Local → Type 0
  Completed v = (ms : List ℕ) × (w : World N.Local) × Least N main v ms w × CompleteSchedule N main v ms w

  goes_on : (v : World N.Local) (l : Lowest v) → Completed l.after → Completed v
  unfolding Completed
  goes_on v l rest = (
    l.number ∷ rest.0,
    rest.1,
    (l.after, l.goes, l.first, rest.2),
    record { replays = (l.after, l.goes, rest.3.replays); over = rest.3.over },
  )

  is_over : (v : World N.Local) → IsOver N main v → Completed v
  unfolding Completed
  is_over v over = ([], v, (refl, over), record { replays = refl; over = over })

  module _ (most : ℕ) (bound : ScheduleBound N main most) where
    complete_from : (left : ℕ) (ns : List ℕ) (v : World N.Local) → Replays N (begin N main) ns v
        → most ≤ length ns + left → Completed v
    complete_from zero ns v replays enough = go (lowest v)
      where
        go : Lowest v ⊎ IsOver N main v → Completed v
        go (inr over) = is_over v over
        go (inl l) =
            let more =
            bound (ns ++ l.number ∷ []) l.after
            (replays_on N ns (l.number ∷ []) (begin N main) v l.after replays (l.after, l.goes, refl)) in
            let long = length-append ns (l.number ∷ []) in
            absurd (omega arith)
    complete_from (suc left) ns v replays enough =
        go (λ l. complete_from left (ns ++ l.number ∷ []) l.after
        (replays_on N ns (l.number ∷ []) (begin N main) v l.after replays (l.after, l.goes, refl))
        (let long = length-append ns (l.number ∷ []) in omega arith))
        (lowest v)
      where
        go : ((l : Lowest v) → Completed l.after) → Lowest v ⊎ IsOver N main v → Completed v
        go later (inr over) = is_over v over
        go later (inl l) = goes_on v l (later l)

    pub least_completes : LeastCompletes N main
    unfolding Completed
    least_completes ns v replays = complete_from most ns v replays (omega arith)

    pub schedule_completes : ScheduleCompletes N main
    schedule_completes ns v replays = let c = least_completes ns v replays in (c.0, c.1, c.3)

  module _ (counts : (t : List Path) → Counts (machine_by N t)) (of : N.Local → ℕ)
      (pays : (t : List Path) → PaysForks (machine_by N t) of) where
    pub world_count : WorldCount N main (1 + of main)
    world_count ns Both replays = tt
    world_count ns (Listing w) replays =
        let k = schedule_law N main counts ns (Listing w) replays in
        let run =
        runs_of (machine_by N k.0) (paths_at k.0 ns) (start (machine_by N k.0) main) (Live (globe_of w)) k.2.children
        (k.2.run k.0 [] k.2.distinct (sym (append-nil k.0))) in
        let many = count_law (machine_by N k.0) main of (counts k.0) (pays k.0) (Live (globe_of w))
        (record { by = paths_at k.0 ns; runs = run }) in
        let distinct : IsDistinct (paths_of w) = subst IsDistinct k.1 k.2.distinct in
        let fits = no_longer (paths_of w) many.0 distinct (λ p i. let at = in_world w p i in many.1.all p at.0 at.1) in
        let long = length-paths w in
        let few = many.2 in
        omega arith
