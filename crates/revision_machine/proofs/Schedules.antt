-- A legal schedule of numbers is a run by paths, and the other way round.
use Rattle.std.proofs.Common.{◌≡◌, ℕ, zero, suc, Bool, true, false, cond, List, [], ◌∷◌, ◌++◌, length, inl, inr, Option, Some, None, is_some, refl, sym, ap, ◌∙◌, subst, append_assoc, append-nil, arith}
use Rattle.rev_num.specs.Path.{Path, child, same}
use Rattle.revision_machine.specs.Machine.{Moves, Forks, Joins, Ended, Machine, Entry, Plain, Joined, Global, Twice, Live, start, step, step_at, happens, join_at, join_ended, Final}
use Rattle.revision_machine.specs.Conditions.{Counts, Spends, Handles, HoldsNone}
use Rattle.revision_machine.specs.Laws.{local_of, IsIn, IsDistinct, AllEnded}
use Rattle.revision_machine.specs.Numbered.{Wish, Goes, Bears, Wants, Stops, Numbered, Entries, World, Both, Listing, at_number, join_stopped, join_number, leg_of, leg_at, leg, begin, Replays, number_of, or_path, event_by, machine_by, paths_of, globe_of, shows, paths_at, HasPaths, ReadsAs, ScheduleLaw, RunIsSchedule, IsOver, AllStop, OverLaw, ScheduleBound}
use Rattle.revision_machine.specs.Births.{offspring, RunsBearing, AllKnown}
use Rattle.revision_machine.specs.Simulation.{Simulates}
use Rattle.revision_machine.specs.Schedules.{ScheduleAgrees, CompleteScheduleAgrees}
use Rattle.revision_machine.proofs.Blocked.{no_blocked_end}
use Rattle.revision_machine.proofs.Converse.{unblocked_law, complete_law}
use Rattle.revision_machine.proofs.Bearing.{runs_of, bearing_on, bears_once}
use Rattle.revision_machine.proofs.Paths.{some_inj}
use Rattle.rev_num.proofs.PostOrder.{same-eq}
use Rattle.revision_machine.proofs.Forker.{fresh_of}
use Rattle.revision_machine.proofs.Ends.{reached_forked}
use Rattle.revision_machine.proofs.Census.{bound_law}
use Rattle.revision_machine.proofs.SimulatedRuns.{run_law}
use Rattle.revision_machine.proofs.Numbers.{none_some, at_paths, in_at, in_paths, globe_there, paths_with, LegIs, leg_is, distinct_front}

paths_at-append : (t : List Path) (ns ms : List ℕ) → paths_at t (ns ++ ms) ≡ paths_at t ns ++ paths_at t ms
paths_at-append t [] ms = refl
paths_at-append t (n ∷ ns) ms = ap (λ v. or_path (at_number t n) [] ∷ v) (paths_at-append t ns ms)

length-paths_at : (t : List Path) (ns : List ℕ) → length (paths_at t ns) ≡ length ns
length-paths_at t [] = refl
length-paths_at t (n ∷ ns) = ap suc (length-paths_at t ns)

-- what stands at a path stands at a number
pub numbered : {A : Type 0} (w : List (Path × A)) (p : Path) (e : A) → globe_of w p ≡ Some e
    → (n : ℕ) × (at_number w n ≡ Some (p, e))
numbered [] p e there = none_some there
numbered {A} (x ∷ w) p e there = go (λ f. numbered w p e f) (same x.0 p) refl
  where
    go : (globe_of w p ≡ Some e → (n : ℕ) × (at_number w n ≡ Some (p, e))) → (b : Bool) → same x.0 p ≡ b
        → (n : ℕ) × (at_number (x ∷ w) n ≡ Some (p, e))
    go later true f =
        let path : x.0 ≡ p = same-eq x.0 p f in
        let entry : x.1 ≡ e = some_inj (sym (ap (λ b. cond b (Some x.1) (globe_of w p)) f) ∙ there) in
        (0, λ i. Some (path i, entry i))
    go later false f = let n = later (sym (ap (λ b. cond b (Some x.1) (globe_of w p)) f) ∙ there) in (suc n.0, n.1)

none_of : {A : Type 0} (o : Option A) → is_some o ≡ false → o ≡ None
none_of None e = refl
none_of (Some a) e = absurd (let clash : true ≡ false = e in cc)

not_some : {P : Type 0} {A : Type 0} (o : Option A) (a : A) → o ≡ Some a → is_some o ≡ false → P
not_some o a is e = absurd (let clash : true ≡ false = sym (ap is_some is) ∙ e in cc)

-- no path of a list stands at a number of the list that comes after it
at_later : (ps rest : List Path) (m : ℕ) (q : Path) → IsDistinct (ps ++ rest) → at_number ps m ≡ None
    → at_number (ps ++ rest) m ≡ Some q → IsIn q ps → ⊥
at_later [] rest m q d e f i = i
at_later (p ∷ ps) rest zero q d e f i = none_some (sym e)
at_later (p ∷ ps) rest (suc m) q d e f (inl is) = d.0 (subst (λ v. IsIn v (ps ++ rest)) is (in_at (ps ++ rest) m q f))
at_later (p ∷ ps) rest (suc m) q d e f (inr i) = at_later ps rest m q d.1 e f i

no_number : {A : Type 0} (w : List (Path × A)) (m : ℕ) → at_number w m ≡ None → at_number (paths_of w) m ≡ None
no_number [] m e = refl
no_number (x ∷ w) zero e = none_some (sym e)
no_number (x ∷ w) (suc m) e = no_number w m e

-- from Twice nothing goes on
from_twice : (M : Machine) (rs : List Path) (h : Global M.Local) (cs : List Path) → RunsBearing M Twice rs h cs
    → (rs ≡ []) × (Twice ≡ h)
from_twice M [] h cs run = (refl, run.0)
from_twice M (r ∷ rs) h cs run = none_some run.1

module _ (N : Numbered) (t rest : List Path) (w : Entries N.Local) (d : IsDistinct t) (e : t ≡ paths_of w ++ rest) where
  M : Machine
  M = machine_by N t

  distinct_paths : IsDistinct (paths_of w)
  distinct_paths = distinct_front (paths_of w) rest (subst IsDistinct e d)

  at_table : (m : ℕ) (q : Path) (f : Entry N.Local) → at_number w m ≡ Some (q, f) → at_number t m ≡ Some q
  at_table m q f there = ap (λ v. at_number v m) e ∙ at_paths w rest m q f there

  -- a number has a leg exactly where its path can step
  pub same_leg : (n : ℕ) (r : Path) (f : Entry N.Local) → at_number w n ≡ Some (r, f)
      → is_some (leg N (Listing w) n) ≡ is_some (step (machine_by N t) (Live (globe_of w)) r)
  unfolding M
  same_leg n r (Joined l) here =
      ap (λ v. is_some (leg_at N w n v)) here
      ∙ sym (ap (λ v. is_some (step_at M (globe_of w) r v)) (globe_there w n r (Joined l) distinct_paths here))
  same_leg n r (Plain l) here =
      ap (λ v. is_some (leg_at N w n v)) here ∙ of_wish (N.next l) refl
      ∙ sym (ap (λ v. is_some (step_at M (globe_of w) r v)) there)
    where
      there : globe_of w r ≡ Some (Plain l)
      there = globe_there w n r (Plain l) distinct_paths here

      of_stop : (m : ℕ) (q : Path) (lq : N.Local) (v : Wish N.Local)
          → is_some (join_stopped N w n r l m q lq v)
          ≡ is_some (join_ended M (globe_of w) r l q lq (event_by t q (N.forks lq) v))
      of_stop m q lq Stops = refl
      of_stop m q lq (Goes _) = refl
      of_stop m q lq (Bears _ _) = refl
      of_stop m q lq (Wants _) = refl

      met : ℕ → Option Path → Bool
      met m o = is_some (join_at M (globe_of w) r l (or_path o r) (globe_of w (or_path o r)))

      nobody : (m : ℕ) → N.next l ≡ Wants m → at_number w m ≡ None → (o : Option Path) → at_number t m ≡ o
          → false ≡ met m o
      nobody m wants none None f =
          sym (ap (λ v. is_some (join_at M (globe_of w) r l r v)) there
          ∙ ap (λ v. is_some (join_ended M (globe_of w) r l r l (event_by t r (N.forks l) v))) wants)
      nobody m wants none (Some q) f = absent (globe_of w q) refl
        where
          absent : (o : Option (Entry N.Local)) → globe_of w q ≡ o
              → false ≡ is_some (join_at M (globe_of w) r l q (globe_of w q))
          absent None g = sym (ap (λ v. is_some (join_at M (globe_of w) r l q v)) g)
          absent (Some x) g =
              let k = numbered w q x g in
              absurd (at_later (paths_of w) rest m q (subst IsDistinct e d) (no_number w m none)
              (sym (ap (λ v. at_number v m) e) ∙ f) (in_paths w k.0 q x k.1))

      of_target : (m : ℕ) → N.next l ≡ Wants m → (o : Option (Path × Entry N.Local)) → at_number w m ≡ o
          → is_some (join_number N w n r l m o) ≡ met m (at_number t m)
      of_target m wants None none = nobody m wants none (at_number t m) refl
      of_target m wants (Some (q, Joined lq)) g =
          sym (ap (met m) (at_table m q (Joined lq) g)
          ∙ ap (λ v. is_some (join_at M (globe_of w) r l q v)) (globe_there w m q (Joined lq) distinct_paths g))
      of_target m wants (Some (q, Plain lq)) g =
          of_stop m q lq (N.next lq)
          ∙ sym (ap (met m) (at_table m q (Plain lq) g)
          ∙ ap (λ v. is_some (join_at M (globe_of w) r l q v)) (globe_there w m q (Plain lq) distinct_paths g))

      of_wish : (v : Wish N.Local) → N.next l ≡ v
          → is_some (leg_of N w n r l v) ≡ is_some (happens M (globe_of w) r l (event_by t r (N.forks l) v))
      of_wish (Goes l') g = refl
      of_wish (Bears f c) g = refl
      of_wish (Wants m) g = of_target m g (at_number w m) refl
      of_wish Stops g = refl

module _ (N : Numbered) (main : N.Local) (counts : (t : List Path) → Counts (machine_by N t)) where
  Known : List ℕ → World N.Local → Type 0
  Known ns w = (paths : List Path) × HasPaths N main w paths × ReadsAs N main ns w paths

  fresh_in : (w : Entries N.Local) (ns : List ℕ) → ReadsAs N main ns (Listing w) (paths_of w) → (r : Path) (l : N.Local)
      → globe_of w r ≡ Some (Plain l) → globe_of w (child r (N.forks l)) ≡ None
  fresh_in w ns is =
      let M : Machine = machine_by N (paths_of w) in
      fresh_of M (globe_of w) (reached_forked M main (counts (paths_of w)) (Live (globe_of w)) (record {
        by = paths_at (paths_of w) ns;
        runs = runs_of M (paths_at (paths_of w) ns) (start M main) (Live (globe_of w)) is.children
            (is.run (paths_of w) [] is.distinct (sym (append-nil (paths_of w))));
      }))

  pub leg_of_read : (w : Entries N.Local) (ns : List ℕ) → ReadsAs N main ns (Listing w) (paths_of w)
      → (n : ℕ) (u : World N.Local) → leg N (Listing w) n ≡ Some u → LegIs N w n u
  leg_of_read w ns is n u s = leg_is N w is.distinct (fresh_in w ns is) n u s

  pub read_leg : (w : Entries N.Local) (ns : List ℕ) → ReadsAs N main ns (Listing w) (paths_of w)
      → (n : ℕ) (u : World N.Local) → LegIs N w n u → ReadsAs N main (ns ++ n ∷ []) u (paths_with N w u)
  read_leg w ns is n u one = record {
    distinct = one.distinct;
    children = is.children ++ one.more;
    are = one.grows ∙ ap (λ v. v ++ one.more) is.are;
    run = run';
  }
    where
      run' : (t rest : List Path) → IsDistinct t → t ≡ paths_with N w u ++ rest
          → RunsBearing (machine_by N t) (start (machine_by N t) main) (paths_at t (ns ++ n ∷ [])) (shows u)
          (is.children ++ one.more)
      run' t rest d e =
          let split : t ≡ paths_of w ++ (one.more ++ rest) =
          e ∙ ap (λ v. v ++ rest) one.grows ∙ append_assoc (paths_of w) one.more rest in
          let before = is.run t (one.more ++ rest) d split in
          let path : or_path (at_number t n) [] ≡ one.path =
          ap (λ v. or_path v [])
          (ap (λ v. at_number v n) split ∙ at_paths w (one.more ++ rest) n one.path (Plain one.state) one.stands) in
          let all : paths_at t (ns ++ n ∷ []) ≡ paths_at t ns ++ one.path ∷ [] =
          paths_at-append t ns (n ∷ []) ∙ ap (λ v. paths_at t ns ++ v ∷ []) path in
          let once =
          bears_once (machine_by N t) (Live (globe_of w)) (shows u) one.path one.more (one.steps t rest d e)
          (one.bears t) in
          subst (λ v. RunsBearing (machine_by N t) (start (machine_by N t) main) v (shows u) (is.children ++ one.more))
          (sym all) (bearing_on (machine_by N t) (paths_at t ns) (one.path ∷ []) (start (machine_by N t) main)
          (Live (globe_of w)) (shows u) is.children one.more before once)

  has_paths : (w : Entries N.Local) (u : World N.Local) → HasPaths N main u (paths_with N w u)
  has_paths w Both = tt
  has_paths w (Listing w') = refl

  known : (ms ns : List ℕ) (v u : World N.Local) → Known ms v → Replays N v ns u → Known (ms ++ ns) u
  unfolding Known
  known ms [] v u k replays = subst (λ x. Known x u) (sym (append-nil ms)) (subst (Known ms) replays k)
  known ms (n ∷ ns) Both u k replays = none_some replays.1
  known ms (n ∷ ns) (Listing w) u k replays =
      let is : ReadsAs N main ms (Listing w) (paths_of w) = subst (ReadsAs N main ms (Listing w)) k.1 k.2 in
      let one = leg_of_read w ms is n replays.0 replays.1 in
      subst (λ x. Known x u) (append_assoc ms (n ∷ []) ns)
      (known (ms ++ n ∷ []) ns replays.0 u
      (paths_with N w replays.0, has_paths w replays.0, read_leg w ms is n replays.0 one) replays.2)

  pub begins : ReadsAs N main [] (begin N main) ([] ∷ [])
  begins = record { distinct = (λ v. v, tt); children = []; are = refl; run = λ t rest d e. (refl, refl) }

  pub schedule_law : ScheduleLaw N main
  unfolding Known
  schedule_law ns w replays = known [] ns (begin N main) w ([] ∷ [], refl, begins) replays

  pub schedule_bound : (of : N.Local → ℕ) → ((t : List Path) → Spends (machine_by N t) 1 of)
      → ScheduleBound N main (of main)
  schedule_bound of spends ns w replays =
      let k = schedule_law ns w replays in
      let most =
      bound_law (machine_by N k.0) main of (counts k.0) (spends k.0) (shows w) (paths_at k.0 ns)
      (runs_of (machine_by N k.0) (paths_at k.0 ns) (start (machine_by N k.0) main) (shows w) k.2.children
      (k.2.run k.0 [] k.2.distinct (sym (append-nil k.0)))) in
      let long = length-paths_at k.0 ns in
      omega arith

  pub over_law : OverLaw N main
  over_law ns Both replays t rest paths has d e = (λ over r. refl, λ final n. refl)
  over_law ns (Listing w) replays t rest paths has d e = (is_final, is_over)
    where
      e' : t ≡ paths_of w ++ rest
      e' = e ∙ ap (λ v. v ++ rest) has

      is_final : IsOver N main (Listing w) → Final (machine_by N t) (shows (Listing w))
      is_final over r = at (globe_of w r) refl
        where
          at : (o : Option (Entry N.Local)) → globe_of w r ≡ o → step (machine_by N t) (Live (globe_of w)) r ≡ None
          at None there = ap (step_at (machine_by N t) (globe_of w) r) there
          at (Some f) there =
              let n = numbered w r f there in
              none_of (step (machine_by N t) (Live (globe_of w)) r)
              (sym (same_leg N t rest w d e' n.0 r f n.1) ∙ ap is_some (over n.0))

      is_over : Final (machine_by N t) (shows (Listing w)) → IsOver N main (Listing w)
      is_over final n = at (at_number w n) refl
        where
          at : (o : Option (Path × Entry N.Local)) → at_number w n ≡ o → leg N (Listing w) n ≡ None
          at None here = ap (leg_at N w n) here
          at (Some (r, f)) here =
              none_of (leg N (Listing w) n) (same_leg N t rest w d e' n r f here ∙ ap is_some (final r))

  Found : List Path → World N.Local → List Path → Global N.Local → Type 0
  Found t v rs h = (ns : List ℕ) × (u : World N.Local) × Replays N v ns u × (shows u ≡ h) × (paths_at t ns ≡ rs)

  follow : (rs : List Path) (w : Entries N.Local) (ms : List ℕ) → ReadsAs N main ms (Listing w) (paths_of w)
      → (t rest cs : List Path) (h : Global N.Local) → IsDistinct t → t ≡ (paths_of w ++ cs) ++ rest
      → RunsBearing (machine_by N t) (Live (globe_of w)) rs h cs → Found t (Listing w) rs h
  unfolding Found
  follow [] w ms is t rest cs h d e run = ([], Listing w, refl, run.0, refl)
  follow (r ∷ rs) w ms is t rest cs h d e run =
      of_entry (λ w' ms' is' ds e' run'. follow rs w' ms' is' t rest ds h d e' run') (globe_of w r) refl
    where
      Later : Type 0
      Later = (w' : Entries N.Local) (ms' : List ℕ) → ReadsAs N main ms' (Listing w') (paths_of w') → (ds : List Path)
          → t ≡ (paths_of w' ++ ds) ++ rest → RunsBearing (machine_by N t) (Live (globe_of w')) rs h ds
          → Found t (Listing w') rs h

      split : t ≡ paths_of w ++ (cs ++ rest)
      split = e ∙ append_assoc (paths_of w) cs rest

      path_at : (n : ℕ) (f : Entry N.Local) → at_number w n ≡ Some (r, f) → or_path (at_number t n) [] ≡ r
      path_at n f here = ap (λ v. or_path v []) (ap (λ v. at_number v n) split ∙ at_paths w (cs ++ rest) n r f here)

      goes : (n : ℕ) → or_path (at_number t n) [] ≡ r → (u : World N.Local) → leg N (Listing w) n ≡ Some u
          → Found t u rs h → Found t (Listing w) (r ∷ rs) h
      goes n at u s later = (
        n ∷ later.0,
        later.1,
        (u, s, later.2),
        later.3,
        ap (λ v. v ∷ paths_at t later.0) at ∙ ap (λ v. r ∷ v) later.4,
      )

      ends : (n : ℕ) → LegIs N w n Both → run.0 ≡ Twice → Found t Both rs h
      ends n one is_twice =
          let end =
          from_twice (machine_by N t) rs h run.2
          (subst (λ v. RunsBearing (machine_by N t) v rs h run.2) is_twice run.4) in
          ([], Both, refl, end.1, sym end.0)

      of_world : Later → (n : ℕ) (u : World N.Local) → LegIs N w n u → t ≡ (paths_with N w u ++ run.2) ++ rest
          → run.0 ≡ shows u → Found t u rs h
      of_world later n Both one split' is' = ends n one is'
      of_world later n (Listing w') one split' is' =
          later w' (ms ++ n ∷ []) (read_leg w ms is n (Listing w') one) run.2 split'
          (subst (λ v. RunsBearing (machine_by N t) v rs h run.2) is' run.4)

      of_leg : Later → (f : Entry N.Local) (n : ℕ) → at_number w n ≡ Some (r, f) → (o : Option (World N.Local))
          → leg N (Listing w) n ≡ o → Found t (Listing w) (r ∷ rs) h
      of_leg later f n here None s =
          not_some (step (machine_by N t) (Live (globe_of w)) r) run.0 run.1
          (sym (same_leg N t (cs ++ rest) w d split n r f here) ∙ ap is_some s)
      of_leg later f n here (Some u) s = goes n (path_at n f here) u s (of_world later n u one t_is m_is)
        where
          one : LegIs N w n u
          one = leg_of_read w ms is n u s

          path_is : one.path ≡ r
          path_is = ap (λ v. v.0) (some_inj (sym one.stands ∙ here))

          cs_is : cs ≡ one.more ++ run.2
          cs_is = run.3
              ∙ ap (λ v. v ++ run.2) (ap (offspring (machine_by N t) (Live (globe_of w))) (sym path_is) ∙ one.bears t)

          t_is : t ≡ (paths_with N w u ++ run.2) ++ rest
          t_is =
              e ∙ ap (λ v. (paths_of w ++ v) ++ rest) cs_is
              ∙ ap (λ v. v ++ rest) (sym (append_assoc (paths_of w) one.more run.2))
              ∙ ap (λ v. (v ++ run.2) ++ rest) (sym one.grows)

          m_is : run.0 ≡ shows u
          m_is = some_inj (sym run.1 ∙ ap (step (machine_by N t) (Live (globe_of w))) (sym path_is)
              ∙ one.steps t (run.2 ++ rest) d (t_is ∙ append_assoc (paths_with N w u) run.2 rest))

      of_entry : Later → (o : Option (Entry N.Local)) → globe_of w r ≡ o → Found t (Listing w) (r ∷ rs) h
      of_entry later None there = none_some (sym (ap (step_at (machine_by N t) (globe_of w) r) there) ∙ run.1)
      of_entry later (Some f) there =
          let n = numbered w r f there in of_leg later f n.0 n.1 (leg N (Listing w) n.0) refl

  pub run_is_schedule : RunIsSchedule N main
  unfolding Found
  run_is_schedule t rest cs rs h d e run = follow rs (([], Plain main) ∷ []) [] begins t rest cs h d e run

module _ (A : Machine) (N : Numbered) (R : List Path → Path → A.Local → N.Local → Type 0) (a : A.Local)
    (main : N.Local) where
  module _ (counts : (t : List Path) → Counts (machine_by N t))
      (sim : (t : List Path) → Simulates A (machine_by N t) (R t) (λ p. IsIn p t))
      (related : (t : List Path) → IsIn [] t → R t [] a main) where
    children_in : (ns : List ℕ) (w : World N.Local)
        (k : (paths : List Path) × HasPaths N main w paths × ReadsAs N main ns w paths)
        → AllKnown (λ p. IsIn p k.0) k.2.children
    children_in ns w k c i = subst (IsIn c) (sym k.2.are) (inr i)

    first_in : (ns : List ℕ) (w : World N.Local)
        (k : (paths : List Path) × HasPaths N main w paths × ReadsAs N main ns w paths)
        → R k.0 [] a main
    first_in ns w k = related k.0 (subst (IsIn []) (sym k.2.are) (inl refl))

    pub schedule_agrees : ScheduleAgrees A N R a main
    schedule_agrees ns w replays =
        let k = schedule_law N main counts ns w replays in
        let run =
        run_law A (machine_by N k.0) (R k.0) (λ p. IsIn p k.0) a main (sim k.0) (first_in ns w k) (paths_at k.0 ns)
        k.2.children (shows w) (k.2.run k.0 [] k.2.distinct (sym (append-nil k.0))) (children_in ns w k) in
        record {
          table = k.0;
          own = k.1;
          distinct = k.2.distinct;
          by = run.0;
          state = run.1;
          runs = run.2;
          agrees = run.3;
        }

    -- where the machine by a table has ended everywhere, so has the world
    all_stop : (t : List Path) (w : World N.Local) → HasPaths N main w t → IsDistinct t
        → AllEnded (machine_by N t) (shows w) → AllStop N main w
    all_stop t Both own distinct ended = tt
    all_stop t (Listing w) own distinct ended = λ n r e here.
        of_wish r (N.forks (local_of e)) (N.next (local_of e))
        (ended.each r e (globe_there w n r e (subst IsDistinct own distinct) here))
      where
        of_wish : (r : Path) (k : ℕ) (v : Wish N.Local) → event_by t r k v ≡ Ended → v ≡ Stops
        of_wish r k Stops is = refl
        of_wish r k (Goes l) is = absurd (let clash : Moves l ≡ Ended = is in cc)
        of_wish r k (Bears f c) is = absurd (let clash : Forks (f (number_of t (child r k))) c ≡ Ended = is in cc)
        of_wish r k (Wants m) is = absurd (let clash : Joins (or_path (at_number t m) r) ≡ Ended = is in cc)

    pub complete_schedule_agrees : (holds : A.Local → Path → Type 0) → Counts A → Handles A holds → HoldsNone A holds a
        → CompleteScheduleAgrees A N R a main
    complete_schedule_agrees holds counts_a H none ns w replays over =
        let k = schedule_law N main counts ns w replays in
        let final = (over_law N main counts ns w replays k.0 [] k.0 k.1 k.2.distinct (sym (append-nil k.0))).0 over in
        let run =
        complete_law A (machine_by N k.0) (R k.0) (λ p. IsIn p k.0) a main (sim k.0) holds counts_a H none
        (first_in ns w k) (counts k.0) (paths_at k.0 ns) k.2.children (shows w)
        (k.2.run k.0 [] k.2.distinct (sym (append-nil k.0))) (children_in ns w k) final in
        record {
          matches = record {
            table = k.0;
            own = k.1;
            distinct = k.2.distinct;
            by = run.0;
            state = run.1;
            runs = run.2.runs;
            agrees = run.3;
          };
          final = run.2.final;
          stopped = all_stop k.0 w k.1 k.2.distinct
              (unblocked_law A (machine_by N k.0) (R k.0) (λ p. IsIn p k.0) a main (sim k.0) holds counts_a H none
              (first_in ns w k) (counts k.0) (paths_at k.0 ns) k.2.children (shows w)
              (k.2.run k.0 [] k.2.distinct (sym (append-nil k.0))) (children_in ns w k) final);
          ended = no_blocked_end A a holds counts_a H none run.1 (record { by = run.0; runs = run.2.runs }) run.2.final;
        }
