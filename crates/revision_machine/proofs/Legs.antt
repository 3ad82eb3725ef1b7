-- Each leg of a legal schedule is some number of steps of one revision of the other machine.
use Rattle.std.proofs.Common.{◌≡◌, ℕ, List, [], ◌∷◌, ◌++◌, inl, Some, refl, sym, ap, ◌∙◌, subst, append_assoc, append-nil}
use Rattle.rev_num.specs.Path.{Path}
use Rattle.revision_machine.specs.Machine.{Machine, Plain, Global, Live, nowhere, start}
use Rattle.revision_machine.specs.Conditions.{Counts}
use Rattle.revision_machine.specs.Laws.{IsIn, IsDistinct}
use Rattle.revision_machine.specs.Births.{offspring, AllKnown}
use Rattle.revision_machine.specs.Simulation.{Simulates, Agrees, StepsTo}
use Rattle.revision_machine.specs.Numbered.{Numbered, Entries, World, Both, Listing, at_number, leg, Replays, machine_by, paths_of, globe_of, shows, HasPaths, ReadsAs}
use Rattle.revision_machine.specs.Schedules.{LegsAgree, LegLaw}
use Rattle.revision_machine.proofs.Numbers.{none_some, at_paths, paths_with, LegIs}
use Rattle.revision_machine.proofs.SimulatedRuns.{step_law, agree_put}
use Rattle.revision_machine.proofs.Schedules.{leg_of_read, read_leg, begins}
use Rattle.revision_machine.proofs.Bearing.{in_front, in_back}

module _ (A : Machine) (N : Numbered) (R : List Path → Path → A.Local → N.Local → Type 0) (a : A.Local)
    (main : N.Local) where
  module _ (counts : (t : List Path) → Counts (machine_by N t))
      (sim : (t : List Path) → Simulates A (machine_by N t) (R t) (λ p. IsIn p t))
      (related : (t : List Path) → IsIn [] t → R t [] a main) where
    -- by any table that begins with these paths, A goes on leg by leg from a state that agrees
    Follows : Entries N.Local → List ℕ → World N.Local → List Path → Type 0
    Follows w ns u paths =
        (t rest : List Path) → IsDistinct t → t ≡ paths ++ rest → (g : Global A.Local)
        → Agrees A (machine_by N t) (R t) g (Live (globe_of w))
        → (h : Global A.Local) × LegsAgree A N R a main t g (Listing w) ns h u

    Walk : Entries N.Local → List ℕ → World N.Local → Type 0
    Walk w ns u =
        (paths : List Path) × HasPaths N main u paths × IsDistinct paths × (more : List Path)
        × (paths ≡ paths_of w ++ more) × Follows w ns u paths

    -- one leg
    leg_steps : (w : Entries N.Local) (n : ℕ) (v : World N.Local) (one : LegIs N w n v) (t rest : List Path)
        → IsDistinct t → t ≡ paths_with N w v ++ rest → (g : Global A.Local)
        → Agrees A (machine_by N t) (R t) g (Live (globe_of w)) → StepsTo A (machine_by N t) (R t) one.path g (shows v)
    leg_steps w n v one t rest d e g agrees =
        step_law A (machine_by N t) (R t) (λ p. IsIn p t) (sim t) g (Live (globe_of w)) (shows v) one.path agrees
        (one.steps t rest d e) known
      where
        in_table : (c : Path) → IsIn c one.more → IsIn c t
        in_table c i =
            subst (IsIn c) (sym (e ∙ ap (λ p. p ++ rest) one.grows))
            (in_front (paths_of w ++ one.more) rest c (in_back (paths_of w) one.more c i))

        known : AllKnown (λ p. IsIn p t) (offspring (machine_by N t) (Live (globe_of w)) one.path)
        known c i = in_table c (subst (IsIn c) (one.bears t) i)

    -- its number is that of its path
    leg_number : (w : Entries N.Local) (n : ℕ) (v : World N.Local) (one : LegIs N w n v) (t rest : List Path)
        → t ≡ paths_with N w v ++ rest → at_number t n ≡ Some one.path
    leg_number w n v one t rest e =
        ap (λ p. at_number p n) (e ∙ ap (λ p. p ++ rest) one.grows ∙ append_assoc (paths_of w) one.more rest)
        ∙ at_paths w (one.more ++ rest) n one.path (Plain one.state) one.stands

    walk : (ns ms : List ℕ) (w : Entries N.Local) → ReadsAs N main ms (Listing w) (paths_of w) → (u : World N.Local)
        → Replays N (Listing w) ns u → Walk w ns u
    unfolding Walk Follows
    walk [] ms w is u replays = (
      paths_of w,
      subst (λ v. HasPaths N main v (paths_of w)) replays refl,
      is.distinct,
      [],
      sym (append-nil (paths_of w)),
      λ t rest d e g agrees. (g, (refl, replays)),
    )
    walk (n ∷ ns) ms w is u replays =
        of_leg (λ w' is' r. walk ns (ms ++ n ∷ []) w' is' u r) replays.0 replays.1 replays.2
      where
        Later : Type 0
        Later = (w' : Entries N.Local) → ReadsAs N main (ms ++ n ∷ []) (Listing w') (paths_of w')
            → Replays N (Listing w') ns u → Walk w' ns u

        of_both : (ks : List ℕ) → ks ≡ ns → leg N (Listing w) n ≡ Some Both → Replays N Both ks u → LegIs N w n Both
            → Walk w (n ∷ ns) u
        of_both (k ∷ ks) at s rest one = none_some rest.1
        of_both [] at s rest one = (
          paths_of w,
          subst (λ v. HasPaths N main v (paths_of w)) rest tt,
          is.distinct,
          [],
          sym (append-nil (paths_of w)),
          follows,
        )
          where
            follows : Follows w (n ∷ ns) u (paths_of w)
            follows t after d e g agrees =
                let steps = leg_steps w n Both one t after d e g agrees in (
                  steps.end,
                  subst (λ v. LegsAgree A N R a main t g (Listing w) (n ∷ v) steps.end u) at (
                    Both,
                    s,
                    one.path,
                    leg_number w n Both one t after e,
                    steps.times,
                    steps.end,
                    steps.runs,
                    steps.agrees,
                    (refl, rest),
                  ),
                )

        of_leg : Later → (v : World N.Local) → leg N (Listing w) n ≡ Some v → Replays N v ns u → Walk w (n ∷ ns) u
        of_leg later Both s rest = of_both ns refl s rest (leg_of_read N main counts w ms is n Both s)
        of_leg later (Listing w') s rest = (after.0, after.1, after.2, one.more ++ after.3, grown, follows)
          where
            one : LegIs N w n (Listing w')
            one = leg_of_read N main counts w ms is n (Listing w') s

            after : Walk w' ns u
            after = later w' (read_leg N main counts w ms is n (Listing w') one) rest

            grown : after.0 ≡ paths_of w ++ (one.more ++ after.3)
            grown = after.4 ∙ ap (λ p. p ++ after.3) one.grows ∙ append_assoc (paths_of w) one.more after.3

            follows : Follows w (n ∷ ns) u after.0
            follows t end d e g agrees =
                let split : t ≡ paths_of w' ++ (after.3 ++ end) =
                e ∙ ap (λ p. p ++ end) after.4 ∙ append_assoc (paths_of w') after.3 end in
                let steps = leg_steps w n (Listing w') one t (after.3 ++ end) d split g agrees in
                let more = after.5 t end d e steps.end steps.agrees in (
                  more.0,
                  (
                    Listing w',
                    s,
                    one.path,
                    leg_number w n (Listing w') one t (after.3 ++ end) split,
                    steps.times,
                    steps.end,
                    steps.runs,
                    steps.agrees,
                    more.1,
                  ),
                )

    pub leg_law : LegLaw A N R a main
    unfolding Walk Follows
    leg_law ns w replays =
        let all = walk ns [] (([], Plain main) ∷ []) (begins N main counts) w replays in
        record {
          paths = all.0;
          own = all.1;
          distinct = all.2;
          legs = λ t rest d e.
              all.5 t rest d e (start A a)
              (agree_put A (machine_by N t) (R t) nowhere nowhere (λ p. tt) [] (Plain a) (Plain main)
              (related t (subst (IsIn []) (sym (e ∙ ap (λ p. p ++ rest) all.4)) (inl refl))));
        }
