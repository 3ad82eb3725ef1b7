-- Each revision has its forker, and no fork takes the place of a revision.
use Rattle.std.proofs.Common.{◌≡◌, ◌≢◌, ◌⊎◌, inl, inr, ℕ, ◌<◌, ◌≤◌, [], ◌∷◌, Option, Some, None, refl, sym, ap, ◌∙◌, subst, arith}
use Rattle.rev_num.specs.Path.{Path, child}
use Rattle.revision_machine.specs.PathMap.{with_at}
use Rattle.revision_machine.specs.Machine.{Machine, Entry, Plain, Joined, Global, Twice, Live, nowhere, Revisions, start, step}
use Rattle.revision_machine.specs.Conditions.{Counts}
use Rattle.revision_machine.specs.Laws.{local_of, HasForker, IsForked, WellForked}
use Rattle.revision_machine.proofs.Paths.{some_inj, child-same, decide_same}
use Rattle.revision_machine.proofs.Way.{put_two, Role, Way, writes, twice, way, Place, own, new, marks, place}
use Rattle.revision_machine.proofs.Diamond.{two_here, two_there, two_other, IsFresh, gone}

module _ (M : Machine) where
  pub fresh_of : (revs : Revisions M) → IsForked M revs → IsFresh M revs
  fresh_of revs forked r l here = go (revs (child r (M.forks l))) refl
    where
      go : (e : Option (Entry M.Local)) → revs (child r (M.forks l)) ≡ e → revs (child r (M.forks l)) ≡ None
      go None f = f
      go (Some e) f =
          let has = forked r (M.forks l) e f in
          let is : has.forker ≡ Plain l = some_inj (sym has.stands ∙ here) in
          let less : M.forks l < M.forks l = subst (λ v. M.forks l < M.forks (local_of v)) is has.counted in
          absurd (omega arith)

  pub forked_step : Counts M → (revs : Revisions M) → IsForked M revs
      → (s : Path) (l l' : M.Local) (o : Path) (e : Entry M.Local) → revs s ≡ Some (Plain l) → Role M revs s l l' o e
      → IsForked M (put_two revs s (Plain l') o e)
  forked_step counts revs forked s l l' o e here x r k f there =
      go (decide_same s (child r k)) (decide_same o (child r k)) (place M x)
    where
      after : Revisions M
      after = put_two revs s (Plain l') o e

      not_less : Place M revs s l l' o e → M.forks l ≤ M.forks l'
      not_less (own does _ _) = let h = counts.moves s l l' does in omega arith
      not_less (new c does _ _) = let h = counts.forker s l l' c does in omega arith
      not_less (marks lq does _ _ is _) = let h = ap M.forks is ∙ counts.joins s o l lq does in omega arith

      -- the forker of one that stood before
      still : HasForker M revs r k → HasForker M after r k
      still has = at (decide_same s r) (decide_same o r) (place M x)
        where
          at : (s ≡ r) ⊎ (s ≢ r) → (o ≡ r) ⊎ (o ≢ r) → Place M revs s l l' o e → HasForker M after r k
          at (inl sr) y z =
              let is : has.forker ≡ Plain l = some_inj (sym has.stands ∙ ap revs (sym sr) ∙ here) in
              let was : k < M.forks l = subst (λ v. k < M.forks (local_of v)) is has.counted in
              let up : M.forks l ≤ M.forks l' = not_less z in
              record {
                forker = Plain l';
                stands = ap after (sym sr) ∙ two_here revs s o (Plain l') e;
                counted = omega arith;
              }
          at (inr sr) (inr or) z = record {
            forker = has.forker;
            stands = two_other revs s o (Plain l') e r sr or ∙ has.stands;
            counted = has.counted;
          }
          at (inr sr) (inl or) (own _ a _) = absurd (sr (sym a ∙ or))
          at (inr sr) (inl or) (new c _ a _) =
              gone M revs r (ap revs (sym or ∙ a) ∙ fresh_of revs forked s l here) has.stands
          at (inr sr) (inl or) (marks lq _ was _ _ ee) =
              let is : has.forker ≡ Plain lq = some_inj (sym has.stands ∙ ap revs (sym or) ∙ was) in
              record {
                forker = Joined lq;
                stands = ap after (sym or) ∙ two_there revs s o (Plain l') e (λ v. sr (v ∙ or)) ∙ ap Some ee;
                counted = subst (λ v. k < M.forks (local_of v)) is has.counted;
              }

      go : (s ≡ child r k) ⊎ (s ≢ child r k) → (o ≡ child r k) ⊎ (o ≢ child r k) → Place M revs s l l' o e
          → HasForker M after r k
      go (inl y) z p = still (forked r k (Plain l) (ap revs (sym y) ∙ here))
      go (inr y) (inr z) p = still (forked r k f (sym (two_other revs s o (Plain l') e (child r k) y z) ∙ there))
      go (inr y) (inl z) (own _ a _) = absurd (y (sym a ∙ z))
      go (inr y) (inl z) (marks lq _ was _ _ _) = still (forked r k (Plain lq) (ap revs (sym z) ∙ was))
      go (inr y) (inl z) (new c does a _) =
          let both = child-same s r (M.forks l) k (sym a ∙ z) in
          let up = counts.forker s l l' c does in
          let less : k < M.forks l' = omega (arith, both.1) in
          record { forker = Plain l'; stands = ap after (sym both.0) ∙ two_here revs s o (Plain l') e; counted = less }

  pub keeps_forked : Counts M → (g h : Global M.Local) (r : Path) → WellForked M g → step M g r ≡ Some h
      → WellForked M h
  keeps_forked counts Twice h r good s = elim_none s
    where
      elim_none : {P : Type 0} → None ≡ Some h → P
      elim_none e = absurd cc
  keeps_forked counts (Live revs) h r good s = by h (way M revs r h s)
    where
      by : (h : Global M.Local) → Way M revs r h → WellForked M h
      by h (writes l l' o e here x) = forked_step counts revs good r l l' o e here x
      by h (twice l q lq here does there) = tt

  root_alone : (m : M.Local) (r : Path) (k : ℕ) (e : Entry M.Local) → with_at nowhere [] (Plain m) (child r k) ≡ Some e
      → ⊥
  root_alone m [] k e s = cc
  root_alone m (x ∷ r) k e s = cc

  pub start_forked : (main : M.Local) → WellForked M (start M main)
  start_forked main r k e s = absurd (root_alone main r k e s)
