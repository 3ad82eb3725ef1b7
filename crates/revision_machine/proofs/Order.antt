-- Each handle precedes its holder, and so no complete run is blocked.
use Rattle.std.proofs.Common.{◌≡◌, ◌≢◌, ◌⊎◌, inl, inr, ℕ, ◌<◌, true, [], ◌∷◌, ◌++◌, Some, sym, ap, ◌∙◌, subst, arith, append_assoc, IsTrue}
use Rattle.rev_num.specs.Path.{Path, child, before}
use Rattle.revision_machine.specs.Machine.{Machine, Entry, Plain, Joined, Revisions}
use Rattle.revision_machine.specs.Conditions.{Handles}
use Rattle.revision_machine.specs.Laws.{local_of, HasForker, IsForked, IsBelow, IsOrdered}
use Rattle.revision_machine.proofs.Paths.{some_inj, child-apart, decide_same}
use Rattle.revision_machine.proofs.PostOrder.{before-child, IsWithin}
use Rattle.rev_num.proofs.PostOrder.{before_trans, child_before}
use Rattle.revision_machine.proofs.Way.{put_two, Role, Place, own, new, marks, place}
use Rattle.revision_machine.proofs.Diamond.{two_here, two_there, two_other}

module _ (M : Machine) where
  -- a revision below r's j-th child tells that this child was forked
  forked_above : (revs : Revisions M) → IsForked M revs → (rest : Path) (r : Path) (j : ℕ) (e : Entry M.Local)
      → revs (r ++ j ∷ rest) ≡ Some e → HasForker M revs r j
  forked_above revs forked [] r j e there = forked r j e there
  forked_above revs forked (k ∷ rest) r j e there =
      let above =
      forked_above revs forked rest (child r j) k e (ap revs (append_assoc r (j ∷ []) (k ∷ rest)) ∙ there) in
      forked r j above.forker above.stands

  -- what stood still stands
  still : (revs : Revisions M) (s : Path) (l' : M.Local) (o : Path) (e : Entry M.Local) (q : Path) (f : Entry M.Local)
      → revs q ≡ Some f → (g : Entry M.Local) × (put_two revs s (Plain l') o e q ≡ Some g)
  still revs s l' o e q f there = go (decide_same s q) (decide_same o q)
    where
      go : (s ≡ q) ⊎ (s ≢ q) → (o ≡ q) ⊎ (o ≢ q) → (g : Entry M.Local) × (put_two revs s (Plain l') o e q ≡ Some g)
      go (inl a) b = (Plain l', ap (put_two revs s (Plain l') o e) (sym a) ∙ two_here revs s o (Plain l') e)
      go (inr a) (inl b) =
          (e, ap (put_two revs s (Plain l') o e) (sym b) ∙ two_there revs s o (Plain l') e (λ v. a (v ∙ b)))
      go (inr a) (inr b) = (f, two_other revs s o (Plain l') e q a b ∙ there)

  pub ordered_step : (holds : M.Local → Path → Type 0) (H : Handles M holds) (revs : Revisions M) → IsForked M revs
      → IsOrdered M holds revs → (s : Path) (l l' : M.Local) (o : Path) (e : Entry M.Local) → revs s ≡ Some (Plain l)
      → Role M revs s l l' o e → IsOrdered M holds (put_two revs s (Plain l') o e)
  ordered_step holds H revs forked ordered s l l' o e here x r q f there held =
      go (decide_same s r) (decide_same o r) (place M x)
    where
      after : Revisions M
      after = put_two revs s (Plain l') o e

      -- a handle of before, under a holder that is not earlier
      kept : (p : Path) → IsBelow M revs p q → IsTrue (before q r) → IsBelow M after r q
      kept p b early =
          let on = still revs s l' o e q b.entry b.stands in record { entry = on.0; stands = on.1; earlier = early }

      is : (p : Path) (g : Entry M.Local) → p ≡ r → after p ≡ Some g → holds (local_of g) q
      is p g pr at = subst (λ v. holds (local_of v) q) (some_inj (sym there ∙ ap after (sym pr) ∙ at)) held

      at_s : holds l q → s ≡ r → IsBelow M after r q
      at_s h sr = let b = ordered s q (Plain l) here h in kept s b (subst (λ v. IsTrue (before q v)) sr b.earlier)

      go : (s ≡ r) ⊎ (s ≢ r) → (o ≡ r) ⊎ (o ≢ r) → Place M revs s l l' o e → IsBelow M after r q
      go (inl sr) z (own does _ _) =
          at_s (H.moves s q l l' does (is s (Plain l') sr (two_here revs s o (Plain l') e))) sr
      go (inl sr) z (new c does a _) =
          of_fork (H.forker s q l l' c does (is s (Plain l') sr (two_here revs s o (Plain l') e)))
        where
          of_fork : holds l q ⊎ (q ≡ child s (M.forks l)) → IsBelow M after r q
          of_fork (inl h) = at_s h sr
          of_fork (inr h) =
              let qo : o ≡ q = a ∙ sym h in
              record {
                entry = e;
                stands = ap after (sym qo) ∙ two_there revs s o (Plain l') e (λ v. child-apart s (M.forks l) (v ∙ a));
                earlier = subst (λ v. IsTrue (before v r)) (sym h)
                    (subst (λ v. IsTrue (before (child s (M.forks l)) v)) sr (child_before s (M.forks l)));
              }
      go (inl sr) z (marks lq does was ended jl ee) =
          of_join (H.joins s o q l lq does ended
          (subst (λ v. holds v q) jl (is s (Plain l') sr (two_here revs s o (Plain l') e))))
        where
          of_join : holds l q ⊎ holds lq q → IsBelow M after r q
          of_join (inl h) = at_s h sr
          of_join (inr h) =
              let b = ordered o q (Plain lq) was h in
              let w = ordered s o (Plain l) here (H.wants s o l does) in
              kept o b (subst (λ v. IsTrue (before q v)) sr (before_trans q o s b.earlier w.earlier))
      go (inr sr) (inr or) p =
          let b = ordered r q f (sym (two_other revs s o (Plain l') e r sr or) ∙ there) held in kept r b b.earlier
      go (inr sr) (inl or) (own _ a _) = absurd (sr (sym a ∙ or))
      go (inr sr) (inl or) (marks lq _ was _ _ ee) =
          let h : holds lq q = is o (Joined lq) or (two_there revs s o (Plain l') e (λ v. sr (v ∙ or)) ∙ ap Some ee) in
          let b = ordered o q (Plain lq) was h in
          kept o b (subst (λ v. IsTrue (before q v)) or b.earlier)
      go (inr sr) (inl or) (new c does a ee) =
          let h : holds c q = is o (Plain c) or (two_there revs s o (Plain l') e (λ v. sr (v ∙ or)) ∙ ap Some ee) in
          let b = ordered s q (Plain l) here (H.forked s q l l' c does h) in
          of_child b (before-child q s (M.forks l) b.earlier)
        where
          of_child : IsBelow M revs s q → (before q (child s (M.forks l)) ≡ true) ⊎ IsWithin s (M.forks l) q
              → IsBelow M after r q
          of_child b (inl early) = kept s b (subst (λ v. IsTrue (before q v)) (sym a ∙ or) early)
          of_child b (inr w) =
              let has = forked_above revs forked w.rest s w.at b.entry (ap revs (sym w.is) ∙ b.stands) in
              let fe : has.forker ≡ Plain l = some_inj (sym has.stands ∙ here) in
              let less : w.at < M.forks l = subst (λ v. w.at < M.forks (local_of v)) fe has.counted in
              let late = w.late in
              absurd (omega arith)
