-- A fork adds its forker to the list, and no other leg changes it.
use Rattle.std.proofs.Common.{◌≡◌, ◌⊎◌, inl, inr, ℕ, suc, ◌+◌, List, [], ◌∷◌, ◌++◌, length, Option, Some, None, refl, sym, ap, ◌∙◌, subst, arith}
use mathlib.Core.Logic.{dite}
use native.Mathlib.Decide.{ℕ_discrete}
use Rattle.rev_num.specs.Path.{Path, child}
use Rattle.revision_machine.specs.Machine.{Entry, Plain, Joined}
use Rattle.revision_machine.specs.Numbered.{Wish, Goes, Bears, Wants, Stops, Numbered, Entries, World, Both, Listing, at_number, put_number, join_stopped, join_number, leg_of, leg_at, leg, paths_of}
use Rattle.revision_machine.proofs.Paths.{some_inj}
use Rattle.revision_machine.proofs.Numbers.{none_some, length-paths, path_at, paths_put, paths_more}
use Rattle.hub_core.specs.Forkers.{ForkersAre}
use Rattle.revision_machine.proofs.Lists.{at_front, at_length, put_other, put_here}

snoc_length : {A : Type 0} (xs : List A) (y : A) → length (xs ++ y ∷ []) ≡ length xs + 1
snoc_length [] y = refl
snoc_length (x ∷ xs) y = let r = snoc_length xs y in omega arith

pub forkers_born : (ps : List Path) (fs : List ℕ) (k j : ℕ) (r : Path) → ForkersAre ps fs → at_number ps k ≡ Some r
    → ForkersAre (ps ++ child r j ∷ []) (fs ++ k ∷ [])
forkers_born ps fs k j r are here = record {
  long = let a = snoc_length fs k in let b = snoc_length ps (child r j) in let c = are.long in omega arith;
  first = at_front fs (k ∷ []) 0 0 are.first;
  each = λ n h. let b = snoc_length ps (child r j) in dite (ℕ_discrete (suc n) (length ps))
      (λ is. (
        k,
        ap (at_number (fs ++ k ∷ [])) (is ∙ sym are.long) ∙ at_length fs k [],
        record {
          path = r;
          fork = j;
          forker = at_front ps (child r j ∷ []) k r here;
          forked = ap (at_number (ps ++ child r j ∷ [])) is ∙ at_length ps (child r j) [];
        },
      ))
      (λ ne. let e = are.each n (omega arith) in (
        e.0,
        at_front fs (k ∷ []) (suc n) e.0 e.1,
        record {
          path = e.2.path;
          fork = e.2.fork;
          forker = at_front ps (child r j ∷ []) e.0 e.2.path e.2.forker;
          forked = at_front ps (child r j ∷ []) (suc n) (child e.2.path e.2.fork) e.2.forked;
        },
      ));
}

module _ {A : Type 0} where
  -- where the entries of two revisions are put anew, each at its path, the paths are the same
  paths_twice : (w : List (Path × A)) (n m : ℕ) (r q : Path) (a b e f : A) → at_number w n ≡ Some (r, a)
      → at_number w m ≡ Some (q, b) → paths_of (put_number (put_number w n (r, e)) m (q, f)) ≡ paths_of w
  paths_twice w n m r q a b e f here there = dite (ℕ_discrete n m)
      (λ is. let same : r ≡ q = ap (λ v. v.0) (some_inj (sym here ∙ (ap (at_number w) is ∙ there))) in
      let now : at_number (put_number w n (r, e)) m ≡ Some (q, e) =
      ap (at_number (put_number w n (r, e))) (sym is)
      ∙ (put_here w n (r, a) (r, e) here ∙ ap (λ v. Some (v, e)) same) in
      paths_put (put_number w n (r, e)) m q e f now ∙ paths_put w n r a e here)
      (λ ne. paths_put (put_number w n (r, e)) m q b f (put_other w n m (r, e) (λ i. ne (sym i)) ∙ there)
      ∙ paths_put w n r a e here)

module _ (N : Numbered) where
  -- what a leg does to the paths
  abbrev pub Bore : Entries N.Local → ℕ → Entries N.Local → Type 0
  Bore w k v = (paths_of v ≡ paths_of w)
      ⊎ ((r : Path) × (j : ℕ) × (at_number (paths_of w) k ≡ Some r) × (paths_of v ≡ paths_of w ++ child r j ∷ []))

  abbrev BoreTo : Entries N.Local → ℕ → World N.Local → Type 0
  BoreTo w k Both = Unit {0}
  BoreTo w k (Listing v) = Bore w k v

  leg_bears : (w : Entries N.Local) (k : ℕ) (u : World N.Local) → leg N (Listing w) k ≡ Some u → BoreTo w k u
  leg_bears w k u s = of_entry (at_number w k) refl s
    where
      of_stop : (r : Path) (l : N.Local) → at_number w k ≡ Some (r, Plain l) → (m : ℕ) (q : Path) (lq : N.Local)
          → at_number w m ≡ Some (q, Plain lq) → (v : Wish N.Local) → join_stopped N w k r l m q lq v ≡ Some u
          → BoreTo w k u
      of_stop r l here m q lq there (Goes _) s = none_some s
      of_stop r l here m q lq there (Bears _ _) s = none_some s
      of_stop r l here m q lq there (Wants _) s = none_some s
      of_stop r l here m q lq there Stops s =
          subst (BoreTo w k) (some_inj s)
          (inl (paths_twice w k m r q (Plain l) (Plain lq) (Plain (N.join l m lq)) (Joined lq) here there))

      of_target : (r : Path) (l : N.Local) → at_number w k ≡ Some (r, Plain l)
          → (m : ℕ) (o : Option (Path × Entry N.Local)) → at_number w m ≡ o → join_number N w k r l m o ≡ Some u
          → BoreTo w k u
      of_target r l here m None there s = none_some s
      of_target r l here m (Some (q, Joined lq)) there s = subst (BoreTo w k) (some_inj s) tt
      of_target r l here m (Some (q, Plain lq)) there s = of_stop r l here m q lq there (N.next lq) s

      of_wish : (r : Path) (l : N.Local) → at_number w k ≡ Some (r, Plain l) → (v : Wish N.Local)
          → leg_of N w k r l v ≡ Some u → BoreTo w k u
      of_wish r l here (Goes l') s = subst (BoreTo w k) (some_inj s) (inl (paths_put w k r (Plain l) (Plain l') here))
      of_wish r l here (Bears f c) s = subst (BoreTo w k) (some_inj s)
          (inr (
            r,
            N.forks l,
            path_at w k r (Plain l) here,
            paths_more (put_number w k (r, Plain (f (length w)))) (child r (N.forks l)) (Plain c)
                ∙ ap (λ v. v ++ child r (N.forks l) ∷ []) (paths_put w k r (Plain l) (Plain (f (length w))) here),
          ))
      of_wish r l here (Wants m) s = of_target r l here m (at_number w m) refl s
      of_wish r l here Stops s = none_some s

      of_entry : (o : Option (Path × Entry N.Local)) → at_number w k ≡ o → leg_at N w k o ≡ Some u → BoreTo w k u
      of_entry None here s = none_some s
      of_entry (Some (r, Joined l)) here s = none_some s
      of_entry (Some (r, Plain l)) here s = of_wish r l here (N.next l) s

  -- a leg that makes the world longer adds its number
  pub forkers_step : (w v : Entries N.Local) (k : ℕ) (fs gs : List ℕ) → leg N (Listing w) k ≡ Some (Listing v)
      → ForkersAre (paths_of w) fs
      → (length v ≡ length w → gs ≡ fs) → (length v ≡ length w + 1 → gs ≡ fs ++ k ∷ []) → ForkersAre (paths_of v) gs
  forkers_step w v k fs gs s are same more = go (leg_bears w k (Listing v) s)
    where
      go : Bore w k v → ForkersAre (paths_of v) gs
      go (inl e) =
          let a = length-paths v in
          let b = length-paths w in
          let c : length (paths_of v) ≡ length (paths_of w) = ap length e in
          subst (λ z. ForkersAre z gs) (sym e) (subst (ForkersAre (paths_of w)) (sym (same (omega arith))) are)
      go (inr e) =
          let a = length-paths v in
          let b = length-paths w in
          let c : length (paths_of v) ≡ length (paths_of w ++ child e.0 e.1 ∷ []) = ap length e.3 in
          let h = snoc_length (paths_of w) (child e.0 e.1) in
          subst (λ z. ForkersAre z gs) (sym e.3)
          (subst (ForkersAre (paths_of w ++ child e.0 e.1 ∷ [])) (sym (more (omega arith)))
          (forkers_born (paths_of w) fs k e.1 e.0 are e.2))

  pub as_many : (w v : Entries N.Local) (k : ℕ) (fs : List ℕ) → leg N (Listing w) k ≡ Some (Listing v)
      → ForkersAre (paths_of w) fs → length v ≡ length w → ForkersAre (paths_of v) fs
  as_many w v k fs s are long = forkers_step w v k fs fs s are (λ _. refl) (λ e. absurd (omega arith))

  pub one_more : (w v : Entries N.Local) (x : Path × Entry N.Local) (k : ℕ) (fs : List ℕ)
      → leg N (Listing w) k ≡ Some (Listing (v ++ x ∷ [])) → ForkersAre (paths_of w) fs → length v ≡ length w
      → ForkersAre (paths_of (v ++ x ∷ [])) (fs ++ k ∷ [])
  one_more w v x k fs s are long =
      let more = snoc_length v x in
      forkers_step w (v ++ x ∷ []) k fs (fs ++ k ∷ []) s are (λ e. absurd (omega arith)) (λ _. refl)

pub one_forker : ForkersAre ([] ∷ []) (0 ∷ [])
one_forker = record { long = refl; first = refl; each = λ n h. absurd (omega arith) }
