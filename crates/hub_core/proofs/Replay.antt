-- A leg of one revision leaves every other revision's local state, and so does a schedule without entries of it.
use Rattle.std.proofs.Common.{◌≡◌, ◌≢◌, ◌↔◌, ℕ, zero, suc, List, [], ◌∷◌, ◌++◌, length, Option, Some, None, refl, sym, ap, ◌∙◌, subst}
use mathlib.Core.Logic.{dite}
use native.Mathlib.Decide.{ℕ_discrete}
use Rattle.rev_num.specs.Path.{Path, child}
use Rattle.revision_machine.specs.Machine.{Entry, Plain, Joined}
use Rattle.revision_machine.specs.Laws.{local_of}
use Rattle.revision_machine.specs.Numbered.{Wish, Goes, Bears, Wants, Stops, Numbered, Entries, World, Both, Listing, at_number, put_number, join_stopped, join_number, leg_of, leg_at, leg, begin, Replays}
use Rattle.revision_machine.proofs.Paths.{some_inj}
use Rattle.revision_machine.proofs.Lists.{none_some, put_other}
use Rattle.hub_core.specs.Replay.{IsNotIn, state_here, state_in, state_of, goes_on, replay, state_after}

module _ {L : Type 0} where
  pub state_more : (w v : Entries L) (k : ℕ) (l : L) → state_here (at_number w k) ≡ Some l
      → state_here (at_number (w ++ v) k) ≡ Some l
  state_more [] v k l e = none_some e
  state_more (x ∷ w) v zero l e = e
  state_more (x ∷ w) v (suc k) l e = state_more w v k l e

  -- a new mark keeps the state
  pub put_same : (w : Entries L) (m k : ℕ) (q : Path) (e f : Entry L) → at_number w m ≡ Some (q, e)
      → local_of e ≡ local_of f → state_here (at_number (put_number w m (q, f)) k) ≡ state_here (at_number w k)
  put_same [] m k q e f here same = refl
  put_same (x ∷ w) zero zero q e f here same = ap Some (sym same) ∙ ap state_here (sym here)
  put_same (x ∷ w) zero (suc k) q e f here same = refl
  put_same (x ∷ w) (suc m) zero q e f here same = refl
  put_same (x ∷ w) (suc m) (suc k) q e f here same = put_same w m k q e f here same

module _ (N : Numbered) where
  abbrev Keeps : Entries N.Local → ℕ → World N.Local → Type 0
  Keeps w k Both = Unit {0}
  Keeps w k (Listing v) = (l : N.Local) → state_here (at_number w k) ≡ Some l → state_here (at_number v k) ≡ Some l

  leg_keeps : (w : Entries N.Local) (n k : ℕ) (u : World N.Local) → k ≢ n → leg N (Listing w) n ≡ Some u → Keeps w k u
  leg_keeps w n k u apart s = of_entry (at_number w n) refl s
    where
      of_stop : (r : Path) (l : N.Local) (m : ℕ) (q : Path) (lq : N.Local) → at_number w m ≡ Some (q, Plain lq)
          → (v : Wish N.Local) → join_stopped N w n r l m q lq v ≡ Some u → Keeps w k u
      of_stop r l m q lq there (Goes _) s = none_some s
      of_stop r l m q lq there (Bears _ _) s = none_some s
      of_stop r l m q lq there (Wants _) s = none_some s
      of_stop r l m q lq there Stops s = subst (Keeps w k) (some_inj s) (λ l0 e. marked ∙ e)
        where
          marked : state_here (at_number (put_number (put_number w n (r, Plain (N.join l m lq))) m (q, Joined lq)) k)
              ≡ state_here (at_number w k)
          marked =
              let put : Entries N.Local = put_number w n (r, Plain (N.join l m lq)) in
              let front : state_here (at_number put k) ≡ state_here (at_number w k) =
              ap state_here (put_other w n k (r, Plain (N.join l m lq)) apart) in
              dite (ℕ_discrete m n)
              (λ is. ap state_here (put_other put m k (q, Joined lq) (λ mk. apart (mk ∙ is))) ∙ front)
              (λ ne. put_same put m k q (Plain lq) (Joined lq) (put_other w n m (r, Plain (N.join l m lq)) ne ∙ there)
              refl
              ∙ front)

      of_target : (r : Path) (l : N.Local) (m : ℕ) (o : Option (Path × Entry N.Local)) → at_number w m ≡ o
          → join_number N w n r l m o ≡ Some u → Keeps w k u
      of_target r l m None there s = none_some s
      of_target r l m (Some (q, Joined lq)) there s = subst (Keeps w k) (some_inj s) tt
      of_target r l m (Some (q, Plain lq)) there s = of_stop r l m q lq there (N.next lq) s

      of_wish : (r : Path) (l : N.Local) (v : Wish N.Local) → leg_of N w n r l v ≡ Some u → Keeps w k u
      of_wish r l (Goes l') s =
          subst (Keeps w k) (some_inj s) (λ l0 e. ap state_here (put_other w n k (r, Plain l') apart) ∙ e)
      of_wish r l (Bears f c) s =
          subst (Keeps w k) (some_inj s)
          (λ l0 e. state_more (put_number w n (r, Plain (f (length w)))) ((child r (N.forks l), Plain c) ∷ []) k l0
          (ap state_here (put_other w n k (r, Plain (f (length w))) apart) ∙ e))
      of_wish r l (Wants m) s = of_target r l m (at_number w m) refl s
      of_wish r l Stops s = none_some s

      of_entry : (o : Option (Path × Entry N.Local)) → at_number w n ≡ o → leg_at N w n o ≡ Some u → Keeps w k u
      of_entry None here s = none_some s
      of_entry (Some (r, Joined l)) here s = none_some s
      of_entry (Some (r, Plain l)) here s = of_wish r l (N.next l) s

  both_ends : (ns : List ℕ) (w : Entries N.Local) → goes_on N (Some Both) ns ≡ Some (Listing w) → ⊥
  both_ends [] w e = let clash : Both ≡ Listing w = some_inj e in cc
  both_ends (n ∷ ns) w e = none_some e

  pub goes_keeps : (ns : List ℕ) (k : ℕ) (u : World N.Local) (l : N.Local) (w : Entries N.Local) → IsNotIn k ns
      → state_in u k ≡ Some l → goes_on N (Some u) ns ≡ Some (Listing w) → state_in (Listing w) k ≡ Some l
  goes_keeps [] k u l w out here s = ap (λ v. state_in v k) (sym (some_inj s)) ∙ here
  goes_keeps (n ∷ ns) k Both l w out here s = none_some here
  goes_keeps (n ∷ ns) k (Listing v) l w out here s =
      of_leg (λ v' q. goes_keeps ns k (Listing v') l w out.1 q) (leg N (Listing v) n) refl s
    where
      of_leg : ((v' : Entries N.Local) → state_in (Listing v') k ≡ Some l
          → goes_on N (Some (Listing v')) ns ≡ Some (Listing w) → state_in (Listing w) k ≡ Some l)
          → (o : Option (World N.Local)) → leg N (Listing v) n ≡ o → goes_on N o ns ≡ Some (Listing w)
          → state_in (Listing w) k ≡ Some l
      of_leg later None e s = none_some s
      of_leg later (Some Both) e s = absurd (both_ends ns w s)
      of_leg later (Some (Listing v')) e s = later v' (leg_keeps v n k (Listing v') (λ i. out.0 (sym i)) e l here) s

  pub goes_append : (o : Option (World N.Local)) (ms ns : List ℕ)
      → goes_on N o (ms ++ ns) ≡ goes_on N (goes_on N o ms) ns
  goes_append None ms ns = refl
  goes_append (Some w) [] ns = refl
  goes_append (Some w) (m ∷ ms) ns = goes_append (leg N w m) ms ns

  goes_once : (o : Option (World N.Local)) → goes_on N o [] ≡ o
  goes_once None = refl
  goes_once (Some w) = refl

  -- one commit is one step of the replay
  pub replay_more : (main : N.Local) (ns : List ℕ) (n : ℕ) (u : World N.Local) → replay N main ns ≡ Some u
      → replay N main (ns ++ n ∷ []) ≡ leg N u n
  replay_more main ns n u e =
      goes_append (Some (begin N main)) ns (n ∷ []) ∙ ap (λ o. goes_on N o (n ∷ [])) e ∙ goes_once (leg N u n)

  -- the state after an earlier schedule is the state after this one, where it had no leg since
  pub still : (main : N.Local) (before since : List ℕ) (k : ℕ) (l : N.Local) (w : Entries N.Local) → IsNotIn k since
      → state_after N main before k ≡ Some l → replay N main (before ++ since) ≡ Some (Listing w)
      → state_here (at_number w k) ≡ Some l
  still main before since k l w out here s =
      of_world (replay N main before) refl here (sym (goes_append (Some (begin N main)) before since) ∙ s)
    where
      of_world : (o : Option (World N.Local)) → replay N main before ≡ o → state_of o k ≡ Some l
          → goes_on N o since ≡ Some (Listing w) → state_here (at_number w k) ≡ Some l
      of_world None e here s = none_some here
      of_world (Some u) e here s = goes_keeps since k u l w out here s

  -- replays are legal schedules and what they lead to
  goes_replays : (ns : List ℕ) (v w : World N.Local) → goes_on N (Some v) ns ≡ Some w → Replays N v ns w
  goes_replays [] v w e = some_inj e
  goes_replays (n ∷ ns) v w e = of_leg (λ u. goes_replays ns u w) (leg N v n) refl e
    where
      of_leg : ((u : World N.Local) → goes_on N (Some u) ns ≡ Some w → Replays N u ns w) → (o : Option (World N.Local))
          → leg N v n ≡ o → goes_on N o ns ≡ Some w → (u : World N.Local) × (leg N v n ≡ Some u) × Replays N u ns w
      of_leg later None s e = none_some e
      of_leg later (Some u) s e = (u, s, later u e)

  replays_goes : (ns : List ℕ) (v w : World N.Local) → Replays N v ns w → goes_on N (Some v) ns ≡ Some w
  replays_goes [] v w e = ap Some e
  replays_goes (n ∷ ns) v w h = ap (λ o. goes_on N o ns) h.1 ∙ replays_goes ns h.0 w h.2

  pub replay_is : (main : N.Local) (ns : List ℕ) (w : World N.Local)
      → (replay N main ns ≡ Some w) ↔ Replays N (begin N main) ns w
  replay_is main ns w = (goes_replays ns (begin N main) w, replays_goes ns (begin N main) w)
