-- Worlds that are alike have the same legs, after which they are alike again.
use Rattle.std.proofs.Common.{◌≡◌, ◌⊎◌, inl, inr, ◌∙◌, ℕ, zero, suc, Bool, List, [], ◌∷◌, ◌++◌, length, Option, Some, None, refl, sym, ap, subst}
use Rattle.rev_num.specs.Path.{Path, child}
use Rattle.rev_code.specs.State.{State}
use Rattle.rev_code.specs.Step.{joins}
use Rattle.revision_machine.specs.Machine.{Entry, Plain, Joined}
use Rattle.revision_machine.specs.Numbered as numbers
use Rattle.revision_machine.specs.Numbered.{Numbered, Wish, Goes, Bears, Wants, Stops, Entries, World, Both, Listing, at_number, put_number, leg_of, leg_at, join_number, join_stopped}
use Rattle.code_machine.specs.Local.{CodeRun, IsVerified, Local, at_work}
use Rattle.code_machine.specs.Leg.{leg}
use Rattle.code_machine.specs.Joining.{join}
use Rattle.code_machine.specs.Machines.{act_of, act, wish_of, numbered}
use Rattle.code_machine.specs.Worlds.{after, replay}
use Rattle.code_machine.specs.Alike.{StandsFor, IsAlike, EntriesAlike, AreAlike, BothAlike, WorldsAreAlike, LegsKeepAlike, SchedulesKeepAlike, WaitingIsAlike}
use Rattle.code_machine.proofs.Acts.{HasForks, leg_keeps_forks}
use Rattle.code_machine.proofs.Changes.{again, same_join}

module _ (g : CodeRun) where
  entry_self : (e : Entry (Local ℕ)) → IsAlike g e e
  entry_self (Plain l) = inl refl
  entry_self (Joined l) = refl

  entries_self : (w : Entries (Local ℕ)) → EntriesAlike g w w
  entries_self [] = tt
  entries_self ((r, e) ∷ w) = (refl, entry_self e, entries_self w)

  world_self : (v : World (Local ℕ)) → AreAlike g v v
  world_self Both = tt
  world_self (Listing w) = entries_self w

  -- ---- lists

  same_length : (w w' : Entries (Local ℕ)) → EntriesAlike g w w' → length w ≡ length w'
  same_length [] [] h = refl
  same_length ((r, e) ∷ w) ((r', e') ∷ w') h = ap suc (same_length w w' h.2)
  same_length [] (x ∷ w') h = absurd h
  same_length (x ∷ w) [] h = absurd h

  put_alike : (w w' : Entries (Local ℕ)) (n : ℕ) (r r' : Path) (e e' : Entry (Local ℕ)) → EntriesAlike g w w' → r ≡ r'
      → IsAlike g e e' → EntriesAlike g (put_number w n (r, e)) (put_number w' n (r', e'))
  put_alike [] [] n r r' e e' h p a = tt
  put_alike ((s, x) ∷ w) ((s', x') ∷ w') zero r r' e e' h p a = (p, a, h.2)
  put_alike ((s, x) ∷ w) ((s', x') ∷ w') (suc n) r r' e e' h p a = (h.0, h.1, put_alike w w' n r r' e e' h.2 p a)
  put_alike [] (x ∷ w') n r r' e e' h p a = absurd h
  put_alike (x ∷ w) [] n r r' e e' h p a = absurd h

  more_alike : (w w' : Entries (Local ℕ)) (r r' : Path) (e e' : Entry (Local ℕ)) → EntriesAlike g w w' → r ≡ r'
      → IsAlike g e e' → EntriesAlike g (w ++ (r, e) ∷ []) (w' ++ (r', e') ∷ [])
  more_alike [] [] r r' e e' h p a = (p, a, tt)
  more_alike ((s, x) ∷ w) ((s', x') ∷ w') r r' e e' h p a = (h.0, h.1, more_alike w w' r r' e e' h.2 p a)
  more_alike [] (x ∷ w') r r' e e' h p a = absurd h
  more_alike (x ∷ w) [] r r' e e' h p a = absurd h

  FoundAlike : Option (Path × Entry (Local ℕ)) → Option (Path × Entry (Local ℕ)) → Type 0
  FoundAlike None None = Unit {0}
  FoundAlike (Some x) (Some x') = (x.0 ≡ x'.0) × IsAlike g x.1 x'.1
  FoundAlike None (Some x') = ⊥
  FoundAlike (Some x) None = ⊥

  found_alike : (w w' : Entries (Local ℕ)) (n : ℕ) → EntriesAlike g w w' → FoundAlike (at_number w n) (at_number w' n)
  unfolding FoundAlike
  found_alike [] [] n h = tt
  found_alike ((s, x) ∷ w) ((s', x') ∷ w') zero h = (h.0, h.1)
  found_alike ((s, x) ∷ w) ((s', x') ∷ w') (suc n) h = found_alike w w' n h.2
  found_alike [] (x ∷ w') n h = absurd h
  found_alike (x ∷ w) [] n h = absurd h

  module _ (ok : IsVerified g) where
    -- ---- local states

    abbrev N : Numbered
    N = numbered g

    wants_by : (l : Local ℕ) (c' : State ℕ) (try : Bool) (m : ℕ) → l ≡ at_work l.state → leg g l.state ≡ joins c' try m
        → (numbered g).next l ≡ Wants m
    wants_by l c' try m is e = ap (λ z. wish_of (act g z)) is ∙ ap (λ o. wish_of (act_of g o)) e

    stands_again : (l l' : Local ℕ) (s : StandsFor g l l') → leg g l'.state ≡ joins l'.state s.try s.joinee
    stands_again l l' s = again g ok l.state l'.state s.try s.joinee s.stands

    same_next : (l l' : Local ℕ) → (l ≡ l') ⊎ StandsFor g l l' → (numbered g).next l ≡ (numbered g).next l'
    same_next l l' (inl e) = ap (numbered g).next e
    same_next l l' (inr s) =
        wants_by l l'.state s.try s.joinee s.works s.stands
        ∙ sym (wants_by l' l'.state s.try s.joinee s.still (stands_again l l' s))

    joined_alike : (l l' lq : Local ℕ) → (l ≡ l') ⊎ StandsFor g l l' → join g l lq ≡ join g l' lq
    joined_alike l l' lq (inl e) = ap (λ z. join g z lq) e
    joined_alike l l' lq (inr s) =
        ap (λ z. join g z lq) s.works ∙ sym (same_join g ok l.state l'.state s.try s.joinee s.stands lq)
        ∙ sym (ap (λ z. join g z lq) s.still)

    forks_alike : (l l' : Local ℕ) → (l ≡ l') ⊎ StandsFor g l l' → l.state.forks ≡ l'.state.forks
    forks_alike l l' (inl e) = ap (λ z. z.state.forks) e
    forks_alike l l' (inr s) = sym (subst (HasForks l.state.forks) s.stands (leg_keeps_forks g l.state))

    -- a revision that stands at a join has not ended
    stopped_same : (l l' : Local ℕ) → (l ≡ l') ⊎ StandsFor g l l' → (numbered g).next l ≡ Stops → l ≡ l'
    stopped_same l l' (inl e) stops = e
    stopped_same l l' (inr s) stops =
        absurd (let clash : Wants s.joinee ≡ Stops =
        sym (wants_by l l'.state s.try s.joinee s.works s.stands) ∙ stops in
        cc)

    -- ---- legs

    module _ (w w' : Entries (Local ℕ)) (h : EntriesAlike g w w') (n : ℕ) (r r' : Path) (p : r ≡ r') (l l' : Local ℕ)
        (a : (l ≡ l') ⊎ StandsFor g l l') where
      joined_stopped : (m : ℕ) (q q' : Path) (lq lq' : Local ℕ) → q ≡ q' → (lq ≡ lq') ⊎ StandsFor g lq lq'
          → (x : Wish (Local ℕ)) → (numbered g).next lq ≡ x
          → BothAlike g (join_stopped (numbered g) w n r l m q lq x) (join_stopped (numbered g) w' n r' l' m q' lq' x)
      joined_stopped m q q' lq lq' s b Stops is =
          let same : lq ≡ lq' = stopped_same lq lq' b is in
          let joined : join g l lq ≡ join g l' lq' = joined_alike l l' lq a ∙ ap (join g l') same in
          put_alike (put_number w n (r, Plain (join g l lq))) (put_number w' n (r', Plain (join g l' lq'))) m q q'
          (Joined lq) (Joined lq')
          (put_alike w w' n r r' (Plain (join g l lq)) (Plain (join g l' lq')) h p (inl joined)) s same
      joined_stopped m q q' lq lq' s b (Goes k) is = tt
      joined_stopped m q q' lq lq' s b (Bears f c) is = tt
      joined_stopped m q q' lq lq' s b (Wants k) is = tt

      joined_number : (m : ℕ) (o o' : Option (Path × Entry (Local ℕ))) → FoundAlike o o'
          → BothAlike g (join_number (numbered g) w n r l m o) (join_number (numbered g) w' n r' l' m o')
      unfolding FoundAlike
      joined_number m None None f = tt
      joined_number m (Some (q, Joined lq)) (Some (q', Joined lq')) f = tt
      joined_number m (Some (q, Plain lq)) (Some (q', Plain lq')) f =
          subst (λ x.
          BothAlike g (join_stopped (numbered g) w n r l m q lq ((numbered g).next lq))
          (join_stopped (numbered g) w' n r' l' m q' lq' x))
          (same_next lq lq' f.1)
          (joined_stopped m q q' lq lq' f.0 f.1 ((numbered g).next lq) refl)
      joined_number m (Some (q, Plain lq)) (Some (q', Joined lq')) f = absurd f.1
      joined_number m (Some (q, Joined lq)) (Some (q', Plain lq')) f = absurd f.1
      joined_number m None (Some x) f = absurd f
      joined_number m (Some x) None f = absurd f

      by_wish : (x : Wish (Local ℕ)) → BothAlike g (leg_of (numbered g) w n r l x) (leg_of (numbered g) w' n r' l' x)
      by_wish (Goes k) = put_alike w w' n r r' (Plain k) (Plain k) h p (inl refl)
      by_wish (Bears f c) =
          let len = same_length w w' h in
          let kid : child r l.state.forks ≡ child r' l'.state.forks =
          (let d = forks_alike l l' a in λ i. child (p i) (d i)) in
          more_alike (put_number w n (r, Plain (f (length w)))) (put_number w' n (r', Plain (f (length w'))))
          (child r l.state.forks) (child r' l'.state.forks) (Plain c) (Plain c)
          (put_alike w w' n r r' (Plain (f (length w))) (Plain (f (length w'))) h p (inl (ap f len))) kid (inl refl)
      by_wish (Wants m) = joined_number m (at_number w m) (at_number w' m) (found_alike w w' m h)
      by_wish Stops = tt

    by_entry : (w w' : Entries (Local ℕ)) → EntriesAlike g w w' → (n : ℕ) (o o' : Option (Path × Entry (Local ℕ)))
        → FoundAlike o o' → BothAlike g (leg_at (numbered g) w n o) (leg_at (numbered g) w' n o')
    unfolding FoundAlike
    by_entry w w' h n None None f = tt
    by_entry w w' h n (Some (r, Joined l)) (Some (r', Joined l')) f = tt
    by_entry w w' h n (Some (r, Plain l)) (Some (r', Plain l')) f =
        subst (λ x. BothAlike g (leg_of (numbered g) w n r l ((numbered g).next l)) (leg_of (numbered g) w' n r' l' x))
        (same_next l l' f.1)
        (by_wish w w' h n r r' f.0 l l' f.1 ((numbered g).next l))
    by_entry w w' h n (Some (r, Plain l)) (Some (r', Joined l')) f = absurd f.1
    by_entry w w' h n (Some (r, Joined l)) (Some (r', Plain l')) f = absurd f.1
    by_entry w w' h n None (Some x) f = absurd f
    by_entry w w' h n (Some x) None f = absurd f

    leg_alike : (v v' : World (Local ℕ)) (n : ℕ) → AreAlike g v v'
        → BothAlike g (numbers.leg (numbered g) v n) (numbers.leg (numbered g) v' n)
    leg_alike Both Both n h = tt
    leg_alike (Listing w) (Listing w') n h = by_entry w w' h n (at_number w n) (at_number w' n) (found_alike w w' n h)
    leg_alike Both (Listing w') n h = absurd h
    leg_alike (Listing w) Both n h = absurd h

    after_alike : (o o' : Option (World (Local ℕ))) (ns : List ℕ) → BothAlike g o o'
        → ((v v' : World (Local ℕ)) → AreAlike g v v'
        → BothAlike g (replay (numbered g) v ns) (replay (numbered g) v' ns))
        → BothAlike g (after (numbered g) o (λ u. replay (numbered g) u ns))
        (after (numbered g) o' (λ u. replay (numbered g) u ns))
    after_alike None None ns h rec = tt
    after_alike (Some v) (Some v') ns h rec = rec v v' h
    after_alike None (Some v') ns h rec = absurd h
    after_alike (Some v) None ns h rec = absurd h

    replay_alike : (ns : List ℕ) (v v' : World (Local ℕ)) → AreAlike g v v'
        → BothAlike g (replay (numbered g) v ns) (replay (numbered g) v' ns)
    replay_alike [] v v' h = h
    replay_alike (n ∷ ns) v v' h =
        after_alike (numbers.leg (numbered g) v n) (numbers.leg (numbered g) v' n) ns (leg_alike v v' n h)
        (λ u u' k. replay_alike ns u u' k)

    -- ---- waiting

    put_waiting : (w w' : Entries (Local ℕ)) (n : ℕ) (r : Path) (c c' : State ℕ) (try : Bool) (m : ℕ)
        → EntriesAlike g w w' → at_number w' n ≡ Some (r, Plain (at_work c)) → leg g c ≡ joins c' try m
        → EntriesAlike g w (put_number w' n (r, Plain (at_work c')))
    put_waiting [] [] n r c c' try m h e is = tt
    put_waiting ((s, x) ∷ w) ((s', x') ∷ w') (suc n) r c c' try m h e is =
        (h.0, h.1, put_waiting w w' n r c c' try m h.2 e is)
    put_waiting [] (x ∷ w') n r c c' try m h e is = absurd h
    put_waiting (x ∷ w) [] n r c c' try m h e is = absurd h
    put_waiting ((s, x) ∷ w) ((s', x') ∷ w') zero r c c' try m h e is =
        let here : ◌≡◌ {A = Path × Entry (Local ℕ)} (s', x') (r, Plain (at_work c)) = cc in
        let entry : x' ≡ Plain (at_work c) = ap (λ z. z.1) here in
        (h.0 ∙ ap (λ z. z.0) here, by x (subst (IsAlike g x) entry h.1), h.2)
      where
        moved : (l : Local ℕ) → (l ≡ at_work c) ⊎ StandsFor g l (at_work c)
            → (l ≡ at_work c') ⊎ StandsFor g l (at_work c')
        moved l (inl e) = inr (record {
          works = e ∙ sym (ap (λ z. at_work z.state) e);
          still = refl;
          try = try;
          joinee = m;
          stands = ap (λ z. leg g z.state) e ∙ is;
        })
        moved l (inr s) =
            let a : leg g c ≡ joins c s.try s.joinee = again g ok l.state c s.try s.joinee s.stands in
            let same : c ≡ c' = (let z : joins c s.try s.joinee ≡ joins c' try m = sym a ∙ is in cc) in
            inr (subst (λ z. StandsFor g l (at_work z)) same s)

        by : (x : Entry (Local ℕ)) → IsAlike g x (Plain (at_work c)) → IsAlike g x (Plain (at_work c'))
        by (Plain l) a = moved l a
        by (Joined l) a = absurd a

pub worlds_alike : WorldsAreAlike
worlds_alike g v = world_self g v

pub legs_alike : LegsKeepAlike
legs_alike g ok v v' n h = leg_alike g ok v v' n h

pub schedules_alike : SchedulesKeepAlike
schedules_alike g ok v v' ns h = replay_alike g ok ns v v' h

pub waiting_alike : WaitingIsAlike
waiting_alike g ok w w' n r c c' try m h e is = put_waiting g ok w w' n r c c' try m h e is
