-- Each event of the hub keeps its tables the replay of its schedule, and commits one entry or none.
use Rattle.std.proofs.Common.{◌≡◌, ◌≢◌, ℕ, zero, suc, List, [], ◌∷◌, ◌++◌, length, Option, Some, None, refl, sym, ap, ◌∙◌, subst, map}
use Rattle.rev_num.specs.Path.{Path, child}
use Rattle.revision_machine.specs.Machine.{Entry, Plain, Joined}
use Rattle.revision_machine.specs.Laws.{local_of}
use Rattle.revision_machine.specs.Numbered.{Wish, Goes, Bears, Wants, Stops, Numbered, Entries, World, Both, Listing, at_number, put_number, join_stopped, join_number, leg_of, leg_at, leg, IsOver}
use Rattle.revision_machine.proofs.Paths.{some_inj}
use Rattle.revision_machine.proofs.Numbers.{none_some}
use Rattle.hub_core.specs.Replay.{IsNotIn, state_here, state_of, replay, state_after}
use Rattle.hub_core.specs.declared.status.Status.{Status}
use Rattle.hub_core.specs.declared.status.Status.TheVariants.{Ready, Out, Waiting, Over, Gone}
use Rattle.hub_core.proofs.Forkers.{one_forker, one_more, as_many}
use Rattle.hub_core.specs.Hub.{Values, EndsAre, end_of, Statuses, Fits, AllFit, Tied, Forks, Joins, EndsLeg, WasTrapped, Meets, all_ended}
use Rattle.hub_core.proofs.Replay.{replay_more, still}
use Rattle.revision_machine.proofs.Lists.{put_other, put_here, put_length, put_twice, at_front, at_length}

module _ (N : Numbered) (V : Values N) where
  abbrev S : Type 0
  S = Status V.Runner V.AtJoin V.End

  abbrev Found : Entries N.Local → ℕ → S → Type 0
  Found w k s = (x : Path × Entry N.Local) × (at_number w k ≡ Some x) × Fits N V s x.1

  fit_at : (hub : Statuses N V) (w : Entries N.Local) (k : ℕ) (s : S) → AllFit N V hub w → at_number hub k ≡ Some s
      → Found w k s
  fit_at [] w k s all e = none_some e
  fit_at (t ∷ hub) [] k s all e = absurd all
  fit_at (t ∷ hub) (x ∷ w) zero s all e = (x, refl, subst (λ v. Fits N V v x.1) (some_inj e) all.0)
  fit_at (t ∷ hub) (x ∷ w) (suc k) s all e = fit_at hub w k s all.1 e

  fit_put : (hub : Statuses N V) (w : Entries N.Local) (k : ℕ) (s : S) (x : Path × Entry N.Local) → AllFit N V hub w
      → Fits N V s x.1 → AllFit N V (put_number hub k s) (put_number w k x)
  fit_put [] [] k s x all f = tt
  fit_put [] (y ∷ w) k s x all f = absurd all
  fit_put (t ∷ hub) [] k s x all f = absurd all
  fit_put (t ∷ hub) (y ∷ w) zero s x all f = (f, all.1)
  fit_put (t ∷ hub) (y ∷ w) (suc k) s x all f = (all.0, fit_put hub w k s x all.1 f)

  -- another status of the same revision
  fit_turn : (hub : Statuses N V) (w : Entries N.Local) (k : ℕ) (s : S) (x : Path × Entry N.Local) → AllFit N V hub w
      → at_number w k ≡ Some x → Fits N V s x.1 → AllFit N V (put_number hub k s) w
  fit_turn [] [] k s x all e f = tt
  fit_turn [] (y ∷ w) k s x all e f = absurd all
  fit_turn (t ∷ hub) [] k s x all e f = absurd all
  fit_turn (t ∷ hub) (y ∷ w) zero s x all e f = (subst (λ v. Fits N V s v.1) (sym (some_inj e)) f, all.1)
  fit_turn (t ∷ hub) (y ∷ w) (suc k) s x all e f = (all.0, fit_turn hub w k s x all.1 e f)

  fit_same : (hub : Statuses N V) (w : Entries N.Local) (k : ℕ) (s : S) (x : Path × Entry N.Local) → AllFit N V hub w
      → at_number hub k ≡ Some s → Fits N V s x.1 → AllFit N V hub (put_number w k x)
  fit_same [] [] k s x all e f = tt
  fit_same [] (y ∷ w) k s x all e f = absurd all
  fit_same (t ∷ hub) [] k s x all e f = absurd all
  fit_same (t ∷ hub) (y ∷ w) zero s x all e f = (subst (λ v. Fits N V v x.1) (sym (some_inj e)) f, all.1)
  fit_same (t ∷ hub) (y ∷ w) (suc k) s x all e f = (all.0, fit_same hub w k s x all.1 e f)

  fit_more : (hub : Statuses N V) (w : Entries N.Local) (s : S) (x : Path × Entry N.Local) → AllFit N V hub w
      → Fits N V s x.1 → AllFit N V (hub ++ s ∷ []) (w ++ x ∷ [])
  fit_more [] [] s x all f = (f, tt)
  fit_more [] (y ∷ w) s x all f = absurd all
  fit_more (t ∷ hub) [] s x all f = absurd all
  fit_more (t ∷ hub) (y ∷ w) s x all f = (all.0, fit_more hub w s x all.1 f)

  fit_length : (hub : Statuses N V) (w : Entries N.Local) → AllFit N V hub w → length hub ≡ length w
  fit_length [] [] all = refl
  fit_length [] (y ∷ w) all = absurd all
  fit_length (t ∷ hub) [] all = absurd all
  fit_length (t ∷ hub) (y ∷ w) all = ap suc (fit_length hub w all.1)

  module _ (main : N.Local) where
    abbrev T : List ℕ → Statuses N V → List ℕ → Type 0
    T schedule hub fs = Tied N V main schedule hub fs

    state_now : (schedule : List ℕ) (hub : Statuses N V) (fs : List ℕ) (t : T schedule hub fs) (k : ℕ)
        (x : Path × Entry N.Local)
        → at_number t.world k ≡ Some x → state_after N main schedule k ≡ Some (local_of x.1)
    state_now schedule hub fs t k x e = ap (λ o. state_of o k) t.replays ∙ ap state_here e

    -- a revision that a seat has stands unmarked in the world, in the state of its pass
    abbrev Has : Entries N.Local → ℕ → N.Local → Type 0
    Has w k l = (r : Path) × (at_number w k ≡ Some (r, Plain l))

    out_has : (schedule : List ℕ) (hub : Statuses N V) (fs : List ℕ) (t : T schedule hub fs) (k : ℕ) (l : N.Local)
        → at_number hub k ≡ Some Out → state_after N main schedule k ≡ Some l → Has t.world k l
    out_has schedule hub fs t k l out now =
        let f = fit_at hub t.world k Out t.fits out in
        let e : f.0.1 ≡ Plain f.2.0 = f.2.1 in
        let same : f.2.0 ≡ l =
        some_inj (sym (state_now schedule hub fs t k f.0 f.1 ∙ ap (λ v. Some (local_of v)) e) ∙ now) in
        (f.0.0, f.1 ∙ ap (λ v. Some (f.0.0, v)) (e ∙ ap Plain same))

    -- a pass of an earlier schedule, of which the revision has had no leg since, has the state of now
    pub pass_now : (before since : List ℕ) (hub : Statuses N V) (fs : List ℕ) (t : T (before ++ since) hub fs) (k : ℕ)
        (l : N.Local)
        → IsNotIn k since → state_after N main before k ≡ Some l → state_after N main (before ++ since) k ≡ Some l
    pass_now before since hub fs t k l out here =
        ap (λ o. state_of o k) t.replays ∙ still N main before since k l t.world out here t.replays

    turn : (schedule : List ℕ) (hub : Statuses N V) (fs : List ℕ) (t : T schedule hub fs) (k : ℕ) (s : S)
        (x : Path × Entry N.Local)
        → at_number t.world k ≡ Some x → Fits N V s x.1 → T schedule (put_number hub k s) fs
    turn schedule hub fs t k s x e f =
        record { world = t.world; replays = t.replays; fits = fit_turn hub t.world k s x t.fits e f; forked = t.forked }

    commits : (schedule : List ℕ) (hub : Statuses N V) (fs : List ℕ) (t : T schedule hub fs) (k : ℕ) (u : World N.Local)
        → leg N (Listing t.world) k ≡ Some u → replay N main (schedule ++ k ∷ []) ≡ Some u
    commits schedule hub fs t k u e = replay_more N main schedule k (Listing t.world) t.replays ∙ e

    leg_is : (w : Entries N.Local) (k : ℕ) (r : Path) (l : N.Local) (v : Wish N.Local)
        → at_number w k ≡ Some (r, Plain l) → N.next l ≡ v → leg N (Listing w) k ≡ leg_of N w k r l v
    leg_is w k r l v e n = ap (leg_at N w k) e ∙ ap (leg_of N w k r l) n

    -- take, of one that is ready: the pass has the state of what is handed out
    pub taken : (schedule : List ℕ) (hub : Statuses N V) (fs : List ℕ) → T schedule hub fs → (k : ℕ) (c : V.Runner)
        → at_number hub k ≡ Some (Ready c)
        → T schedule (put_number hub k Out) fs × (state_after N main schedule k ≡ Some (V.runs c))
    taken schedule hub fs t k c e =
        let f = fit_at hub t.world k (Ready c) t.fits e in (
          turn schedule hub fs t k Out f.0 f.1 (V.runs c, f.2),
          state_now schedule hub fs t k f.0 f.1 ∙ ap (λ v. Some (local_of v)) f.2,
        )

    -- take, of one that waits: what is handed out stands at its join
    pub retried : (schedule : List ℕ) (hub : Statuses N V) (fs : List ℕ) → T schedule hub fs → (k : ℕ) (a : V.AtJoin)
        → at_number hub k ≡ Some (Waiting a) → T schedule (put_number hub k Out) fs × Joins N V main schedule k a
    retried schedule hub fs t k a e =
        let f = fit_at hub t.world k (Waiting a) t.fits e in (
          turn schedule hub fs t k Out f.0 f.1 (f.2.0, f.2.1),
          record {
            state = f.2.0;
            stands = state_now schedule hub fs t k f.0 f.1 ∙ ap (λ v. Some (local_of v)) f.2.1;
            comes = f.2.2;
          },
        )

    pub forked : (schedule : List ℕ) (hub : Statuses N V) (fs : List ℕ) → T schedule hub fs → (k : ℕ) (c : V.Runner)
        → at_number hub k ≡ Some Out → (p : Forks N V main schedule k c)
        → T (schedule ++ k ∷ []) (hub ++ Ready c ∷ []) (fs ++ k ∷ [])
        × (state_after N main (schedule ++ k ∷ []) k ≡ Some (p.forker (length hub)))
        × (state_after N main (schedule ++ k ∷ []) (length hub) ≡ Some (V.runs c))
    forked schedule hub fs t k c out p =
        let h = out_has schedule hub fs t k p.state out p.stands in
        let w = t.world in
        let long : length hub ≡ length w = fit_length hub w t.fits in
        let next : leg N (Listing w) k
        ≡ Some (Listing
        (put_number w k (h.0, Plain (p.forker (length w))) ++ (child h.0 (N.forks p.state), Plain (V.runs c)) ∷ [])) =
        leg_is w k h.0 p.state (Bears p.forker (V.runs c)) h.1 p.bears in
        let after : T (schedule ++ k ∷ []) (hub ++ Ready c ∷ []) (fs ++ k ∷ []) = record {
          world = put_number w k (h.0, Plain (p.forker (length w))) ++ (child h.0 (N.forks p.state), Plain (V.runs c))
              ∷ [];
          replays = commits schedule hub fs t k _ next;
          fits = fit_more hub (put_number w k (h.0, Plain (p.forker (length w)))) (Ready c)
              (child h.0 (N.forks p.state), Plain (V.runs c))
              (fit_same hub w k Out (h.0, Plain (p.forker (length w))) t.fits out (p.forker (length w), refl)) refl;
          forked = one_more N w (put_number w k (h.0, Plain (p.forker (length w))))
              (child h.0 (N.forks p.state), Plain (V.runs c)) k fs next t.forked
              (put_length w k (h.0, Plain (p.forker (length w))));
        } in (
          after,
          state_now (schedule ++ k ∷ []) (hub ++ Ready c ∷ []) (fs ++ k ∷ []) after k (h.0, Plain (p.forker (length w)))
              (at_front _ _ k _ (put_here w k (h.0, Plain p.state) _ h.1))
              ∙ ap (λ n. Some (p.forker n)) (sym long),
          state_now (schedule ++ k ∷ []) (hub ++ Ready c ∷ []) (fs ++ k ∷ []) after (length hub)
              (child h.0 (N.forks p.state), Plain (V.runs c))
              (ap (at_number after.world) (long ∙ sym (put_length w k (h.0, Plain (p.forker (length w)))))
              ∙ at_length (put_number w k (h.0, Plain (p.forker (length w))))
              (child h.0 (N.forks p.state), Plain (V.runs c)) []),
        )

    -- a join that waits is no entry
    pub waits : (schedule : List ℕ) (hub : Statuses N V) (fs : List ℕ) → T schedule hub fs → (k : ℕ) (a : V.AtJoin)
        → at_number hub k ≡ Some Out → Joins N V main schedule k a → T schedule (put_number hub k (Waiting a)) fs
    waits schedule hub fs t k a out p =
        let h = out_has schedule hub fs t k p.state out p.stands in
        turn schedule hub fs t k (Waiting a) (h.0, Plain p.state) h.1 (p.state, refl, p.comes)

    -- a revision before its leg that is handed back
    pub back : (schedule : List ℕ) (hub : Statuses N V) (fs : List ℕ) → T schedule hub fs → (k : ℕ) (c : V.Runner)
        → at_number hub k ≡ Some Out → state_after N main schedule k ≡ Some (V.runs c)
        → T schedule (put_number hub k (Ready c)) fs
    back schedule hub fs t k c out here =
        let h = out_has schedule hub fs t k (V.runs c) out here in
        turn schedule hub fs t k (Ready c) (h.0, Plain (V.runs c)) h.1 refl

    -- a join of one that has ended: the pass has the state after it
    pub joined : (schedule : List ℕ) (hub : Statuses N V) (fs : List ℕ) → T schedule hub fs
        → (k : ℕ) (a : V.AtJoin) (e : V.End) → at_number hub k ≡ Some Out → Joins N V main schedule k a
        → at_number hub (V.on a) ≡ Some (Over e)
        → T (schedule ++ k ∷ []) (put_number hub (V.on a) Gone) fs
        × (state_after N main (schedule ++ k ∷ []) k ≡ Some (V.joined a e))
    joined schedule hub fs t k a e out p ended =
        let h = out_has schedule hub fs t k p.state out p.stands in
        let w = t.world in
        let m : ℕ = V.on a in
        let f = fit_at hub w m (Over e) t.fits ended in
        let q : Path = f.0.0 in
        let lq : N.Local = f.2.0 in
        let there : at_number w m ≡ Some (q, Plain lq) = f.1 ∙ ap (λ v. Some (q, v)) f.2.1 in
        let apart : m ≢ k =
        λ is. let clash : Some (Over e) ≡ Some Out = sym ended ∙ (ap (at_number hub) is ∙ out) in cc in
        let l' : N.Local = N.join p.state m lq in
        let v : Entries N.Local = put_number w k (h.0, Plain l') in
        let next : leg N (Listing w) k ≡ Some (Listing (put_number v m (q, Joined lq))) =
        leg_is w k h.0 p.state (Wants m) h.1 p.comes.0 ∙ ap (join_number N w k h.0 p.state m) there
        ∙ ap (join_stopped N w k h.0 p.state m q lq) f.2.2.0 in
        let after : T (schedule ++ k ∷ []) (put_number hub m Gone) fs = record {
          world = put_number v m (q, Joined lq);
          replays = commits schedule hub fs t k _ next;
          fits = fit_put hub v m Gone (q, Joined lq) (fit_same hub w k Out (h.0, Plain l') t.fits out (l', refl))
              (lq, refl);
          forked = as_many N w (put_number v m (q, Joined lq)) k fs next t.forked
              (put_length v m (q, Joined lq) ∙ put_length w k (h.0, Plain l'));
        } in (
          after,
          state_now (schedule ++ k ∷ []) (put_number hub m Gone) fs after k (h.0, Plain l')
              (put_other v m k (q, Joined lq) (λ is. apart (sym is))
              ∙ put_here w k (h.0, Plain p.state) (h.0, Plain l') h.1)
              ∙ ap Some (sym (p.comes.1 e lq f.2.2.1)),
        )

    pub meets : (schedule : List ℕ) (hub : Statuses N V) (fs : List ℕ) → T schedule hub fs
        → (k : ℕ) (a : V.AtJoin) (e : V.End) → at_number hub k ≡ Some Out → Joins N V main schedule k a
        → at_number hub (V.on a) ≡ Some (Over e)
        → Meets N V main schedule k a e
    meets schedule hub fs t k a e out p ended =
        let h = out_has schedule hub fs t k p.state out p.stands in
        let f = fit_at hub t.world (V.on a) (Over e) t.fits ended in
        record {
          world = t.world;
          replays = t.replays;
          path = h.0;
          state = p.state;
          joiner = h.1;
          stands = p.comes;
          other = f.0.0;
          last = f.2.0;
          joinee = f.1 ∙ ap (λ v. Some (f.0.0, v)) f.2.1;
          is_end = f.2.2;
        }

    -- a join of one that was joined
    pub twice : (schedule : List ℕ) (hub : Statuses N V) (fs : List ℕ) → T schedule hub fs → (k : ℕ) (a : V.AtJoin)
        → at_number hub k ≡ Some Out → Joins N V main schedule k a → at_number hub (V.on a) ≡ Some Gone
        → replay N main (schedule ++ k ∷ []) ≡ Some Both
    twice schedule hub fs t k a out p gone =
        let h = out_has schedule hub fs t k p.state out p.stands in
        let w = t.world in
        let f = fit_at hub w (V.on a) Gone t.fits gone in
        commits schedule hub fs t k Both
        (leg_is w k h.0 p.state (Wants (V.on a)) h.1 p.comes.0
        ∙ ap (join_number N w k h.0 p.state (V.on a)) (f.1 ∙ ap (λ v. Some (f.0.0, v)) f.2.1))

    pub ended : (schedule : List ℕ) (hub : Statuses N V) (fs : List ℕ) → T schedule hub fs → (k : ℕ) (e : V.End)
        → at_number hub k ≡ Some Out → EndsLeg N V main schedule k e
        → T (schedule ++ k ∷ []) (put_number hub k (Over e)) fs
    ended schedule hub fs t k e out p =
        let h = out_has schedule hub fs t k p.state out p.stands in
        let w = t.world in
        record {
          world = put_number w k (h.0, Plain p.last);
          replays = commits schedule hub fs t k _ (leg_is w k h.0 p.state (Goes p.last) h.1 p.goes);
          fits = fit_put hub w k (Over e) (h.0, Plain p.last) t.fits (p.last, refl, p.is_end);
          forked = as_many N w (put_number w k (h.0, Plain p.last)) k fs
              (leg_is w k h.0 p.state (Goes p.last) h.1 p.goes) t.forked (put_length w k (h.0, Plain p.last));
        }

    -- an end, and then the join of it by a revision that is out too, are two entries
    pub settled : (schedule : List ℕ) (hub : Statuses N V) (fs : List ℕ) → T schedule hub fs
        → (m k : ℕ) (a : V.AtJoin) (e : V.End) → at_number hub m ≡ Some Out → at_number hub k ≡ Some Out
        → EndsLeg N V main schedule m e → Joins N V main schedule k a → V.on a ≡ m
        → T ((schedule ++ m ∷ []) ++ k ∷ []) (put_number hub m Gone) fs
        × (state_after N main ((schedule ++ m ∷ []) ++ k ∷ []) k ≡ Some (V.joined a e))
        × Meets N V main (schedule ++ m ∷ []) k a e
    settled schedule hub fs t m k a e out_m out_k p q on =
        let apart : k ≢ m = λ is.
        let same : q.state ≡ p.state =
        some_inj (sym q.stands ∙ (ap (state_after N main schedule) is ∙ p.stands)) in
        let clash : Wants (V.on a) ≡ Goes p.last = sym q.comes.0 ∙ (ap N.next same ∙ p.goes) in cc in
        let over : Statuses N V = put_number hub m (Over e) in
        let first : T (schedule ++ m ∷ []) over fs = ended schedule hub fs t m e out_m p in
        let here : at_number over k ≡ Some Out = put_other hub m k (Over e) apart ∙ out_k in
        let there : at_number over (V.on a) ≡ Some (Over e) =
        ap (at_number over) on ∙ put_here hub m Out (Over e) out_m in
        let joins : Joins N V main (schedule ++ m ∷ []) k a = record {
          state = q.state;
          stands = pass_now schedule (m ∷ []) over fs first k q.state ((λ is. apart (sym is)), tt) q.stands;
          comes = q.comes;
        } in
        let second = joined (schedule ++ m ∷ []) over fs first k a e here joins there in (
          subst (λ h. T ((schedule ++ m ∷ []) ++ k ∷ []) h fs)
              (ap (λ i. put_number over i Gone) on ∙ put_twice hub m (Over e) Gone) second.0,
          second.1,
          meets (schedule ++ m ∷ []) over fs first k a e here joins there,
        )

    -- the end of a joiner that its join trapped is no entry
    pub handed_in : (schedule : List ℕ) (hub : Statuses N V) (fs : List ℕ) → T schedule hub fs → (k : ℕ) (e : V.End)
        → at_number hub k ≡ Some Out → WasTrapped N V main schedule k e → T schedule (put_number hub k (Over e)) fs
    handed_in schedule hub fs t k e out p =
        let h = out_has schedule hub fs t k p.state out p.stands in
        turn schedule hub fs t k (Over e) (h.0, Plain p.state) h.1 (p.state, refl, p.is_end)

    pub opens : (c : V.Runner) → V.runs c ≡ main → T [] (Ready c ∷ []) (0 ∷ [])
    opens c e = record {
      world = ([], Plain main) ∷ [];
      replays = refl;
      fits = (ap Plain (sym e), tt);
      forked = one_forker;
    }

    pub complete : (schedule : List ℕ) (hub : Statuses N V) (fs : List ℕ) (t : T schedule hub fs) → all_ended N V hub
        → IsOver N main (Listing t.world)
    complete schedule hub fs t all n = of_entry (at_number t.world n) refl
      where
        none_of : (hub : Statuses N V) (w : Entries N.Local) (n : ℕ) (x : Path × Entry N.Local) → AllFit N V hub w
            → all_ended N V hub → at_number w n ≡ Some x → (l : N.Local) → x.1 ≡ Plain l → N.next l ≡ Stops
        none_of [] [] n x all over e l p = none_some e
        none_of [] (y ∷ w) n x all over e l p = absurd all
        none_of (t ∷ hub) [] n x all over e l p = absurd all
        none_of (Ready c ∷ hub) (y ∷ w) n x all over e l p = absurd over
        none_of (Out ∷ hub) (y ∷ w) n x all over e l p = absurd over
        none_of (Waiting a ∷ hub) (y ∷ w) n x all over e l p = absurd over
        none_of (Over i ∷ hub) (y ∷ w) zero x all over e l p =
            let g = all.0 in
            let q : Plain g.0 ≡ Plain l = sym g.1 ∙ (ap (λ v. v.1) (some_inj e) ∙ p) in
            ap N.next (ap local_of (sym q)) ∙ g.2.0
        none_of (Gone ∷ hub) (y ∷ w) zero x all over e l p =
            let g = all.0 in let q : Joined g.0 ≡ Plain l = sym g.1 ∙ (ap (λ v. v.1) (some_inj e) ∙ p) in cc
        none_of (Over i ∷ hub) (y ∷ w) (suc n) x all over e l p = none_of hub w n x all.1 over e l p
        none_of (Gone ∷ hub) (y ∷ w) (suc n) x all over e l p = none_of hub w n x all.1 over e l p

        of_entry : (o : Option (Path × Entry N.Local)) → at_number t.world n ≡ o → leg N (Listing t.world) n ≡ None
        of_entry None e = ap (leg_at N t.world n) e
        of_entry (Some (r, Joined l)) e = ap (leg_at N t.world n) e
        of_entry (Some (r, Plain l)) e =
            leg_is t.world n r l Stops e (none_of hub t.world n (r, Plain l) t.fits all e l refl)

    -- where all have ended, the ends that are kept are those of the world's unmarked revisions
    pub ends_are : (hub : Statuses N V) (w : Entries N.Local) → AllFit N V hub w → all_ended N V hub
        → EndsAre N V (map end_of hub) w
    ends_are [] [] all over = tt
    ends_are [] (y ∷ w) all over = absurd all
    ends_are (t ∷ hub) [] all over = absurd all
    ends_are (Ready c ∷ hub) (y ∷ w) all over = absurd over
    ends_are (Out ∷ hub) (y ∷ w) all over = absurd over
    ends_are (Waiting a ∷ hub) (y ∷ w) all over = absurd over
    ends_are (Over i ∷ hub) (y ∷ w) all over = (all.0, ends_are hub w all.1 over)
    ends_are (Gone ∷ hub) (y ∷ w) all over = (all.0, ends_are hub w all.1 over)
