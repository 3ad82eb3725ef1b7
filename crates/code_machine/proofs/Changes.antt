-- What a leg changes in a world by number.
use Rattle.std.proofs.Common.{◌≡◌, ◌≢◌, ◌⊎◌, inl, inr, ◌∙◌, ℕ, zero, suc, Bool, List, [], ◌∷◌, ◌++◌, length, Option, Some, None, refl, sym, ap, subst}
use mathlib.Core.Logic.{dite}
use native.Mathlib.Decide.{ℕ_discrete}
use Rattle.rev_num.specs.Path.{Path, child}
use Rattle.rev_code.specs.State.{State}
use Rattle.rev_code.specs.Step as code
use Rattle.rev_code.specs.Step.{Comes, goes, traps, forks, joins, ends, stuck, step, onward, reach}
use Rattle.revision_machine.specs.Machine.{Entry, Plain, Joined}
use Rattle.revision_machine.specs.Numbered.{Numbered, Wish, Goes, Bears, Wants, Stops, Entries, World, Both, Listing, at_number, put_number, paths_of, Replays, leg_of, leg_at, join_number, join_stopped}
use Rattle.revision_machine.specs.Numbered as numbers
use Rattle.revision_machine.proofs.Numbers.{paths_put, paths_more}
use Rattle.revision_machine.proofs.Lists.{at_front, put_other, put_here, put_twice}
use Rattle.code_machine.specs.Local.{CodeRun, IsVerified, under, Local, at_work, end_of}
use Rattle.code_machine.specs.Leg.{IsEvent, IsLeg, leg, clock}
use Rattle.code_machine.specs.Joining.{join, join_end}
use Rattle.code_machine.specs.Machines.{act_of, wish_of, numbered}
use Rattle.code_machine.specs.Worlds.{WaitsOn, WaitingHasNoLeg, WaitingStays, IsAmong, IsKeptOrMarked, Joins, after, replay, LegsChangeTheirOwn, NumbersStay, OthersLeaveIt, RunningIsLeft, ReplayGoesOn, OneEntryIsOneLeg, ReplayIsTheWorld, StandingIsTheSame}
use Rattle.code_machine.proofs.Legs.{leg_is}
use Rattle.code_machine.proofs.Events.{IsAt, stands}

some_parts : {A B : Type 0} (x y : A × B) → Some x ≡ Some y → (x.0 ≡ y.0) × (x.1 ≡ y.1)
some_parts x y e = let z : x ≡ y = cc in (ap (λ k. k.0) z, ap (λ k. k.1) z)

pub decide : (m n : ℕ) → (m ≡ n) ⊎ (m ≢ n)
decide m n = dite (ℕ_discrete m n) (λ e. inl e) (λ h. inr h)

-- ---- the four ways of a leg

module _ (N : Numbered) where
  pub data LegOf (w : Entries N.Local) (n : ℕ) (u : World N.Local) : Type 0 where
    went : (r : Path) (l l' : N.Local) → at_number w n ≡ Some (r, Plain l) → N.next l ≡ Goes l'
        → u ≡ Listing (put_number w n (r, Plain l')) → LegOf w n u
    bore : (r : Path) (l : N.Local) (f : ℕ → N.Local) (c : N.Local) → at_number w n ≡ Some (r, Plain l)
        → N.next l ≡ Bears f c
        → u ≡ Listing (put_number w n (r, Plain (f (length w))) ++ (child r (N.forks l), Plain c) ∷ []) → LegOf w n u
    took : (r : Path) (l : N.Local) (m : ℕ) (q : Path) (lq : N.Local) → at_number w n ≡ Some (r, Plain l)
        → N.next l ≡ Wants m → at_number w m ≡ Some (q, Plain lq) → N.next lq ≡ Stops
        → u ≡ Listing (put_number (put_number w n (r, Plain (N.join l m lq))) m (q, Joined lq)) → LegOf w n u
    twice : (r : Path) (l : N.Local) (m : ℕ) → at_number w n ≡ Some (r, Plain l) → N.next l ≡ Wants m → u ≡ Both
        → LegOf w n u

  pub leg_ways : (w : Entries N.Local) (n : ℕ) (u : World N.Local) → numbers.leg N (Listing w) n ≡ Some u → LegOf w n u
  leg_ways w n u e = by_entry (at_number w n) refl e
    where
      the : (v : World N.Local) → Some v ≡ Some u → u ≡ v
      the v e = (let z : v ≡ u = cc in sym z)

      by_joinee : (r : Path) (l : N.Local) (m : ℕ) (q : Path) (lq : N.Local) → at_number w n ≡ Some (r, Plain l)
          → N.next l ≡ Wants m → at_number w m ≡ Some (q, Plain lq) → (x : Wish N.Local) → N.next lq ≡ x
          → join_stopped N w n r l m q lq x ≡ Some u → LegOf w n u
      by_joinee r l m q lq at is there Stops stops e = took r l m q lq at is there stops (the _ e)
      by_joinee r l m q lq at is there (Goes k) stops e = absurd (let z : None ≡ Some u = e in cc)
      by_joinee r l m q lq at is there (Bears f c) stops e = absurd (let z : None ≡ Some u = e in cc)
      by_joinee r l m q lq at is there (Wants k) stops e = absurd (let z : None ≡ Some u = e in cc)

      by_target : (r : Path) (l : N.Local) (m : ℕ) → at_number w n ≡ Some (r, Plain l) → N.next l ≡ Wants m
          → (o : Option (Path × Entry N.Local)) → at_number w m ≡ o → join_number N w n r l m o ≡ Some u → LegOf w n u
      by_target r l m at is None there e = absurd (let z : None ≡ Some u = e in cc)
      by_target r l m at is (Some (q, Joined lq)) there e = twice r l m at is (the Both e)
      by_target r l m at is (Some (q, Plain lq)) there e = by_joinee r l m q lq at is there (N.next lq) refl e

      by_wish : (r : Path) (l : N.Local) → at_number w n ≡ Some (r, Plain l) → (x : Wish N.Local) → N.next l ≡ x
          → leg_of N w n r l x ≡ Some u → LegOf w n u
      by_wish r l at (Goes l') is e = went r l l' at is (the _ e)
      by_wish r l at (Bears f c) is e = bore r l f c at is (the _ e)
      by_wish r l at (Wants m) is e = by_target r l m at is (at_number w m) refl e
      by_wish r l at Stops is e = absurd (let z : None ≡ Some u = e in cc)

      by_entry : (o : Option (Path × Entry N.Local)) → at_number w n ≡ o → leg_at N w n o ≡ Some u → LegOf w n u
      by_entry None at e = absurd (let z : None ≡ Some u = e in cc)
      by_entry (Some (r, Joined l)) at e = absurd (let z : None ≡ Some u = e in cc)
      by_entry (Some (r, Plain l)) at e = by_wish r l at (N.next l) refl e

  listing : (u v : Entries N.Local) → Listing u ≡ Listing v → v ≡ u
  listing u v e = (let z : u ≡ v = cc in sym z)

  own : (w u : Entries N.Local) (n : ℕ) → LegOf w n (Listing u) → (m : ℕ) (r : Path) (e : Entry N.Local) → m ≢ n
      → at_number w m ≡ Some (r, e)
      → (at_number u m ≡ Some (r, e))
      ⊎ (Joins N w n m × ((l : N.Local) × (e ≡ Plain l) × (N.next l ≡ Stops) × (at_number u m ≡ Some (r, Joined l))))
  own w u n (went rn l l' at is z) m r e apart there =
      inl (ap (λ k. at_number k m) (sym (listing u _ z)) ∙ put_other w n m (rn, Plain l') apart ∙ there)
  own w u n (bore rn l f c at is z) m r e apart there =
      inl (ap (λ k. at_number k m) (sym (listing u _ z))
      ∙ at_front (put_number w n (rn, Plain (f (length w)))) ((child rn (N.forks l), Plain c) ∷ []) m (r, e)
      (put_other w n m (rn, Plain (f (length w))) apart ∙ there))
  own w u n (twice rn l k at is z) m r e apart there = absurd (let y : Listing u ≡ Both = z in cc)
  own w u n (took rn l k q lq at is found_there stops z) m r e apart there = by (decide m k)
    where
      after_joiner : Entries N.Local
      after_joiner = put_number w n (rn, Plain (N.join l k lq))

      here : at_number (put_number w n (rn, Plain (N.join l k lq))) m ≡ Some (r, e)
      here = put_other w n m (rn, Plain (N.join l k lq)) apart ∙ there

      by : (m ≡ k) ⊎ (m ≢ k)
          → (at_number u m ≡ Some (r, e))
          ⊎ (Joins N w n m
          × ((x : N.Local) × (e ≡ Plain x) × (N.next x ≡ Stops) × (at_number u m ≡ Some (r, Joined x))))
      by (inr other) =
          inl (ap (λ y. at_number y m) (sym (listing u _ z))
          ∙ put_other (put_number w n (rn, Plain (N.join l k lq))) k m (q, Joined lq) other ∙ here)
      by (inl same) =
          let y : Some (r, e) ≡ Some (q, Plain lq) = sym there ∙ ap (at_number w) same ∙ found_there in
          let parts = some_parts (r, e) (q, Plain lq) y in
          let path : r ≡ q = parts.0 in
          let plain : e ≡ Plain lq = parts.1 in
          let found : at_number u m ≡ Some (q, Joined lq) =
          ap (λ x. at_number x m) (sym (listing u _ z))
          ∙ ap (at_number (put_number (put_number w n (rn, Plain (N.join l k lq))) k (q, Joined lq))) same
          ∙ put_here (put_number w n (rn, Plain (N.join l k lq))) k (r, e) (q, Joined lq)
          (ap (at_number (put_number w n (rn, Plain (N.join l k lq)))) (sym same) ∙ here) in
          inr
          ((rn, l, at, is ∙ ap Wants (sym same)), (lq, plain, stops, found ∙ ap (λ x. Some (x, Joined lq)) (sym path)))

  -- one that has ended still stands behind a write of its joiner
  pub joinee_stays : (w : Entries N.Local) (n m : ℕ) (r q : Path) (l lq : N.Local) (e : Entry N.Local)
      → at_number w n ≡ Some (r, Plain l) → N.next l ≡ Wants m → at_number w m ≡ Some (q, Plain lq) → N.next lq ≡ Stops
      → at_number (put_number w n (r, e)) m ≡ Some (q, Plain lq)
  joinee_stays w n m r q l lq e at is there stops = put_other w n m (r, e) other ∙ there
    where
      other : m ≢ n
      other same =
          let parts = some_parts (q, Plain lq) (r, Plain l) (sym there ∙ ap (at_number w) same ∙ at) in
          let one : lq ≡ l = (let x : ◌≡◌ {A = Entry N.Local} (Plain lq) (Plain l) = parts.1 in cc) in
          let clash : Wants m ≡ Stops = sym is ∙ ap N.next (sym one) ∙ stops in cc

  numbers_kept : (w u : Entries N.Local) (n : ℕ) → LegOf w n (Listing u)
      → (paths_of u ≡ paths_of w)
      ⊎ ((r : Path) × (l : N.Local) × (at_number w n ≡ Some (r, Plain l))
      × (paths_of u ≡ paths_of w ++ child r (N.forks l) ∷ []))
  numbers_kept w u n (went r l l' at is z) =
      inl (ap paths_of (sym (listing u _ z)) ∙ paths_put w n r (Plain l) (Plain l') at)
  numbers_kept w u n (bore r l f c at is z) =
      inr (
        r,
        l,
        at,
        ap paths_of (sym (listing u _ z))
            ∙ paths_more (put_number w n (r, Plain (f (length w)))) (child r (N.forks l)) (Plain c)
            ∙ ap (λ k. k ++ child r (N.forks l) ∷ []) (paths_put w n r (Plain l) (Plain (f (length w))) at),
      )
  numbers_kept w u n (twice r l m at is z) = absurd (let y : Listing u ≡ Both = z in cc)
  numbers_kept w u n (took r l m q lq at is there stops z) =
      inl (ap paths_of (sym (listing u _ z))
      ∙ paths_put (put_number w n (r, Plain (N.join l m lq))) m q (Plain lq) (Joined lq)
      (joinee_stays w n m r q l lq (Plain (N.join l m lq)) at is there stops)
      ∙ paths_put w n r (Plain l) (Plain (N.join l m lq)) at)

  none_after : (ks : List ℕ) (u : Entries N.Local) → Replays N Both ks (Listing u) → ⊥
  none_after [] u z = (let y : Both ≡ Listing u = z in cc)
  none_after (k ∷ ks) u (v, z, more) = (let y : None ≡ Some v = z in cc)

  left : (ns : List ℕ) (w u : Entries N.Local) → Replays N (Listing w) ns (Listing u)
      → (n : ℕ) (r : Path) (e : Entry N.Local) → (IsAmong n ns → ⊥) → at_number w n ≡ Some (r, e)
      → IsKeptOrMarked u n r e
  left [] w u h n r e out there = inl (ap (λ k. at_number k n) (listing w u h) ∙ there)
  left (m ∷ ns) w u (v, h, rest) n r e out there = by v h rest (λ x k y i. left ns x u k n r y (λ j. out (inr j)) i)
    where
      by : (v : World N.Local) → numbers.leg N (Listing w) m ≡ Some v → Replays N v ns (Listing u)
          → ((x : Entries N.Local) → Replays N (Listing x) ns (Listing u) → (y : Entry N.Local)
          → at_number x n ≡ Some (r, y) → IsKeptOrMarked u n r y)
          → IsKeptOrMarked u n r e
      by Both h rest rec = absurd (none_after ns u rest)
      by (Listing x) h rest rec = go (own w x m (leg_ways w m (Listing x) h) n r e (λ z. out (inl z)) there)
        where
          go : (at_number x n ≡ Some (r, e))
              ⊎ (Joins N w m n
              × ((l : N.Local) × (e ≡ Plain l) × (N.next l ≡ Stops) × (at_number x n ≡ Some (r, Joined l))))
              → IsKeptOrMarked u n r e
          go (inl z) = rec x rest e z
          go (inr (j, (l, plain, stops, z))) = marked (rec x rest (Joined l) z)
            where
              marked : IsKeptOrMarked u n r (Joined l) → IsKeptOrMarked u n r e
              marked (inl k) = inr (l, plain, k)
              marked (inr (k, clash, y)) = absurd (let z : Joined l ≡ Plain k = clash in cc)

  kept : (ns : List ℕ) (w u : Entries N.Local) → Replays N (Listing w) ns (Listing u) → (n : ℕ) (r : Path) (l : N.Local)
      → (IsAmong n ns → ⊥) → at_number w n ≡ Some (r, Plain l) → N.next l ≢ Stops → at_number u n ≡ Some (r, Plain l)
  kept [] w u h n r l out there on = ap (λ k. at_number k n) (listing w u h) ∙ there
  kept (m ∷ ns) w u (v, h, rest) n r l out there on = by v h rest (λ x k i. kept ns x u k n r l (λ j. out (inr j)) i on)
    where
      by : (v : World N.Local) → numbers.leg N (Listing w) m ≡ Some v → Replays N v ns (Listing u)
          → ((x : Entries N.Local) → Replays N (Listing x) ns (Listing u) → at_number x n ≡ Some (r, Plain l)
          → at_number u n ≡ Some (r, Plain l))
          → at_number u n ≡ Some (r, Plain l)
      by Both h rest rec = absurd (none_after ns u rest)
      by (Listing x) h rest rec = go (own w x m (leg_ways w m (Listing x) h) n r (Plain l) (λ z. out (inl z)) there)
        where
          go : (at_number x n ≡ Some (r, Plain l))
              ⊎ (Joins N w m n
              × ((k : N.Local) × (Plain l ≡ Plain k) × (N.next k ≡ Stops) × (at_number x n ≡ Some (r, Joined k))))
              → at_number u n ≡ Some (r, Plain l)
          go (inl z) = rec x rest z
          go (inr (j, (k, same, stops, z))) = absurd (on (let y : l ≡ k = cc in ap N.next y ∙ stops))

  replay_on : (ns ks : List ℕ) (v : World N.Local)
      → replay N v (ns ++ ks) ≡ after N (replay N v ns) (λ u. replay N u ks)
  replay_on [] ks v = refl
  replay_on (m ∷ ns) ks v = by (numbers.leg N v m) (λ u. replay_on ns ks u)
    where
      by : (o : Option (World N.Local))
          → ((u : World N.Local) → replay N u (ns ++ ks) ≡ after N (replay N u ns) (λ x. replay N x ks))
          → after N o (λ u. replay N u (ns ++ ks)) ≡ after N (after N o (λ u. replay N u ns)) (λ u. replay N u ks)
      by None rec = refl
      by (Some u) rec = rec u

  replay_more : (ns : List ℕ) (v : World N.Local) (n : ℕ)
      → replay N v (ns ++ n ∷ []) ≡ after N (replay N v ns) (λ u. numbers.leg N u n)
  replay_more [] v n = by (numbers.leg N v n)
    where
      by : (o : Option (World N.Local)) → after N o (λ u. Some u) ≡ o
      by None = refl
      by (Some u) = refl
  replay_more (m ∷ ns) v n = by (numbers.leg N v m) (λ u. replay_more ns u n)
    where
      by : (o : Option (World N.Local))
          → ((u : World N.Local) → replay N u (ns ++ n ∷ []) ≡ after N (replay N u ns) (λ x. numbers.leg N x n))
          → after N o (λ u. replay N u (ns ++ n ∷ []))
          ≡ after N (after N o (λ u. replay N u ns)) (λ u. numbers.leg N u n)
      by None rec = refl
      by (Some u) rec = rec u

  to_replay : (ns : List ℕ) (v w : World N.Local) → Replays N v ns w → replay N v ns ≡ Some w
  to_replay [] v w h = ap Some h
  to_replay (n ∷ ns) v w (u, h, rest) = ap (λ o. after N o (λ x. replay N x ns)) h ∙ to_replay ns u w rest

  of_replay : (ns : List ℕ) (v w : World N.Local) → replay N v ns ≡ Some w → Replays N v ns w
  of_replay [] v w h = (let z : Some v ≡ Some w = h in cc)
  of_replay (n ∷ ns) v w h = by (numbers.leg N v n) refl h (λ u k. of_replay ns u w k)
    where
      by : (o : Option (World N.Local)) → numbers.leg N v n ≡ o → after N o (λ x. replay N x ns) ≡ Some w
          → ((u : World N.Local) → replay N u ns ≡ Some w → Replays N u ns w) → Replays N v (n ∷ ns) w
      by None e h rec = absurd (let z : None ≡ Some w = h in cc)
      by (Some u) e h rec = (u, e, rec u h)

pub legs_change : LegsChangeTheirOwn
legs_change g w u n e m r x apart there =
    own (numbered g) w u n (leg_ways (numbered g) w n (Listing u) e) m r x apart there

pub numbers_stay : NumbersStay
numbers_stay g w u n e = numbers_kept (numbered g) w u n (leg_ways (numbered g) w n (Listing u) e)

pub others_leave : OthersLeaveIt
others_leave g w u ns h n r e out there = left (numbered g) ns w u h n r e out there

pub running_left : RunningIsLeft
running_left g w u ns h n r l out there on = kept (numbered g) ns w u h n r l out there on

module _ (g : CodeRun) (w : Entries (Local ℕ)) (n m : ℕ) (h : WaitsOn g w n m) where
  not_stopped : (numbered g).next h.joiner ≢ Stops
  not_stopped e = (let clash : Wants m ≡ Stops = sym h.wants ∙ e in cc)

  none_stopped : (x : Wish (Local ℕ)) → (numbered g).next h.joinee ≡ x
      → join_stopped (numbered g) w n h.path h.joiner m h.other h.joinee x ≡ None
  none_stopped Stops e = absurd (h.on e)
  none_stopped (Goes l) e = refl
  none_stopped (Bears f c) e = refl
  none_stopped (Wants k) e = refl

  waits_none : numbers.leg (numbered g) (Listing w) n ≡ None
  waits_none =
      ap (leg_at (numbered g) w n) h.there ∙ ap (leg_of (numbered g) w n h.path h.joiner) h.wants
      ∙ ap (join_number (numbered g) w n h.path h.joiner m) h.stands ∙ none_stopped ((numbered g).next h.joinee) refl

  waits_on : (u : Entries (Local ℕ)) (ns : List ℕ) → Replays (numbered g) (Listing w) ns (Listing u)
      → (IsAmong n ns → ⊥) → (IsAmong m ns → ⊥) → WaitsOn g u n m
  waits_on u ns r out out' = record {
    path = h.path;
    joiner = h.joiner;
    there = kept (numbered g) ns w u r n h.path h.joiner out h.there not_stopped;
    wants = h.wants;
    other = h.other;
    joinee = h.joinee;
    stands = kept (numbered g) ns w u r m h.other h.joinee out' h.stands h.on;
    on = h.on;
  }

pub waiting_has_none : WaitingHasNoLeg
waiting_has_none g w n m h = waits_none g w n m h

pub waiting_stays : WaitingStays
waiting_stays g w u ns n m h r out out' = waits_on g w n m h u ns r out out'

pub replay_goes_on : ReplayGoesOn
replay_goes_on g v ns ks = replay_on (numbered g) ns ks v

pub one_entry : OneEntryIsOneLeg
one_entry g v ns n = replay_more (numbered g) ns v n

pub replay_is : ReplayIsTheWorld
replay_is g v w ns = (to_replay (numbered g) ns v w, of_replay (numbered g) ns v w)

-- ---- waiting

module _ (g : CodeRun) where
  leads : {H : Type 0} (k : ℕ) (c : State H) (o : Comes H) → IsEvent o → reach (under g) k c ≡ o → IsLeg (under g) c o
  leads zero c o i e = record { last = c; steps = code.none; comes = e; is = i }
  leads (suc k) c o i e = by (step (under g) c) refl e (λ d z. leads k d o i z)
    where
      by : (x : Comes _) → step (under g) c ≡ x → onward (λ d. reach (under g) k d) x ≡ o
          → ((d : State _) → reach (under g) k d ≡ o → IsLeg (under g) d o) → IsLeg (under g) c o
      by (goes d) is e rec =
          let l = rec d e in record { last = l.last; steps = code.more is l.steps; comes = l.comes; is = l.is }
      by (traps d x) is e rec = record { last = c; steps = code.none; comes = is ∙ e; is = i }
      by (forks d n args) is e rec = record { last = c; steps = code.none; comes = is ∙ e; is = i }
      by (joins d try h) is e rec = record { last = c; steps = code.none; comes = is ∙ e; is = i }
      by (ends d w) is e rec = record { last = c; steps = code.none; comes = is ∙ e; is = i }
      by stuck is e rec = record { last = c; steps = code.none; comes = is ∙ e; is = i }

  pub leg_leads : {H : Type 0} (c : State H) (o : Comes H) → IsEvent o → leg g c ≡ o → IsLeg (under g) c o
  leg_leads c o i e = leads (clock g c) c o i e

  module _ (ok : IsVerified g) (c c' : State ℕ) (try : Bool) (m : ℕ) (at : leg g c ≡ joins c' try m) where
    pub again : leg g c' ≡ joins c' try m
    again =
        let l = leg_leads c (joins c' try m) tt at in
        let e : c' ≡ l.last = subst (IsAt l.last) l.comes (stands g l.last) in
        let s : step (under g) c' ≡ joins c' try m = ap (step (under g)) e ∙ l.comes in
        leg_is g ok c' (joins c' try m) (record { last = c'; steps = code.none; comes = s; is = tt })

    pub same_join : (lq : Local ℕ) → join g (at_work c') lq ≡ join g (at_work c) lq
    same_join lq =
        ap (λ o. join_end g (at_work c') o (end_of lq)) again ∙ sym (ap (λ o. join_end g (at_work c) o (end_of lq)) at)

    abbrev N : Numbered
    N = numbered g

    same_leg : (w : Entries (Local ℕ)) (n : ℕ) (r : Path) → at_number w n ≡ Some (r, Plain (at_work c))
        → numbers.leg N (Listing (put_number w n (r, Plain (at_work c')))) n ≡ numbers.leg N (Listing w) n
    same_leg w n r there = first ∙ by (decide m n) ∙ sym second
      where
        w' : Entries (Local ℕ)
        w' = put_number w n (r, Plain (at_work c'))

        wants : (l : State ℕ) → leg g l ≡ joins c' try m → N.next (at_work l) ≡ Wants m
        wants l e = ap (λ o. wish_of (act_of g o)) e

        to_join : (v : Entries (Local ℕ)) (l : State ℕ) → at_number v n ≡ Some (r, Plain (at_work l))
            → leg g l ≡ joins c' try m → numbers.leg N (Listing v) n ≡ join_number N v n r (at_work l) m (at_number v m)
        to_join v l e is = ap (leg_at N v n) e ∙ ap (leg_of N v n r (at_work l)) (wants l is)

        first : numbers.leg N (Listing (put_number w n (r, Plain (at_work c')))) n
            ≡ join_number N (put_number w n (r, Plain (at_work c'))) n r (at_work c') m
            (at_number (put_number w n (r, Plain (at_work c'))) m)
        first = to_join (put_number w n (r, Plain (at_work c'))) c'
            (put_here w n (r, Plain (at_work c)) (r, Plain (at_work c')) there) again

        second : numbers.leg N (Listing w) n ≡ join_number N w n r (at_work c) m (at_number w m)
        second = to_join w c there at

        by_wish : (q : Path) (lq : Local ℕ) (x : Wish (Local ℕ))
            → join_stopped N (put_number w n (r, Plain (at_work c'))) n r (at_work c') m q lq x
            ≡ join_stopped N w n r (at_work c) m q lq x
        by_wish q lq Stops =
            let a = put_twice w n (r, Plain (at_work c')) (r, Plain (join g (at_work c') lq)) in
            let b = same_join lq in
            (λ i. Some (Listing (put_number (a i) m (q, Joined lq))))
            ∙ (λ i. Some (Listing (put_number (put_number w n (r, Plain (b i))) m (q, Joined lq))))
        by_wish q lq (Goes k) = refl
        by_wish q lq (Bears f k) = refl
        by_wish q lq (Wants k) = refl

        by_entry : (o : Option (Path × Entry (Local ℕ)))
            → join_number N (put_number w n (r, Plain (at_work c'))) n r (at_work c') m o
            ≡ join_number N w n r (at_work c) m o
        by_entry None = refl
        by_entry (Some (q, Joined lq)) = refl
        by_entry (Some (q, Plain lq)) = by_wish q lq (N.next lq)

        waits : (v : Entries (Local ℕ)) (l : State ℕ) → at_number v n ≡ Some (r, Plain (at_work l))
            → leg g l ≡ joins c' try m → m ≡ n → join_number N v n r (at_work l) m (at_number v m) ≡ None
        waits v l e is same =
            ap (join_number N v n r (at_work l) m) (ap (at_number v) same ∙ e)
            ∙ ap (join_stopped N v n r (at_work l) m r (at_work l)) (wants l is)

        by : (m ≡ n) ⊎ (m ≢ n)
            → join_number N (put_number w n (r, Plain (at_work c'))) n r (at_work c') m
            (at_number (put_number w n (r, Plain (at_work c'))) m)
            ≡ join_number N w n r (at_work c) m (at_number w m)
        by (inl same) =
            waits (put_number w n (r, Plain (at_work c'))) c'
            (put_here w n (r, Plain (at_work c)) (r, Plain (at_work c')) there) again same
            ∙ sym (waits w c there at same)
        by (inr other) =
            ap (join_number N (put_number w n (r, Plain (at_work c'))) n r (at_work c') m)
            (put_other w n m (r, Plain (at_work c')) other)
            ∙ by_entry (at_number w m)

pub standing_is : StandingIsTheSame
standing_is g ok c c' try m at = (again g ok c c' try m at, λ w n r there. same_leg g ok c c' try m at w n r there)
