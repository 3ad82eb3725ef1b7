-- What is known of revisions that may have a leg, before a leg and after it.
use Rattle.std.proofs.Common.{◌≡◌, ◌≢◌, ◌⊎◌, inl, inr, ◌∙◌, ℕ, suc, ◌<◌, ◌≤◌, ◌^◌, [], ◌∷◌, length, Option, Some, None, refl, sym, ap, subst, arith}
use Rattle.rev_num.specs.Path.{Path}
use Rattle.revision_machine.specs.Machine.{Entry, Plain, Joined}
use Rattle.revision_machine.specs.Numbered as numbers
use Rattle.revision_machine.specs.Numbered.{Wants, Stops, Entries, Listing, at_number, Replays}
use Rattle.code_machine.specs.Local.{CodeRun, IsVerified, Phase, running, done, trapped, Trap, Local}
use Rattle.code_machine.specs.Machines.{act_in, wish_of, numbered}
use Rattle.code_machine.specs.Proper.{IsOver}
use Rattle.code_machine.specs.Worlds.{Joins, WaitsOn, IsAmong}
use Rattle.code_machine.proofs.Changes.{decide, legs_change, running_left, waiting_stays, waiting_has_none}
use Rattle.code_machine.proofs.Typing.{worlds_proper, stops_over}
use Rattle.code_world.specs.Answers.{HasStopped, IsInPhase}
use Rattle.code_world.proofs.Rows.{none_some}
use Rattle.revision_machine.proofs.Lists.{at_below, below_at}
use Rattle.code_machine_laws.specs.Reached.{IsReached}
use Rattle.code_machine_laws.specs.Laws.{HasNumber}
use Rattle.code_machine_laws.proofs.Reaching.{small}
use Rattle.world_runs.specs.declared.queue.ReadyQueue.{ReadyQueue}
use Rattle.world_runs.specs.Queue.{HasReady, HasWaiter, KeepsAll}
use Rattle.world_runs.specs.Covers.{IsCovered, is_ready, has_stopped, waits_for, Covers, CoversBut}
use Rattle.world_runs.proofs.Making.{none_there, none_over}

-- ---- before a leg

module _ (g : CodeRun) (ok : IsVerified g) (w : Entries (Local ℕ)) (h : IsReached g (Listing w)) where
  number_small : (m : ℕ) → HasNumber w m → m < 2 ^ 32
  number_small m (p, e, at) = let a = at_below w m (p, e) at in let b = small g ok w h in omega (arith, a, b)

  pub taken_out : (q q' : ReadyQueue) (n : ℕ) → Covers g w q
      → ((m : ℕ) → m < 2 ^ 32 → HasReady q m → (m ≡ n) ⊎ HasReady q' m) → q'.waiters ≡ q.waiters → CoversBut g w q' n
  taken_out q q' n c kept same =
      record { count = ap (λ v. length v.items) same ∙ c.count; each = λ m other has. by m other has (c.each m has) }
    where
      by : (m : ℕ) → m ≢ n → HasNumber w m → IsCovered g w q m → IsCovered g w q' m
      by m other has (is_ready r) = ready (kept m (number_small m has) r)
        where
          ready : (m ≡ n) ⊎ HasReady q' m → IsCovered g w q' m
          ready (inl is) = absurd (other is)
          ready (inr r') = is_ready r'
      by m other has (has_stopped s) = has_stopped s
      by m other has (waits_for k x y) = waits_for k x (record {
        waiters = y.waiters;
        there = ap (λ v. Rattle.std.specs.Prelude.slice_get v.items k) same ∙ y.there;
        among = y.among;
      })

  -- one that is not ready has no leg
  none_covered : (q : ReadyQueue) (m : ℕ) → (HasReady q m → ⊥) → Covers g w q
      → numbers.leg (numbered g) (Listing w) m ≡ None
  none_covered q m not c = by (at_number w m) refl
    where
      covered : IsCovered g w q m → numbers.leg (numbered g) (Listing w) m ≡ None
      covered (is_ready r) = absurd (not r)
      covered (has_stopped s) = none_over g w m s
      covered (waits_for k x y) = waiting_has_none g w m k x

      by : (o : Option (Path × Entry (Local ℕ))) → at_number w m ≡ o → numbers.leg (numbered g) (Listing w) m ≡ None
      by None e = none_there g w m e
      by (Some (p, x)) e = covered (c.each m (p, x, e))

  pub least_has_it : (q : ReadyQueue) (n : ℕ) → Covers g w q → ((m : ℕ) → m < 2 ^ 32 → HasReady q m → n ≤ m)
      → n < 2 ^ 32 → (m : ℕ) → m < n → numbers.leg (numbered g) (Listing w) m ≡ None
  least_has_it q n c least few m less =
      none_covered q m (λ r. let a = least m (omega (arith, less, few)) r in omega (arith, a, less)) c

  pub none_has_it : (q : ReadyQueue) → Covers g w q → ((m : ℕ) → HasReady q m → ⊥) → (m : ℕ)
      → numbers.leg (numbered g) (Listing w) m ≡ None
  none_has_it q c none m = none_covered q m (none m) c

  -- ---- after none

  pub waits_now : (q q' : ReadyQueue) (n on : ℕ) → CoversBut g w q n → WaitsOn g w n on → HasWaiter q' on n
      → KeepsAll q q' → length q'.waiters.items ≡ length q.waiters.items → Covers g w q'
  waits_now q q' n on c x here keeps count = record { count = count ∙ c.count; each = λ m has. pick m has (decide m n) }
    where
      by : (m : ℕ) → IsCovered g w q m → IsCovered g w q' m
      by m (is_ready r) = is_ready (keeps.ready m r)
      by m (has_stopped s) = has_stopped s
      by m (waits_for k y z) = waits_for k y (keeps.waits k m z)

      pick : (m : ℕ) → HasNumber w m → (m ≡ n) ⊎ (m ≢ n) → IsCovered g w q' m
      pick m has (inl is) = subst (IsCovered g w q') (sym is) (waits_for on x here)
      pick m has (inr other) = by m (c.each m other has)

  pub over_now : (q : ReadyQueue) (n : ℕ) → CoversBut g w q n → HasStopped g w n → Covers g w q
  over_now q n c s = record { count = c.count; each = λ m has. pick m has (decide m n) }
    where
      pick : (m : ℕ) → HasNumber w m → (m ≡ n) ⊎ (m ≢ n) → IsCovered g w q m
      pick m has (inl is) = subst (IsCovered g w q) (sym is) (has_stopped s)
      pick m has (inr other) = c.each m other has

  pub none_such : (q : ReadyQueue) (n : ℕ) → CoversBut g w q n → at_number w n ≡ None → Covers g w q
  none_such q n c e = record {
    count = c.count;
    each = λ m has. c.each m (λ is. none_some (sym e ∙ ap (at_number w) (sym is) ∙ has.2)) has;
  }

-- ---- after a leg

pub phase_stops : (g : CodeRun) (u : Entries (Local ℕ)) (n : ℕ) (p : Phase ℕ)
    → (p ≡ done) ⊎ ((t : Trap ℕ) × (p ≡ trapped t)) → IsInPhase u n p → HasStopped g u n
phase_stops g u n p over (r, l, at, is) = (r, Plain l, at, ap (λ x. wish_of (act_in g l.state x)) is ∙ by p over)
  where
    by : (x : Phase ℕ) → (x ≡ done) ⊎ ((t : Trap ℕ) × (x ≡ trapped t)) → wish_of (act_in g l.state x) ≡ Stops
    by x (inl e) = ap (λ y. wish_of (act_in g l.state y)) e
    by x (inr (t, e)) = ap (λ y. wish_of (act_in g l.state y)) e

module _ (g : CodeRun) (ok : IsVerified g) (w u : Entries (Local ℕ)) (h : IsReached g (Listing u)) (n : ℕ)
    (leg : numbers.leg (numbered g) (Listing w) n ≡ Some (Listing u)) where
  still_stopped : (m : ℕ) → m ≢ n → HasStopped g w m → HasStopped g u m
  still_stopped m other (r, e, at, stops) = by (legs_change g w u n leg m r e other at)
    where
      by : (at_number u m ≡ Some (r, e))
          ⊎ (Joins (numbered g) w n m
          × ((l : Local ℕ) × (e ≡ Plain l) × ((numbered g).next l ≡ Stops) × (at_number u m ≡ Some (r, Joined l))))
          → HasStopped g u m
      by (inl same) = (r, e, same, stops)
      by (inr (j, (l, is, s, now))) = (r, Joined l, now, s)

  replays : Replays (numbered g) (Listing w) (n ∷ []) (Listing u)
  replays = (Listing u, leg, refl)

  not_among : (m : ℕ) → m ≢ n → IsAmong m (n ∷ []) → ⊥
  not_among m other (inl e) = other e
  not_among m other (inr none) = none

  still_waits : (m k : ℕ) → m ≢ n → k ≢ n → WaitsOn g w m k → WaitsOn g u m k
  still_waits m k other apart x = waiting_stays g w u (n ∷ []) m k x replays (not_among m other) (not_among k apart)

  -- for the revision that made the leg, where it is at work
  still_waits_for : (m : ℕ) → m ≢ n → WaitsOn g w m n → IsInPhase u n running → WaitsOn g u m n
  still_waits_for m other x (r, l, at, is) = record {
    path = x.path;
    joiner = x.joiner;
    there = running_left g w u (n ∷ []) replays m x.path x.joiner (not_among m other) x.there
        (λ e. let clash : Wants n ≡ Stops = sym x.wants ∙ e in cc);
    wants = x.wants;
    other = r;
    joinee = l;
    stands = at;
    on = λ e. works (stops_over g ok l
        (worlds_proper g ok h.number h.main h.fuel h.schedule (Listing u) h.replays n r (Plain l) at) e);
  }
    where
      works : IsOver l → ⊥
      works (inl i) = (let z : ◌≡◌ {A = Phase ℕ} running done = sym is ∙ i in cc)
      works (inr (t, i)) = (let z : ◌≡◌ {A = Phase ℕ} running (trapped t) = sym is ∙ i in cc)

  -- the revision goes on, and is ready
  pub goes_on : (q q' : ReadyQueue) → CoversBut g w q n → IsInPhase u n running → HasReady q' n → KeepsAll q q'
      → length q'.waiters.items ≡ length u
      → ((m : ℕ) → HasNumber u m → HasNumber w m ⊎ HasReady q' m) → Covers g u q'
  goes_on q q' c phase here keeps count more =
      record { count = count; each = λ m has. pick m (decide m n) (more m has) }
    where
      waits : (m k : ℕ) → m ≢ n → (k ≡ n) ⊎ (k ≢ n) → WaitsOn g w m k → HasWaiter q k m → IsCovered g u q' m
      waits m k other (inl is) x y =
          waits_for n (still_waits_for m other (subst (WaitsOn g w m) is x) phase)
          (subst (λ z. HasWaiter q' z m) is (keeps.waits k m y))
      waits m k other (inr apart) x y = waits_for k (still_waits m k other apart x) (keeps.waits k m y)

      by : (m : ℕ) → m ≢ n → IsCovered g w q m → IsCovered g u q' m
      by m other (is_ready r) = is_ready (keeps.ready m r)
      by m other (has_stopped s) = has_stopped (still_stopped m other s)
      by m other (waits_for k x y) = waits m k other (decide k n) x y

      pick : (m : ℕ) → (m ≡ n) ⊎ (m ≢ n) → HasNumber w m ⊎ HasReady q' m → IsCovered g u q' m
      pick m (inl is) o = is_ready (subst (HasReady q') (sym is) here)
      pick m (inr other) (inl has) = by m other (c.each m other has)
      pick m (inr other) (inr r) = is_ready r

  -- the revision has ended, and those that waited for it are ready
  pub has_ended_now : (q q' : ReadyQueue) → CoversBut g w q n → HasStopped g u n
      → ((m : ℕ) → HasWaiter q n m → HasReady q' m) → ((m : ℕ) → HasReady q m → HasReady q' m)
      → ((k m : ℕ) → k ≢ n → HasWaiter q k m → HasWaiter q' k m) → length q'.waiters.items ≡ length q.waiters.items
      → length u ≡ length w → Covers g u q'
  has_ended_now q q' c stopped woken ready others count same =
      record { count = count ∙ c.count ∙ sym same; each = λ m has. pick m (decide m n) has }
    where
      waits : (m k : ℕ) → m ≢ n → (k ≡ n) ⊎ (k ≢ n) → WaitsOn g w m k → HasWaiter q k m → IsCovered g u q' m
      waits m k other (inl is) x y = is_ready (woken m (subst (λ z. HasWaiter q z m) is y))
      waits m k other (inr apart) x y = waits_for k (still_waits m k other apart x) (others k m apart y)

      by : (m : ℕ) → m ≢ n → IsCovered g w q m → IsCovered g u q' m
      by m other (is_ready r) = is_ready (ready m r)
      by m other (has_stopped s) = has_stopped (still_stopped m other s)
      by m other (waits_for k x y) = waits m k other (decide k n) x y

      before : (m : ℕ) → HasNumber u m → HasNumber w m
      before m (p, e, at) =
          let a = at_below u m (p, e) at in let b = below_at w m (omega (arith, a, same)) in (b.0.0, b.0.1, b.1)

      pick : (m : ℕ) → (m ≡ n) ⊎ (m ≢ n) → HasNumber u m → IsCovered g u q' m
      pick m (inl is) has = subst (IsCovered g u q') (sym is) (has_stopped stopped)
      pick m (inr other) has = by m other (c.each m other (before m has))

-- as many revisions as before, or one more
pub same_numbers : (w u : Entries (Local ℕ)) (q : ReadyQueue) → length u ≡ length w → (m : ℕ) → HasNumber u m
    → HasNumber w m ⊎ HasReady q m
same_numbers w u q same m (p, e, at) =
    let a = at_below u m (p, e) at in let b = below_at w m (omega (arith, a, same)) in inl (b.0.0, b.0.1, b.1)

pub one_more : (w u : Entries (Local ℕ)) (q : ReadyQueue) → length u ≡ suc (length w) → HasReady q (length w) → (m : ℕ)
    → HasNumber u m → HasNumber w m ⊎ HasReady q m
one_more w u q more here m (p, e, at) = by (decide m (length w))
  where
    by : (m ≡ length w) ⊎ (m ≢ length w) → HasNumber w m ⊎ HasReady q m
    by (inl is) = inr (subst (HasReady q) (sym is) here)
    by (inr other) =
        let a = at_below u m (p, e) at in
        let b = below_at w m (omega (arith, a, more, other)) in
        inl (b.0.0, b.0.1, b.1)
