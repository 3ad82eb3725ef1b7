-- A run to its end: one try, the least number that has a leg, and one such leg after another.
use Rattle.std.proofs.Common.{◌≡◌, ◌⊎◌, ◌∙◌, ℕ, ◌+◌, ◌<◌, ◌≤◌, ◌^◌, List, [], ◌∷◌, ◌++◌, length, Some, None, refl, sym, ap, subst, arith}
use Rattle.revision_machine.specs.Numbered as numbers
use Rattle.revision_machine.specs.Numbered.{Entries, World, Both, Listing, begin, Replays, Least}
use Rattle.code_machine.specs.Local.{CodeRun, IsVerified, Local}
use Rattle.code_machine.specs.Machines.{numbered, start_in}
use Rattle.code_machine.proofs.Starting.{entry_bound}
use Rattle.code_world.specs.declared.answer.LegAnswer.{LegAnswer}
use Rattle.code_world.specs.declared.answer.LegAnswer.TheVariants as answer
use Rattle.code_world.specs.declared.world.World as rust
use Rattle.code_world.specs.declared.world.World.TheVariants as world
use Rattle.code_world.specs.declared.table.Table.{Table}
use Rattle.code_world.specs.Answers.{LegAnswers}
use Rattle.code_world.specs.Counts.{slot_count}
use Rattle.code_world.specs.Tables.{IsWorld}
use Rattle.code_world.proofs.Rows.{slots_many}
use Rattle.revision_machine.proofs.Replays.{replays_on}
use Rattle.revision_machine.proofs.Lists.{at_below}
use Rattle.code_world.proofs.Worlds.{world_live, world_twice}
use Rattle.code_machine_laws.specs.Reached.{IsReached}
use Rattle.code_machine_laws.proofs.Reaching.{small}
use Rattle.world_runs.specs.declared.queue.ReadyQueue.{ReadyQueue}
use Rattle.world_runs.specs.Queue.{HasReady}
use Rattle.world_runs.specs.declared.made.Made.{Made}
use Rattle.world_runs.specs.declared.made.Made.TheVariants as made
use Rattle.world_runs.specs.Covers.{is_ready, CoversWorld, CoversWorldBut, IsKnown, CoversAfter, IsStill}
use Rattle.world_runs.specs.Finish.{HasTried, HasLeast, HasFinished}
use Rattle.world_runs.specs.LegOrNone.{made_of}
use Rattle.world_runs.proofs.Covering.{taken_out, least_has_it, none_has_it}
use Rattle.world_runs.proofs.Making.{makes}

module _ (g : CodeRun) where
  -- ---- one try

  tries : (w : Entries (Local ℕ)) (n : ℕ) → IsReached g (Listing w) → (a : LegAnswer) (v : rust.World)
      → LegAnswers g (Listing w) n a v → (q q' : ReadyQueue) → CoversAfter g w n a q' → IsStill a q q'
      → HasTried g (Listing w) n (made_of v a) q q'
  tries w n h answer.Twice v l q q' noted still =
      let m = makes g w n h answer.Twice v l in (m.0, m.1, m.2, m.3, noted m.0 m.1)
  tries w n h (answer.Forked k) v l q q' noted still =
      let m = makes g w n h (answer.Forked k) v l in (m.0, m.1, m.2, m.3, noted m.0 m.1)
  tries w n h (answer.Joined k) v l q q' noted still =
      let m = makes g w n h (answer.Joined k) v l in (m.0, m.1, m.2, m.3, noted m.0 m.1)
  tries w n h answer.Ended v l q q' noted still =
      let m = makes g w n h answer.Ended v l in (m.0, m.1, m.2, m.3, noted m.0 m.1)
  tries w n h answer.Trapped v l q q' noted still =
      let m = makes g w n h answer.Trapped v l in (m.0, m.1, m.2, m.3, noted m.0 m.1)
  tries w n h (answer.Waits k) v l q q' noted still =
      let m = makes g w n h (answer.Waits k) v l in (m.0, m.1, noted, still)
  tries w n h answer.NoSuch v l q q' noted still = let m = makes g w n h answer.NoSuch v l in (m.0, m.1, noted, still)
  tries w n h answer.Over v l q q' noted still = let m = makes g w n h answer.Over v l in (m.0, m.1, noted, still)

  module _ (ok : IsVerified g) (v : rust.World) (w : World (Local ℕ)) (t : Table) (e : v ≡ world.Live t)
      (h : IsReached g w) (is : IsWorld g v w) (n : ℕ) (q : ReadyQueue) (but : CoversWorldBut g w q n) (a : LegAnswer)
      (v' : rust.World) (l : LegAnswers g w n a v') where
    entries : (x : Entries (Local ℕ)) × (w ≡ Listing x) × IsKnown g x n a v' q
    entries =
        let x = world_live g v w t e is in (
          x.0,
          x.1,
          record {
            verified = ok;
            reached = subst (IsReached g) x.1 h;
            answers = subst (λ z. LegAnswers g z n a v') x.1 l;
            but = subst (λ z. CoversWorldBut g z q n) x.1 but;
          },
        )

    pub known_live : (g' : CodeRun) × (x : Entries (Local ℕ)) × (u : rust.World) × IsKnown g' x n a u q
    known_live = let x = entries in (g, x.0, v', x.2)

    pub tried_live : (q' : ReadyQueue)
        → ((g' : CodeRun) (x : Entries (Local ℕ)) (u : rust.World) → IsKnown g' x n a u q → CoversAfter g' x n a q')
        → IsStill a q q' → (k : Made) → k ≡ made_of v' a → HasTried g w n k q q'
    tried_live q' noted still k from =
        let x = entries in
        subst (λ z. HasTried g z n k q q') (sym x.1)
        (subst (λ z. HasTried g (Listing x.0) n z q q') (sym from)
        (tries x.0 n x.2.reached a v' x.2.answers q q' (noted g x.0 v' x.2) still))

  pub tried_twice : (v : rust.World) (w : World (Local ℕ)) → v ≡ world.Twice → IsWorld g v w → (n : ℕ) (q : ReadyQueue)
      → HasTried g w n (made.None world.Twice) q q
  tried_twice v w e is n q =
      subst (λ z. HasTried g z n (made.None world.Twice) q q) (sym (world_twice g v w e is)) (refl, tt, tt, refl)

  -- ---- the least number

  pub take_out : IsVerified g → (w : World (Local ℕ)) → IsReached g w → (q q' : ReadyQueue) (n : ℕ) → CoversWorld g w q
      → ((m : ℕ) → m < 2 ^ 32 → HasReady q m → (m ≡ n) ⊎ HasReady q' m) → q'.waiters ≡ q.waiters
      → CoversWorldBut g w q' n
  take_out ok Both h q q' n c kept same = tt
  take_out ok (Listing w) h q q' n c kept same = taken_out g ok w h q q' n c kept same

  pub least_in : IsVerified g → (w : World (Local ℕ)) → IsReached g w → (q : ReadyQueue) (n : ℕ) → CoversWorld g w q
      → ((m : ℕ) → m < 2 ^ 32 → HasReady q m → n ≤ m) → n < 2 ^ 32 → (m : ℕ) → m < n
      → numbers.leg (numbered g) w m ≡ None
  least_in ok Both h q n c least few m less = refl
  least_in ok (Listing w) h q n c least few m less = least_has_it g ok w h q n c least few m less

  pub none_in : IsVerified g → (w : World (Local ℕ)) → IsReached g w → (q : ReadyQueue) → CoversWorld g w q
      → ((m : ℕ) → HasReady q m → ⊥) → (m : ℕ) → numbers.leg (numbered g) w m ≡ None
  none_in ok Both h q c none m = refl
  none_in ok (Listing w) h q c none m = none_has_it g ok w h q c none m

  -- ---- the first queue

  pub first_covers : (v : rust.World) (w : World (Local ℕ)) → IsWorld g v w → (q : ReadyQueue)
      → length q.waiters.items ≡ slot_count v → ((m : ℕ) → m < slot_count v → HasReady q m) → CoversWorld g w q
  first_covers world.Twice Both is q count ready = tt
  first_covers (world.Live t) (Listing w) is q count ready =
      let s = slots_many g t.slots.items w is.slots in
      record {
        count = count ∙ s;
        each = λ m has. is_ready (ready m (let a = at_below w m (has.0, has.1) has.2 in omega (arith, a, s)));
      }
  first_covers world.Twice (Listing w) is q count ready = absurd is
  first_covers (world.Live t) Both is q count ready = tt

  pub count_fits : IsVerified g → (v : rust.World) (w : World (Local ℕ)) → IsReached g w → IsWorld g v w
      → slot_count v ≤ 2 ^ 32
  count_fits ok world.Twice w h is = omega arith
  count_fits ok (world.Live t) (Listing w) h is =
      let s = slots_many g t.slots.items w is.slots in
      let b = small g ok w h in omega (arith, s, b)
  count_fits ok (world.Live t) Both h is = absurd is

  -- ---- one leg after another

  -- each entry is the least number that has a leg
  abbrev pub Leads : World (Local ℕ) → List ℕ → World (Local ℕ) → Type 0
  Leads v [] w = v ≡ w
  Leads v (n ∷ ns) w =
      (u : World (Local ℕ)) × (numbers.leg (numbered g) v n ≡ Some u)
      × ((m : ℕ) → m < n → numbers.leg (numbered g) v m ≡ None) × Leads u ns w

  pub leads_on : (v : World (Local ℕ)) (ns : List ℕ) (w : World (Local ℕ)) → Leads v ns w
      → (n : ℕ) (u : World (Local ℕ)) → numbers.leg (numbered g) w n ≡ Some u
      → ((m : ℕ) → m < n → numbers.leg (numbered g) w m ≡ None) → Leads v (ns ++ n ∷ []) u
  leads_on v [] w e n u leg least = (
    u,
    subst (λ z. numbers.leg (numbered g) z n ≡ Some u) (sym e) leg,
    (λ m less. subst (λ z. numbers.leg (numbered g) z m ≡ None) (sym e) (least m less)),
    refl,
  )
  leads_on v (k ∷ ns) w (x, l, s, rest) n u leg least = (x, l, s, leads_on x ns w rest n u leg least)

  pub leads_replays : (v : World (Local ℕ)) (ns : List ℕ) (w : World (Local ℕ)) → Leads v ns w
      → Replays (numbered g) v ns w
  leads_replays v [] w e = e
  leads_replays v (n ∷ ns) w (u, l, s, rest) = (u, l, leads_replays u ns w rest)

  pub leads_least : (main : Local ℕ) (v : World (Local ℕ)) (ns : List ℕ) (w : World (Local ℕ)) → Leads v ns w
      → ((m : ℕ) → numbers.leg (numbered g) w m ≡ None) → Least (numbered g) main v ns w
  leads_least main v [] w e over = (e, λ m. subst (λ z. numbers.leg (numbered g) z m ≡ None) (sym e) (over m))
  leads_least main v (n ∷ ns) w (u, l, s, rest) over = (u, l, s, leads_least main u ns w rest over)

  longer : (xs ys : List ℕ) → length ys ≤ length (xs ++ ys)
  longer [] ys = omega arith
  longer (x ∷ xs) ys = let a = longer xs ys in omega (arith, a)

  pub longer_one : (xs : List ℕ) (x : ℕ) → length (xs ++ x ∷ []) ≡ length xs + 1
  longer_one [] x = refl
  longer_one (y ∷ xs) x = let a = longer_one xs x in omega (arith, a)

  -- so many legs have led from w to the world that stands
  pub record Came (w : World (Local ℕ)) (turns : ℕ) (v : rust.World) (q : ReadyQueue) : Type 0 where
    pub schedule : List ℕ
    pub last : World (Local ℕ)
    pub count : length schedule ≡ turns
    pub leads : Leads w schedule last
    pub reached : IsReached g last
    pub stands : IsWorld g v last
    pub covers : CoversWorld g last q

  unfoldable pub came_none : (w : World (Local ℕ)) (v : rust.World) (q : ReadyQueue) → IsReached g w → IsWorld g v w
      → CoversWorld g w q → Came w 0 v q
  came_none w v q h is c =
      record { schedule = []; last = w; count = refl; leads = refl; reached = h; stands = is; covers = c }

  unfoldable pub came_more : (w : World (Local ℕ)) (turns : ℕ) (v : rust.World) (q : ReadyQueue) (c : Came w turns v q)
      → (v' : rust.World) (q' : ReadyQueue) → HasLeast g c.last (made.Leg v') q' → Came w (turns + 1) v' q'
  came_more w turns v q c v' q' (n, u, leg, least, h, is, covers) = record {
    schedule = c.schedule ++ n ∷ [];
    last = u;
    count = longer_one c.schedule n ∙ ap (λ k. k + 1) c.count;
    leads = leads_on w c.schedule c.last c.leads n u leg least;
    reached = h;
    stands = is;
    covers = covers;
  }

  unfoldable pub came_last : (w : World (Local ℕ)) (turns : ℕ) (v : rust.World) (q : ReadyQueue) (c : Came w turns v q)
      → (v' : rust.World) (q' : ReadyQueue) → HasLeast g c.last (made.None v') q' → HasFinished g w v'
  came_last w turns v q c v' q' (over, is) = record {
    schedule = c.schedule;
    end = c.last;
    least = λ main. leads_least main w c.schedule c.last c.leads over;
    complete = λ main. record { replays = leads_replays w c.schedule c.last c.leads; over = over };
    reached = c.reached;
    world = is;
  }

  -- no more legs than the fuel allows
  pub came_few : IsVerified g → (w : World (Local ℕ)) → IsReached g w → (turns : ℕ) (v : rust.World) (q : ReadyQueue)
      → Came w turns v q → turns ≤ 12000000002
  came_few ok w h turns v q c =
      let b = entry_bound g ok h.number h.main h.fuel (h.schedule ++ c.schedule) c.last
      (replays_on (numbered g) h.schedule c.schedule (begin (numbered g) (start_in g h.number h.main.body h.fuel)) w
      c.last h.replays (leads_replays w c.schedule c.last c.leads)) in
      let l = longer h.schedule c.schedule in
      let few = h.few in
      let many = c.count in
      omega (arith, b, l, few, many)
