-- A run queue whose lists reach as far as the records stands to the statuses as before, after each event of a revision.
use Rattle.std.proofs.Common.{◌≡◌, ◌≢◌, ℕ, zero, suc, ◌+◌, ◌<◌, ◌≤◌, Bool, true, false, cond, ◌==◌, List, [], ◌∷◌, ◌++◌, length, sym, refl, ap, ◌∙◌, subst, arith, eq-eqb, ne_eqb, Option, Some, None}
use Rattle.std.proofs.lemmas.Option.{slice_get_past}
use mathlib.Core.Logic.{dite}
use native.Mathlib.Decide.{ℕ_discrete}
use Rattle.revision_machine.specs.Numbered.{at_number, put_number}
use Rattle.revision_machine.proofs.Paths.{some_inj}
use Rattle.revision_machine.proofs.Numbers.{none_some}
use Rattle.hub_core.specs.declared.status.Status.{Status}
use Rattle.hub_core.specs.declared.status.Status.TheVariants.{Ready, Out, Waiting, Over, Gone}
use Rattle.hub_core.specs.HubMachine.{HubMachine}
use Rattle.revision_machine.proofs.Lists.{put_other, put_here, put_twice, at_length}
use Rattle.hub_core.specs.declared.run_queue.Chain.{Chain}
use Rattle.hub_core.specs.declared.run_queue.RunQueue.{RunQueue}
use Rattle.hub_core.specs.Counts.{total, is_at, times, flag}
use Rattle.hub_core.specs.Chains.{HasLists, IsNowhere, IsOnce, IsWithin, IsList, chain_at, with_waiter, without_waiters, IsAsLong, Adds, Takes, DelaysOne, EndsOne, ReadiesOne}
use Rattle.hub_core.specs.Found.{ended_here, is_ready, all_over}
use Rattle.hub_core.specs.Queued.{is_open, unfinished, waits_for}
use Rattle.hub_core.specs.Tally.{QueuedTo}
use Rattle.hub_core.proofs.Lists.{total_snoc, total_append, is_at_same, is_at_other}
use Rattle.hub_core.proofs.Ways.{chain_within}

-- flags
flag_most : (b : Bool) → flag b ≤ 1
flag_most true = omega arith
flag_most false = omega arith

flag_true : (b : Bool) → 0 < flag b → b ≡ true
flag_true true h = refl
flag_true false h = absurd (omega arith)

cond_false : (b : Bool) → cond b false false ≡ false
cond_false true = refl
cond_false false = refl

-- one that waits for m is not ready too: whether m has ended, whether it waits for m, whether what it waits for has
-- ended
abbrev Both : Bool → Bool → Bool → Type 0
Both b e c = flag (cond b false e) + flag c ≤ 1

both_same : (b : Bool) → Both b true b
both_same true = omega arith
both_same false = omega arith

both_other : (b c : Bool) → Both b false c
both_other true true = omega arith
both_other true false = omega arith
both_other false true = omega arith
both_other false false = omega arith

-- and does not wait for another
abbrev Two : Bool → Bool → Bool → Bool → Type 0
Two b e c f = flag (cond b false e) + flag (cond c false f) ≤ 1

two_first : (b c f : Bool) → Two b false c f
two_first true true f = omega arith
two_first true false true = omega arith
two_first true false false = omega arith
two_first false true f = omega arith
two_first false false true = omega arith
two_first false false false = omega arith

two_second : (b e c : Bool) → Two b e c false
two_second true e true = omega arith
two_second true e false = omega arith
two_second false true true = omega arith
two_second false true false = omega arith
two_second false false true = omega arith
two_second false false false = omega arith

module _ {B : Type 0} where
  total_put : (f : B → ℕ) (w : List B) (n : ℕ) (x y : B) → at_number w n ≡ Some x
      → total f (put_number w n y) + f x ≡ total f w + f y
  total_put f [] n x y e = none_some e
  total_put f (z ∷ w) zero x y e = let is : f z ≡ f x = ap f (some_inj e) in omega arith
  total_put f (z ∷ w) (suc n) x y e = let r = total_put f w n x y e in omega arith

  at_other : (w : List B) (y : B) (k : ℕ) → k ≢ length w → at_number (w ++ y ∷ []) k ≡ at_number w k
  at_other [] y zero apart = absurd (apart refl)
  at_other [] y (suc k) apart = refl
  at_other (x ∷ w) y zero apart = refl
  at_other (x ∷ w) y (suc k) apart = at_other w y k (λ e. apart (ap suc e))

module _ {L R A E : Type 0} (d : HubMachine L R A E) (many : ℕ) where
  abbrev Slots : Type 0
  Slots = List (Status R A E)

  -- the same have ended
  abbrev SameEnds : Slots → Slots → Type 0
  SameEnds s s' = (m : ℕ) → ended_here (at_number s' m) ≡ ended_here (at_number s m)

  ready_same : (s s' : Slots) → SameEnds s s' → (o : Option (Status R A E)) → is_ready d s' o ≡ is_ready d s o
  ready_same s s' same None = refl
  ready_same s s' same (Some (Ready r)) = refl
  ready_same s s' same (Some Out) = refl
  ready_same s s' same (Some (Waiting a)) = same (d.on a)
  ready_same s s' same (Some (Over e)) = refl
  ready_same s s' same (Some Gone) = refl

  waits_same : (s s' : Slots) (m : ℕ) → ended_here (at_number s' m) ≡ ended_here (at_number s m)
      → (o : Option (Status R A E)) → waits_for d s' m o ≡ waits_for d s m o
  waits_same s s' m same None = refl
  waits_same s s' m same (Some (Ready r)) = refl
  waits_same s s' m same (Some Out) = refl
  waits_same s s' m same (Some (Waiting a)) = ap (λ b. cond b false (d.on a == m)) same
  waits_same s s' m same (Some (Over e)) = refl
  waits_same s s' m same (Some Gone) = refl

  ends_put : (slots : Slots) (n : ℕ) (x s : Status R A E) → at_number slots n ≡ Some x
      → ended_here (Some s) ≡ ended_here (Some x) → SameEnds slots (put_number slots n s)
  ends_put slots n x s e same m = dite (ℕ_discrete n m)
      (λ is. ap (λ i. ended_here (at_number (put_number slots n s) i)) (sym is)
      ∙ (ap ended_here (put_here slots n x s e)
      ∙ (same ∙ (sym (ap ended_here e) ∙ ap (λ i. ended_here (at_number slots i)) is))))
      (λ apart. ap ended_here (put_other slots n m s (λ i. apart (sym i))))

  out_more : (slots : Slots) → SameEnds slots (slots ++ Out ∷ [])
  out_more [] zero = refl
  out_more [] (suc m) = refl
  out_more (x ∷ slots) zero = refl
  out_more (x ∷ slots) (suc m) = out_more slots m

  ends_more : (slots : Slots) (c : R) → SameEnds slots (slots ++ Ready c ∷ [])
  ends_more [] c zero = refl
  ends_more [] c (suc m) = refl
  ends_more (x ∷ slots) c zero = refl
  ends_more (x ∷ slots) c (suc m) = ends_more slots c m

  -- a number stands in one list
  waiting_once : (slots : Slots) (m k : ℕ)
      → Both (ended_here (at_number slots m)) (k == m) (ended_here (at_number slots k))
  waiting_once slots m k = dite (ℕ_discrete k m)
      (λ is. subst (λ (z : Bool × Bool). Both (ended_here (at_number slots m)) z.0 z.1)
      (λ i. (sym (eq-eqb k m is) i, ap (λ j. ended_here (at_number slots j)) (sym is) i))
      (both_same (ended_here (at_number slots m))))
      (λ apart.
      subst (λ z. Both (ended_here (at_number slots m)) z (ended_here (at_number slots k))) (sym (ne_eqb k m apart))
      (both_other (ended_here (at_number slots m)) (ended_here (at_number slots k))))

  once_ready : (slots : Slots) (m : ℕ) (o : Option (Status R A E))
      → flag (waits_for d slots m o) + flag (is_ready d slots o) ≤ 1
  once_ready slots m None = omega arith
  once_ready slots m (Some (Ready r)) = omega arith
  once_ready slots m (Some Out) = omega arith
  once_ready slots m (Some (Waiting a)) = waiting_once slots m (d.on a)
  once_ready slots m (Some (Over e)) = omega arith
  once_ready slots m (Some Gone) = omega arith

  waiting_alone : (slots : Slots) (m k j : ℕ) → m ≢ k
      → Two (ended_here (at_number slots m)) (j == m) (ended_here (at_number slots k)) (j == k)
  waiting_alone slots m k j apart = dite (ℕ_discrete j m)
      (λ is. subst (λ z. Two (ended_here (at_number slots m)) (j == m) (ended_here (at_number slots k)) z)
      (sym (ne_eqb j k (λ e. apart (sym is ∙ e))))
      (two_second (ended_here (at_number slots m)) (j == m) (ended_here (at_number slots k))))
      (λ ne. subst (λ z. Two (ended_here (at_number slots m)) z (ended_here (at_number slots k)) (j == k))
      (sym (ne_eqb j m ne)) (two_first (ended_here (at_number slots m)) (ended_here (at_number slots k)) (j == k)))

  once_waits : (slots : Slots) (m k : ℕ) (o : Option (Status R A E)) → m ≢ k
      → flag (waits_for d slots m o) + flag (waits_for d slots k o) ≤ 1
  once_waits slots m k None apart = omega arith
  once_waits slots m k (Some (Ready r)) apart = omega arith
  once_waits slots m k (Some Out) apart = omega arith
  once_waits slots m k (Some (Waiting a)) apart = waiting_alone slots m k (d.on a) apart
  once_waits slots m k (Some (Over e)) apart = omega arith
  once_waits slots m k (Some Gone) apart = omega arith

  pub is_once : (slots : Slots) (q : RunQueue) (h : QueuedTo d many slots q) → IsOnce h.ready h.waits
  is_once slots q h = record {
    in_ready = λ m n.
        let a = h.waits_are m n in
        let b = h.ready_are n in
        let c = once_ready slots m (at_number slots n) in
        omega arith;
    in_waits = λ m k n apart.
        let a = h.waits_are m n in
        let b = h.waits_are k n in
        let c = once_waits slots m k (at_number slots n) apart in
        omega arith;
  }

  -- what stands in no list
  abbrev IsIdle : Option (Status R A E) → Type 0
  IsIdle o = (slots : Slots) → (is_ready d slots o ≡ false) × ((m : ℕ) → waits_for d slots m o ≡ false)

  none_idle : IsIdle None
  none_idle slots = (refl, λ m. refl)

  out_idle : IsIdle (Some Out)
  out_idle slots = (refl, λ m. refl)

  is_nowhere : (slots : Slots) (q : RunQueue) (h : QueuedTo d many slots q) (n : ℕ) (o : Option (Status R A E))
      → at_number slots n ≡ o → IsIdle o → IsNowhere n h.ready h.waits
  is_nowhere slots q h n o e idle = record {
    in_ready = h.ready_are n ∙ (ap (λ z. flag (is_ready d slots z)) e ∙ ap flag (idle slots).0);
    in_waits = λ m. h.waits_are m n ∙ (ap (λ z. flag (waits_for d slots m z)) e ∙ ap flag ((idle slots).1 m));
  }

  list_within : (links : List ℕ) (list : Option Chain) (ns : List ℕ) (many : ℕ) → IsList links list ns
      → ((n : ℕ) → 0 < times n ns → n < many) → IsWithin list many
  list_within links None ns many h all = tt
  list_within links (Some c) ns many h all = chain_within links c ns many h all

  -- each revision that can stand in a list is below this number
  abbrev pub IsListed : Status R A E → Type 0
  IsListed (Ready r) = Unit {0}
  IsListed Out = ⊥
  IsListed (Waiting a) = Unit {0}
  IsListed (Over e) = ⊥
  IsListed Gone = ⊥

  abbrev pub AreListed : Slots → Type 0
  AreListed slots = (n : ℕ) (x : Status R A E) → at_number slots n ≡ Some x → IsListed x → n < many

  ready_listed : (slots : Slots) → AreListed slots → (n : ℕ) → 0 < flag (is_ready d slots (at_number slots n))
      → n < many
  ready_listed slots listed n some = by (at_number slots n) refl
    where
      by : (o : Option (Status R A E)) → at_number slots n ≡ o → n < many
      by None e =
          let z : flag (is_ready d slots (at_number slots n)) ≡ 0 = ap (λ o. flag (is_ready d slots o)) e in
          absurd (omega arith)
      by (Some (Ready r)) e = listed n (Ready r) e tt
      by (Some Out) e =
          let z : flag (is_ready d slots (at_number slots n)) ≡ 0 = ap (λ o. flag (is_ready d slots o)) e in
          absurd (omega arith)
      by (Some (Waiting a)) e = listed n (Waiting a) e tt
      by (Some (Over i)) e =
          let z : flag (is_ready d slots (at_number slots n)) ≡ 0 = ap (λ o. flag (is_ready d slots o)) e in
          absurd (omega arith)
      by (Some Gone) e =
          let z : flag (is_ready d slots (at_number slots n)) ≡ 0 = ap (λ o. flag (is_ready d slots o)) e in
          absurd (omega arith)

  waits_listed : (slots : Slots) → AreListed slots → (m n : ℕ) → 0 < flag (waits_for d slots m (at_number slots n))
      → n < many
  waits_listed slots listed m n some = by (at_number slots n) refl
    where
      by : (o : Option (Status R A E)) → at_number slots n ≡ o → n < many
      by None e =
          let z : flag (waits_for d slots m (at_number slots n)) ≡ 0 = ap (λ o. flag (waits_for d slots m o)) e in
          absurd (omega arith)
      by (Some (Ready r)) e =
          let z : flag (waits_for d slots m (at_number slots n)) ≡ 0 = ap (λ o. flag (waits_for d slots m o)) e in
          absurd (omega arith)
      by (Some Out) e =
          let z : flag (waits_for d slots m (at_number slots n)) ≡ 0 = ap (λ o. flag (waits_for d slots m o)) e in
          absurd (omega arith)
      by (Some (Waiting a)) e = listed n (Waiting a) e tt
      by (Some (Over i)) e =
          let z : flag (waits_for d slots m (at_number slots n)) ≡ 0 = ap (λ o. flag (waits_for d slots m o)) e in
          absurd (omega arith)
      by (Some Gone) e =
          let z : flag (waits_for d slots m (at_number slots n)) ≡ 0 = ap (λ o. flag (waits_for d slots m o)) e in
          absurd (omega arith)

  pub ready_within : (slots : Slots) (q : RunQueue) → AreListed slots → QueuedTo d many slots q
      → IsWithin q.ready (length q.links.items)
  ready_within slots q listed h = list_within q.links.items q.ready h.ready (length q.links.items) h.lists.ready_is
      (λ n some.
      let b = h.ready_are n in let l = h.links in let r = ready_listed slots listed n (omega arith) in omega arith)

  pub waits_within : (slots : Slots) (q : RunQueue) (m : ℕ) → AreListed slots → QueuedTo d many slots q
      → IsWithin (chain_at q.waiters.items m) (length q.links.items)
  waits_within slots q m listed h =
      list_within q.links.items (chain_at q.waiters.items m) (h.waits m) (length q.links.items) (h.lists.waits_are m)
      (λ n some.
      let b = h.waits_are m n in let l = h.links in let r = waits_listed slots listed m n (omega arith) in omega arith)

  pub below_within : (slots : Slots) (q : RunQueue) (n : ℕ) → QueuedTo d many slots q → n < many
      → (n < length q.links.items) × (n < length q.waiters.items)
  below_within slots q n h e = let l = h.links in let m = h.reach in (omega arith, omega arith)

  -- how many have not ended
  unfinished_most : (slots : Slots) → unfinished slots ≤ length slots
  unfinished_most [] = omega arith
  unfinished_most (Ready r ∷ slots) = let u = unfinished_most slots in omega arith
  unfinished_most (Out ∷ slots) = let u = unfinished_most slots in omega arith
  unfinished_most (Waiting a ∷ slots) = let u = unfinished_most slots in omega arith
  unfinished_most (Over e ∷ slots) = let u = unfinished_most slots in omega arith
  unfinished_most (Gone ∷ slots) = let u = unfinished_most slots in omega arith

  pub queue_few : (slots : Slots) (q : RunQueue) → QueuedTo d many slots q → q.unfinished ≤ length slots
  queue_few slots q h = let u = unfinished_most slots in let c = h.count in omega arith

  pub queue_some : (slots : Slots) (q : RunQueue) (n : ℕ) → QueuedTo d many slots q → at_number slots n ≡ Some Out
      → 0 < q.unfinished
  queue_some slots q n h e = let c = h.count in let t = total_put is_open slots n Out Gone e in omega arith

  all_unfinished : (slots : Slots) → unfinished slots ≡ 0 → all_over slots ≡ true
  all_unfinished [] z = refl
  all_unfinished (Ready r ∷ slots) z = absurd (omega arith)
  all_unfinished (Out ∷ slots) z = absurd (omega arith)
  all_unfinished (Waiting a ∷ slots) z = absurd (omega arith)
  all_unfinished (Over e ∷ slots) z = all_unfinished slots (omega (arith, z))
  all_unfinished (Gone ∷ slots) z = all_unfinished slots (omega (arith, z))

  some_unfinished : (slots : Slots) → unfinished slots ≢ 0 → all_over slots ≡ false
  some_unfinished [] n = absurd (n refl)
  some_unfinished (Ready r ∷ slots) n = refl
  some_unfinished (Out ∷ slots) n = refl
  some_unfinished (Waiting a ∷ slots) n = refl
  some_unfinished (Over e ∷ slots) n = some_unfinished slots (λ z. n (omega (arith, z)))
  some_unfinished (Gone ∷ slots) n = some_unfinished slots (λ z. n (omega (arith, z)))

  pub queue_over : (slots : Slots) (q : RunQueue) → QueuedTo d many slots q → q.unfinished ≡ 0 → all_over slots ≡ true
  queue_over slots q h z = all_unfinished slots (sym h.count ∙ z)

  pub queue_open : (slots : Slots) (q : RunQueue) → QueuedTo d many slots q → q.unfinished ≢ 0 → all_over slots ≡ false
  queue_open slots q h n = some_unfinished slots (λ z. n (h.count ∙ z))

  -- another status of the revision n
  module _ (slots : Slots) (n : ℕ) (x s : Status R A E) (q q' : RunQueue) (ready' : List ℕ) (waits' : ℕ → List ℕ) where
    placed : QueuedTo d many slots q → at_number slots n ≡ Some x → HasLists q' ready' waits'
        → times n ready' ≡ flag (is_ready d (put_number slots n s) (Some s))
        → ((j : ℕ) → j ≢ n → times j ready' ≡ flag (is_ready d (put_number slots n s) (at_number slots j)))
        → ((m : ℕ) → times n (waits' m) ≡ flag (waits_for d (put_number slots n s) m (Some s)))
        → ((m j : ℕ) → j ≢ n → times j (waits' m) ≡ flag (waits_for d (put_number slots n s) m (at_number slots j)))
        → IsAsLong q q' → q'.unfinished + is_open x ≡ q.unfinished + is_open s
        → QueuedTo d many (put_number slots n s) q'
    placed h e listed here others here_waits others_waits long counted = record {
      ready = ready';
      waits = waits';
      lists = listed;
      ready_are = λ j. dite (ℕ_discrete j n)
          (λ is. ap (λ i. times i ready') is
          ∙ (here
          ∙ sym (ap (λ i. flag (is_ready d (put_number slots n s) (at_number (put_number slots n s) i))) is
          ∙ ap (λ o. flag (is_ready d (put_number slots n s) o)) (put_here slots n x s e))))
          (λ apart.
          others j apart ∙ ap (λ o. flag (is_ready d (put_number slots n s) o)) (sym (put_other slots n j s apart)));
      waits_are = λ m j. dite (ℕ_discrete j n)
          (λ is. ap (λ i. times i (waits' m)) is
          ∙ (here_waits m
          ∙ sym (ap (λ i. flag (waits_for d (put_number slots n s) m (at_number (put_number slots n s) i))) is
          ∙ ap (λ o. flag (waits_for d (put_number slots n s) m o)) (put_here slots n x s e))))
          (λ apart.
          others_waits m j apart
          ∙ ap (λ o. flag (waits_for d (put_number slots n s) m o)) (sym (put_other slots n j s apart)));
      links = long.0 ∙ h.links;
      reach = let a = h.reach in let b = long.1 in omega arith;
      count = let a = h.count in let b = total_put is_open slots n x s e in omega arith;
    }

    -- where that changes nothing of what has ended, nor of other numbers in the lists
    turned : (h : QueuedTo d many slots q) → at_number slots n ≡ Some x → ended_here (Some s) ≡ ended_here (Some x)
        → HasLists q' ready' waits'
        → times n ready' ≡ flag (is_ready d (put_number slots n s) (Some s))
        → ((j : ℕ) → j ≢ n → times j ready' ≡ times j h.ready)
        → ((m : ℕ) → times n (waits' m) ≡ flag (waits_for d (put_number slots n s) m (Some s)))
        → ((m j : ℕ) → j ≢ n → times j (waits' m) ≡ times j (h.waits m))
        → IsAsLong q q' → q'.unfinished + is_open x ≡ q.unfinished + is_open s
        → QueuedTo d many (put_number slots n s) q'
    turned h e same lists here others here_waits others_waits = placed h e lists here
        (λ j apart.
        others j apart
        ∙ (h.ready_are j
        ∙ ap flag (sym (ready_same slots (put_number slots n s) (ends_put slots n x s e same) (at_number slots j)))))
        here_waits
        (λ m j apart.
        others_waits m j apart
        ∙ (h.waits_are m j
        ∙ ap flag
        (sym (waits_same slots (put_number slots n s) m (ends_put slots n x s e same m) (at_number slots j)))))

  -- what is ready has not ended
  ready_open : (slots : Slots) (x : Status R A E) → is_ready d slots (Some x) ≡ true
      → (false ≡ ended_here (Some x)) × (is_open x ≡ 1)
  ready_open slots (Ready r) e = (refl, refl)
  ready_open slots Out e = (refl, refl)
  ready_open slots (Waiting a) e = (refl, refl)
  ready_open slots (Over i) e = absurd cc
  ready_open slots Gone e = absurd cc

  -- the first that is ready is taken
  pub queue_ready : (slots : Slots) (q q' : RunQueue) (n : ℕ) → QueuedTo d many slots q → Takes q q' (Some n)
      → is_ready d slots (at_number slots n) ≡ true
  queue_ready slots q q' n h takes =
      let t = takes h.ready h.waits h.lists (is_once slots q h) in
      let a = ap (times n) t.1 in let o = is_at_same n in let b = h.ready_are n in
      flag_true (is_ready d slots (at_number slots n)) (omega arith)

  queue_taken : (slots : Slots) (q q' : RunQueue) (n : ℕ) (x : Status R A E) → QueuedTo d many slots q
      → Takes q q' (Some n)
      → (q'.unfinished ≡ q.unfinished) × IsAsLong q q' → at_number slots n ≡ Some x
      → QueuedTo d many (put_number slots n Out) q'
  queue_taken slots q q' n x h takes same e =
      let once = is_once slots q h in
      let t = takes h.ready h.waits h.lists once in
      let split : (j : ℕ) → times j h.ready ≡ is_at j n + times j t.0 = λ j. ap (times j) t.1 in
      let f = ready_open slots x (ap (is_ready d slots) (sym e) ∙ queue_ready slots q q' n h takes) in
      turned slots n x Out q q' t.0 h.waits h e f.0 t.2
      (let a = split n in
      let o = is_at_same n in
      let b = h.ready_are n in
      let c = flag_most (is_ready d slots (at_number slots n)) in
      omega arith)
      (λ j apart. let a = split j in let o = is_at_other j n (λ i. apart (sym i)) in omega arith)
      (λ m. let a = split n in let o = is_at_same n in let b = once.in_ready m n in omega arith)
      (λ m j apart. refl)
      same.1
      (let a = same.0 in let b = f.1 in omega arith)

  pub queue_take : {slots : Slots} {q q' q'' : RunQueue} (n : ℕ) {x : Status R A E} → QueuedTo d many slots q
      → Takes q q' (Some n) → (q'.unfinished ≡ q.unfinished) × IsAsLong q q' → at_number slots n ≡ Some x → q'' ≡ q'
      → QueuedTo d many (put_number slots n Out) q''
  queue_take {slots} {q} {q'} n {x} h takes same e is =
      subst (QueuedTo d many (put_number slots n Out)) (sym is) (queue_taken slots q q' n x h takes same e)

  -- a joiner waits
  pub queue_delay : {slots : Slots} {q q' : RunQueue} (n : ℕ) (a : A) → QueuedTo d many slots q
      → at_number slots n ≡ Some Out
      → ended_here (at_number slots (d.on a)) ≡ false → DelaysOne q q' n (d.on a)
      → QueuedTo d many (put_number slots n (Waiting a)) q'
  queue_delay {slots} {q} {q'} n a h e not_ended delays =
      let ends = ends_put slots n Out (Waiting a) e refl (d.on a) ∙ not_ended in
      let nowhere = is_nowhere slots q h n (Some Out) e out_idle in
      turned slots n Out (Waiting a) q q' h.ready (with_waiter h.waits (d.on a) n) h e refl
      (delays.0 h.ready h.waits h.lists nowhere)
      (nowhere.in_ready ∙ ap flag (sym ends))
      (λ j apart. refl)
      (λ m. dite (ℕ_discrete m (d.on a))
      (λ is.
      let w : times n (with_waiter h.waits (d.on a) n m) ≡ is_at n n + times n (h.waits m) =
      ap (λ b. times n (cond b (n ∷ h.waits m) (h.waits m))) (eq-eqb m (d.on a) is) in
      let o = is_at_same n in let z = nowhere.in_waits m in
      let f : flag (cond (ended_here (at_number (put_number slots n (Waiting a)) m)) false (d.on a == m)) ≡ 1 =
      ap (λ (z : Bool × Bool). flag (cond z.0 false z.1)) (λ i. (
        (ap (λ j. ended_here (at_number (put_number slots n (Waiting a)) j)) is ∙ ends) i,
        eq-eqb (d.on a) m (sym is) i,
      )) in
      omega arith)
      (λ apart.
      let w : times n (with_waiter h.waits (d.on a) n m) ≡ times n (h.waits m) =
      ap (λ b. times n (cond b (n ∷ h.waits m) (h.waits m))) (ne_eqb m (d.on a) apart) in
      let f : flag (cond (ended_here (at_number (put_number slots n (Waiting a)) m)) false (d.on a == m)) ≡ 0 =
      ap (λ b. flag (cond (ended_here (at_number (put_number slots n (Waiting a)) m)) false b))
      (ne_eqb (d.on a) m (λ i. apart (sym i)))
      ∙ ap flag (cond_false (ended_here (at_number (put_number slots n (Waiting a)) m))) in
      w ∙ (nowhere.in_waits m ∙ sym f)))
      (λ m j apart. dite (ℕ_discrete m (d.on a))
      (λ is.
      let w : times j (with_waiter h.waits (d.on a) n m) ≡ is_at j n + times j (h.waits m) =
      ap (λ b. times j (cond b (n ∷ h.waits m) (h.waits m))) (eq-eqb m (d.on a) is) in
      let o = is_at_other j n (λ i. apart (sym i)) in omega arith)
      (λ ne. ap (λ b. times j (cond b (n ∷ h.waits m) (h.waits m))) (ne_eqb m (d.on a) ne)))
      delays.2
      (let b = delays.1 in omega arith)

  -- a revision before its leg is ready again
  pub queue_back : {slots : Slots} {q q' : RunQueue} (n : ℕ) (r : R) → QueuedTo d many slots q
      → at_number slots n ≡ Some Out
      → ReadiesOne q q' n → QueuedTo d many (put_number slots n (Ready r)) q'
  queue_back {slots} {q} {q'} n r h e back =
      let nowhere = is_nowhere slots q h n (Some Out) e out_idle in
      turned slots n Out (Ready r) q q' (n ∷ h.ready) h.waits h e refl
      (back.0 h.ready h.waits h.lists nowhere)
      (let o = is_at_same n in let z = nowhere.in_ready in omega arith)
      (λ j apart. let o = is_at_other j n (λ i. apart (sym i)) in omega arith)
      (λ m. nowhere.in_waits m)
      (λ m j apart. refl)
      back.2
      (let b = back.1 in omega arith)

  -- what waits for a revision that has ended is ready
  abbrev Woken : Slots → Slots → ℕ → Type 0
  Woken slots slots' k =
      (ended_here (at_number slots k) ≡ false) × (ended_here (at_number slots' k) ≡ true)
      × ((m : ℕ) → m ≢ k → ended_here (at_number slots' m) ≡ ended_here (at_number slots m))

  ready_woken : (slots slots' : Slots) (k : ℕ) → Woken slots slots' k → (o : Option (Status R A E))
      → flag (waits_for d slots k o) + flag (is_ready d slots o) ≡ flag (is_ready d slots' o)
  ready_woken slots slots' k w None = refl
  ready_woken slots slots' k w (Some (Ready r)) = refl
  ready_woken slots slots' k w (Some Out) = refl
  ready_woken slots slots' k w (Some (Waiting a)) = dite (ℕ_discrete (d.on a) k)
      (λ is.
      let f : flag (cond (ended_here (at_number slots k)) false (d.on a == k)) ≡ 1 =
      ap (λ (z : Bool × Bool). flag (cond z.0 false z.1)) (λ i. (w.0 i, eq-eqb (d.on a) k is i)) in
      let g : flag (ended_here (at_number slots (d.on a))) ≡ 0 =
      ap (λ j. flag (ended_here (at_number slots j))) is ∙ ap flag w.0 in
      let g' : flag (ended_here (at_number slots' (d.on a))) ≡ 1 =
      ap (λ j. flag (ended_here (at_number slots' j))) is ∙ ap flag w.1 in
      omega arith)
      (λ ne.
      let f : flag (cond (ended_here (at_number slots k)) false (d.on a == k)) ≡ 0 =
      ap (λ (z : Bool × Bool). flag (cond z.0 false z.1)) (λ i. (w.0 i, ne_eqb (d.on a) k ne i)) in
      let g : flag (ended_here (at_number slots' (d.on a))) ≡ flag (ended_here (at_number slots (d.on a))) =
      ap flag (w.2 (d.on a) ne) in
      omega arith)
  ready_woken slots slots' k w (Some (Over e)) = refl
  ready_woken slots slots' k w (Some Gone) = refl

  waits_woken : (slots' : Slots) (k : ℕ) → ended_here (at_number slots' k) ≡ true → (o : Option (Status R A E))
      → waits_for d slots' k o ≡ false
  waits_woken slots' k w None = refl
  waits_woken slots' k w (Some (Ready r)) = refl
  waits_woken slots' k w (Some Out) = refl
  waits_woken slots' k w (Some (Waiting a)) = ap (λ b. cond b false (d.on a == k)) w
  waits_woken slots' k w (Some (Over e)) = refl
  waits_woken slots' k w (Some Gone) = refl

  pub queue_end : {slots : Slots} {q q' : RunQueue} (n : ℕ) (i : E) → QueuedTo d many slots q
      → at_number slots n ≡ Some Out
      → EndsOne q q' n → QueuedTo d many (put_number slots n (Over i)) q'
  queue_end {slots} {q} {q'} n i h e ends =
      let nowhere = is_nowhere slots q h n (Some Out) e out_idle in
      let woken : Woken slots (put_number slots n (Over i)) n = (
        ap ended_here e,
        ap ended_here (put_here slots n Out (Over i) e),
        λ m ne. ap ended_here (put_other slots n m (Over i) ne),
      ) in
      let both : (j : ℕ) → times j (h.waits n ++ h.ready) ≡ times j (h.waits n) + times j h.ready =
      λ j. total_append (is_at j) (h.waits n) h.ready in
      placed slots n Out (Over i) q q' (h.waits n ++ h.ready) (without_waiters h.waits n) h e
      (ends.0 h.ready h.waits h.lists (is_once slots q h))
      (let a = both n in let b = nowhere.in_ready in let c = nowhere.in_waits n in omega arith)
      (λ j apart.
      let a = both j in
      let b = h.waits_are n j in
      let c = h.ready_are j in
      let f = ready_woken slots (put_number slots n (Over i)) n woken (at_number slots j) in
      omega arith)
      (λ m. dite (ℕ_discrete m n)
      (λ is. ap (λ b. times n (cond b [] (h.waits m))) (eq-eqb m n is))
      (λ ne. ap (λ b. times n (cond b [] (h.waits m))) (ne_eqb m n ne) ∙ nowhere.in_waits m))
      (λ m j apart. dite (ℕ_discrete m n)
      (λ is. ap (λ b. times j (cond b [] (h.waits m))) (eq-eqb m n is)
      ∙ sym (ap (λ z. flag (waits_for d (put_number slots n (Over i)) z (at_number slots j))) is
      ∙ ap flag (waits_woken (put_number slots n (Over i)) n woken.1 (at_number slots j))))
      (λ ne. ap (λ b. times j (cond b [] (h.waits m))) (ne_eqb m n ne)
      ∙ (h.waits_are m j
      ∙ ap flag (sym (waits_same slots (put_number slots n (Over i)) m (woken.2 m ne) (at_number slots j))))))
      ends.2
      (let b = ends.1 in omega arith)

  -- an end is joined
  pub queue_same : (slots : Slots) (q q' : RunQueue) → QueuedTo d many slots q → q' ≡ q → QueuedTo d many slots q'
  queue_same slots q q' h is = subst (QueuedTo d many slots) (sym is) h

  pub queue_join : {slots : Slots} {q q' : RunQueue} (n : ℕ) {i : E} → QueuedTo d many slots q
      → at_number slots n ≡ Some (Over i) → q' ≡ q → QueuedTo d many (put_number slots n Gone) q'
  queue_join {slots} {q} {q'} n {i} h e is =
      queue_same (put_number slots n Gone) q q' (turned slots n (Over i) Gone q q h.ready h.waits h e refl h.lists
      (h.ready_are n ∙ ap (λ o. flag (is_ready d slots o)) e) (λ j apart. refl)
      (λ m. h.waits_are m n ∙ ap (λ o. flag (waits_for d slots m o)) e) (λ m j apart. refl)
      (refl, omega arith) refl) is

  -- the end of a revision is joined at once
  pub queue_gone : {slots : Slots} {q q' : RunQueue} (n : ℕ) (i : E) → QueuedTo d many slots q
      → at_number slots n ≡ Some Out → EndsOne q q' n → QueuedTo d many (put_number slots n Gone) q'
  queue_gone {slots} {q} {q'} n i h e ends =
      subst (λ l. QueuedTo d many l q') (put_twice slots n (Over i) Gone)
      (queue_join n (queue_end n i h e ends) (put_here slots n Out (Over i) e) refl)

  -- one revision more, of which there is a record
  pub queue_add : {slots : Slots} {q q' : RunQueue} {n : ℕ} (c : R) → QueuedTo d many slots q → n ≡ length slots
      → Adds q q' n → q'.unfinished ≡ q.unfinished + 1 → IsAsLong q q' → QueuedTo d many (slots ++ Ready c ∷ []) q'
  queue_add {slots} {q} {q'} {n} c h is adds more long =
      let none : at_number slots n ≡ None = slice_get_past slots n (omega arith) in
      let here : at_number (slots ++ Ready c ∷ []) n ≡ Some (Ready c) =
      ap (at_number (slots ++ Ready c ∷ [])) is ∙ at_length slots (Ready c) [] in
      let nowhere = is_nowhere slots q h n None none none_idle in
      record {
        ready = n ∷ h.ready;
        waits = h.waits;
        lists = adds h.ready h.waits h.lists nowhere;
        ready_are = λ j. dite (ℕ_discrete j n)
            (λ e.
            let o : is_at j n ≡ 1 = ap (λ k. is_at k n) e ∙ is_at_same n in
            let a : times j h.ready ≡ 0 = ap (λ k. times k h.ready) e ∙ nowhere.in_ready in
            let f : flag (is_ready d (slots ++ Ready c ∷ []) (at_number (slots ++ Ready c ∷ []) j)) ≡ 1 =
            ap (λ k. flag (is_ready d (slots ++ Ready c ∷ []) (at_number (slots ++ Ready c ∷ []) k))) e
            ∙ ap (λ o. flag (is_ready d (slots ++ Ready c ∷ []) o)) here in
            omega arith)
            (λ ne. let o = is_at_other j n (λ k. ne (sym k)) in let a = h.ready_are j in
            let f : flag (is_ready d (slots ++ Ready c ∷ []) (at_number (slots ++ Ready c ∷ []) j))
            ≡ flag (is_ready d slots (at_number slots j)) =
            ap (λ o. flag (is_ready d (slots ++ Ready c ∷ []) o)) (at_other slots (Ready c) j (λ k. ne (k ∙ sym is)))
            ∙ ap flag (ready_same slots (slots ++ Ready c ∷ []) (ends_more slots c) (at_number slots j)) in
            omega arith);
        waits_are = λ m j. dite (ℕ_discrete j n)
            (λ e. ap (λ k. times k (h.waits m)) e
            ∙ (nowhere.in_waits m
            ∙ sym (ap (λ k. flag (waits_for d (slots ++ Ready c ∷ []) m (at_number (slots ++ Ready c ∷ []) k))) e
            ∙ ap (λ o. flag (waits_for d (slots ++ Ready c ∷ []) m o)) here)))
            (λ ne. h.waits_are m j
            ∙ sym (ap (λ o. flag (waits_for d (slots ++ Ready c ∷ []) m o))
            (at_other slots (Ready c) j (λ k. ne (k ∙ sym is)))
            ∙ ap flag (waits_same slots (slots ++ Ready c ∷ []) m (ends_more slots c m) (at_number slots j))));
        links = long.0 ∙ h.links;
        reach = let a = h.reach in let b = long.1 in omega arith;
        count = let a = more in let b = h.count in let e = total_snoc is_open slots (Ready c) in omega arith;
      }

  -- one more that a seat keeps, of which there is none
  pub queue_keep : (slots : Slots) (q q' : RunQueue) → QueuedTo d many slots q
      → ((ready : List ℕ) (waits : ℕ → List ℕ) → HasLists q ready waits → HasLists q' ready waits)
      → q'.unfinished ≡ q.unfinished + 1 → IsAsLong q q' → QueuedTo d many (slots ++ Out ∷ []) q'
  queue_keep slots q q' h lists more long = record {
    ready = h.ready;
    waits = h.waits;
    lists = lists h.ready h.waits h.lists;
    ready_are = λ j. h.ready_are j ∙ ready_on j;
    waits_are = λ m j. h.waits_are m j ∙ waits_on m j;
    links = long.0 ∙ h.links;
    reach = let a = h.reach in let b = long.1 in omega arith;
    count = let a = more in let b = h.count in let e = total_snoc is_open slots Out in omega arith;
  }
    where
      ends : SameEnds slots (slots ++ Out ∷ [])
      ends m = out_more slots m

      last : (j : ℕ) → j ≡ length slots → (at_number slots j ≡ None) × (at_number (slots ++ Out ∷ []) j ≡ Some Out)
      last j e =
          (slice_get_past slots j (omega arith), ap (at_number (slots ++ Out ∷ [])) e ∙ at_length slots Out [])

      ready_on : (j : ℕ)
          → flag (is_ready d slots (at_number slots j))
          ≡ flag (is_ready d (slots ++ Out ∷ []) (at_number (slots ++ Out ∷ []) j))
      ready_on j = dite (ℕ_discrete j (length slots))
          (λ e. ap (λ o. flag (is_ready d slots o)) (last j e).0
          ∙ sym (ap (λ o. flag (is_ready d (slots ++ Out ∷ []) o)) (last j e).1))
          (λ ne. ap flag (sym (ready_same slots (slots ++ Out ∷ []) ends (at_number slots j)))
          ∙ ap (λ o. flag (is_ready d (slots ++ Out ∷ []) o)) (sym (at_other slots Out j ne)))

      waits_on : (m j : ℕ)
          → flag (waits_for d slots m (at_number slots j))
          ≡ flag (waits_for d (slots ++ Out ∷ []) m (at_number (slots ++ Out ∷ []) j))
      waits_on m j = dite (ℕ_discrete j (length slots))
          (λ e. ap (λ o. flag (waits_for d slots m o)) (last j e).0
          ∙ sym (ap (λ o. flag (waits_for d (slots ++ Out ∷ []) m o)) (last j e).1))
          (λ ne. ap flag (sym (waits_same slots (slots ++ Out ∷ []) m (ends m) (at_number slots j)))
          ∙ ap (λ o. flag (waits_for d (slots ++ Out ∷ []) m o)) (sym (at_other slots Out j ne)))

  -- one that a seat kept was joined, and none waits for it
  pub queue_lone : (slots : Slots) (q q' : RunQueue) (n : ℕ) → QueuedTo d many slots q → at_number slots n ≡ Some Out
      → ((j : ℕ) (a : A) → at_number slots j ≡ Some (Waiting a) → d.on a ≢ n)
      → ((ready : List ℕ) (waits : ℕ → List ℕ) → HasLists q ready waits → HasLists q' ready waits)
      → q'.unfinished + 1 ≡ q.unfinished → IsAsLong q q' → QueuedTo d many (put_number slots n Gone) q'
  queue_lone slots q q' n h e free lists less long =
      let nowhere = is_nowhere slots q h n (Some Out) e out_idle in
      placed slots n Out Gone q q' h.ready h.waits h e (lists h.ready h.waits h.lists)
      nowhere.in_ready
      (λ j apart. h.ready_are j ∙ ap flag (ready_on j (at_number slots j) refl))
      nowhere.in_waits
      (λ m j apart. h.waits_are m j ∙ ap flag (waits_on m j (at_number slots j) refl))
      long (let b = less in omega arith)
    where
      ready_on : (j : ℕ) (o : Option (Status R A E)) → at_number slots j ≡ o
          → is_ready d slots o ≡ is_ready d (put_number slots n Gone) o
      ready_on j None i = refl
      ready_on j (Some (Ready r)) i = refl
      ready_on j (Some Out) i = refl
      ready_on j (Some (Waiting a)) i = ap ended_here (sym (put_other slots n (d.on a) Gone (free j a i)))
      ready_on j (Some (Over x)) i = refl
      ready_on j (Some Gone) i = refl

      waits_on : (m j : ℕ) (o : Option (Status R A E)) → at_number slots j ≡ o
          → waits_for d slots m o ≡ waits_for d (put_number slots n Gone) m o
      waits_on m j None i = refl
      waits_on m j (Some (Ready r)) i = refl
      waits_on m j (Some Out) i = refl
      waits_on m j (Some (Waiting a)) i = dite (ℕ_discrete m n)
          (λ is.
          let ne : (d.on a == m) ≡ false = ne_eqb (d.on a) m (λ c. free j a i (c ∙ is)) in
          never (ended_here (at_number slots m)) (d.on a == m) ne
          ∙ sym (never (ended_here (at_number (put_number slots n Gone) m)) (d.on a == m) ne))
          (λ ne. ap (λ o. cond (ended_here o) false (d.on a == m)) (sym (put_other slots n m Gone ne)))
        where
          never : (b c : Bool) → c ≡ false → cond b false c ≡ false
          never true c z = refl
          never false c z = z
      waits_on m j (Some (Over x)) i = refl
      waits_on m j (Some Gone) i = refl
