-- What is known after a leg that came out so.
use Rattle.std.proofs.Common.{◌≡◌, ◌∙◌, inl, inr, ℕ, ◌+◌, ◌<◌, length, Some, refl, sym, ap, subst, arith}
use Rattle.revision_machine.specs.Numbered as numbers
use Rattle.revision_machine.specs.Numbered.{Entries, World, Both, Listing}
use Rattle.code_machine.specs.Local.{CodeRun, done, trapped, Local}
use Rattle.code_machine.specs.Machines.{numbered}
use Rattle.code_machine.specs.Worlds.{WaitsOn}
use Rattle.code_world.specs.declared.answer.LegAnswer.TheVariants as answer
use Rattle.code_world.specs.declared.world.World as rust
use Rattle.code_world.proofs.Rows.{some_same}
use Rattle.revision_machine.proofs.Lists.{at_below}
use Rattle.code_machine_laws.proofs.Reaching.{legs_reached}
use Rattle.world_runs.specs.declared.queue.ReadyQueue.{ReadyQueue}
use Rattle.world_runs.specs.Queue.{HasReady, HasWaiter, KeepsAll}
use Rattle.world_runs.specs.Covers.{CoversWorld, IsKnown, CoversAfter}
use Rattle.world_runs.proofs.Covering.{waits_now, over_now, none_such, phase_stops, goes_on, has_ended_now, same_numbers, one_more}

module _ (g : CodeRun) (w : Entries (Local ℕ)) (n : ℕ) (v : rust.World) (q q' : ReadyQueue) where
  -- the world after the leg is this one
  the_world : (x : World (Local ℕ)) → numbers.leg (numbered g) (Listing w) n ≡ Some x → CoversWorld g x q'
      → (u : World (Local ℕ)) → numbers.leg (numbered g) (Listing w) n ≡ Some u → CoversWorld g u q'
  the_world x e c u f = subst (λ z. CoversWorld g z q') (some_same (sym e ∙ f)) c

  pub on_below : (on : ℕ) → IsKnown g w n (answer.Waits on) v q → on < length q.waiters.items
  on_below on k =
      let x : WaitsOn g w n on = k.answers.2.0 in
      let a = at_below w on _ x.stands in
      let b = k.but.count in omega (arith, a, b)

  pub noted_waits : (on : ℕ) → IsKnown g w n (answer.Waits on) v q → HasWaiter q' on n → KeepsAll q q'
      → length q'.waiters.items ≡ length q.waiters.items → CoversAfter g w n (answer.Waits on) q'
  noted_waits on k here keeps count = waits_now g k.verified w k.reached q q' n on k.but k.answers.2.0 here keeps count

  pub noted_joined : (on : ℕ) → IsKnown g w n (answer.Joined on) v q → HasReady q' n → KeepsAll q q'
      → q'.waiters ≡ q.waiters → CoversAfter g w n (answer.Joined on) q'
  noted_joined on k here keeps same =
      let x = k.answers.2 in
      the_world (Listing x.0) x.1.leg
      (goes_on g k.verified w x.0 (legs_reached g (Listing w) (Listing x.0) n k.reached x.1.leg) n x.1.leg q q' k.but
      x.3 here keeps
      (ap (λ y. length y.items) same ∙ k.but.count ∙ sym x.4) (same_numbers w x.0 q' x.4))

  pub noted_forked : (child : ℕ) → IsKnown g w n (answer.Forked child) v q → HasReady q' n → HasReady q' child
      → KeepsAll q q' → length q'.waiters.items ≡ length q.waiters.items + 1
      → CoversAfter g w n (answer.Forked child) q'
  noted_forked child k here kid keeps count =
      let x = k.answers.2 in
      let c = k.but.count in
      let s = x.5 in
      the_world (Listing x.0) x.1.leg
      (goes_on g k.verified w x.0 (legs_reached g (Listing w) (Listing x.0) n k.reached x.1.leg) n x.1.leg q q' k.but
      x.4 here keeps
      (omega (arith, count, c, s)) (one_more w x.0 q' x.5 (subst (HasReady q') x.3 kid)))

  module _ (woken : (m : ℕ) → HasWaiter q n m → HasReady q' m) (ready : (m : ℕ) → HasReady q m → HasReady q' m)
      (others : (k m : ℕ) → Rattle.std.proofs.Common.◌≢◌ k n → HasWaiter q k m → HasWaiter q' k m)
      (count : length q'.waiters.items ≡ length q.waiters.items) where
    pub noted_ended : IsKnown g w n answer.Ended v q → CoversAfter g w n answer.Ended q'
    noted_ended k =
        let x = k.answers.2 in
        the_world (Listing x.0) x.1.leg
        (has_ended_now g k.verified w x.0 (legs_reached g (Listing w) (Listing x.0) n k.reached x.1.leg) n x.1.leg q q'
        k.but (phase_stops g x.0 n done (inl refl) x.2) woken ready others count x.3)

    pub noted_trapped : IsKnown g w n answer.Trapped v q → CoversAfter g w n answer.Trapped q'
    noted_trapped k =
        let x = k.answers.2 in
        the_world (Listing x.0) x.1.leg
        (has_ended_now g k.verified w x.0 (legs_reached g (Listing w) (Listing x.0) n k.reached x.1.leg) n x.1.leg q q'
        k.but (phase_stops g x.0 n (trapped x.2) (inr (x.2, refl)) x.3) woken ready others count x.4)

module _ (g : CodeRun) (w : Entries (Local ℕ)) (n : ℕ) (v : rust.World) (q : ReadyQueue) where
  pub noted_twice : IsKnown g w n answer.Twice v q → CoversAfter g w n answer.Twice q
  noted_twice k = the_world g w n v q q Both k.answers.0 tt

  pub noted_over : IsKnown g w n answer.Over v q → CoversAfter g w n answer.Over q
  noted_over k = over_now g k.verified w k.reached q n k.but k.answers.2.0

  pub noted_none : IsKnown g w n answer.NoSuch v q → CoversAfter g w n answer.NoSuch q
  noted_none k = none_such g k.verified w k.reached q n k.but k.answers.2.0

-- the revision is one of the world
pub ended_below : (g : CodeRun) (w : Entries (Local ℕ)) (n : ℕ) (v : rust.World) (q : ReadyQueue)
    → IsKnown g w n answer.Ended v q → n < length q.waiters.items
ended_below g w n v q k =
    let x = k.answers.2 in
    let a = at_below x.0 n _ x.2.2 in
    let b = x.3 in
    let c = k.but.count in omega (arith, a, b, c)

pub trapped_below : (g : CodeRun) (w : Entries (Local ℕ)) (n : ℕ) (v : rust.World) (q : ReadyQueue)
    → IsKnown g w n answer.Trapped v q → n < length q.waiters.items
trapped_below g w n v q k =
    let x = k.answers.2 in
    let a = at_below x.0 n _ x.3.2 in
    let b = x.4 in
    let c = k.but.count in omega (arith, a, b, c)
