-- What a driver knows of the events of legs and of joins.
use Rattle.std.proofs.Common.{◌≡◌, ℕ, Bool, List, Option, sym, subst}
use Rattle.rev_num.specs.declared.outcome.Cause.{Cause}
use Rattle.rev_code.specs.State.{State}
use Rattle.rev_code.specs.Step.{ends, forks, joins, traps}
use Rattle.rev_code.specs.Words.{Word}
use Rattle.version_map.specs.declared.end.EndValue.{EndValue}
use Rattle.version_map.specs.declared.end.Finish.TheVariants as finish
use Rattle.version_map.specs.declared.snapshot.Snapshot.{Ghosts}
use Rattle.code_machine.specs.Joining.{join_in}
use Rattle.code_machine.specs.Leg.{leg}
use Rattle.code_machine.specs.Local.{CodeRun, End, at_work, done, end_of, has_ended}
use Rattle.rev_vm.specs.Stopping.{StoppedValue}
use Rattle.rev_vm.specs.declared.fork.AtFork.{AtFork}
use Rattle.rev_vm.specs.declared.join.AtJoin.{AtJoin}
use Rattle.rev_vm.specs.declared.join.Claimed.{Claimed}
use Rattle.rev_vm.specs.declared.leg.Event.{Event}
use Rattle.rev_vm.specs.declared.leg.Event.TheVariants as event
use Rattle.rev_vm.specs.declared.settling.Settled.{Settled}
use Rattle.rev_vm.specs.declared.settling.Settled.TheVariants as settled
use Rattle.rev_vm.specs.Legs.{trap_of}
use Rattle.rev_vm.specs.Meaning.{IsAtFork, IsAtJoin, IsEnd}
use Rattle.rev_vm.specs.Values.{HasClaimed, StandsAtFork, StandsAtJoin, StandsFor}
use Rattle.machine_cases.specs.Driving.{IsSettled}

module _ {P S : Type 0} {m : Ghosts P S} (g : CodeRun) where
  module _ (c : State ℕ) where
    abbrev Comes : Event P S m → Type 0
    Comes e = elim e [
      | event.Fork a ↦ (d : State ℕ) × (args : List (Word ℕ)) × (leg g c ≡ forks d a.block args)
          × IsAtFork g a.revision.value.run a.revision.value.memory.delta (m.base a.revision.value.memory.snapshot)
          a.revision.value.memory.first.roots a.block d args
      | event.Join a ↦ (d : State ℕ) × (leg g c ≡ joins d a.is_try a.on)
          × IsAtJoin g a.revision.value.run a.revision.value.memory.delta (m.base a.revision.value.memory.snapshot)
          a.revision.value.memory.first.roots a.is_try a.on d
      | event.End s ↦
          (d : State ℕ) × (w : Option (Word ℕ)) × (leg g c ≡ ends d w) × IsEnd g (end_of (has_ended d done)) s.end
      | event.Trap s ↦
          (d : State ℕ) × (e : Cause) × (leg g c ≡ traps d e) × IsEnd g (end_of (has_ended d (trap_of d e))) s.end
    ]

    pub at_fork : (e : Event P S m) (a : AtFork P S m) → e ≡ event.Fork a → Comes e
        → (d : State ℕ) × (args : List (Word ℕ)) × StandsAtFork g a d args
    at_fork e a is h = let q : Comes (event.Fork a) = subst Comes is h in (q.0, q.1, q.3)

    pub at_join : (e : Event P S m) (a : AtJoin P S m) → e ≡ event.Join a → Comes e → (d : State ℕ) × StandsAtJoin g a d
    at_join e a is h = let q : Comes (event.Join a) = subst Comes is h in (q.0, q.2)

    pub at_end : (e : Event P S m) (s : StoppedValue P) → e ≡ event.End s → Comes e → (v : EndValue) → v ≡ s.end
        → (j : End ℕ) × IsEnd g j v
    at_end e s is h v same =
        let q : Comes (event.End s) = subst Comes is h in
        (end_of (has_ended q.0 done), subst (IsEnd g (end_of (has_ended q.0 done))) (sym same) q.3)

    pub at_trap : (e : Event P S m) (s : StoppedValue P) → e ≡ event.Trap s → Comes e → (v : EndValue) → v ≡ s.end
        → (j : End ℕ) × IsEnd g j v
    at_trap e s is h v same =
        let q : Comes (event.Trap s) = subst Comes is h in (
          end_of (has_ended q.0 (trap_of q.0 q.1)),
          subst (IsEnd g (end_of (has_ended q.0 (trap_of q.0 q.1)))) (sym same) q.3,
        )

  pub claimed : (a : AtJoin P S m) (v : EndValue) (k : Claimed P S m) (c : State ℕ) (j : End ℕ) → StandsAtJoin g a c
      → IsEnd g j v → v.finish ≡ finish.Done → k.at ≡ a → k.end ≡ v
      → HasClaimed g k c j
  claimed a v k c j h e d at end = record {
    joiner = subst (λ (b : AtJoin P S m). StandsAtJoin g b c) (sym at) h;
    joinee = subst (IsEnd g j) (sym end) e;
    done = subst (λ (w : EndValue). w.finish ≡ finish.Done) (sym end) d;
  }

  module _ (c : State ℕ) (try : Bool) (on : ℕ) (j : End ℕ) where
    abbrev Settles : Settled P S m → Type 0
    Settles s = elim s [
      | settled.Run r ↦ (c' : State ℕ) × (join_in g c try on j j.phase ≡ at_work c')
          × StandsFor g r c'
      | settled.Trap t ↦ IsEnd g (end_of (join_in g c try on j j.phase)) t.end
    ]

    pub settles : (s : Settled P S m) → Settles s → IsSettled g s
    settles (settled.Run r) h = (h.0, h.2)
    settles (settled.Trap t) h = tt
