-- A hub at its opening: its first revision, which is ready.
use Rattle.std.proofs.Common.{◌≡◌, ℕ, zero, suc, [], ◌∷◌, refl, arith}
use Rattle.revision_machine.specs.Numbered.{at_number}
use Rattle.hub_core.specs.declared.status.Status.TheVariants.{Ready}
use Rattle.hub_core.specs.HubMachine.{HubMachine}
use Rattle.hub_core.specs.declared.run_queue.RunQueue.{RunQueue}
use Rattle.hub_core.specs.Counts.{times, flag}
use Rattle.hub_core.specs.Chains.{HasOne}
use Rattle.hub_core.specs.Found.{is_ready}
use Rattle.hub_core.specs.Queued.{waits_for, Queued}
use Rattle.hub_core.specs.Rule.{OutsAre}
use Rattle.hub_core.proofs.Lists.{is_at_other}

module _ {L R A E : Type 0} (d : HubMachine L R A E) (ends : E → L → Type 0) where
  pub one_ready : (c : R) → OutsAre {R = R} {A = A} {E = E} (Ready c ∷ []) []
  one_ready c zero = refl
  one_ready c (suc n) = refl

module _ {L R A E : Type 0} (d : HubMachine L R A E) where
  pub queue_one : (c : R) (q : RunQueue) → HasOne q → Queued d (Ready c ∷ []) q
  queue_one c q one = record {
    ready = 0 ∷ [];
    waits = λ m. [];
    lists = one.0;
    ready_are = λ n. by_number n;
    waits_are = λ m n. waits_none m n;
    links = let a = one.2 in omega arith;
    reach = let a = one.3 in omega arith;
    count = let a = one.1 in omega arith;
  }
    where
      by_number : (n : ℕ) → times n (0 ∷ []) ≡ flag (is_ready d (Ready c ∷ []) (at_number (Ready c ∷ []) n))
      by_number zero = refl
      by_number (suc n) = let o = is_at_other (suc n) 0 (λ e. absurd (omega arith)) in omega arith

      waits_none : (m n : ℕ) → times n [] ≡ flag (waits_for d (Ready c ∷ []) m (at_number (Ready c ∷ []) n))
      waits_none m zero = refl
      waits_none m (suc n) = refl
