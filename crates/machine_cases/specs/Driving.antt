-- Where a driver of revisions is between two legs.
--   Goes        a revision goes on in some state, with what its latest child left, or has ended
--   IsSettled   a joiner goes on in some state, or its join has trapped it
use Rattle.std.specs.Prelude.{ℕ, IfSome}
use Rattle.rev_code.specs.State.{State}
use Rattle.version_map.specs.declared.snapshot.Snapshot.{Ghosts}
use Rattle.code_machine.specs.Local.{CodeRun, End}
use Rattle.rev_vm.specs.declared.settling.Settled.{Settled}
use Rattle.rev_vm.specs.declared.settling.Settled.TheVariants as settled
use Rattle.rev_vm.specs.Meaning.{IsEnd}
use Rattle.rev_vm.specs.Values.{StandsFor}
use Rattle.machine_cases.specs.declared.driver.Turn.{Turn}
use Rattle.machine_cases.specs.declared.driver.Turn.TheVariants as turn

module _ {P S : Type 0} {m : Ghosts P S} where
  abbrev pub Goes : CodeRun → Turn P S m → Type 0
  Goes g (turn.Goes r left) =
      ((c : State ℕ) × StandsFor g r c) × IfSome left (λ v. (j : End ℕ) × IsEnd g j v)
  Goes g (turn.Ends s) = Unit {0}

  abbrev pub IsSettled : CodeRun → Settled P S m → Type 0
  IsSettled g (settled.Run r) = (c : State ℕ) × StandsFor g r c
  IsSettled g (settled.Trap t) = Unit {0}
