-- What a value stands for is one: the state or the end that is a function of it.
use Rattle.std.specs.Prelude.{◌≡◌, ℕ, Bool}
use Rattle.rev_code.specs.State.{State}
use Rattle.version_map.specs.declared.delta.Delta.{Delta}
use Rattle.version_map.specs.declared.end.EndValue.{EndValue}
use Rattle.code_machine.specs.Local.{CodeRun, End}
use Rattle.code_machine.specs.Joining.{join_in}
use Rattle.leg_run.specs.declared.revision.Run.{Run}
use Rattle.rev_vm.specs.Meaning.{IsAt, IsAtJoin, IsClaimed, IsEnd}
use Rattle.rev_vm.specs.States.{state_at, before_join, end_for, joined_at}

-- a running revision
abbrev pub HasOneState : Type 0
HasOneState =
    (g : CodeRun) (run : Run) (delta : Delta) (base : ℕ → ℕ) (first : Delta) (c : State ℕ)
    → IsAt g run delta base first c → c ≡ state_at g run delta base first

-- a joiner
abbrev pub JoinsInOneState : Type 0
JoinsInOneState =
    (g : CodeRun) (run : Run) (delta : Delta) (base : ℕ → ℕ) (first : Delta)
    (try : Bool) (on : ℕ) (c : State ℕ)
    → IsAtJoin g run delta base first try on c → c ≡ before_join g run delta base first

-- what a revision left; so two ends for which one value stands make the same of each joiner
abbrev pub LeavesOneEnd : Type 0
LeavesOneEnd = (g : CodeRun) (j : End ℕ) (v : EndValue) → IsEnd g j v → j ≡ end_for g v

-- a joiner that was given an end
abbrev pub ClaimsOneState : Type 0
ClaimsOneState =
    (g : CodeRun) (run : Run) (delta : Delta) (base : ℕ → ℕ) (first : Delta)
    (try : Bool) (on : ℕ) (v : EndValue) (c : State ℕ) (j : End ℕ)
    → IsClaimed g run delta base first try on v c j
    → join_in g c try on j j.phase ≡ joined_at g (before_join g run delta base first) try on v
