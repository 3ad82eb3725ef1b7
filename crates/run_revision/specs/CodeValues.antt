-- What contracts see of the values that stand for revisions of code, and the machine of a hub of them.
--   RunnerValue, JoinerValue, LeftValue   a revision before its leg, at its join, and what one left
--   joined        a joiner after it joined a revision that left this
--   is_end        what a revision left that has ended in this state
--   code_hub      the machine
use Rattle.std.specs.Prelude.{◌≡◌, ℕ, Bool, true, false, List}
use Rattle.rev_code.specs.State.{State}
use Rattle.hub_core.specs.HubMachine.{HubMachine}
use Rattle.code_machine.specs.Local.{CodeRun, Phase, running, done, trapped, End, end_of}
use Rattle.code_machine.specs.Joining.{join_in}
use Rattle.run_revision.specs.CodeState.{CodeState, state_of, next, forks, join}

-- with what its snapshot belongs to
pub record RunnerValue : Type 0 where
  pub state : CodeState
  pub group : List ℕ

-- a joiner of the revision `on`, behind the instructions of its leg
pub record JoinerValue : Type 0 where
  pub run : CodeRun
  pub state : State ℕ
  pub try : Bool
  pub on : ℕ
  pub group : List ℕ

pub record LeftValue : Type 0 where
  pub run : CodeRun
  pub left : End ℕ

abbrev pub is_trap : Phase ℕ → Bool
is_trap running = false
is_trap done = false
is_trap (trapped t) = true

abbrev pub joined : JoinerValue → LeftValue → CodeState
joined a e = state_of a.run (join_in a.run a.state a.try a.on e.left e.left.phase)

abbrev pub is_end : LeftValue → CodeState → Type 0
is_end e l = (l.run ≡ e.run) × (end_of l.local ≡ e.left)

abbrev pub code_hub : HubMachine CodeState RunnerValue JoinerValue LeftValue
code_hub = record {
  next = next;
  forks = forks;
  join = join;
  runs = λ r. r.state;
  on = λ a. a.on;
  joined = joined;
  trapped = λ e. is_trap e.left.phase;
  is_try = λ a. a.try;
  runner_group = λ r. r.group;
  joiner_group = λ a. a.group;
}
