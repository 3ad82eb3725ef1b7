-- What contracts see of revisions of code.
--   nothing         a state of code without blocks
--   made_by_join    a join made the trap with which a revision ended
use Rattle.std.specs.Prelude.{ℕ, Bool, false, []}
use Rattle.rev_code.specs.declared.code.Code.{Code}
use Rattle.rev_code.specs.State.{State}
use Rattle.code_machine.specs.Local.{Phase, running, done, trapped, at_work}
use Rattle.code_machine.specs.Ends.{shows_join}
use Rattle.run_revision.specs.CodeState.{CodeState, state_of}

abbrev pub no_code : Code
no_code = record { vars = []; texts = []; layouts = []; blocks = [] }

abbrev pub at_nothing : State ℕ
at_nothing = record {
  block = 0;
  at = 0;
  locals = [];
  stack = [];
  below = [];
  locations = [];
  fuel = 0;
  forks = 0;
  listed = [];
  text = [];
  line = 0;
}

abbrev pub nothing : CodeState
nothing = state_of (record { code = no_code; inputs = []; share = 0 }) (at_work at_nothing)

abbrev pub made_by_join : Phase ℕ → Bool
made_by_join running = false
made_by_join done = false
made_by_join (trapped t) = shows_join t
