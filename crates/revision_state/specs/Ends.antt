-- A revision that has ended, as far as a join sees it.
use Rattle.std.specs.Prelude.{ℕ, List, [], Option, Some, None}
use Rattle.rev_num.specs.declared.outcome.Trap.{Trap}
use Rattle.revision_calculus.specs.State.{Location, Phase, done, trapped, Local}

-- done, or this trap
abbrev pub phase_of : Option Trap → Phase
phase_of None = done
phase_of (Some t) = trapped t

-- a state with these locations, this text, this fuel and this end, and nothing else
abbrev pub ended_with : List Location → List ℕ → ℕ → Option Trap → Local
ended_with locations text fuel trap = record {
  locations = locations;
  frames = [];
  fuel = fuel;
  forks = 0;
  noted = [];
  text = text;
  line = 0;
  phase = phase_of trap;
}
