-- The calculus as the rules of a runner.
--
-- `weight` bounds the steps of a local state with all that it forks, and has room for the forks that are counted;
-- `rules_of` are the rules of a program; `IsSmall` is what a state within the limit is.
use Rattle.std.specs.Prelude.{ℕ, ◌+◌, ◌*◌, ◌≤◌, ◌<◌, List}
use Rattle.revision_machine.specs.Rules.{Rules}
use Rattle.revision_calculus.specs.Program.{Setting}
use Rattle.revision_calculus.specs.State.{Frame, Phase, running, joining, done, trapped, Local}
use Rattle.revision_calculus.specs.Step.{next}
use Rattle.revision_calculus.specs.Join.{join}
use Rattle.revision_calculus.specs.HandlesHeld.{beyond_first, Holds}
pub use Rattle.rev_num.specs.Limits.{most_fuel}

-- One that goes on has two, for its end or its join and for being joined, and one for each frame beyond the first.
-- One that has ended has one, for being joined.
abbrev pub ends : Phase → List Frame → ℕ
ends running fs = 2 + beyond_first fs
ends (joining q left) fs = 2 + beyond_first fs
ends done fs = 1
ends (trapped t) fs = 1

-- A unit of fuel is 31: a statement that forks adds 28 for the count of its forker, 2 for the child, and 1 is the step.
-- So a count is 29 with itself, and the limit has room for fewer than 2^32 - 1 forks.
abbrev pub weight : Local → ℕ
weight l = 31 * l.fuel + 28 * l.forks + ends l.phase l.frames

-- the weight of `main` with the most fuel
abbrev pub limit : ℕ
limit = 124000000002

abbrev pub rules_of : Setting → Rules Local
rules_of s = record {
  next = next s;
  forks = λ l. l.forks;
  join = join s;
  holds = Holds;
  weight = weight;
  limit = limit;
}

-- one more fork can be counted in 32 bits, and the fuel is at most that of the start
pub record IsSmall (l : Local) : Type 0 where
  pub forks : l.forks < 4294967295
  pub fuel : l.fuel ≤ most_fuel
