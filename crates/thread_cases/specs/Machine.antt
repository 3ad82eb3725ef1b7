-- The tree as a machine, whose joiners and ends are the revisions themselves.
use Rattle.std.specs.Prelude.{[]}
use Rattle.hub_core.specs.HubMachine.{HubMachine}
use Rattle.thread_cases.specs.declared.going.Going.{Going}
use Rattle.thread_cases.specs.declared.node.Node.{Node}
use Rattle.thread_cases.specs.Tree.{next, joined, joinee, outlives}

abbrev pub tree : HubMachine Node Going Node Node
tree = record {
  next = next;
  forks = λ l. l.forks;
  join = λ l m lq. joined l lq;
  runs = λ r. r.node;
  on = joinee;
  joined = joined;
  trapped = λ e. e.trapped;
  is_try = λ a. outlives a.way;
  runner_group = λ r. [];
  joiner_group = λ a. [];
}
