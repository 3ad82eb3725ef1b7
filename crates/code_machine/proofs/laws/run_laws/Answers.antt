-- Answers of run_laws: the code keeps the conditions of revisions, so the general laws of runs hold of it.
use Rattle.revision_machine.proofs.Ends.{reached_forked, diamond_law, unique_end, twice_in_all}
use Rattle.revision_machine.proofs.Standing.{standing_law}
use Rattle.revision_machine.proofs.Blocked.{handle_law, no_blocked_end}
use Rattle.revision_machine.proofs.Completion.{completion_law}
use Rattle.code_machine.specs.Machines.{machine, Holds, start_in}
use Rattle.code_machine.specs.Weights.{weight}
use Rattle.code_machine.proofs.Holding.{holding}
use Rattle.code_machine.proofs.MachineConditions.{counts, spends}
use Rattle.code_machine.proofs.Numbering.{first_none}
use Rattle.code_machine.proofs.Starting.{run_bound, run_count}
use Rattle.code_machine.proofs.Fuel.{fuel_spent}
use Rattle.code_machine.proofs.laws.run_laws.Goals as goal

pub returns : goal.returns
returns c = record {
  diamond = λ g ok n m fuel. diamond_law (machine g) (start_in g n m.body fuel) (counts g ok);
  unique = λ g ok n m fuel. unique_end (machine g) (start_in g n m.body fuel) (counts g ok);
  twice = λ g ok n m fuel. twice_in_all (machine g) (start_in g n m.body fuel) (counts g ok);
  forkers = λ g ok n m fuel. reached_forked (machine g) (start_in g n m.body fuel) (counts g ok);
  standing = λ g ok n m fuel. standing_law (machine g) (start_in g n m.body fuel);
  handles = λ g ok n m fuel.
      handle_law (machine g) (start_in g n m.body fuel) Holds (counts g ok) (holding g) (first_none g n m.body fuel);
  unblocked = λ g ok n m fuel.
      no_blocked_end (machine g) (start_in g n m.body fuel) Holds (counts g ok) (holding g)
      (first_none g n m.body fuel);
  bound = λ g ok n m fuel. run_bound g ok n m fuel;
  count = λ g ok n m fuel. run_count g ok n m fuel;
  fuel = λ g ok n m fuel. fuel_spent g ok n m fuel;
  completes = λ g ok n m fuel.
      completion_law (machine g) (start_in g n m.body fuel) (λ l. weight g l) (counts g ok) (spends g ok);
}
