-- Answers of schedule_laws: the world by number keeps the conditions by any table of paths; general laws follow.
use Rattle.std.proofs.Common.{◌+◌, ◌*◌}
use Rattle.revision_machine.proofs.Schedules.{schedule_law, run_is_schedule, over_law}
use Rattle.revision_machine.proofs.ByNumber.{schedule_completes, least_completes}
use Rattle.code_machine.specs.Machines.{numbered, start_in}
use Rattle.code_machine.proofs.MachineConditions.{named_counts, named_spends, named_pays}
use Rattle.code_machine.proofs.Starting.{entry_bound, revision_count}
use Rattle.code_machine.proofs.Fuel.{fuel_of_start}
use Rattle.code_machine.proofs.worlds.schedule_laws.Goals as goal

pub returns : goal.returns
returns c = record {
  counts = named_counts;
  spends = named_spends;
  pays = named_pays;
  runs = λ g ok n m fuel. schedule_law (numbered g) (start_in g n m.body fuel) (named_counts g ok);
  schedules = λ g ok n m fuel. run_is_schedule (numbered g) (start_in g n m.body fuel) (named_counts g ok);
  over = λ g ok n m fuel. over_law (numbered g) (start_in g n m.body fuel) (named_counts g ok);
  bound = λ g ok n m fuel. entry_bound g ok n m fuel;
  count = λ g ok n m fuel. revision_count g ok n m fuel;
  fuel = fuel_of_start;
  completes = λ g ok n m fuel.
      schedule_completes (numbered g) (start_in g n m.body fuel) (3 * fuel + 2) (entry_bound g ok n m fuel);
  least = λ g ok n m fuel.
      least_completes (numbered g) (start_in g n m.body fuel) (3 * fuel + 2) (entry_bound g ok n m fuel);
}
