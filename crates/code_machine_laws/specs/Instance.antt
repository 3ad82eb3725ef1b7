-- Verified code as a lawful machine, as a lawful world by number, and as the two together.
use Rattle.revision_machine.specs.Theory.{Lawful, LawfulWorld, Simulation}
pub use Rattle.code_machine.specs.Local.{IsVerified, CodeRun}
use Rattle.code_machine.specs.Machines.{machine, numbered, Holds}
use Rattle.code_machine.specs.Renamed.{IsNumbered}
use Rattle.code_machine.specs.Weights.{weight, pay}
use Rattle.code_machine.proofs.Holding.{holding}
use Rattle.code_machine.proofs.MachineConditions.{counts, spends, pays, named_counts, named_spends, named_pays}
use Rattle.code_machine.proofs.Numbering.{simulates}

abbrev pub lawful : (g : CodeRun) → IsVerified g → Lawful
lawful g ok = record {
  machine = machine g;
  holds = Holds;
  weight = λ l. weight g l;
  fuel = λ l. pay g l;
  counts = counts g ok;
  handles = holding g;
  spends = spends g ok;
  pays = pays g ok;
}

abbrev pub world : (g : CodeRun) → IsVerified g → LawfulWorld
world g ok = record {
  numbered = numbered g;
  weight = λ l. weight g l;
  fuel = λ l. pay g l;
  counts = named_counts g ok;
  spends = named_spends g ok;
  pays = named_pays g ok;
}

abbrev pub simulation : (g : CodeRun) → IsVerified g → Simulation
simulation g ok = record {
  paths = lawful g ok;
  numbers = world g ok;
  related = IsNumbered;
  simulates = simulates g ok;
}
