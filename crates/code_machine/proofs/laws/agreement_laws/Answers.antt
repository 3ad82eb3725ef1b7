-- Answers of agreement_laws: the machine by paths does what that by number does, so its general laws are the code's.
use Rattle.revision_machine.proofs.Schedules.{schedule_agrees, complete_schedule_agrees}
use Rattle.revision_machine.proofs.Legs.{leg_law}
use Rattle.code_machine.specs.Machines.{machine, numbered, Holds, start_in}
use Rattle.code_machine.specs.Renamed.{IsNumbered}
use Rattle.code_machine.proofs.Holding.{holding}
use Rattle.code_machine.proofs.MachineConditions.{counts, named_counts}
use Rattle.code_machine.proofs.Numbering.{simulates, first_none, first_numbered}
use Rattle.code_machine.proofs.laws.agreement_laws.Goals as goal

pub returns : goal.returns
returns c = record {
  none = λ g ok n m fuel. first_none g n m.body fuel;
  agrees = λ g ok n m fuel.
      schedule_agrees (machine g) (numbered g) IsNumbered (start_in g n m.body fuel) (start_in g n m.body fuel)
      (named_counts g ok) (simulates g ok) (λ t i. first_numbered g n m.body fuel t);
  legs = λ g ok n m fuel.
      leg_law (machine g) (numbered g) IsNumbered (start_in g n m.body fuel) (start_in g n m.body fuel)
      (named_counts g ok) (simulates g ok) (λ t i. first_numbered g n m.body fuel t);
  ends = λ g ok n m fuel.
      complete_schedule_agrees (machine g) (numbered g) IsNumbered (start_in g n m.body fuel) (start_in g n m.body fuel)
      (named_counts g ok) (simulates g ok) (λ t i. first_numbered g n m.body fuel t) Holds (counts g ok) (holding g)
      (first_none g n m.body fuel);
}
