-- Answers of simulation_theory: each clause is a lemma on a simulation, taken at the world under a table of paths.
use Rattle.std.proofs.Common.{List}
use Rattle.rev_num.specs.Path.{Path}
use Rattle.revision_machine.specs.Laws.{IsIn}
use Rattle.revision_machine.specs.Numbered.{machine_by}
use Rattle.revision_machine.specs.Theory as theory
use Rattle.revision_machine.specs.Theory.{Simulation}
use Rattle.revision_machine.proofs.Ends.{unique_end}
use Rattle.revision_machine.proofs.SimulatedRuns.{step_law, run_law}
use Rattle.revision_machine.proofs.Converse.{unblocked_law, complete_law, same_end}
use Rattle.revision_machine.proofs.Schedules.{schedule_agrees, complete_schedule_agrees}
use Rattle.revision_machine.proofs.Legs.{leg_law}
use Rattle.revision_machine.proofs.laws.simulation_theory.Goals as goal

runs_agree : (m : Simulation) (t : List Path) → theory.Runs m t
runs_agree m t a b first i =
    run_law m.paths.machine (machine_by m.numbers.numbered t) (m.related t) (λ p. IsIn p t) a b (m.simulates t)
    (first.related t i)

unblocked : (m : Simulation) (t : List Path) → theory.Unblocked m t
unblocked m t a b first i =
    unblocked_law m.paths.machine (machine_by m.numbers.numbered t) (m.related t) (λ p. IsIn p t) a b (m.simulates t)
    m.paths.holds m.paths.counts m.paths.handles first.none (first.related t i) (m.numbers.counts t)

complete : (m : Simulation) (t : List Path) → theory.CompleteRuns m t
complete m t a b first i =
    complete_law m.paths.machine (machine_by m.numbers.numbered t) (m.related t) (λ p. IsIn p t) a b (m.simulates t)
    m.paths.holds m.paths.counts m.paths.handles first.none (first.related t i) (m.numbers.counts t)

ends_agree : (m : Simulation) (t : List Path) → theory.Ends m t
ends_agree m t a b first i =
    same_end m.paths.machine (machine_by m.numbers.numbered t) (m.related t) (λ p. IsIn p t) a b
    (complete m t a b first i) (unique_end m.paths.machine a m.paths.counts)

pub returns : goal.returns
returns g c = record {
  steps = λ s t.
      let m = g.S.Simulated.simulation s in
      step_law m.paths.machine (machine_by m.numbers.numbered t) (m.related t) (λ p. IsIn p t) (m.simulates t);
  runs = λ s t. runs_agree (g.S.Simulated.simulation s) t;
  unblocked = λ s t. unblocked (g.S.Simulated.simulation s) t;
  complete = λ s t. complete (g.S.Simulated.simulation s) t;
  ends = λ s t. ends_agree (g.S.Simulated.simulation s) t;
  schedule = λ s a b first.
      let m = g.S.Simulated.simulation s in
      schedule_agrees m.paths.machine m.numbers.numbered m.related a b m.numbers.counts m.simulates first.related;
  legs = λ s a b first.
      let m = g.S.Simulated.simulation s in
      leg_law m.paths.machine m.numbers.numbered m.related a b m.numbers.counts m.simulates first.related;
  complete_schedule = λ s a b first.
      let m = g.S.Simulated.simulation s in
      complete_schedule_agrees m.paths.machine m.numbers.numbered m.related a b m.numbers.counts m.simulates
      first.related m.paths.holds m.paths.counts m.paths.handles first.none;
}
