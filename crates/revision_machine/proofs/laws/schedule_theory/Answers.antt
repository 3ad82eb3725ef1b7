-- Answers of schedule_theory: each clause is a lemma on a numbered world, by its rules on counts, weight and fuel.
use Rattle.revision_machine.proofs.Schedules.{schedule_law, run_is_schedule, over_law, schedule_bound}
use Rattle.revision_machine.proofs.ByNumber.{world_count, schedule_completes, least_completes}
use Rattle.revision_machine.proofs.laws.schedule_theory.Goals as goal

pub returns : goal.returns
returns g c = record {
  runs = λ s main. let w = g.W.NumberedWorld.world s in schedule_law w.numbered main w.counts;
  schedules = λ s main. let w = g.W.NumberedWorld.world s in run_is_schedule w.numbered main w.counts;
  over = λ s main. let w = g.W.NumberedWorld.world s in over_law w.numbered main w.counts;
  bound = λ s main. let w = g.W.NumberedWorld.world s in schedule_bound w.numbered main w.counts w.weight w.spends;
  count = λ s main. let w = g.W.NumberedWorld.world s in world_count w.numbered main w.counts w.fuel w.pays;
  completes = λ s main.
      let w = g.W.NumberedWorld.world s in
      schedule_completes w.numbered main (w.weight main) (schedule_bound w.numbered main w.counts w.weight w.spends);
  least = λ s main.
      let w = g.W.NumberedWorld.world s in
      least_completes w.numbered main (w.weight main) (schedule_bound w.numbered main w.counts w.weight w.spends);
}
