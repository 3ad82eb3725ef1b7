-- Answers of reach_waits: the records are the same, and the run queue has room for what waits.
use Rattle.std.proofs.Common.{refl, ◌∙◌, arith}
use Rattle.turn_hub.proofs.handing.reach_waits.Goals as goal

pub returns-clause-longer : goal.returns-clause-longer
returns-clause-longer g c =
    let same = c.reach.ensures.same in
    let long = same.2.1 in
    let room = c.requires.queue.1 in record {
      same = λ j. refl;
      long = omega arith;
      lists = same.0;
      unfinished = same.1;
      links = same.2.0 ∙ c.requires.queue.0;
      reach = omega arith;
    }
