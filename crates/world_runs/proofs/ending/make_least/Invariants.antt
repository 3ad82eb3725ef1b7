-- What the loop of `make_least` keeps.
use Rattle.std.proofs.Common.{◌≡◌, ℕ}
use Rattle.code_machine.specs.Local.{Local}
use Rattle.code_world.specs.LegOutcomes.{run_under}
use Rattle.code_world.specs.Tables.{IsWorld}
use Rattle.code_machine_laws.specs.Reached.{IsReached}
use Rattle.world_runs.specs.Queue.{entered}
use Rattle.revision_machine.specs.Numbered.{World}
use Rattle.world_runs.specs.Covers.{CoversWorld}
use Rattle.world_runs.proofs.ending.make_least.Given as goal

abbrev pub invariant-loop-number : goal.invariant-loop-number
invariant-loop-number g l = record {
  reached : (w : World (Local ℕ)) → IsReached (run_under l.setting) w → IsWorld (run_under l.setting) l.initial.world w
      → CoversWorld (run_under l.setting) w l.initial.queue → (t : g.L.Legs.Told)
      → g.L.Legs.keeps l.initial.legs t (run_under l.setting) w l.initial.world
      → IsWorld (run_under l.setting) l.world w × CoversWorld (run_under l.setting) w l.queue
      × g.L.Legs.keeps l.legs t (run_under l.setting) w l.world;
  size : g.M.MergeBy.size l.merges ≡ g.M.MergeBy.size l.initial.merges;
  same : g.M.MergeBy.merges l.merges ≡ g.M.MergeBy.merges l.initial.merges;
}

abbrev pub decreases-loop-number : goal.decreases-loop-number
decreases-loop-number g l = entered l.queue
