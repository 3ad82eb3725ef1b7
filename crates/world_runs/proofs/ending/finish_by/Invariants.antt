-- What the loop of `finish_by` keeps.
use Rattle.std.proofs.Common.{◌≡◌, ℕ}
use Rattle.code_machine.specs.Local.{Local}
use Rattle.code_world.specs.LegOutcomes.{run_under}
use Rattle.code_world.specs.Tables.{IsWorld}
use Rattle.code_machine_laws.specs.Reached.{IsReached}
use Rattle.revision_machine.specs.Numbered.{World}
use Rattle.world_runs.proofs.Keeping.{CameKeeping}
use Rattle.world_runs.proofs.ending.finish_by.Given as goal

abbrev pub invariant-loop : goal.invariant-loop
invariant-loop g l = record {
  came : (w : World (Local ℕ)) → IsReached (run_under l.setting) w → IsWorld (run_under l.setting) l.initial.world w
      → (t : g.L.Legs.Told) → g.L.Legs.keeps l.initial.legs t (run_under l.setting) w l.initial.world
      → CameKeeping (g.L.Legs.keeps l.legs t (run_under l.setting)) (run_under l.setting) w l.counter l.world l.queue;
  size : g.M.MergeBy.size l.merges ≡ g.M.MergeBy.size l.initial.merges;
  same : g.M.MergeBy.merges l.merges ≡ g.M.MergeBy.merges l.initial.merges;
}
