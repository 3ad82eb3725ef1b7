-- What the loop of `replay_by` keeps.
use Rattle.std.proofs.Common.{◌≡◌, ℕ, take}
use Rattle.code_machine.specs.Local.{Local}
use Rattle.code_world.specs.LegOutcomes.{run_under}
use Rattle.code_world.specs.Tables.{IsWorld}
use Rattle.code_machine_laws.specs.Reached.{IsReached}
use Rattle.revision_machine.specs.Numbered.{World}
use Rattle.world_runs.specs.KeptByLegs.{IsKeptFirst}
use Rattle.world_runs.specs.Replay.{Replayed}
use Rattle.world_runs.proofs.replaying.replay_by.Given as goal

abbrev pub invariant-loop-at : goal.invariant-loop-at
invariant-loop-at g l = record {
  reached : (w : World (Local ℕ)) × Replayed (run_under l.setting) l.fuel (take l.at l.schedule) w
      × IsReached (run_under l.setting) w × IsWorld (run_under l.setting) l.world w
      × ((t : g.L.Legs.Told)
      → IsKeptFirst (g.L.Legs.keeps l.initial.legs t (run_under l.setting)) (run_under l.setting) l.fuel
      → g.L.Legs.keeps l.legs t (run_under l.setting) w l.world);
  size : g.M.MergeBy.size l.merges ≡ g.M.MergeBy.size l.initial.merges;
  same : g.M.MergeBy.merges l.merges ≡ g.M.MergeBy.merges l.initial.merges;
}
