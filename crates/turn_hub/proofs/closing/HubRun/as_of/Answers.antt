-- Answers of HubRun::as_of: a machine that steps alike and has the same ends keeps whatever run was kept.
use Rattle.std.proofs.Math.Logic.{∥∥₁_elim}
use Rattle.turn_hub.proofs.Closes.{retyped}
use Rattle.turn_hub.specs.Seats.{first_of}
use Rattle.turn_hub.proofs.closing.HubRun.as_of.Goals as goal

pub invariant_of-result : goal.invariant_of-result
invariant_of-result g c = record {
  kept = ∥∥₁_elim c.args.self.kept squash₁
      (λ h. ∣ retyped g.L.Revision.machine g.N.Revision.machine c.requires.machine g.L.Revision.ends g.N.Revision.ends
      c.requires.ends (first_of c.args.self.witness.views).start c.args.self.state c.args.self.schedule.items
      c.args.self.forkers.items c.args.self.ends.items h ∣₁);
}
