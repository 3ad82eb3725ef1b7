-- Loops of run_on: the run is under way at the path where it began, and it has joined what it had joined at first.
use Rattle.std.proofs.Common.{◌≡◌}
use Rattle.revision_calculus.specs.HandlesHeld.{weight}
use Rattle.revision_state.specs.Views.{given}
use Rattle.audit_rules.specs.Parts.{joined_by}
use Rattle.rev_audit.specs.Own.{IsUnderWay}
use Rattle.rev_audit.proofs.run.run_on.Given as goal

abbrev pub invariant-loop-next : goal.invariant-loop-next
invariant-loop-next l = record {
  goes :
      IsUnderWay (given l.stated.setting) l.stated.fuel l.stated.parts.now l.state.path l.state.local l.children.items;
  path : l.state.path ≡ l.initial.state.path;
  joined : joined_by l.state.local.noted ≡ joined_by l.initial.state.local.noted;
}

abbrev pub decreases-loop-next : goal.decreases-loop-next
decreases-loop-next l = weight l.state.local
