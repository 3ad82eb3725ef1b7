-- Loops of run_alone: the run is under way at its path, the table has its joins, and each uses up a stated part.
use Rattle.std.proofs.Common.{◌≡◌}
use Rattle.revision_state.specs.Views.{given}
use Rattle.audit_rules.specs.Parts.{joined_by}
use Rattle.audit_rules.proofs.PartsExist.{left}
use Rattle.rev_audit.specs.Own.{IsUnderWay}
use Rattle.audit_rules.specs.Traces.{paths_of}
use Rattle.stated_parts.specs.Tables.{IsSetOf}
use Rattle.rev_audit.proofs.run.run_alone.Given as goal

abbrev pub invariant-loop-joined : goal.invariant-loop-joined
invariant-loop-joined l = record {
  goes :
      IsUnderWay (given l.stated.setting) l.stated.fuel l.stated.parts.now l.state.path l.state.local l.children.items;
  path : l.state.path ≡ l.initial.state.path;
  joined : IsSetOf l.joined.map (joined_by l.state.local.noted);
}

abbrev pub decreases-loop-joined : goal.decreases-loop-joined
decreases-loop-joined l = left (paths_of l.stated.parts.now) (joined_by l.state.local.noted)
