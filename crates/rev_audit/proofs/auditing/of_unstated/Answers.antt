-- Answers of of_unstated: a revision that begins without a part, before each part that differs, says no by its run.
use Rattle.std.proofs.Common.{None, subst, sym}
use Rattle.revision_state.specs.Views.{given}
use Rattle.audit_rules.specs.Traces.{SaysNo}
use Rattle.audit_rules.specs.Verdicts.{computed_part}
use Rattle.stated_parts.proofs.Accepted.{accepted}
use Rattle.rev_audit.proofs.Sweeps.{says_unstated}
use Rattle.rev_audit.proofs.auditing.of_unstated.Goals as goal

pub run_alone-requires-clause-begins : goal.run_alone-requires-clause-begins
run_alone-requires-clause-begins c = c.requires.swept.kept.starts_are.others.0

pub returns : goal.returns
returns c =
    let t = c.args.stated.now in
    let o = c.in_ok-run.run' in
    subst (λ r. SaysNo (given t.setting) t.fuel t.parts.now r None (computed_part o.computed))
    (sym c.in_ok-revision.ensures)
    (says_unstated (given t.setting) t.fuel t.parts.now (accepted t.setting) c.requires.order c.args.first c.args.found
    (computed_part o.computed) o.children.items c.requires.swept c.requires.behind c.in_ok-run.ensures)
