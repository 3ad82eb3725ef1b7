-- Answers of of_parts: the first part that differs says no, and where none does and none is wanting it is yes.
use Rattle.std.proofs.Common.{Some, subst, sym}
use Rattle.revision_state.specs.Views.{given}
use Rattle.audit_rules.specs.Traces.{SaysNo}
use Rattle.audit_rules.specs.Verdicts.{computed_part}
use Rattle.rev_audit.specs.Sweep.{IsAhead, IsSwept}
use Rattle.stated_parts.proofs.Accepted.{accepted}
use Rattle.rev_audit.proofs.Sweeps.{difference_within, says_no, yes_where}
use Rattle.rev_audit.proofs.auditing.of_parts.Goals as goal

pub nth_part-part-requires : goal.nth_part-part-requires
nth_part-part-requires c =
    let t = c.args.stated.now in
    let d = c.in-Some.difference in
    difference_within (given t.setting) t.fuel t.parts.now c.args.unstated d
    (subst (IsSwept (given t.setting) t.fuel t.parts.now c.args.unstated) c.in-Some.is c.requires.swept)

pub returns-in-Some : goal.returns-in-Some
returns-in-Some c =
    let t = c.args.stated.now in
    let d = c.in-Some.difference in
    let p = c.nth_part-part.result.now in
    let swept = subst (IsSwept (given t.setting) t.fuel t.parts.now c.args.unstated) c.in-Some.is c.requires.swept in
    let ahead = subst (IsAhead (given t.setting) t.fuel t.parts.now c.args.unstated) c.in-Some.is c.requires.ahead in
    let no = says_no (given t.setting) t.fuel t.parts.now (accepted t.setting) c.requires.order c.args.unstated d p
    swept ahead c.nth_part-part.ensures in
    subst (λ r.
    SaysNo (given t.setting) t.fuel t.parts.now r (Some c.in_ok-copy-in-Some-2.field-0) (computed_part d.computed))
    (sym c.in_ok-copy-in-Some.ensures)
    (subst (λ v. SaysNo (given t.setting) t.fuel t.parts.now p.path (Some v) (computed_part d.computed))
    (sym c.in_ok-copy-in-Some-2.ensures) no)

pub returns : goal.returns
returns c =
    let t = c.args.stated.now in
    yes_where (given t.setting) t.fuel t.parts.now (accepted t.setting) c.requires.order c.args.unstated
    (subst (IsSwept (given t.setting) t.fuel t.parts.now c.args.unstated) c.in-None.is c.requires.swept)
    (subst (IsAhead (given t.setting) t.fuel t.parts.now c.args.unstated) c.in-None.is c.requires.ahead)
