-- Answers of is_same: a part that was made is compared as parts are, and what was not made is no stated part.
use Rattle.std.proofs.Common.{Some, MatchBool, subst, sym}
use Rattle.revision_state.specs.Views.{given}
use Rattle.audit_rules.specs.Verdicts.{computed_part}
use Rattle.rev_audit.specs.Sweep.{IsSamePart}
use Rattle.rev_audit.proofs.Sweeps.{not_same, same_made}
use Rattle.rev_audit.proofs.sweep.is_same.Goals as goal

pub returns-in-Part : goal.returns-in-Part
returns-in-Part c =
    let t = c.args.stated.now in
    let p = c.args.part.now in
    subst (λ x.
    MatchBool c.is_same_part.result (IsSamePart (given t.setting) t.fuel t.parts.now (Some p) (computed_part x))
    (IsSamePart (given t.setting) t.fuel t.parts.now (Some p) (computed_part x) → ⊥))
    (sym c.in-Part.is)
    (same_made (given t.setting) t.fuel t.parts.now p c.in-Part.own c.is_same_part.result c.is_same_part.ensures)

pub returns-in-Absent : goal.returns-in-Absent
returns-in-Absent c =
    let t = c.args.stated.now in
    not_same (given t.setting) t.fuel t.parts.now c.args.part.now c.args.computed.now c.in-Absent.is

pub returns-in-Absent-2 : goal.returns-in-Absent-2
returns-in-Absent-2 c =
    let t = c.args.stated.now in
    not_same (given t.setting) t.fuel t.parts.now c.args.part.now c.args.computed.now c.in-Absent.is

pub returns-in-Absent-3 : goal.returns-in-Absent-3
returns-in-Absent-3 c =
    let t = c.args.stated.now in
    not_same (given t.setting) t.fuel t.parts.now c.args.part.now c.args.computed.now c.in-Absent.is
