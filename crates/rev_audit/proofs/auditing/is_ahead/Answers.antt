-- Answers of is_ahead: the part that differs is one of the trace's, and the order of the two paths decides.
use Rattle.std.proofs.Common.{Some, MatchBool, subst, sym}
use Rattle.revision_state.specs.Views.{given}
use Rattle.rev_audit.specs.Sweep.{IsAhead, IsBehind, IsSwept}
use Rattle.rev_audit.proofs.Sweeps.{ahead_or, difference_within}
use Rattle.rev_audit.proofs.auditing.is_ahead.Goals as goal

pub nth_part-part-requires : goal.nth_part-part-requires
nth_part-part-requires c =
    let t = c.args.stated.now in
    let u = c.args.first.now in
    difference_within (given t.setting) t.fuel t.parts.now (Some u) c.in-Some.difference
    (subst (IsSwept (given t.setting) t.fuel t.parts.now (Some u)) c.in-Some.is c.requires)

pub returns-in-Some : goal.returns-in-Some
returns-in-Some c =
    let t = c.args.stated.now in
    let u = c.args.first.now in
    let d = c.in-Some.difference in
    subst (λ o.
    MatchBool c.after_in_post_order.result (IsAhead (given t.setting) t.fuel t.parts.now (Some u) o)
    (IsBehind (given t.setting) t.fuel t.parts.now u o))
    (sym c.in-Some.is)
    (ahead_or (given t.setting) t.fuel t.parts.now u d c.nth_part-part.result.now c.after_in_post_order.result
    c.nth_part-part.ensures c.after_in_post_order.ensures)
