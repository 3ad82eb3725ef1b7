-- Answers of diamond_step: both revisions step from one state, so after both orders the states are the same.
use Rattle.std.proofs.Common.{sym, ◌∙◌}
use Rattle.revision_machine.specs.Rules.{machine_of}
use Rattle.revision_machine.specs.States.{global_of}
use Rattle.revision_machine.proofs.Orders.{not_same, stepped_some, same_end, orders}
use Rattle.revision_machine.proofs.two_orders.diamond_step.Goals as goal

pub both-requires : goal.both-requires
both-requires g c =
    let M = machine_of (g.L.Language.rules c.args.language.now) in
    let now = global_of c.args.state.now in
    same_end M c.requires.main (g.met.L.Language.keeps c.args.language.now).counts now (global_of c.in-Some.first)
    (global_of c.in-Some-2.second) c.args.p.now c.args.q.now c.requires.reached
    (not_same c.args.p.now c.args.q.now (sym c.is.ensures ∙ c.if-is.false))
    (stepped_some M now (global_of c.in_ok-first.first) c.args.p.now c.in_ok-first-2.field-0 c.in-Some.first
    c.in_ok-first-2.ensures.steps c.in-Some.is c.in_ok-first.ensures)
    (stepped_some M now (global_of c.in_ok-second.second) c.args.q.now c.in_ok-second-2.field-0 c.in-Some-2.second
    c.in_ok-second-2.ensures.steps c.in-Some-2.is c.in_ok-second.ensures)
    c.in_ok-left.field-0-1 c.in_ok-right.field-0-1 (global_of c.in_ok-left.left) (global_of c.in_ok-right.right)
    c.in_ok-left.ensures.answers c.in_ok-right.ensures.answers

pub returns : goal.returns
returns g c =
    let M = machine_of (g.L.Language.rules c.args.language.now) in
    let now = global_of c.args.state.now in
    orders M c.requires.main (g.met.L.Language.keeps c.args.language.now).counts now (global_of c.in-Some.first)
    (global_of c.in-Some-2.second) c.args.p.now c.args.q.now c.requires.reached
    (not_same c.args.p.now c.args.q.now (sym c.is.ensures ∙ c.if-is.false))
    (stepped_some M now (global_of c.in_ok-first.first) c.args.p.now c.in_ok-first-2.field-0 c.in-Some.first
    c.in_ok-first-2.ensures.steps c.in-Some.is c.in_ok-first.ensures)
    (stepped_some M now (global_of c.in_ok-second.second) c.args.q.now c.in_ok-second-2.field-0 c.in-Some-2.second
    c.in_ok-second-2.ensures.steps c.in-Some-2.is c.in_ok-second.ensures)
    c.in_ok-left.field-0-1 c.in_ok-right.field-0-1 (global_of c.in_ok-left.left) (global_of c.in_ok-right.right)
    c.in_ok-left.ensures.answers c.in_ok-right.ensures.answers
    c.both.result c.both.ensures
