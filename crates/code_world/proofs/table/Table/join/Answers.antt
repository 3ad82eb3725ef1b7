-- Answers of Table::join: a joinee at work makes the joiner wait, an ended one is settled, and a joined one is Twice.
use Rattle.std.proofs.Common.{◌∙◌, ap, subst}
use Rattle.revision_machine.specs.Numbered.{at_number}
use Rattle.code_world.specs.declared.answer.LegAnswer.TheVariants as answer
use Rattle.code_world.specs.Answers.{Answers}
use Rattle.code_world.proofs.Finding.{vacant, stage_running, stage_standing, stage_ended, stage_joined}
use Rattle.code_world.proofs.Turning.{joinee_known, waits_running, waits_standing, joins_twice}
use Rattle.code_world.proofs.table.Table.join.Goals as goal
use Rattle.code_world.proofs.Touching.{same, same_but, same_stays}

pub unreachable-requires : goal.unreachable-requires
unreachable-requires g c =
    let q = c.requires in
    absurd (joinee_known q.0 c.args.self.now q.1 q.2 c.args.number q.3.0 q.3.1
    (ap (at_number c.args.self.now.slots.items) q.3.2
    ∙ vacant q.0 c.args.self.now.slots.items q.1 q.2.table.slots c.args.on c.in-NoSuch.ensures))

pub unreachable-unreachable : goal.unreachable-unreachable
unreachable-unreachable g c =
    let q = c.requires in
    absurd (joinee_known q.0 c.args.self.now q.1 q.2 c.args.number q.3.0 q.3.1
    (ap (at_number c.args.self.now.slots.items) q.3.2
    ∙ vacant q.0 c.args.self.now.slots.items q.1 q.2.table.slots c.args.on c.in-NoSuch.ensures))

pub settle-requires : goal.settle-requires
settle-requires g c =
    let q = c.requires in
    let e = stage_ended (at_number c.args.self.now.slots.items c.args.on) c.in-Ended.ensures in
    (q.0, q.1, q.2, (q.3, e.0, e.1), q.4)

pub returns-in-Running-clause-answer : goal.returns-in-Running-clause-answer
returns-in-Running-clause-answer g c = λ r w good are.
    let q = c.requires.3 in
    let e = stage_running (at_number c.args.self.now.slots.items c.args.on) c.in-Running.ensures in
    subst (λ m. Answers r w c.args.number (answer.Waits m) c.args.self.now) q.2
    (waits_running r c.args.self.now w good c.args.number q.0 q.1 e.0
    (ap (at_number c.args.self.now.slots.items) q.2 ∙ e.1))

pub returns-in-Standing-clause-answer : goal.returns-in-Standing-clause-answer
returns-in-Standing-clause-answer g c = λ r w good are.
    let q = c.requires.3 in
    let e = stage_standing (at_number c.args.self.now.slots.items c.args.on) c.in-Standing.on c.in-Standing.ensures in
    subst (λ m. Answers r w c.args.number (answer.Waits m) c.args.self.now) q.2
    (waits_standing r c.args.self.now w good c.args.number q.0 q.1 e.0
    (ap (at_number c.args.self.now.slots.items) q.2 ∙ e.1))

pub returns-in-Ended-clause-answer : goal.returns-in-Ended-clause-answer
returns-in-Ended-clause-answer g c = c.settle.ensures.answer

pub returns-in-Joined-clause-answer : goal.returns-in-Joined-clause-answer
returns-in-Joined-clause-answer g c = λ r w good are.
    let q = c.requires.3 in
    let e = stage_joined (at_number c.args.self.now.slots.items c.args.on) c.in-Joined.ensures in
    joins_twice r c.args.self.now w good c.args.number q.0 q.1 e.0
    (ap (at_number c.args.self.now.slots.items) q.2 ∙ e.1)

pub returns-in-Running-clause-touches : goal.returns-in-Running-clause-touches
returns-in-Running-clause-touches g c = same_but c.args.self.now c.args.number

pub returns-in-Standing-clause-touches : goal.returns-in-Standing-clause-touches
returns-in-Standing-clause-touches g c = same_but c.args.self.now c.args.number

pub returns-in-Ended-clause-touches : goal.returns-in-Ended-clause-touches
returns-in-Ended-clause-touches g c = c.settle.ensures.touches

pub returns-in-Joined-clause-touches : goal.returns-in-Joined-clause-touches
returns-in-Joined-clause-touches g c = same_stays c.args.self.now c.args.self.now c.args.number (same c.args.self.now)
