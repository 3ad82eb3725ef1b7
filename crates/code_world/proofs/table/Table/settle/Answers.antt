-- Answers of Table::settle: the end and the joiner are taken, they meet as a join does, and the result is put back.
use Rattle.std.proofs.Common.{◌∙◌, length, ap, arith}
use Rattle.revision_machine.specs.Numbered.{put_number}
use Rattle.code_world.specs.declared.slot.WorldSlot.TheVariants as slot
use Rattle.code_world.proofs.Turning.{joiner_still, Taken, taken, joiner_state, joinee_end, takes, settles}
use Rattle.code_world.proofs.table.Table.settle.Goals as goal
use Rattle.revision_machine.proofs.Lists.{put_length, at_below}
use Rattle.code_world.proofs.Touching.{settle_stays, settle_touches}

pub join_end-requires : goal.join_end-requires
join_end-requires g c = (c.requires.3.1, c.requires.3.2)

pub take_joiner-at-requires : goal.take_joiner-at-requires
take_joiner-at-requires g c =
    let q = c.requires.3 in (
      q.0.0,
      joiner_still c.args.self.now c.args.number c.args.on q c.in_ok-end.end c.join_end.new.self.slots.items
          c.in_ok-end.ensures.now
          ∙ q.0.1,
    )

pub meet-requires : goal.meet-requires
meet-requires g c =
    let q = c.requires in
    let k : Taken c.args.self.now c.args.number c.args.on c.take_joiner-at.result c.in_ok-end.end =
    taken c.args.self.now c.args.number c.args.on q.3 c.in_ok-end.end c.in_ok-end.ensures.was
    c.join_end.new.self.slots.items c.in_ok-end.ensures.now c.take_joiner-at.result c.take_joiner-at.ensures.was in (
      q.0,
      joiner_state q.0 c.args.self.now q.1 q.2 c.args.number c.args.on c.take_joiner-at.result c.in_ok-end.end k,
      joinee_end q.0 c.args.self.now q.1 q.2 c.args.number c.args.on c.take_joiner-at.result c.in_ok-end.end k,
      takes q.0 c.args.self.now q.1 q.2 c.args.number c.args.on c.take_joiner-at.result c.in_ok-end.end k,
      q.4,
    )

pub put-requires : goal.put-requires
put-requires g c =
    let a = at_below c.join_end.new.self.slots.items c.args.number (slot.Standing c.take_joiner-at.result)
    c.take_joiner-at.ensures.was in
    let x = ap length c.take_joiner-at.ensures.now
    ∙ put_length c.join_end.new.self.slots.items c.args.number slot.Taken in
    omega (arith, a, x)

pub returns-clause-answer : goal.returns-clause-answer
returns-clause-answer g c = λ r w good are.
    let k : Taken c.args.self.now c.args.number c.args.on c.take_joiner-at.result c.in_ok-end.end =
    taken c.args.self.now c.args.number c.args.on c.requires.3 c.in_ok-end.end c.in_ok-end.ensures.was
    c.join_end.new.self.slots.items c.in_ok-end.ensures.now c.take_joiner-at.result c.take_joiner-at.ensures.was in
    settles r c.args.self.now w good c.args.number c.args.on c.take_joiner-at.result c.in_ok-end.end k c.in_ok-slot.slot
    (c.in_ok-slot.ensures.met r
    (joiner_state r c.args.self.now w good c.args.number c.args.on c.take_joiner-at.result c.in_ok-end.end k)
    (joinee_end r c.args.self.now w good c.args.number c.args.on c.take_joiner-at.result c.in_ok-end.end k)
    (takes r c.args.self.now w good c.args.number c.args.on c.take_joiner-at.result c.in_ok-end.end k) are)
    c.answer_behind-answer.result c.answer_behind-answer.ensures c.put.new.self
    (c.put.ensures.now
    ∙ ap (λ ss. put_number ss c.args.number c.in_ok-slot.slot)
    (c.take_joiner-at.ensures.now ∙ ap (λ ss. put_number ss c.args.number slot.Taken) c.in_ok-end.ensures.now))
    (c.put.ensures.births ∙ c.take_joiner-at.ensures.births ∙ c.join_end.ensures.births)

pub returns-clause-touches : goal.returns-clause-touches
returns-clause-touches g c =
    settle_touches c.args.self.now c.put.new.self c.args.number c.args.on c.in_ok-slot.slot
    (settle_stays c.args.self.now.slots.items c.put.new.self.slots.items c.args.number c.args.on c.in_ok-end.end
    slot.Taken c.in_ok-slot.slot c.in_ok-end.ensures.was
    (c.put.ensures.now
    ∙ ap (λ ss. put_number ss c.args.number c.in_ok-slot.slot)
    (c.take_joiner-at.ensures.now ∙ ap (λ ss. put_number ss c.args.number slot.Taken) c.in_ok-end.ensures.now)))
    c.answer_behind-answer.result c.answer_behind-answer.ensures
