-- `Table::come`: what comes of the instructions of a leg.
use Rattle.std.proofs.Common.{◌≡◌, ◌∙◌, ◌++◌, [], ◌∷◌, length, None, Some, sym, ap, subst, arith}
use Rattle.rev_code.specs.Step.{joins}
use Rattle.leg_run.specs.declared.revision.Meeting.TheVariants as meeting
use Rattle.code_machine.specs.Leg.{leg}
use Rattle.revision_machine.specs.Numbered.{at_number, put_number}
use Rattle.code_world.specs.declared.answer.LegAnswer.TheVariants as answer
use Rattle.code_world.specs.declared.slot.WorldSlot.TheVariants as slot
use Rattle.code_world.specs.Answers.{Answers}
use Rattle.code_world.specs.Meetings.{join_meeting}
use Rattle.code_world.specs.Turns.{born, ends_with}
use Rattle.code_world.proofs.Listed.{noted_so, fork_noted, join_noted, end_noted, ends_noted, joins_noted}
use Rattle.code_world.proofs.Turning.{births_below, few_forks, at_its_join, still_standing, forks_off, ends_so, runner, world_length}
use Rattle.code_world.proofs.table.Table.come.Goals as goal
use Rattle.revision_machine.proofs.Lists.{put_length, at_below}
use Rattle.code_world.proofs.Touching.{ends_touch, fork_stays, joining_touches, others_put, put_stays, then_joining, touches_so}

pub bear-requires-clause-slots : goal.bear-requires-clause-slots
bear-requires-clause-slots g c =
    let q = c.requires in
    let x = q.3 in
    let a = at_below q.1.slots.items c.args.number (slot.Running x.runner) x.there in
    let y = ap length x.taken ∙ put_length q.1.slots.items c.args.number slot.Taken in
    omega (arith, a, y)

pub bear-requires-clause-births : goal.bear-requires-clause-births
bear-requires-clause-births g c =
    let q = c.requires in
    let x = q.3 in
    let a = births_below q.0 q.1 q.2 x.good c.args.number x.runner x.there in
    let y = ap (λ b. length b.items) x.births in
    omega (arith, a, y)

pub bear-requires-clause-few : goal.bear-requires-clause-few
bear-requires-clause-few g c = λ b e.
    let q = c.requires in
    let x = q.3 in
    few_forks q.0 q.1 q.2 x.good c.args.number x.runner x.there b
    (ap (λ bs. at_number bs.items c.args.number) (sym x.births) ∙ e)

pub put-requires : goal.put-requires
put-requires g c =
    let q = c.requires in
    let x = q.3 in
    let a = at_below q.1.slots.items c.args.number (slot.Running x.runner) x.there in
    let y = ap length x.taken ∙ put_length q.1.slots.items c.args.number slot.Taken in
    omega (arith, a, y)

pub put-requires-in-Ended : goal.put-requires-in-Ended
put-requires-in-Ended g c =
    let q = c.requires in
    let x = q.3 in
    let a = at_below q.1.slots.items c.args.number (slot.Running x.runner) x.there in
    let y = ap length x.taken ∙ put_length q.1.slots.items c.args.number slot.Taken in
    omega (arith, a, y)

pub join-requires : goal.join-requires
join-requires g c =
    let q = c.requires in
    let x = q.3 in
    let s = q.0 in
    let k = runner s q.1 q.2 x.good c.args.number x.runner x.there in
    let come = rw c.in-Standing.is at (x.comes k.state k.runs) in
    let slots = c.put.ensures.now ∙ ap (λ ss. put_number ss c.args.number (slot.Standing c.in-Standing.at)) x.taken in (
      s,
      q.2,
      at_its_join s q.1 q.2 x.good c.args.number x.runner x.there c.in-Standing.at come c.put.new.self slots
          (c.put.ensures.births ∙ x.births),
      (
        c.in-Standing.at,
        still_standing s q.1 q.2 x.good c.args.number x.runner x.there c.in-Standing.at c.put.new.self.slots.items
            slots,
        sym c.on-on.ensures,
      ),
      q.4,
    )

pub returns-in_ok-bear-in-Forked-clause-answer : goal.returns-in_ok-bear-in-Forked-clause-answer
returns-in_ok-bear-in-Forked-clause-answer g c = λ s t w x merges.
    let k = runner s t w x.good c.args.number x.runner x.there in
    let come = rw c.in-Forked.is at (x.comes k.state k.runs) in
    let b = c.in_ok-bear-in-Forked.ensures.births in
    subst (λ z. Answers s w c.args.number z c.bear.new.self) (sym c.noted_fork.ensures.answer)
    (forks_off s t w x.good c.args.number x.runner x.there c.args.child x.next c.in-Forked.forker c.in-Forked.kid come.0
    c.bear.new.self
    (c.in_ok-bear-in-Forked.ensures.slots
    ∙ ap (λ ss. put_number ss c.args.number (slot.Running c.in-Forked.forker) ++ slot.Running c.in-Forked.kid ∷ [])
    x.taken)
    b.0 (ap (λ bs. at_number bs.items c.args.number) (sym x.births) ∙ b.1)
    (b.2 ∙ ap (λ bs. born bs.items c.args.number b.0) x.births))

pub returns-in_ok-bear-in-Forked-clause-noted : goal.returns-in_ok-bear-in-Forked-clause-noted
returns-in_ok-bear-in-Forked-clause-noted g c = λ s t w x.
    let k = runner s t w x.good c.args.number x.runner x.there in
    let come = rw c.in-Forked.is at (x.comes k.state k.runs) in
    let number = x.next ∙ sym (world_length s t w x.good c.args.number) in
    noted_so s w c.args.number (answer.Forked c.args.child) c.noted_fork.result.answer
    (Some (meeting.Forked c.args.child c.in-Forked.line)) c.noted_fork.result.meeting
    c.noted_fork.ensures.answer c.noted_fork.ensures.meeting
    (fork_noted s w c.args.number k.path k.state k.there c.args.child c.in-Forked.line number come.1)

pub returns-in_ok-answer-in-Standing-clause-answer : goal.returns-in_ok-answer-in-Standing-clause-answer
returns-in_ok-answer-in-Standing-clause-answer g c = λ s t w x merges.
    let k = runner s t w x.good c.args.number x.runner x.there in
    let come = rw c.in-Standing.is at (x.comes k.state k.runs) in
    let slots = c.put.ensures.now ∙ ap (λ ss. put_number ss c.args.number (slot.Standing c.in-Standing.at)) x.taken in
    subst (λ z. Answers s w c.args.number z c.join.new.self) (sym c.noted_join.ensures.answer)
    (c.in_ok-answer-in-Standing.ensures.answer s w
    (at_its_join s t w x.good c.args.number x.runner x.there c.in-Standing.at come c.put.new.self slots
    (c.put.ensures.births ∙ x.births))
    merges)

pub returns-in_ok-answer-in-Standing-clause-noted : goal.returns-in_ok-answer-in-Standing-clause-noted
returns-in_ok-answer-in-Standing-clause-noted g c = λ s t w x.
    let k = runner s t w x.good c.args.number x.runner x.there in
    let come = rw c.in-Standing.is at (x.comes k.state k.runs) in
    let a = c.in-Standing.at in
    let comes : leg s k.state ≡ joins come.2 a.is_try c.on-on.result =
    ap (λ l. leg s l.state) come.1 ∙ come.3 ∙ ap (λ m. joins come.2 a.is_try m) (sym c.on-on.ensures) in
    noted_so s w c.args.number c.in_ok-answer-in-Standing.answer c.noted_join.result.answer
    (join_meeting c.in_ok-answer-in-Standing.answer c.on-on.result c.line-line.result) c.noted_join.result.meeting
    c.noted_join.ensures.answer c.noted_join.ensures.meeting
    (joins_noted s w c.args.number c.in_ok-answer-in-Standing.answer c.on-on.result c.line-line.result
    (join_noted s w c.args.number k.path k.state k.there come.2 a.is_try c.on-on.result c.line-line.result comes
    (c.line-line.ensures s come.2 come.4)))

pub returns-in-Ended-clause-answer : goal.returns-in-Ended-clause-answer
returns-in-Ended-clause-answer g c = λ s t w x merges.
    let k = runner s t w x.good c.args.number x.runner x.there in
    let come = rw c.in-Ended.is at (x.comes k.state k.runs) in
    subst (λ z. Answers s w c.args.number z c.put-in-Ended.new.self)
    (sym (c.noted_end.ensures.answer ∙ c.answer_of-answer.ensures))
    (ends_so s t w x.good c.args.number x.runner x.there c.in-Ended.end come c.put-in-Ended.new.self
    (c.put-in-Ended.ensures.now ∙ ap (λ ss. put_number ss c.args.number (slot.Ended c.in-Ended.end)) x.taken)
    (c.put-in-Ended.ensures.births ∙ x.births))

pub returns-in-Ended-clause-noted : goal.returns-in-Ended-clause-noted
returns-in-Ended-clause-noted g c = λ s t w x.
    let k = runner s t w x.good c.args.number x.runner x.there in
    let come = rw c.in-Ended.is at (x.comes k.state k.runs) in
    noted_so s w c.args.number (ends_with c.in-Ended.end.finish) c.noted_end.result.answer None
    c.noted_end.result.meeting
    (c.noted_end.ensures.answer ∙ c.answer_of-answer.ensures) c.noted_end.ensures.meeting
    (ends_noted s w c.args.number c.in-Ended.end.finish
    (end_noted s w c.args.number k.path k.state k.there come.after come.goes))

pub returns-in_ok-bear-in-Forked-clause-touches : goal.returns-in_ok-bear-in-Forked-clause-touches
returns-in_ok-bear-in-Forked-clause-touches g c = λ s t w x.
    touches_so t c.bear.new.self c.args.number (answer.Forked _) c.noted_fork.result.answer c.noted_fork.ensures.answer
    (fork_stays t.slots.items c.bear.new.self.slots.items c.args.number slot.Taken (slot.Running c.in-Forked.forker)
    (slot.Running c.in-Forked.kid)
    (c.in_ok-bear-in-Forked.ensures.slots
    ∙ ap (λ ss. put_number ss c.args.number (slot.Running c.in-Forked.forker) ++ slot.Running c.in-Forked.kid ∷ [])
    x.taken))

pub returns-in_ok-answer-in-Standing-clause-touches : goal.returns-in_ok-answer-in-Standing-clause-touches
returns-in_ok-answer-in-Standing-clause-touches g c = λ s t w x.
    joining_touches t c.join.new.self c.args.number c.in_ok-answer-in-Standing.answer c.noted_join.result.answer
    c.noted_join.ensures.answer
    (then_joining t c.put.new.self c.join.new.self c.args.number c.in_ok-answer-in-Standing.answer (
      put_stays t.slots.items c.put.new.self.slots.items c.args.number slot.Taken (slot.Standing c.in-Standing.at)
          (c.put.ensures.now ∙ ap (λ ss. put_number ss c.args.number (slot.Standing c.in-Standing.at)) x.taken),
      ap (λ b. b.items) (c.put.ensures.births ∙ x.births),
    ) c.in_ok-answer-in-Standing.ensures.touches)

pub returns-in-Ended-clause-touches : goal.returns-in-Ended-clause-touches
returns-in-Ended-clause-touches g c = λ s t w x.
    touches_so t c.put-in-Ended.new.self c.args.number (ends_with c.in-Ended.end.finish) c.noted_end.result.answer
    (c.noted_end.ensures.answer ∙ c.answer_of-answer.ensures)
    (ends_touch t c.put-in-Ended.new.self c.args.number c.in-Ended.end.finish
    (others_put t.slots.items c.put-in-Ended.new.self.slots.items c.args.number slot.Taken (slot.Ended c.in-Ended.end)
    (c.put-in-Ended.ensures.now ∙ ap (λ ss. put_number ss c.args.number (slot.Ended c.in-Ended.end)) x.taken)))
