-- Answers of Table::leg: the stage of the number's slot is what the world has there, and each stage is one case.
use Rattle.std.proofs.Common.{◌∙◌, None, refl, sym, ap, subst}
use Rattle.rev_code.specs.Step.{joins}
use Rattle.revision_machine.specs.Numbered.{at_number}
use Rattle.rev_vm.specs.Starts.{run_under}
use Rattle.code_world.specs.declared.answer.LegAnswer.TheVariants as answer
use Rattle.code_world.specs.Answers.{Answers}
use Rattle.code_world.specs.Meetings.{join_meeting}
use Rattle.code_world.proofs.Finding.{vacant, stage_running, stage_standing, stage_ended, stage_joined}
use Rattle.code_world.proofs.Listed.{noted_so, join_noted, joins_noted}
use Rattle.code_world.proofs.Turning.{joiner, no_such, over_ended, over_joined}
use Rattle.code_world.proofs.table.Table.leg.Goals as goal
use Rattle.code_world.proofs.Touching.{same, touches_so, joining_touches}

pub run-requires-clause-runs : goal.run-requires-clause-runs
run-requires-clause-runs g c = c.requires.good

pub run-requires-clause-size : goal.run-requires-clause-size
run-requires-clause-size g c = c.requires.size

pub run-requires-clause-merges : goal.run-requires-clause-merges
run-requires-clause-merges g c = c.requires.merges

pub run-requires-clause-running : goal.run-requires-clause-running
run-requires-clause-running g c =
    stage_running (at_number c.args.self.now.slots.items c.args.number) c.in-Running.ensures

pub join-requires : goal.join-requires
join-requires g c = (
  run_under c.args.setting.now,
  c.requires.good.0,
  c.requires.good.1,
  stage_standing (at_number c.args.self.now.slots.items c.args.number) c.in-Standing.on c.in-Standing.ensures,
  c.requires.size,
)

pub join_line-line-requires : goal.join_line-line-requires
join_line-line-requires g c =
    let e = stage_standing (at_number c.args.self.now.slots.items c.args.number) c.in-Standing.on
    c.in-Standing.ensures in
    (e.0, e.1)

pub returns-in-NoSuch-clause-answer : goal.returns-in-NoSuch-clause-answer
returns-in-NoSuch-clause-answer g c = λ w good.
    let s = run_under c.args.setting.now in
    subst (λ z. Answers s w c.args.number z c.args.self.now) (sym c.noted_end.ensures.answer)
    (no_such s c.args.self.now w good c.args.number
    (vacant s c.args.self.now.slots.items w good.table.slots c.args.number c.in-NoSuch.ensures))

pub returns-in-NoSuch-clause-noted : goal.returns-in-NoSuch-clause-noted
returns-in-NoSuch-clause-noted g c = λ w good.
    noted_so (run_under c.args.setting.now) w c.args.number answer.NoSuch c.noted_end.result.answer None
    c.noted_end.result.meeting c.noted_end.ensures.answer c.noted_end.ensures.meeting refl

pub returns-in-Running-clause-answer : goal.returns-in-Running-clause-answer
returns-in-Running-clause-answer g c = c.run.ensures.answer

pub returns-in-Running-clause-noted : goal.returns-in-Running-clause-noted
returns-in-Running-clause-noted g c = c.run.ensures.noted

pub returns-in_ok-answer-in-Standing-clause-answer : goal.returns-in_ok-answer-in-Standing-clause-answer
returns-in_ok-answer-in-Standing-clause-answer g c = λ w good.
    let s = run_under c.args.setting.now in
    subst (λ z. Answers s w c.args.number z c.join.new.self) (sym c.noted_join.ensures.answer)
    (c.in_ok-answer-in-Standing.ensures.answer s w good c.requires.merges)

pub returns-in_ok-answer-in-Standing-clause-noted : goal.returns-in_ok-answer-in-Standing-clause-noted
returns-in_ok-answer-in-Standing-clause-noted g c = λ w good.
    let s = run_under c.args.setting.now in
    let e = stage_standing (at_number c.args.self.now.slots.items c.args.number) c.in-Standing.on
    c.in-Standing.ensures in
    let k = joiner s c.args.self.now w good c.args.number e.0 e.1 in
    noted_so s w c.args.number c.in_ok-answer-in-Standing.answer c.noted_join.result.answer
    (join_meeting c.in_ok-answer-in-Standing.answer c.in-Standing.on c.join_line-line.result)
    c.noted_join.result.meeting
    c.noted_join.ensures.answer c.noted_join.ensures.meeting
    (joins_noted s w c.args.number c.in_ok-answer-in-Standing.answer c.in-Standing.on c.join_line-line.result
    (join_noted s w c.args.number k.path k.state k.there k.at e.0.is_try c.in-Standing.on c.join_line-line.result
    (k.comes ∙ ap (λ m. joins k.at e.0.is_try m) e.2) (c.join_line-line.ensures s e.0 k.at e.1 k.stands)))

pub returns-in-Ended-clause-answer : goal.returns-in-Ended-clause-answer
returns-in-Ended-clause-answer g c = λ w good.
    let s = run_under c.args.setting.now in
    let e = stage_ended (at_number c.args.self.now.slots.items c.args.number) c.in-Ended.ensures in
    subst (λ z. Answers s w c.args.number z c.args.self.now) (sym c.noted_end-in-Ended.ensures.answer)
    (over_ended s c.args.self.now w good c.args.number e.0 e.1)

pub returns-in-Ended-clause-noted : goal.returns-in-Ended-clause-noted
returns-in-Ended-clause-noted g c = λ w good.
    noted_so (run_under c.args.setting.now) w c.args.number answer.Over c.noted_end-in-Ended.result.answer None
    c.noted_end-in-Ended.result.meeting c.noted_end-in-Ended.ensures.answer c.noted_end-in-Ended.ensures.meeting refl

pub returns-in-Joined-clause-answer : goal.returns-in-Joined-clause-answer
returns-in-Joined-clause-answer g c = λ w good.
    let s = run_under c.args.setting.now in
    let e = stage_joined (at_number c.args.self.now.slots.items c.args.number) c.in-Joined.ensures in
    subst (λ z. Answers s w c.args.number z c.args.self.now) (sym c.noted_end-in-Joined.ensures.answer)
    (over_joined s c.args.self.now w good c.args.number e.0 e.1)

pub returns-in-Joined-clause-noted : goal.returns-in-Joined-clause-noted
returns-in-Joined-clause-noted g c = λ w good.
    noted_so (run_under c.args.setting.now) w c.args.number answer.Over c.noted_end-in-Joined.result.answer None
    c.noted_end-in-Joined.result.meeting c.noted_end-in-Joined.ensures.answer c.noted_end-in-Joined.ensures.meeting refl

pub returns-in-NoSuch-clause-touches : goal.returns-in-NoSuch-clause-touches
returns-in-NoSuch-clause-touches g c =
    touches_so c.args.self.now c.args.self.now c.args.number answer.NoSuch c.noted_end.result.answer
    c.noted_end.ensures.answer (same c.args.self.now)

pub returns-in-Running-clause-touches : goal.returns-in-Running-clause-touches
returns-in-Running-clause-touches g c = c.run.ensures.touches

pub returns-in_ok-answer-in-Standing-clause-touches : goal.returns-in_ok-answer-in-Standing-clause-touches
returns-in_ok-answer-in-Standing-clause-touches g c =
    joining_touches c.args.self.now c.join.new.self c.args.number c.in_ok-answer-in-Standing.answer
    c.noted_join.result.answer c.noted_join.ensures.answer c.in_ok-answer-in-Standing.ensures.touches

pub returns-in-Ended-clause-touches : goal.returns-in-Ended-clause-touches
returns-in-Ended-clause-touches g c =
    touches_so c.args.self.now c.args.self.now c.args.number answer.Over c.noted_end-in-Ended.result.answer
    c.noted_end-in-Ended.ensures.answer (same c.args.self.now)

pub returns-in-Joined-clause-touches : goal.returns-in-Joined-clause-touches
returns-in-Joined-clause-touches g c =
    touches_so c.args.self.now c.args.self.now c.args.number answer.Over c.noted_end-in-Joined.result.answer
    c.noted_end-in-Joined.ensures.answer (same c.args.self.now)
