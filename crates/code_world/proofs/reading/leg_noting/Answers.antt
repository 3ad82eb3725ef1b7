-- `leg_noting` of worlds: as `leg_meeting`, and what was noted.
use Rattle.std.proofs.Common.{None, refl, sym, subst}
use Rattle.rev_vm.specs.Starts.{run_under}
use Rattle.code_world.specs.declared.answer.LegAnswer.TheVariants as answer
use Rattle.code_world.specs.declared.world.World.TheVariants as world
use Rattle.code_world.specs.Answers.{LegAnswers}
use Rattle.code_world.proofs.Listed.{noted_so}
use Rattle.code_world.proofs.Worlds.{good_listing, good_table, answers_in, twice_in}
use Rattle.code_world.proofs.HasRead.{read_in, read_twice}
use Rattle.code_world.proofs.reading.leg_noting.Goals as goal
use Rattle.code_world.proofs.Touching.{touches_in, touches_twice}

pub returns-in-Twice-clause-answer : goal.returns-in-Twice-clause-answer
returns-in-Twice-clause-answer g c = λ w reached is.
    let s = run_under c.args.setting.now in
    subst (λ a. LegAnswers s w c.args.revision a world.Twice) (sym c.noted_end.ensures.answer)
    (twice_in s c.args.world w c.in-Twice.is is c.args.revision)

pub returns-in-Twice-clause-noted : goal.returns-in-Twice-clause-noted
returns-in-Twice-clause-noted g c = λ w reached is.
    noted_so (run_under c.args.setting.now) w c.args.revision answer.Twice c.noted_end.result.answer None
    c.noted_end.result.meeting c.noted_end.ensures.answer c.noted_end.ensures.meeting refl

pub leg_noting-requires-clause-good : goal.leg_noting-requires-clause-good
leg_noting-requires-clause-good g c =
    let q = c.requires.reached in
    good_table (run_under c.args.setting.now) c.args.setting.now.faultless c.args.world q.0 c.in-Live.table c.in-Live.is
    q.1 q.2

pub leg_noting-requires-clause-size : goal.leg_noting-requires-clause-size
leg_noting-requires-clause-size g c = c.requires.size

pub leg_noting-requires-clause-merges : goal.leg_noting-requires-clause-merges
leg_noting-requires-clause-merges g c = c.requires.merges

pub returns-in-Ok-clause-answer : goal.returns-in-Ok-clause-answer
returns-in-Ok-clause-answer g c = λ w reached is.
    answers_in (run_under c.args.setting.now) c.args.setting.now.faultless c.args.world w c.in-Live.table c.in-Live.is
    reached is c.args.revision c.in-Ok.leg.answer c.leg_noting.new.self c.in-Ok.ensures.answer c.world_of.result
    c.world_of.ensures

pub returns-in-Ok-clause-noted : goal.returns-in-Ok-clause-noted
returns-in-Ok-clause-noted g c = λ w reached is.
    c.in-Ok.ensures.noted w (good_listing (run_under c.args.setting.now) c.args.setting.now.faultless c.args.world w
    c.in-Live.table c.in-Live.is reached is)

pub returns-in-Twice-clause-touches : goal.returns-in-Twice-clause-touches
returns-in-Twice-clause-touches g c =
    touches_twice c.args.world world.Twice c.args.revision c.noted_end.result.answer c.in-Twice.is

pub returns-in-Ok-clause-touches : goal.returns-in-Ok-clause-touches
returns-in-Ok-clause-touches g c =
    touches_in c.args.world c.world_of.result c.in-Live.table c.leg_noting.new.self c.args.revision c.in-Ok.leg.answer
    c.in-Live.is c.world_of.ensures c.in-Ok.ensures.touches

pub returns-in-Twice-clause-read : goal.returns-in-Twice-clause-read
returns-in-Twice-clause-read g c = λ w reached is.
    read_twice (run_under c.args.setting.now) c.args.world w c.in-Twice.is c.args.revision c.args.noted.now

pub returns-in-Ok-clause-read : goal.returns-in-Ok-clause-read
returns-in-Ok-clause-read g c = λ w reached is.
    read_in (run_under c.args.setting.now) c.args.world w c.in-Live.table c.in-Live.is reached is
    c.args.setting.now.faultless c.args.revision c.args.noted.now c.leg_noting.new.noted c.in-Ok.ensures.read
