-- `adopt`: the world of a table that has taken over an end.
use Rattle.std.proofs.Common.{subst}
use Rattle.revision_machine.specs.Numbered.{Listing}
use Rattle.code_world.specs.Tables.{IsWorld}
use Rattle.code_world.proofs.AdoptedEnds.{ends_running, live_answers}
use Rattle.code_world.proofs.Worlds.{good_listing}
use Rattle.code_world.proofs.Touching.{touches_in}
use Rattle.code_world.proofs.adopting.adopt.Goals as goal

pub unreachable-requires : goal.unreachable-requires
unreachable-requires c =
    let q = c.requires in
    subst (λ v. IsWorld q.0 v (Listing q.1)) c.in-Twice.is q.4

pub adopt-answer-requires : goal.adopt-answer-requires
adopt-answer-requires c =
    let q = c.requires in
    ends_running q.0 c.in-Live.table q.1 c.args.revision c.args.end
    (good_listing q.0 q.2 c.args.world q.1 c.in-Live.table c.in-Live.is q.3 q.4).table q.5

pub returns-clause-answer : goal.returns-clause-answer
returns-clause-answer c = λ g w ok reached is ends.
    live_answers g w c.args.revision c.adopt-answer.result c.adopt-answer.new.self
    (c.adopt-answer.ensures.answer g w (good_listing g ok c.args.world w c.in-Live.table c.in-Live.is reached is) ends)
    c.world_of.result c.world_of.ensures

pub returns-clause-touches : goal.returns-clause-touches
returns-clause-touches c =
    touches_in c.args.world c.world_of.result c.in-Live.table c.adopt-answer.new.self c.args.revision
    c.adopt-answer.result c.in-Live.is c.world_of.ensures c.adopt-answer.ensures.touches
