-- Answers of World::into_main: where no leg is left main has ended, so its end can be taken from the live table.
use Rattle.code_world.proofs.Ended.{main_ended, main_left}
use Rattle.code_world.proofs.world.World.into_main.Goals as goal

pub into_main-requires : goal.into_main-requires
into_main-requires c =
    let q = c.requires in
    main_ended q.0 c.args.self q.1 q.2 q.3 c.in-Live.table c.in-Live.is

pub returns-in-Live : goal.returns-in-Live
returns-in-Live c = λ g w is over.
    main_left g c.args.self w is over c.in-Live.table c.in-Live.is c.into_main.result c.into_main.ensures.end
    c.into_main.ensures.births
