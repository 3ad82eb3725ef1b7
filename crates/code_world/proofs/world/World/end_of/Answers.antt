-- Answers of World::end_of: what a live table has as left is the revision's end in the world, and Twice has none.
use Rattle.std.specs.Option.{option_copied}
use Rattle.code_world.proofs.Ended.{left_live, left_twice}
use Rattle.code_world.proofs.world.World.end_of.Goals as goal

pub returns-in-Live : goal.returns-in-Live
returns-in-Live c = λ g w is.
    left_live g c.args.self.now w is c.args.revision c.in-Live.table c.in-Live.is (option_copied c.left_by.result)
    c.left_by.ensures

pub returns-in-Twice : goal.returns-in-Twice
returns-in-Twice c = λ g w is. left_twice g c.args.self.now w is c.args.revision c.in-Twice.is
