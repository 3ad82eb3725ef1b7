-- Answers of World::main_text: the text of a live world is that of main's slot in its table.
use Rattle.code_world.proofs.Saying.{live_said}
use Rattle.code_world.proofs.world.World.main_text.Goals as goal

pub returns-in-Live : goal.returns-in-Live
returns-in-Live c =
    λ g w is. live_said g c.args.self.now w is c.main_text.result.now c.in-Live.table c.in-Live.is c.main_text.ensures
