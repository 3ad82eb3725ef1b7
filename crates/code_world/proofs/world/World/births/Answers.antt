-- Answers of World::births: a live world's table keeps where each revision comes from, and Twice has no entries.
use Rattle.std.proofs.Common.{List, sym, subst}
use Rattle.code_world.specs.declared.table.Birth.{Birth}
use Rattle.code_world.specs.Endings.{Names}
use Rattle.code_world.specs.Tables.{IsWorld}
use Rattle.code_world.proofs.Ended.{names}
use Rattle.revision_machine.specs.Numbered.{Listing, paths_of}
use Rattle.code_world.proofs.world.World.births.Goals as goal

pub returns-in-Live : goal.returns-in-Live
returns-in-Live c = λ g w is.
    subst (λ (bs : List Birth). Names bs (paths_of w)) (sym c.as_slice.ensures.value)
    (names g c.in-Live.table w (subst (λ v. IsWorld g v (Listing w)) c.in-Live.is is))

pub returns-in-Twice : goal.returns-in-Twice
returns-in-Twice c = λ g w is. absurd (subst (λ v. IsWorld g v (Listing w)) c.in-Twice.is is)
