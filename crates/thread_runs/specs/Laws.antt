-- Laws of runs of verified code at a hub.
--   BirthsNameTheirs    by the forkers of a world, births name the world's paths
use Rattle.std.specs.Prelude.{ℕ, List}
use Rattle.revision_machine.specs.Numbered.{Entries, Listing, begin, Replays, paths_of}
use Rattle.hub_core.specs.Forkers.{ForkersAre}
use Rattle.code_machine.specs.Local.{CodeRun, IsVerified, Local}
use Rattle.code_machine.specs.Machines.{numbered, IsMain, start_in}
use Rattle.code_world.specs.declared.table.Birth.{Birth}
use Rattle.code_world.specs.Endings.{Names}
use Rattle.thread_runs.specs.Births.{AreBirths, AreEarlier}

-- and each forker stands before what it forked
abbrev pub BirthsNameTheirs : Type 0
BirthsNameTheirs =
    (g : CodeRun) → IsVerified g → (n : ℕ) (m : IsMain g n) (fuel : ℕ) (ns : List ℕ) (w : Entries (Local ℕ))
    → Replays (numbered g) (begin (numbered g) (start_in g n m.body fuel)) ns (Listing w)
    → (forkers : List ℕ) → ForkersAre (paths_of w) forkers
    → AreEarlier forkers × ((births : List Birth) → AreBirths forkers births → Names births (paths_of w))
