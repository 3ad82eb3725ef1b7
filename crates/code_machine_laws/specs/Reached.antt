-- Worlds of code that a legal schedule reaches from the start of `main`.
--   IsReached    the world after a legal schedule
--   snapshots    what the locations of a revision had at its fork
use Rattle.std.specs.Prelude.{ℕ, ◌≤◌, List, [], ◌∷◌}
use Rattle.rev_code.specs.State.{Location}
use Rattle.rev_code.specs.Words.{Word}
use Rattle.revision_machine.specs.Numbered.{World, begin, Replays}
use Rattle.code_machine.specs.Local.{CodeRun, Local}
use Rattle.code_machine.specs.Machines.{numbered, IsMain, start_in}
pub use Rattle.rev_num.specs.Limits.{most_fuel}

pub record IsReached (g : CodeRun) (w : World (Local ℕ)) : Type 0 where
  -- the block of `main`
  pub number : ℕ
  pub main : IsMain g number
  pub fuel : ℕ
  pub few : fuel ≤ most_fuel
  pub schedule : List ℕ
  pub replays : Replays (numbered g) (begin (numbered g) (start_in g number main.body fuel)) schedule w

abbrev pub snapshots : {H : Type 0} → List (Location H) → List (Word H)
snapshots [] = []
snapshots (l ∷ ls) = l.snapshot ∷ snapshots ls
