-- Runs with notes.
--   AreNotesIn           the notes of this world stand behind this reference
--   HasFinishedNoting    as `HasFinished`, with the notes of the world there
use Rattle.std.specs.Prelude.{◌≡◌, ℕ, List, Vec}
use Rattle.std.specs.Borrow.{MutBor}
use Rattle.std.specs.Global.{Global}
use Rattle.revision_machine.specs.Numbered.{World}
use Rattle.code_machine.specs.Local.{CodeRun, Local}
use Rattle.code_world.specs.declared.world.World as rust
use Rattle.world_runs.specs.Finish.{HasFinished}
use Rattle.world_runs.specs.declared.noted.Noted.{Noted}
use Rattle.world_runs.specs.Notes.{NotesOf}

pub record AreNotesIn (g : CodeRun) (w : World (Local ℕ)) (place notes : MutBor (Vec Noted Global))
    : Type 0 where
  pub same : notes.ghost_name ≡ place.ghost_name
  pub noted : NotesOf g w notes.now.items

pub record HasFinishedNoting (g : CodeRun) (w : World (Local ℕ)) (v : rust.World) (ns : List Noted)
    : Type 0 where
  pub finished : HasFinished g w v
  pub noted : NotesOf g finished.end ns
