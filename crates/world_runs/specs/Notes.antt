-- What is noted of the revisions of a world.
--   IsNoted      of a revision in this local state: its forks and joins, and what it left, once it has ended
--   AreNoted     of each revision of a world, by number
--   NotesOf      of the revisions of this world; of one in which a revision was joined twice nothing is told
use Rattle.std.specs.Prelude.{◌≡◌, ℕ, List, length, map, Some}
use Rattle.rev_num.specs.Path.{Path}
use Rattle.version_map.specs.declared.end.EndValue.{EndValue}
use Rattle.revision_machine.specs.Machine.{Entry}
use Rattle.revision_machine.specs.Laws.{local_of}
use Rattle.revision_machine.specs.Numbered.{Entries, World, Both, Listing, at_number}
use Rattle.code_machine.specs.Local.{CodeRun, Local, end_of}
use Rattle.code_machine.specs.Proper.{IsOver}
use Rattle.leg_run.specs.Standing.{listed_as}
use Rattle.rev_vm.specs.Meaning.{IsEnd}
use Rattle.world_runs.specs.declared.noted.Noted.{Noted}

pub record IsNoted (g : CodeRun) (l : Local ℕ) (x : Noted) : Type 0 where
  pub listed : l.state.listed ≡ map listed_as x.meetings.items
  pub left : IsOver l → (v : EndValue) × (x.end ≡ Some v) × IsEnd g (end_of l) v

-- of revisions with and without the mark
pub record AreNoted (g : CodeRun) (w : Entries (Local ℕ)) (ns : List Noted) : Type 0 where
  pub count : length ns ≡ length w
  pub each : (n : ℕ) (r : Path) (e : Entry (Local ℕ)) (x : Noted) → at_number w n ≡ Some (r, e)
      → at_number ns n ≡ Some x → IsNoted g (local_of e) x

abbrev pub NotesOf : CodeRun → World (Local ℕ) → List Noted → Type 0
NotesOf g Both ns = Unit {0}
NotesOf g (Listing w) ns = AreNoted g w ns
