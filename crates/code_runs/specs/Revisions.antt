-- Revisions of a world by number and by path.
--   path_at      the path of the revision of this number, if there is one; in Twice there is none
--   IsNumberIn   the revision of this path has this number, or there is none of this path; in Twice there is none
use Rattle.std.specs.Prelude.{ℕ, ◌≡◌, Option, None}
use Rattle.rev_num.specs.Path.{Path}
use Rattle.revision_machine.specs.Numbered.{World, Both, Listing, at_number, paths_of}
use Rattle.code_machine.specs.Local.{Local}
use Rattle.code_runs.specs.Births.{IsNumberOf}

abbrev pub path_at : World (Local ℕ) → ℕ → Option Path
path_at Both n = None
path_at (Listing w) n = at_number (paths_of w) n

abbrev pub IsNumberIn : World (Local ℕ) → Path → Option ℕ → Type 0
IsNumberIn Both p o = o ≡ None
IsNumberIn (Listing w) p o = IsNumberOf (paths_of w) p o
