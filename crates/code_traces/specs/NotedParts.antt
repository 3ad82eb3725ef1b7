-- The part of a revision, from what was noted of it.
--   noted_part     with these places and kinds of the locations, of the revision of this number
--   HaveEnded      what each revision left is noted
--   AreOver        all revisions of a world are done or have trapped
--   world_parts    the parts of all revisions of a world, by number
use Rattle.std.specs.Prelude.{◌≡◌, ℕ, List, [], ◌∷◌, map, Some}
use Rattle.rev_num.specs.Path.{Path}
use Rattle.rev_num.specs.declared.value.ValueKind.{ValueKind}
use Rattle.trace_diagram.specs.declared.diagram.Part.{Part}
use Rattle.version_map.specs.declared.end.EndValue.{EndValue}
use Rattle.leg_run.specs.declared.revision.Meeting.{Meeting}
use Rattle.leg_run.specs.Standing.{listed_as}
use Rattle.revision_machine.specs.Machine.{Entry}
use Rattle.revision_machine.specs.Laws.{local_of}
use Rattle.revision_machine.specs.Numbered.{Entries, at_number, paths_of}
use Rattle.rev_vm.specs.States.{entry_as, phase_as}
use Rattle.code_machine.specs.Local.{CodeRun, Local}
use Rattle.code_machine.specs.Proper.{IsOver}
use Rattle.world_runs.specs.declared.noted.Noted.{Noted}
use Rattle.code_traces.specs.Parts.{change_of, end_at, event_of, part_in, path_in}

abbrev pub noted_part : (places : List (List ℕ)) → List ValueKind → List Path → ℕ
    → List Meeting → EndValue → Part
noted_part places kinds paths n meetings v = record {
  path = path_in paths n;
  events = map (event_of (path_in paths)) (map listed_as meetings);
  end = end_at (path_in paths) places (path_in paths n) (phase_as v.finish);
  fuel = v.fuel;
  written = map (change_of (path_in paths) places) (map (entry_as kinds) v.written);
  text = v.text;
}

abbrev pub HaveEnded : List Noted → Type 0
HaveEnded ns = (n : ℕ) (x : Noted) → at_number ns n ≡ Some x → (v : EndValue) × (x.end ≡ Some v)

abbrev pub AreOver : Entries (Local ℕ) → Type 0
AreOver w =
    (n : ℕ) (r : Path) (e : Entry (Local ℕ)) → at_number w n ≡ Some (r, e) → IsOver (local_of e)

-- where these are the paths of all
abbrev pub parts_by : CodeRun → List Path → Entries (Local ℕ) → List Part
parts_by g paths [] = []
parts_by g paths (x ∷ w) = part_in g paths x.0 (local_of x.1) ∷ parts_by g paths w

abbrev pub world_parts : CodeRun → Entries (Local ℕ) → List Part
world_parts g w = parts_by g (paths_of w) w
