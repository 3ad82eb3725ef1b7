-- What `main` left, and what another revision left.
--   MainIsOver   `main` is done or has trapped, or a revision was joined a second time
--   HasNoLeg     no revision has a leg
--   Names        these births name these paths, and no others
--   HasLeft      what it left in this world, and nothing where a revision was joined a second time
--   IsEndAt      what the revision of this number left, with or without the mark, and nothing where it
--                has not ended or is none of the world
use Rattle.std.specs.Prelude.{ℕ, ◌≡◌, List, [], length, Option, Some, None}
use Rattle.rev_num.specs.Path.{Path}
use Rattle.revision_machine.specs.Laws.{local_of}
use Rattle.revision_machine.specs.Machine.{Entry, Plain}
use Rattle.revision_machine.specs.Numbered as numbers
use Rattle.revision_machine.specs.Numbered.{World, Both, Listing, at_number, paths_of}
use Rattle.version_map.specs.declared.end.EndValue.{EndValue}
use Rattle.code_machine.specs.Local.{CodeRun, Local, running, end_of}
use Rattle.code_machine.specs.Machines.{numbered}
use Rattle.code_machine.specs.Proper.{IsOver}
use Rattle.rev_vm.specs.Meaning.{IsEnd}
use Rattle.code_world.specs.declared.ending.MainEnd.{MainEnd}
use Rattle.code_world.specs.declared.slot.WorldSlot.{WorldSlot}
use Rattle.code_world.specs.declared.slot.WorldSlot.TheVariants as slot
use Rattle.code_world.specs.declared.table.Birth.{Birth}
use Rattle.code_world.specs.Tables.{AreNamed}

abbrev pub MainIsOver : World (Local ℕ) → Type 0
MainIsOver Both = Unit {0}
MainIsOver (Listing w) = (l : Local ℕ) × (at_number w 0 ≡ Some ([], Plain l)) × IsOver l

abbrev pub HasNoLeg : CodeRun → World (Local ℕ) → Type 0
HasNoLeg g w = (n : ℕ) → numbers.leg (numbered g) w n ≡ None

pub record Names (births : List Birth) (paths : List Path) : Type 0 where
  pub named : AreNamed births paths
  pub all : length paths ≡ length births

abbrev pub HasLeft : CodeRun → World (Local ℕ) → Option MainEnd → Type 0
HasLeft g Both None = Unit {0}
HasLeft g (Listing w) (Some m) =
    (l : Local ℕ) × (at_number w 0 ≡ Some ([], Plain l)) × IsEnd g (end_of l) m.end
    × Names m.births.items (paths_of w)
HasLeft g Both (Some m) = ⊥
HasLeft g (Listing w) None = ⊥

abbrev pub IsEndAt : CodeRun → World (Local ℕ) → ℕ → Option EndValue → Type 0
IsEndAt g Both n o = o ≡ None
IsEndAt g (Listing w) n (Some v) =
    (r : Path) × (e : Entry (Local ℕ)) × (at_number w n ≡ Some (r, e))
    × IsEnd g (end_of (local_of e)) v
IsEndAt g (Listing w) n None =
    (r : Path) (e : Entry (Local ℕ)) → at_number w n ≡ Some (r, e)
    → (local_of e).phase ≡ running

-- the end value in a place of a table, where there is one
abbrev pub left_in : Option WorldSlot → Option EndValue
left_in (Some (slot.Ended v)) = Some v
left_in (Some (slot.Joined v)) = Some v
left_in _ = None
