-- The ends of a run of verified code, as values that own what they tell.
--   AreOwned     of each end that a hub has, the same as an end value in a box
--   IsEndIn      the end value of a revision that is not marked as joined, and none of one that is
--   AreEndsOf    by number, of each revision of a world
use Rattle.std.specs.Prelude.{ℕ, List, [], ◌∷◌, Option, Some, None}
use Rattle.std.specs.Global.{Box}
use Rattle.revision_machine.specs.Machine.{Entry, Plain, Joined}
use Rattle.revision_machine.specs.Numbered.{Entries}
use Rattle.code_machine.specs.Local.{CodeRun, Local, end_of}
use Rattle.run_revision.specs.CodeValues.{LeftValue}
use Rattle.rev_vm.specs.Meaning.{IsEnd}
use Rattle.version_map.specs.declared.end.EndValue.{EndValue}

abbrev pub IsOwned : Option LeftValue → Option (Box EndValue) → Type 0
IsOwned None None = Unit {0}
IsOwned None (Some v) = ⊥
IsOwned (Some e) None = ⊥
IsOwned (Some e) (Some v) = IsEnd e.run e.left v.value

abbrev pub AreOwned : List (Option LeftValue) → List (Option (Box EndValue)) → Type 0
AreOwned [] [] = Unit {0}
AreOwned [] (v ∷ vs) = ⊥
AreOwned (e ∷ es) [] = ⊥
AreOwned (e ∷ es) (v ∷ vs) = IsOwned e v × AreOwned es vs

abbrev pub IsEndIn : CodeRun → Entry (Local ℕ) → Option (Box EndValue) → Type 0
IsEndIn g (Plain l) (Some v) = IsEnd g (end_of l) v.value
IsEndIn g (Plain l) None = ⊥
IsEndIn g (Joined l) (Some v) = ⊥
IsEndIn g (Joined l) None = Unit {0}

abbrev pub AreEndsOf : CodeRun → Entries (Local ℕ) → List (Option (Box EndValue)) → Type 0
AreEndsOf g [] [] = Unit {0}
AreEndsOf g [] (v ∷ vs) = ⊥
AreEndsOf g (x ∷ w) [] = ⊥
AreEndsOf g (x ∷ w) (v ∷ vs) = IsEndIn g x.1 v × AreEndsOf g w vs
