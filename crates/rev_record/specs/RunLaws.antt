-- What legs do to what is recorded and counted so far, and what that is at the end.
--   OfLegs              of each leg of each world that a legal schedule reaches
--   LeavesAreFound      a revision behind its leg that has listed nothing is a leaf
--   AdoptedIsLeaf       a leg whose end is taken over is that of a leaf
--   RecordedAtTheStart, CountedAtTheStart         nothing, before the first leg
--   RecordedWithout, CountedWithout               a leg after which there is nothing to add
--   RecordedWith, CountedWith                     the leg of a leaf, which is added
--   RecordedAtTheEnd, CountedAtTheEnd             the memo, and the number of the revisions that are reused
use Rattle.std.specs.Prelude.{◌≡◌, ◌≤◌, ℕ, List, [], ◌∷◌, ◌++◌, length, Some}
use Rattle.rev_num.specs.Path.{Path}
use Rattle.rev_num.specs.Limits.{most_fuel}
use Rattle.rev_code.specs.State.{State}
use Rattle.revision_machine.specs.Machine.{Entry, Plain}
use Rattle.revision_machine.specs.Laws.{local_of}
use Rattle.revision_machine.specs.Numbered as numbers
use Rattle.revision_machine.specs.Numbered.{Goes, Entries, World, Both, Listing, at_number, begin, Replays}
use Rattle.code_machine.specs.Local.{CodeRun, IsVerified, Local, at_work, End}
use Rattle.code_machine.specs.Machines.{numbered, IsMain, start_in}
use Rattle.code_memos.specs.Leaf.{Known}
use Rattle.code_memos.specs.Memo.{IsEntry, HasValid}
use Rattle.code_memos.specs.Worlds.{Adopts}
use Rattle.code_memos.specs.ByNumber.{OfWorlds, HasMemo, Refused, HasReused}
use Rattle.rev_record.specs.SoFar.{LeafLeg, RecordedSoFar, IsRecordedSoFar, CountedSoFar, IsCountedSoFar, none_in_twice}

abbrev pub OfLegs :
    ((g : CodeRun) (number : ℕ) (main : IsMain g number) (fuel : ℕ) → Entries (Local ℕ) → ℕ → World (Local ℕ) → Type 0)
    → Type 0
OfLegs Law =
    (g : CodeRun) → IsVerified g → (number : ℕ) (main : IsMain g number) (fuel : ℕ) → fuel ≤ most_fuel
    → (ns : List ℕ) (w : Entries (Local ℕ))
    → Replays (numbered g) (begin (numbered g) (start_in g number main.body fuel)) ns (Listing w)
    → (n : ℕ) (u : World (Local ℕ)) → numbers.leg (numbered g) (Listing w) n ≡ Some u
    → Law g number main fuel w n u

-- ---- leaves

abbrev pub Unlisted : ℕ → World (Local ℕ) → Path → Entry (Local ℕ) → Type 0
Unlisted n Both r x = ⊥
Unlisted n (Listing u) r x = (at_number u n ≡ Some (r, x)) × ((local_of x).state.listed ≡ [])

abbrev pub LeavesAreFound : Type 0
LeavesAreFound =
    OfLegs (λ g number main fuel w n u. (r : Path) (x : Entry (Local ℕ)) → Unlisted n u r x
    → LeafLeg g w n r (local_of x))

abbrev pub AdoptedIsLeaf : Type 0
AdoptedIsLeaf =
    (g : CodeRun) (w : Entries (Local ℕ)) (n : ℕ) (r : Path) (c : State ℕ) (end : End ℕ)
    → at_number w n ≡ Some (r, Plain (at_work c)) → c.listed ≡ [] → (a : Adopts g w n r end)
    → LeafLeg g w n r a.after × ((numbered g).next (at_work c) ≡ Goes a.after)

-- ---- recording

abbrev pub RecordedAtTheStart : Type 0
RecordedAtTheStart =
    (g : CodeRun) (number : ℕ) (main : IsMain g number) (fuel : ℕ)
    → IsRecordedSoFar g number main fuel (begin (numbered g) (start_in g number main.body fuel)) []

abbrev pub RecordedWithout : Type 0
RecordedWithout =
    OfLegs (λ g number main fuel w n u.
    ((r : Path) (l : Local ℕ) → LeafLeg g w n r l → ⊥)
    → (es : List Known) → RecordedSoFar g number main fuel w es → IsRecordedSoFar g number main fuel u es)

abbrev pub RecordedWith : Type 0
RecordedWith =
    OfLegs (λ g number main fuel w n u.
    (r : Path) (l : Local ℕ) → LeafLeg g w n r l → (e : Known) → IsEntry g number main fuel e → e.path ≡ r
    → (es : List Known) → RecordedSoFar g number main fuel w es → IsRecordedSoFar g number main fuel u (es ++ e ∷ []))

abbrev pub RecordedAtTheEnd : Type 0
RecordedAtTheEnd =
    OfWorlds (λ g number main fuel w.
    numbers.IsOver (numbered g) (start_in g number main.body fuel) w
    → (es : List Known) → IsRecordedSoFar g number main fuel w es
    → HasMemo g number main fuel (none_in_twice w es))

-- ---- counting

abbrev pub CountedAtTheStart : Type 0
CountedAtTheStart =
    (g : CodeRun) (number : ℕ) (main : IsMain g number) (fuel : ℕ) (es : List Known)
    → IsCountedSoFar g number main fuel es (begin (numbered g) (start_in g number main.body fuel)) []

abbrev pub CountedWithout : Type 0
CountedWithout =
    OfLegs (λ g number main fuel w n u.
    (es : List Known) → ((r : Path) (l : Local ℕ) → LeafLeg g w n r l → Refused g number main fuel es r)
    → (paths : List Path) → CountedSoFar g number main fuel es w paths → IsCountedSoFar g number main fuel es u paths)

abbrev pub CountedWith : Type 0
CountedWith =
    OfLegs (λ g number main fuel w n u.
    (r : Path) (l : Local ℕ) → LeafLeg g w n r l → (es : List Known) → HasValid g number main fuel es r
    → (paths : List Path) → CountedSoFar g number main fuel es w paths
    → IsCountedSoFar g number main fuel es u (paths ++ r ∷ []))

abbrev pub CountedAtTheEnd : Type 0
CountedAtTheEnd =
    OfWorlds (λ g number main fuel w.
    numbers.IsOver (numbered g) (start_in g number main.body fuel) w
    → (es : List Known) (paths : List Path) → IsCountedSoFar g number main fuel es w paths
    → HasReused g number main fuel es (length (none_in_twice w paths)))
