-- What a leg leaves as it was.
--   StaysOrIsJoined   what a table had of a revision stays, or the revision is joined, and what it
--                     left is kept
--   OthersStay        so it is of each revision but this one
--   IsSame            a table with the same of each revision
--   IsSameBut         of each but this one
--   Touches           what a leg that came out so leaves of the table: where there is no leg, each but
--                     a revision that was found to wait
--   TouchesJoining    of one that came to a join
--   TouchesIn         what it leaves of a world; of Twice, and after it, nothing is said
use Rattle.std.specs.Prelude.{ℕ, ◌≡◌, ◌≢◌, ◌⊎◌, List, Option, Some}
use Rattle.revision_machine.specs.Numbered.{at_number}
use Rattle.version_map.specs.declared.end.EndValue.{EndValue}
use Rattle.code_world.specs.declared.answer.LegAnswer.{LegAnswer}
use Rattle.code_world.specs.declared.answer.LegAnswer.TheVariants as answer
use Rattle.code_world.specs.declared.slot.WorldSlot.{WorldSlot}
use Rattle.code_world.specs.declared.slot.WorldSlot.TheVariants as slot
use Rattle.code_world.specs.declared.table.Table.{Table}
use Rattle.code_world.specs.declared.world.World as rust
use Rattle.code_world.specs.declared.world.World.TheVariants as world

abbrev pub StaysOrIsJoined : WorldSlot → Option WorldSlot → Type 0
StaysOrIsJoined s o =
    (o ≡ Some s) ⊎ ((v : EndValue) × (s ≡ slot.Ended v) × (o ≡ Some (slot.Joined v)))

abbrev pub OthersStay : List WorldSlot → ℕ → List WorldSlot → Type 0
OthersStay ss n ss' =
    (m : ℕ) (s : WorldSlot) → m ≢ n → at_number ss m ≡ Some s → StaysOrIsJoined s (at_number ss' m)

abbrev pub IsSame : Table → Table → Type 0
IsSame t t' = (t'.slots.items ≡ t.slots.items) × (t'.births.items ≡ t.births.items)

abbrev pub IsSameBut : Table → ℕ → Table → Type 0
IsSameBut t n t' =
    ((m : ℕ) → m ≢ n → at_number t'.slots.items m ≡ at_number t.slots.items m)
    × (t'.births.items ≡ t.births.items)

abbrev pub Touches : Table → ℕ → LegAnswer → Table → Type 0
Touches t n (answer.Waits on) t' = IsSameBut t n t'
Touches t n answer.NoSuch t' = IsSame t t'
Touches t n answer.Over t' = IsSame t t'
Touches t n _ t' = OthersStay t.slots.items n t'.slots.items

-- it goes on, has trapped, waits or leads to Twice
abbrev pub TouchesJoining : Table → ℕ → LegAnswer → Table → Type 0
TouchesJoining t n (answer.Joined on) t' = OthersStay t.slots.items n t'.slots.items
TouchesJoining t n answer.Trapped t' = OthersStay t.slots.items n t'.slots.items
TouchesJoining t n (answer.Waits on) t' = IsSameBut t n t'
TouchesJoining t n answer.Twice t' = OthersStay t.slots.items n t'.slots.items
TouchesJoining t n _ t' = ⊥

abbrev pub TouchesIn : rust.World → ℕ → LegAnswer → rust.World → Type 0
TouchesIn (world.Live t) n a (world.Live t') = Touches t n a t'
TouchesIn (world.Live t) n a world.Twice = Unit {0}
TouchesIn world.Twice n a v = Unit {0}
