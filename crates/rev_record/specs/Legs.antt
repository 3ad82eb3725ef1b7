-- Legs of a run that is recorded, and of one that takes recorded ends over.
--   IsFrom        a world that a legal schedule reaches from the start of `main` with this fuel
--   IsRecorded    and the entries so far
--   IsRepeated    and how many revisions had a valid entry so far
--   StandsFresh   a revision of a world before its first instruction, of which this is told
--   WasNoted      and its leg, of which this was noted and which came out so
--   is_leaf       whether a leg ended its revision by itself
--   HasKept       one entry more
--   IsTaken       a valid entry and the end that it gives, or that there is none
use Rattle.std.specs.Prelude.{◌≡◌, ◌≤◌, ◌<◌, ◌^◌, ℕ, Bool, true, false, List, [], ◌∷◌, ◌++◌, length, Option, Some, None}
use Rattle.rev_num.specs.Path.{Path}
use Rattle.rev_num.specs.Limits.{most_fuel}
use Rattle.rev_code.specs.State.{State}
use Rattle.version_map.specs.declared.end.EndValue.{EndValue}
use Rattle.version_map.specs.Deltas.{locations}
use Rattle.leg_run.specs.declared.revision.Meeting.{Meeting}
use Rattle.revision_machine.specs.Machine.{Plain}
use Rattle.revision_machine.specs.Numbered.{Entries, World, Listing, at_number, begin, Replays}
use Rattle.code_machine_laws.specs.LegReads.{leg_reads}
use Rattle.block_run.specs.declared.notes.ReadMarks.{ReadMarks}
use Rattle.leg_run.specs.Marks.{marks_of, HasMarked}
use Rattle.code_machine.specs.Local.{CodeRun, Local, at_work}
use Rattle.code_machine.specs.Machines.{numbered, IsMain, start_in}
use Rattle.code_memos.specs.Leaf.{Fresh, IsFresh, Known}
use Rattle.code_memos.specs.Memo.{IsEntry, HasValid}
use Rattle.code_memos.specs.ByNumber.{Refused}
use Rattle.code_world.specs.declared.answer.LegAnswer.{LegAnswer}
use Rattle.code_world.specs.declared.answer.LegAnswer.TheVariants as answer
use Rattle.code_world.specs.declared.freshness.FreshStart.{FreshStart}
use Rattle.code_world.specs.declared.noted.NotedLeg.{NotedLeg}
use Rattle.code_world.specs.declared.world.World as rust_world
use Rattle.code_world.specs.Adopted.{EndsSo}
use Rattle.code_world.specs.Answers.{LegAnswers}
use Rattle.code_world.specs.Beginnings.{IsBegun}
use Rattle.code_world.specs.Meetings.{HasNoted}
use Rattle.rev_record.specs.SoFar.{LeafLeg, IsRecordedSoFar, IsCountedSoFar}
use Rattle.rev_record.specs.declared.entry.LeafEntry.{LeafEntry}
use Rattle.rev_record.specs.Standing.{StandsFor}
use Rattle.rev_record.specs.Told.{IsBlank}
use Rattle.rev_record.specs.Entries.{AreKnown}

pub record IsFrom (g : CodeRun) (fuel : ℕ) (w : World (Local ℕ)) : Type 0 where
  pub few : fuel ≤ most_fuel
  pub number : ℕ
  pub main : IsMain g number
  pub schedule : List ℕ
  pub replays : Replays (numbered g) (begin (numbered g) (start_in g number main.body fuel)) schedule w

pub record IsRecorded (g : CodeRun) (fuel : ℕ) (w : World (Local ℕ)) (ks : List LeafEntry) : Type 0 where
  pub from : IsFrom g fuel w
  pub inputs : length g.inputs < 2 ^ 32
  pub known : List Known
  pub stand : AreKnown g.code ks known
  pub so_far : IsRecordedSoFar g from.number from.main fuel w known

-- no more revisions than legs
pub record IsRepeated (g : CodeRun) (fuel : ℕ) (es : List Known) (w : World (Local ℕ)) (ks : List LeafEntry) (count : ℕ)
    : Type 0 where
  pub from : IsFrom g fuel w
  pub stand : AreKnown g.code ks es
  pub taken : List Path
  pub many : length taken ≡ count
  pub few : count ≤ length from.schedule
  pub so_far : IsCountedSoFar g from.number from.main fuel es w taken

-- ---- a fresh revision

pub record StandsFresh (g : CodeRun) (w : Entries (Local ℕ)) (n : ℕ) (x : FreshStart) : Type 0 where
  pub path : Path
  pub state : State ℕ
  pub here : Fresh ℕ
  pub there : at_number w n ≡ Some (path, Plain (at_work state))
  pub fresh : IsFresh g.code here state
  pub begun : IsBegun here x

-- ---- recording

pub record WasNoted (g : CodeRun) (w : Entries (Local ℕ)) (n : ℕ) (x : FreshStart) (made : NotedLeg) (noted : ReadMarks)
    (v : rust_world.World)
    : Type 0 where
  pub start : StandsFresh g w n x
  pub rooms : locations noted.locations ≡ length x.base.items
  pub positions : locations noted.inputs ≡ length g.inputs
  pub blank : ReadMarks
  pub is_blank : IsBlank blank
  pub read : HasMarked blank noted (marks_of (leg_reads g start.state))
  pub answers : LegAnswers g (Listing w) n made.answer v
  pub meeting : HasNoted g w n made.answer made.meeting

-- not by a join
abbrev pub is_leaf : LegAnswer → Option Meeting → Bool
is_leaf answer.Ended None = true
is_leaf answer.Trapped None = true
is_leaf _ _ = false

pub record HasKept (g : CodeRun) (fuel : ℕ) (w : Entries (Local ℕ)) (n : ℕ) (old new : List LeafEntry)
    (from : IsFrom g fuel (Listing w)) : Type 0 where
  pub path : Path
  pub local : Local ℕ
  pub leaf : LeafLeg g w n path local
  pub known : Known
  pub entry : IsEntry g from.number from.main fuel known
  pub path_is : known.path ≡ path
  pub kept : LeafEntry
  pub stands : StandsFor kept known
  pub more : new ≡ old ++ kept ∷ []

-- ---- repeating

-- of the revision of this number, by these entries
abbrev pub IsTaken : (g : CodeRun) (fuel : ℕ) (es : List Known) (w : Entries (Local ℕ)) (n : ℕ)
    → IsFrom g fuel (Listing w) → Option EndValue → Type 0
IsTaken g fuel es w n from (Some v) =
    (r : Path) × (l : Local ℕ) × LeafLeg g w n r l × HasValid g from.number from.main fuel es r × EndsSo g w n v
IsTaken g fuel es w n from None =
    (r : Path) (l : Local ℕ) → LeafLeg g w n r l → Refused g from.number from.main fuel es r
