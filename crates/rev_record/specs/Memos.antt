-- Memos, and what a run that takes recorded ends over tells.
--   HasEntries   a memo has these entries, recorded with this code
--   IsMemoOf     it is the memo of the runs of this code with these inputs, this share and this fuel
--   Reuses       so many of their leaf revisions have a valid entry of these
--   kept_in, counted_in
--                what is kept and counted at the end, which is nothing where a revision was joined a second time
use Rattle.std.specs.Prelude.{ℕ, List, []}
use Rattle.rev_code.specs.declared.code.Code.{Code}
use Rattle.code_machine.specs.Local.{CodeRun}
use Rattle.code_machine.specs.Machines.{IsMain}
use Rattle.code_memos.specs.Leaf.{Known}
use Rattle.code_memos.specs.ByNumber.{HasMemo, HasReused}
use Rattle.code_world.specs.declared.world.World as rust
use Rattle.code_world.specs.declared.world.World.TheVariants as world
use Rattle.rev_record.specs.declared.entry.LeafEntry.{LeafEntry}
use Rattle.rev_record.specs.declared.memo.Memo.{Memo}
use Rattle.rev_record.specs.Entries.{AreKnown}

abbrev pub HasEntries : Code → Memo → List Known → Type 0
HasEntries code m es = AreKnown code m.entries.items es

pub record IsMemoOf (g : CodeRun) (fuel : ℕ) (m : Memo) : Type 0 where
  pub number : ℕ
  pub main : IsMain g number
  pub known : List Known
  pub entries : HasEntries g.code m known
  pub memo : HasMemo g number main fuel known

pub record Reuses (g : CodeRun) (fuel : ℕ) (es : List Known) (count : ℕ) : Type 0 where
  pub number : ℕ
  pub main : IsMain g number
  pub reused : HasReused g number main fuel es count

abbrev pub kept_in : rust.World → List LeafEntry → List LeafEntry
kept_in world.Twice ks = []
kept_in (world.Live t) ks = ks

abbrev pub counted_in : rust.World → ℕ → ℕ
counted_in world.Twice count = 0
counted_in (world.Live t) count = count
