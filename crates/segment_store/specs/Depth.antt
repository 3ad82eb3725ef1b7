-- Which segments are in chains, and how long a chain can be.
use Rattle.std.specs.Prelude.{◌≡◌, ◌≢◌, ℕ, ◌+◌, ◌*◌, ◌≤◌, length, slice_index}
use mathlib.Core.Option.{some}
use lib.ListN.{get_elem?}
use Rattle.atomic_table.specs.Table.{State}
use Rattle.segment_store.specs.declared.board.SegmentView.{SegmentView}
use Rattle.segment_store.specs.Entry.{Entry}
use Rattle.segment_store.specs.Store.{building, IsSegment, Has, Kept}

-- a chain has at most as many segments as the store
abbrev pub IsDepthBound : Type 0
IsDepthBound = (words stride segments : ℕ) (s : State (Unit {0}) SegmentView) → Kept words stride s
    → words ≡ (segments + 1) * stride → (i : ℕ) (v : SegmentView) → get_elem? s.views i ≡ some v
    → length v.chain ≤ segments

-- each segment with a count that is not being built is in the chain of some seat
abbrev pub LiveIsHeld : Type 0
LiveIsHeld = (words stride : ℕ) (s : State (Unit {0}) SegmentView) → Kept words stride s → (c : ℕ)
    → IsSegment words stride c → slice_index s.words c ≢ 0 → slice_index s.words c ≢ building
    → (id : ℕ) × (v : SegmentView) × (get_elem? s.views id ≡ some v)
    × (e : Entry) × Has e v.chain × (e.seg ≡ c)
