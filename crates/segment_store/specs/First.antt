-- What holds of a store while the first hold is the only one.
use Rattle.std.specs.Prelude.{◌≡◌, [], ◌∷◌}
use Rattle.atomic_table.specs.Table.{State}
use Rattle.segment_store.specs.Places.{view}
use Rattle.segment_store.specs.declared.board.SegmentView.{SegmentView}
use Rattle.segment_store.specs.declared.store.Store.{Store}
use Rattle.segment_store.specs.declared.store.Hold.{Hold}
use Rattle.segment_store.specs.Rule.{Rule}
use Rattle.segment_store.specs.Live.{live_segments}

-- in each state in which its seat is the only one, no segment has a count
abbrev pub AreFreeAtFirst : Store → Hold → Type 0
AreFreeAtFirst s h = (now : State (Unit {0}) SegmentView) → Rule s.words s.stride s.masks now
    → now.views ≡ view h.seat ∷ [] → live_segments s.stride now.words s.segments ≡ 0
