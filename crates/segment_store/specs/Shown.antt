-- The core that the words and views show.
use Rattle.std.specs.Prelude.{◌≡◌, ℕ, ◌+◌, ◌/◌, ◌%◌, ◌<◌, ◌≤◌, List, [], ◌∷◌}
use Rattle.std.specs.Prelude.{slice_index, Option, None, Some, ◌⊎◌}
use Rattle.std.specs.Int.{bit_at}
use mathlib.Core.Option as m
use lib.ListN.{get_elem?}
use Rattle.atomic_table.specs.Table.{State}
use Rattle.version_map.specs.Masks.{chosen}
use Rattle.seg_core.specs.Applies.{copies}
use Rattle.seg_core.specs.Core.{Seg, free, building, live, Core, At, Has}
use Rattle.segment_store.specs.Entry.{Put, Entry}
use Rattle.segment_store.specs.declared.board.SegmentView.{SegmentView}
use Rattle.segment_store.specs.Store as st

abbrev pub list_in : List Entry → ℕ → List ℕ
list_in [] extra = []
list_in (e ∷ es) extra = e.seg ∷ copies extra e.seg

-- the references of a view
abbrev pub list_of : SegmentView → List ℕ
list_of v = list_in v.chain v.extra

abbrev pub std_option : m.Option ℕ → Option ℕ
std_option (m.some w) = Some w
std_option m.none = None

-- what was put for the location l, and what the words say of it
abbrev pub put_at : ℕ → ℕ → List Put → ℕ → Option ℕ
put_at masks c made l = std_option (st.look made (c + (2 + masks + l)))

abbrev pub worded : ℕ → List ℕ → ℕ → ℕ → Option ℕ
worded masks ws c l = chosen (bit_at (slice_index ws (c + (2 + l / 64))) (l % 64))
    (slice_index ws (c + (2 + masks + l)))

module _ (words stride masks : ℕ) where
  abbrev pub SegShown : List ℕ → List SegmentView → ℕ → Seg → Type 0
  SegShown ws views c free = slice_index ws c ≡ 0
  SegShown ws views c (building h d) = (slice_index ws c ≡ st.building)
      × ((v : SegmentView) × (get_elem? views h ≡ m.some v) × (v.build ≡ c)
      × ((l : ℕ) → 2 + masks + l < stride → d l ≡ put_at masks c v.made l))
  SegShown ws views c (live d p n) = (slice_index ws c ≡ n) × (0 < n) × (n ≤ 4294967296)
      × (slice_index ws (c + 1) ≡ p)
      × ((l : ℕ) → 2 + masks + l < stride → d l ≡ worded masks ws c l)

  pub record Shown (ws : List ℕ) (views : List SegmentView) (k : Core) : Type 0 where
    pub segs : (c : ℕ) → st.IsSegment words stride c → (x : Seg) × At k c x × SegShown ws views c x
    pub others : (c : ℕ) (x : Seg) → At k c x → st.IsSegment words stride c ⊎ (x ≡ free)
    pub lists : (i : ℕ) (v : SegmentView) → get_elem? views i ≡ m.some v → Has k i (list_of v)
    pub size : 2 + masks + k.locations ≡ stride

  abbrev pub Shows : State (Unit {0}) SegmentView → Core → Type 0
  Shows s k = Shown s.words s.views k
