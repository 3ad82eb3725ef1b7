-- The rule of the table: what the words and all views are to each other and to the pure core.
--   Fit              a segment has room for its mask words, and these have a bit for each location
--   Traced           words and views show the core to which the steps that the seats noted lead
--   Rule             all that holds between any two atomic steps
--   Reaches          what Rule says of the core alone
--   BasesTie         the base of a seat's chain is that of the core
use Rattle.std.specs.Prelude.{◌≡◌, ℕ, ◌+◌, ◌-◌, ◌/◌, ◌<◌, ◌≤◌, List, [], length, slice_index}
use mathlib.Core.Option.{some}
use lib.ListN.{get_elem?}
use Rattle.atomic_table.specs.Table.{State}
use Rattle.seg_core.specs.Core.{Core, Has, base_of}
use Rattle.seg_core.specs.Steps.{CoreStep, Runs, Reached, empty}
use Rattle.segment_store.specs.declared.board.SegmentView.{SegmentView}
use Rattle.segment_store.specs.Store as st
use Rattle.segment_store.specs.Act.{acts_of}
use Rattle.segment_store.specs.Base.{Sound, value}
use Rattle.segment_store.specs.Shown.{Shown, Shows}

abbrev pub St : Type 0
St = State (Unit {0}) SegmentView

abbrev pub Fit : ℕ → ℕ → Type 0
Fit stride masks = (2 + masks ≤ stride) × ((l : ℕ) → 2 + masks + l < stride → l / 64 < masks)

module _ (words stride masks : ℕ) where
  -- the steps lead from the empty core to one that the words and views show, for any number of
  -- holders that suffices; the holders that are no seat yet have no reference
  abbrev pub Led : List ℕ → List SegmentView → List CoreStep → ℕ → Type 0
  Led ws views steps holders = (k : Core)
      × Runs (empty words holders (stride - (2 + masks))) steps k
      × Shown words stride masks ws views k
      × ((h : ℕ) → length views ≤ h → h < holders → Has k h [])

  pub record Traced (ws : List ℕ) (views : List SegmentView) : Type 0 where
    -- the steps of all seats, in the order in which they were made, the latest first
    pub steps : List CoreStep
    pub led : (holders : ℕ) → length views ≤ holders → Led ws views steps holders
    -- each seat has noted its own, until it is spent
    pub own : (i : ℕ) (v : SegmentView) → get_elem? views i ≡ some v → 0 < v.holds
        → acts_of i steps ≡ v.did
    pub fresh : (i : ℕ) → length views ≤ i → acts_of i steps ≡ []

  pub record Rule (s : St) : Type 0 where
    pub kept : st.Kept words stride s
    pub fit : Fit stride masks
    pub traced : Traced s.words s.views

  abbrev pub Reaches : Type 0
  Reaches = (s : St) → Rule s → (k : Core) × Reached k × Shows words stride masks s k

  abbrev pub BasesTie : Type 0
  BasesTie = (s : St) (k : Core) → Rule s → Shows words stride masks s k
      → (id : ℕ) (v : SegmentView) → get_elem? s.views id ≡ some v → Sound words stride masks v.chain
      → (root : List ℕ) (n l : ℕ) → length v.chain ≤ n → 2 + masks + l < stride
      → base_of n (slice_index root) k.segs (st.first_of v.chain) l ≡ value masks root v.chain l
