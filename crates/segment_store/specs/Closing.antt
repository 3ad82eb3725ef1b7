-- What the close of a store counts.
--   IsEnd        a state meets the store's rule, and the seat that gathered has its view in it
--   AreLast      the words are those of such a state
--   made         how many holds the views of a state stand for, with those that were counted and not
--                made
--   IsCounted    the answer of `close`, by the last words; of each state that can have them it says
--                how many holds are out
use Rattle.std.specs.Prelude.{◌≡◌, ℕ, ◌+◌, ◌-◌, ◌%◌, ◌<◌, ◌≤◌, ◌^◌, List}
use mathlib.Core.Option.{some}
use lib.ListN.{get_elem?}
use Rattle.seg_core.specs.Core.{total}
use Rattle.segment_store.specs.Places.{view, number}
use Rattle.segment_store.specs.declared.store.Closed.{Closed}
use Rattle.segment_store.specs.declared.store.Spent.{Spent}
use Rattle.segment_store.specs.declared.store.Store.{Store}
use Rattle.segment_store.specs.Live.{live_segments}
use Rattle.segment_store.specs.Names.{gathered}
use Rattle.segment_store.specs.Rule.{Rule, St}
use Rattle.segment_store.specs.Store.{held}

pub record IsEnd (s : Store) (all : Spent) (now : St) : Type 0 where
  pub rule : Rule s.words s.stride s.masks now
  pub seat : get_elem? now.views (number all.seat) ≡ some (view all.seat)

abbrev pub AreLast : Store → Spent → List ℕ → Type 0
AreLast s all ws = (now : St) × IsEnd s all now × (now.words ≡ ws)

abbrev pub made : St → ℕ
made now = total held now.views

-- modulo 2^64 the holds that were made and not gathered
abbrev pub out_of : ℕ → ℕ → ℕ
out_of made gathered = (made + 2 ^ 64 - gathered % 2 ^ 64) % 2 ^ 64

-- in the state, `out` is modulo 2^64 the holds of all views that were not gathered; where all views
-- have fewer than 2^64 it is those, and with none out no segment has a count
pub record IsOut (all : Spent) (c : Closed) (now : St) : Type 0 where
  pub out : c.out ≡ out_of (made now) (gathered all)
  pub few : made now < 2 ^ 64 → (gathered all ≤ made now) × (c.out ≡ made now - gathered all)
      × (c.out ≡ 0 → c.live ≡ 0)

pub record IsCounted (s : Store) (all : Spent) (c : Closed) : Type 0 where
  pub words : List ℕ
  pub last : AreLast s all words
  pub live : c.live ≡ live_segments s.stride words s.segments
  pub out : (now : St) → IsEnd s all now → now.words ≡ words → IsOut all c now
