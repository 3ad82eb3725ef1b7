-- What one thread works with, over a store of 70 locations.
use Rattle.std.specs.Prelude.{◌≡◌, vec_len}
use Rattle.version_map.specs.declared.delta.Delta.{Delta}
use Rattle.version_map.specs.Deltas.{locations}
use Rattle.segment_store.specs.declared.store.Hold.{Hold}
use Rattle.segment_store.specs.declared.store.Spent.{Spent}
use Rattle.segment_store.specs.declared.store.Store.{Store}
use Rattle.segment_store.specs.Names.{IsOf, IsSeatOf}

-- a hold, the delta over it and what was gathered, all of one store
abbrev pub IsPart : Store → Hold → Delta → Spent → Type 0
IsPart s h d all = IsOf s h × IsSeatOf s all.seat × (locations d ≡ 70) × (vec_len s.initial ≡ 70)
