-- Holds of one base.
use Rattle.std.proofs.Common.{◌≡◌, ◌<◌, ℕ, List, ap, ◌∙◌, Option, None, vec_len}
use Rattle.std.specs.declared.vec.Vec.{Vec}
use Rattle.std.specs.declared.alloc.Global.{Global}
use Rattle.version_map.specs.declared.delta.Delta.{Delta}
use Rattle.version_map.specs.Deltas.{at}
use Rattle.version_map.specs.Overlay.{word_or, under}
use Rattle.segment_store.specs.Places.{view}
use Rattle.segment_store.specs.Entry.{Entry}
use Rattle.segment_store.specs.declared.store.Store.{Store}
use Rattle.segment_store.specs.declared.store.Hold.{Hold}
use Rattle.segment_store.specs.Base.{value}
use Rattle.segment_store.specs.Own.{root_in}
use Rattle.segment_store.specs.Names.{IsOf, IsSameHold, IsSameBase, base}

abbrev pub Still : Store → Hold → Hold → Type 0
Still s h k = IsOf s k × IsSameHold h k × ((view k.seat).log ≡ (view h.seat).log)

pub same_base : (s : Store) (h k : Hold) (l : ℕ) → IsSameHold h k → base s k l ≡ base s h l
same_base s h k l same = ap (λ (es : List Entry). value s.masks (root_in s.initial k.own) es l) same.0
    ∙ ap (λ (o : Option (Vec ℕ Global)). value s.masks (root_in s.initial o) (view h.seat).chain l) same.1

pub same_under : (s : Store) (d : Delta) (h k : Hold) (l : ℕ) → IsSameHold h k
    → under d (base s k) l ≡ under d (base s h) l
same_under s d h k l same = ap (λ (b : ℕ). word_or b (at d l)) (same_base s h k l same)

pub based_under : (s : Store) (d : Delta) (h k : Hold) (l : ℕ) → l < vec_len s.initial
    → IsSameBase s h k → under d (base s k) l ≡ under d (base s h) l
based_under s d h k l lt same = ap (λ (b : ℕ). word_or b (at d l)) (same l lt)

pub none_under : (s : Store) (d : Delta) (h : Hold) (l : ℕ) → at d l ≡ None
    → under d (base s h) l ≡ base s h l
none_under s d h l none = ap (word_or (base s h l)) none
