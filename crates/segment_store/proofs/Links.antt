-- A segment of a seat's chain, as a step on one of its words asks for it.
use Rattle.std.proofs.Common.{◌≡◌, ℕ, ◌<◌, refl, sym, subst, inl}
use Rattle.segment_store.specs.Entry.{Entry}
use Rattle.segment_store.specs.declared.store.Store.{Store}
use Rattle.segment_store.specs.Base.{Whole}
use Rattle.segment_store.specs.Places.{Place, view}
use Rattle.segment_store.specs.Names.{IsSegmentIn, IsLinkIn, RestsIn}
use Rattle.segment_store.specs.Store.{Has}
use Rattle.segment_store.proofs.ChainWalks.{Top}
use Rattle.segment_store.proofs.Pops.{top}

pub link_in : (s : Store) (seat : Place) (c : ℕ) (e : Entry) → c ≡ e.seg
    → Whole s.words s.stride s.masks e → Has e (view seat).chain → IsLinkIn s seat c
link_in s seat c e is whole has = (subst (IsSegmentIn s) (sym is) whole.segment, (e, has, sym is))

-- for a seat with the same chain
pub link_same : (s : Store) (seat new : Place) (c : ℕ) → (view new).chain ≡ (view seat).chain
    → IsLinkIn s seat c → IsLinkIn s new c
link_same s seat new c same link =
    (link.0, (link.1.0, subst (Has link.1.0) (sym same) link.1.1, link.1.2))

pub top_link : (s : Store) (seat : Place) (c : ℕ) → Top s.words s.stride s.masks c (view seat).chain
    → IsLinkIn s seat c
top_link s seat c t = link_in s seat c t.e t.seg t.whole (subst (Has t.e) (sym t.is) (inl refl))

-- the first segment of a seat that rests
pub first_link : (s : Store) (seat : Place) (first depth : ℕ) → RestsIn s first depth (view seat)
    → 0 < first → IsLinkIn s seat first
first_link s seat first depth r some = top_link s seat first
    (top s.words s.stride s.masks first depth (view seat) r some)
