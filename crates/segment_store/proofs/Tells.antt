-- What a hold tells of its last collapse.
use Rattle.std.proofs.Common.{◌≡◌, ℕ, ◌<◌, List, ◌∷◌, length, ap, sym, ◌∙◌, refl}
use Rattle.version_map.specs.declared.snapshot.Collapsed.{Collapsed}
use Rattle.version_map.specs.declared.snapshot.Collapsed.TheVariants as collapsed
use Rattle.segment_store.specs.Places.{view}
use Rattle.segment_store.specs.Entry.{Look}
use Rattle.segment_store.specs.declared.board.SegmentView.{SegmentView}
use Rattle.segment_store.specs.declared.store.Hold.{Hold}
use Rattle.segment_store.specs.Store.{first_of, notes, pops, sees}
use Rattle.segment_store.specs.Names.{IsSameHold, Told}

abbrev looked_at : ℕ → ℕ → List Look → List Look
looked_at c n before = record { segment = c; count = n } ∷ before

-- what it has found and done stays
pub still_told : (h k : Hold) → view k.seat ≡ view h.seat → k.first ≡ h.first → k.depth ≡ h.depth
    → (c : Collapsed) → Told h c → Told k c
still_told h k me first depth collapsed.Took t =
    (t.0, t.1, ap (λ (m : SegmentView). m.did) me ∙ t.2)
still_told h k me first depth (collapsed.Kept n) t = (
  t.0,
  (
    t.1.0,
    ap (λ (m : SegmentView). m.log) me ∙ t.1.1
        ∙ ap (λ (c : ℕ). looked_at c n t.1.0) (sym first),
  ),
)
still_told h k me first depth collapsed.Base t = depth ∙ t

pub kept_told : (h k : Hold) (n : ℕ) → 1 < n → view k.seat ≡ notes (view h.seat) h.first n
    → k.first ≡ h.first → Told k (collapsed.Kept n)
kept_told h k n more is first = (
  more,
  (
    (view h.seat).log,
    ap (λ (v : SegmentView). v.log) is
        ∙ ap (λ (c : ℕ). looked_at c n (view h.seat).log) (sym first),
  ),
)

pub took_told : (h k : Hold) → view k.seat ≡ pops (sees (view h.seat)) → Told k collapsed.Took
took_told h k is = (first_of (view h.seat).chain, (view h.seat).did, ap (λ (v : SegmentView). v.did) is)

-- holds with one chain have one depth
pub same_depth : (h k : Hold) → IsSameHold h k → k.depth ≡ h.depth
same_depth h k same = k.rests.deep ∙ ap length same.0 ∙ sym h.rests.deep

-- what a collapse leaves tells its answer
pub told_after : (h k : Hold) (r : Collapsed)
    → (r ≡ collapsed.Took → view k.seat ≡ pops (sees (view h.seat)))
    → ((n : ℕ) → r ≡ collapsed.Kept n
    → (1 < n) × (view k.seat ≡ notes (view h.seat) h.first n) × (k.first ≡ h.first))
    → (r ≡ collapsed.Base → k.depth ≡ 0) → Told k r
told_after h k collapsed.Took took kept bottom = took_told h k (took refl)
told_after h k (collapsed.Kept n) took kept bottom = let e = kept n refl in
    kept_told h k n e.0 e.1 e.2
told_after h k collapsed.Base took kept bottom = bottom refl
