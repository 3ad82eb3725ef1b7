-- What a fork by a new segment leaves.
use Rattle.std.proofs.Common.{◌≡◌, ◌≢◌, ℕ, ◌+◌, ◌-◌, ◌/◌, ◌%◌, ◌<◌, ◌≤◌, Bool, cond, List, ◌∷◌}
use Rattle.std.proofs.Common.{slice_index, sym, refl, ap, ◌∙◌, subst, arith, eq-eqb, ne_eqb, Option}
use Rattle.std.proofs.Common.{None, Some}
use Rattle.std.specs.Int.{bit_at}
use mathlib.Core.Option as m
use mathlib.Core.Logic.{dite}
use native.Mathlib.Decide.{ℕ_discrete}
use Rattle.version_map.specs.declared.delta.Delta.{Delta}
use Rattle.version_map.specs.Masks.{bit_in}
use Rattle.version_map.specs.Deltas.{at, mask_of}
use Rattle.segment_store.specs.Entry.{Put, Entry, Look}
use Rattle.segment_store.specs.declared.board.SegmentView.{SegmentView}
use Rattle.segment_store.specs.Store.{first_of, look, IsSegment, claims, publishes, counts}
use Rattle.segment_store.specs.Store.{hands_left, hands_right}
use Rattle.version_map.specs.Overlay.{word_or, under}
use Rattle.segment_store.specs.Base.{logged, known_or, word_of, bit_of, value, Known, Whole, Sound}
use Rattle.segment_store.specs.Base.{Rests, IsLaid, filled, Forked}
use Rattle.std.specs.declared.vec.Vec.{Vec}
use Rattle.std.specs.declared.alloc.Global.{Global}
use Rattle.segment_store.specs.Own.{root_in, IsOwn, IsComplete}
use Rattle.segment_store.proofs.Pops.{bare_value, empty}
use Rattle.segment_store.proofs.ChainWalks.{sound, all_whole}

-- the view after the fork
abbrev pub forks : SegmentView → ℕ → List Put → SegmentView
forks v segment made = hands_left (counts (publishes (filled (claims v segment) made)))

known : (e : Entry) (i w : ℕ) → look e.body (e.seg + i) ≡ m.some w → Known e i
known e i w is = is ∙ ap m.some (sym (ap known_or is))

module _ (root : List ℕ) (words stride masks segment first depth : ℕ) (d : Delta) (v : SegmentView)
    (made : List Put) (h : IsLaid segment first stride masks d made) (rows : (l : ℕ)
    → 2 + masks + l < stride → l / 64 < masks) where
  abbrev e : Entry
  e = record { seg = segment; up = first_of v.chain; body = made }

  -- the segment's mask is the delta's
  bit_same : (l : ℕ) → 2 + masks + l < stride → bit_of e l ≡ bit_in (mask_of d) l
  bit_same l hi = ap (λ (o : m.Option ℕ). bit_at (known_or o) (l % 64))
      (h.mask_is (l / 64) (rows l hi))

  abbrev stored : ℕ → ℕ
  stored l = slice_index d.cells.items l

  at_set : (l : ℕ) → bit_in (mask_of d) l ≡ 1 → at d l ≡ Some (stored l)
  at_set l is = ap (λ (b : Bool). cond b (Some (stored l)) None)
      (eq-eqb (bit_in (mask_of d) l) 1 is)

  at_unset : (l : ℕ) → bit_in (mask_of d) l ≢ 1 → at d l ≡ None
  at_unset l ne = ap (λ (b : Bool). cond b (Some (stored l)) None)
      (ne_eqb (bit_in (mask_of d) l) 1 ne)

  value_laid : (l : ℕ) → 2 + masks + l < stride → bit_in (mask_of d) l ≡ 1
      → look made (segment + (2 + masks + l)) ≡ m.some (stored l)
  value_laid l hi is = h.value_is l (stored l) hi (at_set l is)

  head_known : 1 < stride → (i : ℕ) → 0 < i → i < 2 + masks → Known e i
  head_known big i lo hi = dite (ℕ_discrete i 1)
      (λ one. subst (Known e) (sym one) (known e 1 first h.parent_is))
      (λ ne. let is : 2 + (i - 2) ≡ i = omega arith in
      subst (Known e) is (known e (2 + (i - 2)) (slice_index (mask_of d) (i - 2))
      (h.mask_is (i - 2) (omega arith))))

  whole : 1 < stride → IsSegment words stride segment → segment + stride ≤ words
      → Whole words stride masks e
  whole big b room = record {
    segment = b;
    room = room;
    header = head_known big;
    values = λ l hi is. known e (2 + masks + l) (stored l)
        (value_laid l hi (sym (bit_same l hi) ∙ is));
  }

  pub base_is : (l : ℕ) → 2 + masks + l < stride
      → value masks root (e ∷ v.chain) l ≡ under d (value masks root v.chain) l
  base_is l hi = let base : ℕ = value masks root v.chain l in
      dite (ℕ_discrete (bit_in (mask_of d) l) 1)
      (λ is. ap (λ (b : Bool). cond b (word_of e (2 + masks + l)) base)
      (eq-eqb (bit_of e l) 1 (bit_same l hi ∙ is))
      ∙ (ap known_or (value_laid l hi is) ∙ ap (word_or base) (sym (at_set l is))))
      (λ ne. ap (λ (b : Bool). cond b (word_of e (2 + masks + l)) base)
      (ne_eqb (bit_of e l) 1 (λ q. ne (sym (bit_same l hi) ∙ q)))
      ∙ ap (word_or base) (sym (at_unset l ne)))

  pub forked : 1 < stride → Rests words stride masks first depth v → IsSegment words stride segment
      → segment + stride ≤ words
      → Forked root words stride masks segment depth d v (forks v segment made)
      (hands_right (counts (publishes (filled (claims v segment) made))))
  forked big r b room = let s : Sound words stride masks (e ∷ v.chain) = (
    whole big b room,
    ap known_or h.parent_is ∙ r.head,
    sound words stride masks v.chain r.whole,
  ) in
      let none_left = r.none_left in let deep = r.deep in record {
        parent_rests = record {
          single = refl;
          not_alone = refl;
          not_building = refl;
          none_left = omega arith;
          one_hold = r.one_hold;
          head = refl;
          deep = omega arith;
          whole = all_whole words stride masks (e ∷ v.chain) s;
        };
        child_rests = record {
          single = refl;
          not_alone = refl;
          not_building = refl;
          none_left = refl;
          one_hold = refl;
          head = refl;
          deep = omega arith;
          whole = all_whole words stride masks (e ∷ v.chain) s;
        };
        one_chain = refl;
        base = base_is;
      }

pub unlogged : (root : List ℕ) {words stride masks segment depth : ℕ} {d : Delta} (v : SegmentView)
    (log : List Look) {w child : SegmentView}
    → Forked root words stride masks segment depth d (logged v log) w child
    → Forked root words stride masks segment depth d v w child
unlogged root v log f =
    record {
      parent_rests = f.parent_rests;
      child_rests = f.child_rests;
      one_chain = f.one_chain;
      base = f.base;
    }

-- the value under words of one's own
pub own_value : {words stride masks first depth : ℕ} {v : SegmentView} (initial ws : Vec ℕ Global)
    (own : Option (Vec ℕ Global)) (l : ℕ) → Rests words stride masks first depth v
    → IsOwn stride masks first own → own ≡ Some ws
    → value masks (root_in initial own) v.chain l ≡ slice_index ws.items l
own_value {words} {stride} {masks} {first} {depth} {v} initial ws own l r own_is e =
    bare_value (root_in initial own) words stride masks first depth v l r (own_is ws e).1
    ∙ ap (λ (o : Option (Vec ℕ Global)). slice_index (root_in initial o) l) e

-- a complete delta hides the root
pub completes : {words stride masks first depth : ℕ} (v : SegmentView) (initial : Vec ℕ Global)
    (own : Option (Vec ℕ Global)) (old new : Delta) (l : ℕ) → Rests words stride masks first depth v
    → IsOwn stride masks first own → IsComplete own old new → 2 + masks + l < stride
    → under new (value masks initial.items v.chain) l ≡ under old
    (value masks (root_in initial own) v.chain) l
completes {masks = masks} v initial None old new l r own_is done lt =
    ap (λ (d : Delta). under d (value masks initial.items v.chain) l) done.0
completes {words} {stride} {masks} {first} {depth} v initial (Some ws) old new l r own_is done lt = let o =
    own_is ws refl in let o0 = o.0 in
    ap (word_or (value masks initial.items v.chain l)) (done.1 l (omega arith))
    ∙ ap (λ (b : ℕ). word_or b (at old l))
    (sym (bare_value ws.items words stride masks first depth v l r o.1))

-- below a chain are the store's words
pub store_root : {words stride masks first depth : ℕ} (v : SegmentView) (initial : Vec ℕ Global)
    (own : Option (Vec ℕ Global)) → Rests words stride masks first depth v
    → IsOwn stride masks first own → depth ≢ 0 → root_in initial own ≡ initial.items
store_root v initial None r own_is some = refl
store_root v initial (Some ws) r own_is some =
    absurd (some (empty r (own_is ws refl).1))

-- a hold with a chain has no words of its own
pub own_none : {words stride masks first depth : ℕ} (v : SegmentView) (own : Option (Vec ℕ Global))
    → Rests words stride masks first depth v → IsOwn stride masks first own → depth ≢ 0
    → own ≡ None
own_none v None r own_is some = refl
own_none v (Some ws) r own_is some =
    absurd (some (empty r (own_is ws refl).1))
