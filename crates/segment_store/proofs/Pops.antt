-- What a collapse leaves.
use Rattle.std.proofs.Common.{◌≡◌, ℕ, ◌+◌, ◌-◌, ◌<◌, List, [], ◌∷◌, slice_index, length, sym}
use Rattle.std.proofs.Common.{refl, ap, ◌∙◌, subst, arith, inl}
use Rattle.version_map.specs.declared.delta.Delta.{Delta}
use Rattle.version_map.specs.Deltas.{at}
use Rattle.version_map.specs.Overlay.{under}
use Rattle.segment_store.specs.Entry.{Entry}
use Rattle.segment_store.specs.declared.board.SegmentView.{SegmentView}
use Rattle.segment_store.specs.Store.{first_of, rest_of, pops, sees, Has}
use Rattle.segment_store.specs.Base.{word_of, value, Whole, Sound, Rests, IsTaken, Popped}
use Rattle.segment_store.proofs.ChainWalks.{Top, top_of, sound, all_whole, bare_rest}
use Rattle.segment_store.proofs.Taken.{took_head}

some_entry : (es : List Entry) → 0 < first_of es → 0 < length es
some_entry [] h = h
some_entry (e ∷ es) h = omega arith

pub top : (words stride masks first depth : ℕ) (v : SegmentView) → Rests words stride masks first depth v
    → 0 < first → Top words stride masks first v.chain
top words stride masks first depth v r h = let head = r.head in
    let some = some_entry v.chain (omega arith) in
    top_of words stride masks first v.chain r.head (sound words stride masks v.chain r.whole) some

empty_at : (words stride masks : ℕ) (chain : List Entry) → Sound words stride masks chain
    → first_of chain ≡ 0 → length chain ≡ 0
empty_at words stride masks [] s e = refl
empty_at words stride masks (x ∷ xs) s e = let p = s.0.segment.0 in absurd (omega arith)

pub empty : {words stride masks first depth : ℕ} {v : SegmentView} → Rests words stride masks first depth v
    → first ≡ 0 → depth ≡ 0
empty {words = words} {stride = stride} {masks = masks} {v = v} r e = r.deep
    ∙ empty_at words stride masks v.chain (sound words stride masks v.chain r.whole)
    (sym r.head ∙ e)

-- where there is no first segment, the value is the root's
pub bare_value : (root : List ℕ) (words stride masks first depth : ℕ) (v : SegmentView) (l : ℕ)
    → Rests words stride masks first depth v → first ≡ 0
    → value masks root v.chain l ≡ slice_index root l
bare_value root words stride masks first depth v l r e = bare_rest masks root v.chain l
    (sym r.deep ∙ empty r e)

pub popped : (root : List ℕ) (words stride masks first up depth : ℕ) (old new : Delta) (v : SegmentView)
    (r : Rests words stride masks first depth v) (h : 0 < first)
    → ((e : Entry) (more : List Entry) → v.chain ≡ e ∷ more → first ≡ e.seg
    → Whole words stride masks e → up ≡ word_of e 1)
    → ((l : ℕ) → 2 + masks + l < stride
    → IsTaken words stride masks first l v.chain (at old l) (at new l))
    → Popped root words stride masks up depth old new v (pops (sees v))
popped root words stride masks first up depth old new v r h word took = let t =
    top words stride masks first depth v r h in
    let tail : rest_of v.chain ≡ t.more = ap rest_of t.is in
    let len : depth ≡ length (t.e ∷ t.more) = r.deep ∙ ap (λ (l : List Entry). length l) t.is in
    record {
      rests = record {
        single = r.single;
        not_alone = refl;
        not_building = r.not_building;
        none_left = r.none_left;
        one_hold = r.one_hold;
        head = word t.e t.more t.is t.seg t.whole ∙ (t.up ∙ ap first_of (sym tail));
        deep = (let q : depth - 1 ≡ length t.more = omega arith in q)
            ∙ ap (λ (l : List Entry). length l) (sym tail);
        whole = all_whole words stride masks (rest_of v.chain)
            (subst (Sound words stride masks) (sym tail) t.sounds);
      };
      some_depth = omega arith;
      view = refl;
      values = λ e more is l lt. took l lt e (subst (Has e) (sym is) (inl refl))
          (r.head ∙ ap first_of is) (r.whole e [] more is).0;
      base = λ l lt. let has : Has t.e v.chain = subst (Has t.e) (sym t.is) (inl refl) in
          ap (λ (es : List Entry). under new (value masks root es) l) tail
          ∙ (took_head masks root t.e t.more old new l (took l lt t.e has t.seg t.whole)
          ∙ ap (λ (es : List Entry). under old (value masks root es) l) (sym t.is));
    }
