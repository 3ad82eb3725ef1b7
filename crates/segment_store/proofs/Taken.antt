-- A delta that takes the values of segments where it has none.
--   took_head    over the rest of a chain it reads as it read over the whole
--   Taking       the values of the segments above a tail are taken
--   taken_all    those of all segments are taken
use Rattle.std.proofs.Common.{◌≡◌, ◌≢◌, ◌/◌, ◌%◌, eq-eqb, ne_eqb, ℕ, ◌+◌, ◌<◌, Bool, true, false}
use Rattle.std.proofs.Common.{eqb, cond, List, ◌∷◌, slice_index, length, sym, refl, ap, ◌∙◌, subst}
use Rattle.std.proofs.Common.{Option, None, Some}
use Rattle.std.specs.Int.{bit_at}
use Rattle.segment_store.specs.Places.{Place, view}
use Rattle.version_map.specs.declared.delta.Delta.{Delta}
use Rattle.version_map.specs.Deltas.{at}
use Rattle.version_map.specs.Overlay.{word_or, under}
use Rattle.segment_store.specs.Entry.{Entry}
use Rattle.segment_store.specs.Store.{first_of, Has}
use Rattle.segment_store.specs.Same.{IsWord}
use Rattle.segment_store.specs.Base.{word_of, bit_of, value, Whole, Sound, absorbed, IsTaken}
use Rattle.segment_store.proofs.ChainWalks.{Tail, TopOf, entire, top_part, lower, bare_rest, chain_of}
use Rattle.segment_store.proofs.ChainWalks.{segment_word, bit_read}

joined : (b : Bool) (x base : ℕ) → word_or base (cond b (Some x) None) ≡ cond b x base
joined true x base = refl
joined false x base = refl

over : (masks : ℕ) (root : List ℕ) (e : Entry) (more : List Entry) (o : Option ℕ) (l : ℕ)
    → word_or (value masks root more l) (absorbed masks e o l)
    ≡ word_or (value masks root (e ∷ more) l) o
over masks root e more None l = joined (eqb (bit_of e l) 1) (word_of e (2 + masks + l))
    (value masks root more l)
over masks root e more (Some w) l = refl

pub took_head : (masks : ℕ) (root : List ℕ) (e : Entry) (more : List Entry) (old new : Delta)
    (l : ℕ) → at new l ≡ absorbed masks e (at old l) l
    → under new (value masks root more) l ≡ under old (value masks root (e ∷ more)) l
took_head masks root e more old new l took =
    ap (word_or (value masks root more l)) took ∙ over masks root e more (at old l) l

-- a segment with no value for the location
pub taken_none : (words stride masks segment l x : ℕ) (s : Place) (e : Entry)
    → Has e (view s).chain → segment ≡ e.seg → Whole words stride masks e
    → IsWord s (segment + (2 + l / 64)) x → l / 64 < masks → bit_at x (l % 64) ≢ 1
    → None ≡ absorbed masks e None l
taken_none words stride masks segment l x s e has seg whole word low ne =
    let bit = bit_read words stride masks segment l x s e has seg whole word low in
    sym (ap (λ (b : Bool). cond b (Some (word_of e (2 + masks + l))) None)
    (ne_eqb (bit_of e l) 1 (λ q. ne (bit ∙ q))))

pub taken_some : (words stride masks segment l x y : ℕ) (s t : Place) (e : Entry)
    → Has e (view s).chain → view t ≡ view s → segment ≡ e.seg → Whole words stride masks e
    → IsWord s (segment + (2 + l / 64)) x → IsWord t (segment + (2 + masks + l)) y → l / 64 < masks
    → 2 + masks + l < stride → bit_at x (l % 64) ≡ 1
    → Some y ≡ absorbed masks e None l
taken_some words stride masks segment l x y s t e has same seg whole word word' low inside set =
    let bit : bit_of e l ≡ 1 =
    sym (bit_read words stride masks segment l x s e has seg whole word low) ∙ set in
    let j : ℕ = 2 + masks + l in
    let got : y ≡ word_of e j = segment_word e t segment j y
    (subst (Has e) (sym (chain_of s t same)) has) seg word' (whole.values l inside bit) in
    ap Some got ∙ sym (ap (λ (b : Bool). cond b (Some (word_of e j)) None)
    (eq-eqb (bit_of e l) 1 bit))

pub record Taking (root : List ℕ) (words stride masks segment left : ℕ) (chain : List Entry)
    (old new : Delta) : Type 0 where
  pub tail : Tail words stride masks segment left chain
  pub same : (l : ℕ) → 2 + masks + l < stride
      → under new (value masks root tail.rest) l ≡ under old (value masks root chain) l

pub taking_starts : {root : List ℕ} {words stride masks segment left : ℕ} {chain : List Entry}
    {d : Delta} → segment ≡ first_of chain → left ≡ length chain → Sound words stride masks chain
    → Taking root words stride masks segment left chain d d
taking_starts {root} {words} {stride} {masks} {segment} {left} {chain} p q w =
    record { tail = entire words stride masks segment left chain p q w; same = λ l lt. refl }

-- the first segment of the tail is taken
pub takes : {root : List ℕ} {words stride masks segment left : ℕ} (next n : ℕ) {chain : List Entry}
    {old : Delta} (mid new : Delta) (g : Taking root words stride masks segment left chain old mid)
    (p : TopOf words stride masks segment left chain g.tail) → n + 1 ≡ left → next ≡ word_of p.e 1
    → ((l : ℕ) → 2 + masks + l < stride
    → IsTaken words stride masks segment l chain (at mid l) (at new l))
    → Taking root words stride masks next n chain old new
takes {root} {words} {stride} {masks} {segment} {left} next n {chain} mid new g p one is took = record {
  tail = lower words stride masks segment left next n chain g.tail p one (is ∙ p.up);
  same = λ l lt. took_head masks root p.e p.more mid new l
      (took l lt p.e (top_part g.tail p) p.seg p.whole)
      ∙ (ap (λ (es : List Entry). under mid (value masks root es) l) (sym p.is) ∙ g.same l lt);
}

pub taken_all : {root : List ℕ} {words stride masks segment left : ℕ} {chain : List Entry}
    {old new : Delta} → Taking root words stride masks segment left chain old new → left ≡ 0
    → (l : ℕ) → 2 + masks + l < stride
    → under new (slice_index root) l ≡ under old (value masks root chain) l
taken_all {root = root} {masks = masks} {new = new} g none l lt =
    ap (λ (b : ℕ). word_or b (at new l))
    (sym (bare_rest masks root g.tail.rest l (sym g.tail.many ∙ none))) ∙ g.same l lt
