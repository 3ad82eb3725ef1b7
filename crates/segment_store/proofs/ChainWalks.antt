-- A walk along a chain.
use Rattle.std.proofs.Common.{◌≡◌, ℕ, ◌+◌, ◌-◌, ◌/◌, ◌%◌, slice_index, ◌<◌, Bool, cond, List, []}
use Rattle.std.proofs.Common.{◌∷◌, ◌++◌, length, sym, refl, ap, ◌∙◌, subst, arith, inl, inr, ne_eqb}
use Rattle.std.proofs.Common.{eq-eqb, ◌≢◌}
use Rattle.segment_store.specs.Places.{Place, view, number, seat_name}
use Rattle.segment_store.specs.declared.board.SegmentView.{SegmentView}
use Rattle.segment_store.specs.Same.{IsWord, IsSameSeat, Becomes}
use Rattle.segment_store.specs.Entry.{Entry, Look}
use Rattle.segment_store.specs.Store.{look, first_of, rest_of, Has, pops, drops}
use Rattle.segment_store.specs.Base.{word_of, bit_of, value, Known, Whole, Sound, AllWhole, Rests}
use Rattle.segment_store.specs.Base.{logged}
use Rattle.std.specs.Int.{bit_at}
use Rattle.version_map.specs.Masks.{rows}
use Rattle.version_map.proofs.Bits.{rows_over}

-- the first segment of a chain
pub record Top (words stride masks first : ℕ) (chain : List Entry) : Type 0 where
  pub e : Entry
  pub more : List Entry
  pub is : chain ≡ e ∷ more
  pub seg : first ≡ e.seg
  pub whole : Whole words stride masks e
  pub up : word_of e 1 ≡ first_of more
  pub sounds : Sound words stride masks more

pub top_of : (words stride masks first : ℕ) (chain : List Entry) → first ≡ first_of chain
    → Sound words stride masks chain → 0 < length chain → Top words stride masks first chain
top_of words stride masks first [] is s h = absurd (omega arith)
top_of words stride masks first (e ∷ more) is s h = record {
  e = e;
  more = more;
  is = refl;
  seg = is;
  whole = s.0;
  up = s.1;
  sounds = s.2;
}

-- the rest of a chain, `left` segments long and from `at` on
pub record Tail (words stride masks at left : ℕ) (chain : List Entry) : Type 0 where
  pub rest : List Entry
  pub here : at ≡ first_of rest
  pub many : left ≡ length rest
  pub part : (e : Entry) → Has e rest → Has e chain
  pub sounds : Sound words stride masks rest

abbrev pub entire : (words stride masks at left : ℕ) (chain : List Entry) → at ≡ first_of chain
    → left ≡ length chain → Sound words stride masks chain → Tail words stride masks at left chain
entire words stride masks at left chain p q w =
    record { rest = chain; here = p; many = q; part = λ e h. h; sounds = w }

-- its first segment
abbrev pub TopOf : (words stride masks at left : ℕ) (chain : List Entry)
    → Tail words stride masks at left chain → Type 0
TopOf words stride masks at left chain t = Top words stride masks at t.rest

pub tail_top : {words stride masks at left : ℕ} {chain : List Entry}
    (t : Tail words stride masks at left chain) → 0 < left
    → TopOf words stride masks at left chain t
tail_top {words} {stride} {masks} {at} {left} t h = let many = t.many in
    top_of words stride masks at t.rest t.here t.sounds (omega arith)

pub top_part : {words stride masks at left : ℕ} {chain : List Entry}
    (t : Tail words stride masks at left chain) (p : TopOf words stride masks at left chain t)
    → Has p.e chain
top_part t p =
    t.part p.e (subst (Has p.e) (sym p.is) (inl refl))

-- what is left below it
abbrev pub lower : (words stride masks at left next n : ℕ) (chain : List Entry)
    (t : Tail words stride masks at left chain) (p : TopOf words stride masks at left chain t)
    → n + 1 ≡ left → next ≡ first_of p.more → Tail words stride masks next n chain
lower words stride masks at left next n chain t p one is = record {
  rest = p.more;
  here = is;
  many = (let many : left ≡ length (p.e ∷ p.more) = t.many ∙ ap length p.is in omega arith);
  part = λ x h. t.part x (subst (Has x) (sym p.is) (inr h));
  sounds = p.sounds;
}

-- the location l is read from the rest of the chain
pub record Going (root : List ℕ) (words stride masks l at left : ℕ) (chain : List Entry) : Type 0
  where
    pub tail : Tail words stride masks at left chain
    pub same : value masks root chain l ≡ value masks root tail.rest l

pub start : {root : List ℕ} {words stride masks l at left : ℕ} {chain : List Entry}
    → at ≡ first_of chain → left ≡ length chain → Sound words stride masks chain
    → Going root words stride masks l at left chain
start {root} {words} {stride} {masks} {l} {at} {left} {chain} p q w =
    record { tail = entire words stride masks at left chain p q w; same = refl }

-- at a segment of the rest: what a load of its word i finds
pub record At (root : List ℕ) (words stride masks l at left : ℕ) (chain : List Entry) : Type 0 where
  pub e : Entry
  pub seg : at ≡ e.seg
  pub has : Has e chain
  pub whole : Whole words stride masks e
  pub more : List Entry
  pub up : word_of e 1 ≡ first_of more
  pub go : (n next : ℕ) → n + 1 ≡ left → next ≡ first_of more → bit_of e l ≢ 1
      → Going root words stride masks l next n chain
  pub found : bit_of e l ≡ 1 → value masks root chain l ≡ word_of e (2 + masks + l)

pub visit : {root : List ℕ} {words stride masks l at left : ℕ} {chain : List Entry}
    → Going root words stride masks l at left chain → 0 < left
    → At root words stride masks l at left chain
visit {root} {words} {stride} {masks} {l} {at} {left} {chain} g h = let t = g.tail in
    let p = tail_top t h in
    let here : value masks root chain l ≡ value masks root (p.e ∷ p.more) l =
    g.same ∙ ap (λ (es : List Entry). value masks root es l) p.is in
    let pick : Bool → ℕ = λ b. cond b (word_of p.e (2 + masks + l)) (value masks root p.more l) in
    record {
      e = p.e;
      seg = p.seg;
      has = top_part t p;
      whole = p.whole;
      more = p.more;
      up = p.up;
      go = λ n next nn is ne. record {
        tail = lower words stride masks at left next n chain t p nn is;
        same = here ∙ ap pick (ne_eqb (bit_of p.e l) 1 ne);
      };
      found = λ is. here ∙ ap pick (eq-eqb (bit_of p.e l) 1 is);
    }

-- what a load of the word i of a segment of the chain gives
pub segment_word : (e : Entry) (s : Place) (at i x : ℕ) → Has e (view s).chain
    → at ≡ e.seg → IsWord s (at + i) x → Known e i → x ≡ word_of e i
segment_word e s at i x has seg word known =
    word e (word_of e i) has (ap (λ (n : ℕ). look e.body (n + i)) seg ∙ known)

-- what a load of the segment's word i gives
pub loaded : {root : List ℕ} {words stride masks l at left : ℕ} (i x : ℕ) {chain : List Entry}
    (a : At root words stride masks l at left chain) (s : Place)
    → (view s).chain ≡ chain → IsWord s (at + i) x → Known a.e i
    → x ≡ word_of a.e i
loaded {at = at} i x a s same word known =
    segment_word a.e s at i x (subst (Has a.e) (sym same) a.has) a.seg word known

pub row_of : (masks n l : ℕ) → masks ≡ rows n → l < n → l / 64 < masks
row_of masks n l is h = subst (λ (z : ℕ). l / 64 < z) (sym is) (rows_over n l h)

-- what a load of the mask word of the location says of its bit
pub bit_read : (words stride masks segment l x : ℕ) (s : Place) (e : Entry)
    → Has e (view s).chain → segment ≡ e.seg → Whole words stride masks e
    → IsWord s (segment + (2 + l / 64)) x → l / 64 < masks → bit_at x (l % 64) ≡ bit_of e l
bit_read words stride masks segment l x s e has seg whole word low = let i : ℕ = 2 + l / 64 in
    ap (λ (z : ℕ). bit_at z (l % 64))
    (segment_word e s segment i x has seg word (whole.header i (omega arith) (omega arith)))

pub bit_loaded : (root : List ℕ) (words stride masks l at left x : ℕ) (chain : List Entry)
    (a : At root words stride masks l at left chain) (s : Place)
    → (view s).chain ≡ chain → IsWord s (at + (2 + l / 64)) x → l / 64 < masks
    → bit_at x (l % 64) ≡ bit_of a.e l
bit_loaded root words stride masks l at left x chain a s same word low =
    bit_read words stride masks at l x s a.e (subst (Has a.e) (sym same) a.has) a.seg a.whole word
    low

pub no_entries : (es : List Entry) → length es ≡ 0 → es ≡ []
no_entries [] h = refl
no_entries (e ∷ es) h = absurd (omega arith)

-- where no segment is left, the value is the root's
pub bare_rest : (masks : ℕ) (root : List ℕ) (rest : List Entry) (l : ℕ) → length rest ≡ 0
    → value masks root rest l ≡ slice_index root l
bare_rest masks root rest l none =
    ap (λ (es : List Entry). value masks root es l) (no_entries rest none)

-- at the end of the chain
pub ended : {root : List ℕ} {words stride masks l at left : ℕ} {chain : List Entry}
    → Going root words stride masks l at left chain → left ≡ 0 → (x : ℕ) → x ≡ slice_index root l
    → x ≡ value masks root chain l
ended {root = root} {masks = masks} {l = l} g none x e = e
    ∙ sym (g.same ∙ bare_rest masks root g.tail.rest l (sym g.tail.many ∙ none))

pub rests_log : {words stride masks first depth : ℕ} (v : SegmentView) (log : List Look)
    → Rests words stride masks first depth v → Rests words stride masks first depth (logged v log)
rests_log v log r = record {
  single = r.single;
  not_alone = r.not_alone;
  not_building = r.not_building;
  none_left = r.none_left;
  one_hold = r.one_hold;
  head = r.head;
  deep = r.deep;
  whole = r.whole;
}

pub rests_as : {words stride masks words' stride' masks' first depth : ℕ} {v : SegmentView}
    → Rests words stride masks first depth v → words' ≡ words → stride' ≡ stride → masks' ≡ masks
    → Rests words' stride' masks' first depth v
rests_as {first = first} {depth = depth} {v = v} r a b c =
    subst (λ (z : ℕ × ℕ × ℕ). Rests z.0 z.1 z.2 first depth v) (λ i. (sym a i, sym b i, sym c i)) r

pub chain_of : (s t : Place) → view t ≡ view s → (view t).chain ≡ (view s).chain
chain_of s t e = ap (λ (v : SegmentView). v.chain) e

pub sound : (words stride masks : ℕ) (es : List Entry) → AllWhole words stride masks es
    → Sound words stride masks es
sound words stride masks [] h = tt
sound words stride masks (e ∷ es) h = let t = h e [] es refl in (
  t.0,
  t.1,
  sound words stride masks es
      (λ x b a q. h x (e ∷ b) a (ap (λ (t : List Entry). e ∷ t) q)),
)

sound_at : (words stride masks : ℕ) (e : Entry) (before after : List Entry)
    → Sound words stride masks (before ++ e ∷ after) → Whole words stride masks e
    × (word_of e 1 ≡ first_of after)
sound_at words stride masks e [] after s = (s.0, s.1)
sound_at words stride masks e (x ∷ before) after s = sound_at words stride masks e before after s.2

pub all_whole : (words stride masks : ℕ) (es : List Entry) → Sound words stride masks es
    → AllWhole words stride masks es
all_whole words stride masks es s e before after q =
    sound_at words stride masks e before after (subst (Sound words stride masks) q s)

-- a seat whose chain is given up segment by segment
pub record Falling (words stride masks at left : ℕ) (s t : Place) : Type 0 where
  pub head : at ≡ first_of (view t).chain
  pub many : left ≡ length (view t).chain
  pub sounds : Sound words stride masks (view t).chain
  pub single : (view t).extra ≡ 0
  pub build : (view t).build ≡ (view s).build
  pub holds : (view t).holds ≡ (view s).holds
  pub left_same : (view t).left ≡ (view s).left
  pub log : (view t).log ≡ (view s).log
  pub alone : (view s).alone ≡ 0 → (view t).alone ≡ 0
  pub table : seat_name t ≡ seat_name s
  pub number : number t ≡ number s

-- what a load of a word of the head gives
pub head_word : (e : Entry) (more : List Entry) (s : Place) (at i x : ℕ)
    → (view s).chain ≡ e ∷ more → at ≡ e.seg → IsWord s (at + i) x → Known e i → x ≡ word_of e i
head_word e more s at i x is seg word known =
    segment_word e s at i x (subst (Has e) (sym is) (inl refl)) seg word known

pub falls : {words stride masks at left : ℕ} (next : ℕ) (s t u : Place)
    → Falling words stride masks at left s t → 0 < left
    → ((e : Entry) (more : List Entry) → (view t).chain ≡ e ∷ more → Whole words stride masks e
    → next ≡ word_of e 1) → Becomes t u (pops (view t))
    → Falling words stride masks next (left - 1) s u
falls {words} {stride} {masks} {at} {left} next s t u f h word b = let many = f.many in
    let p = top_of words stride masks at (view t).chain f.head f.sounds (omega arith) in
    let tail : rest_of (view t).chain ≡ p.more = ap rest_of p.is in
    let is : view u ≡ pops (view t) = b.2 in
    let len : length (view t).chain ≡ length (p.e ∷ p.more) = ap length p.is in
    let new : (view u).chain ≡ p.more = ap (λ (v : SegmentView). v.chain) is ∙ tail in record {
      head = word p.e p.more p.is p.whole ∙ (p.up ∙ ap first_of (sym new));
      many = (let o : left - 1 ≡ length p.more = omega arith in o) ∙ ap length (sym new);
      sounds = subst (Sound words stride masks) (sym new) p.sounds;
      single = ap (λ (v : SegmentView). v.extra) is ∙ f.single;
      build = ap (λ (v : SegmentView). v.build) is ∙ f.build;
      holds = ap (λ (v : SegmentView). v.holds) is ∙ f.holds;
      left_same = ap (λ (v : SegmentView). v.left) is ∙ f.left_same;
      log = ap (λ (v : SegmentView). v.log) is ∙ f.log;
      alone = λ _. ap (λ (v : SegmentView). v.alone) is;
      table = b.0 ∙ f.table;
      number = b.1 ∙ f.number;
    }

pub falls_same : {words stride masks at left : ℕ} (s t u : Place)
    → Falling words stride masks at left s t → IsSameSeat t u
    → Falling words stride masks at left s u
falls_same {words} {stride} {masks} s t u f b = let c = chain_of t u b.2 in
    let v : view u ≡ view t = b.2 in record {
      head = f.head ∙ ap first_of (sym c);
      many = f.many ∙ ap length (sym c);
      sounds = subst (Sound words stride masks) (sym c) f.sounds;
      single = ap (λ (x : SegmentView). x.extra) v ∙ f.single;
      build = ap (λ (x : SegmentView). x.build) v ∙ f.build;
      holds = ap (λ (x : SegmentView). x.holds) v ∙ f.holds;
      left_same = ap (λ (x : SegmentView). x.left) v ∙ f.left_same;
      log = ap (λ (x : SegmentView). x.log) v ∙ f.log;
      alone = λ none. ap (λ (x : SegmentView). x.alone) v ∙ f.alone none;
      table = b.0 ∙ f.table;
      number = b.1 ∙ f.number;
    }

-- a hold whose chain was given up to its end
pub fallen : {words stride masks first depth at left : ℕ} (s t : Place)
    → Falling words stride masks at left s t → left ≡ 0
    → Rests words stride masks first depth (view s) → Rests words stride masks 0 0 (view t)
fallen {words} {stride} {masks} s t f none r =
    let bare = no_entries (view t).chain (sym f.many ∙ none) in record {
      single = f.single;
      not_alone = f.alone r.not_alone;
      not_building = f.build ∙ r.not_building;
      none_left = f.left_same ∙ r.none_left;
      one_hold = f.holds ∙ r.one_hold;
      head = ap first_of (sym bare);
      deep = sym none ∙ f.many;
      whole = all_whole words stride masks (view t).chain f.sounds;
    }

-- a hold whose chain was given up as far as others refer to it
pub let_go : {words stride masks first depth at left : ℕ} (s t u : Place)
    → Falling words stride masks at left s t → Becomes t u (drops (view t))
    → Rests words stride masks first depth (view s) → Rests words stride masks 0 0 (view u)
let_go {words} {stride} {masks} s t u f b r =
    let is : view u ≡ drops (view t) = b.2 in
    subst (Rests words stride masks 0 0) (sym is) record {
      single = f.single;
      not_alone = refl;
      not_building = f.build ∙ r.not_building;
      none_left = f.left_same ∙ r.none_left;
      one_hold = f.holds ∙ r.one_hold;
      head = refl;
      deep = refl;
      whole = all_whole words stride masks [] tt;
    }
