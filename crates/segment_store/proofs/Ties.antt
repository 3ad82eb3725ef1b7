-- Each atomic step is a step of the core that words and views show.
use Rattle.std.proofs.Common.{◌⊎◌, ◌≡◌, ◌≢◌, ℕ, zero, suc, ◌+◌, ◌-◌, ◌/◌, ◌%◌, ◌<◌, ◌≤◌, Bool, cond}
use Rattle.std.proofs.Common.{List, [], ◌∷◌, ◌++◌, length, get_or, set, sym, refl, ap, ◌∙◌, subst}
use Rattle.std.proofs.Common.{arith, ⊎_elim, inl, inr, get_or-set_same, get_or-set_other}
use Rattle.std.proofs.Common.{length-set, eq-eqb, ne_eqb, Option, None, Some}
use Rattle.std.specs.Int.{bit_at}
use mathlib.Core.Option as m
use mathlib.Core.Logic.{dite}
use native.Mathlib.Decide.{ℕ_discrete}
use lib.ListN.{get_elem?}
use Rattle.atomic_table.specs.Table.{State}
use Rattle.atomic_table.proofs.Lists.{at_set, set_again, set_else}
use Rattle.version_map.specs.Masks.{chosen, bit_in}
use Rattle.version_map.specs.declared.delta.Delta.{Delta}
use Rattle.version_map.specs.Deltas.{at, mask_of}
use Rattle.segment_store.specs.Places.{view}
use Rattle.segment_store.specs.Base.{IsLaid}
use Rattle.seg_core.specs.Applies.{copies}
use Rattle.seg_core.specs.Core.{Seg, free, building, live, Core, At, Has}
use Rattle.seg_core.specs.Steps as core
use Rattle.segment_store.specs.Entry.{Put, Entry}
use Rattle.segment_store.specs.declared.board.SegmentView.{SegmentView}
use Rattle.segment_store.specs.Store as st
use Rattle.segment_store.specs.Shown.{list_in, list_of, std_option, put_at, worded}
use Rattle.segment_store.specs.Shown.{SegShown, Shown, Shows}
use Rattle.segment_store.proofs.Sums.{one_segment}
use Rattle.segment_store.proofs.Fills.{look_here, look_else}
use Rattle.segment_store.proofs.Keeps.{other_builds}
use Rattle.seg_core.proofs.Bases.{at_new}

pub inside_at : {A : Type 0} (xs : List A) (i : ℕ) (x : A) → get_elem? xs i ≡ m.some x
    → i < length xs
inside_at [] i x e = absurd (m.some-ne-none x (sym e))
inside_at (y ∷ ys) zero x e = omega arith
inside_at (y ∷ ys) (suc i) x e = let r = inside_at ys i x e in omega arith

pub old_at : (l : List SegmentView) (h : ℕ) (v b : SegmentView) → get_elem? l h ≡ m.some v
    → get_elem? (l ++ b ∷ []) h ≡ m.some v
old_at [] h v b e = absurd (m.some-ne-none v (sym e))
old_at (x ∷ xs) zero v b e = e
old_at (x ∷ xs) (suc h) v b e = old_at xs h v b e

pub new_at : (l : List SegmentView) (j : ℕ) (b u : SegmentView) → get_elem? (l ++ b ∷ []) j ≡ m.some u
    → (get_elem? l j ≡ m.some u) ⊎ ((j ≡ length l) × (b ≡ u))
new_at [] zero b u e = inr (refl, m.some-injective b u e)
new_at [] (suc j) b u e = absurd (m.some-ne-none u (sym e))
new_at (x ∷ xs) zero b u e = inl e
new_at (x ∷ xs) (suc j) b u e = ⊎_elim (λ t. inl t) (λ t. inr (ap suc t.0, t.1)) (new_at xs j b u e)

pub none_past : (l : List SegmentView) (v : SegmentView) → get_elem? l (length l) ≡ m.some v → ⊥
none_past [] v e = m.some-ne-none v (sym e)
none_past (x ∷ xs) v e = none_past xs v e

module _ (words stride masks : ℕ) where
  abbrev St : Type 0
  St = State (Unit {0}) SegmentView

  abbrev IsSegment : ℕ → Type 0
  IsSegment = st.IsSegment words stride

  -- the words of the segment d are the same
  abbrev SameAt : List ℕ → List ℕ → ℕ → Type 0
  SameAt ws ws' d = (i : ℕ) → d ≤ i → i < d + stride → get_or ws' i 0 ≡ get_or ws i 0

  -- a segment whose words, and whose builder's words, are the same
  shown_else : (ws ws' : List ℕ) (views views' : List SegmentView) (d : ℕ) → 2 + masks ≤ stride
      → ((l : ℕ) → 2 + masks + l < stride → l / 64 < masks) → SameAt ws ws' d
      → ((h : ℕ) (v : SegmentView) → get_elem? views h ≡ m.some v → v.build ≡ d → (w : SegmentView)
      × (get_elem? views' h ≡ m.some w) × (w.build ≡ d) × (w.made ≡ v.made))
      → (x : Seg) → SegShown words stride masks ws views d x
      → SegShown words stride masks ws' views' d x
  shown_else ws ws' views views' d big rows same view free t = same d (omega arith) (omega arith)
      ∙ t
  shown_else ws ws' views views' d big rows same view (building h e) t = let v = t.1 in
      let w = view h v.0 v.1 v.2 in (
        same d (omega arith) (omega arith) ∙ t.0,
        (w.0, w.1, w.2, λ l lt. v.3 l lt ∙ ap (λ (ps : List Put). put_at masks d ps l) (sym w.3)),
      )
  shown_else ws ws' views views' d big rows same view (live e p n) t = (
    same d (omega arith) (omega arith) ∙ t.0,
    t.1,
    t.2,
    same (d + 1) (omega arith) (omega arith) ∙ t.3,
    λ l lt. t.4 l lt ∙ (let low = rows l lt in
        let a = same (d + (2 + l / 64)) (omega arith) (omega arith) in
        let b = same (d + (2 + masks + l)) (omega arith) (omega arith) in
        (λ i. chosen (bit_at (sym a i) (l % 64)) (sym b i))),
  )

  module _ (big : 2 + masks ≤ stride) (rows : (l : ℕ) → 2 + masks + l < stride
      → l / 64 < masks) where
    apart : (c d i : ℕ) → c % stride ≡ 0 → d % stride ≡ 0 → d ≢ c → d ≤ i → i < d + stride → c ≤ i
        → i < c + stride → ⊥
    apart c d i hc hd ne a b x y = ne (one_segment d c i stride hd hc a b x y)

    -- a step of one seat on a word i of the segment c
    step_shows : (s : St) (k : Core) → Shows words stride masks s k → (id : ℕ) (v w : SegmentView)
        → get_elem? s.views id ≡ m.some v → (c i n : ℕ) → IsSegment c → c ≤ i → i < c + stride
        → (x y : Seg) → At k c x
        → SegShown words stride masks (set s.words i n) (set s.views id w) c y
        → ((d : ℕ) → d ≢ c → 0 < d → v.build ≡ d → (w.build ≡ d) × (w.made ≡ v.made))
        → Shows words stride masks record {
          words = set s.words i n;
          homes = s.homes;
          views = set s.views id w;
        } (core.list_to (core.seg_to k c y) id (list_of w))
    step_shows s k r id v w at c i n b lo hi x y was now built = record {
      segs = λ d bd. dite (ℕ_discrete d c)
          (λ e. (
            y,
            subst (λ (z : ℕ). get_elem? (set k.segs c y) z ≡ m.some y) (sym e)
                (at_new k.segs c x y was),
            subst (λ (z : ℕ). SegShown words stride masks (set s.words i n) (set s.views id w) z
                y) (sym e) now,
          ))
          (λ ne. let t = r.segs d bd in (
            t.0,
            set_else k.segs c d y ne ∙ t.1,
            shown_else s.words (set s.words i n) s.views (set s.views id w) d big rows
                (λ j a z. get_or-set_other s.words i j n 0
                (λ q. apart c d j b.1 bd.1 ne a z (omega arith) (omega arith)))
                (λ h u is bu. dite (ℕ_discrete h id)
                (λ q. let uv : u ≡ v = m.some-injective u v (sym is
                ∙ (ap (get_elem? s.views) q ∙ at)) in
                let m' = built d ne bd.0 (ap (λ (z : SegmentView). z.build) (sym uv) ∙ bu) in (
                  w,
                  ap (get_elem? (set s.views id w)) q ∙ at_new s.views id v w at,
                  m'.0,
                  m'.1 ∙ ap (λ (z : SegmentView). z.made) (sym uv),
                ))
                (λ nq. (u, set_else s.views id h w nq ∙ is, bu, refl)))
                t.0 t.2,
          ));
      others = λ d z is. ⊎_elim
          (λ (t : (d ≡ c) × (y ≡ z)). inl (subst IsSegment (sym t.0) b))
          (λ (t : (d ≢ c) × (get_elem? k.segs d ≡ m.some z)). r.others d z t.1)
          (at_set k.segs c d y z is);
      lists = λ j u is. ⊎_elim
          (λ (t : (j ≡ id) × (w ≡ u)). ap (get_elem? (set k.lists id (list_of w))) t.0
          ∙ (at_new k.lists id (list_of v) (list_of w) (r.lists id v at)
          ∙ ap (λ (z : SegmentView). m.some (list_of z)) t.1))
          (λ (t : (j ≢ id) × (get_elem? s.views j ≡ m.some u)). set_else k.lists id j (list_of w)
          t.0 ∙ r.lists j u t.1)
          (at_set s.views id j w u is);
      size = r.size;
    }

    -- where the list stays
    same_list : (k : Core) (id : ℕ) (xs : List ℕ) (c : ℕ) (y : Seg) → Has k id xs
        → core.list_to (core.seg_to k c y) id xs ≡ core.seg_to k c y
    same_list k id xs c y has =
        ap (λ (ls : List (List ℕ)). record k { segs = set k.segs c y; lists = ls })
        (set_again k.lists id xs has)

    -- the core has a free segment, a segment that is built, or a live one, as the count says
    free_at : (s : St) (k : Core) → Shows words stride masks s k → (c : ℕ) → IsSegment c
        → get_or s.words c 0 ≡ 0 → At k c free
    free_at s k r c b none = let t = r.segs c b in go t.0 t.1 t.2 where
      go : (x : Seg) → At k c x → SegShown words stride masks s.words s.views c x → At k c free
      go free a t = a
      go (building h d) a t = let q = t.0 in absurd (omega arith)
      go (live d p n) a t = let q = t.0 in let q' = t.1 in absurd (omega arith)

    pub live_at : (s : St) (k : Core) → Shows words stride masks s k → (c : ℕ) → IsSegment c
        → 0 < get_or s.words c 0 → get_or s.words c 0 ≤ 4294967296
        → (d : ℕ → Option ℕ) × (p n : ℕ) × At k c (live d p n)
        × SegShown words stride masks s.words s.views c (live d p n)
    live_at s k r c b some few = let t = r.segs c b in go t.0 t.1 t.2 where
      go : (x : Seg) → At k c x → SegShown words stride masks s.words s.views c x
          → (d : ℕ → Option ℕ) × (p n : ℕ) × At k c (live d p n)
          × SegShown words stride masks s.words s.views c (live d p n)
      go free a t = absurd (omega arith)
      go (building h d) a t = let q = t.0 in absurd (omega arith)
      go (live d p n) a t = (d, p, n, a, t)

    -- claim
    pub claim_ties : (s : St) (k : Core) → Shows words stride masks s k → (id : ℕ) (v : SegmentView)
        → get_elem? s.views id ≡ m.some v → (c : ℕ) → IsSegment c → c < length s.words
        → get_or s.words c 0 ≡ 0 → v.build ≡ 0
        → (k' : Core) × core.Steps k (core.claim id c) k'
        × Shows words stride masks record {
          words = set s.words c st.building;
          homes = s.homes;
          views = set s.views id (st.claims v c);
        } k'
    claim_ties s k r id v at c b inside none idle = let w : SegmentView = st.claims v c in
        let y : Seg = building id core.no_delta in let was = free_at s k r c b none in
        let pos = b.0 in
        let keeps : core.list_to (core.seg_to k c y) id (list_of w) ≡ core.seg_to k c y =
        same_list k id (list_of v) c y (r.lists id v at) in (
          core.seg_to k c y,
          (b.0, was, builds_none, inside_at k.lists id (list_of v) (r.lists id v at), refl),
          subst (Shows words stride masks record {
            words = set s.words c st.building;
            homes = s.homes;
            views = set s.views id w;
          }) keeps
              (step_shows s k r id v w at c c st.building b (omega arith) (omega arith) free y was (
                get_or-set_same s.words c st.building 0 inside,
                (w, at_new s.views id v w at, refl, λ l lt. refl),
              )
              (λ d ne dp q. absurd (omega arith))),
        ) where
          builds_none : core.BuildsNone k id
          builds_none d e is = ⊎_elim (λ (bd : IsSegment d). shown d bd e is)
              (λ (q : building id e ≡ free). subst not_free q tt) (r.others d (building id e) is)
            where
              not_free : Seg → Type 0
              not_free free = ⊥
              not_free (building h d) = Unit {0}
              not_free (live d p n) = Unit {0}

              shown : (d : ℕ) → IsSegment d → (e : ℕ → Option ℕ) → At k d (building id e) → ⊥
              shown d bd e is = let t = r.segs d bd in
                  let same : t.0 ≡ building id e = m.some-injective t.0 (building id e)
                  (sym t.1 ∙ is) in
                  let u = subst (SegShown words stride masks s.words s.views d) same t.2 in
                  let f = u.1 in
                  let uv : f.0 ≡ v = m.some-injective f.0 v (sym f.1 ∙ at) in
                  let z : v.build ≡ d = ap (λ (x : SegmentView). x.build) (sym uv) ∙ f.2 in
                  let dp = bd.0 in omega arith

    -- what the core has where this seat builds
    building_at : (s : St) (q : st.Kept words stride s) (k : Core) → Shows words stride masks s k
        → (id : ℕ) (v : SegmentView) → get_elem? s.views id ≡ m.some v → 0 < v.build
        → (d : ℕ → Option ℕ) × At k v.build (building id d)
        × ((l : ℕ) → 2 + masks + l < stride → d l ≡ put_at masks v.build v.made l)
    building_at s q k r id v at h = let own = (q.seats id v at).building_own h in
        let t = r.segs v.build own.0 in go t.0 t.1 t.2 own.1 where
          go : (x : Seg) → At k v.build x → SegShown words stride masks s.words s.views v.build x
              → get_or s.words v.build 0 ≡ st.building
              → (d : ℕ → Option ℕ) × At k v.build (building id d)
              × ((l : ℕ) → 2 + masks + l < stride → d l ≡ put_at masks v.build v.made l)
          go free a t e = absurd (omega arith)
          go (live d p n) a t e = let t0 = t.0 in let t2 = t.2 in absurd (omega arith)
          go (building g d) a t e = let u = t.1 in let stride_pos : 0 < stride = omega arith in
              dite (ℕ_discrete g id)
              (λ (is : g ≡ id). let uv : u.0 ≡ v = m.some-injective u.0 v (sym u.1
              ∙ (ap (get_elem? s.views) is ∙ at)) in (
                d,
                subst (λ (z : ℕ). At k v.build (building z d)) is a,
                λ l lt. u.3 l lt
                    ∙ ap (λ (z : SegmentView). put_at masks v.build z.made l) uv,
              ))
              (λ ne. absurd (other_builds words stride stride_pos s q id g v u.0 at h ne u.1 u.2))

    -- put of a value word
    pub put_ties : (s : St) (q : st.Kept words stride s) (k : Core) → Shows words stride masks s k
        → (id : ℕ) (v : SegmentView) → get_elem? s.views id ≡ m.some v → 0 < v.build → (l x : ℕ)
        → 2 + masks + l < stride
        → (k' : Core) × core.Steps k (core.put id v.build l x) k'
        × Shows words stride masks record {
          words = set s.words (v.build + (2 + masks + l)) x;
          homes = s.homes;
          views = set s.views id (st.puts v (v.build + (2 + masks + l)) x);
        } k'
    put_ties s q k r id v at h l x lt = let c : ℕ = v.build in let i : ℕ = c + (2 + masks + l) in
        let w : SegmentView = st.puts v i x in let own = (q.seats id v at).building_own h in
        let b = building_at s q k r id v at h in
        let d = b.0 in let y : Seg = building id (core.with_word d l x) in (
          core.seg_to k c y,
          (d, h, b.1, (let size = r.size in omega arith), refl),
          subst (Shows words stride masks record {
            words = set s.words i x;
            homes = s.homes;
            views = set s.views id w;
          }) (same_list k id (list_of v) c y (r.lists id v at))
              (step_shows s k r id v w at c i x own.0 (omega arith) (omega arith) (building id d) y
              b.1 (
                get_or-set_other s.words i c x 0 (λ e. omega arith) ∙ own.1,
                (
                  w,
                  at_new s.views id v w at,
                  refl,
                  λ j jt. dite (ℕ_discrete j l)
                      (λ e. ap (λ (z : Bool). cond z (Some x) (d j)) (eq-eqb j l e)
                      ∙ sym (ap std_option (look_here v.made i (c + (2 + masks + j)) x
                      (omega arith))))
                      (λ ne. ap (λ (z : Bool). cond z (Some x) (d j)) (ne_eqb j l ne)
                      ∙ (b.2 j jt ∙ sym
                      (ap std_option (look_else v.made i (c + (2 + masks + j)) x
                      (λ e. ne (omega arith)))))),
                ),
              )
              (λ e ne dp z. absurd (ne (sym z)))),
        )

    -- put of the parent or of a mask word: no step of the core
    pub header_ties : (s : St) (q : st.Kept words stride s) (k : Core)
        → Shows words stride masks s k → (id : ℕ) (v : SegmentView) → get_elem? s.views id ≡ m.some v
        → 0 < v.build → (j x : ℕ) → 0 < j → j < 2 + masks
        → Shows words stride masks record {
          words = set s.words (v.build + j) x;
          homes = s.homes;
          views = set s.views id (st.puts v (v.build + j) x);
        } k
    header_ties s q k r id v at h j x lo hi = let c : ℕ = v.build in let i : ℕ = c + j in
        let w : SegmentView = st.puts v i x in let own = (q.seats id v at).building_own h in
        let b = building_at s q k r id v at h in
        let d = b.0 in let y : Seg = building id d in
        let same : core.seg_to k c y ≡ k = ap (λ (xs : List Seg). record k { segs = xs })
        (set_again k.segs c y b.1) in
        subst (Shows words stride masks record {
          words = set s.words i x;
          homes = s.homes;
          views = set s.views id w;
        }) (same_list k id (list_of v) c y (r.lists id v at) ∙ same)
        (step_shows s k r id v w at c i x own.0 (omega arith) (omega arith) y y b.1 (
          get_or-set_other s.words i c x 0 (λ e. omega arith) ∙ own.1,
          (
            w,
            at_new s.views id v w at,
            refl,
            λ l lt. b.2 l lt
                ∙ sym (ap std_option
                (look_else v.made i (c + (2 + masks + l)) x (λ e. omega arith))),
          ),
        )
        (λ e ne dp z. absurd (ne (sym z))))

    -- only the count of a live segment changes
    recounted : (ws : List ℕ) (views views' : List SegmentView) (c n n' p : ℕ) (d : ℕ → Option ℕ)
        → c < length ws → 0 < n' → n' ≤ 4294967296 → get_or ws (c + 1) 0 ≡ p
        → ((l : ℕ) → 2 + masks + l < stride → d l ≡ worded masks ws c l)
        → SegShown words stride masks (set ws c n') views' c (live d p n')
    recounted ws views views' c n n' p d inside some few up delta = (
      get_or-set_same ws c n' 0 inside,
      some,
      few,
      get_or-set_other ws c (c + 1) n' 0 (λ e. omega arith) ∙ up,
      λ l lt. delta l lt
          ∙ (let a = get_or-set_other ws c (c + (2 + l / 64)) n' 0 (λ e. omega arith) in
          let b = get_or-set_other ws c (c + (2 + masks + l)) n' 0 (λ e. omega arith) in
          (λ i. chosen (bit_at (sym a i) (l % 64)) (sym b i))),
    )

    list_is : (v : SegmentView) (e : Entry) (es : List Entry) (x : ℕ) → v.chain ≡ e ∷ es → v.extra ≡ x
        → list_of v ≡ e.seg ∷ copies x e.seg
    list_is v e es x a b = (λ i. list_in (a i) (b i))

    joined_list : (words' stride' : ℕ) (B : Entry → Type 0) (p : ℕ) (es : List Entry)
        → ((e : Entry) → B e → 0 < e.seg) → st.Chain words' stride' B es → p ≡ st.first_of es
        → core.joined p [] ≡ list_in es 0
    joined_list words' stride' B p [] pos ch e = ap (λ (b : Bool). cond b [] (p ∷ []))
        (eq-eqb p 0 e)
    joined_list words' stride' B p (f ∷ fs) pos ch e = let h = pos f ch.0 in
        ap (λ (b : Bool). cond b [] (p ∷ [])) (ne_eqb p 0 (λ q. omega arith))
        ∙ ap (λ (z : ℕ). z ∷ []) e

    -- share
    pub share_ties : (s : St) (q : st.Kept words stride s) (k : Core) → Shows words stride masks s k
        → (id : ℕ) (v : SegmentView) → get_elem? s.views id ≡ m.some v → (e : Entry) (es : List Entry)
        → v.chain ≡ e ∷ es → v.extra ≡ 0
        → 0 < get_or s.words e.seg 0 → get_or s.words e.seg 0 < 4294967296
        → (k' : Core) × core.Steps k (core.share id e.seg) k'
        × Shows words stride masks
        record {
          words = set s.words e.seg (get_or s.words e.seg 0 + 1);
          homes = s.homes;
          views = set s.views id (st.shares v);
        } k'
    share_ties s q k r id v at e es is single some few = let c : ℕ = e.seg in
        let w : SegmentView = st.shares v in
        let ch = subst (st.Chain words stride (st.IsEntry words stride s.words q.ups)) is
        (q.seats id v at).chained in let b = ch.0.0 in let long = q.long in
        let in_range = b.2 in
        let t = live_at s k r c b some (omega arith) in let d = t.0 in let p : ℕ = t.1 in
        let n : ℕ = t.2 in let sh = t.4 in let n' : ℕ = get_or s.words c 0 + 1 in
        let up : n' ≡ n + 1 = ap (λ (z : ℕ). z + 1) sh.0 in (
          core.list_to (core.seg_to k c (live d p (n + 1))) id (c ∷ c ∷ []),
          (d, p, n, b.0, t.3, r.lists id v at ∙ ap m.some (list_is v e es 0 is single), refl),
          subst (λ (z : ℕ × List ℕ). Shows words stride masks record {
            words = set s.words c n';
            homes = s.homes;
            views = set s.views id w;
          }
              (core.list_to (core.seg_to k c (live d p z.0)) id z.1))
              (λ i. (up i, list_is w e es 1 is refl i))
              (step_shows s k r id v w at c c n' b (omega arith) (omega arith) (live d p n)
              (live d p n') t.3
              (recounted s.words s.views (set s.views id w) c n n' p d (omega arith) (omega arith)
              (omega arith) sh.3 sh.4)
              (λ x ne dp z. (z, refl))),
        )

    -- release of one of many
    pub drop_ties : (s : St) (q : st.Kept words stride s) (k : Core) → Shows words stride masks s k
        → (id : ℕ) (v : SegmentView) → get_elem? s.views id ≡ m.some v → (e : Entry) (es : List Entry)
        → v.chain ≡ e ∷ es → v.extra ≡ 0
        → 1 < get_or s.words e.seg 0 → get_or s.words e.seg 0 ≤ 4294967296
        → (k' : Core) × core.Steps k (core.release id e.seg) k'
        × Shows words stride masks
        record {
          words = set s.words e.seg (get_or s.words e.seg 0 - 1);
          homes = s.homes;
          views = set s.views id (st.drops v);
        } k'
    drop_ties s q k r id v at e es is single some few = let c : ℕ = e.seg in
        let w : SegmentView = st.drops v in
        let ch = subst (st.Chain words stride (st.IsEntry words stride s.words q.ups)) is
        (q.seats id v at).chained in let b = ch.0.0 in let long = q.long in
        let in_range = b.2 in
        let t = live_at s k r c b (omega arith) few in let d = t.0 in let p : ℕ = t.1 in
        let n : ℕ = t.2 in let sh = t.4 in let sh0 = sh.0 in
        let n' : ℕ = get_or s.words c 0 - 1 in
        let down : n' ≡ n - 1 = ap (λ (z : ℕ). z - 1) sh.0 in (
          core.list_to (core.seg_to k c (live d p (n - 1))) id [],
          (
            d,
            p,
            n,
            [],
            b.0,
            t.3,
            r.lists id v at ∙ ap m.some (list_is v e es 0 is single),
            inr ((let o : 1 < n = omega arith in o), refl),
          ),
          subst (λ (z : ℕ). Shows words stride masks record {
            words = set s.words c n';
            homes = s.homes;
            views = set s.views id w;
          }
              (core.list_to (core.seg_to k c (live d p z)) id [])) down
              (step_shows s k r id v w at c c n' b (omega arith) (omega arith) (live d p n)
              (live d p n') t.3
              (recounted s.words s.views (set s.views id w) c n n' p d (omega arith) (omega arith)
              (omega arith) sh.3 sh.4)
              (λ x ne dp z. (z, refl))),
        )

    -- release of the last, and collapse
    pub pop_ties : (s : St) (q : st.Kept words stride s) (k : Core) → Shows words stride masks s k
        → (id : ℕ) (v : SegmentView) → get_elem? s.views id ≡ m.some v → (e : Entry) (es : List Entry)
        → v.chain ≡ e ∷ es → v.extra ≡ 0
        → get_or s.words e.seg 0 ≡ 1
        → (k' : Core) × core.Steps k (core.release id e.seg) k'
        × core.Steps k (core.collapse id e.seg) k'
        × Shows words stride masks record {
          words = set s.words e.seg 0;
          homes = s.homes;
          views = set s.views id (st.pops v);
        } k'
    pop_ties s q k r id v at e es is single one = let c : ℕ = e.seg in let w : SegmentView = st.pops v in
        let ch = subst (st.Chain words stride (st.IsEntry words stride s.words q.ups)) is
        (q.seats id v at).chained in let b = ch.0.0 in let long = q.long in
        let in_range = b.2 in
        let t = live_at s k r c b (omega arith) (omega arith) in let d = t.0 in let p : ℕ = t.1 in
        let n : ℕ = t.2 in let sh = t.4 in let n1 : n ≡ 1 = sym sh.0 ∙ one in
        let parent : p ≡ st.first_of es = sym sh.3 ∙ ((ch.0.3 (c + 1) e.up ch.0.2).2 ∙ ch.1) in
        let list : list_of w ≡ core.joined p [] = (λ i. list_in (st.rest_of (is i)) (single i))
        ∙ sym (joined_list words stride (st.IsEntry words stride s.words q.ups) p es
        (λ f z. z.0.0) ch.2 parent) in
        let has = r.lists id v at ∙ ap m.some (list_is v e es 0 is single) in (
          core.list_to (core.seg_to k c free) id (core.joined p []),
          (d, p, n, [], b.0, t.3, has, inl (n1, refl)),
          (d, p, b.0, subst (λ (z : ℕ). At k c (live d p z)) n1 t.3, has, refl),
          subst (λ (xs : List ℕ). Shows words stride masks record {
            words = set s.words c 0;
            homes = s.homes;
            views = set s.views id w;
          }
              (core.list_to (core.seg_to k c free) id xs)) list
              (step_shows s k r id v w at c c 0 b (omega arith) (omega arith) (live d p n) free t.3
              (get_or-set_same s.words c 0 0 (omega arith))
              (λ x ne dp z. (z, refl))),
        )

    -- publish, where the mask says which values were put
    pub publish_ties : (s : St) (q : st.Kept words stride s) (k : Core)
        → Shows words stride masks s k → (id : ℕ) (v : SegmentView) → get_elem? s.views id ≡ m.some v
        → 0 < v.build → v.extra ≡ 0
        → st.look v.made (v.build + 1) ≡ m.some (st.first_of v.chain)
        → ((l : ℕ) → 2 + masks + l < stride
        → put_at masks v.build v.made l ≡ worded masks s.words v.build l)
        → (k' : Core) × core.Steps k (core.publish id v.build) k'
        × Shows words stride masks record {
          words = set s.words v.build 2;
          homes = s.homes;
          views = set s.views id (st.publishes v);
        } k'
    publish_ties s q k r id v at h single parent mask = let c : ℕ = v.build in
        let w : SegmentView = st.publishes v in let p : ℕ = st.first_of v.chain in
        let mine = q.seats id v at in let own = mine.building_own h in
        let b = building_at s q k r id v at h in let d = b.0 in
        let long = q.long in let in_range = own.0.2 in
        let list : list_of v ≡ core.joined p [] = ap (list_in v.chain) single
        ∙ sym (joined_list words stride (st.IsEntry words stride s.words q.ups) p v.chain
        (λ f z. z.0.0) mine.chained refl) in (
          core.list_to (core.seg_to k c (live d p 2)) id (c ∷ c ∷ []),
          (d, p, h, b.1, r.lists id v at ∙ ap m.some list, refl),
          step_shows s k r id v w at c c 2 own.0 (omega arith) (omega arith) (building id d)
              (live d p 2) b.1
              (recounted s.words s.views (set s.views id w) c 0 2 p d (omega arith) (omega arith)
              (omega arith) (own.2 (c + 1) p parent).2 (λ l lt. b.2 l lt ∙ mask l lt))
              (λ x ne dp z. absurd (ne (sym z))),
        )

    -- a change of views that keeps lists and what is built, and of no word of a segment
    pub views_show : (s : St) (k k' : Core) → Shows words stride masks s k
        → (ws' : List ℕ) (views' : List SegmentView)
        → ((d : ℕ) → IsSegment d → SameAt s.words ws' d)
        → ((h : ℕ) (v : SegmentView) → get_elem? s.views h ≡ m.some v → 0 < v.build → (w : SegmentView)
        × (get_elem? views' h ≡ m.some w) × (w.build ≡ v.build) × (w.made ≡ v.made))
        → ((j : ℕ) (u : SegmentView) → get_elem? views' j ≡ m.some u → Has k' j (list_of u))
        → k'.segs ≡ k.segs → k'.locations ≡ k.locations
        → Shown words stride masks ws' views' k'
    views_show s k k' r ws' views' still keep lists same count = record {
      segs = λ d bd. let t = r.segs d bd in let dp = bd.0 in (
        t.0,
        ap (λ (xs : List Seg). get_elem? xs d) same ∙ t.1,
        shown_else s.words ws' s.views views' d big rows (still d bd)
            (λ h u is bu. let w = keep h u is (omega arith) in (w.0, w.1, w.2 ∙ bu, w.3)) t.0 t.2,
      );
      others = λ d z is. r.others d z (ap (λ (xs : List Seg). get_elem? xs d) (sym same) ∙ is);
      lists = lists;
      size = ap (λ (n : ℕ). 2 + masks + n) count ∙ r.size;
    }

    -- a step of one seat that is none of the core
    pub quiet_ties : (s : St) (k : Core) → Shows words stride masks s k → (ws' : List ℕ)
        → ((d : ℕ) → IsSegment d → SameAt s.words ws' d)
        → (id : ℕ) (v w : SegmentView) → get_elem? s.views id ≡ m.some v → list_of w ≡ list_of v
        → w.build ≡ v.build → w.made ≡ v.made
        → Shown words stride masks ws' (set s.views id w) k
    quiet_ties s k r ws' still id v w at list build made =
        views_show s k k r ws' (set s.views id w) still
        (λ h u is bu. dite (ℕ_discrete h id)
        (λ e. let uv : u ≡ v = m.some-injective u v (sym is ∙ (ap (get_elem? s.views) e ∙ at)) in (
          w,
          ap (get_elem? (set s.views id w)) e ∙ at_new s.views id v w at,
          build ∙ ap (λ (z : SegmentView). z.build) (sym uv),
          made ∙ ap (λ (z : SegmentView). z.made) (sym uv),
        ))
        (λ ne. (u, set_else s.views id h w ne ∙ is, refl, refl)))
        (λ j u is. ⊎_elim
        (λ (t : (j ≡ id) × (w ≡ u)). ap (get_elem? k.lists) t.0
        ∙ (r.lists id v at ∙ ap m.some (sym list ∙ ap list_of t.1)))
        (λ (t : (j ≢ id) × (get_elem? s.views j ≡ m.some u)). r.lists j u t.1)
        (at_set s.views id j w u is))
        refl refl

    -- hand on, to a holder that the core has and no seat is yet
    pub hand_on_ties : (s : St) (k : Core) → Shows words stride masks s k → (id : ℕ) (v : SegmentView)
        → get_elem? s.views id ≡ m.some v → (e : Entry) (es : List Entry) → v.chain ≡ e ∷ es
        → v.extra ≡ 1 → 0 < e.seg → v.build ≡ 0
        → Has k (length s.views) []
        → (k' : Core) × core.Steps k (core.hand_on id e.seg (length s.views)) k'
        × Shows words stride masks record {
          words = s.words;
          homes = s.homes;
          views = set s.views id (st.hands_left v) ++ st.hands_right v ∷ [];
        } k'
    hand_on_ties s k r id v at e es is two pos idle room = let c : ℕ = e.seg in
        let to : ℕ = length s.views in let a : SegmentView = st.hands_left v in
        let b : SegmentView = st.hands_right v in let vs : List SegmentView = set s.views id a in
        let apart_to : to ≢ id = λ q. none_past s.views v (ap (get_elem? s.views) q ∙ at) in
        let len : length vs ≡ to = length-set s.views id a in
        let la : list_of a ≡ c ∷ [] = ap (λ (xs : List Entry). list_in xs 0) is in
        let there : get_elem? (set k.lists id (c ∷ [])) to ≡ m.some [] =
        set_else k.lists id to (c ∷ []) apart_to ∙ room in
        let k' : Core = core.list_to (core.list_to k id (c ∷ [])) to (c ∷ []) in (
          k',
          (
            pos,
            apart_to,
            r.lists id v at ∙ ap m.some (list_is v e es 1 is two),
            room,
            builds_none,
            refl,
          ),
          views_show s k k' r s.words (vs ++ b ∷ []) (λ d bd i lo hi. refl)
              (λ h u iu bu. dite (ℕ_discrete h id)
              (λ q. let uv : u ≡ v = m.some-injective u v (sym iu
              ∙ (ap (get_elem? s.views) q ∙ at)) in
              let z : u.build ≡ 0 = ap (λ (z : SegmentView). z.build) uv ∙ idle in
              absurd (omega arith))
              (λ ne. (u, old_at vs h u b (set_else s.views id h a ne ∙ iu), refl, refl)))
              (λ j u iu. ⊎_elim
              (λ (t : get_elem? vs j ≡ m.some u). ⊎_elim
              (λ (z : (j ≡ id) × (a ≡ u)). set_else (set k.lists id (c ∷ [])) to j (c ∷ [])
              (λ q. apart_to (sym q ∙ z.0)) ∙ (ap (get_elem? (set k.lists id (c ∷ []))) z.0
              ∙ (at_new k.lists id (list_of v) (c ∷ []) (r.lists id v at)
              ∙ ap m.some (sym la ∙ ap list_of z.1))))
              (λ (z : (j ≢ id) × (get_elem? s.views j ≡ m.some u)).
              set_else (set k.lists id (c ∷ [])) to j (c ∷ [])
              (λ q. none_past s.views u (ap (get_elem? s.views) (sym q) ∙ z.1))
              ∙ (set_else k.lists id j (c ∷ []) z.0 ∙ r.lists j u z.1))
              (at_set s.views id j a u t))
              (λ (t : (j ≡ length vs) × (b ≡ u)). ap (get_elem? k'.lists) (t.0 ∙ len)
              ∙ (at_new (set k.lists id (c ∷ [])) to [] (c ∷ []) there
              ∙ ap m.some (sym la ∙ ap list_of t.1)))
              (new_at vs j b u iu))
              refl refl,
        ) where
          builds_none : core.BuildsNone k (length s.views)
          builds_none d f at' = ⊎_elim (λ (bd : IsSegment d). shown d bd f at')
              (λ (q : building (length s.views) f ≡ free). subst not_free q tt)
              (r.others d (building (length s.views) f) at') where
                not_free : Seg → Type 0
                not_free free = ⊥
                not_free (building h d) = Unit {0}
                not_free (live d p n) = Unit {0}

                shown : (d : ℕ) → IsSegment d → (f : ℕ → Option ℕ)
                    → At k d (building (length s.views) f) → ⊥
                shown d bd f at' = let t = r.segs d bd in
                    let same : t.0 ≡ building (length s.views) f =
                    m.some-injective t.0 (building (length s.views) f) (sym t.1 ∙ at') in
                    let u = subst (SegShown words stride masks s.words s.views d) same t.2 in
                    let g = u.1 in none_past s.views g.0 g.1

    -- a segment that was laid down for a delta has the delta's mask
    pub laid_mask : (ws : List ℕ) (c up : ℕ) (d : Delta) (made : List Put)
        → st.Shows words stride ws c made → IsLaid c up stride masks d made
        → (l : ℕ) → 2 + masks + l < stride → put_at masks c made l ≡ worded masks ws c l
    laid_mask ws c up d made sh laid l lt = let low = rows l lt in
        let word : get_or ws (c + (2 + l / 64)) 0 ≡ get_or (mask_of d) (l / 64) 0 =
        (sh (c + (2 + l / 64)) (get_or (mask_of d) (l / 64) 0) (laid.mask_is (l / 64) low)).2 in
        let x : ℕ = get_or d.cells.items l 0 in let y : ℕ = get_or ws (c + (2 + masks + l)) 0 in
        let bit : bit_at (get_or ws (c + (2 + l / 64)) 0) (l % 64) ≡ bit_in (mask_of d) l =
        ap (λ (z : ℕ). bit_at z (l % 64)) word in dite (ℕ_discrete (bit_in (mask_of d) l) 1)
        (λ one. let is : at d l ≡ Some x = ap (λ (b : Bool). cond b (Some x) None)
        (eq-eqb (bit_in (mask_of d) l) 1 one) in let put = laid.value_is l x lt is in
        ap std_option put ∙ (ap Some (sym (sh (c + (2 + masks + l)) x put).2)
        ∙ sym (ap (λ (b : Bool). cond b (Some y) None)
        (eq-eqb (bit_at (get_or ws (c + (2 + l / 64)) 0) (l % 64)) 1 (bit ∙ one)))))
        (λ ne. let is : at d l ≡ None = ap (λ (b : Bool). cond b (Some x) None)
        (ne_eqb (bit_in (mask_of d) l) 1 ne) in
        ap std_option (laid.none_is l lt is)
        ∙ sym (ap (λ (b : Bool). cond b (Some y) None)
        (ne_eqb (bit_at (get_or ws (c + (2 + l / 64)) 0) (l % 64)) 1 (λ q. ne (sym bit ∙ q)))))
