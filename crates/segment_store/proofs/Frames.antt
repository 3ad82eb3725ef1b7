-- What a change of one segment leaves as it was.
use Rattle.std.proofs.Common.{◌≡◌, ℕ, ◌+◌, ◌%◌, ◌<◌, ◌≤◌, ◌≢◌, List, [], ◌∷◌, length, get_or, set}
use Rattle.std.proofs.Common.{sym, refl, ap, ◌∙◌, subst, arith, ⊎_elim, get_or-set_other}
use mathlib.Core.Option.{Option, some}
use mathlib.Core.Logic.{dite}
use native.Mathlib.Decide.{ℕ_discrete, dec_le}
use lib.ListN.{get_elem?}
use Rattle.atomic_table.specs.Table.{State}
use Rattle.atomic_table.proofs.Lists.{at_set}
use Rattle.segment_store.specs.Entry.{Put, Entry}
use Rattle.segment_store.specs.declared.board.SegmentView.{SegmentView}
use Rattle.segment_store.specs.Store.{first_of, refs_in, refs, builds, held, Counts}
use Rattle.seg_core.specs.Core.{total, is_at}
use Rattle.segment_store.specs.Store.{IsSegment, Shows, IsEntry, Chain, Knows, Kept}
use Rattle.segment_store.proofs.Sums.{one_segment}
use Rattle.seg_core.proofs.Sums.{total_set, total_one, is_at_same, is_at_other}
use Rattle.segment_store.proofs.Sums.{chain_map, chain_keeps}

-- for a chain with one reference
pub refs_first : (c : ℕ) (es : List Entry) → 0 < c → refs_in c es 0 ≡ is_at c (first_of es)
refs_first c [] h = sym (is_at_other c 0 (λ e. omega arith))
refs_first c (e ∷ es) h = refl

pub no_child : (ups : List ℕ) (c : ℕ) → total (is_at c) ups ≡ 0 → (d : ℕ) → get_elem? ups d ≢ some c
no_child ups c none_is d e = let a = total_one (is_at c) ups d c e in let b = is_at_same c in
    omega arith

pub counts_as : (c n b c' n' b' : ℕ) (up up' : Option ℕ) → c' ≡ c → n' ≡ n → b' ≡ b → up' ≡ up
    → Counts c n b up → Counts c' n' b' up'
counts_as c n b c' n' b' up up' p q r t =
    subst (λ (z : ℕ × ℕ × ℕ × Option ℕ). Counts z.0 z.1 z.2 z.3)
    (λ i. (sym p i, sym q i, sym r i, sym t i))

module _ (words stride : ℕ) (some_words : 0 < stride) where
  abbrev pub St : Type 0
  St = State (Unit {0}) SegmentView

  -- every word outside the segment c is the same
  abbrev pub Same : List ℕ → List ℕ → ℕ → Type 0
  Same ws ws' c = (i : ℕ) → (c ≤ i → c + stride ≤ i) → get_or ws' i 0 ≡ get_or ws i 0

  pub same_set : (ws : List ℕ) (c i x : ℕ) → c ≤ i → i < c + stride → Same ws (set ws i x) c
  same_set ws c i x a b j out = get_or-set_other ws i j x 0
      (λ e. let o : c + stride ≤ j = out (omega arith) in omega arith)

  pub outside : (c d i : ℕ) → c % stride ≡ 0 → d % stride ≡ 0 → d ≢ c → d ≤ i → i < d + stride
      → c ≤ i → c + stride ≤ i
  outside c d i hc hd n a b h = dite (dec_le (c + stride) i) (λ y. y)
      (λ y. absurd (n (one_segment d c i stride hd hc a b h (omega arith))))

  pub shows_else : (ws ws' : List ℕ) (c d : ℕ) (ps : List Put) → c % stride ≡ 0 → d % stride ≡ 0
      → d ≢ c → Same ws ws' c → Shows words stride ws d ps → Shows words stride ws' d ps
  shows_else ws ws' c d ps hc hd n same sh i w e = let t = sh i w e in
      (t.0, t.1, same i (outside c d i hc hd n (let a = t.0 in omega arith) t.1) ∙ t.2)

  pub segment_else : (ws ws' ups ups' : List ℕ) (c : ℕ) → c % stride ≡ 0 → Same ws ws' c
      → ((d : ℕ) → d ≢ c → get_elem? ups' d ≡ get_elem? ups d)
      → (e : Entry) → e.seg ≢ c → IsEntry words stride ws ups e → IsEntry words stride ws' ups' e
  segment_else ws ws' ups ups' c hc same up e n b = (
    b.0,
    up e.seg n ∙ b.1,
    b.2,
    shows_else ws ws' c e.seg e.body hc b.0.1 n same b.3,
  )

  pub chain_else : (ws ws' ups ups' : List ℕ) (c : ℕ) → c % stride ≡ 0 → Same ws ws' c
      → ((d : ℕ) → d ≢ c → get_elem? ups' d ≡ get_elem? ups d)
      → total (is_at c) ups ≡ 0 → (es : List Entry) → first_of es ≢ c
      → Chain words stride (IsEntry words stride ws ups) es
      → Chain words stride (IsEntry words stride ws' ups') es
  chain_else ws ws' ups ups' c hc same up none_is es n ch =
      chain_keeps words stride (IsEntry words stride ws ups) (IsEntry words stride ws' ups') c
      (λ e b q. no_child ups c none_is e.seg (b.1 ∙ ap some q))
      (λ e n b. segment_else ws ws' ups ups' c hc same up e n b) es n ch

  pub know_else : (ws ws' ups ups' : List ℕ) (c : ℕ) → c % stride ≡ 0 → Same ws ws' c
      → ((d : ℕ) → d ≢ c → get_elem? ups' d ≡ get_elem? ups d)
      → total (is_at c) ups ≡ 0 → (u : SegmentView) → first_of u.chain ≢ c → u.build ≢ c
      → Knows words stride ws ups u → Knows words stride ws' ups' u
  know_else ws ws' ups ups' c hc same up none_is u n m k = record {
    chained = chain_else ws ws' ups ups' c hc same up none_is u.chain n k.chained;
    building_own = λ h. let b = k.building_own h in (
      b.0,
      same u.build (outside c u.build u.build hc b.0.1 m (omega arith) (omega arith)) ∙ b.1,
      shows_else ws ws' c u.build u.made hc b.0.1 m same b.2,
    );
    alone_is = λ h. let a = k.alone_is h in
        (a.0, same (first_of u.chain) (alone_out u.chain a.0 n k.chained) ∙ a.1);
    idle_is = k.idle_is;
  } where
    alone_out : (es : List Entry) → 0 < first_of es → first_of es ≢ c
        → Chain words stride (IsEntry words stride ws ups) es → c ≤ first_of es
        → c + stride ≤ first_of es
    alone_out [] h n ch = absurd (omega arith)
    alone_out (e ∷ es) h n ch = outside c e.seg e.seg hc ch.0.0.1 n (omega arith) (omega arith)

  pub shows_count : (ws : List ℕ) (c d x : ℕ) (ps : List Put) → c % stride ≡ 0 → d % stride ≡ 0
      → Shows words stride ws d ps → Shows words stride (set ws c x) d ps
  shows_count ws c d x ps hc hd sh i w e = let t = sh i w e in let a = t.0 in let b = t.1 in (
    a,
    b,
    get_or-set_other ws c i x 0 (λ q. let s : c ≡ d =
        one_segment c d i stride hc hd (omega arith) (omega arith) (omega arith) b in omega arith)
        ∙ t.2,
  )

  -- only the count of c changes
  pub know_count : (ws ups : List ℕ) (c x : ℕ) → c % stride ≡ 0 → (u : SegmentView)
      → (0 < u.alone → first_of u.chain ≢ c) → (0 < u.build → u.build ≢ c)
      → Knows words stride ws ups u → Knows words stride (set ws c x) ups u
  know_count ws ups c x hc u n m k = record {
    chained = chain_map words stride (IsEntry words stride ws ups)
        (IsEntry words stride (set ws c x) ups)
        (λ e b. (b.0, b.1, b.2, shows_count ws c e.seg x e.body hc b.0.1 b.3)) u.chain k.chained;
    building_own = λ h. let b = k.building_own h in (
      b.0,
      get_or-set_other ws c u.build x 0 (m h) ∙ b.1,
      shows_count ws c u.build x u.made hc b.0.1 b.2,
    );
    alone_is = λ h. let a = k.alone_is h in
        (a.0, get_or-set_other ws c (first_of u.chain) x 0 (n h) ∙ a.1);
    idle_is = k.idle_is;
  }

  -- a step of one seat on the segment c
  pub framed : (s : St) (r : Kept words stride s) (id : ℕ) (v w : SegmentView)
      → get_elem? s.views id ≡ some v → (ws' ups' : List ℕ) (rank' : ℕ → ℕ) (c : ℕ)
      → length ws' ≡ words → length ups' ≡ words
      → ((d : ℕ) → d ≢ c → IsSegment words stride d
      → (get_or ws' d 0 ≡ get_or s.words d 0)
      × (refs d w + total (is_at d) ups' ≡ refs d v + total (is_at d) r.ups)
      × (builds d w ≡ builds d v) × (get_elem? ups' d ≡ get_elem? r.ups d))
      → (IsSegment words stride c
      → Counts (get_or ws' c 0) (total (refs c) (set s.views id w) + total (is_at c) ups')
      (total (builds c) (set s.views id w)) (get_elem? ups' c))
      → ((d p : ℕ) → get_elem? ups' d ≡ some p → 0 < p → (rank' p < rank' d)
      × IsSegment words stride d)
      → Knows words stride ws' ups' w
      → ((j : ℕ) (u : SegmentView) → j ≢ id → get_elem? s.views j ≡ some u
      → Knows words stride s.words r.ups u → Knows words stride ws' ups' u)
      → get_or ws' 0 0 ≡ total held (set s.views id w) % 18446744073709551616
      → Kept words stride record { words = ws'; homes = s.homes; views = set s.views id w }
  framed s r id v w at ws' ups' rank' c len lens else here ranks own others tally = record {
    ups = ups';
    rank = rank';
    roomy = r.roomy;
    small = r.small;
    long = len;
    many = lens;
    counted = λ d b. dite (ℕ_discrete d c)
        (λ is. subst (λ (z : ℕ). Counts (get_or ws' z 0)
        (total (refs z) (set s.views id w) + total (is_at z) ups')
        (total (builds z) (set s.views id w)) (get_elem? ups' z)) (sym is)
        (here (subst (IsSegment words stride) is b)))
        (λ ne. let t = else d ne b in let q = t.1 in let e = t.2 in
        let p = total_set (refs d) s.views id v w at in
        let o = total_set (builds d) s.views id v w at in
        counts_as (get_or s.words d 0) (total (refs d) s.views + total (is_at d) r.ups)
        (total (builds d) s.views) (get_or ws' d 0)
        (total (refs d) (set s.views id w) + total (is_at d) ups')
        (total (builds d) (set s.views id w)) (get_elem? r.ups d) (get_elem? ups' d)
        t.0 (omega arith) (omega arith) t.3 (r.counted d b));
    ranked = ranks;
    seats = λ j u e. ⊎_elim (λ (t : (j ≡ id) × (w ≡ u)). subst (Knows words stride ws' ups') t.1
        own) (λ (t : (j ≢ id) × (get_elem? s.views j ≡ some u)). others j u t.0 t.1
        (r.seats j u t.1)) (at_set s.views id j w u e);
    tally = tally;
  }
