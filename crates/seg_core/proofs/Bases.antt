-- No step of another holder changes a base.
use Rattle.std.proofs.Common.{◌≡◌, ◌≢◌, ℕ, zero, suc, ◌+◌, ◌-◌, ◌<◌, List, [], ◌∷◌, set, sym, refl}
use Rattle.std.proofs.Common.{ap, ◌∙◌, subst, arith, ⊎_elim, Option}
use mathlib.Core.Option as m
use mathlib.Core.Logic.{dite}
use native.Mathlib.Decide.{ℕ_discrete}
use lib.ListN.{get_elem?}
use Rattle.atomic_table.proofs.Lists.{set_else}
use Rattle.version_map.specs.Overlay.{word_or}
use Rattle.seg_core.specs.Core.{Seg, free, building, live, Core, total, is_at, times, up_is, refs}
use Rattle.seg_core.specs.Core.{At, Has, Counted, through, base_of}
use Rattle.seg_core.specs.Steps.{CoreStep, claim, put, publish, share, hand_on, release, collapse}
use Rattle.seg_core.specs.Steps.{joined, seg_to, list_to, Steps, no_delta, with_word, holder}
use Rattle.seg_core.specs.Steps.{GivesTo, SameBase}
use Rattle.seg_core.proofs.Sums.{total_one, total_two, is_at_same}

module _ (initial : ℕ → ℕ) (l : ℕ) (segs segs' : List Seg) where
  same_through : (f f' : ℕ → ℕ) (o : m.Option Seg)
      → ((d : ℕ → Option ℕ) (p n : ℕ) → o ≡ m.some (live d p n) → f' p ≡ f p)
      → through (initial l) f' l o ≡ through (initial l) f l o
  same_through f f' (m.some (live d p n)) h = ap (λ (z : ℕ). word_or z (d l)) (h d p n refl)
  same_through f f' (m.some free) h = refl
  same_through f f' (m.some (building a d)) h = refl
  same_through f f' m.none h = refl

  -- no chain goes through the segment x
  else_base : (x : ℕ) → ((e : ℕ) → e ≢ x → get_elem? segs' e ≡ get_elem? segs e)
      → ((e : ℕ) (d : ℕ → Option ℕ) (p n : ℕ) → get_elem? segs e ≡ m.some (live d p n) → p ≢ x)
      → (n c : ℕ) → c ≢ x → base_of n initial segs' c l ≡ base_of n initial segs c l
  else_base x same none zero c ne = refl
  else_base x same none (suc n) c ne = let f : ℕ → ℕ = λ p. base_of n initial segs p l in
      let f' : ℕ → ℕ = λ p. base_of n initial segs' p l in
      ap (through (initial l) f' l) (same c ne)
      ∙ same_through f f' (get_elem? segs c)
      (λ d p k e. else_base x same none n p (none c d p k e))

  -- only the count of x changes
  count_base : (x : ℕ) (d : ℕ → Option ℕ) (p k k' : ℕ)
      → ((e : ℕ) → e ≢ x → get_elem? segs' e ≡ get_elem? segs e)
      → get_elem? segs x ≡ m.some (live d p k) → get_elem? segs' x ≡ m.some (live d p k')
      → (n c : ℕ) → base_of n initial segs' c l ≡ base_of n initial segs c l
  count_base x d p k k' same was now zero c = refl
  count_base x d p k k' same was now (suc n) c = let f : ℕ → ℕ = λ p. base_of n initial segs p l in
      let f' : ℕ → ℕ = λ p. base_of n initial segs' p l in
      let go : (q : ℕ) → f' q ≡ f q = λ q. count_base x d p k k' same was now n q in
      dite (ℕ_discrete c x)
      (λ e. ap (λ (z : ℕ). through (initial l) f' l (get_elem? segs' z)) e
      ∙ (ap (through (initial l) f' l) now
      ∙ (ap (λ (z : ℕ). word_or z (d l)) (go p)
      ∙ (ap (through (initial l) f l) (sym was)
      ∙ ap (λ (z : ℕ). through (initial l) f l (get_elem? segs z)) (sym e)))))
      (λ ne. ap (through (initial l) f' l) (same c ne)
      ∙ same_through f f' (get_elem? segs c) (λ d' q k'' e. go q))

pub at_new : {A : Type 0} (xs : List A) (i : ℕ) (v w : A) → get_elem? xs i ≡ m.some v
    → get_elem? (set xs i w) i ≡ m.some w
at_new [] i v w e = absurd (m.some-ne-none v (sym e))
at_new (x ∷ xs) zero v w e = refl
at_new (x ∷ xs) (suc i) v w e = at_new xs i v w e

-- a segment that nothing refers to is no parent, and in no list
no_parent : (k : Core) (x : ℕ) → total (up_is x) k.segs ≡ 0 → (e : ℕ) (d : ℕ → Option ℕ) (p n : ℕ)
    → At k e (live d p n) → p ≢ x
no_parent k x none e d p n at q = let a = total_one (up_is x) k.segs e (live d p n) at in
    let o : is_at x p ≡ 1 = subst (λ (z : ℕ). is_at x z ≡ 1) (sym q) (is_at_same x) in omega arith

not_listed : (k : Core) (x g c : ℕ) (xs : List ℕ) → total (times x) k.lists ≡ 0 → Has k g (c ∷ xs)
    → c ≢ x
not_listed k x g c xs none has q = let a = total_one (times x) k.lists g (c ∷ xs) has in
    let o : is_at x c ≡ 1 = subst (λ (z : ℕ). is_at x z ≡ 1) (sym q) (is_at_same x) in omega arith

-- a segment with one reference, which another holder has
last_listed : (k : Core) (x h g c : ℕ) (ys xs : List ℕ) → refs k x ≡ 1 → g ≢ h → Has k h (x ∷ ys)
    → Has k g (c ∷ xs) → (c ≢ x) × (total (up_is x) k.segs ≡ 0)
last_listed k x h g c ys xs one ne mine has = let own = is_at_same x in
    let a = total_one (times x) k.lists h (x ∷ ys) mine in
    let b = total_two (times x) k.lists h g (x ∷ ys) (c ∷ xs) ne mine has in (
      (λ q. let o : is_at x c ≡ 1 = subst (λ (z : ℕ). is_at x z ≡ 1) (sym q) own in omega arith),
      omega arith,
    )

-- a step on a segment that nothing refers to
bare_step : (k : Core) (x g : ℕ) (y : Seg) (lists : List (List ℕ)) → refs k x ≡ 0
    → ((xs : List ℕ) → Has k g xs → get_elem? lists g ≡ m.some xs)
    → SameBase k (record k { segs = set k.segs x y; lists = lists }) g
bare_step k x g y lists none keep = (
  keep,
  λ c xs pos has n l initial. else_base initial l k.segs (set k.segs x y) x
      (λ e ne. set_else k.segs x e y ne) (no_parent k x (omega arith)) n c
      (not_listed k x g c xs (omega arith) has),
)

count_step : (k : Core) (x g : ℕ) (d : ℕ → Option ℕ) (p n n' : ℕ) (lists : List (List ℕ))
    → At k x (live d p n) → ((xs : List ℕ) → Has k g xs → get_elem? lists g ≡ m.some xs)
    → SameBase k (record k { segs = set k.segs x (live d p n'); lists = lists }) g
count_step k x g d p n n' lists at keep = (
  keep,
  λ c xs pos has j l initial. count_base initial l k.segs (set k.segs x (live d p n')) x d
      p n n' (λ e ne. set_else k.segs x e (live d p n') ne) at
      (at_new k.segs x (live d p n) (live d p n') at) j c,
)

last_step : (k : Core) (x h g : ℕ) (y : Seg) (ys : List ℕ) (lists : List (List ℕ)) → refs k x ≡ 1
    → g ≢ h → Has k h (x ∷ ys) → ((xs : List ℕ) → Has k g xs → get_elem? lists g ≡ m.some xs)
    → SameBase k (record k { segs = set k.segs x y; lists = lists }) g
last_step k x h g y ys lists one ne mine keep = (
  keep,
  λ c xs pos has n l initial. let q = last_listed k x h g c ys xs one ne mine has in
      else_base initial l k.segs (set k.segs x y) x (λ e ne. set_else k.segs x e y ne)
      (no_parent k x q.1) n c q.0,
)

listed : (k : Core) (h g : ℕ) (ys : List ℕ) → g ≢ h → (xs : List ℕ) → Has k g xs
    → get_elem? (set k.lists h ys) g ≡ m.some xs
listed k h g ys ne xs has = set_else k.lists h g ys ne ∙ has

pub bases_keep : (k k' : Core) (s : CoreStep) (g : ℕ) → Counted k → Steps k s k' → holder s ≢ g
    → ¬ (GivesTo s g) → SameBase k k' g
bases_keep k k' (claim h c) g r t ne not = subst (λ (z : Core). SameBase k z g) (sym t.4)
    (bare_step k c g (building h no_delta) k.lists (r c free t.0 t.1) (λ xs has. has))
bases_keep k k' (put h c l w) g r t ne not = subst (λ (z : Core). SameBase k z g) (sym t.4)
    (bare_step k c g (building h (with_word t.0 l w)) k.lists (r c (building h t.0) t.1 t.2)
    (λ xs has. has))
bases_keep k k' (publish h c) g r t ne not = subst (λ (z : Core). SameBase k z g) (sym t.5)
    (bare_step k c g (live t.0 t.1 2) (set k.lists h (c ∷ c ∷ [])) (r c (building h t.0) t.2 t.3)
    (listed k h g (c ∷ c ∷ []) (λ q. ne (sym q))))
bases_keep k k' (share h c) g r t ne not = subst (λ (z : Core). SameBase k z g) (sym t.6)
    (count_step k c g t.0 t.1 t.2 (t.2 + 1) (set k.lists h (c ∷ c ∷ [])) t.4
    (listed k h g (c ∷ c ∷ []) (λ q. ne (sym q))))
bases_keep k k' (hand_on h c to) g r t ne not = subst (λ (z : Core). SameBase k z g) (sym t.5) (
  (λ xs has. set_else (set k.lists h (c ∷ [])) to g (c ∷ []) (λ q. not (sym q))
      ∙ listed k h g (c ∷ []) (λ q. ne (sym q)) xs has),
  (λ e xs pos has n l initial. refl),
)
bases_keep k k' (release h c) g r t ne not = let old = r c (live t.0 t.1 t.2) t.4 t.5 in ⊎_elim
    (λ (q : (t.2 ≡ 1) × (k' ≡ list_to (seg_to k c free) h (joined t.1 t.3))).
    subst (λ (z : Core). SameBase k z g) (sym q.1)
    (last_step k c h g free t.3 (set k.lists h (joined t.1 t.3)) (sym old.0 ∙ q.0)
    (λ z. ne (sym z)) t.6 (listed k h g (joined t.1 t.3) (λ z. ne (sym z)))))
    (λ (q : (1 < t.2) × (k' ≡ list_to (seg_to k c (live t.0 t.1 (t.2 - 1))) h t.3)).
    subst (λ (z : Core). SameBase k z g) (sym q.1)
    (count_step k c g t.0 t.1 t.2 (t.2 - 1) (set k.lists h t.3) t.5
    (listed k h g t.3 (λ z. ne (sym z)))))
    t.7
bases_keep k k' (collapse h c) g r t ne not = let old = r c (live t.0 t.1 1) t.2 t.3 in
    subst (λ (z : Core). SameBase k z g) (sym t.5)
    (last_step k c h g free [] (set k.lists h (joined t.1 [])) (sym old.0) (λ z. ne (sym z)) t.4
    (listed k h g (joined t.1 []) (λ z. ne (sym z))))
