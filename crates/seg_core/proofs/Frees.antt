-- A segment gets free exactly with its last reference.
use Rattle.std.proofs.Common.{◌⊎◌, ◌≡◌, ℕ, zero, suc, ◌+◌, ◌-◌, ◌<◌, List, [], set, replicate, sym}
use Rattle.std.proofs.Common.{refl, ap, ◌∙◌, subst, arith, ⊎_elim, inl, inr, Option}
use mathlib.Core.Option as m
use mathlib.Core.Logic.{dite}
use native.Mathlib.Decide.{ℕ_discrete}
use lib.ListN.{get_elem?}
use Rattle.atomic_table.proofs.Lists.{set_else}
use Rattle.seg_core.specs.Core.{Seg, free, building, live, Core, total, times, up_is, refs, At}
use Rattle.seg_core.specs.Core.{CountIs, Counted}
use Rattle.seg_core.specs.Steps.{CoreStep, claim, put, publish, share, hand_on, release, collapse}
use Rattle.seg_core.specs.Steps.{joined, seg_to, list_to, Steps, no_delta, with_word, IsFreedAtLast}
use Rattle.seg_core.specs.Steps.{empty}
use Rattle.seg_core.proofs.Counts.{counted_keeps}
use Rattle.seg_core.proofs.Bases.{at_new}

live_parts : (d d' : ℕ → Option ℕ) (p p' n n' : ℕ) → live d p n ≡ live d' p' n' → (d ≡ d')
    × (p ≡ p') × (n ≡ n')
live_parts d d' p p' n n' e = (ap delta e, ap parent e, ap count e) where
  delta : Seg → ℕ → Option ℕ
  delta (live x y z) = x
  delta free = no_delta
  delta (building h x) = x

  parent : Seg → ℕ
  parent (live x y z) = y
  parent free = 0
  parent (building h x) = 0

  count : Seg → ℕ
  count (live x y z) = z
  count free = 0
  count (building h x) = 0

abbrev no_live : Seg → Type 0
no_live (live x y z) = ⊥
no_live free = Unit {0}
no_live (building h x) = Unit {0}

-- what becomes of a live segment
abbrev Out : Seg → (ℕ → Option ℕ) → ℕ → ℕ → Type 0
Out y d p n = ((m : ℕ) × (y ≡ live d p m)) ⊎ ((y ≡ free) × (n ≡ 1))

abbrev Turns : List Seg → List Seg → Type 0
Turns segs segs' = (c : ℕ) (d : ℕ → Option ℕ) (p n : ℕ) → get_elem? segs c ≡ m.some (live d p n)
    → (y : Seg) × (get_elem? segs' c ≡ m.some y) × Out y d p n

seg_turns : (k : Core) (x : ℕ) (was y : Seg) → At k x was
    → ((d : ℕ → Option ℕ) (p n : ℕ) → was ≡ live d p n → Out y d p n)
    → Turns k.segs (set k.segs x y)
seg_turns k x was y at out c d p n is = dite (ℕ_discrete c x)
    (λ e. (
      y,
      ap (get_elem? (set k.segs x y)) e ∙ at_new k.segs x was y at,
      out d p n (m.some-injective was (live d p n) (sym at
          ∙ (ap (get_elem? k.segs) (sym e) ∙ is))),
    ))
    (λ ne. (live d p n, set_else k.segs x c y ne ∙ is, inl (n, refl)))

same_turns : (segs : List Seg) → Turns segs segs
same_turns segs c d p n is = (live d p n, is, inl (n, refl))

recount : (d d' : ℕ → Option ℕ) (p p' n n' m : ℕ) → live d p n ≡ live d' p' n'
    → Out (live d p m) d' p' n'
recount d d' p p' n n' m e = let q = live_parts d d' p p' n n' e in
    inl (m, λ i. live (q.0 i) (q.1 i) m)

last : (d d' : ℕ → Option ℕ) (p p' n n' : ℕ) → n ≡ 1 → live d p n ≡ live d' p' n'
    → Out free d' p' n'
last d d' p p' n n' one e = let q = live_parts d d' p p' n n' e in inr (refl, sym q.2 ∙ one)

turns : (k k' : Core) (s : CoreStep) → Steps k s k' → Turns k.segs k'.segs
turns k k' (claim h c) t = subst (λ (z : Core). Turns k.segs z.segs) (sym t.4)
    (seg_turns k c free (building h no_delta) t.1 (λ d p n e. absurd (subst no_live e tt)))
turns k k' (put h c l w) t = subst (λ (z : Core). Turns k.segs z.segs) (sym t.4)
    (seg_turns k c (building h t.0) (building h (with_word t.0 l w)) t.2
    (λ d p n e. absurd (subst no_live e tt)))
turns k k' (publish h c) t = subst (λ (z : Core). Turns k.segs z.segs) (sym t.5)
    (seg_turns k c (building h t.0) (live t.0 t.1 2) t.3 (λ d p n e. absurd (subst no_live e tt)))
turns k k' (share h c) t = subst (λ (z : Core). Turns k.segs z.segs) (sym t.6)
    (seg_turns k c (live t.0 t.1 t.2) (live t.0 t.1 (t.2 + 1)) t.4
    (λ d p n e. recount t.0 d t.1 p t.2 n (t.2 + 1) e))
turns k k' (hand_on h c to) t = subst (λ (z : Core). Turns k.segs z.segs) (sym t.5)
    (same_turns k.segs)
turns k k' (release h c) t = ⊎_elim
    (λ (q : (t.2 ≡ 1) × (k' ≡ list_to (seg_to k c free) h (joined t.1 t.3))).
    subst (λ (z : Core). Turns k.segs z.segs) (sym q.1)
    (seg_turns k c (live t.0 t.1 t.2) free t.5 (λ d p n e. last t.0 d t.1 p t.2 n q.0 e)))
    (λ (q : (1 < t.2) × (k' ≡ list_to (seg_to k c (live t.0 t.1 (t.2 - 1))) h t.3)).
    subst (λ (z : Core). Turns k.segs z.segs) (sym q.1)
    (seg_turns k c (live t.0 t.1 t.2) (live t.0 t.1 (t.2 - 1)) t.5
    (λ d p n e. recount t.0 d t.1 p t.2 n (t.2 - 1) e)))
    t.7
turns k k' (collapse h c) t = subst (λ (z : Core). Turns k.segs z.segs) (sym t.5)
    (seg_turns k c (live t.0 t.1 1) free t.3 (λ d p n e. last t.0 d t.1 p 1 n refl e))

pub frees_at_last : (k k' : Core) (s : CoreStep) → Counted k → Steps k s k' → IsFreedAtLast k k'
frees_at_last k k' s r t c d p n pos at = let z = turns k k' s t c d p n at in
    let r' = counted_keeps k k' s r t in ⊎_elim
    (λ (q : (m : ℕ) × (z.0 ≡ live d p m)). let at' : At k' c (live d p q.0) = z.1 ∙ ap m.some q.1 in
    let x = r' c (live d p q.0) pos at' in inr (q.0, at', x.0, x.1))
    (λ (q : (z.0 ≡ free) × (n ≡ 1)). let at' : At k' c free = z.1 ∙ ap m.some q.0 in
    inl (at', sym (r c (live d p n) pos at).0 ∙ q.1, r' c free pos at'))
    z.2

none_listed : (c n : ℕ) → total (times c) (replicate n []) ≡ 0
none_listed c zero = refl
none_listed c (suc n) = let r = none_listed c n in omega arith

none_up : (c n : ℕ) → total (up_is c) (replicate n free) ≡ 0
none_up c zero = refl
none_up c (suc n) = let r = none_up c n in omega arith

pub all_free : (n c : ℕ) (x : Seg) → get_elem? (replicate n free) c ≡ m.some x → free ≡ x
all_free zero c x e = absurd (m.some-ne-none x (sym e))
all_free (suc n) zero x e = m.some-injective free x e
all_free (suc n) (suc c) x e = all_free n c x e

pub empty_counted : (segments holders locations : ℕ) → Counted (empty segments holders locations)
empty_counted segments holders locations c x pos at =
    subst (λ (z : Seg). CountIs z (refs (empty segments holders locations) c))
    (all_free segments c x at) (let a = none_listed c holders in let b = none_up c segments in
    omega arith)
