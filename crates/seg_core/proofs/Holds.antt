-- What a state keeps.
use Rattle.std.proofs.Common.{◌≡◌, ℕ, zero, suc, ◌+◌, ◌<◌, List, [], ◌∷◌, ◌++◌, length, map}
use Rattle.std.proofs.Common.{replicate, sym, refl, ap, ◌∙◌, subst, arith, ⊎_elim, length-set}
use mathlib.Core.Option as m
use lib.ListN.{get_elem?}
use Rattle.seg_core.specs.declared.cells.Cells.{Cells}
use Rattle.seg_core.specs.declared.segment.Segment.{Segment}
use Rattle.seg_core.specs.declared.segment.References.{References}
use Rattle.seg_core.specs.declared.step.Applied.{Applied}
use Rattle.seg_core.specs.declared.step.Applied.TheVariants as applied
use Rattle.seg_core.specs.Core.{Seg, free, building, live, Core, Counted}
use Rattle.seg_core.specs.Steps.{CoreStep, Steps, empty}
use Rattle.seg_core.specs.Steps as core
use Rattle.seg_core.specs.Shape.{seg_of, list_of, core_in}
use Rattle.seg_core.specs.Cells.{core_of, IsCounted}
use Rattle.seg_core.specs.Applies.{Makes, Refuses}
use Rattle.seg_core.proofs.Counts.{counted_keeps}

pub to_counted : (k : Core) → IsCounted k → Counted k
to_counted k r c free pos at = r.1 c pos at
to_counted k r c (building h d) pos at = r.2 c h d pos at
to_counted k r c (live d p n) pos at = r.0 c d p n pos at

pub of_counted : (k : Core) → Counted k → IsCounted k
of_counted k r = (
  (λ c d p n pos at. r c (live d p n) pos at),
  (λ c pos at. r c free pos at),
  λ c h d pos at. r c (building h d) pos at,
)

pub kept : (old new : Cells) (s : CoreStep) (answer : Applied) → Counted (core_of old)
    → Makes old s new answer → Refuses old s new answer → Counted (core_of new)
kept old new s applied.Done r makes refuses = counted_keeps (core_of old) (core_of new) s r
    (makes refl)
kept old new s applied.Refused r makes refuses =
    subst (λ (z : Cells). Counted (core_of z)) (sym (refuses refl).0) r

first : List Seg → Seg
first [] = free
first (x ∷ xs) = x

rest : List Seg → List Seg
rest [] = []
rest (x ∷ xs) = xs

more : (gs : List Segment) (n : ℕ) (g : Segment) → map seg_of gs ≡ replicate n free
    → seg_of g ≡ free → map seg_of (gs ++ g ∷ []) ≡ replicate (suc n) free
unfolding first rest
more [] zero g e q = ap (λ (z : Seg). z ∷ []) q
more [] (suc n) g e q = let bad : 0 ≡ suc (length (replicate n free)) =
    ap (λ (l : List Seg). length l) e in absurd (omega arith)
more (x ∷ xs) zero g e q = let bad : suc (length (map seg_of xs)) ≡ 0 =
    ap (λ (l : List Seg). length l) e in absurd (omega arith)
more (x ∷ xs) (suc n) g e q = let h : seg_of x ≡ free = ap first e in
    let t : map seg_of xs ≡ replicate n free = ap rest e in let m' = more xs n g t q in
    (λ i. h i ∷ m' i)

pub one_more : (gs : List Segment) (n : ℕ) (g : Segment) → map seg_of gs ≡ replicate n free
    → seg_of g ≡ free → map seg_of (gs ++ g ∷ []) ≡ replicate (n + 1) free
one_more gs n g e q = more gs n g e q
    ∙ ap (λ (k : ℕ). replicate k free) (let is : suc n ≡ n + 1 = omega arith in is)

pub some_at : {A : Type 0} (xs : List A) (i : ℕ) → i < length xs → (x : A)
    × (get_elem? xs i ≡ m.some x)
some_at [] i h = absurd (omega arith)
some_at (x ∷ xs) zero h = (x, refl)
some_at (x ∷ xs) (suc i) h = some_at xs i (omega arith)

pub starts : (items : List Segment) (holders : List References) (n k : ℕ)
    → map seg_of items ≡ replicate k free → map list_of holders ≡ replicate {A = List ℕ} 65536 []
    → core_in items holders n ≡ empty (suc k) 65536 n
starts items holders n k f h = (λ i. record { segs = free ∷ f i; lists = h i; locations = n })

-- no step adds or takes away a segment
same_size : (k k' : Core) (s : CoreStep) → Steps k s k' → length k'.segs ≡ length k.segs
same_size k k' (core.claim h c) t = ap (λ (z : Core). length z.segs) t.4 ∙ length-set k.segs c _
same_size k k' (core.put h c l w) t = ap (λ (z : Core). length z.segs) t.4 ∙ length-set k.segs c _
same_size k k' (core.publish h c) t = ap (λ (z : Core). length z.segs) t.5 ∙ length-set k.segs c _
same_size k k' (core.share h c) t = ap (λ (z : Core). length z.segs) t.6 ∙ length-set k.segs c _
same_size k k' (core.hand_on h c to) t = ap (λ (z : Core). length z.segs) t.5
same_size k k' (core.release h c) t = ⊎_elim
    (λ q. ap (λ (z : Core). length z.segs) q.1 ∙ length-set k.segs c _)
    (λ q. ap (λ (z : Core). length z.segs) q.1 ∙ length-set k.segs c _)
    t.7
same_size k k' (core.collapse h c) t = ap (λ (z : Core). length z.segs) t.5 ∙ length-set k.segs c _

map_length : (gs : List Segment) → length (map seg_of gs) ≡ length gs
map_length [] = refl
map_length (g ∷ gs) = let r = map_length gs in omega arith

pub sized : (old new : Cells) (s : CoreStep) (answer : Applied) → Makes old s new answer
    → Refuses old s new answer → length new.segments.items ≡ length old.segments.items
sized old new s applied.Done makes refuses = let a = map_length old.segments.items in
    let b = map_length new.segments.items in
    let z = same_size (core_of old) (core_of new) s (makes refl) in omega arith
sized old new s applied.Refused makes refuses = ap (λ (z : Cells). length z.segments.items)
    (refuses refl).0
