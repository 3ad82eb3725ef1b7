-- Lists that are mapped, and the core that the cells show.
--   elem_at, map_at, map_inside, map_past   what stands at an index
--   segs_to, lists_to                       a write of one segment, and of one holder
use Rattle.std.proofs.Common.{◌≡◌, ◌≢◌, ℕ, zero, suc, ◌<◌, ◌≤◌, List, [], ◌∷◌, length, get_or, set}
use Rattle.std.proofs.Common.{map, sym, refl, ap, ◌∙◌, subst, arith, Option, None, Some, Bool, true}
use Rattle.std.proofs.Common.{false, eqb, eq-eqb, ne_eqb, MatchBool}
use mathlib.Core.Option as m
use mathlib.Core.Logic.{dite}
use native.Mathlib.Decide.{ℕ_discrete}
use lib.ListN.{get_elem?}
use Rattle.seg_core.specs.declared.segment.Segment.{Segment}
use Rattle.seg_core.specs.declared.segment.Stage.{Stage}
use Rattle.seg_core.specs.declared.segment.Stage.TheVariants as stage
use Rattle.seg_core.specs.declared.segment.References.{References}
use Rattle.seg_core.specs.Core.{Seg, free, building, live}
use Rattle.seg_core.specs.Steps.{BuildsNone, seg_to, list_to, no_delta, with_word}
use Rattle.seg_core.specs.Shape.{shape, seg_of, list_of, core_in, IsBuiltBy}

pub elem_at : {A : Type 0} (xs : List A) (i : ℕ) (x : A) → x ≡ get_or xs i x → i < length xs
    → get_elem? xs i ≡ m.some x
elem_at [] i x e h = absurd (omega arith)
elem_at (y ∷ ys) zero x e h = ap m.some (sym e)
elem_at (y ∷ ys) (suc i) x e h = elem_at ys i x e (omega arith)

pub map_at : {A B : Type 0} (f : A → B) (xs : List A) (i : ℕ) (x : A) → get_elem? xs i ≡ m.some x
    → get_elem? (map f xs) i ≡ m.some (f x)
map_at f [] i x e = absurd (m.some-ne-none x (sym e))
map_at f (y ∷ ys) zero x e = ap (λ z. m.some (f z)) (m.some-injective y x e)
map_at f (y ∷ ys) (suc i) x e = map_at f ys i x e

pub map_inside : {A B : Type 0} (f : A → B) (xs : List A) (i : ℕ) (y : B)
    → get_elem? (map f xs) i ≡ m.some y → i < length xs
map_inside f [] i y e = absurd (m.some-ne-none y (sym e))
map_inside f (x ∷ xs) zero y e = omega arith
map_inside f (x ∷ xs) (suc i) y e = let r = map_inside f xs i y e in omega arith

pub map_past : {A B : Type 0} (f : A → B) (xs : List A) (i : ℕ) → length xs ≤ i → (y : B)
    → ¬ (get_elem? (map f xs) i ≡ m.some y)
map_past f xs i h y e = let r = map_inside f xs i y e in omega arith

pub map_from : {A B : Type 0} (f : A → B) (xs : List A) (i : ℕ) (y : B)
    → get_elem? (map f xs) i ≡ m.some y → (x : A) × (get_elem? xs i ≡ m.some x) × (f x ≡ y)
map_from f [] i y e = absurd (m.some-ne-none y (sym e))
map_from f (x ∷ xs) zero y e = (x, refl, m.some-injective (f x) y e)
map_from f (x ∷ xs) (suc i) y e = map_from f xs i y e

map_set : {A B : Type 0} (f : A → B) (xs : List A) (i : ℕ) (x : A)
    → map f (set xs i x) ≡ set (map f xs) i (f x)
map_set f [] i x = refl
map_set f (y ∷ ys) zero x = refl
map_set f (y ∷ ys) (suc i) x = ap (λ zs. f y ∷ zs) (map_set f ys i x)

pub segs_to : (items : List Segment) (holders : List References) (n i : ℕ) (g : Segment) (y : Seg)
    → seg_of g ≡ y → core_in (set items i g) holders n ≡ seg_to (core_in items holders n) (suc i) y
segs_to items holders n i g y e =
    ap (λ (xs : List Seg). record { segs = free ∷ xs; lists = map list_of holders; locations = n })
    (map_set seg_of items i g ∙ ap (set (map seg_of items) i) e)

pub lists_to : (items : List Segment) (holders : List References) (n h : ℕ) (r : References)
    → core_in items (set holders h r) n ≡ list_to (core_in items holders n) h (list_of r)
lists_to items holders n h r =
    ap (λ (xs : List (List ℕ)). record {
      segs = free ∷ map seg_of items;
      lists = xs;
      locations = n;
    }) (map_set list_of holders h r)

pub some_same : {A : Type 0} (x y : A) → Some x ≡ Some y → x ≡ y
some_same {A} x y e = ap pick e where
  pick : Option A → A
  pick None = x
  pick (Some z) = z

pub delta_in : Seg → ℕ → Option ℕ
delta_in free = no_delta
delta_in (building h d) = d
delta_in (live d p n) = d

abbrev IsFree : Seg → Type 0
IsFree free = Unit {0}
IsFree (building h d) = ⊥
IsFree (live d p n) = ⊥

abbrev pub IsLive : Seg → Type 0
IsLive free = ⊥
IsLive (building h d) = ⊥
IsLive (live d p n) = Unit {0}

builder : Seg → ℕ
builder free = 0
builder (building h d) = h
builder (live d p n) = 0

pub free_not_building : (h : ℕ) (d : ℕ → Option ℕ) → ¬ (free ≡ building h d)
free_not_building h d e = subst IsFree e tt

pub same_delta : (s x : Stage) (d e : ℕ → Option ℕ) → x ≢ stage.Free → shape s d ≡ shape x e → d ≡ e
unfolding delta_in
same_delta s stage.Free d e ne q = absurd (ne refl)
same_delta stage.Free (stage.Building h) d e ne q = absurd (subst IsFree q tt)
same_delta stage.Free (stage.Live p n) d e ne q = absurd (subst IsFree q tt)
same_delta (stage.Building a) (stage.Building h) d e ne q = ap delta_in q
same_delta (stage.Live a b) (stage.Building h) d e ne q = ap delta_in q
same_delta (stage.Building a) (stage.Live p n) d e ne q = ap delta_in q
same_delta (stage.Live a b) (stage.Live p n) d e ne q = ap delta_in q

pub more_words : (s : Stage) (d e : ℕ → Option ℕ) (h l w : ℕ) → shape s d ≡ building h e
    → shape s (with_word d l w) ≡ building h (with_word e l w)
unfolding builder delta_in
more_words stage.Free d e h l w q = absurd (subst IsFree q tt)
more_words (stage.Live p n) d e h l w q = absurd (subst IsLive q tt)
more_words (stage.Building a) d e h l w q =
    (λ i. building (builder (q i)) (with_word (delta_in (q i)) l w))

pub built_by : (s : Stage) (d e : ℕ → Option ℕ) (h b : ℕ) → s ≡ stage.Building b
    → shape s d ≡ building h e → b ≡ h
unfolding builder
built_by s d e h b is q = ap builder (sym (ap (λ (z : Stage). shape z d) is) ∙ q)

pub none_built : (items : List Segment) (holders : List References) (n h k : ℕ) → length items ≤ k
    → ((i : ℕ) → i < k → (g : Segment) → get_elem? items i ≡ m.some g → ¬ (IsBuiltBy (seg_of g) h))
    → BuildsNone (core_in items holders n) h
none_built items holders n h k all none zero d e =
    free_not_building h d (m.some-injective free (building h d) e)
none_built items holders n h k all none (suc i) d e = let q =
    map_from seg_of items i (building h d) e in
    none i (let r = map_inside seg_of items i (building h d) e in omega arith) q.0 q.1 (d, q.2)

pub decided : (a b : ℕ) (P : Type 0) → (a ≡ b → P) → (a ≢ b → ¬ P) → MatchBool (eqb a b) P (¬ P)
decided a b P yes_ no_ = dite (ℕ_discrete a b)
    (λ e. subst (λ (z : Bool). MatchBool z P (¬ P)) (sym (eq-eqb a b e)) (yes_ e))
    (λ ne. subst (λ (z : Bool). MatchBool z P (¬ P)) (sym (ne_eqb a b ne)) (no_ ne))

pub was_true : (b : Bool) (P Q : Type 0) → MatchBool b P Q → b ≡ true → P
was_true b P Q t e = subst (λ (z : Bool). MatchBool z P Q) e t

pub was_false : (b : Bool) (P Q : Type 0) → MatchBool b P Q → b ≡ false → Q
was_false b P Q t e = subst (λ (z : Bool). MatchBool z P Q) e t
