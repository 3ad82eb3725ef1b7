-- Lists of references.
use Rattle.std.proofs.Common.{◌≡◌, ◌≢◌, ◌⊎◌, ℕ, zero, suc, ◌+◌, ◌*◌, ◌≤◌, List, [], ◌∷◌, length}
use Rattle.std.proofs.Common.{map, drop, get_or, sym, refl, ap, ◌∙◌, subst, arith, inl, inr, Option, Bool, true}
use Rattle.std.proofs.Common.{false, cond, eqb, eq-eqb, ne_eqb, MatchBool}
use mathlib.Core.Option as m
use mathlib.Core.Logic.{dite}
use native.Mathlib.Decide.{ℕ_discrete}
use lib.ListN.{get_elem?}
use Rattle.seg_core.specs.declared.segment.Segment.{Segment}
use Rattle.seg_core.specs.declared.segment.Stage.{Stage}
use Rattle.seg_core.specs.declared.segment.Stage.TheVariants as stage
use Rattle.seg_core.specs.declared.segment.References.{References}
use Rattle.seg_core.specs.declared.segment.References.TheVariants as refer
use Rattle.seg_core.specs.Core.{Seg, free, building, live, total, times, is_at, up_is, refs}
use Rattle.seg_core.specs.Steps.{joined}
use Rattle.seg_core.specs.Shape.{seg_of, list_of, core_in}
use Rattle.seg_core.specs.Applies.{copies}
use Rattle.seg_core.proofs.Maps.{map_from}

copies_length : (n c : ℕ) → length (copies n c) ≡ n
copies_length zero c = refl
copies_length (suc n) c = let r = copies_length n c in omega arith

pub copies_apart : (n k a b : ℕ) → copies n a ≡ copies k b → n ≡ k
copies_apart n k a b e = sym (copies_length n a)
    ∙ (ap (λ (xs : List ℕ). length xs) e ∙ copies_length k b)

pub refers_by : (ls : List (List ℕ)) (h : ℕ) (xs ys : List ℕ) (b : Bool)
    → get_elem? ls h ≡ m.some xs → MatchBool b (xs ≡ ys) (¬ (xs ≡ ys))
    → MatchBool b (get_elem? ls h ≡ m.some ys) (¬ (get_elem? ls h ≡ m.some ys))
refers_by ls h xs ys true has t = has ∙ ap m.some t
refers_by ls h xs ys false has t = λ e. t (m.some-injective xs ys (sym has ∙ e))

pub joined_suc : (p : ℕ) → joined (suc p) [] ≡ suc p ∷ []
joined_suc p = ap (λ (b : Bool). cond b [] (suc p ∷ [])) (ne_eqb (suc p) 0 (λ e. omega arith))

pub joined_short : (p : ℕ) → length (joined p []) ≤ 1
joined_short p = dite (ℕ_discrete p 0)
    (λ e. subst (λ (xs : List ℕ). length xs ≤ 1)
    (sym (ap (λ (b : Bool). cond b [] (p ∷ [])) (eq-eqb p 0 e))) (omega arith))
    (λ ne. subst (λ (xs : List ℕ). length xs ≤ 1)
    (sym (ap (λ (b : Bool). cond b [] (p ∷ [])) (ne_eqb p 0 ne))) (omega arith))

-- a list of a holder that begins with c has c once or twice
pub one_or_two : (holders : List References) (h c : ℕ) (xs : List ℕ)
    → get_elem? (map list_of holders) h ≡ m.some (c ∷ xs)
    → (get_elem? (map list_of holders) h ≡ m.some (copies 1 c))
    ⊎ (get_elem? (map list_of holders) h ≡ m.some (copies 2 c))
one_or_two holders h c xs e = let q = map_from list_of holders h (c ∷ xs) e in go q.0 q.2 where
  go : (r : References) → list_of r ≡ c ∷ xs
      → (get_elem? (map list_of holders) h ≡ m.some (copies 1 c))
      ⊎ (get_elem? (map list_of holders) h ≡ m.some (copies 2 c))
  go refer.Empty q = let n : 0 ≡ suc (length xs) = ap (λ (ys : List ℕ). length ys) q in
      absurd (omega arith)
  go (refer.Once o) q = inl (e ∙ ap (λ (ys : List ℕ). m.some (c ∷ ys)) (sym (ap (drop 1) q)))
  go (refer.Twice o) q =
      inr (e ∙ (ap (λ (ys : List ℕ). m.some (c ∷ ys)) (sym (ap (drop 1) q))
      ∙ ap (λ (z : ℕ). m.some (c ∷ z ∷ [])) (ap (λ (ys : List ℕ). get_or ys 0 0) q)))

is_at_few : (c p : ℕ) → is_at c p ≤ 1
is_at_few c p = elim (eqb p c) as (λ (b : Bool). cond b 1 0 ≤ 1)
    [ true ↦ omega arith | false ↦ omega arith ]

list_few : (c : ℕ) (r : References) → times c (list_of r) ≤ 2
list_few c refer.Empty = omega arith
list_few c (refer.Once o) = let a = is_at_few c (suc o) in omega arith
list_few c (refer.Twice o) = let a = is_at_few c (suc o) in omega arith

lists_few : (c : ℕ) (rs : List References) → total (times c) (map list_of rs) ≤ 2 * length rs
lists_few c [] = omega arith
lists_few c (r ∷ rs) = let a = list_few c r in let b = lists_few c rs in omega arith

up_few : (c : ℕ) (x : Seg) → up_is c x ≤ 1
up_few c free = omega arith
up_few c (building h d) = omega arith
up_few c (live d p n) = is_at_few c p

ups_few : (c : ℕ) (gs : List Segment) → total (up_is c) (map seg_of gs) ≤ length gs
ups_few c [] = omega arith
ups_few c (g ∷ gs) = let a = up_few c (seg_of g) in let b = ups_few c gs in omega arith

pub refs_few : (items : List Segment) (holders : List References) (n c : ℕ)
    → refs (core_in items holders n) c ≤ 2 * length holders + length items
refs_few items holders n c = let a = lists_few c holders in let b = ups_few c items in omega arith

abbrev IsFree : Stage → Type 0
IsFree stage.Free = ⊥
IsFree (stage.Building h) = Unit {0}
IsFree (stage.Live p n) = Unit {0}

pub building_not_free : (h : ℕ) → stage.Building h ≢ stage.Free
building_not_free h e = subst IsFree e tt

pub live_not_free : (p : Option ℕ) (n : ℕ) → stage.Live p n ≢ stage.Free
live_not_free p n e = subst IsFree e tt
