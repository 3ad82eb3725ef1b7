-- The table of variables has each of them.
use Rattle.std.proofs.Common.{◌≡◌, ◌∙◌, ℕ, zero, suc, ◌+◌, ◌<◌, ◌≤◌, ◌^◌, Bool, true, false, List, [], ◌∷◌, length, map, drop, sum, get_or, Option, Some, None, refl, sym, ap, subst, arith}
use Rattle.std.specs.Prelude.{slice_get, if◌then◌else◌, ◌&&◌}
use Rattle.std.specs.List.{list_all}
use Rattle.std.proofs.lemmas.Bool.Decides.{nat_tests}
use Rattle.std.proofs.lemmas.List.Sums.{sum_by-cons}
use Rattle.rev_code.specs.declared.code.Code.{Code}
use Rattle.rev_code.specs.declared.code.CodeVar.{CodeVar}
use Rattle.rev_code.specs.Variables.{Place, place_from, if_scalar, if_array, scalar, array}
use Rattle.code_rules.specs.Tables as rules
use Rattle.code_rules.proofs.Limits.{small_parts}
use Rattle.code_soundness.proofs.Basics.{and_parts}
use Rattle.code_soundness.proofs.Lists.{all_at}
use Rattle.code_soundness.specs.AcceptedCode.{IsAccepted, notes_of}
use Rattle.block_run.specs.declared.registers.Variable.{Variable}
use Rattle.block_run.specs.Area.{count, table_from, IsListed, IsTable}

listed_from : (first : ℕ) (vs : List CodeVar) (n : ℕ) (p : Place)
    → ((v : CodeVar) (k : ℕ) → slice_get vs k ≡ Some v → 0 < v.cells) → place_from first vs n ≡ Some p
    → (t : Variable) × (slice_get (table_from first vs) n ≡ Some t) × (p.first ≡ t.first) × (p.var.cells ≡ t.cells)
    × (t.first + t.cells ≤ first + count vs) × (0 < t.cells)
listed_from first [] n p some e = absurd (no_place e)
  where
    no_place : None ≡ Some p → ⊥
    no_place h = cc
listed_from first (v ∷ vs) zero p some e =
    let q : record { var = v; first = first } ≡ p = place_eq e in (
      record { first = first; cells = v.cells },
      refl,
      ap (λ (z : Place). z.first) (sym q),
      ap (λ (z : Place). z.var.cells) (sym q),
      omega arith,
      some v 0 refl,
    )
  where
    place_eq : {x : Place} → Some x ≡ Some p → x ≡ p
    place_eq h = cc
listed_from first (v ∷ vs) (suc n) p some e =
    let q = listed_from (first + v.cells) vs n p (λ u k h. some u (suc k) h) e in
    let w = q.4 in (q.0, q.1, q.2, q.3, omega (arith, w), q.5)

module _ (vs : List CodeVar) (some : (v : CodeVar) (k : ℕ) → slice_get vs k ≡ Some v → 0 < v.cells) where
  listed : (at : Option Place) (n : ℕ) (p : Place) → at ≡ Some p → place_from 0 vs n ≡ Some p
      → IsListed at (table_from 0 vs) n (count vs)
  listed at n p is e =
      let q = listed_from 0 vs n p some e in
      let w = q.4 in
      record {
        variable = q.0;
        is = q.1;
        lies = record { place = p; is = is; first = q.2; cells = q.3; within = omega (arith, w); some = q.5 };
      }

  scalar_place : (o : Option Place) (p : Place) → if_scalar o ≡ Some p → o ≡ Some p
  scalar_place None p h = absurd (no h)
    where
      no : None ≡ Some p → ⊥
      no h = cc
  scalar_place (Some q) p h = by q.var.array h
    where
      by : (d : Bool) → (if d then None else Some q) ≡ Some p → Some q ≡ Some p
      by true h = absurd (let z : None ≡ Some p = h in cc)
      by false h = h

  array_place : (o : Option Place) (p : Place) → if_array o ≡ Some p → o ≡ Some p
  array_place None p h = absurd (no h)
    where
      no : None ≡ Some p → ⊥
      no h = cc
  array_place (Some q) p h = by q.var.array h
    where
      by : (d : Bool) → (if d then Some q else None) ≡ Some p → Some q ≡ Some p
      by false h = absurd (let z : None ≡ Some p = h in cc)
      by true h = h

  pub is_table : count vs < 2 ^ 32 → IsTable vs (table_from 0 vs)
  is_table few = record {
    scalars = λ v p is. listed (scalar vs v) v p is (scalar_place (place_from 0 vs v) p is);
    arrays = λ v p is. listed (array vs v) v p is (array_place (place_from 0 vs v) p is);
    few = few;
  }

-- ---- the rules on tables

count_is : (vs : List CodeVar) → count vs ≡ sum (map (λ v. v.cells) vs)
count_is [] = refl
count_is (v ∷ vs) =
    let e = count_is vs in
    let f = sum_by-cons (λ (k : ℕ). k) v.cells (map (λ (u : CodeVar). u.cells) vs) in
    omega (arith, e, f)

cells_some : (array : Bool) (n : ℕ) → rules.has_cells array n ≡ true → 0 < n
cells_some true n h = grind (arith, nat_tests, h)
cells_some false n h = grind (arith, nat_tests, h)

-- by the limit on locations
pub most_locations : (code : Code) → rules.is_small code ≡ true → count code.vars ≤ 4096
most_locations code small =
    let b : sum (map (λ (v : CodeVar). v.cells) code.vars) ≤ 4096 = (small_parts code small).locations in
    let e = count_is code.vars in
    omega (arith, b, e)

module _ (code : Code) (ok : IsAccepted code (notes_of code)) where
  pub few_locations : count code.vars < 2 ^ 32
  few_locations = let b = most_locations code ok.small in omega (arith, b)

  pub some_cells : (v : CodeVar) (k : ℕ) → slice_get code.vars k ≡ Some v → 0 < v.cells
  some_cells v k e =
      let p = and_parts (rules.blocks_well code && list_all (rules.is_var code) code.vars) (rules.lines_well code)
      ok.named in
      let q = all_at (rules.is_var code) code.vars k v
      (and_parts (rules.blocks_well code) (list_all (rules.is_var code) code.vars) p.0).1 e in
      let r = and_parts (rules.is_name v.name && rules.has_cells v.array v.cells && rules.is_start v.kind v.start)
      (rules.merges_well code v) q in
      let u = and_parts (rules.is_name v.name && rules.has_cells v.array v.cells) (rules.is_start v.kind v.start) r.0 in
      cells_some v.array v.cells (and_parts (rules.is_name v.name) (rules.has_cells v.array v.cells) u.0).1

  pub table_law : (table : List Variable) → table ≡ table_from 0 code.vars → IsTable code.vars table
  table_law table e = subst (IsTable code.vars) (sym e) (is_table code.vars some_cells few_locations)

pub drop_more : (v : CodeVar) (vs : List CodeVar) (n : ℕ) → drop (n + 1) vs ≡ drop (suc n + 1) (v ∷ vs)
drop_more v vs n = let e : suc (n + 1) ≡ suc n + 1 = omega arith in ap (λ k. drop k (v ∷ vs)) e

pub count_drop : (vs : List CodeVar) (n : ℕ) (d : CodeVar) → n < length vs
    → count (drop n vs) ≡ (get_or vs n d).cells + count (drop (n + 1) vs)
count_drop [] n d h = absurd (omega (arith, h))
count_drop (v ∷ vs) zero d h = refl
count_drop (v ∷ vs) (suc n) d h =
    count_drop vs n d (omega (arith, h))
    ∙ ap (λ k. (get_or vs n d).cells + count k)
    (let e : drop (n + 1) vs ≡ drop (suc n + 1) (v ∷ vs) = drop_more v vs n in e)
