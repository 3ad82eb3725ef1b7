-- Where variables lie, and what stands there.
use Rattle.std.proofs.Common.{◌≡◌, ◌∙◌, ℕ, zero, suc, ◌+◌, ◌<◌, Bool, true, false, ◌&&◌, ℤ, pos, negsuc, List, [], ◌∷◌, ◌++◌, length, Option, Some, None, refl, sym, ap, subst, arith, true≢false}
use Rattle.std.specs.Prelude.{slice_get, nat_lt, nat_eq, replicate, if◌then◌else◌}
use Rattle.std.proofs.lemmas.Bool.Decides.{nat_tests}
use Rattle.rev_num.specs.declared.value.ValueKind.{ValueKind}
use Rattle.rev_num.specs.declared.value.ValueKind.TheVariants as k
use Rattle.rev_code.specs.declared.code.Code.{Code}
use Rattle.rev_code.specs.declared.code.CodeVar.{CodeVar}
use Rattle.rev_code.specs.Words.{Word, kind_of, start_word}
use Rattle.rev_code.specs.State.{Location, seen, seen_at, written_at}
use Rattle.rev_code.specs.Variables.{Place, place_from, if_scalar, if_array, scalar, array, cell_at, start_locations}
use Rattle.rev_code.specs.Events.{view}
use Rattle.code_rules.specs.Pass.{is_scalar, is_array}
use Rattle.code_rules.specs.Tables.{is_var, has_cells, is_name, is_start, merges_well}
use Rattle.code_soundness.specs.Typed.{IsLocation, AreLocations, location_kinds}
use Rattle.code_soundness.proofs.Lists.{none_some, some_eq, and_parts, not_true, get_append_left, get_append_right}

-- ---- places

get_replicate : {A : Type 0} (n i : ℕ) (x : A) → i < n → slice_get (replicate n x) i ≡ Some x
get_replicate zero i x h = absurd (omega (arith, h))
get_replicate (suc n) zero x h = refl
get_replicate (suc n) (suc i) x h = get_replicate n i x (omega (arith, h))

length_replicate : {A : Type 0} (n : ℕ) (x : A) → length (replicate n x) ≡ n
length_replicate zero x = refl
length_replicate (suc n) x = ap suc (length_replicate n x)

-- the place of variable n
record Placed (first : ℕ) (vs : List CodeVar) (n : ℕ) (v : CodeVar) : Type 0 where
  offset : ℕ
  is : place_from first vs n ≡ Some (record { var = v; first = first + offset })
  kinds : (i : ℕ) → i < v.cells → slice_get (location_kinds vs) (offset + i) ≡ Some v.kind

placed : (vs : List CodeVar) (first n : ℕ) (v : CodeVar) → slice_get vs n ≡ Some v → Placed first vs n v
placed [] first n v h = absurd (none_some h)
placed (u ∷ vs) first zero v h =
    let z : u ≡ v = some_eq h in
    subst (Placed first (u ∷ vs) zero) z (record {
      offset = 0;
      is = ap (λ m. Some (record { var = u; first = m })) (omega arith);
      kinds = λ i less.
          let e : 0 + i ≡ i = omega arith in
          ap (slice_get (location_kinds (u ∷ vs))) e
          ∙ get_append_left (replicate u.cells u.kind) (location_kinds vs) i u.kind
          (get_replicate u.cells i u.kind less);
    })
placed (u ∷ vs) first (suc n) v h =
    let r = placed vs (first + u.cells) n v h in
    record {
      offset = u.cells + r.offset;
      is = r.is ∙ ap (λ m. Some (record { var = v; first = m })) (omega arith);
      kinds = λ i less.
          let l = length_replicate u.cells u.kind in
          let e : u.cells + r.offset + i ≡ length (replicate u.cells u.kind) + (r.offset + i) = omega (arith, l) in
          ap (slice_get (location_kinds (u ∷ vs))) e
          ∙ get_append_right (replicate u.cells u.kind) (location_kinds vs) (r.offset + i) ∙ r.kinds i less;
    }

-- a scalar lies at a location of its kind
pub record IsScalarAt (vs : List CodeVar) (n : ℕ) : Type 0 where
  pub var : CodeVar
  pub is_var : slice_get vs n ≡ Some var
  pub first : ℕ
  pub is : scalar vs n ≡ Some (record { var = var; first = first })
  pub kind : slice_get (location_kinds vs) first ≡ Some var.kind

-- an array lies at locations of its kind
pub record IsArrayAt (vs : List CodeVar) (n : ℕ) : Type 0 where
  pub var : CodeVar
  pub is_var : slice_get vs n ≡ Some var
  pub place : Place
  pub is : array vs n ≡ Some place
  pub same : place.var ≡ var
  pub kind : (i : ℤ) (l : ℕ) → cell_at place i ≡ Some l → slice_get (location_kinds vs) l ≡ Some var.kind

module _ (code : Code) where
  one_cell : (v : CodeVar) → is_var code v ≡ true → v.array ≡ false → v.cells ≡ 1
  one_cell v h a =
      let p = and_parts (is_name v.name && has_cells v.array v.cells && is_start v.kind v.start) (merges_well code v)
      h in
      let p2 = and_parts (is_name v.name && has_cells v.array v.cells) (is_start v.kind v.start) p.0 in
      let p3 = and_parts (is_name v.name) (has_cells v.array v.cells) p2.0 in
      let e : nat_eq v.cells 1 ≡ true = ap (λ d. has_cells d v.cells) (sym a) ∙ p3.1 in
      grind (arith, nat_tests, e)

  pub scalar_at : (vs : List CodeVar) (n : ℕ) → ((v : CodeVar) → slice_get vs n ≡ Some v → is_var code v ≡ true)
      → is_scalar (slice_get vs n) ≡ true → IsScalarAt vs n
  scalar_at vs n well h = by (slice_get vs n) refl h
    where
      by : (o : Option CodeVar) → slice_get vs n ≡ o → is_scalar o ≡ true → IsScalarAt vs n
      by None e g = absurd (true≢false (sym g))
      by (Some v) e g =
          let a = not_true v.array g in
          let p = placed vs 0 n v e in
          let c = one_cell v (well v e) a in
          let z : p.offset + 0 ≡ 0 + p.offset = omega arith in
          record {
            var = v;
            is_var = e;
            first = 0 + p.offset;
            is = ap if_scalar p.is ∙ ap (λ d. if d then None else Some (record { var = v; first = 0 + p.offset })) a;
            kind = ap (slice_get (location_kinds vs)) (sym z) ∙ p.kinds 0 (omega (arith, c));
          }

  pub array_at : (vs : List CodeVar) (n : ℕ) → is_array (slice_get vs n) ≡ true → IsArrayAt vs n
  array_at vs n h = by (slice_get vs n) refl h
    where
      by : (o : Option CodeVar) → slice_get vs n ≡ o → is_array o ≡ true → IsArrayAt vs n
      by None e g = absurd (true≢false (sym g))
      by (Some v) e g =
          let p = placed vs 0 n v e in
          record {
            var = v;
            is_var = e;
            place = record { var = v; first = 0 + p.offset };
            is = ap if_array p.is ∙ ap (λ d. if d then Some (record { var = v; first = 0 + p.offset }) else None) g;
            same = refl;
            kind = λ i l q. cell p i l q;
          }
        where
          cell : (p : Placed 0 vs n v) (i : ℤ) (l : ℕ) → cell_at (record { var = v; first = 0 + p.offset }) i ≡ Some l
              → slice_get (location_kinds vs) l ≡ Some v.kind
          cell p (negsuc i) l q = absurd (none_some q)
          cell p (pos i) l q = inside (nat_lt i v.cells) refl q
            where
              inside : (d : Bool) → nat_lt i v.cells ≡ d → (if d then Some (0 + p.offset + i) else None) ≡ Some l
                  → slice_get (location_kinds vs) l ≡ Some v.kind
              inside false e r = absurd (none_some r)
              inside true e r =
                  let z : 0 + p.offset + i ≡ l = some_eq r in
                  let y : l ≡ p.offset + i = omega (arith, z) in
                  ap (slice_get (location_kinds vs)) y ∙ p.kinds i (grind (arith, nat_tests, e))

-- ---- locations

module _ {H : Type 0} where
  seen_kind : (x : ValueKind) (l : Location H) → IsLocation x l → kind_of (seen l) ≡ x
  seen_kind x l h = by l.written refl
    where
      by : (o : Option (Word H)) → l.written ≡ o → kind_of (elim o [ None ↦ l.snapshot | Some w ↦ w ]) ≡ x
      by None e = h.snapshot
      by (Some w) e = h.written w e

  pub seen_there : (kinds : List ValueKind) (ls : List (Location H)) (n : ℕ) (x : ValueKind) → AreLocations kinds ls
      → slice_get kinds n ≡ Some x → (w : Word H) × (seen_at ls n ≡ Some w) × (kind_of w ≡ x)
  seen_there [] ls n x h e = absurd (none_some e)
  seen_there (y ∷ kinds) [] n x h e = absurd h
  seen_there (y ∷ kinds) (l ∷ ls) zero x h e = (seen l, refl, seen_kind y l h.0 ∙ some_eq e)
  seen_there (y ∷ kinds) (l ∷ ls) (suc n) x h e = seen_there kinds ls n x h.1 e

  pub written_there : (kinds : List ValueKind) (ls : List (Location H)) (n : ℕ) (w : Word H) → AreLocations kinds ls
      → slice_get kinds n ≡ Some (kind_of w) → AreLocations kinds (written_at ls n w)
  written_there [] ls n w h e = absurd (none_some e)
  written_there (y ∷ kinds) [] n w h e = absurd h
  written_there (y ∷ kinds) (l ∷ ls) zero w h e =
      (record { snapshot = h.0.snapshot; written = λ u q. ap kind_of (sym (some_eq q)) ∙ sym (some_eq e) }, h.1)
  written_there (y ∷ kinds) (l ∷ ls) (suc n) w h e = (h.0, written_there kinds ls n w h.1 e)

  pub view_kinds : (kinds : List ValueKind) (ls : List (Location H)) → AreLocations kinds ls
      → AreLocations kinds (view ls)
  view_kinds [] [] h = tt
  view_kinds [] (l ∷ ls) h = absurd h
  view_kinds (y ∷ kinds) [] h = absurd h
  view_kinds (y ∷ kinds) (l ∷ ls) h =
      (record { snapshot = seen_kind y l h.0; written = λ w e. absurd (none_some e) }, view_kinds kinds ls h.1)

start_kind : (H : Type 0) (x : ValueKind) (w : ℕ) → kind_of (start_word {H = H} x w) ≡ x
start_kind H k.Int w = refl
start_kind H k.Bool w = refl
start_kind H k.Rev w = refl

cells_start : (H : Type 0) (v : CodeVar) (cells : ℕ) (kinds : List ValueKind) (ls : List (Location H))
    → AreLocations kinds ls
    → AreLocations (replicate cells v.kind ++ kinds)
    (replicate cells (record { snapshot = start_word v.kind v.start; written = None }) ++ ls)
cells_start H v zero kinds ls h = h
cells_start H v (suc cells) kinds ls h = (
  record { snapshot = start_kind H v.kind v.start; written = λ w e. absurd (none_some e) },
  cells_start H v cells kinds ls h,
)

pub start_kinds : (H : Type 0) (vs : List CodeVar) → AreLocations (location_kinds vs) (start_locations {H = H} vs)
start_kinds H [] = tt
start_kinds H (v ∷ vs) = cells_start H v v.cells (location_kinds vs) (start_locations vs) (start_kinds H vs)
