-- The kinds of locations: what a name means and which locations it has, and what is read, written and merged there.
use Rattle.std.proofs.Common.{◌≡◌, ◌∙◌, ℕ, zero, suc, ◌+◌, ◌<◌, ℤ, Bool, true, false, cond, List, [], ◌∷◌, ◌++◌, map, replicate, length, is_some, Option, Some, None, Result, Ok, Err, refl, sym, ap, subst, arith, true≢false, length-append, append_assoc}
use Rattle.std.proofs.lemmas.List.{length-replicate}
use Rattle.rev_num.specs.Value.{kind_of}
use Rattle.rev_num.specs.declared.value.Value.{Value}
use Rattle.rev_num.specs.declared.value.Value.TheVariants as v
use Rattle.rev_num.specs.declared.value.ValueKind.{ValueKind}
use Rattle.rev_num.specs.declared.value.ValueKind.TheVariants as k
use Rattle.rev_num.specs.declared.value.NumFault.{NumFault}
use Rattle.rev_syntax.specs.Trees.{PlacedName, ArraySize, Constant, Declaration, fun, merge, shared, proc, ProgramTree}
use Rattle.name_tables.specs.Names.{Name, same}
use Rattle.typed_programs.specs.Value.{number_of, scalar, array}
use Rattle.typed_programs.specs.declared.names.Holder.{Holder}
use Rattle.typed_programs.specs.Kinds.{Names}
use Rattle.typed_programs.specs.Scopes.{cells_of, holder, shared_named}
use Rattle.typed_programs.specs.Judgement.{ByTyped, FirstTyped, DeclarationsTyped}
use Rattle.typed_programs.specs.Layout.{SharedVariable, merge_at, merge_of, variable_behind, variables_behind}
use Rattle.typed_programs.specs.Limits.{cells}
use Rattle.revision_calculus.specs.Program.{zero_value, constant_value, first_value, variable_named}
use Rattle.revision_calculus.specs.Evaluation.{read_shared}
use Rattle.revision_calculus.specs.State.{Location, view, view_at, write_at, fresh}
use Rattle.revision_calculus.specs.Join.{merges_of, merge_of_numbers, number_value, new_value, overwrite, join_location, Composition, merged, faults, and_later, compose}
use Rattle.revision_calculus.specs.Calculus.{start_values}
use Rattle.revision_calculus.specs.Kinded.{IsOf, IsOfIfAny, declared_kinds, LocationIs, LocationsAre, MergeLaw, MergesLocation, MergesLocations}
use Rattle.revision_calculus.proofs.Values.{OfOk}
use Rattle.revision_calculus.proofs.ValueKinds.{SharedIs}

-- the location of this number is of this kind
abbrev pub IsAt : List ValueKind → ℕ → ValueKind → Type 0
IsAt [] n t = ⊥
IsAt (u ∷ ts) zero t = u ≡ t
IsAt (u ∷ ts) (suc n) t = IsAt ts n t

-- ---- reading and writing

pub seen_is : (t : ValueKind) (m : Location) → LocationIs t m → IsOf t (view m)
seen_is t m is = by m.written is.written
  where
    by : (w : Option Value) → IsOfIfAny t w → IsOf t (elim w [ None ↦ m.base | Some x ↦ x ])
    by None any = is.base
    by (Some x) any = any

pub are_length : (ts : List ValueKind) (ms : List Location) → LocationsAre ts ms → length ms ≡ length ts
are_length [] [] h = refl
are_length [] (m ∷ ms) h = absurd h
are_length (t ∷ ts) [] h = absurd h
are_length (t ∷ ts) (m ∷ ms) h = ap suc (are_length ts ms h.1)

pub seen_at_is : (ts : List ValueKind) (ms : List Location) (n : ℕ) (t : ValueKind) → LocationsAre ts ms → IsAt ts n t
    → IsOf t (view_at ms n)
seen_at_is [] ms n t are at = absurd at
seen_at_is (u ∷ ts) [] n t are at = absurd are
seen_at_is (u ∷ ts) (m ∷ ms) zero t are at = seen_is u m are.0 ∙ at
seen_at_is (u ∷ ts) (m ∷ ms) (suc n) t are at = seen_at_is ts ms n t are.1 at

pub write_is : (ts : List ValueKind) (ms : List Location) (n : ℕ) (t : ValueKind) (x : Value) → LocationsAre ts ms
    → IsAt ts n t → IsOf t x → LocationsAre ts (write_at ms n x)
write_is [] ms n t x are at is = absurd at
write_is (u ∷ ts) [] n t x are at is = absurd are
write_is (u ∷ ts) (m ∷ ms) zero t x are at is = (record { base = are.0.base; written = is ∙ sym at }, are.1)
write_is (u ∷ ts) (m ∷ ms) (suc n) t x are at is = (are.0, write_is ts ms n t x are.1 at is)

-- the snapshot of a child
pub fresh_is : (ts : List ValueKind) (ms : List Location) → LocationsAre ts ms → LocationsAre ts (fresh (map view ms))
fresh_is [] [] are = tt
fresh_is [] (m ∷ ms) are = absurd are
fresh_is (t ∷ ts) [] are = absurd are
fresh_is (t ∷ ts) (m ∷ ms) are = (record { base = seen_is t m are.0; written = tt }, fresh_is ts ms are.1)

-- ---- names and locations

-- The shared variable of a name is what the name means, with one location where it is a scalar, and its locations are
-- of its kind.
abbrev pub Located : List ValueKind → Option SharedVariable → Option Holder → Type 0
Located ts None None = Unit {0}
Located ts None (Some h) = ⊥
Located ts (Some y) None = ⊥
Located ts (Some y) (Some h) =
    (y.info.array ≡ h.array) × (h.array ≡ false → y.info.cells ≡ 1)
    × ((i : ℕ) → i < y.info.cells → IsAt ts (y.info.base + i) h.kind)

at_behind : (before ts : List ValueKind) (n : ℕ) (t : ValueKind) → IsAt ts n t
    → IsAt (before ++ ts) (length before + n) t
at_behind [] ts n t at = subst (λ m. IsAt ts m t) (let e : n ≡ 0 + n = omega arith in e) at
at_behind (u ∷ before) ts n t at =
    subst (λ m. IsAt (u ∷ before ++ ts) m t)
    (let e : suc (length before + n) ≡ suc (length before) + n = omega arith in e) (at_behind before ts n t at)

at_cells : (m : ℕ) (t : ValueKind) (ts : List ValueKind) (n : ℕ) → n < m → IsAt (replicate m t ++ ts) n t
at_cells zero t ts n less = absurd (omega arith)
at_cells (suc m) t ts zero less = refl
at_cells (suc m) t ts (suc n) less = at_cells m t ts n (omega arith)

one_cell : (x : Option ArraySize) → is_some x ≡ false → cells_of x ≡ 1
one_cell None e = refl
one_cell (Some x) e = absurd (true≢false e)

kinds_behind : (before : List Declaration) (e : Declaration) (es : List Declaration)
    → declared_kinds (before ++ e ∷ []) ++ declared_kinds es ≡ declared_kinds before ++ declared_kinds (e ∷ es)
kinds_behind [] (fun w ps r body) es = refl
kinds_behind [] (merge w m j r body) es = refl
kinds_behind [] (proc w ps r body) es = refl
kinds_behind [] (shared x) es = append_assoc (replicate (cells_of x.size) x.holds) [] (declared_kinds es)
kinds_behind (fun w ps r body ∷ before) e es = kinds_behind before e es
kinds_behind (merge w m j r body ∷ before) e es = kinds_behind before e es
kinds_behind (proc w ps r body ∷ before) e es = kinds_behind before e es
kinds_behind (shared x ∷ before) e es =
    append_assoc (replicate (cells_of x.size) x.holds) (declared_kinds (before ++ e ∷ [])) (declared_kinds es)
    ∙ ap (λ ts. replicate (cells_of x.size) x.holds ++ ts) (kinds_behind before e es)
    ∙ sym (append_assoc (replicate (cells_of x.size) x.holds) (declared_kinds before) (declared_kinds (e ∷ es)))

kinds_count : (es : List Declaration) → length (declared_kinds es) ≡ cells es
kinds_count [] = refl
kinds_count (fun w ps r body ∷ es) = kinds_count es
kinds_count (merge w m j r body ∷ es) = kinds_count es
kinds_count (proc w ps r body ∷ es) = kinds_count es
kinds_count (shared x ∷ es) =
    length-append (replicate (cells_of x.size) x.holds) (declared_kinds es)
    ∙ ap (λ n. n + length (declared_kinds es)) (length-replicate (cells_of x.size) x.holds)
    ∙ ap (λ n. cells_of x.size + n) (kinds_count es)

-- what is said of the variables behind one more declaration
located_behind : (before : List Declaration) (e : Declaration) (es : List Declaration) (name : Name)
    → Located (declared_kinds (before ++ e ∷ []) ++ declared_kinds es)
    (variable_named (variables_behind (before ++ e ∷ []) es) name) (shared_named es name)
    → Located (declared_kinds before ++ declared_kinds (e ∷ es))
    (variable_named (variables_behind (before ++ e ∷ []) es) name) (shared_named es name)
located_behind before e es name =
    subst (λ ts. Located ts (variable_named (variables_behind (before ++ e ∷ []) es) name) (shared_named es name))
    (kinds_behind before e es)

-- the variables of declarations behind others, in the locations of all of them
pub located : (before es : List Declaration) (name : Name)
    → Located (declared_kinds before ++ declared_kinds es) (variable_named (variables_behind before es) name)
    (shared_named es name)
located before [] name = tt
located before (fun w ps r body ∷ es) name =
    located_behind before (fun w ps r body) es name (located (before ++ fun w ps r body ∷ []) es name)
located before (merge w m j r body ∷ es) name =
    located_behind before (merge w m j r body) es name (located (before ++ merge w m j r body ∷ []) es name)
located before (proc w ps r body ∷ es) name =
    located_behind before (proc w ps r body) es name (located (before ++ proc w ps r body ∷ []) es name)
located before (shared x ∷ es) name =
    by (same name x.name.text) (located_behind before (shared x) es name (located (before ++ shared x ∷ []) es name))
  where
    by : (d : Bool)
        → Located (declared_kinds before ++ (replicate (cells_of x.size) x.holds ++ declared_kinds es))
        (variable_named (variables_behind (before ++ shared x ∷ []) es) name) (shared_named es name)
        → Located (declared_kinds before ++ (replicate (cells_of x.size) x.holds ++ declared_kinds es))
        (cond d (Some (variable_behind before x)) (variable_named (variables_behind (before ++ shared x ∷ []) es) name))
        (cond d (Some (holder x)) (shared_named es name))
    by true later = (
      refl,
      one_cell x.size,
      λ i less. subst (λ n.
          IsAt (declared_kinds before ++ (replicate (cells_of x.size) x.holds ++ declared_kinds es)) (n + i) x.holds)
          (kinds_count before)
          (at_behind (declared_kinds before) (replicate (cells_of x.size) x.holds ++ declared_kinds es) i x.holds
          (at_cells (cells_of x.size) x.holds (declared_kinds es) i less)),
    )
    by false later = later

-- ---- the start

pub zero_is : (t : ValueKind) → IsOf t (zero_value t)
zero_is k.Int = refl
zero_is k.Bool = refl
zero_is k.Rev = refl

written_kind : (x : Value) → kind_of (constant_value x) ≡ kind_of x
written_kind (v.Int n) = refl
written_kind (v.Bool b) = refl
written_kind (v.Rev q) = refl

first_is : (t : ValueKind) (c : Option Constant) → FirstTyped c t → IsOf t (first_value t c)
first_is t None typed = zero_is t
first_is t (Some c) typed = written_kind c.value ∙ typed

cells_are : (n : ℕ) (t : ValueKind) (x : Value) (ts : List ValueKind) (xs : List Value) → IsOf t x
    → LocationsAre ts (fresh xs) → LocationsAre (replicate n t ++ ts) (fresh (replicate n x ++ xs))
cells_are zero t x ts xs is are = are
cells_are (suc n) t x ts xs is are = (record { base = is; written = tt }, cells_are n t x ts xs is are)

pub start_is : (outer inner : Names) (before laid : List Declaration) (es : List Declaration)
    → DeclarationsTyped outer inner before es
    → LocationsAre (declared_kinds es) (fresh (start_values (variables_behind laid es)))
start_is outer inner before laid [] typed = tt
start_is outer inner before laid (fun w ps r body ∷ es) typed =
    start_is outer inner (fun w ps r body ∷ before) (laid ++ fun w ps r body ∷ []) es typed.1
start_is outer inner before laid (merge w m j r body ∷ es) typed =
    start_is outer inner (merge w m j r body ∷ before) (laid ++ merge w m j r body ∷ []) es typed.1
start_is outer inner before laid (proc w ps r body ∷ es) typed =
    start_is outer inner (proc w ps r body ∷ before) (laid ++ proc w ps r body ∷ []) es typed.1
start_is outer inner before laid (shared x ∷ es) typed =
    cells_are (cells_of x.size) x.holds (first_value x.holds x.first) (declared_kinds es)
    (start_values (variables_behind (laid ++ shared x ∷ []) es)) (first_is x.holds x.first typed.0.first)
    (start_is outer inner (shared x ∷ before) (laid ++ shared x ∷ []) es typed.1)

-- ---- joins

-- a location with a merge holds ints
abbrev FitsMerge : ValueKind → Option ℕ → Type 0
FitsMerge t None = Unit {0}
FitsMerge t (Some n) = t ≡ k.Int

abbrev pub MergesFit : List ValueKind → List (Option ℕ) → Type 0
MergesFit [] ns = Unit {0}
MergesFit (t ∷ ts) [] = Unit {0}
MergesFit (t ∷ ts) (n ∷ ns) = FitsMerge t n × MergesFit ts ns

cells_fit : (n : ℕ) (t : ValueKind) (m : Option ℕ) (ts : List ValueKind) (ns : List (Option ℕ)) → FitsMerge t m
    → MergesFit ts ns → MergesFit (replicate n t ++ ts) (replicate n m ++ ns)
cells_fit zero t m ts ns here later = later
cells_fit (suc n) t m ts ns here later = (here, cells_fit n t m ts ns here later)

by_fits : (before laid : List Declaration) (w : Option PlacedName) (t : ValueKind) → ByTyped before w t
    → FitsMerge t (merge_of laid w)
by_fits before laid None t typed = tt
by_fits before laid (Some w) t typed = fits (merge_at w.text laid)
  where
    fits : (n : Option ℕ) → FitsMerge t n
    fits None = tt
    fits (Some n) = typed.1

pub merges_fit : (outer inner : Names) (before laid : List Declaration) (es : List Declaration)
    → DeclarationsTyped outer inner before es → MergesFit (declared_kinds es) (merges_of (variables_behind laid es))
merges_fit outer inner before laid [] typed = tt
merges_fit outer inner before laid (fun w ps r body ∷ es) typed =
    merges_fit outer inner (fun w ps r body ∷ before) (laid ++ fun w ps r body ∷ []) es typed.1
merges_fit outer inner before laid (merge w m j r body ∷ es) typed =
    merges_fit outer inner (merge w m j r body ∷ before) (laid ++ merge w m j r body ∷ []) es typed.1
merges_fit outer inner before laid (proc w ps r body ∷ es) typed =
    merges_fit outer inner (proc w ps r body ∷ before) (laid ++ proc w ps r body ∷ []) es typed.1
merges_fit outer inner before laid (shared x ∷ es) typed =
    cells_fit (cells_of x.size) x.holds (merge_of laid x.by) (declared_kinds es)
    (merges_of (variables_behind (laid ++ shared x ∷ []) es)) (by_fits before laid x.by x.holds typed.0.by)
    (merges_fit outer inner (shared x ∷ before) (laid ++ shared x ∷ []) es typed.1)

module _ (p : ProgramTree) where
  abbrev LocationOf : ValueKind → Result Location NumFault → Type 0
  LocationOf t (Ok m) = LocationIs t m
  LocationOf t (Err f) = Unit {0}

  taken_is : (t : ValueKind) (m : Location) (a : Result Value NumFault) → LocationIs t m → OfOk (IsOf t) a
      → LocationOf t (overwrite m a)
  taken_is t m (Ok x) is ok = record { base = is.base; written = ok }
  taken_is t m (Err f) is ok = tt

  number_is : (t : ValueKind) (a : Result ℤ NumFault) → t ≡ k.Int → OfOk (IsOf t) (number_value a)
  number_is t (Ok z) fits = sym fits
  number_is t (Err f) fits = tt

  value_merged : (t : ValueKind) (n : Option ℕ) (m j : Location) (x : Value) → FitsMerge t n → IsOf t x
      → OfOk (IsOf t) (new_value p n m j x)
  value_merged t None m j x fits kx = kx
  value_merged t (Some n) m j x fits kx =
      number_is t (merge_of_numbers p n (number_of (view m)) (number_of x) (number_of j.base)) fits

  location_merged : (t : ValueKind) (n : Option ℕ) (m j : Location) (w : Option Value) → FitsMerge t n → LocationIs t m
      → LocationIs t j → IsOfIfAny t w → LocationOf t (join_location p n m j w)
  location_merged t n m j None fits is js any = is
  location_merged t n m j (Some x) fits is js any =
      taken_is t m (new_value p n m j x) is (value_merged t n m j x fits any)

  pub compose_is : (n : ℕ) (ts : List ValueKind) (ks : List (Option ℕ)) (ms js cs : List Location) → MergesFit ts ks
      → LocationsAre ts ms → LocationsAre ts js → compose p n ks ms js ≡ merged cs → LocationsAre ts cs
  compose_is n ts [] ms js cs fit are arej e = subst (λ xs. LocationsAre ts xs) (let is : ms ≡ cs = cc in is) are
  compose_is n ts (x ∷ ks) [] js cs fit are arej e = subst (λ xs. LocationsAre ts xs) (let is : [] ≡ cs = cc in is) are
  compose_is n ts (x ∷ ks) (m ∷ ms) [] cs fit are arej e =
      subst (λ xs. LocationsAre ts xs) (let is : m ∷ ms ≡ cs = cc in is) are
  compose_is n [] (x ∷ ks) (m ∷ ms) (j ∷ js) cs fit are arej e = absurd are
  compose_is n (t ∷ ts) (x ∷ ks) (m ∷ ms) (j ∷ js) cs fit are arej e =
      by (λ ds q. compose_is (suc n) ts ks ms js ds fit.1 are.1 arej.1 q) (join_location p x m j j.written)
      (location_merged t x m j j.written fit.0 are.0 arej.0 arej.0.written) (compose p (suc n) ks ms js) refl e
    where
      by : ((ds : List Location) → compose p (suc n) ks ms js ≡ merged ds → LocationsAre ts ds)
          → (a : Result Location NumFault) → LocationOf t a → (later : Composition) → compose p (suc n) ks ms js ≡ later
          → and_later n a later ≡ merged cs → LocationsAre (t ∷ ts) cs
      by rec (Err f) is later q e = absurd cc
      by rec (Ok c) is (faults i f) q e = absurd cc
      by rec (Ok c) is (merged ds) q e =
          subst (λ xs. LocationsAre (t ∷ ts) xs) (let same : c ∷ ds ≡ cs = cc in same) (is, rec ds q)

-- ---- the merges of two revisions

merge_location : (p : ProgramTree) → MergeLaw p → (t : ValueKind) (n : Option ℕ) (m j : Location) (w : Option Value)
    → FitsMerge t n → LocationIs t m → LocationIs t j → IsOfIfAny t w → MergesLocation p n m j w
merge_location p law t None m j w fits is js any = tt
merge_location p law t (Some n) m j None fits is js any = tt
merge_location p law t (Some n) m j (Some x) fits is js any =
    let main : IsOf k.Int (view m) = seen_is t m is ∙ fits in
    let join : IsOf k.Int x = any ∙ fits in
    let root : IsOf k.Int j.base = js.base ∙ fits in
    record { main = main; join = join; root = root; answer = law n (view m) x j.base main join root }

pub merge_locations : (p : ProgramTree) → MergeLaw p
    → (ts : List ValueKind) (ks : List (Option ℕ)) (ms js : List Location) → MergesFit ts ks → LocationsAre ts ms
    → LocationsAre ts js → MergesLocations p ks ms js
merge_locations p law ts [] ms js fit are arej = tt
merge_locations p law ts (n ∷ ks) [] js fit are arej = tt
merge_locations p law ts (n ∷ ks) (m ∷ ms) [] fit are arej = tt
merge_locations p law [] (n ∷ ks) (m ∷ ms) (j ∷ js) fit are arej = absurd are
merge_locations p law (t ∷ ts) (n ∷ ks) (m ∷ ms) (j ∷ js) fit are arej = (
  merge_location p law t n m j j.written fit.0 are.0 arej.0 arej.0.written,
  merge_locations p law ts ks ms js fit.1 are.1 arej.1,
)

-- ---- what is read of a shared variable

pub shared_is : (kinds : List ValueKind) (locations : List Location) (o : Option SharedVariable) (g : Option Holder)
    (h : Holder)
    → LocationsAre kinds locations → Located kinds o g → g ≡ Some h → SharedIs h (read_shared o locations)
shared_is kinds locations o None h are at e = cc
shared_is kinds locations None (Some g) h are at e = absurd at
shared_is kinds locations (Some y) (Some g) h are at e =
    subst (λ x. SharedIs x (read_shared (Some y) locations)) (let same : g ≡ h = cc in same) (by y.info.array refl)
  where
    by : (d : Bool) → y.info.array ≡ d
        → SharedIs g (cond d (array y.info.cells (λ i. view_at locations (y.info.base + i)))
        (scalar (view_at locations y.info.base)))
    by true q = (sym at.0 ∙ q, λ i less. seen_at_is kinds locations (y.info.base + i) g.kind are (at.2 i less))
    by false q =
        let plain : g.array ≡ false = sym at.0 ∙ q in
        let one : y.info.cells ≡ 1 = at.1 plain in
        let first : IsAt kinds (y.info.base + 0) g.kind = at.2 0 (omega arith) in
        let here : y.info.base + 0 ≡ y.info.base = omega arith in
        (plain, seen_at_is kinds locations y.info.base g.kind are (subst (λ n. IsAt kinds n g.kind) here first))
