-- The merges of locations: as many as there are locations, each declared.
use Rattle.std.proofs.Common.{◌≡◌, ℕ, zero, suc, ◌+◌, ◌<◌, ◌≤◌, ◌⊎◌, inl, inr, Bool, true, false, cond, List, [], ◌∷◌, ◌++◌, length, map, replicate, slice_get, Option, Some, None, option_map, refl, sym, ap, ◌∙◌, arith, append_assoc, length-append}
use Rattle.std.proofs.lemmas.List.{length-replicate}
use Rattle.rev_syntax.specs.Trees.{PlacedName, Declaration, fun, merge, shared, proc, ProgramTree}
use Rattle.name_tables.specs.Names.{Name, same}
use Rattle.typed_programs.specs.FunRules.{merge_decls}
use Rattle.typed_programs.specs.Scopes.{cells_of}
use Rattle.typed_programs.specs.Limits.{cells}
use Rattle.typed_programs.specs.Layout.{SharedVariable, merge_at, merge_of, variables_behind, variables}
use Rattle.revision_calculus.specs.Join.{merges_of}
use Rattle.revision_state.specs.Tables.{merges_in}

-- ---- as many as there are locations

merges_count : (before es : List Declaration) → length (merges_of (variables_behind before es)) ≡ cells es
merges_count before [] = refl
merges_count before (shared x ∷ es) =
    length-append (replicate (cells_of x.size) (merge_of before x.by))
    (merges_of (variables_behind (before ++ shared x ∷ []) es))
    ∙ ap (λ n. n + length (merges_of (variables_behind (before ++ shared x ∷ []) es)))
    (length-replicate (cells_of x.size) (merge_of before x.by))
    ∙ ap (λ n. cells_of x.size + n) (merges_count (before ++ shared x ∷ []) es)
merges_count before (fun w ps r body ∷ es) = merges_count (before ++ fun w ps r body ∷ []) es
merges_count before (merge w m j r body ∷ es) = merges_count (before ++ merge w m j r body ∷ []) es
merges_count before (proc w ps r body ∷ es) = merges_count (before ++ proc w ps r body ∷ []) es

pub merge_count : (p : ProgramTree) → length (merges_of (variables p)) ≡ cells p.declarations
merge_count p = merges_count [] p.declarations

-- ---- each declared

declared_at : (name : Name) (es : List Declaration) (d k : ℕ) → merge_at name es ≡ Some k
    → k < length (merge_decls d es)
declared_at name [] d k h = cc
declared_at name (merge w m j r body ∷ es) d k h =
    by (same name w.text) (merge_at name es) h (declared_at name es (d + 1))
  where
    by : (b : Bool) (later : Option ℕ) → cond b (Some 0) (option_map (λ n. 1 + n) later) ≡ Some k
        → ((i : ℕ) → later ≡ Some i → i < length (merge_decls (d + 1) es)) → k < suc (length (merge_decls (d + 1) es))
    by true later e below = let z : 0 ≡ k = cc in omega arith
    by false None e below = cc
    by false (Some i) e below = let z : 1 + i ≡ k = cc in let lt = below i refl in omega arith
declared_at name (fun w ps r body ∷ es) d k h = declared_at name es (d + 1) k h
declared_at name (shared x ∷ es) d k h = declared_at name es (d + 1) k h
declared_at name (proc w ps r body ∷ es) d k h = declared_at name es (d + 1) k h

more_declared : (before es : List Declaration) (d : ℕ)
    → length (merge_decls d before) ≤ length (merge_decls d (before ++ es))
more_declared [] es d = omega arith
more_declared (merge w m j r body ∷ before) es d = let h = more_declared before es (d + 1) in omega arith
more_declared (fun w ps r body ∷ before) es d = more_declared before es (d + 1)
more_declared (shared x ∷ before) es d = more_declared before es (d + 1)
more_declared (proc w ps r body ∷ before) es d = more_declared before es (d + 1)

declared_by : (before es : List Declaration) (by : Option PlacedName) (n : ℕ) → merge_of before by ≡ Some n
    → n < length (merge_decls 0 (before ++ es))
declared_by before es None n h = cc
declared_by before es (Some w) n h =
    let lt = declared_at w.text before 0 n h in
    let le = more_declared before es 0 in
    omega arith

one_of : {A : Type 0} (count : ℕ) (x : A) (xs : List A) (k : ℕ) (y : A) → slice_get (replicate count x ++ xs) k ≡ Some y
    → (x ≡ y) ⊎ ((j : ℕ) × (slice_get xs j ≡ Some y))
one_of zero x xs k y h = inr (k, h)
one_of (suc count) x xs zero y h = inl (cc)
one_of (suc count) x xs (suc k) y h = one_of count x xs k y h

known_in : (ds before es : List Declaration) → ds ≡ before ++ es → (k n : ℕ)
    → slice_get (merges_of (variables_behind before es)) k ≡ Some (Some n) → n < length (merge_decls 0 ds)
known_in ds before [] e k n h = cc
known_in ds before (shared x ∷ es) e k n h =
    by (one_of (cells_of x.size) (merge_of before x.by) (merges_of (variables_behind (before ++ shared x ∷ []) es)) k
    (Some n) h)
    (known_in ds (before ++ shared x ∷ []) es (e ∙ sym (append_assoc before (shared x ∷ []) es)))
  where
    by : (merge_of before x.by ≡ Some n)
        ⊎ ((j : ℕ) × (slice_get (merges_of (variables_behind (before ++ shared x ∷ []) es)) j ≡ Some (Some n)))
        → ((k n : ℕ) → slice_get (merges_of (variables_behind (before ++ shared x ∷ []) es)) k ≡ Some (Some n)
        → n < length (merge_decls 0 ds))
        → n < length (merge_decls 0 ds)
    by (inl here) later =
        let lt = declared_by before (shared x ∷ es) x.by n here in
        let same_length : length (merge_decls 0 ds) ≡ length (merge_decls 0 (before ++ shared x ∷ es)) =
        ap (λ t. length (merge_decls 0 t)) e in
        omega arith
    by (inr there) later = later there.0 n there.1
known_in ds before (fun w ps r body ∷ es) e k n h =
    known_in ds (before ++ fun w ps r body ∷ []) es (e ∙ sym (append_assoc before (fun w ps r body ∷ []) es)) k n h
known_in ds before (merge w m j r body ∷ es) e k n h =
    known_in ds (before ++ merge w m j r body ∷ []) es (e ∙ sym (append_assoc before (merge w m j r body ∷ []) es)) k n
    h
known_in ds before (proc w ps r body ∷ es) e k n h =
    known_in ds (before ++ proc w ps r body ∷ []) es (e ∙ sym (append_assoc before (proc w ps r body ∷ []) es)) k n h

pub merge_known : (p : ProgramTree) (k n : ℕ) → slice_get (merges_of (variables p)) k ≡ Some (Some n)
    → n < length (merge_decls 0 p.declarations)
merge_known p k n h = known_in p.declarations [] p.declarations refl k n h

-- ---- row by row

pub merges_by_row : (xs : List SharedVariable) → merges_in (map (λ x. x.info) xs) ≡ merges_of xs
merges_by_row [] = refl
merges_by_row (x ∷ xs) = ap (λ t. replicate x.info.cells x.info.merge ++ t) (merges_by_row xs)
