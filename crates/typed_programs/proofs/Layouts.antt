-- Within the limits each shared variable lies behind those before it.
use Rattle.std.proofs.Common.{◌≡◌, ◌∙◌, ℕ, ◌+◌, ◌≤◌, Bool, true, false, cond, Option, Some, None, is_some, option_map, List, [], ◌∷◌, ◌++◌, map, refl, sym, ap, length, arith}
use Rattle.rev_syntax.specs.Trees.{PlacedName, SharedDeclaration, Expression, Declaration, fun, merge, shared, proc}
use Rattle.name_tables.specs.Names.{Name, same}
use Rattle.name_tables.specs.Table.{find}
use Rattle.name_tables.proofs.Tables.{or_else, find-added}
use Rattle.rev_report.specs.declared.limit.Limit.TheVariants as limits
use Rattle.rev_report.specs.Limits.{most}
use Rattle.typed_programs.specs.Program as p
use Rattle.typed_programs.specs.Scopes as scopes
use Rattle.typed_programs.specs.Limits.{cells}
use Rattle.typed_programs.specs.Layout.{merge_at, merge_of, info_behind, variables_behind, procedures_from, LaidOut}
use Rattle.typed_programs.proofs.DeclsWithin.{program_located}

-- ---- a further declaration behind others

-- how many merges there are
abbrev merges : List Declaration → ℕ
merges [] = 0
merges (merge w m j r body ∷ es) = 1 + merges es
merges (fun w ps r body ∷ es) = merges es
merges (shared x ∷ es) = merges es
merges (proc w ps r body ∷ es) = merges es

length_behind : (before : List Declaration) (e : Declaration) → length (before ++ e ∷ []) ≡ length before + 1
length_behind [] e = omega arith
length_behind (d ∷ before) e = let h = length_behind before e in omega arith

pub cells_behind : (before : List Declaration) (e : Declaration)
    → cells (before ++ e ∷ []) ≡ cells before + cells (e ∷ [])
cells_behind [] e = omega arith
cells_behind (shared x ∷ before) e = let h = cells_behind before e in omega arith
cells_behind (fun w ps r body ∷ before) e = cells_behind before e
cells_behind (merge w m j r body ∷ before) e = cells_behind before e
cells_behind (proc w ps r body ∷ before) e = cells_behind before e

merges_behind : (before : List Declaration) (e : Declaration)
    → merges (before ++ e ∷ []) ≡ merges before + merges (e ∷ [])
merges_behind [] e = omega arith
merges_behind (merge w m j r body ∷ before) e = let h = merges_behind before e in omega arith
merges_behind (shared x ∷ before) e = merges_behind before e
merges_behind (fun w ps r body ∷ before) e = merges_behind before e
merges_behind (proc w ps r body ∷ before) e = merges_behind before e

next_of : (o : Option ℕ) (b : Bool) (n : ℕ)
    → option_map (λ k. 1 + k) (or_else o (cond b (Some n) None))
    ≡ or_else (option_map (λ k. 1 + k) o) (cond b (Some (1 + n)) None)
next_of (Some k) b n = refl
next_of None true n = refl
next_of None false n = refl

-- a further merge
merge_behind : (name : Name) (before : List Declaration) (w m j r : PlacedName) (body : Expression)
    → merge_at name (before ++ merge w m j r body ∷ [])
    ≡ or_else (merge_at name before) (cond (same name w.text) (Some (merges before)) None)
merge_behind name [] w m j r body = refl
merge_behind name (merge v n k x e ∷ before) w m j r body =
    by (same name v.text) (merge_behind name before w m j r body)
  where
    by : (b : Bool)
        → merge_at name (before ++ merge w m j r body ∷ [])
        ≡ or_else (merge_at name before) (cond (same name w.text) (Some (merges before)) None)
        → cond b (Some 0) (option_map (λ i. 1 + i) (merge_at name (before ++ merge w m j r body ∷ [])))
        ≡ or_else (cond b (Some 0) (option_map (λ i. 1 + i) (merge_at name before)))
        (cond (same name w.text) (Some (1 + merges before)) None)
    by true h = refl
    by false h = ap (λ o. option_map (λ i. 1 + i) o) h
        ∙ next_of (merge_at name before) (same name w.text) (merges before)
merge_behind name (shared x ∷ before) w m j r body = merge_behind name before w m j r body
merge_behind name (fun v ps x e ∷ before) w m j r body = merge_behind name before w m j r body
merge_behind name (proc v ps x e ∷ before) w m j r body = merge_behind name before w m j r body

-- what is no merge
none_behind : (name : Name) (d : Declaration) → merge_at name (d ∷ []) ≡ None → (before : List Declaration)
    → merge_at name (before ++ d ∷ []) ≡ merge_at name before
none_behind name d h [] = h
none_behind name d h (merge v n k x e ∷ before) =
    ap (λ o. cond (same name v.text) (Some 0) (option_map (λ i. 1 + i) o)) (none_behind name d h before)
none_behind name d h (shared x ∷ before) = none_behind name d h before
none_behind name d h (fun v ps x e ∷ before) = none_behind name d h before
none_behind name d h (proc v ps x e ∷ before) = none_behind name d h before

-- ---- what is passed is what lies before

record Lies (q : p.Passed) (before : List Declaration) : Type 0 where
  number : q.number ≡ length before
  located : q.located ≡ cells before
  count : q.merge_count ≡ merges before
  named : (name : Name) → find name q.merges ≡ merge_at name before

next_number : (q : p.Passed) (before : List Declaration) (e : Declaration) → Lies q before
    → q.number + 1 ≡ length (before ++ e ∷ [])
next_number q before e f = let g = f.number in let h = length_behind before e in omega arith

same_cells : (q : p.Passed) (before : List Declaration) (e : Declaration) → Lies q before → cells (e ∷ []) ≡ 0
    → q.located ≡ cells (before ++ e ∷ [])
same_cells q before e f h = let g = f.located in let d = cells_behind before e in omega arith

same_count : (q : p.Passed) (before : List Declaration) (e : Declaration) → Lies q before → merges (e ∷ []) ≡ 0
    → q.merge_count ≡ merges (before ++ e ∷ [])
same_count q before e f h = let g = f.count in let d = merges_behind before e in omega arith

same_named : (q : p.Passed) (before : List Declaration) (e : Declaration) → Lies q before
    → ((name : Name) → merge_at name (e ∷ []) ≡ None) → (name : Name)
    → find name q.merges ≡ merge_at name (before ++ e ∷ [])
same_named q before e f h name = f.named name ∙ sym (none_behind name e (h name) before)

more_cells : (q : p.Passed) (before : List Declaration) (x : SharedDeclaration) → Lies q before
    → cells before + cells (shared x ∷ []) ≤ most limits.Locations
    → p.located_after q.located (p.cells_in x.size) ≡ cells (before ++ shared x ∷ [])
more_cells q before x f h = let g = f.located in let d = cells_behind before (shared x) in omega arith

lies : (q : p.Passed) (before : List Declaration) (e : Declaration) → Lies q before
    → cells before + cells (e ∷ []) ≤ most limits.Locations → Lies (p.passed_with q e) (before ++ e ∷ [])
lies q before (fun w ps x body) f h = record {
  number = next_number q before (fun w ps x body) f;
  located = same_cells q before (fun w ps x body) f refl;
  count = same_count q before (fun w ps x body) f refl;
  named = same_named q before (fun w ps x body) f (λ name. refl);
}
lies q before (merge w m j x body) f h = record {
  number = next_number q before (merge w m j x body) f;
  located = same_cells q before (merge w m j x body) f refl;
  count = let g = f.count in let d = merges_behind before (merge w m j x body) in omega arith;
  named = λ name. find-added name w.text q.merge_count q.merges
      ∙ (λ i. or_else (f.named name i) (cond (same name w.text) (Some (f.count i)) None))
      ∙ sym (merge_behind name before w m j x body);
}
lies q before (shared x) f h = record {
  number = next_number q before (shared x) f;
  located = more_cells q before x f h;
  count = same_count q before (shared x) f refl;
  named = same_named q before (shared x) f (λ name. refl);
}
lies q before (proc w ps x body) f h = record {
  number = next_number q before (proc w ps x body) f;
  located = same_cells q before (proc w ps x body) f refl;
  count = same_count q before (proc w ps x body) f refl;
  named = same_named q before (proc w ps x body) f (λ name. refl);
}

-- ---- the table of shared variables

row_merge : (q : p.Passed) (before : List Declaration) (o : Option PlacedName) → Lies q before
    → p.merge_number q.merges o ≡ merge_of before o
row_merge q before None f = refl
row_merge q before (Some w) f = f.named w.text

row : (q : p.Passed) (before : List Declaration) (x : SharedDeclaration) → Lies q before
    → scopes.cells_of x.size ≤ most limits.Locations → p.info q x ≡ info_behind before x
row q before x f h = λ i. record {
  decl = f.number i;
  base = f.located i;
  cells = (let e : p.cells_in x.size ≡ scopes.cells_of x.size = omega arith in e) i;
  array = is_some x.size;
  merge = row_merge q before x.by f i;
}

here : (a b n : ℕ) → a + (b + n) ≤ most limits.Locations → a + (b + 0) ≤ most limits.Locations
here a b n h = omega arith

behind : (a b n m : ℕ) → m ≡ a + (b + 0) → a + (b + n) ≤ most limits.Locations → m + n ≤ most limits.Locations
behind a b n m e h = omega arith

laid_behind : (q : p.Passed) (before es : List Declaration) → Lies q before
    → cells before + cells es ≤ most limits.Locations → p.infos q es ≡ map (λ x. x.info) (variables_behind before es)
laid_behind q before [] f h = refl
laid_behind q before (shared x ∷ es) f h =
    let n = here (cells before) (scopes.cells_of x.size) (cells es) h in
    let first = row q before x f (omega arith) in
    let rest = laid_behind (p.passed_with q (shared x)) (before ++ shared x ∷ []) es (lies q before (shared x) f n)
    (behind (cells before) (scopes.cells_of x.size) (cells es) (cells (before ++ shared x ∷ []))
    (cells_behind before (shared x)) h) in
    λ i. first i ∷ rest i
laid_behind q before (fun w ps x body ∷ es) f h =
    laid_behind (p.passed_with q (fun w ps x body)) (before ++ fun w ps x body ∷ []) es
    (lies q before (fun w ps x body) f (omega arith))
    (let e = cells_behind before (fun w ps x body) in omega arith)
laid_behind q before (merge w m j x body ∷ es) f h =
    laid_behind (p.passed_with q (merge w m j x body)) (before ++ merge w m j x body ∷ []) es
    (lies q before (merge w m j x body) f (omega arith))
    (let e = cells_behind before (merge w m j x body) in omega arith)
laid_behind q before (proc w ps x body ∷ es) f h =
    laid_behind (p.passed_with q (proc w ps x body)) (before ++ proc w ps x body ∷ []) es
    (lies q before (proc w ps x body) f (omega arith))
    (let e = cells_behind before (proc w ps x body) in omega arith)

-- ---- the table of procedures

numbered_behind : (d : ℕ) (es : List Declaration) → p.proc_decls d es ≡ map (λ x. x.decl) (procedures_from d es)
numbered_behind d [] = refl
numbered_behind d (proc w ps x body ∷ es) = ap (λ ns. d ∷ ns) (numbered_behind (d + 1) es)
numbered_behind d (fun w ps x body ∷ es) = numbered_behind (d + 1) es
numbered_behind d (merge w m j x body ∷ es) = numbered_behind (d + 1) es
numbered_behind d (shared x ∷ es) = numbered_behind (d + 1) es

pub laid_out : LaidOut
laid_out x h =
    let few = h.locations in record {
      locations = program_located x h;
      variables = laid_behind p.nothing_passed [] x.declarations
          (record { number = refl; located = refl; count = refl; named = λ name. refl }) (omega arith);
      procedures = numbered_behind 0 x.declarations;
    }
