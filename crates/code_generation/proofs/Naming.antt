-- Numbers name what they should.
use Rattle.std.proofs.Common.{◌≡◌, ◌∙◌, ℕ, zero, suc, ◌+◌, Bool, true, false, List, [], ◌∷◌, ◌++◌, length, map, Some, None, refl, ap, subst, arith}
use Rattle.std.specs.Prelude.{slice_get, if◌then◌else◌}
use Rattle.rev_num.specs.declared.value.ValueKind.{ValueKind}
use Rattle.rev_num.proofs.Lists.{get_append_left}
use Rattle.rev_syntax.specs.Trees.{PlacedName, Expression, Statements, Declaration, fun, merge, shared, proc, ProgramTree}
use Rattle.name_tables.specs.Names.{Name, same}
use Rattle.typed_programs.specs.Definitions.{names_of, fun_def, MergeDef, merges_after}
use Rattle.typed_programs.specs.Value.{FunDef}
use Rattle.typed_programs.specs.Kinds.{Callee, Names}
use Rattle.typed_programs.specs.Limits.{cells, funs}
use Rattle.typed_programs.specs.Layout.{SharedVariable, variable_behind, variables_behind, variables, Procedure, procedures_from}
use Rattle.typed_programs.specs.Scopes.{outside, fun_named, proc_named, cells_of}
use Rattle.revision_calculus.specs.Program.{variable_named, procedure_named}
use Rattle.rev_code.specs.declared.code.CodeBlock.{CodeBlock}
use Rattle.rev_code.specs.Variables.{place_from}
use Rattle.code_generation.specs.Numbers.{Numbers, numbers, var_number, fun_number, merge_number, proc_number}
use Rattle.code_generation.specs.Sizes.{statements_prints}
use Rattle.code_generation.specs.Generated.{var_of, fun_block, merge_block, proc_block, value_blocks, body_blocks, code_of}
use Rattle.code_generation.specs.Named.{FunStands, ProcStands, MergeStands}

pub get_right : {A : Type 0} (xs ys : List A) (m n : ℕ) → length xs ≡ m → slice_get (xs ++ ys) (m + n) ≡ slice_get ys n
get_right [] ys m n h = ap (slice_get ys) (omega (arith, h))
get_right (x ∷ xs) ys m n h =
    ap (slice_get (x ∷ xs ++ ys)) (let z : m + n ≡ suc (length xs + n) = omega (arith, h) in z)
    ∙ get_right xs ys (length xs) n refl

-- ---- funs

abbrev IsFun : Numbers → List CodeBlock → ℕ → Callee → Type 0
IsFun n bs k f =
    (r : ValueKind) × (body : Expression) × (f.result ≡ Some r) × (slice_get bs k ≡ Some (fun_block n f.params r body))

fun_found : (n : Numbers) (name : Name) (es : List Declaration) (f : Callee) → fun_named es name ≡ Some f
    → IsFun n (value_blocks n es) (fun_number name es) f
fun_found n name [] f h = absurd (let z : None ≡ Some f = h in cc)
fun_found n name (fun w ps r body ∷ es) f h = by (same name w.text) h (fun_found n name es f)
  where
    by : (d : Bool) → (if d then Some (record { params = ps; result = Some r }) else fun_named es name) ≡ Some f
        → (fun_named es name ≡ Some f → IsFun n (value_blocks n es) (fun_number name es) f)
        → IsFun n (fun_block n ps r body ∷ value_blocks n es) (if d then 0 else suc (fun_number name es)) f
    by true e rec =
        subst (λ g. IsFun n (fun_block n ps r body ∷ value_blocks n es) 0 g)
        (let z : record { params = ps; result = Some r } ≡ f = cc in z) (r, body, refl, refl)
    by false e rec = rec e
fun_found n name (merge w m j r body ∷ es) f h = fun_found n name es f h
fun_found n name (shared x ∷ es) f h = fun_found n name es f h
fun_found n name (proc w ps r body ∷ es) f h = fun_found n name es f h

pub fun_stands : (p : ProgramTree) (name : Name) (f : Callee) → fun_named p.declarations name ≡ Some f
    → FunStands p name f
fun_stands p name f h =
    let d = fun_found (numbers p) name p.declarations f h in
    record {
      result = d.0;
      body = d.1;
      gives = d.2;
      stands = get_append_left (value_blocks (numbers p) p.declarations)
          (body_blocks (numbers p) (outside p.declarations) p.declarations p.main 0) (fun_number name p.declarations)
          (fun_block (numbers p) f.params d.0 d.1) d.3;
    }

-- ---- merges

abbrev IsMerge : Numbers → List CodeBlock → ℕ → MergeDef → Type 0
IsMerge n bs k d =
    (m : PlacedName) × (j : PlacedName) × (r : PlacedName) × (d.params ≡ m.text ∷ j.text ∷ r.text ∷ [])
    × (slice_get bs k ≡ Some (merge_block n m j r d.body))

merge_found : (n : Numbers) (fs : List FunDef) (es : List Declaration) (k : ℕ) (d : MergeDef)
    → slice_get (merges_after fs es) k ≡ Some d → IsMerge n (value_blocks n es) (merge_number k es) d
merge_found n fs [] k d h = absurd (let z : None ≡ Some d = h in cc)
merge_found n fs (fun w ps r body ∷ es) k d h = merge_found n (fun_def w ps body ∷ fs) es k d h
merge_found n fs (merge w m j r body ∷ es) zero d h =
    subst (λ g. IsMerge n (merge_block n m j r body ∷ value_blocks n es) 0 g)
    (let z : record { name = w.text; params = m.text ∷ j.text ∷ r.text ∷ []; body = body; funs = fs } ≡ d = cc in z)
    (m, j, r, refl, refl)
merge_found n fs (merge w m j r body ∷ es) (suc k) d h = merge_found n fs es k d h
merge_found n fs (shared x ∷ es) k d h = merge_found n fs es k d h
merge_found n fs (proc w ps r body ∷ es) k d h = merge_found n fs es k d h

pub merge_stands : (p : ProgramTree) (k : ℕ) (d : MergeDef) → slice_get (merges_after [] p.declarations) k ≡ Some d
    → MergeStands p k d
merge_stands p k d h =
    let g = merge_found (numbers p) [] p.declarations k d h in
    record {
      m = g.0;
      j = g.1;
      root = g.2;
      params = g.3;
      stands = get_append_left (value_blocks (numbers p) p.declarations)
          (body_blocks (numbers p) (outside p.declarations) p.declarations p.main 0) (merge_number k p.declarations)
          (merge_block (numbers p) g.0 g.1 g.2 d.body) g.4;
    }

-- ---- procedures

pub values_count : (n : Numbers) (es : List Declaration) → length (value_blocks n es) ≡ funs es
values_count n [] = refl
values_count n (fun w ps r body ∷ es) = let z = values_count n es in omega (arith, z)
values_count n (merge w m j r body ∷ es) = let z = values_count n es in omega (arith, z)
values_count n (shared x ∷ es) = values_count n es
values_count n (proc w ps r body ∷ es) = values_count n es

abbrev IsProc : Numbers → Names → List CodeBlock → ℕ → Callee → Procedure → Type 0
IsProc n c bs k f q =
    (layout : ℕ) × (q.params ≡ names_of f.params)
    × (slice_get bs k ≡ Some (proc_block n c f.params f.result q.body layout))

proc_found : (n : Numbers) (c : Names) (name : Name) (es : List Declaration) (main : Statements) (layout d : ℕ)
    (f : Callee)
    → proc_named es name ≡ Some f
    → IsProc n c (body_blocks n c es main layout) (proc_number name es) f (procedure_named (procedures_from d es) name)
proc_found n c name [] main layout d f h = absurd (let z : None ≡ Some f = h in cc)
proc_found n c name (proc w ps r body ∷ es) main layout d f h =
    by (same name w.text) h (proc_found n c name es main (layout + statements_prints body) (d + 1) f)
  where
    later : Procedure
    later = procedure_named (procedures_from (d + 1) es) name

    here : Procedure
    here = record { decl = d; name = w.text; params = names_of ps; body = body }

    rest : List CodeBlock
    rest = body_blocks n c es main (layout + statements_prints body)

    by : (x : Bool) → (if x then Some (record { params = ps; result = r }) else proc_named es name) ≡ Some f
        → (proc_named es name ≡ Some f → IsProc n c rest (proc_number name es) f later)
        → IsProc n c (proc_block n c ps r body layout ∷ rest) (if x then 0 else suc (proc_number name es)) f
        (if x then here else later)
    by true e rec =
        subst (λ g. IsProc n c (proc_block n c ps r body layout ∷ rest) 0 g here)
        (let z : record { params = ps; result = r } ≡ f = cc in z) (layout, refl, refl)
    by false e rec = rec e
proc_found n c name (fun w ps r body ∷ es) main layout d f h = proc_found n c name es main layout (d + 1) f h
proc_found n c name (merge w m j r body ∷ es) main layout d f h = proc_found n c name es main layout (d + 1) f h
proc_found n c name (shared x ∷ es) main layout d f h = proc_found n c name es main layout (d + 1) f h

pub proc_stands : (p : ProgramTree) (name : Name) (f : Callee) → proc_named p.declarations name ≡ Some f
    → ProcStands p name f
proc_stands p name f h =
    let d = proc_found (numbers p) (outside p.declarations) name p.declarations p.main 0 0 f h in
    record {
      layout = d.0;
      params = d.1;
      stands = get_right (value_blocks (numbers p) p.declarations)
          (body_blocks (numbers p) (outside p.declarations) p.declarations p.main 0) (funs p.declarations)
          (proc_number name p.declarations) (values_count (numbers p) p.declarations)
          ∙ d.2;
    }

-- ---- variables

cells_append : (xs ys : List Declaration) → cells (xs ++ ys) ≡ cells xs + cells ys
cells_append [] ys = omega arith
cells_append (shared x ∷ xs) ys = let z = cells_append xs ys in omega (arith, z)
cells_append (fun w ps r body ∷ xs) ys = cells_append xs ys
cells_append (merge w m j r body ∷ xs) ys = cells_append xs ys
cells_append (proc w ps r body ∷ xs) ys = cells_append xs ys

abbrev Lies : List Declaration → ℕ → List SharedVariable → ℕ → SharedVariable → Type 0
Lies all first xs k x =
    place_from first (map (var_of all) xs) k ≡ Some (record { var = var_of all x; first = x.info.base })

same_first : (all : List Declaration) (before : List Declaration) (e : Declaration) (xs : List SharedVariable) (k : ℕ)
    (x : SharedVariable)
    → cells (e ∷ []) ≡ 0 → Lies all (cells (before ++ e ∷ [])) xs k x → Lies all (cells before) xs k x
same_first all before e xs k x z h =
    subst (λ m. Lies all m xs k x)
    (let a = cells_append before (e ∷ []) in let q : cells (before ++ e ∷ []) ≡ cells before = omega (arith, a, z) in q)
    h

var_found : (all before es : List Declaration) (name : Name) (x : SharedVariable)
    → variable_named (variables_behind before es) name ≡ Some x
    → Lies all (cells before) (variables_behind before es) (var_number name (variables_behind before es)) x
var_found all before [] name x h = absurd (let z : None ≡ Some x = h in cc)
var_found all before (shared y ∷ es) name x h =
    by (same name y.name.text) h (var_found all (before ++ shared y ∷ []) es name x)
  where
    rest : List SharedVariable
    rest = variables_behind (before ++ shared y ∷ []) es

    one : SharedVariable
    one = variable_behind before y

    by : (d : Bool) → (if d then Some one else variable_named rest name) ≡ Some x
        → (variable_named rest name ≡ Some x → Lies all (cells (before ++ shared y ∷ [])) rest (var_number name rest) x)
        → Lies all (cells before) (one ∷ rest) (if d then 0 else suc (var_number name rest)) x
    by true e rec = subst (λ g. Lies all (cells before) (one ∷ rest) 0 g) (let z : one ≡ x = cc in z) refl
    by false e rec =
        subst (λ m. Lies all m rest (var_number name rest) x)
        (let a = cells_append before (shared y ∷ []) in
        let q : cells (before ++ shared y ∷ []) ≡ cells before + cells_of y.size = omega (arith, a) in
        q)
        (rec e)
var_found all before (fun w ps r body ∷ es) name x h =
    same_first all before (fun w ps r body) (variables_behind (before ++ fun w ps r body ∷ []) es) _ x refl
    (var_found all (before ++ fun w ps r body ∷ []) es name x h)
var_found all before (merge w m j r body ∷ es) name x h =
    same_first all before (merge w m j r body) (variables_behind (before ++ merge w m j r body ∷ []) es) _ x refl
    (var_found all (before ++ merge w m j r body ∷ []) es name x h)
var_found all before (proc w ps r body ∷ es) name x h =
    same_first all before (proc w ps r body) (variables_behind (before ++ proc w ps r body ∷ []) es) _ x refl
    (var_found all (before ++ proc w ps r body ∷ []) es name x h)

pub variable_lies : (p : ProgramTree) (name : Name) (x : SharedVariable) → variable_named (variables p) name ≡ Some x
    → place_from 0 (code_of p).vars ((numbers p).var name)
    ≡ Some (record { var = var_of p.declarations x; first = x.info.base })
variable_lies p name x h = var_found p.declarations [] p.declarations name x h
