-- Each variable of the code is one.
use Rattle.std.proofs.Common.{◌≡◌, ◌∙◌, ◌≢◌, ◌<◌, ◌≤◌, ℕ, zero, suc, ◌+◌, Bool, true, false, not, ◌&&◌, IsTrue, List, [], ◌∷◌, ◌++◌, length, append_assoc, map, Option, Some, None, refl, sym, ap, subst, arith}
use Rattle.std.specs.Prelude.{slice_get, nat_eq, is_some, option_map, if◌then◌else◌}
use Rattle.std.specs.List.{list_all, sum_by}
use Rattle.std.proofs.lemmas.List.Sums.{sum-map, sum_by-cons}
use Rattle.std.proofs.lemmas.Bool.Decides.{nat_tests}
use Rattle.rev_num.specs.declared.value.Value.{Value}
use Rattle.rev_num.specs.declared.value.Value.TheVariants as v
use Rattle.rev_num.specs.declared.value.ValueKind.{ValueKind}
use Rattle.rev_num.specs.declared.value.ValueKind.TheVariants as k
use Rattle.rev_num.specs.Value.{kind_of, same_kind}
use Rattle.rev_num.proofs.Lists.{get_append_left}
use Rattle.rev_syntax.specs.Trees.{PlacedName, Constant, ArraySize, SharedDeclaration, Expression, Declaration, fun, merge, shared, proc}
use Rattle.rev_syntax.specs.Small.{name_formed, by_formed, size_formed, first_formed, declaration_small}
use Rattle.typed_programs.specs.Least.{Among}
use Rattle.name_tables.specs.Names.{Name, same}
use Rattle.typed_programs.proofs.Firsts.{more_among}
use Rattle.typed_programs.specs.Kinds.{Names}
use Rattle.typed_programs.proofs.Lists.{and_parts}
use Rattle.typed_programs.specs.Limits.{cells, funs}
use Rattle.typed_programs.specs.Layout.{merge_at, merge_of, variable_behind, variables_behind}
use Rattle.typed_programs.specs.Scopes.{size_cells, cells_of}
use Rattle.typed_programs.specs.Judgement.{ByTyped, SizeTyped, FirstTyped, SharedTyped, DeclarationsTyped}
use Rattle.revision_calculus.specs.Program.{constant_value, first_value}
use Rattle.rev_code.specs.declared.code.Code.{Code}
use Rattle.rev_code.specs.declared.code.CodeBlock.{CodeBlock}
use Rattle.rev_code.specs.declared.code.CodeVar.{CodeVar}
use Rattle.code_rules.specs.Tables.{has_cells, is_start, is_int_merge, merges_well, is_var, locations}
use Rattle.code_generation.specs.Numbers.{Numbers, merge_number}
use Rattle.code_generation.specs.Generated.{value_word, merge_entry, var_of, merge_block, value_blocks}
use Rattle.code_generation.proofs.Merges.{counted, merge_known}
use Rattle.generated_certificates.proofs.Names.{name_well}
use Rattle.code_generation.proofs.BlockRules.{both}

-- ---- cells and start values

size_well : (size : Option ArraySize) → SizeTyped size → has_cells (is_some size) (cells_of size) ≡ true
size_well None h = refl
size_well (Some x) h =
    (let some : 0 < size_cells x.cells = more (size_cells x.cells) h in grind (arith, nat_tests, some))
  where
    more : (m : ℕ) → m ≢ 0 → 0 < m
    more zero q = absurd (q refl)
    more (suc m) q = omega arith

some_cells : (size : Option ArraySize) → SizeTyped size → 1 ≤ cells_of size
some_cells None h = omega arith
some_cells (Some x) h = more (size_cells x.cells) h
  where
    more : (m : ℕ) → m ≢ 0 → 1 ≤ m
    more zero q = absurd (q refl)
    more (suc m) q = omega arith

constant_starts : (x : Value) → is_start (kind_of x) (value_word (constant_value x)) ≡ true
constant_starts (v.Int n) = refl
constant_starts (v.Bool true) = refl
constant_starts (v.Bool false) = refl
constant_starts (v.Rev h) = refl

start_well : (t : ValueKind) (first : Option Constant) → FirstTyped first t
    → is_start t (value_word (first_value t first)) ≡ true
start_well k.Int None h = refl
start_well k.Bool None h = refl
start_well k.Rev None h = refl
start_well t (Some c) h =
    subst (λ u. is_start u (value_word (constant_value c.value)) ≡ true) h (constant_starts c.value)

-- ---- merges

-- the block of a merge, among those of funs and merges
record MergeAt (n : Numbers) (all : List Declaration) (before : List Declaration) (m : ℕ) : Type 0 where
  x : PlacedName
  y : PlacedName
  z : PlacedName
  body : Expression
  stands : slice_get (value_blocks n all) (merge_number m all) ≡ Some (merge_block n x y z body)
  less : merge_number m all < funs before

merge_stands_at : (n : Numbers) (before rest : List Declaration) (name : Name) (m : ℕ) → merge_at name before ≡ Some m
    → MergeAt n (before ++ rest) before m
merge_stands_at n [] rest name m h = absurd (let q : None ≡ Some m = h in cc)
merge_stands_at n (merge w x y z body ∷ es) rest name m h =
    by (same name w.text) m h (λ j e. merge_stands_at n es rest name j e)
  where
    more : (j : ℕ) → MergeAt n (es ++ rest) es j
        → MergeAt n (merge w x y z body ∷ es ++ rest) (merge w x y z body ∷ es) (suc j)
    more j d = record {
      x = d.x;
      y = d.y;
      z = d.z;
      body = d.body;
      stands = d.stands;
      less = (let l = d.less in omega (arith, l));
    }

    by : (d : Bool) (q : ℕ) → (if d then Some 0 else option_map (λ n. 1 + n) (merge_at name es)) ≡ Some q
        → ((j : ℕ) → merge_at name es ≡ Some j → MergeAt n (es ++ rest) es j)
        → MergeAt n (merge w x y z body ∷ es ++ rest) (merge w x y z body ∷ es) q
    by true q e rec =
        subst (MergeAt n (merge w x y z body ∷ es ++ rest) (merge w x y z body ∷ es)) (let g : 0 ≡ q = cc in g)
        (record { x = x; y = y; z = z; body = body; stands = refl; less = omega arith })
    by false q e rec =
        let c = counted (merge_at name es) q e in
        subst (MergeAt n (merge w x y z body ∷ es ++ rest) (merge w x y z body ∷ es)) (sym c.2) (more c.0 (rec c.0 c.1))
merge_stands_at n (fun w ps r body ∷ es) rest name m h =
    let d = merge_stands_at n es rest name m h in
    record { x = d.x; y = d.y; z = d.z; body = d.body; stands = d.stands; less = (let l = d.less in omega (arith, l)) }
merge_stands_at n (shared s ∷ es) rest name m h =
    let d = merge_stands_at n es rest name m h in
    record { x = d.x; y = d.y; z = d.z; body = d.body; stands = d.stands; less = d.less }
merge_stands_at n (proc w ps r body ∷ es) rest name m h =
    let d = merge_stands_at n es rest name m h in
    record { x = d.x; y = d.y; z = d.z; body = d.body; stands = d.stands; less = d.less }

funs_both : (xs ys : List Declaration) → funs (xs ++ ys) ≡ funs xs + funs ys
funs_both [] ys = omega arith
funs_both (fun w ps r body ∷ xs) ys = let r = funs_both xs ys in omega (arith, r)
funs_both (merge w m j r body ∷ xs) ys = let r = funs_both xs ys in omega (arith, r)
funs_both (shared x ∷ xs) ys = funs_both xs ys
funs_both (proc w ps r body ∷ xs) ys = funs_both xs ys

-- ---- all variables

module _ (outer inner : Names) (code : Code) (n : Numbers) (all : List Declaration) (tail : List CodeBlock)
    (blocks : code.blocks ≡ value_blocks n all ++ tail) (few : funs all ≤ 256) where
  merges_are : (before rest passed : List Declaration) (x : SharedDeclaration) → all ≡ before ++ rest
      → ((e : Declaration) → Among passed e → Among before e) → (by : Option PlacedName) (t : ValueKind)
      → ByTyped passed by t → (cv : CodeVar) → cv.cumulative ≡ is_some by → cv.kind ≡ t
      → cv.merge ≡ merge_entry all (merge_of before by) → merges_well code cv ≡ true
  merges_are before rest passed x whole sub None t ty cv c1 c2 c3 =
      (λ j. if c1 j
      then (same_kind cv.kind k.Int && not (nat_eq cv.merge 65535) && is_int_merge (slice_get code.blocks cv.merge))
      else nat_eq (c3 j) 65535)
  merges_are before rest passed x whole sub (Some w) t ty cv c1 c2 c3 =
      let known = merge_known before w.text ty.0.0 (sub ty.0.0 ty.0.1) ty.0.2 in
      let d = merge_stands_at n before rest w.text known.0 known.1 in
      let number : ℕ = merge_number known.0 (before ++ rest) in
      let is : cv.merge ≡ number = c3 ∙ ap (merge_entry all) known.1 ∙ ap (merge_number known.0) whole in
      let less = d.less in
      let sums = funs_both before rest in
      let total = ap funs whole in
      let small : number < 65535 = omega (arith, less, sums, total, few) in
      let apart : nat_eq number 65535 ≡ false = grind (arith, nat_tests, small) in
      let there : slice_get code.blocks number ≡ Some (merge_block n d.x d.y d.z d.body) =
      ap (λ bs. slice_get bs number) (blocks ∙ ap (λ z. value_blocks n z ++ tail) whole)
      ∙ get_append_left (value_blocks n (before ++ rest)) tail number (merge_block n d.x d.y d.z d.body) d.stands in
      let kind : cv.kind ≡ k.Int = c2 ∙ ty.1 in
      (λ j. if c1 j
      then (same_kind (kind j) k.Int && not (nat_eq (is j) 65535) && is_int_merge (slice_get code.blocks (is j)))
      else nat_eq cv.merge 65535)
      ∙ (λ j. not (apart j) && is_int_merge (there j))

  var_well : (before rest passed : List Declaration) (x : SharedDeclaration) → all ≡ before ++ rest
      → ((e : Declaration) → Among passed e → Among before e) → SharedTyped passed x → name_formed x.name ≡ true
      → is_var code (var_of all (variable_behind before x)) ≡ true
  var_well before rest passed x whole sub ty formed =
      let cv : CodeVar = var_of all (variable_behind before x) in
      let a = name_well x.name.text formed in
      let b = size_well x.size ty.size in
      let c = start_well x.holds x.first ty.first in
      let d = merges_are before rest passed x whole sub x.by x.holds ty.by cv refl refl refl in
      λ j. a j && b j && c j && d j

  pub vars_well : (before rest passed : List Declaration) → all ≡ before ++ rest
      → ((e : Declaration) → Among passed e → Among before e) → DeclarationsTyped outer inner passed rest
      → IsTrue (list_all declaration_small rest)
      → list_all (is_var code) (map (var_of all) (variables_behind before rest)) ≡ true
  vars_well before [] passed whole sub ty small = refl
  vars_well before (shared x ∷ es) passed whole sub ty small =
      let smalls = and_parts (declaration_small (shared x)) (list_all declaration_small es) small in
      let f1 = and_parts (name_formed x.name && by_formed x.by && size_formed x.size) (first_formed x.first) smalls.0 in
      let f2 = and_parts (name_formed x.name && by_formed x.by) (size_formed x.size) f1.0 in
      let f3 = and_parts (name_formed x.name) (by_formed x.by) f2.0 in
      both (is_var code (var_of all (variable_behind before x)))
      (list_all (is_var code) (map (var_of all) (variables_behind (before ++ shared x ∷ []) es)))
      (var_well before (shared x ∷ es) passed x whole sub ty.0 f3.0)
      (vars_well (before ++ shared x ∷ []) es (shared x ∷ passed) (whole ∙ sym (append_assoc before (shared x ∷ []) es))
      (more_among passed before (shared x) sub) ty.1 smalls.1)
  vars_well before (fun w ps r body ∷ es) passed whole sub ty small =
      let smalls = and_parts (declaration_small (fun w ps r body)) (list_all declaration_small es) small in
      vars_well (before ++ fun w ps r body ∷ []) es (fun w ps r body ∷ passed)
      (whole ∙ sym (append_assoc before (fun w ps r body ∷ []) es)) (more_among passed before (fun w ps r body) sub)
      ty.1 smalls.1
  vars_well before (merge w m j r body ∷ es) passed whole sub ty small =
      let smalls = and_parts (declaration_small (merge w m j r body)) (list_all declaration_small es) small in
      vars_well (before ++ merge w m j r body ∷ []) es (merge w m j r body ∷ passed)
      (whole ∙ sym (append_assoc before (merge w m j r body ∷ []) es))
      (more_among passed before (merge w m j r body) sub) ty.1 smalls.1
  vars_well before (proc w ps r body ∷ es) passed whole sub ty small =
      let smalls = and_parts (declaration_small (proc w ps r body)) (list_all declaration_small es) small in
      vars_well (before ++ proc w ps r body ∷ []) es (proc w ps r body ∷ passed)
      (whole ∙ sym (append_assoc before (proc w ps r body ∷ []) es)) (more_among passed before (proc w ps r body) sub)
      ty.1 smalls.1

-- ---- locations

cells_are : (all before es : List Declaration)
    → sum_by (λ (v : CodeVar). v.cells) (map (var_of all) (variables_behind before es)) ≡ cells es
cells_are all before [] = refl
cells_are all before (shared x ∷ es) =
    sum_by-cons (λ (v : CodeVar). v.cells) (var_of all (variable_behind before x))
    (map (var_of all) (variables_behind (before ++ shared x ∷ []) es))
    ∙ ap (λ z. cells_of x.size + z) (cells_are all (before ++ shared x ∷ []) es)
cells_are all before (fun w ps r body ∷ es) = cells_are all (before ++ fun w ps r body ∷ []) es
cells_are all before (merge w m j r body ∷ es) = cells_are all (before ++ merge w m j r body ∷ []) es
cells_are all before (proc w ps r body ∷ es) = cells_are all (before ++ proc w ps r body ∷ []) es

pub locations_are : (all before es : List Declaration)
    → locations (map (var_of all) (variables_behind before es)) ≡ cells es
locations_are all before es =
    sum-map (λ (v : CodeVar). v.cells) (map (var_of all) (variables_behind before es)) ∙ cells_are all before es

pub vars_few : (outer inner : Names) (all before es passed : List Declaration) → DeclarationsTyped outer inner passed es
    → length (map (var_of all) (variables_behind before es)) ≤ cells es
vars_few outer inner all before [] passed ty = omega arith
vars_few outer inner all before (shared x ∷ es) passed ty =
    let r = vars_few outer inner all (before ++ shared x ∷ []) es (shared x ∷ passed) ty.1 in
    let s = some_cells x.size ty.0.size in
    omega (arith, r, s)
vars_few outer inner all before (fun w ps r body ∷ es) passed ty =
    vars_few outer inner all (before ++ fun w ps r body ∷ []) es (fun w ps r body ∷ passed) ty.1
vars_few outer inner all before (merge w m j r body ∷ es) passed ty =
    vars_few outer inner all (before ++ merge w m j r body ∷ []) es (merge w m j r body ∷ passed) ty.1
vars_few outer inner all before (proc w ps r body ∷ es) passed ty =
    vars_few outer inner all (before ++ proc w ps r body ∷ []) es (proc w ps r body ∷ passed) ty.1
