-- The tables of the code of a small, well-typed program are well and within all limits.
use Rattle.std.proofs.Common.{◌≡◌, ◌<◌, ◌≤◌, ℕ, suc, ◌+◌, Bool, true, false, ◌&&◌, IsTrue, List, [], ◌∷◌, ◌++◌, length, length-append, map, Option, Some, None, refl, arith}
use Rattle.std.specs.Prelude.{nat_le, if◌then◌else◌}
use Rattle.std.specs.List.{list_all}
use Rattle.std.proofs.lemmas.Bool.Decides.{nat_tests}
use Rattle.rev_num.specs.declared.value.ValueKind.{ValueKind}
use Rattle.rev_syntax.specs.Trees.{Parameter, Expression, Statements, Declaration, fun, merge, shared, proc, ProgramTree}
use Rattle.rev_syntax.specs.Small.{name_formed, parameter_formed, expression_count, statements_count, declarations_count, count, statements_small, declaration_small, IsSmall}
use Rattle.name_tables.specs.Table.{Table}
use Rattle.typed_programs.specs.Weights.{weights_with}
use Rattle.typed_programs.specs.Kinds.{Names}
use Rattle.typed_programs.proofs.Lists.{and_parts}
use Rattle.typed_programs.specs.Accepted.{IsWellTyped}
use Rattle.typed_programs.specs.Limits.{procs, statements_lets, BodyWithin, DeclarationsWithin}
use Rattle.typed_programs.specs.Layout.{variables_behind, variables}
use Rattle.typed_programs.specs.Scopes as scopes
use Rattle.typed_programs.specs.Scopes.{outside, within}
use Rattle.rev_code.specs.declared.code.CodeBlock.{CodeBlock}
use Rattle.rev_code.specs.Step.{is_procedure}
use Rattle.code_rules.specs.Pass.{is_value_class}
use Rattle.rev_code.specs.declared.code.Instr.TheVariants as i
use Rattle.code_rules.specs.Tables.{is_text_byte, is_item, is_small_text, is_small_layout, is_small_block, has_small_name, is_var, blocks_well, lines_well, names_well, is_small, locations, count_class}
use Rattle.code_generation.proofs.Naming.{values_count}
use Rattle.code_generation.specs.Numbers.{Numbers, numbers, Scope, with_params}
use Rattle.code_generation.specs.Expressions.{expression_code}
use Rattle.code_generation.specs.Sizes.{statements_prints}
use Rattle.code_generation.specs.Statements.{statements_code}
use Rattle.code_generation.specs.Prints.{statements_kinds, statements_texts, statements_layouts}
use Rattle.code_generation.specs.Generated.{kinds_of, var_of, zero_code, ends_in_return, end_code, body_code, body_locals, fun_block, merge_block, proc_block, main_block, merge_scope, value_blocks, body_blocks, texts_of, layouts_of, code_of}
use Rattle.code_generation.proofs.Lengths.{expression_length, statements_length, statements_locals, statements_prints_length}
use Rattle.code_generation.proofs.BlockRules.{blocks_are_well, blocks_are_counted, both, kinds_length}
use Rattle.generated_certificates.proofs.Names.{all_both}
use Rattle.generated_certificates.proofs.Counts.{size_few, statements_few, prints_few, texts_few}
use Rattle.generated_certificates.proofs.Lines.{text_fits, layout_fits, texts_fit, layouts_fit}
use Rattle.generated_certificates.proofs.Variables.{vars_well, locations_are, vars_few}

-- ---- tests

all_left : {A : Type 0} (f g : A → Bool) (xs : List A) → list_all (λ x. f x && g x) xs ≡ true → list_all f xs ≡ true
all_left f g [] h = refl
all_left f g (x ∷ xs) h =
    let p = and_parts (f x && g x) (list_all (λ y. f y && g y) xs) h in
    both (f x) (list_all f xs) (and_parts (f x) (g x) p.0).0 (all_left f g xs p.1)

all_right : {A : Type 0} (f g : A → Bool) (xs : List A) → list_all (λ x. f x && g x) xs ≡ true → list_all g xs ≡ true
all_right f g [] h = refl
all_right f g (x ∷ xs) h =
    let p = and_parts (f x && g x) (list_all (λ y. f y && g y) xs) h in
    both (g x) (list_all g xs) (and_parts (f x) (g x) p.0).1 (all_right f g xs p.1)

at_most : (m n : ℕ) → m ≤ n → nat_le m n ≡ true
at_most m n h = grind (arith, nat_tests, h)

-- ---- blocks

block_small : (b : CodeBlock) → b.params ≤ 8 → length b.locals ≤ 64 → length b.instrs ≤ 4294967295
    → is_small_block b ≡ true
block_small b p l s =
    let x = at_most b.params 8 p in
    let y = at_most (length b.locals) 64 l in
    let z = at_most (length b.instrs) 4294967295 s in
    λ j. x j && y j && z j

value_instrs : (n : Numbers) (scope : Scope) (e : Expression) → expression_count e ≤ 16777216
    → length (expression_code n scope e 0 ++ i.Return ∷ []) ≤ 4294967295
value_instrs n scope e h =
    let a = length-append (expression_code n scope e 0) (i.Return ∷ []) in
    let z = expression_length n scope e 0 in
    let r = size_few e in
    omega (arith, a, z, r, h)

pub end_few : (r : Option ValueKind) (body : Statements) → length (end_code r body) ≤ 2
end_few None body = omega arith
end_few (Some kind) body = by (ends_in_return body)
  where
    by : (d : Bool) → length (if d then [] else zero_code kind ∷ i.Return ∷ []) ≤ 2
    by true = omega arith
    by false = omega arith

body_instrs : (n : Numbers) (ps : List Parameter) (r : Option ValueKind) (body : Statements) (layout : ℕ)
    → statements_count body ≤ 16777216 → length (body_code n ps r body layout) ≤ 4294967295
body_instrs n ps r body layout h =
    let a = length-append
    (statements_code n (with_params [] 0 ps) body (record { at = 0; local = length ps; layout = layout }))
    (end_code r body) in
    let z = statements_length n (with_params [] 0 ps) body (record { at = 0; local = length ps; layout = layout }) in
    let s = statements_few n body in
    let e = end_few r body in
    omega (arith, a, z, s, e, h)

locals_few : (c : Names) (ps : List Parameter) (body : Statements) → length ps + statements_lets body ≤ 64
    → length (body_locals c ps body) ≤ 64
locals_few c ps body h =
    let a = length-append (kinds_of ps) (statements_kinds c (scopes.with_params [] ps) body) in
    let z = kinds_length ps in
    let s = statements_locals c (scopes.with_params [] ps) body in
    omega (arith, a, z, s, h)

values_small : (n : Numbers) (ws : Table ℕ) (es : List Declaration) → DeclarationsWithin ws es
    → declarations_count es ≤ 16777216 → list_all is_small_block (value_blocks n es) ≡ true
values_small n ws [] lim few = refl
values_small n ws (fun w ps r body ∷ es) lim few =
    let params = lim.0.0 in
    let z = kinds_length ps in
    both (is_small_block (fun_block n ps r body)) (list_all is_small_block (value_blocks n es))
    (block_small (fun_block n ps r body) params (omega (arith, z, params))
    (value_instrs n (with_params [] 0 ps) body (omega (arith, few))))
    (values_small n (weights_with ws (fun w ps r body)) es lim.1 (omega (arith, few)))
values_small n ws (merge w m j r body ∷ es) lim few =
    both (is_small_block (merge_block n m j r body)) (list_all is_small_block (value_blocks n es))
    (block_small (merge_block n m j r body) (omega arith) (omega arith)
    (value_instrs n (merge_scope m j r) body (omega (arith, few))))
    (values_small n ws es lim.1 (omega (arith, few)))
values_small n ws (shared x ∷ es) lim few = values_small n ws es lim.1 (omega (arith, few))
values_small n ws (proc w ps r body ∷ es) lim few = values_small n ws es lim.1 (omega (arith, few))

bodies_small : (n : Numbers) (c : Names) (ws : Table ℕ) (es : List Declaration) (main : Statements) (layout : ℕ)
    → DeclarationsWithin ws es → BodyWithin 0 main → declarations_count es + statements_count main ≤ 16777216
    → list_all is_small_block (body_blocks n c es main layout) ≡ true
bodies_small n c ws [] main layout lim last few =
    both (is_small_block (main_block n c main layout)) true
    (block_small (main_block n c main layout) (omega arith) (locals_few c [] main last.0)
    (body_instrs n [] None main layout (omega (arith, few))))
    refl
bodies_small n c ws (proc w ps r body ∷ es) main layout lim last few =
    both (is_small_block (proc_block n c ps r body layout))
    (list_all is_small_block (body_blocks n c es main (layout + statements_prints body)))
    (block_small (proc_block n c ps r body layout) lim.0.0 (locals_few c ps body lim.0.1.0)
    (body_instrs n ps r body layout (omega (arith, few))))
    (bodies_small n c ws es main (layout + statements_prints body) lim.1 last (omega (arith, few)))
bodies_small n c ws (fun w ps r body ∷ es) main layout lim last few =
    bodies_small n c (weights_with ws (fun w ps r body)) es main layout lim.1 last (omega (arith, few))
bodies_small n c ws (merge w m j r body ∷ es) main layout lim last few =
    bodies_small n c ws es main layout lim.1 last (omega (arith, few))
bodies_small n c ws (shared x ∷ es) main layout lim last few =
    bodies_small n c ws es main layout lim.1 last (omega (arith, few))

bodies_count : (n : Numbers) (c : Names) (es : List Declaration) (main : Statements) (layout : ℕ)
    → length (body_blocks n c es main layout) ≡ suc (procs es)
bodies_count n c [] main layout = refl
bodies_count n c (proc w ps r body ∷ es) main layout =
    let r = bodies_count n c es main (layout + statements_prints body) in omega (arith, r)
bodies_count n c (fun w ps r body ∷ es) main layout = bodies_count n c es main layout
bodies_count n c (merge w m j r body ∷ es) main layout = bodies_count n c es main layout
bodies_count n c (shared x ∷ es) main layout = bodies_count n c es main layout

-- ---- names

names_small : (all before es : List Declaration) → declarations_count es ≤ 16777216
    → list_all has_small_name (map (var_of all) (variables_behind before es)) ≡ true
names_small all before [] few = refl
names_small all before (shared x ∷ es) few =
    both (nat_le (length x.name.text) 4294967295)
    (list_all has_small_name (map (var_of all) (variables_behind (before ++ shared x ∷ []) es)))
    (at_most (length x.name.text) 4294967295 (omega (arith, few)))
    (names_small all (before ++ shared x ∷ []) es (omega (arith, few)))
names_small all before (fun w ps r body ∷ es) few =
    names_small all (before ++ fun w ps r body ∷ []) es (omega (arith, few))
names_small all before (merge w m j r body ∷ es) few =
    names_small all (before ++ merge w m j r body ∷ []) es (omega (arith, few))
names_small all before (proc w ps r body ∷ es) few =
    names_small all (before ++ proc w ps r body ∷ []) es (omega (arith, few))

-- ---- texts and layouts

texts_well : (es : List Declaration) (main : Statements) → IsTrue (list_all declaration_small es)
    → IsTrue (statements_small main) → declarations_count es + statements_count main ≤ 16777216
    → list_all text_fits (texts_of es main) ≡ true
texts_well [] main small main_small few = texts_fit 16777216 (omega arith) main main_small (omega (arith, few))
texts_well (proc w ps r body ∷ es) main small main_small few =
    let s = and_parts (declaration_small (proc w ps r body)) (list_all declaration_small es) small in
    let b = (and_parts (name_formed w && list_all parameter_formed ps) (statements_small body) s.0).1 in
    all_both text_fits (statements_texts body) (texts_of es main)
    (texts_fit 16777216 (omega arith) body b (omega (arith, few)))
    (texts_well es main s.1 main_small (omega (arith, few)))
texts_well (fun w ps r body ∷ es) main small main_small few =
    texts_well es main (and_parts (declaration_small (fun w ps r body)) (list_all declaration_small es) small).1
    main_small (omega (arith, few))
texts_well (merge w m j r body ∷ es) main small main_small few =
    texts_well es main (and_parts (declaration_small (merge w m j r body)) (list_all declaration_small es) small).1
    main_small (omega (arith, few))
texts_well (shared x ∷ es) main small main_small few =
    texts_well es main (and_parts (declaration_small (shared x)) (list_all declaration_small es) small).1 main_small
    (omega (arith, few))

pub texts_count : (es : List Declaration) (main : Statements)
    → length (texts_of es main) ≤ declarations_count es + statements_count main
texts_count [] main = let r = texts_few main in omega (arith, r)
texts_count (proc w ps r body ∷ es) main =
    let a = length-append (statements_texts body) (texts_of es main) in
    let r = texts_few body in
    let s = texts_count es main in
    omega (arith, a, r, s)
texts_count (fun w ps r body ∷ es) main = let s = texts_count es main in omega (arith, s)
texts_count (merge w m j r body ∷ es) main = let s = texts_count es main in omega (arith, s)
texts_count (shared x ∷ es) main = let s = texts_count es main in omega (arith, s)

layouts_well : (all : ℕ) (c : Names) (texts : ℕ) (ws : Table ℕ) (es : List Declaration) (main : Statements)
    → DeclarationsWithin ws es → BodyWithin 0 main → texts + length (texts_of es main) ≤ all
    → list_all (layout_fits all) (layouts_of c texts es main) ≡ true
layouts_well all c texts ws [] main lim last h = layouts_fit all c [] texts main last.1 h
layouts_well all c texts ws (proc w ps r body ∷ es) main lim last h =
    let a = length-append (statements_texts body) (texts_of es main) in
    all_both (layout_fits all) (statements_layouts c (scopes.with_params [] ps) texts body)
    (layouts_of c (texts + length (statements_texts body)) es main)
    (layouts_fit all c (scopes.with_params [] ps) texts body lim.0.1.1 (omega (arith, a, h)))
    (layouts_well all c (texts + length (statements_texts body)) ws es main lim.1 last (omega (arith, a, h)))
layouts_well all c texts ws (fun w ps r body ∷ es) main lim last h =
    layouts_well all c texts (weights_with ws (fun w ps r body)) es main lim.1 last h
layouts_well all c texts ws (merge w m j r body ∷ es) main lim last h = layouts_well all c texts ws es main lim.1 last h
layouts_well all c texts ws (shared x ∷ es) main lim last h = layouts_well all c texts ws es main lim.1 last h

pub layouts_count : (c : Names) (texts : ℕ) (es : List Declaration) (main : Statements)
    → length (layouts_of c texts es main) ≤ declarations_count es + statements_count main
layouts_count c texts [] main =
    let z = statements_prints_length c [] texts main in let r = prints_few main in omega (arith, z, r)
layouts_count c texts (proc w ps r body ∷ es) main =
    let a = length-append (statements_layouts c (scopes.with_params [] ps) texts body)
    (layouts_of c (texts + length (statements_texts body)) es main) in
    let z = statements_prints_length c (scopes.with_params [] ps) texts body in
    let r = prints_few body in
    let s = layouts_count c (texts + length (statements_texts body)) es main in
    omega (arith, a, z, r, s)
layouts_count c texts (fun w ps r body ∷ es) main = let s = layouts_count c texts es main in omega (arith, s)
layouts_count c texts (merge w m j r body ∷ es) main = let s = layouts_count c texts es main in omega (arith, s)
layouts_count c texts (shared x ∷ es) main = let s = layouts_count c texts es main in omega (arith, s)

-- ---- all tables

module _ (p : ProgramTree) (small : IsSmall p) (well : IsWellTyped p) where
  abbrev outer : Names
  outer = outside p.declarations

  pub parts_few : declarations_count p.declarations + statements_count p.main ≤ 16777216
  parts_few = let q : count p < 16777216 = small.few in omega (arith, q)

  texts_ok : list_all text_fits (texts_of p.declarations p.main) ≡ true
  texts_ok = texts_well p.declarations p.main small.declarations small.main parts_few

  layouts_ok :
      list_all (layout_fits (length (texts_of p.declarations p.main))) (layouts_of outer 0 p.declarations p.main) ≡ true
  layouts_ok = layouts_well (length (texts_of p.declarations p.main)) outer 0 [] p.declarations p.main
      well.within.declarations well.within.main (omega arith)

  pub names_are_well : names_well (code_of p) ≡ true
  names_are_well =
      let tail : List CodeBlock = body_blocks (numbers p) outer p.declarations p.main 0 in
      let a = blocks_are_well p in
      let b = vars_well outer (within p.declarations) (code_of p) (numbers p) p.declarations tail refl
      well.within.declared_funs [] p.declarations [] refl (λ e h. h) well.typed.declarations small.declarations in
      let c = all_left (list_all is_text_byte) is_small_text (texts_of p.declarations p.main) texts_ok in
      let d = all_left (list_all (is_item (length (texts_of p.declarations p.main)))) is_small_layout
      (layouts_of outer 0 p.declarations p.main) layouts_ok in
      both (blocks_well (code_of p) && list_all (is_var (code_of p)) (code_of p).vars) (lines_well (code_of p))
      (both (blocks_well (code_of p)) (list_all (is_var (code_of p)) (code_of p).vars) a b)
      (both (list_all (list_all is_text_byte) (code_of p).texts)
      (list_all (list_all (is_item (length (code_of p).texts))) (code_of p).layouts) c d)

  pub code_is_small : is_small (code_of p) ≡ true
  code_is_small =
      let es : List Declaration = p.declarations in
      let tail : List CodeBlock = body_blocks (numbers p) outer es p.main 0 in
      let few = parts_few in
      let counted = blocks_are_counted p in
      let c0 = counted.0 in
      let c1 = counted.1 in
      let w0 = well.within.locations in
      let w1 = well.within.procedures in
      let w2 = well.within.declared_funs in
      let locs = locations_are es [] es in
      let vs = vars_few outer (within es) es [] es [] well.typed.declarations in
      let bs = length-append (value_blocks (numbers p) es) tail in
      let b1 = values_count (numbers p) es in
      let b2 = bodies_count (numbers p) outer es p.main 0 in
      let ts = texts_count es p.main in
      let ls = layouts_count outer 0 es p.main in
      let x1 = at_most (locations (code_of p).vars) 4096 (omega (arith, locs, w0)) in
      let x2 = at_most (count_class is_procedure (code_of p).blocks) 256 (omega (arith, c1, w1)) in
      let x3 = at_most (count_class is_value_class (code_of p).blocks) 256 (omega (arith, c0, w2)) in
      let x4 = at_most (length (value_blocks (numbers p) es ++ tail)) 65535 (omega (arith, bs, b1, b2, w1, w2)) in
      let x5 = all_both is_small_block (value_blocks (numbers p) es) tail
      (values_small (numbers p) [] es well.within.declarations (omega (arith, few)))
      (bodies_small (numbers p) outer [] es p.main 0 well.within.declarations well.within.main few) in
      let x6 = all_right (list_all (is_item (length (texts_of es p.main)))) is_small_layout
      (layouts_of outer 0 es p.main) layouts_ok in
      let x7 = at_most (length (map (var_of es) (variables p))) 65535 (omega (arith, vs, w0)) in
      let x8 = names_small es [] es (omega (arith, few)) in
      let x9 = at_most (length (texts_of es p.main)) 4294967295 (omega (arith, ts, few)) in
      let x10 = all_right (list_all is_text_byte) is_small_text (texts_of es p.main) texts_ok in
      let x11 = at_most (length (layouts_of outer 0 es p.main)) 4294967295 (omega (arith, ls, few)) in
      λ j. x1 j && x2 j && x3 j && x4 j && x5 j && x6 j && x7 j && x8 j && x9 j && x10 j && x11 j
