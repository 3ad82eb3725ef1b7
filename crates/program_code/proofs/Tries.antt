-- Code has at most as many `TryJoin` as instructions, and the code of a small program has fewer than a file can count.
use Rattle.std.proofs.Common.{◌≤◌, ◌<◌, ℕ, ◌+◌, ◌*◌, Option, None, List, [], ◌∷◌, ◌++◌, length, length-append, arith}
use Rattle.std.proofs.lemmas.List.Sums.{sum_by-cons, sum_by-append}
use Rattle.rev_num.specs.declared.value.ValueKind.{ValueKind}
use Rattle.rev_syntax.specs.Trees.{Parameter, Expression, Statements, Declaration, fun, merge, shared, proc, ProgramTree}
use Rattle.rev_syntax.specs.Small.{expression_count, statements_count, declarations_count, count, IsSmall}
use Rattle.typed_programs.specs.Kinds.{Names}
use Rattle.typed_programs.specs.Scopes.{outside}
use Rattle.rev_code.specs.declared.code.CodeBlock.{CodeBlock}
use Rattle.rev_code.specs.declared.code.Instr.{Instr}
use Rattle.rev_code.specs.declared.code.Instr.TheVariants as i
use Rattle.code_file.specs.Parts.{try_count, tries_in, tries}
use Rattle.code_generation.specs.Numbers.{Numbers, numbers, Scope, with_params}
use Rattle.code_generation.specs.Expressions.{expression_code}
use Rattle.code_generation.specs.Sizes.{statements_prints}
use Rattle.code_generation.specs.Statements.{statements_code}
use Rattle.code_generation.specs.Generated.{end_code, body_code, fun_block, merge_block, proc_block, main_block, merge_scope, value_blocks, body_blocks, code_of}
use Rattle.code_generation.proofs.Lengths.{expression_length, statements_length}
use Rattle.generated_certificates.proofs.Counts.{size_few, statements_few}
use Rattle.generated_certificates.proofs.Small.{end_few}

-- ---- at most as many as instructions

one_at_most : (x : Instr) → try_count x ≤ 1
one_at_most i.TryJoin = omega arith
one_at_most _ = omega arith

tries_in_few : (xs : List Instr) → tries_in xs ≤ length xs
tries_in_few [] = omega arith
tries_in_few (x ∷ xs) =
    let a = sum_by-cons try_count x xs in
    let b = one_at_most x in
    let c = tries_in_few xs in
    omega (arith, a, b, c)

tries_more : (b : CodeBlock) (bs : List CodeBlock) (m n : ℕ) → length b.instrs ≤ m → tries bs ≤ n
    → tries (b ∷ bs) ≤ m + n
tries_more b bs m n h k =
    let a = sum_by-cons (λ (x : CodeBlock). tries_in x.instrs) b bs in
    let c = tries_in_few b.instrs in
    omega (arith, a, c, h, k)

-- ---- at most five instructions for each part

value_few : (n : Numbers) (scope : Scope) (e : Expression)
    → length (expression_code n scope e 0 ++ i.Return ∷ []) ≤ 5 * expression_count e
value_few n scope e =
    let a = length-append (expression_code n scope e 0) (i.Return ∷ []) in
    let z = expression_length n scope e 0 in
    let r = size_few e in
    omega (arith, a, z, r)

body_few : (n : Numbers) (ps : List Parameter) (r : Option ValueKind) (body : Statements) (layout : ℕ)
    → length (body_code n ps r body layout) ≤ 5 * statements_count body + 2
body_few n ps r body layout =
    let a = length-append
    (statements_code n (with_params [] 0 ps) body (record { at = 0; local = length ps; layout = layout }))
    (end_code r body) in
    let z = statements_length n (with_params [] 0 ps) body (record { at = 0; local = length ps; layout = layout }) in
    let s = statements_few n body in
    let e = end_few r body in
    omega (arith, a, z, s, e)

values_few : (n : Numbers) (es : List Declaration) → tries (value_blocks n es) ≤ 5 * declarations_count es
values_few n [] = omega arith
values_few n (fun w ps r body ∷ es) =
    let h = tries_more (fun_block n ps r body) (value_blocks n es) (5 * expression_count body)
    (5 * declarations_count es) (value_few n (with_params [] 0 ps) body) (values_few n es) in
    omega (arith, h)
values_few n (merge w m j r body ∷ es) =
    let h = tries_more (merge_block n m j r body) (value_blocks n es) (5 * expression_count body)
    (5 * declarations_count es) (value_few n (merge_scope m j r) body) (values_few n es) in
    omega (arith, h)
values_few n (shared x ∷ es) = let h = values_few n es in omega (arith, h)
values_few n (proc w ps r body ∷ es) = let h = values_few n es in omega (arith, h)

bodies_few : (n : Numbers) (c : Names) (es : List Declaration) (main : Statements) (layout : ℕ)
    → tries (body_blocks n c es main layout) ≤ 5 * declarations_count es + (5 * statements_count main + 2)
bodies_few n c [] main layout =
    let h = tries_more (main_block n c main layout) [] (5 * statements_count main + 2) 0
    (body_few n [] None main layout) (omega arith) in
    omega (arith, h)
bodies_few n c (proc w ps r body ∷ es) main layout =
    let next : ℕ = layout + statements_prints body in
    let h = tries_more (proc_block n c ps r body layout) (body_blocks n c es main next) (5 * statements_count body + 2)
    (5 * declarations_count es + (5 * statements_count main + 2)) (body_few n ps r body layout)
    (bodies_few n c es main next) in
    omega (arith, h)
bodies_few n c (fun w ps r body ∷ es) main layout = let h = bodies_few n c es main layout in omega (arith, h)
bodies_few n c (merge w m j r body ∷ es) main layout = let h = bodies_few n c es main layout in omega (arith, h)
bodies_few n c (shared x ∷ es) main layout = let h = bodies_few n c es main layout in omega (arith, h)

-- ---- of the whole code

pub code_tries : (p : ProgramTree) → IsSmall p → tries (code_of p).blocks < 4294967296
code_tries p small =
    let front : List CodeBlock = value_blocks (numbers p) p.declarations in
    let tail : List CodeBlock = body_blocks (numbers p) (outside p.declarations) p.declarations p.main 0 in
    let q : count p < 16777216 = small.few in
    let a = sum_by-append (λ (x : CodeBlock). tries_in x.instrs) front tail in
    let b = values_few (numbers p) p.declarations in
    let c = bodies_few (numbers p) (outside p.declarations) p.declarations p.main 0 in
    omega (arith, q, a, b, c)
