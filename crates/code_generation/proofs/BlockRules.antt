-- The blocks of a program's code keep the rules on blocks.
use Rattle.std.proofs.Common.{◌≡◌, ◌≤◌, ℕ, suc, ◌+◌, Bool, true, false, not, ◌&&◌, List, [], ◌∷◌, ◌++◌, length, length-append, refl, sym, ap, arith, true≢false}
use Rattle.std.specs.Prelude.{nat_le, if◌then◌else◌}
use Rattle.std.specs.List.{list_all}
use Rattle.std.proofs.lemmas.Bool.Decides.{nat_tests}
use Rattle.rev_syntax.specs.Trees.{Parameter, Statements, Declaration, fun, merge, shared, proc, ProgramTree}
use Rattle.typed_programs.specs.Kinds.{Names}
use Rattle.typed_programs.specs.Limits.{procs, funs}
use Rattle.typed_programs.specs.Scopes as scopes
use Rattle.typed_programs.specs.Scopes.{outside}
use Rattle.rev_code.specs.declared.code.CodeBlock.{CodeBlock}
use Rattle.rev_code.specs.declared.code.BlockClass.{BlockClass}
use Rattle.rev_code.specs.Step.{is_procedure}
use Rattle.code_rules.specs.Pass.{is_value_class}
use Rattle.code_rules.specs.Tables.{is_main, ends_in_main, is_block, blocks_well, count_class}
use Rattle.code_generation.specs.Numbers.{Numbers, numbers}
use Rattle.code_generation.specs.Sizes.{statements_prints}
use Rattle.code_generation.specs.Prints.{statements_kinds}
use Rattle.code_generation.specs.Generated.{kinds_of, body_locals, fun_block, merge_block, proc_block, main_block, value_blocks, body_blocks, code_of}

pub both : (d q : Bool) → d ≡ true → q ≡ true → d && q ≡ true
both true q h e = e
both false q h e = absurd (true≢false (sym h))

-- ---- the last block is `main`

one_before : (b : CodeBlock) (bs : List CodeBlock) → is_main b.class ≡ false → ends_in_main bs ≡ true
    → ends_in_main (b ∷ bs) ≡ true
one_before b [] h e = absurd (true≢false (sym e))
one_before b (c ∷ bs) h e = both (not (is_main b.class)) (ends_in_main (c ∷ bs)) (ap not h) e

bodies_end : (n : Numbers) (c : Names) (es : List Declaration) (main : Statements) (layout : ℕ)
    → ends_in_main (body_blocks n c es main layout) ≡ true
bodies_end n c [] main layout = refl
bodies_end n c (proc w ps r body ∷ es) main layout =
    one_before (proc_block n c ps r body layout) (body_blocks n c es main (layout + statements_prints body)) refl
    (bodies_end n c es main (layout + statements_prints body))
bodies_end n c (fun w ps r body ∷ es) main layout = bodies_end n c es main layout
bodies_end n c (merge w m j r body ∷ es) main layout = bodies_end n c es main layout
bodies_end n c (shared x ∷ es) main layout = bodies_end n c es main layout

blocks_end : (n : Numbers) (es : List Declaration) (bs : List CodeBlock) → ends_in_main bs ≡ true
    → ends_in_main (value_blocks n es ++ bs) ≡ true
blocks_end n [] bs h = h
blocks_end n (fun w ps r body ∷ es) bs h =
    one_before (fun_block n ps r body) (value_blocks n es ++ bs) refl (blocks_end n es bs h)
blocks_end n (merge w m j r body ∷ es) bs h =
    one_before (merge_block n m j r body) (value_blocks n es ++ bs) refl (blocks_end n es bs h)
blocks_end n (shared x ∷ es) bs h = blocks_end n es bs h
blocks_end n (proc w ps r body ∷ es) bs h = blocks_end n es bs h

-- ---- each block fits its class

pub kinds_length : (ps : List Parameter) → length (kinds_of ps) ≡ length ps
kinds_length [] = refl
kinds_length (p ∷ ps) = ap suc (kinds_length ps)

fun_fits : (ps : List Parameter) → nat_le (length ps) (length (kinds_of ps)) ≡ true
fun_fits ps =
    let z = kinds_length ps in
    let q : length ps ≤ length (kinds_of ps) = omega (arith, z) in
    grind (arith, nat_tests, q)

body_fits : (c : Names) (ps : List Parameter) (body : Statements)
    → nat_le (length ps) (length (body_locals c ps body)) ≡ true
body_fits c ps body =
    let z = kinds_length ps in
    let a = length-append (kinds_of ps) (statements_kinds c (scopes.with_params [] ps) body) in
    let q : length ps ≤ length (body_locals c ps body) = omega (arith, z, a) in
    grind (arith, nat_tests, q)

values_fit : (n : Numbers) (es : List Declaration) (bs : List CodeBlock) → list_all is_block bs ≡ true
    → list_all is_block (value_blocks n es ++ bs) ≡ true
values_fit n [] bs h = h
values_fit n (fun w ps r body ∷ es) bs h =
    both (is_block (fun_block n ps r body)) (list_all is_block (value_blocks n es ++ bs)) (fun_fits ps)
    (values_fit n es bs h)
values_fit n (merge w m j r body ∷ es) bs h = values_fit n es bs h
values_fit n (shared x ∷ es) bs h = values_fit n es bs h
values_fit n (proc w ps r body ∷ es) bs h = values_fit n es bs h

bodies_fit : (n : Numbers) (c : Names) (es : List Declaration) (main : Statements) (layout : ℕ)
    → list_all is_block (body_blocks n c es main layout) ≡ true
bodies_fit n c [] main layout = both (is_block (main_block n c main layout)) true (body_fits c [] main) refl
bodies_fit n c (proc w ps r body ∷ es) main layout =
    both (is_block (proc_block n c ps r body layout))
    (list_all is_block (body_blocks n c es main (layout + statements_prints body))) (body_fits c ps body)
    (bodies_fit n c es main (layout + statements_prints body))
bodies_fit n c (fun w ps r body ∷ es) main layout = bodies_fit n c es main layout
bodies_fit n c (merge w m j r body ∷ es) main layout = bodies_fit n c es main layout
bodies_fit n c (shared x ∷ es) main layout = bodies_fit n c es main layout

pub blocks_are_well : (p : ProgramTree) → blocks_well (code_of p) ≡ true
blocks_are_well p =
    let bodies = body_blocks (numbers p) (outside p.declarations) p.declarations p.main 0 in
    both (ends_in_main (code_of p).blocks) (list_all is_block (code_of p).blocks)
    (blocks_end (numbers p) p.declarations bodies
    (bodies_end (numbers p) (outside p.declarations) p.declarations p.main 0))
    (values_fit (numbers p) p.declarations bodies
    (bodies_fit (numbers p) (outside p.declarations) p.declarations p.main 0))

-- ---- counts

count_both : (wanted : BlockClass → Bool) (bs cs : List CodeBlock)
    → count_class wanted (bs ++ cs) ≡ count_class wanted bs + count_class wanted cs
count_both wanted [] cs = omega arith
count_both wanted (b ∷ bs) cs = by (wanted b.class) (count_both wanted bs cs)
  where
    by : (d : Bool) → count_class wanted (bs ++ cs) ≡ count_class wanted bs + count_class wanted cs
        → (if d then suc (count_class wanted (bs ++ cs)) else count_class wanted (bs ++ cs))
        ≡ (if d then suc (count_class wanted bs) else count_class wanted bs) + count_class wanted cs
    by true h = omega (arith, h)
    by false h = h

values_are : (n : Numbers) (es : List Declaration)
    → (count_class is_value_class (value_blocks n es) ≡ funs es) × (count_class is_procedure (value_blocks n es) ≡ 0)
values_are n [] = (refl, refl)
values_are n (fun w ps r body ∷ es) = let z = values_are n es in (let a = z.0 in omega (arith, a), z.1)
values_are n (merge w m j r body ∷ es) = let z = values_are n es in (let a = z.0 in omega (arith, a), z.1)
values_are n (shared x ∷ es) = values_are n es
values_are n (proc w ps r body ∷ es) = values_are n es

bodies_are : (n : Numbers) (c : Names) (es : List Declaration) (main : Statements) (layout : ℕ)
    → (count_class is_value_class (body_blocks n c es main layout) ≡ 0)
    × (count_class is_procedure (body_blocks n c es main layout) ≡ procs es)
bodies_are n c [] main layout = (refl, refl)
bodies_are n c (proc w ps r body ∷ es) main layout =
    let z = bodies_are n c es main (layout + statements_prints body) in (z.0, let a = z.1 in omega (arith, a))
bodies_are n c (fun w ps r body ∷ es) main layout = bodies_are n c es main layout
bodies_are n c (merge w m j r body ∷ es) main layout = bodies_are n c es main layout
bodies_are n c (shared x ∷ es) main layout = bodies_are n c es main layout

pub blocks_are_counted : (p : ProgramTree)
    → (count_class is_value_class (code_of p).blocks ≡ funs p.declarations)
    × (count_class is_procedure (code_of p).blocks ≡ procs p.declarations)
blocks_are_counted p =
    let front = value_blocks (numbers p) p.declarations in
    let bodies = body_blocks (numbers p) (outside p.declarations) p.declarations p.main 0 in
    let a = values_are (numbers p) p.declarations in
    let z = bodies_are (numbers p) (outside p.declarations) p.declarations p.main 0 in
    let a0 = a.0 in
    let a1 = a.1 in
    let z0 = z.0 in
    let z1 = z.1 in
    let x = count_both is_value_class front bodies in
    let y = count_both is_procedure front bodies in
    (omega (arith, a0, z0, x), omega (arith, a1, z1, y))
