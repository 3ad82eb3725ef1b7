-- Answers of counted_merge_value: the merge's number leads to its declaration, which has its value and its weight.
use Rattle.std.proofs.Common.{◌≡◌, ◌∙◌, ◌<◌, ℕ, List, length, ap, sym, map, get_or, slice_get, Some, None, w64, arith}
use Rattle.std.proofs.lemmas.Int.{to_z-of_z}
use Rattle.rev_syntax.specs.View.{declaration, program as whole}
use Rattle.rev_num.specs.declared.value.Value.TheVariants as v
use Rattle.typed_programs.specs.Evaluation.{merge_answer, declaration_value}
use Rattle.typed_programs.specs.FunRules.{merge_decls}
use Rattle.typed_programs.specs.declared.expanded.Expanded.{Expanded}
use Rattle.typed_programs.specs.declared.expanded.MergeRef.{MergeRef}
use Rattle.rev_evaluator.specs.Declarations.{declared_by}
use Rattle.rev_evaluator.proofs.Weighed.{merge_weighs}
use Rattle.rev_evaluator.proofs.Meanings.{declared_value, merge_number}
use Rattle.rev_evaluator.proofs.merge.counted_merge_value.Goals as goal

-- the declaration of the merge that is asked for
listed : (x : Expanded) (ms : List MergeRef) (k : ℕ) → ms ≡ x.merges → k < length x.merges
    → slice_get (merge_decls 0 (map declaration x.program.decls.items)) k
    ≡ Some ((get_or {A = MergeRef} ms k (record { decl = 0 })).decl)
listed x ms k e h =
    ap (λ ds. slice_get ds k) (sym x.merges_listed) ∙ merge_number x.merges k (record { decl = 0 }) h
    ∙ ap (λ l. Some ((get_or {A = MergeRef} l k (record { decl = 0 })).decl)) (sym e)

pub returns-in-Some-clause-answer : goal.returns-in-Some-clause-answer
returns-in-Some-clause-answer c =
    let g = declared_value (whole c.args.expanded.now.program) c.args.merge _ (Some (declaration c.in-Some.decl.now))
    (v.Int c.args.main) (v.Int c.args.join) (v.Int c.args.root)
    (listed c.args.expanded.now c.as_slice-merges.result.now c.args.merge c.as_slice-merges.ensures c.requires.declared)
    c.in-Some.ensures in
    let e : declaration c.in-Some.decl.now ≡ g.0 = (let h = g.1 in cc) in
    c.merged.ensures.answer
    ∙ (λ i. merge_answer (declaration_value (declared_by c.args.expanded.now)
    (get_or {A = MergeRef} c.as_slice-merges.result.now c.args.merge (record { decl = 0 })).decl (e i)
    (v.Int (to_z-of_z w64 c.args.main c.ranges.main i)) (v.Int (to_z-of_z w64 c.args.join c.ranges.join i))
    (v.Int (to_z-of_z w64 c.args.root c.ranges.root i))))
    ∙ ap merge_answer g.2

pub returns-in-None-clause-answer : goal.returns-in-None-clause-answer
returns-in-None-clause-answer c =
    let g = declared_value (whole c.args.expanded.now.program) c.args.merge _ None (v.Int c.args.main)
    (v.Int c.args.join) (v.Int c.args.root)
    (listed c.args.expanded.now c.as_slice-merges.result.now c.args.merge c.as_slice-merges.ensures c.requires.declared)
    c.in-None.ensures in
    let e = g.1 in cc

pub returns-in-Some-clause-work : goal.returns-in-Some-clause-work
returns-in-Some-clause-work c =
    let e = merge_weighs (whole c.args.expanded.now.program) c.args.merge _ (declaration c.in-Some.decl.now)
    (listed c.args.expanded.now c.as_slice-merges.result.now c.args.merge c.as_slice-merges.ensures c.requires.declared)
    c.in-Some.ensures in
    let w = c.merged.ensures.work in
    omega arith
