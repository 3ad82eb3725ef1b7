-- Answers of merged: the three parameters are bound to the three numbers, and other declarations are no merge.
use Rattle.std.proofs.Common.{◌∙◌, ap, refl, sym, w64}
use Rattle.std.proofs.lemmas.Int.{to_z-of_z}
use Rattle.rev_syntax.specs.View.{declaration, expression}
use Rattle.rev_num.specs.declared.value.Value.TheVariants as v
use Rattle.typed_programs.specs.Evaluation as meant
use Rattle.typed_programs.specs.Value.{closed}
use Rattle.rev_evaluator.specs.Declarations.{declared_by}
use Rattle.rev_evaluator.proofs.Evaluations.{bound_three}
use Rattle.rev_evaluator.proofs.Meanings.{no_merge}
use Rattle.rev_evaluator.proofs.Bindings.{local-Empty}
use Rattle.rev_evaluator.proofs.merge.merged.Goals as goal

pub returns-in-Merge-clause-answer : goal.returns-in-Merge-clause-answer
unfolding meant.declaration_value
returns-in-Merge-clause-answer c =
    c.with_two.ensures.answer
    ∙ ap (λ l.
    meant.merge_answer
    (meant.value_within (declared_by c.args.expanded.now) c.args.number (closed l) (expression c.in-Merge.body)))
    (bound_three _ _ _ _ c.in-Merge.of_main.text.items c.in-Merge.of_join.text.items c.in-Merge.of_root.text.items _ _ _
    (v.Int c.args.main) (v.Int c.args.join) (v.Int c.args.root)
    local-Empty c.bound-locals.ensures refl refl
    (ap v.Int (to_z-of_z w64 c.args.main c.ranges.main)) (ap v.Int (to_z-of_z w64 c.args.join c.ranges.join))
    (ap v.Int (to_z-of_z w64 c.args.root c.ranges.root)))
    ∙ ap (λ d.
    meant.merge_answer (meant.declaration_value (declared_by c.args.expanded.now) c.args.number (declaration d)
    (v.Int c.args.main) (v.Int c.args.join) (v.Int c.args.root)))
    (sym c.in-Merge.is)

pub returns-in_default-clause-answer : goal.returns-in_default-clause-answer
returns-in_default-clause-answer c =
    ap meant.merge_answer (no_merge (declared_by c.args.expanded.now) c.args.number c.args.decl.now (v.Int c.args.main)
    (v.Int c.args.join) (v.Int c.args.root) c.in_default.not-Merge)
