-- Answers of first_broken: the rule that is kept is the least of the one before and those that this use breaks.
use Rattle.std.proofs.Common.{◌∙◌, ap}
use Rattle.typed_programs.specs.FunRules as rule
use Rattle.typed_programs.specs.Least.{least}
use Rattle.name_tables.specs.Table.{find}
use Rattle.merge_decl.specs.Uses.{use_of}
use Rattle.merge_decl.proofs.FunSteps.{broken_step}
use Rattle.merge_decl.proofs.expand.first_broken.Goals as goal

pub loop-u-preserved : goal.loop-u-preserved
loop-u-preserved c =
    broken_step (λ name. find name c.args.table.now) c.args.uses.now c.loop-u.u-index c.u-item.result c.loop-u.best
    c.broken.result
    c.first-best.result _ c.loop-u-test.true c.u-item.is
    (c.broken.ensures ∙ ap (λ h. least rule.place rule.rank (rule.broken_by (use_of c.u-item.result) h))
    (c.find.ensures ∙ ap (λ n. find n c.args.table.now) c.deref.ensures.value))
    c.first-best.ensures c.loop-u.invariant
